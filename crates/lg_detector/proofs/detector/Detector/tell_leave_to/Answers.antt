use Rattle.std.proofs.Common.{◌≡◌, ℕ, ◌+◌, ◌<◌, List, get_or, length, set, ap, subst, sym, ◌∙◌}
use Rattle.std.proofs.lemmas.List.{length-set}
use Rattle.arrayvec.proofs.ArrayVecLemmas.{items-with_items}
use Rattle.arrayvec.specs.ArrayVec.{ArrayVec}
use Rattle.lg_detector.specs.declared.detector.leave.LeaveNotice.{LeaveNotice}
use Rattle.lg_detector.specs.declared.reply.Outgoing.{Outgoing}
use Rattle.lg_detector.specs.Meaning.Joining.{own_told, with_claims}
use Rattle.lg_detector.specs.Meaning.Leave.{leave_body}
use Rattle.lg_detector.proofs.LeaveTelling.{HaveToldLeave, told_none, told_one}
use Rattle.lg_detector.proofs.detector.Detector.tell_leave_to.Goals.{in-Some, in_default}
use Rattle.lg_detector.proofs.detector.Detector.tell_leave_to.Goals as goal

pub loop-index-preserved : goal.loop-index-preserved
loop-index-preserved c =
    let s = c.args.self.now in
    let told = c.args.told.now in
    let i = c.loop-index.index in
    let count = c.loop-index.count in
    let slots = c.loop-index.slots.items in
    let m = c.index-names-index.result in
    let within : i < length told = subst (λ (ns : List (List ℕ)). i < length ns) c.names-names.ensures.names c.loop-index-test.true in
    let named : m ≡ get_or told i m = c.index-names-index.is ∙ ap (λ (ns : List (List ℕ)). get_or ns i m) c.names-names.ensures.names in
    elim c.match-addr_near.branch [
      | in-Some w ↦ (
          let written = w.put.ensures ∙ ap (λ (n : LeaveNotice). with_claims w.in-Some.to n.version n.group n.sender (leave_body n.version) (own_told n.version n.own)) c.leave_notice-notice.ensures in
          let done = told_one s told i count slots m c.loop-index.invariant within named w.in-Some.to w.put.new.place (sym c.addr_near.ensures ∙ w.in-Some.is) written in
          let after = set w.deref_mut.result.now count w.put.new.place in
          let long = length-set w.deref_mut.result.now count w.put.new.place ∙ ap (λ (os : List Outgoing). length os) w.deref_mut.ensures.value in
          let items =
          ap (λ (os : List Outgoing). set os count w.put.new.place) (sym w.deref_mut.ensures.value)
          ∙ sym (items-with_items c.loop-index.slots after long)
          ∙ ap (λ (a : ArrayVec Outgoing). a.items) (sym w.slots-is) in
          let here : HaveToldLeave s told (i + 1) (count + 1) c.match-addr_near.slots.items = subst (HaveToldLeave s told (i + 1) (count + 1)) items done in
          subst (λ n. HaveToldLeave s told (i + 1) n c.match-addr_near.slots.items) (sym w.count-is) here)
      | in_default w ↦ (
          let done = told_none s told i count slots m c.loop-index.invariant within named (sym c.addr_near.ensures ∙ w.in_default.is) in
          let here : HaveToldLeave s told (i + 1) count c.match-addr_near.slots.items = subst (λ (a : ArrayVec Outgoing). HaveToldLeave s told (i + 1) count a.items) (sym w.slots-is) done in
          subst (λ n. HaveToldLeave s told (i + 1) n c.match-addr_near.slots.items) (sym w.count-is) here)
    ]
