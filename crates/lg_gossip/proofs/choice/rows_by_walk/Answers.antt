use Rattle.std.specs.Prelude.{option_copied}
use Rattle.std.proofs.Common.{◌<◌, length, not, take, inl, inr, ◌∙◌, ap, refl, arith}
use Rattle.std.specs.Prelude.{filter}
use Rattle.std.proofs.lemmas.Bool.{eq-eqb, ne_eqb}
use Rattle.std.proofs.lemmas.List.{take_all}
use Rattle.lg_gossip.specs.Meaning.Queue.{by_sends, is_beside, may_go}
use Rattle.lg_gossip.proofs.Choosing.{chooses, passes}
use Rattle.lg_gossip.proofs.choice.rows_by_walk.Goals as goal
use Rattle.lg_gossip.proofs.choice.rows_by_walk.Goals.{
  then-from-bound+then-index-passed_over,
  else-from-bound,
  else-from-bound-via-then-from-bound+else-index-passed_over,
  else-from-bound-via-else-from-bound,
}

pub loop-index-preserved : goal.loop-index-preserved
loop-index-preserved c =
    let buddy = (option_copied c.args.buddy) in
    let row = c.index.result.now in
    let index = c.loop-index.index in
    let room = c.room_beside-room.result in
    let first = c.loop-index.first.items in
    let within : index < length c.args.rows.now.items = omega (arith, c.loop-index-test.true, c.len-index-end.ensures.len) in
    let beside = ap (is_beside buddy) c.index.ensures
    ∙ c.index_of_buddy-passed_over.ensures index row within in
    elim c.if-from-bound.branch [
      | then-from-bound+then-index-passed_over w ↦
          rw (w.bound-is ∙ w.take_row-bound.ensures.bound, ap (λ v. v.items) w.first-is ∙ w.take_row-bound.ensures.rows)
          (chooses buddy c.args.limit room index row c.args.rows.now.items within c.index.ensures
          c.requires record { index = index; sends = row.sends } c.loop-index.bound first refl refl
          (omega (arith, c.from.ensures, w.if-from-bound.true))
          (beside ∙ ap not (ne_eqb index c.index_of_buddy-passed_over.result w.if-index-passed_over.true))
          c.room_beside-room.ensures.some c.loop-index.invariant)
      | else-from-bound w ↦
          rw (w.bound-is, ap (λ v. v.items) w.first-is)
          (passes buddy c.args.limit room index row c.args.rows.now.items within c.index.ensures
          c.requires c.loop-index.bound first
          (elim w.else-from-bound.branch [
            | else-from-bound-via-then-from-bound+else-index-passed_over v ↦
                inr (beside ∙ ap not (eq-eqb index c.index_of_buddy-passed_over.result v.if-index-passed_over.false))
            | else-from-bound-via-else-from-bound v ↦ inl (omega (arith, c.from.ensures, v.if-from-bound.false))
          ])
          c.loop-index.invariant)
    ]

pub returns-clause-taken : goal.returns-clause-taken
returns-clause-taken c =
    let rows = c.args.rows.now.items in
    let p = may_go (option_copied c.args.buddy) c.args.limit in
    record {
      places = c.loop-index.invariant.places;
      chosen = c.loop-index.invariant.chosen
          ∙ ap (λ qs. take c.room_beside-room.result (by_sends (filter p qs)))
          (take_all c.loop-index.index rows (omega (arith, c.loop-index-test.false, c.len-index-end.ensures.len)))
          ∙ ap (λ n. take n (by_sends (filter p rows))) c.room_beside-room.ensures.room;
    }
