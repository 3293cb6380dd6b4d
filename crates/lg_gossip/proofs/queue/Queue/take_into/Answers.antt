use Rattle.std.proofs.Common.{◌++◌, map, refl, sym, ◌∙◌, ap, subst, arith}
use Rattle.std.specs.List.{IsDistinct}
use Rattle.std.specs.Prelude.{option_copied}
use Rattle.std.specs.Option.{option_to_list}
use Rattle.lg_rules.specs.Meaning.Claim.{name_of}
use Rattle.lg_rules.specs.Meaning.Rows.{name_cmp, is_same}
use Rattle.lg_gossip.specs.Meaning.Queue.{QueueValue, queued_claim, fill_of, filled, rows_taken}
use Rattle.lg_gossip.specs.Support.Places.{HasTaken}
use Rattle.lg_gossip.specs.Support.Sets.{AreSets}
use Rattle.lg_gossip.specs.Support.Sound.{IsSound}
use Rattle.lg_gossip.proofs.Distinct.{distinct-packet}
use Rattle.lg_gossip.proofs.Filling.{IsChosen, fills, counts, with_rows}
use Rattle.lg_gossip.proofs.Filling.{places-at, taken-at, counted-each}
use Rattle.lg_gossip.proofs.Soundness.{sound-sent}
use Rattle.lg_gossip.proofs.queue.Queue.take_into.Goals as goal

pub invariant_of-self : goal.invariant_of-self
invariant_of-self c =
    let rows = c.self.inside.rows.items in
    let v = c.self.inside.version in
    let buddy = option_copied c.buddy_of-buddy.result in
    let limit = c.send_limit-limit.result in
    let now = c.fewest_after-self-inside.result in
    let chosen = c.rows_taken-taken.ensures.taken.chosen in
    let taken : HasTaken v buddy limit rows c.as_slice-2.result.now = record {
      places = places-at rows _ _ c.as_slice-2.ensures.value c.rows_taken-taken.ensures.taken.places;
      chosen = taken-at rows _ _ c.as_slice-2.ensures.value v buddy limit chosen;
    } in
    let least = c.fewest_after-self-inside.ensures rows c.self.invariant.in_order taken c.self.invariant.least in
    let counted = counted-each rows _ _ c.as_slice-3.ensures.value v buddy limit chosen _ c.count_sends.ensures.sends in
    let sets = subst (AreSets c.count_sends.new.sent) counted c.count_sends.ensures.sets in
    subst (λ qs. IsSound c.self.inside.lambda now c.used_after-self-inside.result c.count_sends.new.sent qs) (sym counted)
    (sound-sent c.self.inside.lambda limit c.self.inside.fewest now c.self.inside.used c.used_after-self-inside.result v buddy c.self.inside.sent c.count_sends.new.sent
    rows (omega (arith, c.send_limit-limit.ensures.most, c.self.invariant.often)) c.used_after-self-inside.ensures.rises
    c.used_after-self-inside.ensures.most c.used_after-self-inside.ensures.enough c.self.invariant least sets)

pub returns-clause-apart : goal.returns-clause-apart
returns-clause-apart c =
    let v = c.self.inside.version in
    let buddy = option_copied c.buddy_of-buddy.result in
    let limit = c.send_limit-limit.result in
    let rows = c.self.inside.rows.items in
    let taken = taken-at rows _ _ c.as_slice.ensures.value v buddy limit c.rows_taken-taken.ensures.taken.chosen in
    subst (λ cs. IsDistinct (is_same name_cmp) (map name_of cs)) (sym (c.write_claims.ensures ∙ ap (λ t. option_to_list buddy ++ map queued_claim t) taken))
    (distinct-packet v buddy limit rows c.self.invariant.in_order)

pub returns-clause-claims : goal.returns-clause-claims
returns-clause-claims c =
    let queue : QueueValue =
    record { lambda = c.self.inside.lambda; version = c.self.inside.version; rows = c.self.inside.rows.items } in
    let to = option_copied c.args.buddy in
    let v = c.self.inside.version in
    let buddy = option_copied c.buddy_of-buddy.result in
    let limit = c.send_limit-limit.result in
    let taken = taken-at queue.rows _ _ c.as_slice.ensures.value v buddy limit c.rows_taken-taken.ensures.taken.chosen in
    let chosen : IsChosen queue to c.args.live buddy limit (rows_taken v buddy limit queue.rows) = record {
      buddy_is = c.buddy_of-buddy.ensures;
      limit_is = c.send_limit-limit.ensures.limit;
      taken_is = refl;
    } in
    c.write_claims.ensures
    ∙ ap (λ t. option_to_list buddy ++ map queued_claim t) taken
    ∙ fills queue to c.args.live _ _ _ chosen
    ∙ ap (λ q. fill_of q to c.args.live) c.self.view_is

pub returns-clause-queue : goal.returns-clause-queue
returns-clause-queue c =
    let queue : QueueValue =
    record { lambda = c.self.inside.lambda; version = c.self.inside.version; rows = c.self.inside.rows.items } in
    let to = option_copied c.args.buddy in
    let v = c.self.inside.version in
    let buddy = option_copied c.buddy_of-buddy.result in
    let limit = c.send_limit-limit.result in
    let chosen : IsChosen queue to c.args.live buddy limit (rows_taken v buddy limit queue.rows) = record {
      buddy_is = c.buddy_of-buddy.ensures;
      limit_is = c.send_limit-limit.ensures.limit;
      taken_is = refl;
    } in
    let counted = counted-each queue.rows _ _ c.as_slice-3.ensures.value v buddy limit
    c.rows_taken-taken.ensures.taken.chosen _ c.count_sends.ensures.sends in
    ap (with_rows queue to c.args.live _ _ _ chosen) counted
    ∙ counts queue to c.args.live _ _ _ chosen
    ∙ ap (λ q. filled q to c.args.live) c.self.view_is
