use Rattle.std.proofs.Common.{rules, ◌≡◌, take}
use Rattle.lg_agent.specs.Meaning.Values.{KeptValue}
use Rattle.lg_agent.proofs.CuttingLaws.{handed_at, cut_off_at}
use Rattle.lg_agent.proofs.kept.Kept.rotate_into.Goals as goal

pub returns-clause-right : goal.returns-clause-right
returns-clause-right g c =
    let k = c.self.inside in
    let l : KeptValue = record { places = k.places; limit = k.limit; summary = k.summary; cut = k.cut; past = take k.base k.feed.events; history = k.history.entries } in
    let same : c.fill.new.self ≡ cut_off_at l k.base = search rules in
    rw (← c.self.invariant.13) (handed_at k.places l c.fill.new.self k.base c.self.invariant.0 c.self.invariant.1 c.self.invariant.7 same)
