use Rattle.std.proofs.Common.{◌≡◌}
use Rattle.std.specs.List.{AllWithin}
use Rattle.lg_http.specs.Meaning.Answers.{Replies}
use Rattle.lg_http.specs.Meaning.Parked.{parked_count}
use Rattle.lg_http.specs.Meaning.Peers.{IsCurrent}
use Rattle.lg_http.specs.Meaning.Slots.{InSlot, AreSlots, AddsEnded}
use Rattle.lg_http.proofs.slots.run_all.Given as goal

-- the slots before this one had their turn
abbrev pub invariant-loop-slot : goal.invariant-loop-slot
invariant-loop-slot g l = record {
  current : AllWithin (InSlot (IsCurrent l.at l.version)) l.slot-items 0 l.slot-index;
  parked : l.rest.parked ≡ parked_count l.slot-items;
  slots : AreSlots (Replies g.S.Site.answers g.S.Site.acts g.S.Site.version g.S.Site.waits l.fn.desk.hosts) g.S.Site.later l.fn.desk.site l.initial.slot-items
      → AreSlots (Replies g.S.Site.answers g.S.Site.acts g.S.Site.version g.S.Site.waits l.fn.desk.hosts) g.S.Site.later l.fn.desk.site l.slot-items
      × AddsEnded (Replies g.S.Site.answers g.S.Site.acts g.S.Site.version g.S.Site.waits l.fn.desk.hosts) g.S.Site.later l.fn.desk.site l.fn.ended.items l.ended.items;
  site : l.desk.site ≡ l.fn.desk.site;
  hosts : l.desk.hosts ≡ l.fn.desk.hosts;
}
