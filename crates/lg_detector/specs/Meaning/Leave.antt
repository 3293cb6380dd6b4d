-- The event Leave: this member leaves its group for good (this project's choice). Its own record becomes Left, and is
-- queued; what a leave does to the group is in lg_membership. The probe that runs is dropped, and no later start of a
-- round chooses anybody, as Probing.antt says. All else goes on.
use Rattle.std.specs.Prelude.{ℕ, List, [], ◌∷◌, option_map, if◌then◌else◌}
use Rattle.std.specs.List.{filter_map}
use Rattle.lg_rules.specs.declared.claim.Claim.{Claim}
use Rattle.lg_rules.specs.declared.version.Version.{Version}
use Rattle.lg_rules.specs.declared.version.Version.TheVariants.{One, Two, Three}
use Rattle.lg_packet.specs.declared.packet.Body.{Body}
use Rattle.lg_packet.specs.declared.packet.Body.TheVariants.{Page, Gossip}
use Rattle.lg_probe.specs.Meaning.Helpers.{picked}
use Rattle.lg_membership.specs.Meaning.Gossip.{version_sent}
use Rattle.lg_membership.specs.Meaning.Log as group
use Rattle.lg_membership.specs.Meaning.Log.{group_view}
use Rattle.lg_detector.specs.declared.reply.Outgoing.{Outgoing}
use Rattle.lg_detector.specs.Meaning.Log.{Log, OfGroup, group_log}
use Rattle.lg_detector.specs.Meaning.Apply.{come}
use Rattle.lg_detector.specs.Meaning.Joining.{own_packet}
use Rattle.lg_detector.specs.Meaning.Probing.{has_left, others}
use Rattle.lg_detector.specs.Meaning.Tick.{found}

abbrev pub leave : ℕ → Log → Log
leave now log = OfGroup group.Departed ∷ come now log

-- The first leave is told at once, to at most this many members.
abbrev pub most_told : ℕ
most_told = 8

-- whom it is told to, by these words: others that aren't gone, picked as helpers are
abbrev pub told_of_leave : List ℕ → Log → List (List ℕ)
told_of_leave words log = picked most_told words (others log)

-- Each is sent a packet that has this member's own record alone: a Gossip in version 3, and a Page in versions 1 and 2,
-- which know no Gossip. These packets take nothing of the queue.
abbrev pub leave_body : Version → Body
leave_body One = Page
leave_body Two = Page
leave_body Three = Gossip

abbrev pub leave_packet : Log → Claim → Outgoing
leave_packet log r = own_packet r.addr (leave_body (version_sent (group.config (group_log log)))) log

abbrev pub leave_packets : List ℕ → Log → List Outgoing
leave_packets words log =
    let rows = group_view (group_log log) in
    filter_map (λ m. option_map (leave_packet log) (found m rows)) (told_of_leave words log)

-- what the event sends: a further leave sends nothing
abbrev pub leave_sends : ℕ → List ℕ → Log → List Outgoing
leave_sends now words log = if has_left log then [] else leave_packets words (leave now log)
