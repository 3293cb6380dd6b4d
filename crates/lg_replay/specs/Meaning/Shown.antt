-- Which entries are told: those from one moment to another, and of these all, or those that are about a member.
use Rattle.std.specs.Prelude.{nat_le, Bool, true, ◌&&◌, ◌||◌, ℕ, List, Option, Some, None}
use Rattle.lg_detector.specs.declared.event.Event.{Event}
use Rattle.lg_detector.specs.declared.reply.Reply.{Reply}
use Rattle.lg_replay.specs.declared.window.Window.{Window}
use Rattle.lg_replay.specs.Meaning.Members.{happens_to_member, replies_on_member}
use Rattle.lg_replay.specs.Meaning.Words.{moment_of_event}

-- whether an event is about the member that is asked for, if one is, by itself, by the reply that is told, or by the
-- one that was recorded
abbrev pub tells_on : Option (List ℕ) → Event → Reply → Reply → Bool
tells_on None e told recorded = true
tells_on (Some name) e told recorded =
    happens_to_member name e || replies_on_member name told || replies_on_member name recorded

-- whether an event is told, with the reply that is told and the one that was recorded
unfoldable pub is_told : Window → Event → Reply → Reply → Bool
is_told window e told recorded =
    nat_le window.from (moment_of_event e) && nat_le (moment_of_event e) window.to
    && tells_on window.only e told recorded
