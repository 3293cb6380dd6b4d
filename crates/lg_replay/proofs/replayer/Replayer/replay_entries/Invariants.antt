use Rattle.std.proofs.Common.{length}
use Rattle.lg_recording.specs.Meaning.Listing.{entries_scan}
use Rattle.lg_replay.proofs.EntriesLaws.{HasGone}
use Rattle.lg_replay.proofs.replayer.Replayer.replay_entries.Given as goal

-- what was told so far, and what the entries that are left still give
abbrev pub invariant-entries : goal.invariant-entries
invariant-entries l =
    HasGone l.fn.self l.self l.fn.text.items l.text.items l.window l.fn.first l.number (entries_scan l.fn.reader.rest.now) (entries_scan l.reader.rest.now)

abbrev pub decreases-entries : goal.decreases-entries
decreases-entries l = length (entries_scan l.reader.rest.now).entries
