use Rattle.std.proofs.Common.{length}
use Rattle.lg_heads.specs.Meaning.Heads.{head_value}
use Rattle.lg_recording.specs.Meaning.Listing.{entries_scan}
use Rattle.lg_explain.proofs.ExplainedLaws.{IsAmid}
use Rattle.lg_explain.proofs.explainer.Explainer.take_entries.Given as goal

-- how far it has come
abbrev pub invariant-entries : goal.invariant-entries
invariant-entries l =
    IsAmid l.fn.self l.self (head_value l.head) (entries_scan l.fn.reader.rest.now).entries (entries_scan l.reader.rest.now).entries

abbrev pub decreases-entries : goal.decreases-entries
decreases-entries l = length (entries_scan l.reader.rest.now).entries
