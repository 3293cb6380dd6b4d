use Rattle.lg_recording.proofs.EntryLaws.{recorded_again, whole_again}
use Rattle.lg_recording.proofs.laws.entries_are_read_again.Goals as goal

pub returns-clause-whole : goal.returns-clause-whole
returns-clause-whole c = whole_again

pub returns-clause-again : goal.returns-clause-again
returns-clause-again c = recorded_again
