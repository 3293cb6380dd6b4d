use Rattle.lg_recording.proofs.EntryLaws.{whole_takes}
use Rattle.lg_recording.proofs.laws.entries_have_one_spelling.Goals as goal

pub returns : goal.returns
returns c = whole_takes
