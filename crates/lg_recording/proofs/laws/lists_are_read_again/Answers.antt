use Rattle.lg_recording.proofs.Torn.{entries_whole, entries_torn, whole_front}
use Rattle.lg_recording.proofs.laws.lists_are_read_again.Goals as goal

pub returns-clause-whole : goal.returns-clause-whole
returns-clause-whole c = entries_whole

pub returns-clause-torn : goal.returns-clause-torn
returns-clause-torn c = entries_torn

pub returns-clause-front : goal.returns-clause-front
returns-clause-front c = whole_front
