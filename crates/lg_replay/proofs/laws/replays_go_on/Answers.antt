use Rattle.std.proofs.Common.{refl}
use Rattle.lg_replay.specs.Meaning.Lives.{unknown_life}
use Rattle.lg_replay.proofs.ReplayLaws.{replay_text_is, texts_more}
use Rattle.lg_replay.proofs.laws.replays_go_on.Goals as goal

pub returns : goal.returns
returns c = record {
  none = λ window. refl;
  more = λ window files file. texts_more window unknown_life files file;
  all = replay_text_is;
}
