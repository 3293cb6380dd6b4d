use Rattle.std.proofs.Common.{◌∙◌}
use Rattle.lg_explain.specs.Meaning.Episodes.{episodes}
use Rattle.lg_explain.proofs.EpisodeLaws.{ended_runs}
use Rattle.lg_explain.proofs.gathered.Gathered.finish.Goals as goal

pub returns : goal.returns
returns c = λ told has. (c.in_ok-end_episode.ensures _ _ has).accounts ∙ ended_runs c.args.question.now (episodes told)
