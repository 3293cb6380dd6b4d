-- What is counted are some verdicts.
use Rattle.std.specs.Prelude.{◌≡◌, List, length, filter}
use Rattle.lg_replay.specs.Meaning.Verdicts.{is_differing, is_unchecked}
use Rattle.lg_replay.specs.declared.counts.ReplayCounts.{ReplayCounts}
use Rattle.lg_replay.specs.declared.verdict.Verdict.{Verdict}

pub record HasCounts (counts : ReplayCounts) (verdicts : List Verdict) : Type 0 where
  pub entries : counts.entries ≡ length verdicts
  pub differing : counts.differing ≡ length (filter is_differing verdicts)
  pub unchecked : counts.unchecked ≡ length (filter is_unchecked verdicts)
