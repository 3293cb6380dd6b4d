-- The ends of the node's rounds, and how many of them are counted.
use Rattle.std.specs.Prelude.{ℕ, ◌+◌, nat_lt, count_by, if◌then◌else◌, Bool, ◌&&◌, List, [], ◌∷◌}
use Rattle.lg_detector.specs.declared.reply.Reply.{Reply}
use Rattle.lg_notes.specs.Meaning.About.{suspects_some}
use Rattle.lg_notes.specs.Meaning.Timers.{ends_round}
use Rattle.lg_explain.specs.declared.rounds.RecentRounds.{RecentRounds}
use Rattle.lg_explain.specs.declared.rounds.RoundEnd.{RoundEnd}

-- The end of a round, if a reply at this moment has one: when it was, and whether it was with a suspicion.
abbrev pub end_of_round : ℕ → Reply → List RoundEnd
end_of_round moment reply =
    if ends_round reply then record { moment = moment; is_suspecting = suspects_some reply } ∷ [] else []

-- the span in which ends of rounds are counted: a minute
abbrev pub recent_ms : ℕ
recent_ms = 60000

-- whether the end of a round is less than a minute before a moment
abbrev pub is_recent : ℕ → RoundEnd → Bool
is_recent now end = nat_lt now (end.moment + recent_ms)

abbrev pub is_recent_suspecting : ℕ → RoundEnd → Bool
is_recent_suspecting now end = is_recent now end && end.is_suspecting

-- how many of them ended in the minute before a moment, and how many of these with a suspicion
abbrev pub recent_rounds : ℕ → List RoundEnd → RecentRounds
recent_rounds now ends = record {
  ended = count_by (is_recent now) ends;
  suspected = count_by (is_recent_suspecting now) ends;
}
