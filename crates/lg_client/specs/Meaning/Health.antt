-- The health that an answer says (this project's choice).
use Rattle.std.specs.Prelude.{Option, Some, codes}
use Rattle.serde_json.specs.Data.{Data}
use Rattle.lg_text.specs.Meaning.Steps.{◌>>=◌}
use Rattle.lg_client.specs.declared.health.Health.{Health}
use Rattle.lg_client.specs.Meaning.Fields.{name_at_key, natural_at_key, truth_at_key}
use Rattle.lg_client.specs.Meaning.Members.{incarnation_said}

-- each field; nothing if one of them isn't what is documented
unfoldable pub health_said : Data → Option Health
health_said answer = do
  name ← name_at_key (codes "name") answer
  score ← natural_at_key (codes "score") answer
  incarnation ← incarnation_said answer
  live ← natural_at_key (codes "live") answer
  known ← natural_at_key (codes "known") answer
  ousted ← truth_at_key (codes "ousted") answer
  uptime ← natural_at_key (codes "uptime_ms") answer
  stood_still ← natural_at_key (codes "stood_still_ms") answer
  Some record {
    name = name;
    score = score;
    incarnation = incarnation;
    live = live;
    known = known;
    ousted = ousted;
    uptime_ms = uptime;
    stood_still_ms = stood_still;
  }
