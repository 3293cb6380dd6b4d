-- The pieces in which a member is written: constant words that follow one another are one piece.
use Rattle.std.specs.Prelude.{ℕ, List, ◌++◌, codes, decimal}
use Rattle.lg_rules.specs.declared.claim.Claim.{Claim}
use Rattle.lg_rules.specs.declared.claim.Status.{Status}
use Rattle.lg_rules.specs.declared.claim.Status.TheVariants.{Alive, Suspect, Failed, Left}
use Rattle.lg_lines.specs.Meaning.Records.{status_text}
use Rattle.lg_answers.specs.Meaning.Members.{behind_address}

-- ","status":"STATUS","incarnation":
abbrev pub standing_words : Status → List ℕ
standing_words status = codes "\",\"status\":\"" ++ (status_text status ++ codes "\",\"incarnation\":")

-- NAME","status":"STATUS","incarnation":N
abbrev pub behind_name : Claim → List ℕ
behind_name c = c.name ++ (standing_words c.status ++ decimal c.incarnation)

-- ,"accuser":"NAME"}, or ,"accuser":null}
abbrev pub accuser_end : Status → List ℕ
accuser_end Alive = codes ",\"accuser\":null}"
accuser_end (Suspect accuser) = codes ",\"accuser\":\"" ++ (accuser ++ codes "\"}")
accuser_end Failed = codes ",\"accuser\":null}"
accuser_end Left = codes ",\"accuser\":null}"

-- what stands of a member behind {"name":"
unfoldable pub behind_front : Claim → List ℕ
behind_front c = behind_name c ++ (codes ",\"address\":\"" ++ behind_address c.addr) ++ accuser_end c.status
