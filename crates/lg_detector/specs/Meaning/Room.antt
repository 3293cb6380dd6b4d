-- Who is forgotten to make room for the member of a claim, said of the members that are gone. What `make_room` of
-- Apply.antt says of timers comes to this, by the law `room_is_made_by_the_earliest`.
use Rattle.std.specs.Prelude.{◌≡◌, ◌==◌, Bool, false, ◌&&◌, ◌||◌, nat_lt}
use Rattle.std.specs.List.{Contains, list_any}
use Rattle.std.specs.Ordering.{is_lt}
use Rattle.lg_rules.specs.Meaning.Claim.{is_gone}
use Rattle.lg_rules.specs.Meaning.Rows.{name_cmp}
use Rattle.lg_membership.specs.Meaning.Log.{GroupLog, table}
use Rattle.lg_detector.specs.Meaning.Forget.{Gone, gone}

-- whether somebody is gone: the record of another member that is known is Failed or Left
abbrev pub somebody_is_gone : GroupLog → Bool
somebody_is_gone log = list_any (λ r. is_gone r.status) (table log)

-- Whether a member that is gone is to be forgotten before another: its deadline is earlier, or both have one deadline
-- and its name is the lesser.
abbrev pub is_forgotten_before : Gone → Gone → Bool
is_forgotten_before r s =
    nat_lt r.deadline s.deadline || (r.deadline == s.deadline && is_lt (name_cmp r.name s.name))

-- the first to be forgotten of those that are gone: it is one of them, and none of them is to be forgotten before it
pub record IsFirstGone (log : GroupLog) (r : Gone) : Type 0 where
  pub among : Contains (gone log) r
  pub first : list_any (λ s. is_forgotten_before s r) (gone log) ≡ false
