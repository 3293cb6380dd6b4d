-- What hearing a claim about another did, and what its suspicion then does.
use Rattle.std.proofs.Common.{◌≡◌, ℕ, Bool, true, false, ◌&&◌, ◌||◌, cond, List, Option, Some, None, inl, inr, refl, sym, ◌∙◌, ap}
use Rattle.std.proofs.lemmas.Bool.{cases_Bool}
use Rattle.lg_rules.specs.declared.claim.Claim.{Claim}
use Rattle.lg_rules.specs.declared.claim.Status.{Status}
use Rattle.lg_rules.specs.declared.claim.Status.TheVariants.{Alive, Suspect, Failed, Left}
use Rattle.lg_rules.specs.declared.members.Heard.{Heard}
use Rattle.lg_rules.specs.declared.members.Heard.TheVariants.{Overrode, Accused, Same, Ignored, NoRoom}
use Rattle.lg_rules.specs.Meaning.Claim.{accuser_of, is_gone, name_of}
use Rattle.lg_rules.specs.Meaning.Rows.{name_cmp, row_at}
use Rattle.lg_rules.specs.Meaning.Table.{takes, standing_status, standing_hearing, hearing_of, heard, live_in}
use Rattle.lg_rules.proofs.KeyOrder.{names_order}
use Rattle.lg_timing.specs.declared.config.Config.{Config}
use Rattle.lg_suspicion.specs.Meaning.Accusers.{accuser_counts, accused}
use Rattle.lg_membership.specs.declared.applied.Deadline.{Deadline}
use Rattle.lg_membership.specs.Meaning.Suspicions.{SuspectedValue, suspected_name, is_accusation, counts_in}
use Rattle.lg_membership.specs.Support.Changes.{Nothing, Putting, IsAbout, raised, ended, overriding, accusing}
use Rattle.lg_membership.specs.Support.Changes.{change_by, row_about, deadline_of_change, stands, is_override}
use Rattle.lg_membership.specs.Support.State.{GroupState, change_in}
use Rattle.lg_membership.proofs.Chosen.{found_key}

-- a claim that isn't taken overrides nothing
standing_overrides_none : (s t : Status) → is_override (standing_status s t) ≡ false
standing_overrides_none Alive Alive = refl
standing_overrides_none Alive (Suspect b) = refl
standing_overrides_none Alive Failed = refl
standing_overrides_none Alive Left = refl
standing_overrides_none (Suspect a) Alive = refl
standing_overrides_none (Suspect a) (Suspect b) = refl
standing_overrides_none (Suspect a) Failed = refl
standing_overrides_none (Suspect a) Left = refl
standing_overrides_none Failed Alive = refl
standing_overrides_none Failed (Suspect b) = refl
standing_overrides_none Failed Failed = refl
standing_overrides_none Failed Left = refl
standing_overrides_none Left Alive = refl
standing_overrides_none Left (Suspect b) = refl
standing_overrides_none Left Failed = refl
standing_overrides_none Left Left = refl

either_standing : (b : Bool) (s t : Status) → is_override (cond b (standing_status s t) Ignored) ≡ false
either_standing true s t = standing_overrides_none s t
either_standing false s t = refl

either_out : (b : Bool) → is_override (cond b Ignored NoRoom) ≡ false
either_out true = refl
either_out false = refl

standing_override : (forgetting : Bool) (c : Claim) (o : Option Claim) → is_override (standing_hearing forgetting c o) ≡ false
standing_override forgetting c None = either_out (forgetting && is_gone c.status)
standing_override forgetting c (Some r) = either_standing _ c.status r.status

pub override-takes : (forgetting : Bool) (table : List Claim) (c : Claim) → is_override (hearing_of forgetting table c) ≡ takes forgetting table c
override-takes forgetting table c = elim (cases_Bool (takes forgetting table c)) [
  | inl t ↦ ap (λ b. is_override (cond b Overrode (standing_hearing forgetting c (row_at name_cmp name_of c.name table)))) t ∙ sym t
  | inr f ↦ ap (λ b. is_override (cond b Overrode (standing_hearing forgetting c (row_at name_cmp name_of c.name table)))) f ∙ standing_override forgetting c _ ∙ sym f
]

pub overrode-takes : (forgetting : Bool) (table : List Claim) (c : Claim) → hearing_of forgetting table c ≡ Overrode → takes forgetting table c ≡ true
overrode-takes forgetting table c e = sym (override-takes forgetting table c) ∙ ap is_override e

-- an accuser counts exactly where a deadline is set for it
either_counts : (b : Bool) (row : SuspectedValue) (accuser : List ℕ) → accuser_counts row.suspicion accuser ≡ b → stands (deadline_of_change (accusing (Some accuser) (Some row))) ≡ b
either_counts true row accuser e = rw e refl
either_counts false row accuser e = rw e refl

accusing-stands : (a : Option (List ℕ)) (row : Option SuspectedValue) → stands (deadline_of_change (accusing a row)) ≡ counts_in a row
accusing-stands None row = refl
accusing-stands (Some accuser) None = refl
accusing-stands (Some accuser) (Some row) = either_counts (accuser_counts row.suspicion accuser) row accuser refl

pub confirms-stands : (h : Heard) (opened : Option Config) (now n : ℕ) (row : Option SuspectedValue) (c : Claim)
    → (is_accusation h && stands (deadline_of_change (change_by h opened now n row c))) ≡ (is_accusation h && counts_in (accuser_of c.status) row)
confirms-stands Overrode opened now n row c = refl
confirms-stands Accused opened now n row c = accusing-stands (accuser_of c.status) row
confirms-stands Same opened now n row c = refl
confirms-stands Ignored opened now n row c = refl
confirms-stands NoRoom opened now n row c = refl

-- So a claim is passed on exactly where it is taken or confirms a suspicion.
pub counts_for : (forgetting : Bool) (table : List Claim) (opened : Option Config) (now n : ℕ) (row : Option SuspectedValue) (c : Claim) {h : Heard} {d : Deadline}
    → h ≡ hearing_of forgetting table c → d ≡ deadline_of_change (change_by (hearing_of forgetting table c) opened now n row c)
    → (is_override h || (is_accusation h && stands d)) ≡ (takes forgetting table c || (is_accusation (hearing_of forgetting table c) && counts_in (accuser_of c.status) row))
counts_for forgetting table opened now n row c hearing deadline =
    (λ i. is_override (hearing i) || (is_accusation (hearing i) && stands (deadline i)))
    ∙ (λ i. override-takes forgetting table c i || confirms-stands (hearing_of forgetting table c) opened now n row c i)

-- What a claim changes concerns its member.
raised_about : (opened : Option Config) (now n : ℕ) (m a : List ℕ) → IsAbout m (raised opened now n m a)
raised_about None now n m a = tt
raised_about (Some opening) now n m a = refl

ended_about : (m : List ℕ) (row : Option SuspectedValue) → IsAbout m (ended m row)
ended_about m None = tt
ended_about m (Some row) = refl

overriding_about : (opened : Option Config) (now n : ℕ) (m : List ℕ) (row : Option SuspectedValue) (s : Status) → IsAbout m (overriding opened now n m row s)
overriding_about opened now n m row Alive = ended_about m row
overriding_about opened now n m row (Suspect a) = raised_about opened now n m a
overriding_about opened now n m row Failed = ended_about m row
overriding_about opened now n m row Left = ended_about m row

either_about : (b : Bool) (m : List ℕ) (row : SuspectedValue) → row.name ≡ m → IsAbout m (cond b (Putting row) Nothing)
either_about true m row named = named
either_about false m row named = tt

accusing_about : (m : List ℕ) (a : Option (List ℕ)) (row : Option SuspectedValue) → ((r : SuspectedValue) → row ≡ Some r → r.name ≡ m) → IsAbout m (accusing a row)
accusing_about m None row named = tt
accusing_about m (Some a) None named = tt
accusing_about m (Some a) (Some row) named = either_about (accuser_counts row.suspicion a) m record { name = row.name; suspicion = accused row.suspicion a } (named row refl)

by_about : (h : Heard) (opened : Option Config) (now n : ℕ) (row : Option SuspectedValue) (c : Claim) → ((r : SuspectedValue) → row ≡ Some r → r.name ≡ c.name)
    → IsAbout c.name (change_by h opened now n row c)
by_about Overrode opened now n row c named = overriding_about opened now n c.name row c.status
by_about Accused opened now n row c named = accusing_about c.name (accuser_of c.status) row named
by_about Same opened now n row c named = tt
by_about Ignored opened now n row c named = tt
by_about NoRoom opened now n row c named = tt

pub change_about : (now : ℕ) (c : Claim) (s : GroupState) → IsAbout c.name (change_in now c s)
change_about now c s =
    by_about (hearing_of s.members.forgets s.members.table c) s.config now (live_in (heard s.members.forgets s.members.table c)) (row_about c s.suspicions) c
    (found_key names_order suspected_name c.name s.suspicions)
