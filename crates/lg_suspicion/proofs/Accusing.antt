-- What one more accusation changes, by whether its accuser counts.
use Rattle.std.proofs.Common.{◌≡◌, ℕ, ◌≤◌, ◌<◌, Bool, true, false, ◌||◌, not, ◌&&◌, leb, List, ◌∷◌}
use Rattle.std.proofs.Common.{length, Option, Some, sym, ap, ◌∙◌, refl, arith}
use Rattle.std.proofs.lemmas.Bool.{le-leb, lt-leb}
use Rattle.lg_rules.specs.Meaning.Rows.{name_cmp, is_among}
use Rattle.lg_rules.specs.Meaning.Slots.{slot_in}
use Rattle.lg_rules.proofs.PastLaws.{neither}
use Rattle.lg_timing.specs.Meaning.TimeoutValue.{TimeoutValue}
use Rattle.lg_suspicion.specs.Meaning.Accusers.{SuspicionValue, suspicion_after, accuser_counts, accused, deadline_of}
use Rattle.lg_suspicion.specs.Meaning.Parts.{SuspicionParts, accuser_count, accusers_by, suspicion_by, IsKnownTo}
use Rattle.lg_suspicion.specs.Support.Accusers.{has_slot}
use Rattle.lg_suspicion.proofs.AccuserLaws.{accused-after}
use Rattle.lg_suspicion.proofs.DeadlineLaws.{deadline-falls}
use Rattle.lg_rules.proofs.SlotLaws.{Slots}
use Rattle.lg_suspicion.proofs.KnownAccusers.{among-accusers, parts_with, count-with, accusers-with, known-with}

-- An accuser that doesn't count changes nothing.
pub as_before : (s : SuspicionValue) (a : List ℕ) → accuser_counts s a ≡ false → s ≡ accused s a
as_before s a e = rw e

pub as_before-after : (s : SuspicionValue) (raised : ℕ) (timeout : TimeoutValue) (a : List ℕ) (past : List (List ℕ))
    → accuser_counts s a ≡ false → s ≡ suspicion_after raised timeout past
    → s ≡ suspicion_after raised timeout (a ∷ past)
as_before-after s raised timeout a past e is =
    as_before s a e ∙ ap (λ t. accused t a) is ∙ accused-after raised timeout a past

never : (a : Bool) → (a && false) ≡ false
never true = refl
never false = refl

or_true : (a : Bool) → (a || true) ≡ true
or_true true = refl
or_true false = refl

module _ (names : Slots) (parts : SuspicionParts) (a : List ℕ) (known : IsKnownTo names parts) where
  -- It doesn't if as many count as may,
  pub too_late : (n : ℕ) → n ≡ accuser_count parts → parts.timeout.confirmations < n
      → accuser_counts (suspicion_by names parts) a ≡ false
  too_late n is more = rw (known.once ∙ sym is, lt-leb n parts.timeout.confirmations more)

  module _ (slot : Option ℕ) (is : slot ≡ slot_in a names) where
    abbrev is_there : Bool
    is_there = has_slot slot parts.members || is_among name_cmp a parts.named

    counts-by : accuser_counts (suspicion_by names parts) a
        ≡ (leb (accuser_count parts) parts.timeout.confirmations && not is_there)
    counts-by = λ i.
        leb (known.once i) parts.timeout.confirmations && not (among-accusers names parts a slot known.slots is i)

    -- or if it is one of them.
    pub again : is_there ≡ true → accuser_counts (suspicion_by names parts) a ≡ false
    again there =
        counts-by
        ∙ ap (λ b. leb (accuser_count parts) parts.timeout.confirmations && not b) there
        ∙ never (leb (accuser_count parts) parts.timeout.confirmations)

  pub again_by_name : is_among name_cmp a parts.named ≡ true → accuser_counts (suspicion_by names parts) a ≡ false
  again_by_name there =
      let slot = slot_in a names in
      again slot refl (ap (λ b. has_slot slot parts.members || b) there ∙ or_true (has_slot slot parts.members))

-- An accuser is new, and fewer count than may: it counts, and is one more of them.
pub record IsNew (names : Slots) (parts : SuspicionParts) (a : List ℕ) (slot : Option ℕ) : Type 0 where
  pub known : IsKnownTo names parts
  pub has : slot ≡ slot_in a names
  pub new : (has_slot slot parts.members || is_among name_cmp a parts.named) ≡ false
  pub few : accuser_count parts ≤ parts.timeout.confirmations
  pub long : length parts.members ≡ 256
  pub below : (s : ℕ) → slot ≡ Some s → s < 256
  pub most : parts.timeout.confirmations ≤ 5
  pub some : 1 ≤ accuser_count parts

module _ {names : Slots} {parts : SuspicionParts} {a : List ℕ} {slot : Option ℕ}
    (is : IsNew names parts a slot) where
  pub counts : accuser_counts (suspicion_by names parts) a ≡ true
  counts =
      counts-by names parts a is.known slot is.has
      ∙ rw (is.new, le-leb (accuser_count parts) parts.timeout.confirmations is.few)

  pub accused-with : suspicion_by names (parts_with slot a parts) ≡ accused (suspicion_by names parts) a
  accused-with = rw counts
      (ap (λ ns. record { raised = parts.raised; timeout = parts.timeout; accusers = ns })
      (accusers-with names parts a slot is.long is.below is.has))

  pub known-more : IsKnownTo names (parts_with slot a parts)
  known-more = known-with names parts a slot is.long is.below is.has is.known is.new

  pub after-with : (past : List (List ℕ))
      → suspicion_by names parts ≡ suspicion_after parts.raised parts.timeout past
      → suspicion_by names (parts_with slot a parts) ≡ suspicion_after parts.raised parts.timeout (a ∷ past)
  after-with past e =
      accused-with ∙ ap (λ t. accused t a) e ∙ accused-after parts.raised parts.timeout a past

  pub earlier-with : deadline_of (suspicion_by names (parts_with slot a parts)) ≤ deadline_of (suspicion_by names parts)
  earlier-with =
      let before = is.known.once in
      let after = known-more.once in
      let one_more = count-with parts a slot is.long is.below
      (neither (has_slot slot parts.members) (is_among name_cmp a parts.named) is.new).0 in
      let some = is.some in
      let few = is.few in
      deadline-falls parts.raised parts.timeout (length (accusers_by names parts))
      (length (accusers_by names (parts_with slot a parts))) is.most (omega arith) (omega arith) (omega arith)
