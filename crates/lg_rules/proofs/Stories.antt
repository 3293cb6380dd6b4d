-- The claims about a member that count, and its record, once one more fact comes.
use Rattle.std.proofs.Common.{◌≡◌, ◌≢◌, ℕ, Bool, true, false, ◌&&◌, cond, List, [], ◌∷◌, Option, Some, None, inl, inr, refl, sym, ◌∙◌, ap, subst}
use Rattle.std.proofs.lemmas.Bool.{cases_Bool, false≢true}
use Rattle.lg_rules.specs.declared.claim.Claim.{Claim}
use Rattle.lg_rules.specs.Meaning.Beats.{beats_of}
use Rattle.lg_rules.specs.Meaning.Claim.{name_of}
use Rattle.lg_rules.specs.Meaning.Own.{OwnFact, Told, Forgets, TakesLeave}
use Rattle.lg_rules.specs.Meaning.Past.{earliest_unbeaten}
use Rattle.lg_rules.specs.Meaning.Rows.{name_cmp, is_same, without_key}
use Rattle.lg_rules.specs.Meaning.Table.{roster, story, record_of}
use Rattle.lg_rules.proofs.Cases.{held_once}
use Rattle.lg_rules.proofs.KeyOrder.{names_order, same_key, other_key, cases_key}
use Rattle.lg_rules.proofs.PastLaws.{after_hearing, unbeaten-cons, unbeaten_some}
use Rattle.lg_rules.proofs.Ranks.{ranked}
use Rattle.lg_rules.proofs.RowLaws.{Keyed}
use Rattle.lg_rules.proofs.Roster.{is_known, roster-nil, roster-forgot, roster-leaves, stays_known, others_known, among-without_same, among-without_other}

never : (b : Bool) → (b && false) ≡ false
never true = refl
never false = refl

module _ (forgets : Bool) (own : List ℕ) where
  -- what each fact does to the claims that count
  story-told : (c : Claim) (past : List OwnFact) (m : List ℕ)
      → story forgets own (Told c ∷ past) m
      ≡ cond (is_same name_cmp c.name m && is_known m (roster forgets own (Told c ∷ past))) (c ∷ story forgets own past m) (story forgets own past m)
  unfolding story
  story-told c past m = refl

  pub story-counts : (c : Claim) (past : List OwnFact) (m : List ℕ) → c.name ≡ m → is_known m (roster forgets own (Told c ∷ past)) ≡ true
      → story forgets own (Told c ∷ past) m ≡ c ∷ story forgets own past m
  story-counts c past m e a =
      story-told c past m
      ∙ ap (λ b. cond (b && is_known m (roster forgets own (Told c ∷ past))) (c ∷ story forgets own past m) (story forgets own past m)) (same_key names_order c.name m e)
      ∙ ap (λ b. cond b (c ∷ story forgets own past m) (story forgets own past m)) a

  pub story-other : (c : Claim) (past : List OwnFact) (m : List ℕ) → c.name ≢ m → story forgets own (Told c ∷ past) m ≡ story forgets own past m
  story-other c past m d =
      story-told c past m
      ∙ ap (λ b. cond (b && is_known m (roster forgets own (Told c ∷ past))) (c ∷ story forgets own past m) (story forgets own past m)) (other_key names_order c.name m d)

  pub story-out : (c : Claim) (past : List OwnFact) (m : List ℕ) → is_known m (roster forgets own (Told c ∷ past)) ≡ false
      → story forgets own (Told c ∷ past) m ≡ story forgets own past m
  story-out c past m f =
      story-told c past m
      ∙ ap (λ b. cond (is_same name_cmp c.name m && b) (c ∷ story forgets own past m) (story forgets own past m)) f
      ∙ ap (λ b. cond b (c ∷ story forgets own past m) (story forgets own past m)) (never (is_same name_cmp c.name m))

  story-forgot : (n : List ℕ) (past : List OwnFact) (m : List ℕ) → story forgets own (Forgets n ∷ past) m ≡ cond (is_same name_cmp n m) [] (story forgets own past m)
  unfolding story
  story-forgot n past m = refl

  pub story-forgotten : (n : List ℕ) (past : List OwnFact) (m : List ℕ) → n ≡ m → story forgets own (Forgets n ∷ past) m ≡ []
  story-forgotten n past m e = story-forgot n past m ∙ ap (λ b. cond b [] (story forgets own past m)) (same_key names_order n m e)

  pub story-kept : (n : List ℕ) (past : List OwnFact) (m : List ℕ) → n ≢ m → story forgets own (Forgets n ∷ past) m ≡ story forgets own past m
  story-kept n past m d = story-forgot n past m ∙ ap (λ b. cond b [] (story forgets own past m)) (other_key names_order n m d)

  pub story-nil : (m : List ℕ) → story forgets own [] m ≡ []
  unfolding story
  story-nil m = refl

  pub story-leaves : (past : List OwnFact) (m : List ℕ) → story forgets own (TakesLeave ∷ past) m ≡ story forgets own past m
  unfolding story
  story-leaves past m = refl

  -- whether a member is known once a name was forgotten
  gone : (n : List ℕ) (past : List OwnFact) (m : List ℕ) → n ≡ m → is_known m (roster forgets own (Forgets n ∷ past)) ≡ false
  gone n past m e =
      ap (is_known m) (roster-forgot forgets own n past)
      ∙ subst (λ k. is_known k (without_key name_cmp n (roster forgets own past)) ≡ false) e (among-without_same n (roster forgets own past))

  others_stay : (n : List ℕ) (past : List OwnFact) (m : List ℕ) → n ≢ m → is_known m (roster forgets own (Forgets n ∷ past)) ≡ is_known m (roster forgets own past)
  others_stay n past m d = ap (is_known m) (roster-forgot forgets own n past) ∙ among-without_other m n (roster forgets own past) (λ e. d (sym e))

  -- No claim counts about who is unknown,
  pub story_unknown : (past : List OwnFact) (m : List ℕ) → is_known m (roster forgets own past) ≡ false → story forgets own past m ≡ []
  story_unknown [] m f = story-nil m
  story_unknown (Told c ∷ past) m f = story-out c past m f ∙ story_unknown past m (before (is_known m (roster forgets own past)) refl)
    where
      before : (b : Bool) → is_known m (roster forgets own past) ≡ b → is_known m (roster forgets own past) ≡ false
      before true t = absurd (false≢true (sym f ∙ stays_known forgets own c past m t))
      before false g = g
  story_unknown (Forgets n ∷ past) m f = elim (cases_key names_order n m) [
    | inl e ↦ story-forgotten n past m e
    | inr d ↦ story-kept n past m d ∙ story_unknown past m (sym (others_stay n past m d) ∙ f)
  ]
  story_unknown (TakesLeave ∷ past) m f = story-leaves past m ∙ story_unknown past m (sym (ap (is_known m) (roster-leaves forgets own past)) ∙ f)

  -- and some claim does about who is known.
  pub story_some : (past : List OwnFact) (m : List ℕ) → is_known m (roster forgets own past) ≡ true → story forgets own past m ≢ []
  story_some [] m a e = false≢true (sym (ap (is_known m) (roster-nil forgets own)) ∙ a)
  story_some (Told c ∷ past) m a e = elim (cases_key names_order c.name m) [
    | inl is ↦ (let bad : c ∷ story forgets own past m ≡ [] = sym (story-counts c past m is a) ∙ e in cc)
    | inr d ↦ story_some past m (sym (others_known forgets own c past m d) ∙ a) (sym (story-other c past m d) ∙ e)
  ]
  story_some (Forgets n ∷ past) m a e = elim (cases_key names_order n m) [
    | inl is ↦ false≢true (sym (gone n past m is) ∙ a)
    | inr d ↦ story_some past m (sym (others_stay n past m d) ∙ a) (sym (story-kept n past m d) ∙ e)
  ]
  story_some (TakesLeave ∷ past) m a e = story_some past m (sym (ap (is_known m) (roster-leaves forgets own past)) ∙ a) (sym (story-leaves past m) ∙ e)

  -- So who is known has a record, and nobody else.
  pub record_of-story : (past : List OwnFact) (m : List ℕ) → record_of forgets own past m ≡ earliest_unbeaten beats_of (story forgets own past m)
  unfolding record_of
  record_of-story past m = refl

  pub record_of_none : (past : List OwnFact) (m : List ℕ) → is_known m (roster forgets own past) ≡ false → record_of forgets own past m ≡ None
  record_of_none past m f = record_of-story past m ∙ ap (earliest_unbeaten beats_of) (story_unknown past m f)

  pub record_of_some : (past : List OwnFact) (m : List ℕ) → is_known m (roster forgets own past) ≡ true → record_of forgets own past m ≢ None
  record_of_some past m a e = story_some past m a (unbeaten_some ranked (story forgets own past m) (sym (record_of-story past m) ∙ e))

  pub record_known : (past : List OwnFact) (m : List ℕ) (r : Claim) → record_of forgets own past m ≡ Some r → is_known m (roster forgets own past) ≡ true
  record_known past m r e = elim (cases_Bool (is_known m (roster forgets own past))) [
    | inl a ↦ a
    | inr f ↦ (let bad : None ≡ Some r = sym (record_of_none past m f) ∙ e in absurd cc)
  ]

  -- the record, once one more fact comes
  pub record_of-same : (c : Claim) (past : List OwnFact) (m : List ℕ) → c.name ≡ m → is_known m (roster forgets own (Told c ∷ past)) ≡ true
      → record_of forgets own (Told c ∷ past) m ≡ after_hearing beats_of (record_of forgets own past m) c
  record_of-same c past m e a =
      record_of-story (Told c ∷ past) m ∙ ap (earliest_unbeaten beats_of) (story-counts c past m e a) ∙ unbeaten-cons ranked c (story forgets own past m)
      ∙ ap (λ o. after_hearing beats_of o c) (sym (record_of-story past m))

  pub record_of-other : (c : Claim) (past : List OwnFact) (m : List ℕ) → c.name ≢ m → record_of forgets own (Told c ∷ past) m ≡ record_of forgets own past m
  record_of-other c past m d = record_of-story (Told c ∷ past) m ∙ ap (earliest_unbeaten beats_of) (story-other c past m d) ∙ sym (record_of-story past m)

  pub record_of-forgotten : (n : List ℕ) (past : List OwnFact) (m : List ℕ) → n ≡ m → record_of forgets own (Forgets n ∷ past) m ≡ None
  record_of-forgotten n past m e = record_of-story (Forgets n ∷ past) m ∙ ap (earliest_unbeaten beats_of) (story-forgotten n past m e)

  pub record_of-kept : (n : List ℕ) (past : List OwnFact) (m : List ℕ) → n ≢ m → record_of forgets own (Forgets n ∷ past) m ≡ record_of forgets own past m
  record_of-kept n past m d = record_of-story (Forgets n ∷ past) m ∙ ap (earliest_unbeaten beats_of) (story-kept n past m d) ∙ sym (record_of-story past m)

  pub record_of-leaves : (past : List OwnFact) (m : List ℕ) → record_of forgets own (TakesLeave ∷ past) m ≡ record_of forgets own past m
  record_of-leaves past m = record_of-story (TakesLeave ∷ past) m ∙ ap (earliest_unbeaten beats_of) (story-leaves past m) ∙ sym (record_of-story past m)

  -- a record is about its name
  pub record_of_name : (past : List OwnFact) (m : List ℕ) (r : Claim) → record_of forgets own past m ≡ Some r → r.name ≡ m
  record_of_name [] m r e = let bad : None ≡ Some r = sym (record_of-story [] m ∙ ap (earliest_unbeaten beats_of) (story-nil m)) ∙ e in absurd cc
  record_of_name (Told c ∷ past) m r e = elim (cases_key names_order c.name m) [
    | inr d ↦ record_of_name past m r (sym (record_of-other c past m d) ∙ e)
    | inl is ↦ elim (cases_Bool (is_known m (roster forgets own (Told c ∷ past)))) [
      | inl a ↦ stood (record_of forgets own past m) (λ s h. record_of_name past m s h) (sym (record_of-same c past m is a) ∙ e) is
      | inr f ↦ (let bad : None ≡ Some r = sym (record_of_none (Told c ∷ past) m f) ∙ e in absurd cc)
    ]
  ]
    where
      stood : (o : Option Claim) → ((s : Claim) → o ≡ Some s → s.name ≡ m) → after_hearing beats_of o c ≡ Some r → c.name ≡ m → r.name ≡ m
      stood None h t is = ap name_of (sym (held_once c r t)) ∙ is
      stood (Some s) h t is = elim (cases_Bool (beats_of c s)) [
        | inl b ↦ ap name_of (sym (held_once c r (subst (λ x. cond x (Some c) (Some s) ≡ Some r) b t))) ∙ is
        | inr b ↦ ap name_of (sym (held_once s r (subst (λ x. cond x (Some c) (Some s) ≡ Some r) b t))) ∙ h s refl
      ]
  record_of_name (Forgets n ∷ past) m r e = elim (cases_key names_order n m) [
    | inl is ↦ (let bad : None ≡ Some r = sym (record_of-forgotten n past m is) ∙ e in absurd cc)
    | inr d ↦ record_of_name past m r (sym (record_of-kept n past m d) ∙ e)
  ]
  record_of_name (TakesLeave ∷ past) m r e = record_of_name past m r (sym (record_of-leaves past m) ∙ e)

  pub records_keyed : (past : List OwnFact) → Keyed name_of (record_of forgets own past)
  records_keyed past m r e = record_of_name past m r e
