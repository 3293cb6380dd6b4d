-- The names by slots after a past, once one more fact comes; and what is known then.
use Rattle.std.proofs.Common.{◌≡◌, ◌≢◌, ℕ, ◌+◌, ◌<◌, Bool, true, false, ◌||◌, cond, List, [], ◌∷◌, length, set, get_or}
use Rattle.std.proofs.Common.{Some, None, inl, inr, refl, sym, ◌∙◌, ap, subst, arith}
use Rattle.std.proofs.lemmas.Bool.{cases_Bool, false≢true}
use Rattle.lg_rules.specs.declared.claim.Claim.{Claim}
use Rattle.lg_rules.specs.Meaning.Claim.{name_of}
use Rattle.lg_rules.specs.Meaning.Own.{OwnFact, Told, Forgets, TakesLeave}
use Rattle.lg_rules.specs.Meaning.Rows.{name_cmp, is_same, put_key, row_at, without_row, without_key, Rises}
use Rattle.lg_rules.specs.Meaning.Slots.{is_held, slot_in, free_slot, named, with_name, freed, own_slots}
use Rattle.lg_rules.specs.Meaning.Table.{MembersValue, known_of, makes_known, members_heard, members_forgot, names_by_slot, names_heard, roster, table_of, takes}
use Rattle.lg_rules.specs.Support.Slots.{AreHeldOnce, free_count}
use Rattle.lg_rules.proofs.Cases.{Missing, Holding, held}
use Rattle.lg_rules.proofs.KeyOrder.{names_order, same_key, other_key, cases_key}
use Rattle.lg_rules.proofs.Rises.{among-put, length-put}
use Rattle.lg_rules.proofs.Roster.{is_known, is_new, makes-own, makes-known, makes-unknown, roster-nil, roster-new, roster-passed, roster-forgot, roster-leaves, rises-roster, own_unknown, among-without_same, among-without_other, without-out, length-without, Knew, Joins, Refused, joined}
use Rattle.lg_rules.proofs.SlotLaws.{Slots, named-kept, none-held, held-new, held-freed, held-freed_other, freed-none, once-new, once-freed, free-new, free-freed, none-free, held-free, none-count, none-once}
use Rattle.lg_rules.proofs.Removing.{without-missing}
use Rattle.lg_rules.proofs.Tables.{heard-table, table-own, table-forgot, table-leaves, takes_unknown, rises-table, row_at_own-table}

-- what hearing a claim does to names, by whether it is taken, whether its name has a slot and whether one is free
pub heard-passed : (os : Slots) (c : Claim) → names_heard false os c ≡ os
heard-passed os c = refl

pub heard-known : (taken : Bool) (os : Slots) (c : Claim) → is_held c.name os ≡ true → names_heard taken os c ≡ os
heard-known true os c t = rw t
heard-known false os c t = refl

pub heard-new : (os : Slots) (c : Claim) (f : ℕ) → is_held c.name os ≡ false → free_slot os ≡ Some f
    → names_heard true os c ≡ set os f (Some c.name)
heard-new os c f h e = rw (h, e)

pub heard-named : (os : Slots) (c : Claim) → is_held c.name os ≡ false → names_heard true os c ≡ named c.name os
heard-named os c h = rw h

or_right : (a : Bool) {b : Bool} → b ≡ true → (a || b) ≡ true
or_right true e = refl
or_right false e = e

or_swap : (a b c : Bool) → (a || (b || c)) ≡ (b || (a || c))
or_swap true true c = refl
or_swap true false c = refl
or_swap false b c = refl

-- The own name and those of the others that are known have a slot each, and the other slots are free.
pub record AreSlots (own : List ℕ) (ns : List (List ℕ)) (os : Slots) : Type 0 where
  pub once : AreHeldOnce os
  pub free : free_count os + length ns ≡ 255
  pub holding : (m : List ℕ) → is_held m os ≡ (is_same name_cmp own m || is_known m ns)

start : (own : List ℕ) → AreSlots own [] (own_slots own)
start own = record {
  once = (held-free own 255, none-once 255);
  free = omega (arith, none-count 255);
  holding = λ m. ap (λ b. is_same name_cmp own m || b) (held-free m 255);
}

-- a name that joins has the lowest free slot
unheld : (own : List ℕ) (ns : List (List ℕ)) (os : Slots) (n : List ℕ) → AreSlots own ns os → own ≢ n → is_known n ns ≡ false → is_held n os ≡ false
unheld own ns os n are d out = are.holding n ∙ (λ i. other_key names_order own n d i || out i)

joining : (own : List ℕ) (ns : List (List ℕ)) (os : Slots) (n : List ℕ) → AreSlots own ns os → own ≢ n → is_known n ns ≡ false → length ns < 255
    → AreSlots own (put_key name_cmp n ns) (named n os)
joining own ns os n are d out room = elim (held (free_slot os)) [
  | Missing none ↦ absurd (omega (arith, are.free, none-free os none, room))
  | Holding f is ↦ subst (AreSlots own (put_key name_cmp n ns)) (sym (ap (λ o. with_name o n os) is)) record {
    once = once-new n os f is (unheld own ns os n are d out) are.once;
    free = omega (arith, free-new n os f is, length-put names_order n ns out, are.free);
    holding = λ m.
        held-new n m os f is
        ∙ ap (λ b. is_same name_cmp n m || b) (are.holding m)
        ∙ or_swap (is_same name_cmp n m) (is_same name_cmp own m) (is_known m ns)
        ∙ ap (λ b. is_same name_cmp own m || b) (sym (among-put names_order m n ns));
  }
]

-- a name that is forgotten leaves its slot free
leaving : (own : List ℕ) (ns : List (List ℕ)) (os : Slots) (n : List ℕ) → Rises name_cmp ns → AreSlots own ns os → own ≢ n
    → AreSlots own (without_key name_cmp n ns) (freed n os)
leaving own ns os n rise are d = record {
  once = once-freed n os are.once;
  free = freed_one (is_known n ns) refl;
  holding = λ m. elim (cases_key names_order m n) [
    | inl e ↦ (
        ap (λ k. is_held k (freed n os)) e ∙ held-freed n os
        ∙ sym (ap (λ k. is_same name_cmp own k || is_known k (without_key name_cmp n ns)) e
        ∙ (λ i. other_key names_order own n d i || among-without_same n ns i)))
    | inr u ↦ (
        held-freed_other n m os u ∙ are.holding m
        ∙ ap (λ b. is_same name_cmp own m || b) (sym (among-without_other m n ns u)))
  ];
}
  where
    freed_one : (b : Bool) → is_known n ns ≡ b → free_count (freed n os) + length (without_key name_cmp n ns) ≡ 255
    freed_one false f =
        omega (
          arith,
          ap free_count (freed-none n os (unheld own ns os n are d f)),
          ap length (without-out n ns f),
          are.free,
        )
    freed_one true t = elim (held (slot_in n os)) [
      | Missing none ↦ (
          let there : is_held n os ≡ true = are.holding n ∙ or_right (is_same name_cmp own n) t in
          absurd (false≢true (sym (none-held n os none) ∙ there)))
      | Holding s is ↦ omega (arith, free-freed n os s are.once is, length-without n ns rise t, are.free)
    ]

module _ (forgets : Bool) (own : List ℕ) where
  -- what each fact does to the names by slots
  pub naming-nil : names_by_slot forgets own [] ≡ own_slots own
  unfolding names_by_slot
  naming-nil = refl

  naming-told : (c : Claim) (past : List OwnFact)
      → names_by_slot forgets own (Told c ∷ past)
      ≡ cond (makes_known forgets own (roster forgets own past) c) (named c.name (names_by_slot forgets own past)) (names_by_slot forgets own past)
  unfolding names_by_slot
  naming-told c past = refl

  pub naming-new : (c : Claim) (past : List OwnFact) → makes_known forgets own (roster forgets own past) c ≡ true
      → names_by_slot forgets own (Told c ∷ past) ≡ named c.name (names_by_slot forgets own past)
  naming-new c past t = naming-told c past ∙ ap (λ b. cond b (named c.name (names_by_slot forgets own past)) (names_by_slot forgets own past)) t

  pub naming-passed : (c : Claim) (past : List OwnFact) → makes_known forgets own (roster forgets own past) c ≡ false
      → names_by_slot forgets own (Told c ∷ past) ≡ names_by_slot forgets own past
  naming-passed c past f = naming-told c past ∙ ap (λ b. cond b (named c.name (names_by_slot forgets own past)) (names_by_slot forgets own past)) f

  naming-forgot : (n : List ℕ) (past : List OwnFact)
      → names_by_slot forgets own (Forgets n ∷ past)
      ≡ cond (is_same name_cmp n own) (names_by_slot forgets own past) (freed n (names_by_slot forgets own past))
  unfolding names_by_slot
  naming-forgot n past = refl

  naming-leaves : (past : List OwnFact) → names_by_slot forgets own (TakesLeave ∷ past) ≡ names_by_slot forgets own past
  unfolding names_by_slot
  naming-leaves past = refl

  pub are_slots : (past : List OwnFact) → AreSlots own (roster forgets own past) (names_by_slot forgets own past)
  are_slots [] =
      subst (AreSlots own (roster forgets own [])) (sym naming-nil)
      (subst (λ ns. AreSlots own ns (own_slots own)) (sym (roster-nil forgets own)) (start own))
  are_slots (Told c ∷ past) = elim (cases_Bool (makes_known forgets own (roster forgets own past) c)) [
    | inl t ↦ (
        let new = is_new forgets own (roster forgets own past) c t in
        subst (AreSlots own (roster forgets own (Told c ∷ past))) (sym (naming-new c past t))
        (subst (λ ns. AreSlots own ns (named c.name (names_by_slot forgets own past))) (sym (roster-new forgets own c past t))
        (joining own (roster forgets own past) (names_by_slot forgets own past) c.name (are_slots past) (λ e. new.other (sym e)) new.out new.room)))
    | inr f ↦ (
        subst (AreSlots own (roster forgets own (Told c ∷ past))) (sym (naming-passed c past f))
        (subst (λ ns. AreSlots own ns (names_by_slot forgets own past)) (sym (roster-passed forgets own c past f)) (are_slots past)))
  ]
  are_slots (Forgets n ∷ past) = elim (cases_key names_order n own) [
    | inl e ↦ (
        let names : names_by_slot forgets own (Forgets n ∷ past) ≡ names_by_slot forgets own past =
        naming-forgot n past ∙ ap (λ b. cond b (names_by_slot forgets own past) (freed n (names_by_slot forgets own past))) (same_key names_order n own e) in
        let others : roster forgets own (Forgets n ∷ past) ≡ roster forgets own past =
        roster-forgot forgets own n past ∙ without-out n (roster forgets own past) (subst (λ k. is_known k (roster forgets own past) ≡ false) (sym e) (own_unknown forgets own past)) in
        subst (AreSlots own (roster forgets own (Forgets n ∷ past))) (sym names)
        (subst (λ ns. AreSlots own ns (names_by_slot forgets own past)) (sym others) (are_slots past)))
    | inr d ↦ (
        let names : names_by_slot forgets own (Forgets n ∷ past) ≡ freed n (names_by_slot forgets own past) =
        naming-forgot n past ∙ ap (λ b. cond b (names_by_slot forgets own past) (freed n (names_by_slot forgets own past))) (other_key names_order n own d) in
        subst (AreSlots own (roster forgets own (Forgets n ∷ past))) (sym names)
        (subst (λ ns. AreSlots own ns (freed n (names_by_slot forgets own past))) (sym (roster-forgot forgets own n past))
        (leaving own (roster forgets own past) (names_by_slot forgets own past) n (rises-roster forgets own past) (are_slots past) (λ e. d (sym e)))))
  ]
  are_slots (TakesLeave ∷ past) =
      subst (AreSlots own (roster forgets own (TakesLeave ∷ past))) (sym (naming-leaves past))
      (subst (λ ns. AreSlots own ns (names_by_slot forgets own past)) (sym (roster-leaves forgets own past)) (are_slots past))

  -- whatever is heard of another, the names are those of the past
  pub heard-names : (c : Claim) (past : List OwnFact) → c.name ≢ own
      → names_heard (takes forgets (table_of forgets own past) c) (names_by_slot forgets own past) c ≡ names_by_slot forgets own (Told c ∷ past)
  heard-names c past d = elim (joined forgets own c past d) [
    | Knew a names ↦ (
        heard-known (takes forgets (table_of forgets own past) c) (names_by_slot forgets own past) c
        ((are_slots past).holding c.name ∙ or_right (is_same name_cmp own c.name) a)
        ∙ sym (naming-passed c past (makes-known forgets own (roster forgets own past) c a)))
    | Joins new names ↦ (
        ap (λ b. names_heard b (names_by_slot forgets own past) c) (takes_unknown forgets own c past new.out ∙ new.let_in)
        ∙ heard-named (names_by_slot forgets own past) c
        (unheld own (roster forgets own past) (names_by_slot forgets own past) c.name (are_slots past) (λ e. d (sym e)) new.out)
        ∙ sym (naming-new c past new.made))
    | Refused out full names ↦ (
        ap (λ b. names_heard b (names_by_slot forgets own past) c) (takes_unknown forgets own c past out ∙ full)
        ∙ sym (naming-passed c past (makes-unknown forgets own (roster forgets own past) c d out ∙ full)))
  ]

  -- What a member knows once it heard a claim about another is what it knows after the past with that claim,
  pub heard-past : (c : Claim) (past : List OwnFact) → c.name ≢ own → members_heard (known_of forgets own past) c ≡ known_of forgets own (Told c ∷ past)
  heard-past c past d = λ i. record {
    own = own;
    forgets = forgets;
    table = heard-table forgets own c past d i;
    names = heard-names c past d i;
  }

  -- a claim about this member itself changes nothing of that,
  pub heard-oneself : (past : List OwnFact) (c : Claim) → c.name ≡ own → known_of forgets own (Told c ∷ past) ≡ known_of forgets own past
  heard-oneself past c e = λ i. record {
    own = own;
    forgets = forgets;
    table = table-own forgets own c past e i;
    names = naming-passed c past (makes-own forgets own (roster forgets own past) c e) i;
  }

  -- nor does its leave,
  pub known-leaves : (past : List OwnFact) → known_of forgets own (TakesLeave ∷ past) ≡ known_of forgets own past
  known-leaves past = λ i. record { own = own; forgets = forgets; table = table-leaves forgets own past i; names = naming-leaves past i }

  -- and what it knows once it forgot a name is what it knows after the past with that.
  pub forgot-past : (n : List ℕ) (past : List OwnFact) → members_forgot n (known_of forgets own past) ≡ known_of forgets own (Forgets n ∷ past)
  forgot-past n past = elim (cases_key names_order n own) [
    | inl e ↦ (
        let gone = subst (λ k. row_at name_cmp name_of k (table_of forgets own past) ≡ None) (sym e) (row_at_own-table forgets own past) in
        let table = without-missing names_order name_of n (table_of forgets own past) (rises-table forgets own past) gone in
        ap (λ b. cond b (known_of forgets own past) after) (same_key names_order n own e)
        ∙ (λ i. record {
          own = own;
          forgets = forgets;
          table = (sym table ∙ table-forgot forgets own n past) i;
          names = sym (naming-forgot n past ∙ ap (λ b. cond b (names_by_slot forgets own past) (freed n (names_by_slot forgets own past))) (same_key names_order n own e)) i;
        }))
    | inr d ↦ (
        ap (λ b. cond b (known_of forgets own past) after) (other_key names_order n own d)
        ∙ (λ i. record {
          own = own;
          forgets = forgets;
          table = table-forgot forgets own n past i;
          names = sym (naming-forgot n past ∙ ap (λ b. cond b (names_by_slot forgets own past) (freed n (names_by_slot forgets own past))) (other_key names_order n own d)) i;
        }))
  ]
    where
      after : MembersValue
      after = record {
        own = own;
        forgets = forgets;
        table = without_row name_cmp name_of n (table_of forgets own past);
        names = freed n (names_by_slot forgets own past);
      }

-- Each slot keeps its name when a claim is heard.
pub heard-kept : (taken : Bool) (before after : Slots) (c : Claim) → after ≡ names_heard taken before c → (slot : ℕ) (name : List ℕ)
    → get_or before slot None ≡ Some name → get_or after slot None ≡ Some name
heard-kept false before after c e slot name h = ap (λ ns. get_or ns slot None) e ∙ h
heard-kept true before after c e slot name h =
    ap (λ ns. get_or ns slot None) e ∙ elim (cases_Bool (is_held c.name before)) [
      | inl t ↦ ap (λ ns. get_or ns slot None) (heard-known true before c t) ∙ h
      | inr f ↦ elim (held (free_slot before)) [
        | Holding free is ↦ ap (λ ns. get_or ns slot None) (heard-new before c free f is)
            ∙ named-kept c.name name before free slot is h
        | Missing none ↦ ap (λ ns. get_or ns slot None) (heard-named before c f ∙ ap (λ o. with_name o c.name before) none) ∙ h
      ]
    ]
