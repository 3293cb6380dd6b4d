-- A member that never forgets knows the first of whom it heard.
use Rattle.std.proofs.Common.{◌≡◌, ◌≢◌, ℕ, suc, ◌-◌, ◌<◌, ◌≤◌, Bool, true, false, not, ◌&&◌, List, [], ◌∷◌, ◌++◌, length, map, set, replicate, reverse, Some, None, inl, inr, refl, sym, ◌∙◌, ap, arith}
use Rattle.std.proofs.lemmas.Bool.{cases_Bool, false≢true, lt-ltb, le-ltb}
use Rattle.std.proofs.lemmas.Grind.{reverse_onto}
use Rattle.std.proofs.lemmas.List.{length-reverse, length_push}
use Rattle.lg_rules.specs.declared.claim.Claim.{Claim}
use Rattle.lg_rules.specs.Meaning.Beats.{beats_of}
use Rattle.lg_rules.specs.Meaning.Claim.{is_gone}
use Rattle.lg_rules.specs.Meaning.Own.{Told}
use Rattle.lg_rules.specs.Meaning.Past.{earliest_unbeaten, oldest}
use Rattle.lg_rules.specs.Meaning.Rows.{name_cmp, is_same, put_key, distinct}
use Rattle.lg_rules.specs.Meaning.Slots.{free_slot, named, own_slots, with_name}
use Rattle.lg_rules.specs.Meaning.Table.{lets_in, makes_known, names_by_slot, record_of, roster, story}
use Rattle.lg_rules.specs.Meaning.Unforgotten.{about, names_said, first_known, first_record, in_slots, slots_by_appearance}
use Rattle.lg_rules.proofs.FirstKnown.{names-own, names-other, different, different-said, different-new, first_known-nil, first_known-own, known_said, length-different, many_different, Knew, Joins, Refused, joined}
use Rattle.lg_rules.proofs.KeyOrder.{names_order, same_key, other_key, cases_key}
use Rattle.lg_rules.proofs.Naming.{naming-nil, naming-new, naming-passed}
use Rattle.lg_rules.proofs.PastLaws.{neither, oldest-all, oldest-more}
use Rattle.lg_rules.proofs.Roster.{is_known, makes-own, makes-known, makes-unknown, roster-nil, roster-new, roster-passed, own_unknown, others_known}
use Rattle.lg_rules.proofs.SlotLaws.{Slots}
use Rattle.lg_rules.proofs.Stories.{story-counts, story-other, story_unknown, record_of-story}

let_in : (n : ℕ) (c : Claim) → n < 255 → lets_in false n c ≡ true
let_in n c few = ap (λ b. b && not (false && is_gone c.status)) (lt-ltb n 255 few)

kept_out : (n : ℕ) (c : Claim) → 255 ≤ n → lets_in false n c ≡ false
kept_out n c many = ap (λ b. b && not (false && is_gone c.status)) (le-ltb n 255 many)

-- whether one more claim makes its name known, by the first names
makes : (own : List ℕ) (c : Claim) (past : List Claim) → roster false own (map Told past) ≡ first_known own past → c.name ≢ own → is_known c.name (first_known own past) ≡ false
    → makes_known false own (roster false own (map Told past)) c ≡ lets_in false (length (first_known own past)) c
makes own c past ih d out =
    makes-unknown false own (roster false own (map Told past)) c d (ap (is_known c.name) ih ∙ out) ∙ ap (λ ns. lets_in false (length ns) c) ih

-- the same names are known
pub same-known : (own : List ℕ) (past : List Claim) → roster false own (map Told past) ≡ first_known own past
same-known own [] = roster-nil false own ∙ sym (first_known-nil own)
same-known own (c ∷ past) =
    let ih = same-known own past in
    let facts = map Told past in
    elim (cases_key names_order c.name own) [
      | inl e ↦ roster-passed false own c facts (makes-own false own (roster false own facts) c e) ∙ ih ∙ sym (first_known-own own c past e)
      | inr d ↦ elim (joined own c past d) [
        | Knew a names ↦ roster-passed false own c facts (makes-known false own (roster false own facts) c (ap (is_known c.name) ih ∙ a)) ∙ ih ∙ sym names
        | Joins unsaid out room names ↦ roster-new false own c facts (makes own c past ih d out ∙ let_in (length (first_known own past)) c room) ∙ ap (put_key name_cmp c.name) ih ∙ sym names
        | Refused out full names ↦ roster-passed false own c facts (makes own c past ih d out ∙ kept_out (length (first_known own past)) c full) ∙ ih ∙ sym names
      ]
    ]

-- all claims about who is known count
about_unsaid : (own : List ℕ) (past : List Claim) (m : List ℕ) → m ≢ own → is_known m (names_said own past) ≡ false → about m past ≡ []
about_unsaid own [] m d f = refl
about_unsaid own (c ∷ past) m d f = elim (cases_key names_order c.name own) [
  | inl e ↦ rw (other_key names_order c.name m (λ s. d (sym s ∙ e))) (about_unsaid own past m d (sym (ap (is_known m) (names-own own c past e)) ∙ f))
  | inr u ↦ (
      let parts = neither (is_same name_cmp c.name m) (is_known m (names_said own past)) (sym (ap (is_known m) (names-other own c past u)) ∙ f) in
      rw parts.0 (about_unsaid own past m d parts.1))
]

story-all : (own : List ℕ) (past : List Claim) (m : List ℕ) → is_known m (first_known own past) ≡ true → story false own (map Told past) m ≡ about m past
story-all own [] m a = absurd (false≢true (sym (ap (is_known m) (first_known-nil own)) ∙ a))
story-all own (c ∷ past) m a =
    let facts = map Told past in
    let later : is_known m (roster false own (Told c ∷ facts)) ≡ true = ap (is_known m) (same-known own (c ∷ past)) ∙ a in
    elim (cases_key names_order c.name m) [
      | inr d ↦ (
          let before : is_known m (first_known own past) ≡ true =
          sym (ap (is_known m) (same-known own past)) ∙ sym (others_known false own c facts m d) ∙ later in
          story-other false own c facts m d ∙ story-all own past m before ∙ sym (about-other d))
      | inl e ↦ story-counts false own c facts m e later ∙ ap (λ cs. c ∷ cs) (rest e (λ t. story-all own past m t) (is_known m (first_known own past)) refl) ∙ sym (about-same e)
    ]
  where
    about-other : c.name ≢ m → about m (c ∷ past) ≡ about m past
    about-other d = rw (other_key names_order c.name m d) refl

    about-same : c.name ≡ m → about m (c ∷ past) ≡ c ∷ about m past
    about-same e = rw (same_key names_order c.name m e) refl

    not_own : m ≢ own
    not_own e =
        false≢true (sym (own_unknown false own (map Told (c ∷ past)))
        ∙ ap (is_known own) (same-known own (c ∷ past)) ∙ ap (λ k. is_known k (first_known own (c ∷ past))) (sym e) ∙ a)

    rest : c.name ≡ m → (is_known m (first_known own past) ≡ true → story false own (map Told past) m ≡ about m past)
        → (b : Bool) → is_known m (first_known own past) ≡ b → story false own (map Told past) m ≡ about m past
    rest e before true t = before t
    rest e before false f = elim (joined own c past (λ s. not_own (sym e ∙ s))) [
      | Knew known names ↦ absurd (false≢true (sym f ∙ ap (λ k. is_known k (first_known own past)) (sym e) ∙ known))
      | Joins unsaid out room names ↦ (
          story_unknown false own (map Told past) m (ap (is_known m) (same-known own past) ∙ f)
          ∙ sym (about_unsaid own past m not_own (ap (λ k. is_known k (names_said own past)) (sym e) ∙ unsaid)))
      | Refused out full names ↦ absurd (false≢true (sym f ∙ ap (is_known m) (sym names) ∙ a))
    ]

pub same-record : (own : List ℕ) (past : List Claim) (m : List ℕ) → is_known m (first_known own past) ≡ true → record_of false own (map Told past) m ≡ first_record past m
unfolding first_record
same-record own past m a = record_of-story false own (map Told past) m ∙ ap (earliest_unbeaten beats_of) (story-all own past m a)

-- These names have the slots from 0 on, and the others are free.
free-in : (ns : List (List ℕ)) (room : ℕ) → free_slot (map Some ns ++ replicate (suc room) None) ≡ Some (length ns)
free-in [] room = refl
free-in (n ∷ ns) room = rw (free-in ns room) refl

set-in : (ns : List (List ℕ)) (n : List ℕ) (room : ℕ)
    → set (map Some ns ++ replicate (suc room) None) (length ns) (Some n)
    ≡ map Some (ns ++ n ∷ []) ++ replicate room None
set-in [] n room = refl
set-in (m ∷ ns) n room = ap (λ os. Some m ∷ os) (set-in ns n room)

named-in : (ns : List (List ℕ)) (n : List ℕ) → length ns < 256 → named n (in_slots ns) ≡ in_slots (ns ++ n ∷ [])
named-in ns n few =
    let after = length (ns ++ n ∷ []) in
    let room : 256 - length ns ≡ suc (256 - after) = omega (arith, few, length_push ns n) in
    let row : ℕ → Slots = λ k. map Some ns ++ replicate k None in
    ap (λ k. named n (row k)) room
    ∙ ap (λ o. with_name o n (row (suc (256 - after)))) (free-in ns (256 - after))
    ∙ set-in ns n (256 - after)

-- the first names, by appearance
appearance-said : (own : List ℕ) (c : Claim) (past : List Claim) → different own (c ∷ past) ≡ different own past → slots_by_appearance own (c ∷ past) ≡ slots_by_appearance own past
unfolding slots_by_appearance
appearance-said own c past e = ap (λ ns. in_slots (own ∷ reverse (oldest 255 ns))) e

appearance-new : (own : List ℕ) (c : Claim) (past : List Claim) → different own (c ∷ past) ≡ c.name ∷ different own past → length (different own past) < 255
    → named c.name (slots_by_appearance own past) ≡ slots_by_appearance own (c ∷ past)
unfolding slots_by_appearance
appearance-new own c past e few =
    let ns = different own past in
    let all : oldest 255 ns ≡ ns = oldest-all 255 ns (omega arith) in
    let more : oldest 255 (c.name ∷ ns) ≡ c.name ∷ ns = oldest-all 255 (c.name ∷ ns) (omega arith) in
    ap (λ ms. named c.name (in_slots (own ∷ reverse ms))) all
    ∙ named-in (own ∷ reverse ns) c.name (omega (arith, few, length-reverse ns))
    ∙ ap (λ ms. in_slots (own ∷ ms)) (sym (reverse_onto ns c.name []))
    ∙ sym (ap (λ ms. in_slots (own ∷ reverse (oldest 255 ms))) e ∙ ap (λ ms. in_slots (own ∷ reverse ms)) more)

appearance-full : (own : List ℕ) (c : Claim) (past : List Claim) → different own (c ∷ past) ≡ c.name ∷ different own past → 255 ≤ length (different own past)
    → slots_by_appearance own (c ∷ past) ≡ slots_by_appearance own past
unfolding slots_by_appearance
appearance-full own c past e many =
    ap (λ ms. in_slots (own ∷ reverse (oldest 255 ms))) e
    ∙ ap (λ ms. in_slots (own ∷ reverse ms)) (oldest-more 255 c.name (different own past) many)

appearance-nil : (own : List ℕ) → own_slots own ≡ slots_by_appearance own []
unfolding slots_by_appearance
appearance-nil own = refl

pub same-slots : (own : List ℕ) (past : List Claim) → names_by_slot false own (map Told past) ≡ slots_by_appearance own past
same-slots own [] = naming-nil false own ∙ appearance-nil own
same-slots own (c ∷ past) =
    let ih = same-slots own past in
    let known = same-known own past in
    let facts = map Told past in
    elim (cases_key names_order c.name own) [
      | inl e ↦ naming-passed false own c facts (makes-own false own (roster false own facts) c e) ∙ ih ∙ sym (appearance-said own c past (ap (distinct name_cmp) (names-own own c past e)))
      | inr d ↦ elim (joined own c past d) [
        | Knew a names ↦ (
            naming-passed false own c facts (makes-known false own (roster false own facts) c (ap (is_known c.name) known ∙ a))
            ∙ ih ∙ sym (appearance-said own c past (different-said own c past d (known_said own past c.name a))))
        | Joins unsaid out room names ↦ (
            naming-new false own c facts (makes own c past known d out ∙ let_in (length (first_known own past)) c room)
            ∙ ap (named c.name) ih
            ∙ appearance-new own c past (different-new own c past d unsaid) (length-different own past room))
        | Refused out full names ↦ (
            naming-passed false own c facts (makes own c past known d out ∙ kept_out (length (first_known own past)) c full)
            ∙ ih ∙ sym (refused d full))
      ]
    ]
  where
    refused : c.name ≢ own → 255 ≤ length (first_known own past) → slots_by_appearance own (c ∷ past) ≡ slots_by_appearance own past
    refused d full = elim (cases_Bool (is_known c.name (names_said own past))) [
      | inl t ↦ appearance-said own c past (different-said own c past d t)
      | inr f ↦ appearance-full own c past (different-new own c past d f) (many_different own past full)
    ]
