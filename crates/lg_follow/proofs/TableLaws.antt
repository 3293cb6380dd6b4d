-- What is found in a table from which names were taken out, and into which records were put. The names that were
-- forgotten and the records that differ lead from one table to another.
use Rattle.std.proofs.Common.{◌≡◌, ℕ, Bool, true, false, not, ◌&&◌, ◌||◌, cond, List, [], ◌∷◌, ◌++◌, map, Option, Some, None, inl, inr, refl, sym, ap, ◌∙◌, subst}
use Rattle.std.specs.Prelude.{filter, is_none}
use Rattle.std.specs.Ordering.{is_eq}
use Rattle.std.specs.declared.cmp.Ordering.TheVariants.{Less, Equal, Greater}
use Rattle.std.proofs.lemmas.Bool.{cases_Bool, false≢true}
use Rattle.lg_rules.specs.declared.claim.Claim.{Claim}
use Rattle.lg_rules.specs.Meaning.Claim.{name_of}
use Rattle.lg_rules.specs.Meaning.Rows.{by_order, name_cmp, is_same, is_among, put_row, row_at, without_row, AreAbove, Rises}
use Rattle.lg_rules.specs.Meaning.View.{is_row, changed}
use Rattle.lg_rules.proofs.Cases.{Missing, Holding, held, Below, Tied, Above, compared}
use Rattle.lg_rules.proofs.Changes.{same_claim}
use Rattle.lg_changes.specs.declared.change.Change.{Change}
use Rattle.lg_changes.specs.Meaning.Changes.{recorded_at, forgotten_at}
use Rattle.lg_rules.proofs.KeyOrder.{names_order, cases_key, same_key, other_key, turned}
use Rattle.lg_rules.proofs.Removing.{rises-without, row_at-without}
use Rattle.lg_rules.proofs.Rises.{above_lower}
use Rattle.lg_rules.proofs.RowLaws.{row_at-put}
use Rattle.lg_rules.proofs.RowsFound.{rises-put_row}
use Rattle.lg_membership.proofs.Chosen.{found_key}
use Rattle.lg_membership.proofs.Putting.{same_rows}
use Rattle.lg_detector.proofs.RowFilters.{row_at-less}
use Rattle.lg_view.specs.Meaning.Changes.{changes_by}
use Rattle.lg_follow.specs.Meaning.Sights.{alter_each}

-- the record of a name
abbrev pub found : List ℕ → List Claim → Option Claim
found m rows = row_at name_cmp name_of m rows

-- the names of a table rise
abbrev pub InOrder : List Claim → Type 0
InOrder rows = Rises name_cmp (map name_of rows)

-- a table into which these records were put, one after another
abbrev pub puts : List Claim → List Claim → List Claim
puts [] table = table
puts (c ∷ cs) table = puts cs (put_row name_cmp name_of c table)

-- a table from which the records of these names were taken out
abbrev pub withouts : List (List ℕ) → List Claim → List Claim
withouts [] table = table
withouts (n ∷ ns) table = withouts ns (without_row name_cmp name_of n table)

-- a name that has no record in a table had none in the earlier one, or is one of those that were taken out
abbrev pub Keeps : List (List ℕ) → List Claim → List Claim → Type 0
Keeps names before after = (m : List ℕ) → found m after ≡ None → found m (withouts names before) ≡ None

-- of the later table, the records of these names that stood in the earlier one
abbrev same_again : List (List ℕ) → List Claim → List Claim → List Claim
same_again names before after = filter (λ r. is_among name_cmp r.name names && is_row r (found r.name before)) after

pub rises-withouts : (ns : List (List ℕ)) (table : List Claim) → InOrder table → InOrder (withouts ns table)
rises-withouts [] table up = up
rises-withouts (n ∷ ns) table up = rises-withouts ns (without_row name_cmp name_of n table) (rises-without names_order name_of n table up)

pub withouts_none : (ns : List (List ℕ)) → withouts ns [] ≡ []
withouts_none [] = refl
withouts_none (n ∷ ns) = withouts_none ns

pub withouts_more : (ns : List (List ℕ)) (n : List ℕ) (table : List Claim) → withouts (ns ++ n ∷ []) table ≡ without_row name_cmp name_of n (withouts ns table)
withouts_more [] n table = refl
withouts_more (m ∷ ns) n table = withouts_more ns n (without_row name_cmp name_of m table)

-- what was missing is missing still
pub still_none : (m n : List ℕ) (table : List Claim) → InOrder table → found m table ≡ None → found m (without_row name_cmp name_of n table) ≡ None
still_none m n table up none = elim (cases_key names_order n m) [
  | inl is ↦ subst (λ (k : List ℕ). found k (without_row name_cmp name_of n table) ≡ None) is (row_at-without names_order name_of n table)
  | inr d ↦ row_at-less names_order name_of n m table up d ∙ none
]

-- a name that isn't one of these keeps its record
found_others : (m : List ℕ) (ns : List (List ℕ)) (table : List Claim) → InOrder table → is_among name_cmp m ns ≡ false → found m (withouts ns table) ≡ found m table
found_others m [] table up out = refl
found_others m (n ∷ ns) table up out =
    let parts = neither (is_same name_cmp n m) (is_among name_cmp m ns) out in
    found_others m ns (without_row name_cmp name_of n table) (rises-without names_order name_of n table up) parts.1
    ∙ row_at-less names_order name_of n m table up (λ is. false≢true (sym parts.0 ∙ same_key names_order n m is))
  where
    neither : (a b : Bool) → (a || b) ≡ false → (a ≡ false) × (b ≡ false)
    neither true b e = absurd cc
    neither false b e = (refl, e)

-- what was missing is missing still, and what was taken out is missing
withouts_still : (m : List ℕ) (ns : List (List ℕ)) (table : List Claim) → InOrder table → found m table ≡ None → found m (withouts ns table) ≡ None
withouts_still m [] table up none = none
withouts_still m (n ∷ ns) table up none =
    withouts_still m ns (without_row name_cmp name_of n table) (rises-without names_order name_of n table up) (still_none m n table up none)

taken_out : (m : List ℕ) (ns : List (List ℕ)) (table : List Claim) → InOrder table → is_among name_cmp m ns ≡ true → found m (withouts ns table) ≡ None
taken_out m [] table up e = absurd cc
taken_out m (n ∷ ns) table up e =
    let less : List Claim = without_row name_cmp name_of n table in
    let low : InOrder less = rises-without names_order name_of n table up in
    elim (cases_key names_order n m) [
      | inl is ↦ withouts_still m ns less low (subst (λ (k : List ℕ). found k less ≡ None) is (row_at-without names_order name_of n table))
      | inr d ↦ taken_out m ns less low (ap (λ (b : Bool). b || is_among name_cmp m ns) (sym (other_key names_order n m d)) ∙ e)
    ]

-- Of some names those that pass a test: one that passes it is among them still, and one that doesn't is not.
module _ (p : List ℕ → Bool) where
  or_right : (a : Bool) {b : Bool} → b ≡ true → (a || b) ≡ true
  or_right true e = refl
  or_right false e = e

  among_passed : (m : List ℕ) (ns : List (List ℕ)) → p m ≡ true → is_among name_cmp m ns ≡ true → is_among name_cmp m (filter p ns) ≡ true
  among_passed m [] pass e = e
  among_passed m (n ∷ ns) pass e = elim (cases_key names_order n m) [
    | inl is ↦ (
        let test : p n ≡ true = ap p is ∙ pass in
        rw test (ap (λ (b : Bool). b || is_among name_cmp m (filter p ns)) (same_key names_order n m is)))
    | inr d ↦ (
        let rest : is_among name_cmp m (filter p ns) ≡ true =
        among_passed m ns pass (ap (λ (b : Bool). b || is_among name_cmp m ns) (sym (other_key names_order n m d)) ∙ e) in
        elim (cases_Bool (p n)) [
          | inl t ↦ rw t (or_right (is_same name_cmp n m) rest)
          | inr f ↦ rw f rest
        ])
  ]

  none_passed : (m : List ℕ) (ns : List (List ℕ)) → p m ≡ false → is_among name_cmp m (filter p ns) ≡ false
  none_passed m [] fail = refl
  none_passed m (n ∷ ns) fail = elim (cases_Bool (p n)) [
    | inl t ↦ rw t (
        ap (λ (b : Bool). b || is_among name_cmp m (filter p ns)) (other_key names_order n m (λ is. false≢true (sym fail ∙ sym (ap p is) ∙ t)))
        ∙ none_passed m ns fail)
    | inr f ↦ rw f (none_passed m ns fail)
  ]

-- the first of two records, if there is one
abbrev first_of : Option Claim → Option Claim → Option Claim
first_of None o = o
first_of (Some r) o = Some r

first_alone : (o : Option Claim) → first_of o None ≡ o
first_alone None = refl
first_alone (Some r) = refl

found_above : (m : List ℕ) (rows : List Claim) → AreAbove name_cmp m (map name_of rows) → found m rows ≡ None
found_above m [] a = refl
found_above m (x ∷ xs) a = rw a.0

rises-puts : (cs table : List Claim) → InOrder table → InOrder (puts cs table)
rises-puts [] table up = up
rises-puts (c ∷ cs) table up = rises-puts cs (put_row name_cmp name_of c table) (rises-put_row names_order name_of c table up)

-- what is found of a name: the record that was put, or else the one before
found_puts : (m : List ℕ) (cs table : List Claim) → InOrder cs → found m (puts cs table) ≡ first_of (found m cs) (found m table)
found_puts m [] table up = refl
found_puts m (c ∷ cs) table up =
    let rest : found m (puts (c ∷ cs) table) ≡ first_of (found m cs) (cond (is_same name_cmp c.name m) (Some c) (found m table)) =
    found_puts m cs (put_row name_cmp name_of c table) up.1 ∙ ap (λ (o : Option Claim). first_of (found m cs) o) (row_at-put names_order name_of m c table) in
    elim (compared (name_cmp m c.name)) [
      | Below l ↦ (
          let none : found m cs ≡ None = found_above m cs (above_lower names_order m c.name (map name_of cs) l up.0) in
          let other : is_same name_cmp c.name m ≡ false = ap is_eq (turned names_order m c.name Less l) in
          rest
          ∙ (λ i. first_of (none i) (cond (other i) (Some c) (found m table)))
          ∙ sym (ap (λ o. first_of (by_order o None (Some c) (found m cs)) (found m table)) l))
      | Tied t ↦ (
          let one : c.name ≡ m = sym (names_order.exact m c.name t) in
          let none : found m cs ≡ None = found_above m cs (subst (λ (k : List ℕ). AreAbove name_cmp k (map name_of cs)) one up.0) in
          let same : is_same name_cmp c.name m ≡ true = ap is_eq (turned names_order m c.name Equal t) in
          rest
          ∙ (λ i. first_of (none i) (cond (same i) (Some c) (found m table)))
          ∙ sym (ap (λ o. first_of (by_order o None (Some c) (found m cs)) (found m table)) t))
      | Above g ↦ (
          let other : is_same name_cmp c.name m ≡ false = ap is_eq (turned names_order m c.name Greater g) in
          rest
          ∙ ap (λ (b : Bool). first_of (found m cs) (cond b (Some c) (found m table))) other
          ∙ sym (ap (λ o. first_of (by_order o None (Some c) (found m cs)) (found m table)) g))
    ]

-- a record, if it passes a test
abbrev kept : (Claim → Bool) → Option Claim → Option Claim
kept p None = None
kept p (Some r) = cond (p r) (Some r) None

module _ (p : Claim → Bool) where
  above_kept : (m : List ℕ) (rows : List Claim) → AreAbove name_cmp m (map name_of rows) → AreAbove name_cmp m (map name_of (filter p rows))
  above_kept m [] a = a
  above_kept m (x ∷ xs) a = elim (cases_Bool (p x)) [
    | inl t ↦ rw t (a.0, above_kept m xs a.1)
    | inr f ↦ rw f (above_kept m xs a.1)
  ]

  rises-kept : (rows : List Claim) → InOrder rows → InOrder (filter p rows)
  rises-kept [] up = up
  rises-kept (x ∷ xs) up = elim (cases_Bool (p x)) [
    | inl t ↦ rw t (above_kept x.name xs up.0, rises-kept xs up.1)
    | inr f ↦ rw f (rises-kept xs up.1)
  ]

  none_kept : (m : List ℕ) (rows : List Claim) → AreAbove name_cmp m (map name_of rows) → found m (filter p rows) ≡ None
  none_kept m rows a = found_above m (filter p rows) (above_kept m rows a)

  -- what is found among the records that pass the test
  found_kept : (m : List ℕ) (rows : List Claim) → InOrder rows → found m (filter p rows) ≡ kept p (found m rows)
  found_kept m [] up = refl
  found_kept m (x ∷ xs) up =
      let rest : List Claim = filter p xs in
      let front : (b : Bool) → p x ≡ b → found m (filter p (x ∷ xs)) ≡ found m (cond b (x ∷ rest) rest) = λ b e. ap (λ (t : Bool). found m (cond t (x ∷ rest) rest)) e in
      elim (compared (name_cmp m x.name)) [
        | Below l ↦ (
            none_kept m (x ∷ xs) (l, above_lower names_order m x.name (map name_of xs) l up.0)
            ∙ sym (ap (λ o. kept p (by_order o None (Some x) (found m xs))) l))
        | Tied t ↦ (
            let back : (b : Bool) → p x ≡ b → kept p (found m (x ∷ xs)) ≡ cond b (Some x) None = λ b e. ap (λ o. kept p (by_order o None (Some x) (found m xs))) t ∙ ap (λ (c : Bool). cond c (Some x) None) e in
            let one : x.name ≡ m = sym (names_order.exact m x.name t) in
            elim (cases_Bool (p x)) [
              | inl e ↦ front true e ∙ ap (λ o. by_order o None (Some x) (found m rest)) t ∙ sym (back true e)
              | inr e ↦ front false e ∙ none_kept m xs (subst (λ (k : List ℕ). AreAbove name_cmp k (map name_of xs)) one up.0) ∙ sym (back false e)
            ])
        | Above g ↦ (
            let back : kept p (found m (x ∷ xs)) ≡ kept p (found m xs) = ap (λ o. kept p (by_order o None (Some x) (found m xs))) g in
            elim (cases_Bool (p x)) [
              | inl e ↦ front true e ∙ ap (λ o. by_order o None (Some x) (found m rest)) g ∙ found_kept m xs up.1 ∙ sym back
              | inr e ↦ front false e ∙ found_kept m xs up.1 ∙ sym back
            ])
      ]

row_is : (r : Claim) (o : Option Claim) → is_row r o ≡ true → o ≡ Some r
row_is r None e = absurd (false≢true e)
row_is r (Some b) e = ap Some (same_claim b r e)

module _ (names : List (List ℕ)) (before after : List Claim) where
  abbrev differs : Claim → Bool
  differs r = not (is_row r (found r.name before))

  abbrev is_again : Claim → Bool
  is_again r = is_among name_cmp r.name names && is_row r (found r.name before)

  -- a record that isn't the same again passes no such test
  none_again : (m : List ℕ) (r : Claim) → InOrder after → same_again names before after ≡ [] → found m after ≡ Some r → is_again r ≡ false
  none_again m r up' none e =
      failed (is_again r)
      (sym (ap (kept is_again) e) ∙ sym (found_kept is_again m after up') ∙ ap (λ (rows : List Claim). found m rows) none)
    where
      failed : (b : Bool) → cond b (Some r) None ≡ None → b ≡ false
      failed true bad = absurd cc
      failed false is = refl

  -- a record of the later table was put, or stood there before
  found_told : (m : List ℕ) (r : Claim) → r.name ≡ m → InOrder before → is_again r ≡ false
      → first_of (cond (differs r) (Some r) None) (found m (withouts names before)) ≡ Some r
  found_told m r named up new = elim (cases_Bool (is_row r (found r.name before))) [
    | inl t ↦ (
        let out : is_among name_cmp r.name names ≡ false = first_false (is_among name_cmp r.name names) (is_row r (found r.name before)) t new in
        ap (λ (b : Bool). first_of (cond (not b) (Some r) None) (found m (withouts names before))) t
        ∙ ap (λ (k : List ℕ). found k (withouts names before)) (sym named)
        ∙ found_others r.name names before up out
        ∙ row_is r (found r.name before) t)
    | inr f ↦ ap (λ (b : Bool). first_of (cond (not b) (Some r) None) (found m (withouts names before))) f
  ]
    where
      first_false : (a b : Bool) → b ≡ true → (a && b) ≡ false → a ≡ false
      first_false true b t e = absurd (false≢true (sym e ∙ t))
      first_false false b t e = refl

  found_after : (m : List ℕ) → InOrder before → InOrder after → Keeps names before after → same_again names before after ≡ []
      → first_of (kept differs (found m after)) (found m (withouts names before)) ≡ found m after
  found_after m up up' keeps none = elim (held (found m after)) [
    | Missing e ↦ ap (λ (o : Option Claim). first_of (kept differs o) (found m (withouts names before))) e ∙ keeps m e ∙ sym e
    | Holding r e ↦ (
        ap (λ (o : Option Claim). first_of (kept differs o) (found m (withouts names before))) e
        ∙ found_told m r (found_key names_order name_of m after r e) up (none_again m r up' none e)
        ∙ sym e)
  ]

  -- The records that differ, put into the table before without the names that were taken out, give the one after.
  changed_leads : InOrder before → InOrder after → Keeps names before after → same_again names before after ≡ []
      → puts (changed before after) (withouts names before) ≡ after
  changed_leads up up' keeps none =
      let less : List Claim = withouts names before in
      same_rows names_order name_of (puts (changed before after) less) after (rises-puts (changed before after) less (rises-withouts names before up)) up'
      (λ m.
      found_puts m (changed before after) less (rises-kept differs after up')
      ∙ ap (λ (o : Option Claim). first_of o (found m less)) (found_kept differs m after up')
      ∙ found_after m up up' keeps none)

-- THE NAMES THAT ARE UNKNOWN
-- Those of some names that have no record in the later table. None of them is the name of a record there, so it is
-- enough that these are taken out.
module _ (names : List (List ℕ)) (before after : List Claim) where
  abbrev pub unknown : List ℕ → Bool
  unknown n = is_none (found n after)

  unknown_keeps : InOrder before → Keeps names before after → Keeps (filter unknown names) before after
  unknown_keeps up keeps m e = elim (cases_Bool (is_among name_cmp m names)) [
    | inl t ↦ taken_out m (filter unknown names) before up (among_passed unknown m names (ap is_none e) t)
    | inr f ↦ withouts_still m (filter unknown names) before up (sym (found_others m names before up f) ∙ keeps m e)
  ]

  abbrev back_again : Claim → Bool
  back_again r = is_among name_cmp r.name (filter unknown names) && is_row r (found r.name before)

  not_back : (m : List ℕ) → kept back_again (found m after) ≡ None
  not_back m = elim (held (found m after)) [
    | Missing e ↦ ap (kept back_again) e
    | Holding r e ↦ (
        let is : r.name ≡ m = found_key names_order name_of m after r e in
        let known : unknown r.name ≡ false = ap (λ (k : List ℕ). is_none (found k after)) is ∙ ap is_none e in
        ap (kept back_again) e
        ∙ ap (λ (b : Bool). cond (b && is_row r (found r.name before)) (Some r) None) (none_passed unknown r.name names known))
  ]

  never_again : InOrder after → same_again (filter unknown names) before after ≡ []
  never_again up' =
      same_rows names_order name_of (filter back_again after) [] (rises-kept back_again after up') tt
      (λ m. found_kept back_again m after up' ∙ not_back m)

  -- The records that differ, put into the table before without the unknown names, give the one after.
  pub unknown_leads : InOrder before → InOrder after → Keeps names before after
      → puts (changed before after) (withouts (filter unknown names) before) ≡ after
  unknown_leads up up' keeps =
      changed_leads (filter unknown names) before after up up' (unknown_keeps up keeps) (never_again up')

-- the records of a table, put into an empty one
pub puts_whole : (rows : List Claim) → InOrder rows → puts rows [] ≡ rows
puts_whole rows up =
    same_rows names_order name_of (puts rows []) rows (rises-puts rows [] tt) up
    (λ m. found_puts m rows [] up ∙ first_alone (found m rows))

pub alter_append : (cs ds : List Change) (table : List Claim) → alter_each (cs ++ ds) table ≡ alter_each ds (alter_each cs table)
alter_append [] ds table = refl
alter_append (c ∷ cs) ds table = alter_append cs ds (alter_each (c ∷ []) table)

module _ (version moment : ℕ) where
  alter_recorded : (rows table : List Claim) → alter_each (map (recorded_at version moment) rows) table ≡ puts rows table
  alter_recorded [] table = refl
  alter_recorded (r ∷ rows) table = alter_recorded rows (put_row name_cmp name_of r table)

  alter_forgotten : (names : List (List ℕ)) (table : List Claim) → alter_each (map (forgotten_at version moment) names) table ≡ withouts names table
  alter_forgotten [] table = refl
  alter_forgotten (n ∷ names) table = alter_forgotten names (without_row name_cmp name_of n table)

  -- what the changes of one event alter
  pub altered_by_one : (names : List (List ℕ)) (rows table : List Claim) → alter_each (changes_by version moment names rows) table ≡ puts rows (withouts names table)
  altered_by_one names rows table =
      alter_append (map (forgotten_at version moment) names) (map (recorded_at version moment) rows) table
      ∙ ap (λ (t : List Claim). alter_each (map (recorded_at version moment) rows) t) (alter_forgotten names table)
      ∙ alter_recorded rows (withouts names table)
