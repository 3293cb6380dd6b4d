-- The table of a past, once one more fact comes.
use Rattle.std.proofs.Common.{◌≡◌, ◌≢◌, ℕ, ◌<◌, ◌≤◌, Bool, true, false, ◌&&◌, not, cond, List, [], ◌∷◌, length, map, Some, None, inl, inr, refl, sym, ◌∙◌, ap, subst, arith, ltb}
use Rattle.std.specs.Prelude.{filter_map}
use Rattle.std.proofs.lemmas.Bool.{cases_Bool, lt-ltb, le-ltb}
use Rattle.lg_rules.specs.declared.claim.Claim.{Claim}
use Rattle.lg_rules.specs.Meaning.Beats.{beats_of}
use Rattle.lg_rules.specs.Meaning.Claim.{is_gone, name_of}
use Rattle.lg_rules.specs.Meaning.Own.{OwnFact, Told, Forgets, TakesLeave}
use Rattle.lg_rules.specs.Meaning.Rows.{name_cmp, put_row, put_key, row_at, without_row, Rises}
use Rattle.lg_rules.specs.Meaning.Table.{lets_in, record_of, roster, table_of, takes, takes_over, heard}
use Rattle.lg_rules.proofs.Cases.{Missing, Holding, held, held_once}
use Rattle.lg_rules.proofs.KeyOrder.{names_order, cases_key}
use Rattle.lg_rules.proofs.PastLaws.{after_hearing}
use Rattle.lg_rules.proofs.Rises.{among-put_same, put-there}
use Rattle.lg_rules.proofs.RowLaws.{AgreeBut, rows-put, rows-less, rows-without, rows_same, rows_equal, row_at-rows, rises-rows, length-rows}
use Rattle.lg_rules.proofs.RowsFound.{rises-put_row}
use Rattle.lg_rules.proofs.Roster.{is_known, IsNew, roster-own, roster-forgot, roster-leaves, rises-roster, own_unknown, length-roster, Knew, Joins, Refused, joined}
use Rattle.lg_rules.proofs.Stories.{record_of_none, record_of_some, record_of-same, record_of-other, record_of-forgotten, record_of-kept, record_of-leaves, records_keyed}

module _ (forgets : Bool) (own : List ℕ) where
  -- what the table has
  pub length-table : (past : List OwnFact) → length (table_of forgets own past) ≡ length (roster forgets own past)
  unfolding table_of
  length-table past = length-rows names_order (record_of forgets own past) (roster forgets own past) (record_of_some forgets own past)

  pub length_table-le : (past : List OwnFact) → length (table_of forgets own past) ≤ 255
  length_table-le past = omega (arith, length-table past, length-roster forgets own past)

  pub row_at-table : (past : List OwnFact) (m : List ℕ) → row_at name_cmp name_of m (table_of forgets own past) ≡ cond (is_known m (roster forgets own past)) (record_of forgets own past m) None
  unfolding table_of
  row_at-table past m = row_at-rows names_order name_of (record_of forgets own past) m (roster forgets own past) (rises-roster forgets own past) (records_keyed forgets own past)

  pub rises-table : (past : List OwnFact) → Rises name_cmp (map name_of (table_of forgets own past))
  unfolding table_of
  rises-table past = rises-rows names_order name_of (record_of forgets own past) (roster forgets own past) (records_keyed forgets own past) (rises-roster forgets own past)

  -- So the record of a member is its row there.
  pub row_at-record : (past : List OwnFact) (m : List ℕ) → row_at name_cmp name_of m (table_of forgets own past) ≡ record_of forgets own past m
  row_at-record past m = elim (cases_Bool (is_known m (roster forgets own past))) [
    | inl a ↦ row_at-table past m ∙ ap (λ b. cond b (record_of forgets own past m) None) a
    | inr f ↦ row_at-table past m ∙ ap (λ b. cond b (record_of forgets own past m) None) f ∙ sym (record_of_none forgets own past m f)
  ]

  -- there is no record of oneself among them
  pub row_at_own-table : (past : List OwnFact) → row_at name_cmp name_of own (table_of forgets own past) ≡ None
  row_at_own-table past = row_at-record past own ∙ record_of_none forgets own past own (own_unknown forgets own past)

  pub table-nil : table_of forgets own [] ≡ []
  unfolding table_of roster
  table-nil = refl

  but_one : (c : Claim) (past : List OwnFact) → AgreeBut c.name (record_of forgets own past) (record_of forgets own (Told c ∷ past))
  but_one c past n d = record_of-other forgets own c past n (λ e. d (sym e))

  table-put : (c : Claim) (past : List OwnFact) → roster forgets own (Told c ∷ past) ≡ put_key name_cmp c.name (roster forgets own past) → record_of forgets own (Told c ∷ past) c.name ≡ Some c
      → put_row name_cmp name_of c (table_of forgets own past) ≡ table_of forgets own (Told c ∷ past)
  unfolding table_of
  table-put c past names stands =
      rw names (rows-put names_order name_of (record_of forgets own past) (record_of forgets own (Told c ∷ past)) c (roster forgets own past) (rises-roster forgets own past) (records_keyed forgets own past) stands (but_one c past))

  table-stays : (c : Claim) (past : List OwnFact) → roster forgets own (Told c ∷ past) ≡ roster forgets own past → record_of forgets own (Told c ∷ past) c.name ≡ record_of forgets own past c.name
      → table_of forgets own (Told c ∷ past) ≡ table_of forgets own past
  unfolding table_of
  table-stays c past names same =
      rw names (rows_equal (record_of forgets own past) (record_of forgets own (Told c ∷ past)) (roster forgets own past) (λ n. elim (cases_key names_order n c.name) [ inl e ↦ rw e same | inr d ↦ but_one c past n d ]))

  table-passed : (c : Claim) (past : List OwnFact) → roster forgets own (Told c ∷ past) ≡ roster forgets own past → is_known c.name (roster forgets own past) ≡ false
      → table_of forgets own (Told c ∷ past) ≡ table_of forgets own past
  unfolding table_of
  table-passed c past names out =
      rw names (rows_same names_order (record_of forgets own past) (record_of forgets own (Told c ∷ past)) c.name (roster forgets own past) (but_one c past) out)

  -- Once a name is forgotten, its record is gone.
  pub table-forgot : (n : List ℕ) (past : List OwnFact) → without_row name_cmp name_of n (table_of forgets own past) ≡ table_of forgets own (Forgets n ∷ past)
  unfolding table_of
  table-forgot n past =
      let f = record_of forgets own past in
      let g = record_of forgets own (Forgets n ∷ past) in
      let none = record_of-forgotten forgets own n past n refl in
      rows-without names_order name_of f g n (roster forgets own past) (records_keyed forgets own past) none (λ m d. record_of-kept forgets own n past m (λ e. d (sym e)))
      ∙ sym (rows-less names_order g n (roster forgets own past) none)
      ∙ ap (filter_map g) (sym (roster-forgot forgets own n past))

  pub table-leaves : (past : List OwnFact) → table_of forgets own (TakesLeave ∷ past) ≡ table_of forgets own past
  unfolding table_of
  table-leaves past =
      rows_equal (record_of forgets own past) (record_of forgets own (TakesLeave ∷ past)) (roster forgets own (TakesLeave ∷ past)) (record_of-leaves forgets own past)
      ∙ ap (filter_map (record_of forgets own past)) (roster-leaves forgets own past)

  -- What a claim does to what stands. It is about oneself, and no table changes:
  pub table-own : (c : Claim) (past : List OwnFact) → c.name ≡ own → table_of forgets own (Told c ∷ past) ≡ table_of forgets own past
  table-own c past e = table-passed c past (roster-own forgets own c past e) (subst (λ k. is_known k (roster forgets own past) ≡ false) (sym e) (own_unknown forgets own past))

  -- or it is about another and taken,
  pub record IsTaken (c : Claim) (past : List OwnFact) : Type 0 where
    pub taken : takes forgets (table_of forgets own past) c ≡ true
    pub names : roster forgets own (Told c ∷ past) ≡ put_key name_cmp c.name (roster forgets own past)
    pub stands : record_of forgets own (Told c ∷ past) c.name ≡ Some c
    pub beaten : (r : Claim) → record_of forgets own past c.name ≡ Some r → beats_of c r ≡ true

  -- or a record that it doesn't override is kept,
  pub record IsUnbeaten (c : Claim) (past : List OwnFact) : Type 0 where
    pub taken : takes forgets (table_of forgets own past) c ≡ false
    pub names : roster forgets own (Told c ∷ past) ≡ roster forgets own past
    pub among : is_known c.name (roster forgets own past) ≡ true
    pub r : Claim
    pub before : record_of forgets own past c.name ≡ Some r
    pub after : record_of forgets own (Told c ∷ past) c.name ≡ Some r
    pub unbeaten : beats_of c r ≡ false

  -- or its name is unknown, and isn't let in.
  pub record IsOut (c : Claim) (past : List OwnFact) : Type 0 where
    pub taken : takes forgets (table_of forgets own past) c ≡ false
    pub names : roster forgets own (Told c ∷ past) ≡ roster forgets own past
    pub out : is_known c.name (roster forgets own past) ≡ false

  pub data Hearing (c : Claim) (past : List OwnFact) : Type 0 where
    Taken : IsTaken c past → Hearing c past
    Unbeaten : IsUnbeaten c past → Hearing c past
    Out : IsOut c past → Hearing c past

  -- a claim on an unknown name is taken where it lets it in
  pub takes_unknown : (c : Claim) (past : List OwnFact) → is_known c.name (roster forgets own past) ≡ false
      → takes forgets (table_of forgets own past) c ≡ lets_in forgets (length (roster forgets own past)) c
  unfolding takes
  takes_unknown c past f =
      ap (takes_over forgets (length (table_of forgets own past)) c) (row_at-record past c.name ∙ record_of_none forgets own past c.name f)
      ∙ ap (λ k. lets_in forgets k c) (length-table past)

  takes_known : (c r : Claim) (past : List OwnFact) → record_of forgets own past c.name ≡ Some r → takes forgets (table_of forgets own past) c ≡ beats_of c r
  unfolding takes
  takes_known c r past e = ap (takes_over forgets (length (table_of forgets own past)) c) (row_at-record past c.name ∙ e)

  hearing_known : (c r : Claim) (past : List OwnFact) → is_known c.name (roster forgets own past) ≡ true → roster forgets own (Told c ∷ past) ≡ roster forgets own past
      → record_of forgets own past c.name ≡ Some r → Hearing c past
  hearing_known c r past a names e =
      let test = takes_known c r past e in
      let next : record_of forgets own (Told c ∷ past) c.name ≡ cond (beats_of c r) (Some c) (Some r) =
      record_of-same forgets own c past c.name refl (ap (is_known c.name) names ∙ a) ∙ ap (λ o. after_hearing beats_of o c) e in
      elim (cases_Bool (beats_of c r)) [
        | inl t ↦ Taken record {
          taken = test ∙ t;
          names = names ∙ sym (put-there names_order c.name (roster forgets own past) (rises-roster forgets own past) a);
          stands = next ∙ ap (λ b. cond b (Some c) (Some r)) t;
          beaten = λ s h. subst (λ x. beats_of c x ≡ true) (held_once r s (sym e ∙ h)) t;
        }
        | inr f ↦ Unbeaten record { taken = test ∙ f; names = names; among = a; r = r; before = e; after = next ∙ ap (λ b. cond b (Some c) (Some r)) f; unbeaten = f }
      ]

  hearing_new : (c : Claim) (past : List OwnFact) → IsNew forgets own (roster forgets own past) c
      → roster forgets own (Told c ∷ past) ≡ put_key name_cmp c.name (roster forgets own past) → Hearing c past
  hearing_new c past new names =
      let none = record_of_none forgets own past c.name new.out in
      let there : is_known c.name (roster forgets own (Told c ∷ past)) ≡ true = ap (is_known c.name) names ∙ among-put_same names_order c.name (roster forgets own past) in
      Taken record {
        taken = takes_unknown c past new.out ∙ new.let_in;
        names = names;
        stands = record_of-same forgets own c past c.name refl there ∙ ap (λ o. after_hearing beats_of o c) none;
        beaten = λ r e. (let bad : None ≡ Some r = sym none ∙ e in absurd cc);
      }

  pub heard_cases : (c : Claim) (past : List OwnFact) → c.name ≢ own → Hearing c past
  heard_cases c past d = elim (joined forgets own c past d) [
    | Knew a names ↦ elim (held (record_of forgets own past c.name)) [
      | Missing e ↦ absurd (record_of_some forgets own past c.name a e)
      | Holding r e ↦ hearing_known c r past a names e
    ]
    | Joins new names ↦ hearing_new c past new names
    | Refused out full names ↦ Out record { taken = takes_unknown c past out ∙ full; names = names; out = out }
  ]

-- a claim about a name that has a record is taken exactly if it overrides that
pub takes-row : (forgets : Bool) (table : List Claim) (c r : Claim) → row_at name_cmp name_of c.name table ≡ Some r → takes forgets table c ≡ beats_of c r
unfolding takes
takes-row forgets table c r found = ap (takes_over forgets (length table) c) found

-- a claim about a name that has no record is taken exactly if it lets it in
pub takes-new : (forgets : Bool) (table : List Claim) (c : Claim) → row_at name_cmp name_of c.name table ≡ None → (forgets && is_gone c.status) ≡ false
    → length table < 255 → takes forgets table c ≡ true
unfolding takes
takes-new forgets table c none welcome few = ap (takes_over forgets (length table) c) none ∙ (λ i. lt-ltb (length table) 255 few i && not (welcome i))

pub takes-full : (forgets : Bool) (table : List Claim) (c : Claim) → row_at name_cmp name_of c.name table ≡ None
    → 255 ≤ length table → takes forgets table c ≡ false
unfolding takes
takes-full forgets table c none many = ap (takes_over forgets (length table) c) none ∙ ap (λ b. b && not (forgets && is_gone c.status)) (le-ltb (length table) 255 many)

pub takes-gone : (forgets : Bool) (table : List Claim) (c : Claim) → row_at name_cmp name_of c.name table ≡ None
    → (forgets && is_gone c.status) ≡ true → takes forgets table c ≡ false
unfolding takes
takes-gone forgets table c none gone =
    ap (takes_over forgets (length table) c) none ∙ ap (λ b. ltb (length table) 255 && not b) gone ∙ never (ltb (length table) 255)
  where
    never : (b : Bool) → (b && false) ≡ false
    never true = refl
    never false = refl

-- whatever is heard, the table is that of the past
pub heard_taken : (forgets : Bool) (table : List Claim) (c : Claim) → takes forgets table c ≡ true → heard forgets table c ≡ put_row name_cmp name_of c table
heard_taken forgets table c t = ap (λ b. cond b (put_row name_cmp name_of c table) table) t

pub heard_passed : (forgets : Bool) (table : List Claim) (c : Claim) → takes forgets table c ≡ false → heard forgets table c ≡ table
heard_passed forgets table c f = ap (λ b. cond b (put_row name_cmp name_of c table) table) f

pub heard-table : (forgets : Bool) (own : List ℕ) (c : Claim) (past : List OwnFact) → c.name ≢ own → heard forgets (table_of forgets own past) c ≡ table_of forgets own (Told c ∷ past)
heard-table forgets own c past d = elim (heard_cases forgets own c past d) [
  | Taken t ↦ heard_taken forgets (table_of forgets own past) c t.taken ∙ table-put forgets own c past t.names t.stands
  | Unbeaten k ↦ heard_passed forgets (table_of forgets own past) c k.taken ∙ sym (table-stays forgets own c past k.names (k.after ∙ sym k.before))
  | Out o ↦ heard_passed forgets (table_of forgets own past) c o.taken ∙ sym (table-passed forgets own c past o.names o.out)
]

-- a claim that is heard leaves the names of the records rising
pub rises-heard : (forgets : Bool) (table : List Claim) (c : Claim) → Rises name_cmp (map name_of table) → Rises name_cmp (map name_of (heard forgets table c))
rises-heard forgets table c r = elim (cases_Bool (takes forgets table c)) [
  | inl t ↦ rw t (rises-put_row names_order name_of c table r)
  | inr f ↦ rw f r
]
