-- The view after a past, and after one more claim.
use Rattle.std.proofs.Common.{◌≡◌, ◌≢◌, ℕ, ◌<◌, ◌≤◌, ◌+◌, Bool, true, false, cond, List, ◌∷◌, length, map, Option, Some, None, inl, inr, refl, sym, ◌∙◌, ap, subst, arith, ltb, leb}
use Rattle.std.specs.Prelude.{⊤}
use Rattle.std.proofs.lemmas.Bool.{cases_Bool, ltb-true, leb-true, false≢true}
use Rattle.lg_rules.specs.declared.addr.Addr.{Addr}
use Rattle.lg_rules.specs.declared.claim.Claim.{Claim}
use Rattle.lg_rules.specs.declared.claim.Status.{Status}
use Rattle.lg_rules.specs.declared.claim.Status.TheVariants.{Alive, Suspect, Failed, Left}
use Rattle.lg_rules.specs.declared.own.OwnHeard.{OwnHeard}
use Rattle.lg_rules.specs.declared.own.OwnHeard.TheVariants.{Refuted, Raised, Ousted, Ignored}
use Rattle.lg_rules.specs.Meaning.Beats.{beats_of}
use Rattle.lg_rules.specs.Meaning.Claim.{name_of}
use Rattle.lg_rules.specs.Meaning.Own.{OwnValue, OwnFact, Told, beyond, own_hearing, own_hearing_at, left_hearing_at}
use Rattle.lg_rules.specs.Meaning.Own.{oneself_hearing, oneself_changed, own_heard, own_of, own_record}
use Rattle.lg_rules.specs.Meaning.Rows.{name_cmp, is_same, put_row, row_at, Rises}
use Rattle.lg_rules.specs.Meaning.Table.{table_of, takes, heard}
use Rattle.lg_rules.specs.Meaning.View.{view_of}
use Rattle.lg_rules.specs.Support.Standing.{Standing, standing_of, standing_view, hear_claim, is_rise, changes_record}
use Rattle.lg_rules.proofs.Cases.{Missing, Holding, held}
use Rattle.lg_rules.proofs.KeyOrder.{names_order, same_key, other_key, cases_key}
use Rattle.lg_rules.proofs.OwnLaws.{own-same, own-other, own_of_name, own_hearing-same, own_hearing-other, oneself_hearing-here, oneself_hearing-gone, raised_here, raised_gone}
use Rattle.lg_rules.proofs.Ranks.{greater_overrides}
use Rattle.lg_rules.proofs.RowLaws.{row_at-put, length_put_row-le}
use Rattle.lg_rules.proofs.RowsFound.{rises-put_row}
use Rattle.lg_rules.proofs.Tables.{length_table-le, rises-table, row_at-record, table-own, heard-table, Taken, Unbeaten, Out, heard_cases, heard_passed, heard_taken, IsTaken}

-- What a claim about oneself or another makes of the standing after a past.
pub hear_claim-own : (m : Standing) (c : Claim) → c.name ≡ m.own.name → hear_claim m c ≡ record m { own = own_heard m.own c }
unfolding hear_claim
hear_claim-own m c e = ap (λ b. cond b (record m { own = own_heard m.own c }) (record m { table = heard m.forgets m.table c })) (same_key names_order c.name m.own.name e)

pub hear_claim-other : (m : Standing) (c : Claim) → c.name ≢ m.own.name → hear_claim m c ≡ record m { table = heard m.forgets m.table c }
unfolding hear_claim
hear_claim-other m c d = ap (λ b. cond b (record m { own = own_heard m.own c }) (record m { table = heard m.forgets m.table c })) (other_key names_order c.name m.own.name d)

pub hear_claim-standing : (forgets : Bool) (name : List ℕ) (addr : Addr) (past : List OwnFact) (c : Claim) → hear_claim (standing_of forgets name addr past) c ≡ standing_of forgets name addr (Told c ∷ past)
hear_claim-standing forgets name addr past c =
    let is = own_of_name name addr past in
    elim (cases_key names_order c.name name) [
      | inl e ↦ hear_claim-own (standing_of forgets name addr past) c (e ∙ sym is) ∙ (λ i. record { own = sym (own-same name addr c past e) i; forgets = forgets; table = sym (table-own forgets name c past e) i })
      | inr d ↦ hear_claim-other (standing_of forgets name addr past) c (λ e. d (e ∙ is)) ∙ (λ i. record { own = sym (own-other name addr c past d) i; forgets = forgets; table = heard-table forgets name c past d i })
    ]

pub changes_record-own : (m : Standing) (c : Claim) → c.name ≡ m.own.name → changes_record m c ≡ is_rise (own_hearing m.own c)
unfolding changes_record
changes_record-own m c e = ap (λ b. cond b (is_rise (own_hearing m.own c)) (takes m.forgets m.table c)) (same_key names_order c.name m.own.name e)

pub changes_record-other : (m : Standing) (c : Claim) → c.name ≢ m.own.name → changes_record m c ≡ takes m.forgets m.table c
unfolding changes_record
changes_record-other m c d = ap (λ b. cond b (is_rise (own_hearing m.own c)) (takes m.forgets m.table c)) (other_key names_order c.name m.own.name d)

-- The view after a past: the own record at the own name, and the table elsewhere.
abbrev pub view_after : Bool → List ℕ → Addr → List OwnFact → List Claim
view_after forgets name addr past = standing_view (standing_of forgets name addr past)

pub row_at-view : (forgets : Bool) (name : List ℕ) (addr : Addr) (past : List OwnFact) (m : List ℕ)
    → row_at name_cmp name_of m (view_after forgets name addr past) ≡ cond (is_same name_cmp name m) (Some (own_record (own_of name addr past))) (row_at name_cmp name_of m (table_of forgets name past))
row_at-view forgets name addr past m =
    let r : Claim = own_record (own_of name addr past) in
    row_at-put names_order name_of m r (table_of forgets name past) ∙ ap (λ n. cond (is_same name_cmp n m) (Some r) (row_at name_cmp name_of m (table_of forgets name past))) (own_of_name name addr past)

pub row_at-own : (forgets : Bool) (name : List ℕ) (addr : Addr) (past : List OwnFact) (m : List ℕ) → name ≡ m → row_at name_cmp name_of m (view_after forgets name addr past) ≡ Some (own_record (own_of name addr past))
row_at-own forgets name addr past m e = row_at-view forgets name addr past m ∙ ap (λ b. cond b (Some (own_record (own_of name addr past))) (row_at name_cmp name_of m (table_of forgets name past))) (same_key names_order name m e)

pub row_at-others : (forgets : Bool) (name : List ℕ) (addr : Addr) (past : List OwnFact) (m : List ℕ) → name ≢ m → row_at name_cmp name_of m (view_after forgets name addr past) ≡ row_at name_cmp name_of m (table_of forgets name past)
row_at-others forgets name addr past m d = row_at-view forgets name addr past m ∙ ap (λ b. cond b (Some (own_record (own_of name addr past))) (row_at name_cmp name_of m (table_of forgets name past))) (other_key names_order name m d)

pub rises-view : (forgets : Bool) (name : List ℕ) (addr : Addr) (past : List OwnFact) → Rises name_cmp (map name_of (view_after forgets name addr past))
rises-view forgets name addr past = rises-put_row names_order name_of (own_record (own_of name addr past)) (table_of forgets name past) (rises-table forgets name past)

-- which is of at most 256 members
pub length_view-le : (forgets : Bool) (name : List ℕ) (addr : Addr) (past : List OwnFact) → length (view_after forgets name addr past) ≤ 256
length_view-le forgets name addr past = omega (arith, length_put_row-le names_order name_of (own_record (own_of name addr past)) (table_of forgets name past), length_table-le forgets name past)

-- a record comes after what stood before it, if anything did
abbrev pub Follows : Claim → Option Claim → Type 0
Follows r None = ⊤
Follows r (Some b) = beats_of r b ≡ true

-- What a claim does to the view: it changes the record of its name alone, to one that overrides it, or nothing.
pub record IsChange (forgets : Bool) (name : List ℕ) (addr : Addr) (c : Claim) (past : List OwnFact) : Type 0 where
  pub changes : changes_record (standing_of forgets name addr past) c ≡ true
  pub r : Claim
  pub row : row_at name_cmp name_of c.name (view_after forgets name addr (Told c ∷ past)) ≡ Some r
  pub follows : Follows r (row_at name_cmp name_of c.name (view_after forgets name addr past))
  pub others : (m : List ℕ) → c.name ≢ m → row_at name_cmp name_of m (view_after forgets name addr (Told c ∷ past)) ≡ row_at name_cmp name_of m (view_after forgets name addr past)

pub data ViewHearing (forgets : Bool) (name : List ℕ) (addr : Addr) (c : Claim) (past : List OwnFact) : Type 0 where
  Changes : IsChange forgets name addr c past → ViewHearing forgets name addr c past
  Leaves : changes_record (standing_of forgets name addr past) c ≡ false → view_after forgets name addr (Told c ∷ past) ≡ view_after forgets name addr past → ViewHearing forgets name addr c past

-- the own record changes where the own number rises, and nowhere else
stays : (o : OwnHeard) (i : ℕ) (me : OwnValue) → is_rise o ≡ false → own_record (oneself_changed o i me) ≡ own_record me
stays Refuted i me f = absurd (false≢true (sym f))
stays Raised i me f = absurd (false≢true (sym f))
stays Ousted i me f = refl
stays Ignored i me f = refl

beyond_rises : (o : OwnHeard) (i : ℕ) (me : OwnValue) → ((j : ℕ) → (oneself_changed o j me).number ≡ j + 1) → me.number ≤ i → is_rise (beyond i o) ≡ true → me.number < (oneself_changed (beyond i o) i me).number
beyond_rises o i me h l t = elim (cases_Bool (ltb i 1000000000)) [
  | inl few ↦ rw few (omega (arith, h i, l))
  | inr many ↦ absurd (false≢true (sym (ap is_rise (ap (λ b. cond b o Ousted) many)) ∙ t))
]

rises : (s : Status) (i : ℕ) (me : OwnValue) → me.left ≡ false → is_rise (own_hearing_at s i me.number) ≡ true → me.number < (oneself_changed (own_hearing_at s i me.number) i me).number
rises Alive i me here t = elim (cases_Bool (ltb me.number i)) [
  | inl l ↦ (
      let less : me.number < i = ltb-true me.number i l in
      rw l (beyond_rises Raised i me (λ j. raised_here j me here) (omega (arith, less)) (sym (ap is_rise (ap (λ b. cond b (beyond i Raised) Ignored) l)) ∙ t)))
  | inr f ↦ absurd (false≢true (sym (ap is_rise (ap (λ b. cond b (beyond i Raised) Ignored) f)) ∙ t))
]
rises (Suspect a) i me here t = elim (cases_Bool (leb me.number i)) [
  | inl l ↦ rw l (beyond_rises Refuted i me (λ j. refl) (leb-true me.number i l) (sym (ap is_rise (ap (λ b. cond b (beyond i Refuted) Ignored) l)) ∙ t))
  | inr f ↦ absurd (false≢true (sym (ap is_rise (ap (λ b. cond b (beyond i Refuted) Ignored) f)) ∙ t))
]
rises Failed i me here t = elim (cases_Bool (leb me.number i)) [
  | inl l ↦ rw l (beyond_rises Raised i me (λ j. raised_here j me here) (leb-true me.number i l) (sym (ap is_rise (ap (λ b. cond b (beyond i Raised) Ignored) l)) ∙ t))
  | inr f ↦ absurd (false≢true (sym (ap is_rise (ap (λ b. cond b (beyond i Raised) Ignored) f)) ∙ t))
]
rises Left i me here t = elim (cases_Bool (leb me.number i)) [
  | inl l ↦ rw l (beyond_rises Raised i me (λ j. raised_here j me here) (leb-true me.number i l) (sym (ap is_rise (ap (λ b. cond b (beyond i Raised) Ignored) l)) ∙ t))
  | inr f ↦ absurd (false≢true (sym (ap is_rise (ap (λ b. cond b (beyond i Raised) Ignored) f)) ∙ t))
]

left_rises : (i : ℕ) (me : OwnValue) → me.left ≡ true → is_rise (left_hearing_at i me.number) ≡ true → me.number < (oneself_changed (left_hearing_at i me.number) i me).number
left_rises i me gone t = elim (cases_Bool (ltb me.number i)) [
  | inl l ↦ rw l (omega (arith, raised_gone i me gone, ltb-true me.number i l))
  | inr f ↦ absurd (false≢true (sym (ap is_rise (ap (λ b. cond b Raised Ignored) f)) ∙ t))
]

oneself_rises : (s : Status) (i : ℕ) (me : OwnValue) → is_rise (oneself_hearing me s i) ≡ true → me.number < (oneself_changed (oneself_hearing me s i) i me).number
oneself_rises s i me t = elim (cases_Bool me.left) [
  | inl gone ↦ (
      let is = oneself_hearing-gone me s i gone in
      subst (λ h. me.number < (oneself_changed h i me).number) (sym is) (left_rises i me gone (sym (ap is_rise is) ∙ t)))
  | inr here ↦ (
      let is = oneself_hearing-here me s i here in
      subst (λ h. me.number < (oneself_changed h i me).number) (sym is) (rises s i me here (sym (ap is_rise is) ∙ t)))
]

rises_heard : (me : OwnValue) (c : Claim) → is_rise (own_hearing me c) ≡ true → me.number < (own_heard me c).number
rises_heard me c t = elim (cases_key names_order c.name me.name) [
  | inl e ↦ rw (same_key names_order c.name me.name e) (oneself_rises c.status c.incarnation me (sym (ap is_rise (own_hearing-same me c e)) ∙ t))
  | inr d ↦ absurd (false≢true (sym (ap is_rise (own_hearing-other me c d)) ∙ t))
]

view_hearing_own : (forgets : Bool) (name : List ℕ) (addr : Addr) (c : Claim) (past : List OwnFact) → c.name ≡ name → ViewHearing forgets name addr c past
view_hearing_own forgets name addr c past e =
    let me = own_of name addr past in
    let is : own_of name addr (Told c ∷ past) ≡ own_heard me c = own-same name addr c past e in
    let table = table-own forgets name c past e in
    let test = changes_record-own (standing_of forgets name addr past) c (e ∙ sym (own_of_name name addr past)) in
    elim (cases_Bool (is_rise (own_hearing me c))) [
      | inl t ↦ (
          let more = rises_heard me c t in
          let before = row_at-own forgets name addr past c.name (sym e) in
          Changes record {
            changes = test ∙ t;
            r = own_record (own_heard me c);
            row = row_at-own forgets name addr (Told c ∷ past) c.name (sym e) ∙ ap (λ o. Some (own_record o)) is;
            follows = subst (Follows (own_record (own_heard me c))) (sym before) (greater_overrides (own_record (own_heard me c)).status (own_record me).status (own_heard me c).number me.number more);
            others = λ m d. (let other : name ≢ m = λ s. d (e ∙ s) in row_at-others forgets name addr (Told c ∷ past) m other ∙ ap (row_at name_cmp name_of m) table ∙ sym (row_at-others forgets name addr past m other));
          })
      | inr f ↦ (
          let record_stays = ap own_record is ∙ stays (own_hearing me c) c.incarnation me f in
          Leaves (test ∙ f) (λ i. view_of (record_stays i) (table i)))
    ]

-- of another, the claim stands where it is taken
follows_table : (forgets : Bool) (name : List ℕ) (c : Claim) (past : List OwnFact) → IsTaken forgets name c past → Follows c (row_at name_cmp name_of c.name (table_of forgets name past))
follows_table forgets name c past t = elim (held (row_at name_cmp name_of c.name (table_of forgets name past))) [
  | Missing e ↦ rw e tt
  | Holding r e ↦ rw e (t.beaten r (sym (row_at-record forgets name past c.name) ∙ e))
]

view_hearing_taken : (forgets : Bool) (name : List ℕ) (addr : Addr) (c : Claim) (past : List OwnFact) → c.name ≢ name → IsTaken forgets name c past → ViewHearing forgets name addr c past
view_hearing_taken forgets name addr c past d t =
    let d' : name ≢ c.name = λ e. d (sym e) in
    let table : table_of forgets name (Told c ∷ past) ≡ put_row name_cmp name_of c (table_of forgets name past) = sym (heard-table forgets name c past d) ∙ heard_taken forgets (table_of forgets name past) c t.taken in
    let own = own-other name addr c past d in
    Changes record {
      changes = changes_record-other (standing_of forgets name addr past) c (λ e. d (e ∙ own_of_name name addr past)) ∙ t.taken;
      r = c;
      row = row_at-others forgets name addr (Told c ∷ past) c.name d' ∙ ap (row_at name_cmp name_of c.name) table ∙ row_at-put names_order name_of c.name c (table_of forgets name past) ∙ ap (λ b. cond b (Some c) (row_at name_cmp name_of c.name (table_of forgets name past))) (same_key names_order c.name c.name refl);
      follows = subst (Follows c) (sym (row_at-others forgets name addr past c.name d')) (follows_table forgets name c past t);
      others = λ m u. elim (cases_key names_order name m) [
        | inl s ↦ row_at-own forgets name addr (Told c ∷ past) m s ∙ ap (λ o. Some (own_record o)) own ∙ sym (row_at-own forgets name addr past m s)
        | inr v ↦ row_at-others forgets name addr (Told c ∷ past) m v ∙ ap (row_at name_cmp name_of m) table ∙ row_at-put names_order name_of m c (table_of forgets name past) ∙ ap (λ b. cond b (Some c) (row_at name_cmp name_of m (table_of forgets name past))) (other_key names_order c.name m u) ∙ sym (row_at-others forgets name addr past m v)
      ];
    }

view_hearing_passed : (forgets : Bool) (name : List ℕ) (addr : Addr) (c : Claim) (past : List OwnFact) → c.name ≢ name → takes forgets (table_of forgets name past) c ≡ false → ViewHearing forgets name addr c past
view_hearing_passed forgets name addr c past d f =
    let table : table_of forgets name (Told c ∷ past) ≡ table_of forgets name past = sym (heard-table forgets name c past d) ∙ heard_passed forgets (table_of forgets name past) c f in
    let own = own-other name addr c past d in
    Leaves (changes_record-other (standing_of forgets name addr past) c (λ e. d (e ∙ own_of_name name addr past)) ∙ f) (λ i. view_of (own_record (own i)) (table i))

pub view_hearing : (forgets : Bool) (name : List ℕ) (addr : Addr) (c : Claim) (past : List OwnFact) → ViewHearing forgets name addr c past
view_hearing forgets name addr c past = elim (cases_key names_order c.name name) [
  | inl e ↦ view_hearing_own forgets name addr c past e
  | inr d ↦ elim (heard_cases forgets name c past d) [
    | Taken t ↦ view_hearing_taken forgets name addr c past d t
    | Unbeaten k ↦ view_hearing_passed forgets name addr c past d k.taken
    | Out o ↦ view_hearing_passed forgets name addr c past d o.taken
  ]
]
