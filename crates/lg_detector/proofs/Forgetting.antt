-- What forgetting changes of what is shown: no record but those of claims differs after it.
use Rattle.std.proofs.Common.{◌≡◌, ◌≢◌, ℕ, suc, ◌+◌, ◌≤◌, ◌<◌, Bool, true, false, not, ◌&&◌, ◌||◌, cond, leb, ltb, List, [], ◌∷◌, ◌++◌, length, length-append, map, take, drop, append_assoc, append-nil, get_or, Option, Some, None, inl, inr, refl, sym, ◌∙◌, ap, subst, arith}
use Rattle.std.specs.Prelude.{filter}
use Rattle.std.proofs.lemmas.Bool.{cases_Bool, false≢true}
use Rattle.std.proofs.lemmas.Bool.Decides.{nat_tests}
use Rattle.std.proofs.lemmas.List.{drop_more, drop_all, take_more, take_all}
use mathlib.Core.List.{map-append}
use Rattle.lg_rules.specs.declared.claim.Claim.{Claim}
use Rattle.lg_rules.specs.declared.claim.Status.TheVariants.{Suspect}
use Rattle.lg_rules.specs.Meaning.Claim.{is_gone, name_of}
use Rattle.lg_rules.specs.Meaning.Own.{own_record}
use Rattle.lg_rules.specs.Meaning.Rows.{name_cmp, is_same, is_among, put_row, row_at, without_row, Rises}
use Rattle.lg_rules.specs.Meaning.Table.{lacks_room, takes, heard}
use Rattle.lg_rules.specs.Meaning.View.{changed, is_row}
use Rattle.lg_rules.proofs.Cases.{Missing, Holding, held}
use Rattle.lg_rules.proofs.Changes.{claim_itself}
use Rattle.lg_rules.proofs.KeyOrder.{names_order, cases_key, same_key, other_key}
use Rattle.lg_rules.proofs.RowLaws.{row_at-put, length_put_row-le}
use Rattle.lg_rules.proofs.RowsFound.{filter_same, rows_found}
use Rattle.lg_rules.proofs.Tables.{heard_taken, heard_passed}
use Rattle.lg_timing.specs.declared.config.Config.{Config}
use Rattle.lg_timers.specs.declared.timer.Timer.{Timer}
use Rattle.lg_timers.specs.declared.timer.TimerId.{TimerId}
use Rattle.lg_timers.specs.declared.timer.TimerId.TheVariants.{RoundEnd, Suspicion, Direct, RelayNack, RelayEnd, RoundStart, Forget, Gossip}
use Rattle.lg_timers.specs.Meaning.Timers.{first_forget}
use Rattle.lg_membership.specs.declared.origin.Origin.{Origin}
use Rattle.lg_membership.specs.declared.origin.Origin.TheVariants.{Group}
use Rattle.lg_membership.specs.Meaning.Log.{forgets_in, view_in}
use Rattle.lg_membership.specs.Support.Reached.{IsGroupReached}
use Rattle.lg_membership.specs.Support.State.{GroupState, shown, with_found, applied, apply_to_group, forget_from_group, without_name, has_room_in, needs_room_in}
use Rattle.lg_membership.proofs.ChangedRows.{changed_record}
use Rattle.lg_membership.proofs.Chosen.{with_keys, found_key, chosen-missing, chosen-put, rises-chosen}
use Rattle.lg_membership.proofs.Reaching.{apply-own, apply-other}
use Rattle.lg_membership.proofs.Rooms.{reached-ordered}
use Rattle.lg_membership.proofs.Shown.{rises-shown, shown-applied}
use Rattle.lg_detector.specs.Meaning.Apply.{merged, only_accuses}
use Rattle.lg_detector.specs.Support.Reached.{IsReached}
use Rattle.lg_detector.specs.Support.State.{State, apply_state, apply_all_state, forget_name, forget_id, forget_first_state, make_room_state, as_merged_state, hear_one_state, hear_each_state, forgotten_id, forgotten_first, forgotten_for, forgotten_each, records_about}
use Rattle.lg_detector.specs.Support.Step.{view_state}
use Rattle.lg_detector.proofs.Applying.{membership-apply}
use Rattle.lg_detector.proofs.Reaching.{reached-member, reached-apply, reached-forget, config-apply-in}
use Rattle.lg_detector.proofs.RowFilters.{keep, row_at-kept}

-- WHAT IS SHOWN
-- Each record but those of these names was there before.
abbrev pub AreOlderBut : List (List ℕ) → List Claim → List Claim → Type 0
AreOlderBut names before after =
    (n : List ℕ) (r : Claim) → is_among name_cmp n names ≡ false → row_at name_cmp name_of n after ≡ Some r → row_at name_cmp name_of n before ≡ Some r

kept_one : (p : Claim → Bool) (o : Option Claim) (r : Claim) → keep p o ≡ Some r → o ≡ Some r
kept_one p None r e = absurd cc
kept_one p (Some x) r e = elim (cases_Bool (p x)) [
  | inl t ↦ rw t at e
  | inr f ↦ (let bad : None ≡ Some r = rw f at e in absurd cc)
]

view-less : (me : Claim) (m : List ℕ) (rows : List Claim) → Rises name_cmp (map name_of rows) → (n : List ℕ) (r : Claim)
    → row_at name_cmp name_of n (put_row name_cmp name_of me (without_row name_cmp name_of m rows)) ≡ Some r → row_at name_cmp name_of n (put_row name_cmp name_of me rows) ≡ Some r
view-less me m rows rise n r e =
    let p : Claim → Bool = λ x. not (is_same name_cmp x.name m) in
    row_at-put names_order name_of n me rows
    ∙ either (is_same name_cmp me.name n) (row_at name_cmp name_of n rows) p
    (ap (cond (is_same name_cmp me.name n) (Some me)) (sym (row_at-kept names_order name_of p n rows rise)) ∙ sym (row_at-put names_order name_of n me (without_row name_cmp name_of m rows)) ∙ e)
  where
    either : (b : Bool) (o : Option Claim) (p : Claim → Bool) → cond b (Some me) (keep p o) ≡ Some r → cond b (Some me) o ≡ Some r
    either true o p e = e
    either false o p e = kept_one p o r e

view-forgot : (m : List ℕ) (s : GroupState) → IsGroupReached s → (n : List ℕ) (r : Claim)
    → row_at name_cmp name_of n (shown (forget_from_group m s)) ≡ Some r → row_at name_cmp name_of n (shown s) ≡ Some r
view-forgot m s reached n r e = step (is_same name_cmp m s.members.own) e
  where
    opened : (o : Option Config) → row_at name_cmp name_of n (view_in o s.own (without_row name_cmp name_of m s.members.table)) ≡ Some r → row_at name_cmp name_of n (view_in o s.own s.members.table) ≡ Some r
    opened None e = absurd cc
    opened (Some opening) e = view-less (own_record s.own) m s.members.table (reached-ordered s reached).rises n r e

    step : (b : Bool) → row_at name_cmp name_of n (shown (cond b s (without_name m s))) ≡ Some r → row_at name_cmp name_of n (shown s) ≡ Some r
    step true e = e
    step false e = without e
      where
        without : row_at name_cmp name_of n (shown (without_name m s)) ≡ Some r → row_at name_cmp name_of n (shown s) ≡ Some r
        without e = elim (cases_Bool (is_same name_cmp m s.members.own)) [
          | inl t ↦ (rw t at e)
          | inr f ↦ opened s.config (rw f at e)
        ]

-- a name is forgotten
older-forgot : (m : List ℕ) (s : State) → IsReached s → (names : List (List ℕ)) → AreOlderBut names (view_state s) (view_state (forget_name m s))
unfolding forget_name
older-forgot m s reached names n r out e = view-forgot m s.membership (reached-member s reached) n r e

older-id : (id : TimerId) (s : State) → IsReached s → (names : List (List ℕ)) → AreOlderBut names (view_state s) (view_state (forget_id id s))
older-id RoundEnd s reached names n r out e = e
older-id (Suspicion m) s reached names n r out e = e
older-id Direct s reached names n r out e = e
older-id (RelayNack k) s reached names n r out e = e
older-id (RelayEnd k) s reached names n r out e = e
older-id RoundStart s reached names n r out e = e
older-id (Forget m) s reached names n r out e = older-forgot m s reached names n r out e
older-id Gossip s reached names n r out e = e

pub reached-id : (id : TimerId) (s : State) → IsReached s → IsReached (forget_id id s)
reached-id RoundEnd s reached = reached
reached-id (Suspicion m) s reached = reached
reached-id Direct s reached = reached
reached-id (RelayNack k) s reached = reached
reached-id (RelayEnd k) s reached = reached
reached-id RoundStart s reached = reached
reached-id (Forget m) s reached = reached-forget s (forget_name m s) m refl reached
reached-id Gossip s reached = reached

module _ (s : State) (reached : IsReached s) where
  older-by : (b : Bool) (o : Option Timer) (names : List (List ℕ)) → AreOlderBut names (view_state s) (view_state (cond b (forget_first_state o s) s))
  older-by true None names n r out e = e
  older-by true (Some timer) names n r out e = older-id timer.id s reached names n r out e
  older-by false o names n r out e = e

  reached-by : (b : Bool) (o : Option Timer) → IsReached (cond b (forget_first_state o s) s)
  reached-by true None = reached
  reached-by true (Some timer) = reached-id timer.id s reached
  reached-by false o = reached

  older-room : (c : Claim) (names : List (List ℕ)) → AreOlderBut names (view_state s) (view_state (make_room_state c s))
  unfolding make_room_state
  older-room c names = older-by (needs_room_in c s.membership) (first_forget s.timers) names

  pub reached-room : (c : Claim) → IsReached (make_room_state c s)
  unfolding make_room_state
  reached-room c = reached-by (needs_room_in c s.membership) (first_forget s.timers)

-- a claim is applied
older-applied : (c : Claim) (s : State) → IsReached s → (names : List (List ℕ)) → is_among name_cmp c.name names ≡ true → AreOlderBut names (view_state s) (view_state (apply_state Group c s))
older-applied c s reached names among n r out e =
    let g = s.membership in
    let apart : c.name ≢ n = λ same. false≢true (sym out ∙ ap (λ m. is_among name_cmp m names) (sym same) ∙ among) in
    let after = ap shown (membership-apply Group c s) ∙ shown-applied s.moment Group c g (reached-ordered g (reached-member s reached)).rises in
    step apart (applied s.moment c g).changed refl (sym (ap (row_at name_cmp name_of n) after) ∙ e)
  where
    step : c.name ≢ n → (o : Option Claim) → (applied s.moment c s.membership).changed ≡ o → row_at name_cmp name_of n (with_found o (view_state s)) ≡ Some r → row_at name_cmp name_of n (view_state s) ≡ Some r
    step apart None is e = e
    step apart (Some x) is e =
        let other : is_same name_cmp x.name n ≡ false = other_key names_order x.name n (λ same. apart (sym (changed_record s.moment c s.membership x is).named ∙ same)) in
        sym (ap (λ b. cond b (Some x) (row_at name_cmp name_of n (view_state s))) other) ∙ sym (row_at-put names_order name_of n x (view_state s)) ∙ e

-- a claim of a table is about the same member, however it is applied
merged_name : (me : List ℕ) (rows : List Claim) (teller : Option (List ℕ)) (c : Claim) → (merged me rows teller c).name ≡ c.name
merged_name me rows None c = refl
merged_name me rows (Some teller) c = either (only_accuses me rows teller c)
  where
    either : (b : Bool) → (cond b (record c { status = Suspect teller }) c).name ≡ c.name
    either true = refl
    either false = refl

pub reached-one : (teller : Option (List ℕ)) (c : Claim) (s : State) → IsReached s → IsReached (hear_one_state teller c s)
reached-one teller c s reached =
    let roomy = make_room_state c s in
    reached-apply roomy (hear_one_state teller c s) Group (as_merged_state teller c roomy) refl (reached-room s reached c)

-- So each record that isn't that of a claim's member was there before all claims.
pub older-heard : (teller : Option (List ℕ)) (cs : List Claim) (s : State) → IsReached s → AreOlderBut (map name_of cs) (view_state s) (view_state (hear_each_state teller cs s))
older-heard teller [] s reached n r out e = e
older-heard teller (c ∷ cs) s reached n r out e =
    let roomy = make_room_state c s in
    let roomy-reached = reached-room s reached c in
    let said = as_merged_state teller c roomy in
    let named : said.name ≡ c.name = merged_name roomy.membership.own.name (view_state roomy) teller c in
    let next = hear_one_state teller c s in
    let parts = neither (is_same name_cmp c.name n) (is_among name_cmp n (map name_of cs)) out in
    older-room s reached c (c.name ∷ []) n r (ap (λ b. b || false) parts.0)
    (older-applied said roomy roomy-reached (c.name ∷ []) (ap (λ b. b || false) (same_key names_order c.name said.name (sym named))) n r (ap (λ b. b || false) parts.0)
    (older-heard teller cs next (reached-one teller c s reached) n r parts.1 e))
  where
    neither : (a b : Bool) → (a || b) ≡ false → (a ≡ false) × (b ≡ false)
    neither true b e = absurd cc
    neither false b e = (refl, e)

pub reached-heard : (teller : Option (List ℕ)) (cs : List Claim) (s : State) → IsReached s → IsReached (hear_each_state teller cs s)
reached-heard teller [] s reached = reached
reached-heard teller (c ∷ cs) s reached = reached-heard teller cs (hear_one_state teller c s) (reached-one teller c s reached)

-- One claim after another, each once there is room for its member.
pub record HaveHeard (teller : Option (List ℕ)) (first now : State) (claims : List Claim) (i : ℕ) (names : List (List ℕ)) : Type 0 where
  pub state : hear_each_state teller (drop i claims) now ≡ hear_each_state teller claims first
  pub forgotten : names ++ forgotten_each teller (drop i claims) now ≡ forgotten_each teller claims first
  pub few : length names ≤ i

pub none_heard : (teller : Option (List ℕ)) (s : State) (claims : List Claim) (names : List (List ℕ)) → names ≡ [] → HaveHeard teller s s claims 0 names
none_heard teller s claims names none = record {
  state = refl;
  forgotten = ap (λ ns. ns ++ forgotten_each teller claims s) none;
  few = omega (arith, ap length none);
}

one_id : (id : TimerId) → length (forgotten_id id) ≤ 1
one_id RoundEnd = omega arith
one_id (Suspicion m) = omega arith
one_id Direct = omega arith
one_id (RelayNack k) = omega arith
one_id (RelayEnd k) = omega arith
one_id RoundStart = omega arith
one_id (Forget m) = omega arith
one_id Gossip = omega arith

one_by : (b : Bool) (o : Option Timer) → length (cond b (forgotten_first o) []) ≤ 1
one_by true None = omega arith
one_by true (Some timer) = one_id timer.id
one_by false o = omega arith

pub more_heard : (teller : Option (List ℕ)) (first now roomy after : State) (claims : List Claim) (i : ℕ) (c said : Claim) (names later : List (List ℕ)) → HaveHeard teller first now claims i names → i < length claims → c ≡ get_or claims i c
    → roomy ≡ make_room_state c now → said ≡ as_merged_state teller c roomy → after ≡ apply_state Group said roomy → later ≡ names ++ forgotten_for c now → HaveHeard teller first after claims (i + 1) later
more_heard teller first now roomy after claims i c said names later have within at room told applied longer =
    let rest = drop (i + 1) claims in
    let step : drop i claims ≡ c ∷ rest = drop_more claims i c within ∙ ap (λ (d : Claim). d ∷ rest) (sym at) in
    let then : after ≡ hear_one_state teller c now =
    applied ∙ ap (λ d. apply_state Group d roomy) told ∙ ap (λ s. apply_state Group (as_merged_state teller c s) s) room in
    record {
      state = ap (hear_each_state teller rest) then ∙ sym (ap (λ cs. hear_each_state teller cs now) step) ∙ have.state;
      forgotten =
          (λ j. longer j ++ forgotten_each teller rest (then j))
          ∙ append_assoc names (forgotten_for c now) (forgotten_each teller rest (hear_one_state teller c now))
          ∙ sym (ap (λ cs. names ++ forgotten_each teller cs now) step)
          ∙ have.forgotten;
      few = omega (arith, have.few, ap length longer, length-append names (forgotten_for c now), one_by (needs_room_in c now.membership) (first_forget now.timers));
    }

pub all_heard : (teller : Option (List ℕ)) (first now : State) (claims : List Claim) (i : ℕ) (names : List (List ℕ)) → HaveHeard teller first now claims i names → length claims ≤ i → now ≡ hear_each_state teller claims first
all_heard teller first now claims i names have past = ap (λ cs. hear_each_state teller cs now) (sym (drop_all i claims past)) ∙ have.state

pub all_forgotten : (teller : Option (List ℕ)) (first now : State) (claims : List Claim) (i : ℕ) (names : List (List ℕ)) → HaveHeard teller first now claims i names → length claims ≤ i → names ≡ forgotten_each teller claims first
all_forgotten teller first now claims i names have past =
    sym (append-nil names) ∙ ap (λ cs. names ++ forgotten_each teller cs now) (sym (drop_all i claims past)) ∙ have.forgotten

-- THE RECORDS THAT DIFFER
abbrev pub differs : List Claim → Claim → Bool
differs before r = not (is_row r (row_at name_cmp name_of r.name before))

-- They are those of the claims' members that aren't the ones that these had before.
pub differing-about : (cs : List Claim) (before after : List Claim) → Rises name_cmp (map name_of before) → Rises name_cmp (map name_of after) → AreOlderBut (map name_of cs) before after
    → records_about cs (changed (records_about cs before) after) ≡ changed before after
differing-about cs before after rise up older =
    filter-twice (λ r. is_among name_cmp r.name names) (differs (records_about cs before)) after
    ∙ filter_same (λ r. is_among name_cmp r.name names && differs (records_about cs before) r) (differs before) (λ r. row_at name_cmp name_of r.name after ≡ Some r) after each (rows_found names_order name_of after up)
  where
    names : List (List ℕ)
    names = map name_of cs

    filter-twice : (p q : Claim → Bool) (rows : List Claim) → filter p (filter q rows) ≡ filter (λ r. p r && q r) rows
    filter-twice p q [] = refl
    filter-twice p q (x ∷ xs) = elim (cases_Bool (q x)) [
      | inl t ↦ elim (cases_Bool (p x)) [
        | inl u ↦ rw (t, u) (ap (λ rs. x ∷ rs) (filter-twice p q xs))
        | inr v ↦ rw (t, v) (filter-twice p q xs)
      ]
      | inr f ↦ elim (cases_Bool (p x)) [
        | inl u ↦ rw (f, u) (filter-twice p q xs)
        | inr v ↦ rw (f, v) (filter-twice p q xs)
      ]
    ]

    found : (n : List ℕ) → is_among name_cmp n (map name_of cs) ≡ true → (o : Option Claim) → ((r : Claim) → o ≡ Some r → r.name ≡ n) → keep (λ r. is_among name_cmp r.name (map name_of cs)) o ≡ o
    found n among None has = refl
    found n among (Some r) has = rw (ap (λ m. is_among name_cmp m (map name_of cs)) (has r refl) ∙ among) refl

    each : (r : Claim) → row_at name_cmp name_of r.name after ≡ Some r → (is_among name_cmp r.name (map name_of cs) && differs (records_about cs before) r) ≡ differs before r
    each r there = elim (cases_Bool (is_among name_cmp r.name (map name_of cs))) [
      | inl t ↦ (
          let same : row_at name_cmp name_of r.name (records_about cs before) ≡ row_at name_cmp name_of r.name before =
          row_at-kept names_order name_of (λ x. is_among name_cmp x.name (map name_of cs)) r.name before rise
          ∙ found r.name t (row_at name_cmp name_of r.name before) (λ x e. found_key names_order name_of r.name before x e) in
          ap (λ b. b && differs (records_about cs before) r) t ∙ ap (λ o. not (is_row r o)) same)
      | inr f ↦ (
          let was = older r.name r f there in
          ap (λ b. b && differs (records_about cs before) r) f ∙ sym (ap (λ o. not (is_row r o)) was ∙ ap not (claim_itself r)))
    ]

-- without a claim none differs
pub none-differ : (before after : List Claim) → Rises name_cmp (map name_of before) → Rises name_cmp (map name_of after) → AreOlderBut [] before after → [] ≡ changed before after
none-differ before after rise up older =
    sym (nothing (changed (records_about [] before) after)) ∙ differing-about [] before after rise up older
  where
    nothing : (rows : List Claim) → records_about [] rows ≡ []
    nothing [] = refl
    nothing (r ∷ rows) = nothing rows

pub fired-differ : (id : TimerId) (s : State) → IsReached s → [] ≡ changed (view_state s) (view_state (forget_id id s))
fired-differ id s reached =
    none-differ (view_state s) (view_state (forget_id id s)) (rises-shown s.membership (reached-member s reached))
    (rises-shown (forget_id id s).membership (reached-member (forget_id id s) (reached-id id s reached))) (older-id id s reached [])

-- One record after another, of the members that the first claims are about.
pub record HaveRecords (claims rows found : List Claim) (i : ℕ) : Type 0 where
  pub are : found ≡ with_keys names_order name_of (map name_of (take i claims)) rows
  pub few : length found ≤ i

pub no_records : (claims rows found : List Claim) → found ≡ [] → HaveRecords claims rows found 0
no_records claims rows found none = record { are = none ∙ sym (nothing rows); few = omega (arith, ap length none) }
  where
    nothing : (rows : List Claim) → with_keys names_order name_of [] rows ≡ []
    nothing [] = refl
    nothing (r ∷ rows) = nothing rows

one_more : (rows : List Claim) (names : List (List ℕ)) (n : List ℕ) → Rises name_cmp (map name_of rows)
    → with_found (row_at name_cmp name_of n rows) (with_keys names_order name_of names rows) ≡ with_keys names_order name_of (names ++ n ∷ []) rows
one_more rows names n rise = elim (held (row_at name_cmp name_of n rows)) [
  | Missing none ↦ ap (λ o. with_found o (with_keys names_order name_of names rows)) none ∙ chosen-missing names_order name_of n names rows rise none
  | Holding r is ↦ (
      ap (λ o. with_found o (with_keys names_order name_of names rows)) is
      ∙ chosen-put names_order name_of n names rows r rise is (found_key names_order name_of n rows r is))
]

length-found : (o : Option Claim) (rows : List Claim) → length (with_found o rows) ≤ length rows + 1
length-found None rows = omega arith
length-found (Some r) rows = omega (arith, length_put_row-le names_order name_of r rows)

pub more_records : (claims rows found later : List Claim) (i : ℕ) (c : Claim) (o : Option Claim) → HaveRecords claims rows found i → Rises name_cmp (map name_of rows) → i < length claims → c ≡ get_or claims i c
    → o ≡ row_at name_cmp name_of c.name rows → later ≡ with_found o found → HaveRecords claims rows later (i + 1)
more_records claims rows found later i c o have rise within at is then = record {
  are =
      then
      ∙ (λ j. with_found (is j) (have.are j))
      ∙ one_more rows (map name_of (take i claims)) c.name rise
      ∙ ap (λ ns. with_keys names_order name_of ns rows) (sym (ap (map name_of) (take_more claims i c within ∙ ap (λ x. take i claims ++ x ∷ []) (sym at)) ∙ map-append name_of (take i claims) (c ∷ [])));
  few = omega (arith, have.few, ap length then, length-found o found);
}

pub rises_records : (claims rows found : List Claim) (i : ℕ) → HaveRecords claims rows found i → Rises name_cmp (map name_of rows) → Rises name_cmp (map name_of found)
rises_records claims rows found i have rise =
    subst (λ rs. Rises name_cmp (map name_of rs)) (sym have.are) (rises-chosen names_order name_of (map name_of (take i claims)) rows rise)

pub all_records : (claims rows found : List Claim) (i : ℕ) → HaveRecords claims rows found i → length claims ≤ i → found ≡ records_about claims rows
all_records claims rows found i have past = have.are ∙ ap (λ cs. with_keys names_order name_of (map name_of cs) rows) (take_all i claims past)

-- WHERE THERE IS ROOM
-- By a reached state: whether it forgets.
forgets-config : (g : GroupState) → IsGroupReached g → g.members.forgets ≡ forgets_in g.config
forgets-config g r = ap (λ (t : GroupState). t.members.forgets) r.is ∙ sym (ap (λ (t : GroupState). forgets_in t.config) r.is)

full_none : (b : Bool) (n m : ℕ) → (not b || leb (n + suc m) 255) ≡ true → (b && not (ltb n 255)) ≡ false
full_none false n m e = refl
full_none true n m e = grind (arith, nat_tests, e)

no_need : (c : Claim) (g : GroupState) (m : ℕ) → IsGroupReached g → has_room_in (suc m) g ≡ true → needs_room_in c g ≡ false
no_need c g m reached roomy = either (is_same name_cmp c.name g.own.name) (row_at name_cmp name_of c.name g.members.table)
  where
    full : (g.members.forgets && not (ltb (length g.members.table) 255)) ≡ false
    full = ap (λ b. b && not (ltb (length g.members.table) 255)) (forgets-config g reached) ∙ full_none (forgets_in g.config) (length g.members.table) m roomy

    less : (a b d : Bool) → (a && b) ≡ false → (a && (b && d)) ≡ false
    less true true d e = absurd cc
    less true false d e = refl
    less false b d e = refl

    lacking : (o : Option Claim) → lacks_room g.members.forgets (length g.members.table) c o ≡ false
    lacking None = less g.members.forgets (not (ltb (length g.members.table) 255)) (not (is_gone c.status)) full
    lacking (Some r) = refl

    either : (b : Bool) (o : Option Claim) → cond b false (lacks_room g.members.forgets (length g.members.table) c o) ≡ false
    either true o = refl
    either false o = lacking o

-- a claim brings one member at most
length-heard : (forgetting : Bool) (rows : List Claim) (c : Claim) → length (heard forgetting rows c) ≤ length rows + 1
length-heard forgetting rows c = elim (cases_Bool (takes forgetting rows c)) [
  | inl t ↦ omega (arith, ap length (heard_taken forgetting rows c t), length_put_row-le names_order name_of c rows)
  | inr f ↦ omega (arith, ap length (heard_passed forgetting rows c f))
]

length-applied : (now : ℕ) (origin : Origin) (c : Claim) (g : GroupState) → length (apply_to_group now origin c g).members.table ≤ length g.members.table + 1
length-applied now origin c g = elim (cases_key names_order c.name g.own.name) [
  | inl same ↦ omega (arith, ap (λ (t : GroupState). length t.members.table) (apply-own now origin c g same))
  | inr other ↦ omega (arith, ap (λ (t : GroupState). length t.members.table) (apply-other now origin c g other), length-heard g.members.forgets g.members.table c)
]

room_left : (b : Bool) (n m k : ℕ) → (not b || leb (n + suc m) 255) ≡ true → k ≤ n + 1 → (not b || leb (k + m) 255) ≡ true
room_left false n m k e le = refl
room_left true n m k e le = grind (arith, nat_tests, e, le)

roomy-later : (c : Claim) (s : State) (m : ℕ) → has_room_in (suc m) s.membership ≡ true → has_room_in m (apply_state Group c s).membership ≡ true
roomy-later c s m roomy =
    let after = (apply_state Group c s).membership in
    let few : length after.members.table ≤ length s.membership.members.table + 1 =
    subst (λ (g : GroupState). length g.members.table ≤ length s.membership.members.table + 1) (sym (membership-apply Group c s)) (length-applied s.moment Group c s.membership) in
    ap (λ o. not (forgets_in o) || leb (length after.members.table + m) 255) (config-apply-in Group c s)
    ∙ room_left (forgets_in s.membership.config) (length s.membership.members.table) m (length after.members.table) roomy few

without_need : (c : Claim) (s : State) → needs_room_in c s.membership ≡ false → make_room_state c s ≡ s
unfolding make_room_state
without_need c s none = ap (λ b. cond b (forget_first_state (first_forget s.timers) s) s) none

-- So nobody is forgotten by claims that are no table's.
pub heard-roomy : (cs : List Claim) (s : State) → IsReached s → has_room_in (length cs) s.membership ≡ true → hear_each_state None cs s ≡ apply_all_state Group cs s
heard-roomy [] s reached roomy = refl
heard-roomy (c ∷ cs) s reached roomy =
    let none = no_need c s.membership (length cs) (reached-member s reached) roomy in
    let next = apply_state Group c s in
    ap (λ t. hear_each_state None cs (apply_state Group c t)) (without_need c s none)
    ∙ heard-roomy cs next (reached-apply s next Group c refl reached) (roomy-later c s (length cs) roomy)

pub forgotten-roomy : (cs : List Claim) (s : State) → IsReached s → has_room_in (length cs) s.membership ≡ true → forgotten_each None cs s ≡ []
forgotten-roomy [] s reached roomy = refl
forgotten-roomy (c ∷ cs) s reached roomy =
    let none = no_need c s.membership (length cs) (reached-member s reached) roomy in
    let next = apply_state Group c s in
    (λ i. cond (none i) (forgotten_first (first_forget s.timers)) [] ++ forgotten_each None cs (apply_state Group c (without_need c s none i)))
    ∙ forgotten-roomy cs next (reached-apply s next Group c refl reached) (roomy-later c s (length cs) roomy)
