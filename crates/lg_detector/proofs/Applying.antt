-- Claims that are said one after another.
use Rattle.std.proofs.Common.{◌≡◌, ℕ, ◌+◌, ◌<◌, ◌≤◌, Bool, true, false, cond, List, [], ◌∷◌, ◌++◌, Option, length, map, get_or, drop, refl, sym, ap, subst, ◌∙◌, append_assoc, arith, length-append}
use Rattle.std.specs.Prelude.{filter}
use Rattle.std.proofs.lemmas.List.{drop_more, append-nil, drop_all}
use Rattle.lg_rules.specs.declared.claim.Claim.{Claim}
use Rattle.lg_rules.specs.Meaning.Claim.{name_of}
use Rattle.lg_rules.specs.Meaning.Rows.{name_cmp, is_among, Rises}
use Rattle.lg_rules.specs.Meaning.View.{changed}
use Rattle.lg_rules.specs.Support.Standing.{Standing, hear_claim, changes_record, changed_names}
use Rattle.lg_rules.proofs.KeyOrder.{names_order}
use Rattle.lg_rules.proofs.RowsFound.{few_among}
use Rattle.lg_membership.specs.declared.origin.Origin.{Origin}
use Rattle.lg_membership.specs.declared.origin.Origin.TheVariants.{Group}
use Rattle.lg_membership.specs.Support.State as known
use Rattle.lg_membership.specs.Support.State.{GroupState, apply_all_to_group, apply_to_group}
use Rattle.lg_membership.proofs.Applying.{standing-apply}
use Rattle.lg_membership.proofs.ChangedRows.{with_name, chosen-applied}
use Rattle.lg_membership.proofs.Chosen.{with_keys, chosen-none, rises-chosen}
use Rattle.lg_membership.proofs.Differing.{shown-differing}
use Rattle.lg_membership.proofs.Shown.{rises-shown}
use Rattle.lg_detector.specs.Support.Reached.{IsReached}
use Rattle.lg_detector.specs.Support.State.{State, apply_state, apply_all_state}
use Rattle.lg_detector.specs.Support.Step.{view_state}
use Rattle.lg_detector.proofs.Reaching.{reached-member, reached-apply}

-- what is known of the group, once a claim is said
pub membership-apply : (origin : Origin) (c : Claim) (s : State) → (apply_state origin c s).membership ≡ apply_to_group s.moment origin c s.membership
unfolding apply_state
membership-apply origin c s = refl

moment-apply : (origin : Origin) (c : Claim) (s : State) → (apply_state origin c s).moment ≡ s.moment
unfolding apply_state
moment-apply origin c s = refl

pub membership-apply_all : (origin : Origin) (cs : List Claim) (s : State) → (apply_all_state origin cs s).membership ≡ apply_all_to_group s.moment origin cs s.membership
membership-apply_all origin [] s = refl
membership-apply_all origin (c ∷ cs) s =
    membership-apply_all origin cs (apply_state origin c s) ∙ (λ i. apply_all_to_group (moment-apply origin c s i) origin cs (membership-apply origin c s i))

standing-said : (origin : Origin) (c : Claim) (s : State) → known.standing (apply_state origin c s).membership ≡ hear_claim (known.standing s.membership) c
standing-said origin c s = ap known.standing (membership-apply origin c s) ∙ standing-apply s.moment origin c s.membership

-- After the first so many claims, the records of these names have changed, and are those that differ so far.
pub record IsOnTheWay (first now : State) (claims : List Claim) (i : ℕ) (rows : List Claim) : Type 0 where
  pub names : List (List ℕ)
  pub state : apply_all_state Group (drop i claims) now ≡ apply_all_state Group claims first
  pub changed : names ++ changed_names (known.standing now.membership) (drop i claims) ≡ changed_names (known.standing first.membership) claims
  pub few : length names ≤ i
  pub reached : IsReached now
  pub rows_are : rows ≡ with_keys names_order name_of names (view_state now)

-- at the start
pub begins : (first : State) (claims rows : List Claim) → IsReached first → rows ≡ [] → IsOnTheWay first first claims 0 rows
begins first claims rows reached none = record {
  names = [];
  state = refl;
  changed = refl;
  few = omega arith;
  reached = reached;
  rows_are = none ∙ sym (chosen-none names_order name_of (view_state first));
}

-- so a further one has room, and they are in order
pub way_room : (first now : State) (claims : List Claim) (i : ℕ) (rows : List Claim) → IsOnTheWay first now claims i rows → length rows ≤ i
way_room first now claims i rows way =
    let rise = rises-shown now.membership (reached-member now way.reached) in
    omega (arith, ap length way.rows_are, few_among names_order name_of way.names (view_state now) rise, way.few)

pub way_rises : (first now : State) (claims : List Claim) (i : ℕ) (rows : List Claim) → IsOnTheWay first now claims i rows → Rises name_cmp (map name_of rows)
way_rises first now claims i rows way =
    subst (λ (rs : List Claim). Rises name_cmp (map name_of rs)) (sym way.rows_are)
    (rises-chosen names_order name_of way.names (view_state now) (rises-shown now.membership (reached-member now way.reached)))

next_claim : (cs : List Claim) (i : ℕ) (c : Claim) → i < length cs → c ≡ get_or cs i c → drop i cs ≡ c ∷ drop (i + 1) cs
next_claim cs i c lt is = drop_more cs i c lt ∙ ap (λ (d : Claim). d ∷ drop (i + 1) cs) (sym is)

either : (b : Bool) (names later : List (List ℕ)) (c : Claim) → names ++ cond b (c.name ∷ later) later ≡ with_name b names c ++ later
either true names later c = sym (append_assoc names (c.name ∷ []) later)
either false names later c = refl

length-with_name : (b : Bool) (names : List (List ℕ)) (c : Claim) → length (with_name b names c) ≤ length names + 1
length-with_name true names c = omega (arith, length-append names (c.name ∷ []))
length-with_name false names c = omega arith

-- after one more claim
goes_on : (first now : State) (claims : List Claim) (i : ℕ) (rows : List Claim) (c : Claim) → IsOnTheWay first now claims i rows → i < length claims → c ≡ get_or claims i c
    → IsOnTheWay first (apply_state Group c now) claims (i + 1) (known.with_found (known.applied now.moment c now.membership).changed rows)
goes_on first now claims i rows c way lt is =
    let step = next_claim claims i c lt is in
    let rest = drop (i + 1) claims in
    let here = known.standing now.membership in
    let names = way.names in
    let found = (known.applied now.moment c now.membership).changed in
    record {
      names = with_name (changes_record here c) names c;
      state = sym (ap (λ cs. apply_all_state Group cs now) step) ∙ way.state;
      changed =
          sym (
          ap (λ cs. names ++ changed_names here cs) step
          ∙ either (changes_record here c) names (changed_names (hear_claim here c) rest) c
          ∙ ap (λ (m : Standing). with_name (changes_record here c) names c ++ changed_names m rest) (sym (standing-said Group c now)))
          ∙ way.changed;
      few = omega (arith, way.few, length-with_name (changes_record here c) names c);
      reached = reached-apply now (apply_state Group c now) Group c refl way.reached;
      rows_are =
          ap (known.with_found found) way.rows_are
          ∙ chosen-applied now.moment Group c now.membership names (reached-member now way.reached)
          ∙ ap (λ (m : GroupState). with_keys names_order name_of (with_name (changes_record here c) names c) (known.shown m)) (sym (membership-apply Group c now));
    }

pub goes_on_by : (first now after : State) (claims : List Claim) (i : ℕ) (rows later : List Claim) (c : Claim) (found : Option Claim) → IsOnTheWay first now claims i rows → i < length claims
    → c ≡ get_or claims i c → after ≡ apply_state Group c now → found ≡ (known.applied now.moment c now.membership).changed → later ≡ known.with_found found rows → IsOnTheWay first after claims (i + 1) later
goes_on_by first now after claims i rows later c found way lt is state found_is later_is =
    rw (state, later_is, found_is) (goes_on first now claims i rows c way lt is)

-- at the end
pub all_said : (first now : State) (claims : List Claim) (i : ℕ) (rows : List Claim) → IsOnTheWay first now claims i rows → length claims ≤ i → now ≡ apply_all_state Group claims first
all_said first now claims i rows way le = ap (λ cs. apply_all_state Group cs now) (sym (drop_all i claims le)) ∙ way.state

all_named : (first now : State) (claims : List Claim) (i : ℕ) (rows : List Claim) (way : IsOnTheWay first now claims i rows) → length claims ≤ i → way.names ≡ changed_names (known.standing first.membership) claims
all_named first now claims i rows way le = sym (append-nil way.names) ∙ ap (λ cs. way.names ++ changed_names (known.standing now.membership) cs) (sym (drop_all i claims le)) ∙ way.changed

-- The records of the names whose records claims changed are those that differ.
say_differing : (s : State) (cs : List Claim) → IsReached s
    → filter (λ r. is_among name_cmp r.name (changed_names (known.standing s.membership) cs)) (view_state (apply_all_state Group cs s)) ≡ changed (view_state s) (view_state (apply_all_state Group cs s))
say_differing s cs r =
    let is = membership-apply_all Group cs s in
    let test : Claim → Bool = λ c. is_among name_cmp c.name (changed_names (known.standing s.membership) cs) in
    ap (λ (m : GroupState). filter test (known.shown m)) is
    ∙ shown-differing s.moment Group cs s.membership (reached-member s r)
    ∙ ap (λ (m : GroupState). changed (known.shown s.membership) (known.shown m)) (sym is)

pub all_differing : (first now : State) (claims : List Claim) (i : ℕ) (rows : List Claim) → IsReached first → IsOnTheWay first now claims i rows → length claims ≤ i
    → rows ≡ changed (view_state first) (view_state (apply_all_state Group claims first))
all_differing first now claims i rows reached way le =
    way.rows_are
    ∙ (λ j. with_keys names_order name_of (all_named first now claims i rows way le j) (view_state (all_said first now claims i rows way le j)))
    ∙ say_differing first claims reached
