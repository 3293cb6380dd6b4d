-- The others that aren't gone, once a claim is said.
use Rattle.std.proofs.Common.{◌≡◌, ◌≢◌, ℕ, ◌+◌, ◌≤◌, Bool, true, false, not, ◌||◌, ◌&&◌, cond, List, [], ◌∷◌, length, map, Option, Some, None, inl, inr, refl, sym, ◌∙◌, ap, subst, arith}
use Rattle.std.specs.Prelude.{filter}
use Rattle.std.specs.Cmp.{nat_cmp_is}
use Rattle.std.specs.declared.cmp.Ordering.TheVariants.{Less, Equal, Greater}
use Rattle.std.proofs.lemmas.Bool.{cases_Bool, false≢true}
use Rattle.std.proofs.lemmas.List.{length-map}
use Rattle.std.proofs.lemmas.List.Sums.{length-filter, count_by-le-length}
use Rattle.lg_rules.specs.declared.claim.Claim.{Claim}
use Rattle.lg_rules.specs.declared.claim.Status.{Status}
use Rattle.lg_rules.specs.declared.claim.Status.TheVariants.{Alive, Suspect, Failed, Left}
use Rattle.lg_rules.specs.Meaning.Claim.{is_gone, name_of}
use Rattle.lg_rules.specs.Meaning.Rows.{name_cmp, by_order, is_same, is_among, put_key, put_row, row_at, without_row, AreAbove, Rises}
use Rattle.lg_rules.specs.Meaning.Table.{live_in, record_of, roster, takes, heard}
use Rattle.lg_rules.specs.Support.Members.{live_weight}
use Rattle.lg_rules.proofs.Cases.{Missing, Holding, held, Below, Tied, Above, compared}
use Rattle.lg_rules.proofs.KeyOrder.{names_order, same_key, other_key, cases_key, less_apart, turned}
use Rattle.lg_rules.proofs.LiveLaws.{live-put_new, live-put_old}
use Rattle.lg_rules.proofs.Rises.{above_lower, not_among, among-put, among-cons_same, among-cons_other, among-filter, rises-put, rises-filter, same_members}
use Rattle.lg_rules.proofs.RowLaws.{row_at-put}
use Rattle.lg_rules.proofs.Tables.{rises-table, table-forgot, row_at-table, length_table-le, table-nil, table-own, heard-table, heard_taken, heard_passed, rises-heard}
use Rattle.lg_timing.specs.declared.config.Config.{Config}
use Rattle.lg_timing.specs.Meaning.Config.{does_forget}
use Rattle.lg_membership.specs.declared.applied.Presence.{Presence}
use Rattle.lg_membership.specs.declared.applied.Presence.TheVariants.{Stays as Remains, Joins, Leaves}
use Rattle.lg_membership.specs.declared.origin.Origin.{Origin}
use Rattle.lg_membership.specs.Meaning.Log.{GroupLog, Opened, Said, Forgot, me, own_facts, forgets, known_others, table, live, live_names, live_others}
use Rattle.lg_membership.specs.Meaning.Applied.{is_live, presence_of}
use Rattle.lg_membership.specs.Support.Changes.{presence_heard, presence_by, live_after}
use Rattle.lg_membership.specs.Support.State.{GroupState, group_state_of, open_group, live_others_in}

-- A member is among them exactly where it has a record that isn't gone.
abbrev lives : Claim → Bool
lives r = not (is_gone r.status)

abbrev has_live : Option Claim → Bool
has_live None = false
has_live (Some r) = lives r

above-live : (m : List ℕ) (rows : List Claim) → AreAbove name_cmp m (map name_of rows) → AreAbove name_cmp m (live_names rows)
above-live m [] above = tt
above-live m (r ∷ rows) above = elim (cases_Bool (lives r)) [
  | inl t ↦ rw t (above.0, above-live m rows above.1)
  | inr f ↦ rw f (above-live m rows above.1)
]

pub rises-live : (rows : List Claim) → Rises name_cmp (map name_of rows) → Rises name_cmp (live_names rows)
rises-live [] rise = tt
rises-live (r ∷ rows) rise = elim (cases_Bool (lives r)) [
  | inl t ↦ rw t (above-live r.name rows rise.0, rises-live rows rise.1)
  | inr f ↦ rw f (rises-live rows rise.1)
]

pub among-live : (m : List ℕ) (rows : List Claim) → Rises name_cmp (map name_of rows)
    → is_among name_cmp m (live_names rows) ≡ has_live (row_at name_cmp name_of m rows)
among-live m [] rise = refl
among-live m (r ∷ rows) rise = elim (compared (name_cmp m r.name)) [
  | Below l ↦ (
      let up : AreAbove name_cmp m (map name_of (r ∷ rows)) = (l, above_lower names_order m r.name (map name_of rows) l rise.0) in
      rw l (not_among names_order m (live_names (r ∷ rows)) (above-live m (r ∷ rows) up)))
  | Tied t ↦ (
      let one : m ≡ r.name = names_order.exact m r.name t in
      let rest : is_among name_cmp m (live_names rows) ≡ false =
      not_among names_order m (live_names rows) (above-live m rows (subst (λ k. AreAbove name_cmp k (map name_of rows)) (sym one) rise.0)) in
      elim (cases_Bool (lives r)) [
        | inl live ↦ rw (t, live) (among-cons_same names_order m r.name (live_names rows) (sym one))
        | inr failed ↦ rw (t, failed) rest
      ])
  | Above g ↦ (
      let d : r.name ≢ m = less_apart names_order r.name m (turned names_order m r.name Greater g) in
      let rest = among-live m rows rise.1 in
      elim (cases_Bool (lives r)) [
        | inl live ↦ rw (g, live) (among-cons_other names_order m r.name (live_names rows) d ∙ rest)
        | inr failed ↦ rw (g, failed) rest
      ])
]

-- Names of which one alone may join or leave: which they are then, by whether it was among them and is.
module _ (m : List ℕ) (before after : List (List ℕ)) (rise : Rises name_cmp before) (rise_then : Rises name_cmp after)
    (known_others : (k : List ℕ) → m ≢ k → is_among name_cmp k after ≡ is_among name_cmp k before) where
  as_before : (b : Bool) → is_among name_cmp m before ≡ b → is_among name_cmp m after ≡ b → (k : List ℕ) → is_among name_cmp k after ≡ is_among name_cmp k before
  as_before b was is k = elim (cases_key names_order m k) [
    | inl e ↦ subst (λ n. is_among name_cmp n after ≡ is_among name_cmp n before) e (is ∙ sym was)
    | inr d ↦ known_others k d
  ]

  with_it : is_among name_cmp m after ≡ true → (k : List ℕ) → is_among name_cmp k after ≡ is_among name_cmp k (put_key name_cmp m before)
  with_it is k =
      let put = among-put names_order k m before in
      elim (cases_key names_order m k) [
        | inl e ↦ subst (λ n. is_among name_cmp n after ≡ true) e is ∙ sym (put ∙ ap (λ b. b || is_among name_cmp k before) (same_key names_order m k e))
        | inr d ↦ known_others k d ∙ sym (put ∙ ap (λ b. b || is_among name_cmp k before) (other_key names_order m k d))
      ]

  without_it : is_among name_cmp m after ≡ false → (k : List ℕ) → is_among name_cmp k after ≡ is_among name_cmp k (without_row name_cmp (λ n. n) m before)
  without_it is k =
      let left = among-filter names_order (λ n. not (is_same name_cmp n m)) k before in
      elim (cases_key names_order m k) [
        | inl e ↦ subst (λ n. is_among name_cmp n after ≡ false) e is ∙ sym (left ∙ ap (λ b. not b && is_among name_cmp k before) (same_key names_order k m (sym e)))
        | inr d ↦ known_others k d ∙ sym (left ∙ ap (λ b. not b && is_among name_cmp k before) (other_key names_order k m (λ e. d (sym e))))
      ]

  by_presence : (b a : Bool) → is_among name_cmp m before ≡ b → is_among name_cmp m after ≡ a → after ≡ live_after (presence_of b a) m before
  by_presence true true was is = same_members names_order after before rise_then rise (as_before true was is)
  by_presence false false was is = same_members names_order after before rise_then rise (as_before false was is)
  by_presence false true was is =
      same_members names_order after (put_key name_cmp m before) rise_then (rises-put names_order m before rise) (with_it is)
  by_presence true false was is =
      same_members names_order after (without_row name_cmp (λ n. n) m before) rise_then
      (rises-filter names_order (λ n. not (is_same name_cmp n m)) before rise) (without_it is)

  changed-names : after ≡ live_after (presence_of (is_among name_cmp m before) (is_among name_cmp m after)) m before
  changed-names = by_presence (is_among name_cmp m before) (is_among name_cmp m after) refl refl

-- A claim about another is heard: no record of another name changes.
heard-others : (forgetting : Bool) (rows : List Claim) (c : Claim) (k : List ℕ) → c.name ≢ k → row_at name_cmp name_of k (heard forgetting rows c) ≡ row_at name_cmp name_of k rows
heard-others forgetting rows c k d = elim (cases_Bool (takes forgetting rows c)) [
  | inl t ↦ (
      ap (row_at name_cmp name_of k) (heard_taken forgetting rows c t)
      ∙ row_at-put names_order name_of k c rows
      ∙ ap (λ b. cond b (Some c) (row_at name_cmp name_of k rows)) (other_key names_order c.name k d))
  | inr f ↦ ap (row_at name_cmp name_of k) (heard_passed forgetting rows c f)
]

heard-live : (forgetting : Bool) (rows : List Claim) (c : Claim) → Rises name_cmp (map name_of rows) → (k : List ℕ) → c.name ≢ k
    → is_among name_cmp k (live_names (heard forgetting rows c)) ≡ is_among name_cmp k (live_names rows)
heard-live forgetting rows c rise k d =
    among-live k (heard forgetting rows c) (rises-heard forgetting rows c rise) ∙ ap has_live (heard-others forgetting rows c k d) ∙ sym (among-live k rows rise)

-- What becomes of its member is told by how many aren't gone before and then.
abbrev counts : Bool → ℕ
counts true = 1
counts false = 0

weight-is : (s : Status) → live_weight s ≡ counts (not (is_gone s))
weight-is Alive = refl
weight-is (Suspect a) = refl
weight-is Failed = refl
weight-is Left = refl

by_counts : (b a : Bool) (before after : ℕ) → after + counts b ≡ counts a + before → presence_by before after ≡ presence_of b a
by_counts true true before after e = ap (λ o. by_order o Leaves Remains Joins) (sym (nat_cmp_is after before Equal (omega arith)))
by_counts false false before after e = ap (λ o. by_order o Leaves Remains Joins) (sym (nat_cmp_is after before Equal (omega arith)))
by_counts false true before after e = ap (λ o. by_order o Leaves Remains Joins) (sym (nat_cmp_is after before Greater (omega arith)))
by_counts true false before after e = ap (λ o. by_order o Leaves Remains Joins) (sym (nat_cmp_is after before Less (omega arith)))

-- a record is put
counted_put : (c : Claim) (rows : List Claim)
    → live_in (put_row name_cmp name_of c rows) + counts (has_live (row_at name_cmp name_of c.name rows)) ≡ counts (lives c) + live_in rows
counted_put c rows = elim (held (row_at name_cmp name_of c.name rows)) [
  | Missing gap ↦ rw gap (omega (arith, live-put_new c rows gap, weight-is c.status))
  | Holding old found ↦ rw found (omega (arith, live-put_old c old rows found, weight-is c.status, weight-is old.status))
]

counted : (forgetting : Bool) (rows : List Claim) (c : Claim)
    → live_in (heard forgetting rows c) + counts (has_live (row_at name_cmp name_of c.name rows))
    ≡ counts (has_live (row_at name_cmp name_of c.name (heard forgetting rows c))) + live_in rows
counted forgetting rows c = elim (cases_Bool (takes forgetting rows c)) [
  | inl t ↦ (
      let found : row_at name_cmp name_of c.name (put_row name_cmp name_of c rows) ≡ Some c =
      row_at-put names_order name_of c.name c rows ∙ ap (λ b. cond b (Some c) (row_at name_cmp name_of c.name rows)) (same_key names_order c.name c.name refl) in
      rw (heard_taken forgetting rows c t, found) (counted_put c rows))
  | inr f ↦ rw (heard_passed forgetting rows c f) (omega arith)
]

pub presence-counted : (forgetting : Bool) (rows : List Claim) (c : Claim) → Rises name_cmp (map name_of rows)
    → presence_by (live_in rows) (live_in (heard forgetting rows c)) ≡ presence_heard forgetting rows c
presence-counted forgetting rows c rise =
    let was = among-live c.name rows rise in
    let is = among-live c.name (heard forgetting rows c) (rises-heard forgetting rows c rise) in
    by_counts (has_live (row_at name_cmp name_of c.name rows)) (has_live (row_at name_cmp name_of c.name (heard forgetting rows c))) (live_in rows) (live_in (heard forgetting rows c)) (counted forgetting rows c)
    ∙ (λ i. presence_of (sym was i) (sym is i))

-- How many aren't gone, oneself included, is one more than the others that haven't.
pub live-others : (log : GroupLog) → live log ≡ length (live_others log) + 1
live-others log = omega (arith, length-map (filter lives (table log)) name_of, length-filter lives (table log))

-- They are in the order of names,
pub rises-live_others : (log : GroupLog) → Rises name_cmp (live_others log)
rises-live_others log = rises-live (table log) (rises-table (forgets log) (me log) (own_facts log))

-- each is known,
known_if : (b : Bool) (o : Option Claim) → has_live (cond b o None) ≡ true → b ≡ true
known_if true o e = refl
known_if false o e = absurd (false≢true e)

pub live_known : (log : GroupLog) (m : List ℕ) → is_among name_cmp m (live_others log) ≡ true → is_among name_cmp m (roster (forgets log) (me log) (own_facts log)) ≡ true
live_known log m among =
    let is = among-live m (table log) (rises-table (forgets log) (me log) (own_facts log)) ∙ ap has_live (row_at-table (forgets log) (me log) (own_facts log) m) in
    known_if (is_among name_cmp m (roster (forgets log) (me log) (own_facts log))) (record_of (forgets log) (me log) (own_facts log) m) (sym is ∙ among)

-- and they are at most 255.
pub length-live_others : (log : GroupLog) → length (live_others log) ≤ 255
length-live_others log =
    omega (arith, length-map (filter lives (table log)) name_of, length-filter lives (table log), count_by-le-length lives (table log), length_table-le (forgets log) (me log) (own_facts log))

-- There is none before anything happened, nor once the member was opened.
pub live-nil : live_others [] ≡ []
live-nil = ap live_names (table-nil (forgets []) (me []))

pub live-opened : (opening : Config) (log : GroupLog) → live_others (Opened opening ∷ log) ≡ []
live-opened opening log = ap live_names (table-nil (does_forget opening) opening.name)

pub live-open : (opening : Config) (s : GroupState) → live_others_in (open_group opening s) ≡ []
live-open opening s = ap live_names (table-nil (does_forget opening) opening.name)

-- Those of a log's state are those of the log.
pub live-state : (log : GroupLog) → live_others_in (group_state_of log) ≡ live_others log
live-state log = refl

-- Once a claim is said, its member joined them, left them, or neither.
said-others : (now : ℕ) (origin : Origin) (c : Claim) (log : GroupLog) (k : List ℕ) → c.name ≢ k
    → is_among name_cmp k (live_others (Said now origin c ∷ log)) ≡ is_among name_cmp k (live_others log)
said-others now origin c log k d = elim (cases_key names_order c.name (me log)) [
  | inl same ↦ ap (λ rows. is_among name_cmp k (live_names rows)) (table-own (forgets log) (me log) c (own_facts log) same)
  | inr other ↦ (
      ap (λ rows. is_among name_cmp k (live_names rows)) (sym (heard-table (forgets log) (me log) c (own_facts log) other))
      ∙ heard-live (forgets log) (table log) c (rises-table (forgets log) (me log) (own_facts log)) k d)
]

abbrev pub presence_said : ℕ → Origin → Claim → GroupLog → Presence
presence_said now origin c log = presence_of (is_live log c.name) (is_live (Said now origin c ∷ log) c.name)

pub live-said : (now : ℕ) (origin : Origin) (c : Claim) (log : GroupLog)
    → live_others (Said now origin c ∷ log) ≡ live_after (presence_said now origin c log) c.name (live_others log)
live-said now origin c log =
    changed-names c.name (live_others log) (live_others (Said now origin c ∷ log)) (rises-live_others log) (rises-live_others (Said now origin c ∷ log))
    (said-others now origin c log)

-- Where the claim is about oneself, nobody joins or leaves; else the records say who does.
presence_still : (b : Bool) → Remains ≡ presence_of b b
presence_still true = refl
presence_still false = refl

pub presence-own : (now : ℕ) (origin : Origin) (c : Claim) (log : GroupLog) → c.name ≡ me log → Remains ≡ presence_said now origin c log
presence-own now origin c log same =
    presence_still (is_live log c.name)
    ∙ ap (λ rows. presence_of (is_live log c.name) (is_among name_cmp c.name (live_names rows))) (sym (table-own (forgets log) (me log) c (own_facts log) same))

pub presence-other : (now : ℕ) (origin : Origin) (c : Claim) (log : GroupLog) → c.name ≢ me log → presence_heard (forgets log) (table log) c ≡ presence_said now origin c log
presence-other now origin c log other =
    ap (λ rows. presence_of (is_live log c.name) (is_among name_cmp c.name (live_names rows))) (heard-table (forgets log) (me log) c (own_facts log) other)

-- Once a name is forgotten, all others of them are left.
live-without : (n : List ℕ) (rows : List Claim) → live_names (without_row name_cmp name_of n rows) ≡ without_row name_cmp (λ k. k) n (live_names rows)
live-without n [] = refl
live-without n (r ∷ rows) = elim (cases_Bool (is_same name_cmp r.name n)) [
  | inl t ↦ elim (cases_Bool (lives r)) [
    | inl live ↦ rw (t, live, t) (live-without n rows)
    | inr gone ↦ rw (t, gone) (live-without n rows)
  ]
  | inr f ↦ elim (cases_Bool (lives r)) [
    | inl live ↦ rw (f, live, f) (ap (λ ns. r.name ∷ ns) (live-without n rows))
    | inr gone ↦ rw (f, gone) (live-without n rows)
  ]
]

pub live-forgot : (n : List ℕ) (log : GroupLog) → live_others (Forgot n ∷ log) ≡ without_row name_cmp (λ k. k) n (live_others log)
live-forgot n log = ap live_names (sym (table-forgot (forgets log) (me log) n (own_facts log))) ∙ live-without n (table log)
