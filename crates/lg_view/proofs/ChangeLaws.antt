-- The changes of a longer list of events.
use Rattle.std.proofs.Common.{◌≡◌, ℕ, ◌+◌, ◌≤◌, Bool, true, false, not, if◌then◌else◌, Option, Some, None, List, [], ◌∷◌, ◌++◌, length, map, refl, sym, ap, ◌∙◌, arith, append-nil, append_assoc, length-append}
use Rattle.std.specs.Prelude.{filter, is_none, is_some, nat_lt}
use mathlib.Core.List.{IsPrefix}
use Rattle.std.proofs.lemmas.Bool.Decides.{nat_tests}
use Rattle.std.proofs.lemmas.List.{map-append}
use Rattle.std.proofs.lemmas.List.Elements.{filter-append}
use Rattle.lg_rules.specs.declared.claim.Claim.{Claim}
use Rattle.lg_changes.specs.declared.change.Change.{Change}
use Rattle.lg_changes.specs.Meaning.Changes.{recorded_at, forgotten_at, is_after}
use Rattle.lg_detector.specs.declared.event.Event.{Event}
use Rattle.lg_detector.specs.declared.event.Event.TheVariants.{Open, Tick, Heard, Ask, Health, Pull, Leave}
use Rattle.lg_detector.specs.Meaning.Step.{is_open_event, moment_after, reply_after, view_after}
use Rattle.lg_timing.specs.declared.config.Config.{Config}
use Rattle.lg_view.specs.Meaning.Changes.{changed_at, changes_by, changes_at, changes_behind, changes_of, forgotten_in, is_unknown_after}

-- those of some events and of more events behind them
pub changes_split : (before some more : List Event)
    → changes_behind before (some ++ more) ≡ changes_behind before some ++ changes_behind (before ++ some) more
unfolding changes_behind
changes_split before [] more = ap (λ (b : List Event). changes_behind b more) (sym (append-nil before))
changes_split before (e ∷ some) more =
    ap (λ (l : List Change). changes_at before e ++ l) (changes_split (before ++ e ∷ []) some more)
    ∙ ap (λ (b : List Event). changes_at before e ++ (changes_behind (before ++ e ∷ []) some ++ changes_behind b more)) (append_assoc before (e ∷ []) some)
    ∙ sym (append_assoc (changes_at before e) (changes_behind (before ++ e ∷ []) some) (changes_behind (before ++ e ∷ some) more))

-- Of some names those that pass a test, once one more comes: it is one of them or not.
pub passed_more : (all : List Change) (makes : List ℕ → Change) (p : List ℕ → Bool) (names : List (List ℕ)) (n : List ℕ) → p n ≡ true
    → (all ++ map makes (filter p names)) ++ makes n ∷ [] ≡ all ++ map makes (filter p (names ++ n ∷ []))
passed_more all makes p names n pass =
    append_assoc all (map makes (filter p names)) (makes n ∷ [])
    ∙ ap (λ (l : List Change). all ++ l) (sym (map-append makes (filter p names) (n ∷ [])))
    ∙ ap (λ (l : List (List ℕ)). all ++ map makes l) (sym (filter-append p names (n ∷ []) ∙ ap (λ (b : Bool). filter p names ++ (if b then n ∷ [] else [])) pass))

pub passed_same : (p : List ℕ → Bool) (names : List (List ℕ)) (n : List ℕ) → p n ≡ false → filter p (names ++ n ∷ []) ≡ filter p names
passed_same p names n fail =
    filter-append p names (n ∷ []) ∙ ap (λ (b : Bool). filter p names ++ (if b then n ∷ [] else [])) fail ∙ append-nil (filter p names)

-- a record that is missing, by a test that asks whether there is one
pub missing_is : (o : Option Claim) (b : Bool) → is_some o ≡ not b → is_none o ≡ b
missing_is None true e = refl
missing_is None false e = absurd cc
missing_is (Some r) true e = absurd cc
missing_is (Some r) false e = refl

-- those that an event forgot, by the names that its reply tells
pub forgotten-are : (f : List Event) (e : Event) (names : List (List ℕ)) → names ≡ (reply_after f e).forgotten.items
    → filter (is_unknown_after (f ++ e ∷ [])) names ≡ forgotten_in f e
unfolding forgotten_in
forgotten-are f e names same = ap (filter (is_unknown_after (f ++ e ∷ []))) same

-- those of one event more
pub changes_next : (f : List Event) (e : Event) → changes_of (f ++ e ∷ []) ≡ changes_of f ++ changes_at f e
unfolding changes_behind
changes_next f e =
    changes_split [] f (e ∷ [])
    ∙ ap (λ (l : List Change). changes_of f ++ l) (append-nil (changes_at f e))

same_changes : (version version' moment moment' : ℕ) (names names' : List (List ℕ)) (rows rows' : List Claim) → version ≡ version' → moment ≡ moment' → names ≡ names' → rows ≡ rows'
    → changes_by version moment names rows ≡ changes_by version' moment' names' rows'
same_changes version version' moment moment' names names' rows rows' v m n r = rw (v, m, n, r) refl

-- those of an opening are the whole table
pub changes_opening : (f : List Event) (e : Event) (version moment : ℕ) (names : List (List ℕ)) (table : List Claim) → is_open_event e ≡ true
    → version ≡ length f + 1 → moment ≡ moment_after (f ++ e ∷ []) → names ≡ forgotten_in f e → table ≡ view_after (f ++ e ∷ [])
    → changes_by version moment names table ≡ changes_at f e
unfolding changes_at changed_at
changes_opening f e version moment names table opens v m n t =
    same_changes version (length f + 1) moment (moment_after (f ++ e ∷ [])) names (forgotten_in f e) table (changed_at f e) v m n (rw opens t)

-- those of any other event are told by its reply
pub changes_told : (f : List Event) (e : Event) (version moment : ℕ) (names : List (List ℕ)) (rows : List Claim) → is_open_event e ≡ false
    → version ≡ length f + 1 → moment ≡ moment_after (f ++ e ∷ []) → names ≡ forgotten_in f e → rows ≡ (reply_after f e).changed.items
    → changes_by version moment names rows ≡ changes_at f e
unfolding changes_at changed_at
changes_told f e version moment names rows opens v m n t =
    same_changes version (length f + 1) moment (moment_after (f ++ e ∷ [])) names (forgotten_in f e) rows (changed_at f e) v m n (rw opens t)

-- an event that is no opening
pub not_open : (e : Event) → ((now : ℕ) (config : Config) → e ≡ Open now config → ⊥) → is_open_event e ≡ false
not_open (Open now config) other = absurd (other now config refl)
not_open (Tick now words) other = refl
not_open (Heard now source packet) other = refl
not_open (Ask now name) other = refl
not_open (Health now) other = refl
not_open (Pull now peer) other = refl
not_open (Leave now words) other = refl

later_pass : {A : Type 0} (n : ℕ) (makes : A → Change) (rows : List A) → ((r : A) → is_after n (makes r) ≡ true) → filter (is_after n) (map makes rows) ≡ map makes rows
later_pass n makes [] later = refl
later_pass n makes (r ∷ rows) later = rw (later r) (ap (λ (l : List Change). makes r ∷ l) (later_pass n makes rows later))

earlier_fail : {A : Type 0} (n : ℕ) (makes : A → Change) (rows : List A) → ((r : A) → is_after n (makes r) ≡ false) → filter (is_after n) (map makes rows) ≡ []
earlier_fail n makes [] earlier = refl
earlier_fail n makes (r ∷ rows) earlier = rw (earlier r) (earlier_fail n makes rows earlier)

-- The changes of one event have one version, so all are behind another version, or none is.
event_later : (n : ℕ) (before : List Event) (e : Event) → nat_lt n (length before + 1) ≡ true → filter (is_after n) (changes_at before e) ≡ changes_at before e
unfolding changes_at
event_later n before e later =
    let v : ℕ = length before + 1 in
    let m : ℕ = moment_after (before ++ e ∷ []) in
    let names : List (List ℕ) = forgotten_in before e in
    let rows : List Claim = changed_at before e in
    filter-append (is_after n) (map (forgotten_at v m) names) (map (recorded_at v m) rows)
    ∙ (λ i. later_pass n (forgotten_at v m) names (λ r. later) i ++ later_pass n (recorded_at v m) rows (λ r. later) i)

event_earlier : (n : ℕ) (before : List Event) (e : Event) → nat_lt n (length before + 1) ≡ false → filter (is_after n) (changes_at before e) ≡ []
unfolding changes_at
event_earlier n before e earlier =
    let v : ℕ = length before + 1 in
    let m : ℕ = moment_after (before ++ e ∷ []) in
    let names : List (List ℕ) = forgotten_in before e in
    let rows : List Claim = changed_at before e in
    filter-append (is_after n) (map (forgotten_at v m) names) (map (recorded_at v m) rows)
    ∙ (λ i. earlier_fail n (forgotten_at v m) names (λ r. earlier) i ++ earlier_fail n (recorded_at v m) rows (λ r. earlier) i)

-- Those of events that come behind at least so many are behind this version;
pub behind_later : (n : ℕ) (before later : List Event) → n ≤ length before
    → filter (is_after n) (changes_behind before later) ≡ changes_behind before later
unfolding changes_behind
behind_later n before [] many = refl
behind_later n before (e ∷ later) many =
    let test : nat_lt n (length before + 1) ≡ true = grind (arith, nat_tests) in
    let more : n ≤ length (before ++ e ∷ []) = omega (arith, many, length-append before (e ∷ [])) in
    filter-append (is_after n) (changes_at before e) (changes_behind (before ++ e ∷ []) later)
    ∙ ap (λ (l : List Change). l ++ filter (is_after n) (changes_behind (before ++ e ∷ []) later)) (event_later n before e test)
    ∙ ap (λ (l : List Change). changes_at before e ++ l) (behind_later n (before ++ e ∷ []) later more)

-- and those of the first so many events aren't.
pub behind_earlier : (n : ℕ) (before later : List Event) → length before + length later ≤ n
    → filter (is_after n) (changes_behind before later) ≡ []
unfolding changes_behind
behind_earlier n before [] few = refl
behind_earlier n before (e ∷ later) few =
    let test : nat_lt n (length before + 1) ≡ false = grind (arith, nat_tests, few) in
    let fewer : length (before ++ e ∷ []) + length later ≤ n = omega (arith, few, length-append before (e ∷ [])) in
    filter-append (is_after n) (changes_at before e) (changes_behind (before ++ e ∷ []) later)
    ∙ ap (λ (l : List Change). l ++ filter (is_after n) (changes_behind (before ++ e ∷ []) later)) (event_earlier n before e test)
    ∙ behind_earlier n (before ++ e ∷ []) later fewer

-- those of a list that begins with another: the other's, and those behind its length
pub changes_grow : (f g : List Event) → IsPrefix f g → changes_of g ≡ changes_of f ++ filter (is_after (length f)) (changes_of g)
changes_grow f g grows =
    let rest : List Event = grows.0 in
    let split : changes_of g ≡ changes_of f ++ changes_behind f rest = ap changes_of (sym grows.1) ∙ changes_split [] f rest in
    let behind : filter (is_after (length f)) (changes_of g) ≡ changes_behind f rest =
    ap (filter (is_after (length f))) split
    ∙ filter-append (is_after (length f)) (changes_of f) (changes_behind f rest)
    ∙ ap (λ (l : List Change). l ++ filter (is_after (length f)) (changes_behind f rest)) (behind_earlier (length f) [] f (omega arith))
    ∙ behind_later (length f) f rest (omega arith) in
    split ∙ ap (λ (l : List Change). changes_of f ++ l) (sym behind)

-- all changes are behind version 0
pub changes_whole : (f : List Event) → filter (is_after 0) (changes_of f) ≡ changes_of f
changes_whole f = behind_later 0 [] f (omega arith)
