-- Seeds that are read one after another, of which the first are kept.
use Rattle.std.proofs.Common.{◌≡◌, ℕ, zero, suc, ◌+◌, ◌<◌, ◌≤◌, List, [], ◌∷◌, ◌++◌, length, get_or, take, Option, Some, None, Bor, option_and_then, option_map, unwrap_or, refl, ap, sym, ◌∙◌, arith, length-append, length-take}
use Rattle.std.proofs.lemmas.List.{take_all, take-append-le, take_more}
use Rattle.std.proofs.lemmas.Option.{same_Some}
use Rattle.lg_timing.specs.Meaning.Bounds.{most_seeds}
use Rattle.lg_config.specs.declared.seeds.SeedPlace.{SeedPlace}
use Rattle.toml.specs.Data.{Data, Items, no_items, as_array}
use Rattle.toml.specs.View.{view, items_view}
use Rattle.toml.specs.declared.value.Value.{Value}
use Rattle.lg_config.specs.Meaning.Settings.{first_seeds, item_count, seed_of_value, seeds_of_items}

-- the first seeds, as many as a member may know from the start
abbrev kept : List SeedPlace → List SeedPlace
kept seeds = take most_seeds seeds

-- ---- the elements at the key of the seeds

pub no-elements : (r : Option (Bor Value)) (found : Option Data) → option_map (λ x. view x.now) r ≡ found → ((x : Bor Value) → r ≡ Some x → ⊥) → no_items ≡ unwrap_or (option_and_then as_array found) no_items
no-elements None found is other = rw (← is) refl
no-elements (Some x) found is other = absurd (other x refl)

pub elements-of : (found : Option Data) (value : Data) (items : Option Items) → Some value ≡ found → items ≡ as_array value → unwrap_or items no_items ≡ unwrap_or (option_and_then as_array found) no_items
elements-of found value items is same = rw (← is, same) refl

-- ---- all seeds, and one more

-- the seeds of some values and one more
abbrev and_last : Option (List SeedPlace) → Option SeedPlace → Option (List SeedPlace)
and_last seeds last = option_and_then (λ ss. option_and_then (λ s. Some (ss ++ s ∷ [])) last) seeds

-- a seed and those behind it
abbrev and_others : Option SeedPlace → Option (List SeedPlace) → Option (List SeedPlace)
and_others first others = option_and_then (λ s. option_and_then (λ ss. Some (s ∷ ss)) others) first

behind-first : (first : Option SeedPlace) (others : Option (List SeedPlace)) (last : Option SeedPlace) → and_others first (and_last others last) ≡ and_last (and_others first others) last
behind-first None others last = refl
behind-first (Some s) None last = refl
behind-first (Some s) (Some ss) None = refl
behind-first (Some s) (Some ss) (Some t) = refl

alone : (last : Option SeedPlace) → and_others last (Some []) ≡ and_last (Some []) last
alone None = refl
alone (Some s) = refl

seeds-last : (vs : List Value) (v : Value) → seeds_of_items (items_view (vs ++ v ∷ [])) ≡ and_last (seeds_of_items (items_view vs)) (seed_of_value (view v))
seeds-last [] v = alone (seed_of_value (view v))
seeds-last (w ∷ vs) v =
    ap (and_others (seed_of_value (view w))) (seeds-last vs v) ∙ behind-first (seed_of_value (view w)) (seeds_of_items (items_view vs)) (seed_of_value (view v))

-- ---- where one value is no seed

nothing-behind : (first : Option SeedPlace) → and_others first None ≡ None
nothing-behind None = refl
nothing-behind (Some s) = refl

none-at : (vs : List Value) (i : ℕ) (v : Value) → i < length vs → v ≡ get_or vs i v → seed_of_value (view v) ≡ None → seeds_of_items (items_view vs) ≡ None
none-at [] i v within is none = absurd (omega arith)
none-at (w ∷ vs) zero v within is none = rw (← is, none) refl
none-at (w ∷ vs) (suc i) v within is none = rw (none-at vs i v (omega arith) is none) (nothing-behind (seed_of_value (view w)))

pub none-kept : (vs : List Value) (i : ℕ) (v : Value) → i < length vs → v ≡ get_or vs i v → seed_of_value (view v) ≡ None → first_seeds (items_view vs) ≡ None
none-kept vs i v within is none = ap (option_map kept) (none-at vs i v within is none)

-- ---- the first seeds, and one more

kept-more : (ss : List SeedPlace) (s : SeedPlace) → length (kept ss) < most_seeds → kept (ss ++ s ∷ []) ≡ kept ss ++ s ∷ []
kept-more ss s room =
    let few : length ss < most_seeds = omega (arith, length-take most_seeds ss) in
    take_all most_seeds (ss ++ s ∷ []) (omega (arith, length-append ss (s ∷ []))) ∙ ap (λ xs. xs ++ s ∷ []) (sym (take_all most_seeds ss (omega arith)))

kept-full : (ss : List SeedPlace) (s : SeedPlace) → most_seeds ≤ length (kept ss) → kept (ss ++ s ∷ []) ≡ kept ss
kept-full ss s full =
    let many : most_seeds ≤ length ss = omega (arith, length-take most_seeds ss) in
    take-append-le most_seeds ss (s ∷ []) many

more : (all : Option (List SeedPlace)) (last : Option SeedPlace) (seeds : List SeedPlace) (s : SeedPlace) → option_map kept all ≡ Some seeds → last ≡ Some s → length seeds < most_seeds
    → option_map kept (and_last all last) ≡ Some (seeds ++ s ∷ [])
more None last seeds s read is room = absurd cc
more (Some ss) last seeds s read is room =
    let same : kept ss ≡ seeds = same_Some _ _ read in
    rw is (ap Some (kept-more ss s (rw same room) ∙ ap (λ xs. xs ++ s ∷ []) same))

full : (all : Option (List SeedPlace)) (last : Option SeedPlace) (seeds : List SeedPlace) (s : SeedPlace) → option_map kept all ≡ Some seeds → last ≡ Some s → most_seeds ≤ length seeds
    → option_map kept (and_last all last) ≡ Some seeds
full None last seeds s read is room = absurd cc
full (Some ss) last seeds s read is room =
    let same : kept ss ≡ seeds = same_Some _ _ read in
    rw is (ap Some (kept-full ss s (rw same room) ∙ same))

one-more : (vs : List Value) (i : ℕ) (v : Value) → i < length vs → v ≡ get_or vs i v → first_seeds (items_view (take (i + 1) vs)) ≡ option_map kept (and_last (seeds_of_items (items_view (take i vs))) (seed_of_value (view v)))
one-more vs i v within is =
    ap (λ ws. first_seeds (items_view ws)) (take_more vs i v within ∙ ap (λ w. take i vs ++ w ∷ []) (sym is)) ∙ ap (option_map kept) (seeds-last (take i vs) v)

pub read-more : (vs : List Value) (i : ℕ) (v : Value) (seeds : List SeedPlace) (s : SeedPlace) → i < length vs → v ≡ get_or vs i v → first_seeds (items_view (take i vs)) ≡ Some seeds
    → seed_of_value (view v) ≡ Some s → length seeds < most_seeds → first_seeds (items_view (take (i + 1) vs)) ≡ Some (seeds ++ s ∷ [])
read-more vs i v seeds s within is read found room = one-more vs i v within is ∙ more (seeds_of_items (items_view (take i vs))) (seed_of_value (view v)) seeds s read found room

pub read-full : (vs : List Value) (i : ℕ) (v : Value) (seeds : List SeedPlace) (s : SeedPlace) → i < length vs → v ≡ get_or vs i v → first_seeds (items_view (take i vs)) ≡ Some seeds
    → seed_of_value (view v) ≡ Some s → most_seeds ≤ length seeds → first_seeds (items_view (take (i + 1) vs)) ≡ Some seeds
read-full vs i v seeds s within is read found none = one-more vs i v within is ∙ full (seeds_of_items (items_view (take i vs))) (seed_of_value (view v)) seeds s read found none

-- ---- how many elements there are

pub items-counted : (vs : List Value) → item_count (items_view vs) ≡ length vs
items-counted [] = refl
items-counted (v ∷ vs) = omega (arith, items-counted vs)
