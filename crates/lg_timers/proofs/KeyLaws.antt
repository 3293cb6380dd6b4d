-- The lists by which timers are ordered.
use Rattle.std.proofs.Common.{◌≡◌, ℕ, ◌≤◌, Bool, true, false, ◌||◌, List, [], ◌∷◌, map, refl, sym, ap, inl, inr, arith}
use Rattle.std.specs.Ordering.{nat_cmp}
use Rattle.std.specs.declared.cmp.Ordering.TheVariants.{Less, Equal, Greater}
use Rattle.std.proofs.lemmas.Bool.{cases_Bool}
use Rattle.std.proofs.lemmas.Cmp.{ranked}
use Rattle.lg_rules.specs.Meaning.Rows.{name_cmp, is_same, is_among}
use Rattle.lg_rules.proofs.Cases.{Below, Tied, Above, compared}
use Rattle.lg_rules.proofs.KeyOrder.{names_order, key_is, same_key}
use Rattle.lg_timers.specs.declared.timer.Timer.{Timer}
use Rattle.lg_timers.specs.declared.timer.TimerId.{TimerId}
use Rattle.lg_timers.specs.declared.timer.TimerId.TheVariants.{RoundEnd, Suspicion, Direct, RelayNack, RelayEnd, RoundStart, Forget, Gossip}
use Rattle.lg_timers.specs.Meaning.Timers.{id_key, timer_key, timer_cmp, has_id, is_set}

first : List ℕ → ℕ
first [] = 0
first (x ∷ xs) = x

-- two ids with one list are one id
pub id_is : (i j : TimerId) → id_key i ≡ id_key j → i ≡ j
unfolding first
id_is RoundEnd RoundEnd e = refl
id_is (Suspicion m) (Suspicion n) e = let same : m ≡ n = cc in ap Suspicion same
id_is Direct Direct e = refl
id_is (RelayNack m) (RelayNack n) e = let same : m ≡ n = cc in ap RelayNack same
id_is (RelayEnd m) (RelayEnd n) e = let same : m ≡ n = cc in ap RelayEnd same
id_is RoundStart RoundStart e = refl
id_is (Forget m) (Forget n) e = let same : m ≡ n = cc in ap Forget same
id_is Gossip Gossip e = refl
id_is i j e = let kinds : first (id_key i) ≡ first (id_key j) = ap first e in absurd (omega arith)

-- a timer is known by its list
pub timer_is : (s t : Timer) → timer_key s ≡ timer_key t → s ≡ t
timer_is s t e =
    let deadlines : s.deadline ≡ t.deadline = cc in
    let keys : id_key s.id ≡ id_key t.id = cc in
    let ids : s.id ≡ t.id = id_is s.id t.id keys in
    λ i. record { deadline = deadlines i; id = ids i }

-- the timer that has an id
pub has_id-is : (id : TimerId) (t : Timer) → has_id id t ≡ true → t.id ≡ id
has_id-is id t e = id_is t.id id (key_is names_order (id_key t.id) (id_key id) e)

-- a lesser timer has no later deadline
pub less_deadline : (s t : Timer) → timer_cmp s t ≡ Less → s.deadline ≤ t.deadline
less_deadline s t e = elim (compared (nat_cmp s.deadline t.deadline)) [
  | Below l ↦ omega (arith, ranked s.deadline t.deadline Less (sym l))
  | Tied q ↦ omega (arith, ranked s.deadline t.deadline Equal (sym q))
  | Above g ↦ (let bad : Greater ≡ Less = rw g at e in absurd cc)
]

-- where no timer of an id is set, none has its list
pub not_set : (t : Timer) (timers : List Timer) → is_set t.id timers ≡ false → is_among name_cmp (timer_key t) (map timer_key timers) ≡ false
not_set t [] e = refl
not_set t (u ∷ timers) e = elim (cases_Bool (is_same name_cmp (timer_key u) (timer_key t))) [
  | inl same ↦ (
      let keys : timer_key u ≡ timer_key t = key_is names_order (timer_key u) (timer_key t) same in
      let ids : id_key u.id ≡ id_key t.id = cc in
      let bad : true ≡ false = rw (same_key names_order (id_key u.id) (id_key t.id) ids) at e in
      absurd cc)
  | inr other ↦ rw other (not_set t timers (later (has_id t.id u) e))
]
  where
    later : (b : Bool) → (b || is_set t.id timers) ≡ false → is_set t.id timers ≡ false
    later true bad = absurd cc
    later false none = none
