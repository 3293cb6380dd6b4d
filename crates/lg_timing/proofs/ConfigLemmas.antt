-- What holds of a checked configuration.
use Rattle.std.proofs.Common.{◌≡◌, ◌==◌, ◌||◌, ℕ, ◌-◌, ◌≤◌, ◌<◌, Bool, true, false, not, leb, List, [], ◌∷◌, length, get_or, Option, Some, None, Result, Ok, Err, if◌then◌else◌, refl, find, arith}
use Rattle.std.specs.List.{list_all}
use Rattle.std.proofs.lemmas.Bool.{eqb-true, leb-true}
use Rattle.std.proofs.lemmas.List.Folds.{list_all_at}
use Rattle.lg_rules.proofs.Tests.{both}
use Rattle.lg_timing.specs.declared.config.Config.{Config}
use Rattle.lg_timing.specs.Meaning.Config.{is_within, is_seed, are_good_seeds, can_name_group, first_broken, fault_checked, check_of}
use Rattle.lg_timing.specs.Meaning.Config.{IsChecked}
use Rattle.lg_timing.specs.Meaning.Keys.{is_before_seeds, is_in_range, keys, row_of}
use Rattle.lg_timing.specs.declared.config.ConfigFault.{ConfigFault}
use Rattle.lg_timing.specs.declared.config.ConfigFault.TheVariants.{Seeds}
use Rattle.lg_timing.specs.declared.keys.Key.{Key}
use Rattle.lg_timing.specs.declared.keys.Key.TheVariants.{IntervalMs}
use Rattle.lg_timing.specs.Support.Ranges.{HasRanges}

-- if none of some keys is out of its range, each is in its range
none_broken : (c : Config) (ks : List Key) → find (λ key. not (is_in_range c key)) ks ≡ None → list_all (is_in_range c) ks ≡ true
none_broken c [] e = refl
none_broken c (key ∷ ks) e = step (is_in_range c key) refl (none_broken c ks)
  where
    step : (held : Bool) → is_in_range c key ≡ held → (find (λ k. not (is_in_range c k)) ks ≡ None → list_all (is_in_range c) ks ≡ true) → list_all (is_in_range c) (key ∷ ks) ≡ true
    step true k rest = rw k (rest (rw k at e))
    step false k rest = let bad : Some key ≡ None = rw k at e in absurd cc

-- if each of some keys is in its range, so is the one in a place
in_place : (c : Config) (ks : List Key) (i : ℕ) → i < length ks → list_all (is_in_range c) ks ≡ true → is_in_range c (get_or ks i IntervalMs) ≡ true
in_place c ks i within h = step (is_in_range c (get_or ks i IntervalMs)) refl
  where
    step : (held : Bool) → is_in_range c (get_or ks i IntervalMs) ≡ held → is_in_range c (get_or ks i IntervalMs) ≡ true
    step true k = k
    step false k = let bad : list_all (is_in_range c) ks ≡ false = list_all_at (is_in_range c) ks i IntervalMs within k in absurd cc

-- the fault of a key or that of the seeds
abbrev fault_of : Bool → ConfigFault → Result (Unit {0}) ConfigFault
fault_of before broken = if before then Err broken else Err Seeds

-- a fault is none only if no key is out of its range, and the seeds and the group are good
pub record Faultless (broken : Option Key) (good named : Bool) : Type 0 where
  pub broken_none : broken ≡ None
  pub good_true : good ≡ true
  pub named_true : named ≡ true

no_fault : (broken : Option Key) (good named : Bool) → fault_checked broken good named ≡ Ok tt → Faultless broken good named
no_fault None true true e = record { broken_none = refl; good_true = refl; named_true = refl }
no_fault None true false e = absurd cc
no_fault None false named e = absurd cc
no_fault (Some key) true named e = absurd cc
no_fault (Some key) false named e = absurd (is_err (is_before_seeds key) (row_of key).fault e)
  where
    is_err : (before : Bool) (broken : ConfigFault) → fault_of before broken ≡ Ok tt → ⊥
    is_err true broken e = cc
    is_err false broken e = cc

-- a number within two others
pub record IsBetween (least most n : ℕ) : Type 0 where
  pub low : least ≤ n
  pub high : n ≤ most

pub is_between : (least most n : ℕ) → is_within least most n ≡ true → IsBetween least most n
is_between least most n e =
    let p = both (leb least n) (leb n most) e in record { low = leb-true least n p.0; high = leb-true n most p.1 }

-- a number that is 0 or within two others
zero_or_most : (least most n : ℕ) → (n == 0) || is_within least most n ≡ true → n ≤ most
zero_or_most least most n e = step (n == 0) refl e
  where
    step : (off : Bool) → (n == 0) ≡ off → off || is_within least most n ≡ true → n ≤ most
    step true k h = omega (arith, eqb-true n 0 k)
    step false k h = (is_between least most n h).high

pub not_true : (b : Bool) → not b ≡ true → b ≡ false
not_true true e = absurd cc
not_true false e = refl

-- the ranges of a checked configuration
pub ranges : (c : Config) → IsChecked c → HasRanges c
unfolding check_of
ranges c e =
    let whole = no_fault (first_broken c) (are_good_seeds c.name c.seeds.items) (can_name_group c.group c.wire) e in
    let all = none_broken c keys whole.broken_none in
    let at = λ (i : ℕ) (within : i < length keys). in_place c keys i within all in
    let interval = is_between 10 60000 c.interval_ms (at 0 (omega arith)) in
    let timeout = is_between 1 (c.interval_ms - 1) c.timeout_ms (at 1 (omega arith)) in
    let alpha = is_between 1 20 c.alpha (at 4 (omega arith)) in
    let beta = is_between 1 20 c.beta (at 5 (omega arith)) in
    let lambda = is_between 1 10 c.lambda (at 7 (omega arith)) in
    let nack = is_between 1 999 c.nack_thousandths (at 8 (omega arith)) in
    let history = is_between 2 1000000 c.history_limit (at 9 (omega arith)) in
    let wire = is_between 1 3 c.wire (at 10 (omega arith)) in
    let gossip_to = is_between 1 8 c.gossip_to (at 13 (omega arith)) in
    let first = is_between 1 4294967295 c.first (at 14 (omega arith)) in
    let seeds = both _ _ whole.good_true in
    let names = both _ _ seeds.1 in
    record {
      interval_least = interval.low;
      interval_most = interval.high;
      timeout_least = timeout.low;
      timeout_below = omega arith;
      indirect_most = (is_between 0 8 c.indirect (at 2 (omega arith))).high;
      max_score_most = (is_between 0 20 c.max_score (at 3 (omega arith))).high;
      alpha_least = alpha.low;
      alpha_most = alpha.high;
      beta_least = beta.low;
      beta_most = beta.high;
      confirmations_most = (is_between 0 5 c.confirmations (at 6 (omega arith))).high;
      lambda_least = lambda.low;
      lambda_most = lambda.high;
      nack_least = nack.low;
      nack_most = nack.high;
      history_least = history.low;
      history_most = history.high;
      wire_least = wire.low;
      wire_most = wire.high;
      forget_most = zero_or_most 1000 2592000000 c.forget_ms (at 11 (omega arith));
      gossip_most = zero_or_most 10 60000 c.gossip_ms (at 12 (omega arith));
      gossip_to_least = gossip_to.low;
      gossip_to_most = gossip_to.high;
      first_least = first.low;
      first_most = first.high;
      group_named = whole.named_true;
      seeds_most = leb-true (length c.seeds.items) 16 seeds.0;
      seeds_distinct = names.0;
      seeds_others = not_true (is_seed c.name c.seeds.items) names.1;
    }
