-- Configurations: what is read is spelled so, and what is spelled so is read again.
use Rattle.std.proofs.Common.{◌≡◌, ℕ, zero, suc, ◌≤◌, IsTrue, List, [], ◌∷◌, ◌++◌, length, map, Option, Result, Ok, refl, sym, ap, subst, ◌∙◌, append_assoc, arith}
use Rattle.std.specs.List.{AllByRecursion, flat_map}
use Rattle.std.proofs.lemmas.List.Concat.{flat_map-cons}
use Rattle.lg_rules.specs.declared.addr.Addr.{Addr}
use Rattle.lg_rules.specs.Meaning.Name.{is_name}
use Rattle.lg_timing.specs.declared.config.Config.{Config}
use Rattle.lg_timing.specs.declared.config.Seed.{Seed}
use Rattle.lg_timing.specs.declared.keys.Key.{Key}
use Rattle.lg_timing.specs.Meaning.Keys.{keys, number_of_key, with_number}
use Rattle.lg_packet.specs.Meaning.Bytes.{IsByte}
use Rattle.lg_packet.specs.Meaning.Spelling.{IsNameIfAny, spelled_name, spelled_or_none}
use Rattle.lg_fields.specs.declared.fault.FieldFault.{FieldFault}
use Rattle.lg_fields.specs.Meaning.Spelled.{IsConfigSpelled, IsCount, IsPlace, IsSeedSpelled, spelled_config, spelled_count, spelled_numbers, spelled_place, spelled_seed, spelled_seeds}
use Rattle.lg_fields.specs.Meaning.Scanned.{◌>>=◌, blank_config, config_scan, count_scan, few_scan, label_scan, maybe_label_scan, numbers_scan, place_scan, seed_scan, seeds_scan}
use Rattle.lg_fields.proofs.Results.{step_ok, same_ok, rest_bytes}
use Rattle.lg_fields.proofs.Numbers.{count_takes, count_again, few_takes, few_again}
use Rattle.lg_fields.proofs.PacketParts.{label_takes, label_again, maybe_label_takes, maybe_label_again, place_takes, place_again}

behind_front : (bytes front rest : List ℕ) → AllByRecursion IsByte bytes → bytes ≡ front ++ rest → AllByRecursion IsByte rest
behind_front bytes front rest fit e = rest_bytes front rest (subst (AllByRecursion IsByte) e fit)

-- ---- the numbers

-- a configuration in which these keys have these numbers
abbrev with_numbers : List Key → List ℕ → Config → Config
with_numbers [] ns c = c
with_numbers (key ∷ others) [] c = c
with_numbers (key ∷ others) (n ∷ ns) c = with_numbers others ns (with_number key n c)

-- the numbers that were read for some keys
record ReadsNumbers (some : List Key) (before : Config) (bytes : List ℕ) (x : Config × List ℕ) : Type 0 where
  pub numbers : List ℕ
  pub whole : bytes ≡ flat_map spelled_count numbers ++ x.1
  pub count : length numbers ≡ length some
  pub each : AllByRecursion IsCount numbers
  pub made : x.0 ≡ with_numbers some numbers before

numbers_read : (some : List Key) (before : Config) (bytes : List ℕ) (x : Config × List ℕ) → AllByRecursion IsByte bytes → numbers_scan some before bytes ≡ Ok x → ReadsNumbers some before bytes x
unfolding numbers_scan
numbers_read [] before bytes x fit e =
    subst (ReadsNumbers [] before bytes) (same_ok (before, bytes) x e) (record { numbers = []; whole = refl; count = refl; each = tt; made = refl })
numbers_read (key ∷ others) before bytes x fit e =
    let a = step_ok (count_scan bytes) (λ number. numbers_scan others (with_number key number.0 before) number.1) x e in
    let number = count_takes bytes a.0 fit a.1 in
    let more = numbers_read others (with_number key a.0.0 before) a.0.1 x (behind_front bytes (spelled_count a.0.0) a.0.1 fit number.0) a.2 in
    record {
      numbers = a.0.0 ∷ more.numbers;
      whole =
          number.0 ∙ ap (λ (t : List ℕ). spelled_count a.0.0 ++ t) more.whole
          ∙ sym (append_assoc (spelled_count a.0.0) (flat_map spelled_count more.numbers) x.1)
          ∙ ap (λ (t : List ℕ). t ++ x.1) (sym (flat_map-cons spelled_count a.0.0 more.numbers));
      count = ap suc more.count;
      each = (number.1, more.each);
      made = more.made;
    }

-- a configuration with a number for each key spells them, whatever it was before
record SpellsNumbers (c : Config) (ns : List ℕ) : Type 0 where
  pub numbers : map (λ key. number_of_key key c) keys ≡ ns

all_numbers : (ns : List ℕ) (before : Config) → length ns ≡ 15 → SpellsNumbers (with_numbers keys ns before) ns
all_numbers [] before count = absurd (omega arith)
all_numbers (a ∷ []) before count = absurd (omega arith)
all_numbers (a ∷ b ∷ []) before count = absurd (omega arith)
all_numbers (a ∷ b ∷ c ∷ []) before count = absurd (omega arith)
all_numbers (a ∷ b ∷ c ∷ d ∷ []) before count = absurd (omega arith)
all_numbers (a ∷ b ∷ c ∷ d ∷ e ∷ []) before count = absurd (omega arith)
all_numbers (a ∷ b ∷ c ∷ d ∷ e ∷ f ∷ []) before count = absurd (omega arith)
all_numbers (a ∷ b ∷ c ∷ d ∷ e ∷ f ∷ g ∷ []) before count = absurd (omega arith)
all_numbers (a ∷ b ∷ c ∷ d ∷ e ∷ f ∷ g ∷ h ∷ []) before count = absurd (omega arith)
all_numbers (a ∷ b ∷ c ∷ d ∷ e ∷ f ∷ g ∷ h ∷ i ∷ []) before count = absurd (omega arith)
all_numbers (a ∷ b ∷ c ∷ d ∷ e ∷ f ∷ g ∷ h ∷ i ∷ j ∷ []) before count = absurd (omega arith)
all_numbers (a ∷ b ∷ c ∷ d ∷ e ∷ f ∷ g ∷ h ∷ i ∷ j ∷ k ∷ []) before count = absurd (omega arith)
all_numbers (a ∷ b ∷ c ∷ d ∷ e ∷ f ∷ g ∷ h ∷ i ∷ j ∷ k ∷ l ∷ []) before count = absurd (omega arith)
all_numbers (a ∷ b ∷ c ∷ d ∷ e ∷ f ∷ g ∷ h ∷ i ∷ j ∷ k ∷ l ∷ m ∷ []) before count = absurd (omega arith)
all_numbers (a ∷ b ∷ c ∷ d ∷ e ∷ f ∷ g ∷ h ∷ i ∷ j ∷ k ∷ l ∷ m ∷ n ∷ []) before count = absurd (omega arith)
all_numbers (a ∷ b ∷ c ∷ d ∷ e ∷ f ∷ g ∷ h ∷ i ∷ j ∷ k ∷ l ∷ m ∷ n ∷ o ∷ []) before count = record { numbers = refl }
all_numbers (a ∷ b ∷ c ∷ d ∷ e ∷ f ∷ g ∷ h ∷ i ∷ j ∷ k ∷ l ∷ m ∷ n ∷ o ∷ p ∷ ns) before count = absurd (omega arith)

-- the numbers of some keys of a configuration are spelled one behind the other
listed : (some : List Key) (c : Config) → flat_map (λ key. spelled_count (number_of_key key c)) some ≡ flat_map spelled_count (map (λ key. number_of_key key c) some)
listed [] c = refl
listed (key ∷ others) c =
    flat_map-cons (λ key. spelled_count (number_of_key key c)) key others
    ∙ ap (λ (t : List ℕ). spelled_count (number_of_key key c) ++ t) (listed others c)
    ∙ sym (flat_map-cons spelled_count (number_of_key key c) (map (λ key. number_of_key key c) others))

abbrev ReadsAllNumbers : List ℕ → Config × List ℕ → Type 0
ReadsAllNumbers bytes x = (bytes ≡ spelled_numbers x.0 ++ x.1) × AllByRecursion IsCount (map (λ key. number_of_key key x.0) keys)

all_numbers_read : (bytes : List ℕ) (x : Config × List ℕ) → AllByRecursion IsByte bytes → numbers_scan keys blank_config bytes ≡ Ok x → ReadsAllNumbers bytes x
all_numbers_read bytes x fit e =
    let read = numbers_read keys blank_config bytes x fit e in
    let all = all_numbers read.numbers blank_config read.count in
    let same : map (λ key. number_of_key key x.0) keys ≡ read.numbers = ap (λ (c : Config). map (λ key. number_of_key key c) keys) read.made ∙ all.numbers in (
      read.whole ∙ ap (λ (ns : List ℕ). flat_map spelled_count ns ++ x.1) (sym same) ∙ ap (λ (t : List ℕ). t ++ x.1) (sym (listed keys x.0)),
      subst (AllByRecursion IsCount) (sym same) read.each,
    )

numbers_again : (some : List Key) (before c : Config) (rest : List ℕ) → AllByRecursion IsCount (map (λ key. number_of_key key c) some)
    → numbers_scan some before (flat_map (λ key. spelled_count (number_of_key key c)) some ++ rest) ≡ Ok (with_numbers some (map (λ key. number_of_key key c) some) before, rest)
unfolding numbers_scan
numbers_again [] before c rest fit = refl
numbers_again (key ∷ others) before c rest fit =
    let n : ℕ = number_of_key key c in
    let behind : List ℕ = flat_map (λ key. spelled_count (number_of_key key c)) others ++ rest in
    let apart : flat_map (λ key. spelled_count (number_of_key key c)) (key ∷ others) ++ rest ≡ spelled_count n ++ behind =
    ap (λ (t : List ℕ). t ++ rest) (flat_map-cons (λ key. spelled_count (number_of_key key c)) key others)
    ∙ append_assoc (spelled_count n) (flat_map (λ key. spelled_count (number_of_key key c)) others) rest in
    ap (numbers_scan (key ∷ others) before) apart
    ∙ rw (count_again n behind fit.0) (numbers_again others (with_number key n before) c rest fit.1)

-- ---- seeds

pub seed_takes : (bytes : List ℕ) (x : Seed × List ℕ) → AllByRecursion IsByte bytes → seed_scan bytes ≡ Ok x → (bytes ≡ spelled_seed x.0 ++ x.1) × IsSeedSpelled x.0
unfolding seed_scan
seed_takes bytes x fit e =
    let a = step_ok (label_scan bytes) (λ name. place_scan name.1 >>= λ addr. Ok (record { name = name.0; addr = addr.0 }, addr.1)) x e in
    let b = step_ok (place_scan a.0.1) (λ addr. Ok (record { name = a.0.0; addr = addr.0 }, addr.1)) x a.2 in
    let name = label_takes bytes a.0 a.1 in
    let addr = place_takes a.0.1 b.0 (behind_front bytes (spelled_name a.0.0) a.0.1 fit name.0) b.1 in
    let whole : bytes ≡ (spelled_name a.0.0 ++ spelled_place b.0.0) ++ b.0.1 =
    name.0 ∙ ap (λ (t : List ℕ). spelled_name a.0.0 ++ t) addr.0 ∙ sym (append_assoc (spelled_name a.0.0) (spelled_place b.0.0) b.0.1) in
    let made : Seed = record { name = a.0.0; addr = b.0.0 } in
    subst (λ (y : Seed × List ℕ). (bytes ≡ spelled_seed y.0 ++ y.1) × IsSeedSpelled y.0) (same_ok (made, b.0.1) x b.2) (whole, record { name = name.1; addr = addr.1 })

pub seed_again : (s : Seed) (rest : List ℕ) → IsSeedSpelled s → seed_scan (spelled_seed s ++ rest) ≡ Ok (s, rest)
unfolding seed_scan
seed_again s rest fit =
    ap seed_scan (append_assoc (spelled_name s.name) (spelled_place s.addr) rest)
    ∙ rw (label_again s.name (spelled_place s.addr ++ rest) fit.name, place_again s.addr rest fit.addr) refl

abbrev ReadsSeeds : ℕ → List ℕ → List Seed × List ℕ → Type 0
ReadsSeeds n bytes x = (bytes ≡ flat_map spelled_seed x.0 ++ x.1) × (length x.0 ≡ n) × AllByRecursion IsSeedSpelled x.0

seeds_take : (n : ℕ) (bytes : List ℕ) (x : List Seed × List ℕ) → AllByRecursion IsByte bytes → seeds_scan n bytes ≡ Ok x → ReadsSeeds n bytes x
unfolding seeds_scan
seeds_take zero bytes x fit e = subst (ReadsSeeds 0 bytes) (same_ok ([], bytes) x e) (refl, refl, tt)
seeds_take (suc n) bytes x fit e =
    let a = step_ok (seed_scan bytes) (λ first. seeds_scan n first.1 >>= λ others. Ok (first.0 ∷ others.0, others.1)) x e in
    let b = step_ok (seeds_scan n a.0.1) (λ others. Ok (a.0.0 ∷ others.0, others.1)) x a.2 in
    let first = seed_takes bytes a.0 fit a.1 in
    let others = seeds_take n a.0.1 b.0 (behind_front bytes (spelled_seed a.0.0) a.0.1 fit first.0) b.1 in
    let whole : bytes ≡ flat_map spelled_seed (a.0.0 ∷ b.0.0) ++ b.0.1 =
    first.0 ∙ ap (λ (t : List ℕ). spelled_seed a.0.0 ++ t) others.0
    ∙ sym (append_assoc (spelled_seed a.0.0) (flat_map spelled_seed b.0.0) b.0.1)
    ∙ ap (λ (t : List ℕ). t ++ b.0.1) (sym (flat_map-cons spelled_seed a.0.0 b.0.0)) in
    subst (ReadsSeeds (suc n) bytes) (same_ok (a.0.0 ∷ b.0.0, b.0.1) x b.2) (whole, ap suc others.1, (first.1, others.2))

seeds_again : (seeds : List Seed) (rest : List ℕ) → AllByRecursion IsSeedSpelled seeds → seeds_scan (length seeds) (flat_map spelled_seed seeds ++ rest) ≡ Ok (seeds, rest)
unfolding seeds_scan
seeds_again [] rest fit = refl
seeds_again (s ∷ seeds) rest fit =
    let apart : flat_map spelled_seed (s ∷ seeds) ++ rest ≡ spelled_seed s ++ (flat_map spelled_seed seeds ++ rest) =
    ap (λ (t : List ℕ). t ++ rest) (flat_map-cons spelled_seed s seeds) ∙ append_assoc (spelled_seed s) (flat_map spelled_seed seeds) rest in
    ap (seeds_scan (suc (length seeds))) apart
    ∙ rw (seed_again s (flat_map spelled_seed seeds ++ rest) fit.0, seeds_again seeds rest fit.1) refl

-- ---- the whole

regrouped : (c : Config) (rest : List ℕ) → spelled_config c ++ rest
    ≡ spelled_numbers c ++ (spelled_name c.name ++ (spelled_place c.addr ++ (spelled_or_none c.group ++ (spelled_count (length c.seeds.items) ++ (flat_map spelled_seed c.seeds.items ++ rest)))))
unfolding spelled_config
regrouped c rest =
    let seeds = spelled_seeds c.seeds.items in
    let group = spelled_or_none c.group ++ seeds in
    let place = spelled_place c.addr ++ group in
    append_assoc (spelled_numbers c) (spelled_name c.name ++ place) rest
    ∙ ap (λ (t : List ℕ). spelled_numbers c ++ t) (append_assoc (spelled_name c.name) place rest
    ∙ ap (λ (t : List ℕ). spelled_name c.name ++ t) (append_assoc (spelled_place c.addr) group rest
    ∙ ap (λ (t : List ℕ). spelled_place c.addr ++ t) (append_assoc (spelled_or_none c.group) seeds rest
    ∙ ap (λ (t : List ℕ). spelled_or_none c.group ++ t) (append_assoc (spelled_count (length c.seeds.items)) (flat_map spelled_seed c.seeds.items) rest))))

-- what stands behind the numbers, as it is read
abbrev behind_numbers : Config → List ℕ → Result (Config × List ℕ) FieldFault
behind_numbers c bytes =
    label_scan bytes >>= λ name. place_scan name.1 >>= λ addr. maybe_label_scan addr.1 >>= λ group. few_scan 16 group.1 >>= λ count. seeds_scan count.0 count.1 >>= λ seeds.
    Ok (record c { name = name.0; addr = addr.0; group = group.0; seeds = record { items = seeds.0 } }, seeds.1)

record ReadsBehind (c : Config) (bytes : List ℕ) (x : Config × List ℕ) : Type 0 where
  pub name : List ℕ
  pub addr : Addr
  pub group : Option (List ℕ)
  pub seeds : List Seed
  pub rest : List ℕ
  pub whole : bytes ≡ spelled_name name ++ (spelled_place addr ++ (spelled_or_none group ++ (spelled_count (length seeds) ++ (flat_map spelled_seed seeds ++ rest))))
  pub is_named : IsTrue (is_name name)
  pub is_place : IsPlace addr
  pub is_group : IsNameIfAny group
  pub few : length seeds ≤ 16
  pub each : AllByRecursion IsSeedSpelled seeds
  pub made : (record c { name = name; addr = addr; group = group; seeds = record { items = seeds } }, rest) ≡ x

behind_read : (c : Config) (bytes : List ℕ) (x : Config × List ℕ) → AllByRecursion IsByte bytes → behind_numbers c bytes ≡ Ok x → ReadsBehind c bytes x
behind_read c bytes x fit e =
    let a = step_ok (label_scan bytes) (λ name. place_scan name.1 >>= λ addr. maybe_label_scan addr.1 >>= λ group. few_scan 16 group.1 >>= λ count. seeds_scan count.0 count.1 >>= λ seeds.
    Ok (record c { name = name.0; addr = addr.0; group = group.0; seeds = record { items = seeds.0 } }, seeds.1)) x e in
    let b = step_ok (place_scan a.0.1) (λ addr. maybe_label_scan addr.1 >>= λ group. few_scan 16 group.1 >>= λ count. seeds_scan count.0 count.1 >>= λ seeds.
    Ok (record c { name = a.0.0; addr = addr.0; group = group.0; seeds = record { items = seeds.0 } }, seeds.1)) x a.2 in
    let d = step_ok (maybe_label_scan b.0.1) (λ group. few_scan 16 group.1 >>= λ count. seeds_scan count.0 count.1 >>= λ seeds.
    Ok (record c { name = a.0.0; addr = b.0.0; group = group.0; seeds = record { items = seeds.0 } }, seeds.1)) x b.2 in
    let f = step_ok (few_scan 16 d.0.1) (λ count. seeds_scan count.0 count.1 >>= λ seeds.
    Ok (record c { name = a.0.0; addr = b.0.0; group = d.0.0; seeds = record { items = seeds.0 } }, seeds.1)) x d.2 in
    let g = step_ok (seeds_scan f.0.0 f.0.1) (λ seeds. Ok (record c { name = a.0.0; addr = b.0.0; group = d.0.0; seeds = record { items = seeds.0 } }, seeds.1)) x f.2 in
    let name = label_takes bytes a.0 a.1 in
    let name_fits = behind_front bytes (spelled_name a.0.0) a.0.1 fit name.0 in
    let addr = place_takes a.0.1 b.0 name_fits b.1 in
    let addr_fits = behind_front a.0.1 (spelled_place b.0.0) b.0.1 name_fits addr.0 in
    let group = maybe_label_takes b.0.1 d.0 d.1 in
    let group_fits = behind_front b.0.1 (spelled_or_none d.0.0) d.0.1 addr_fits group.0 in
    let count = few_takes 16 d.0.1 f.0 group_fits f.1 in
    let count_fits = behind_front d.0.1 (spelled_count f.0.0) f.0.1 group_fits count.0 in
    let seeds = seeds_take f.0.0 f.0.1 g.0 count_fits g.1 in
    let counted : d.0.1 ≡ spelled_count (length g.0.0) ++ (flat_map spelled_seed g.0.0 ++ g.0.1) =
    count.0 ∙ ap (λ (n : ℕ). spelled_count n ++ f.0.1) (sym seeds.1) ∙ ap (λ (t : List ℕ). spelled_count (length g.0.0) ++ t) seeds.0 in
    record {
      name = a.0.0;
      addr = b.0.0;
      group = d.0.0;
      seeds = g.0.0;
      rest = g.0.1;
      whole = name.0 ∙ ap (λ (t : List ℕ). spelled_name a.0.0 ++ t) (addr.0 ∙ ap (λ (t : List ℕ). spelled_place b.0.0 ++ t) (group.0 ∙ ap (λ (t : List ℕ). spelled_or_none d.0.0 ++ t) counted));
      is_named = name.1;
      is_place = addr.1;
      is_group = group.1;
      few = omega (arith, count.2, seeds.1);
      each = seeds.2;
      made = same_ok (record c { name = a.0.0; addr = b.0.0; group = d.0.0; seeds = record { items = g.0.0 } }, g.0.1) x g.2;
    }

pub config_takes : (bytes : List ℕ) (x : Config × List ℕ) → AllByRecursion IsByte bytes → config_scan bytes ≡ Ok x → (bytes ≡ spelled_config x.0 ++ x.1) × IsConfigSpelled x.0
unfolding config_scan
config_takes bytes x fit e =
    let a = step_ok (numbers_scan keys blank_config bytes) (λ numbers. behind_numbers numbers.0 numbers.1) x e in
    let numbers = all_numbers_read bytes a.0 fit a.1 in
    let r = behind_read a.0.0 a.0.1 x (behind_front bytes (spelled_numbers a.0.0) a.0.1 fit numbers.0) a.2 in
    let made : Config = record a.0.0 { name = r.name; addr = r.addr; group = r.group; seeds = record { items = r.seeds } } in
    let whole : bytes ≡ spelled_config made ++ r.rest = numbers.0 ∙ ap (λ (t : List ℕ). spelled_numbers a.0.0 ++ t) r.whole ∙ sym (regrouped made r.rest) in
    subst (λ (y : Config × List ℕ). (bytes ≡ spelled_config y.0 ++ y.1) × IsConfigSpelled y.0) r.made
    (whole, record { numbers = numbers.1; name = r.is_named; addr = r.is_place; group = r.is_group; few = r.few; seeds = r.each })

pub config_again : (c : Config) (rest : List ℕ) → IsConfigSpelled c → config_scan (spelled_config c ++ rest) ≡ Ok (c, rest)
unfolding config_scan
config_again c rest fit =
    let seeds = flat_map spelled_seed c.seeds.items ++ rest in
    let count = spelled_count (length c.seeds.items) ++ seeds in
    let group = spelled_or_none c.group ++ count in
    let place = spelled_place c.addr ++ group in
    ap config_scan (regrouped c rest)
    ∙ rw (
      numbers_again keys blank_config c (spelled_name c.name ++ place) fit.numbers,
      label_again c.name place fit.name,
      place_again c.addr group fit.addr,
      maybe_label_again c.group count fit.group,
      few_again 16 (length c.seeds.items) seeds (omega (arith, fit.few)) fit.few,
      seeds_again c.seeds.items rest fit.seeds,
    ) refl
