-- A configuration that can't be read has the fault of its first field that can't.
use Rattle.std.proofs.Common.{◌≡◌, ℕ, List, Option, Ok, Err, refl, subst}
use Rattle.lg_rules.specs.declared.addr.Addr.{Addr}
use Rattle.lg_timing.specs.declared.config.Config.{Config}
use Rattle.lg_timing.specs.Meaning.Keys.{keys}
use Rattle.lg_fields.specs.declared.fault.FieldFault.{FieldFault}
use Rattle.lg_fields.specs.Meaning.Scanned.{blank_config, config_scan, few_scan, label_scan, maybe_label_scan, numbers_scan, place_scan, seeds_scan}

pub numbers_stop : (start : Config) (bytes : List ℕ) (f : FieldFault) → start ≡ blank_config → numbers_scan keys start bytes ≡ Err f → config_scan bytes ≡ Err f
unfolding config_scan
numbers_stop start bytes f blank e =
    let numbers : numbers_scan keys blank_config bytes ≡ Err f = subst (λ (s : Config). numbers_scan keys s bytes ≡ Err f) blank e in
    rw numbers refl

-- the numbers were read
pub record NumbersAre (bytes : List ℕ) (c : Config) (after : List ℕ) : Type 0 where
  pub read : numbers_scan keys blank_config bytes ≡ Ok (c, after)

pub numbers_are : (start : Config) (bytes after : List ℕ) (c : Config) → start ≡ blank_config → numbers_scan keys start bytes ≡ Ok (c, after) → NumbersAre bytes c after
numbers_are start bytes after c blank e = record { read = subst (λ (s : Config). numbers_scan keys s bytes ≡ Ok (c, after)) blank e }

pub name_stops : (bytes a : List ℕ) (c : Config) (f : FieldFault) → NumbersAre bytes c a → label_scan a ≡ Err f → config_scan bytes ≡ Err f
unfolding config_scan
name_stops bytes a c f numbers e = rw (numbers.read, e) refl

pub addr_stops : (bytes a b : List ℕ) (c : Config) (name : List ℕ) (f : FieldFault) → NumbersAre bytes c a → label_scan a ≡ Ok (name, b) → place_scan b ≡ Err f → config_scan bytes ≡ Err f
unfolding config_scan
addr_stops bytes a b c name f numbers e g = rw (numbers.read, e, g) refl

pub group_stops : (bytes a b d : List ℕ) (c : Config) (name : List ℕ) (addr : Addr) (f : FieldFault) → NumbersAre bytes c a → label_scan a ≡ Ok (name, b) → place_scan b ≡ Ok (addr, d)
    → maybe_label_scan d ≡ Err f → config_scan bytes ≡ Err f
unfolding config_scan
group_stops bytes a b d c name addr f numbers e g h = rw (numbers.read, e, g, h) refl

pub count_stops : (bytes a b d k : List ℕ) (c : Config) (name : List ℕ) (addr : Addr) (group : Option (List ℕ)) (f : FieldFault) → NumbersAre bytes c a → label_scan a ≡ Ok (name, b) → place_scan b ≡ Ok (addr, d)
    → maybe_label_scan d ≡ Ok (group, k) → few_scan 16 k ≡ Err f → config_scan bytes ≡ Err f
unfolding config_scan
count_stops bytes a b d k c name addr group f numbers e g h i = rw (numbers.read, e, g, h, i) refl

pub seeds_stop : (bytes a b d k l : List ℕ) (c : Config) (name : List ℕ) (addr : Addr) (group : Option (List ℕ)) (n : ℕ) (f : FieldFault) → NumbersAre bytes c a → label_scan a ≡ Ok (name, b) → place_scan b ≡ Ok (addr, d)
    → maybe_label_scan d ≡ Ok (group, k) → few_scan 16 k ≡ Ok (n, l) → seeds_scan n l ≡ Err f → config_scan bytes ≡ Err f
unfolding config_scan
seeds_stop bytes a b d k l c name addr group n f numbers e g h i j = rw (numbers.read, e, g, h, i, j) refl
