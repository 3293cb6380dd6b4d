-- Fields one behind the other: how what is read of several goes together.
use Rattle.std.proofs.Common.{◌≡◌, ℕ, zero, suc, List, [], ◌∷◌, ◌++◌, length, map, Result, Ok, Err, refl, sym, ap, subst, ◌∙◌, append_assoc}
use Rattle.std.specs.List.{AllByRecursion, flat_map}
use Rattle.lg_packet.specs.Meaning.Bytes.{IsByte}
use Rattle.lg_fields.specs.declared.fault.FieldFault.{FieldFault}
use Rattle.lg_fields.specs.Meaning.Scanned.{◌>>=◌}
use Rattle.lg_recording.specs.Meaning.Scanning.{each_scan}
use Rattle.lg_recording.specs.Support.Fields.{IsField, AreAllBytes, same}

-- what stands behind a front of bytes
pub behind : (front rest : List ℕ) → AreAllBytes (front ++ rest) → AreAllBytes rest
behind [] rest fit = fit
behind (b ∷ front) rest fit = behind front rest fit.1

-- a field, and what follows
pub joined : (bytes a more b rest : List ℕ) → bytes ≡ a ++ more → more ≡ b ++ rest → bytes ≡ (a ++ b) ++ rest
joined bytes a more b rest first others = first ∙ ap (λ (t : List ℕ). a ++ t) others ∙ sym (append_assoc a b rest)

abbrev pub good : {A : Type 0} → A → Result A FieldFault
good x = Ok x

-- a value that was read, and the bytes behind it
abbrev pub read_as : {X : Type 0} → X → List ℕ → Result (X × List ℕ) FieldFault
read_as x rest = Ok (x, rest)

-- two values that were read are the same
pub same_ok : {A : Type 0} (x y : A) → good x ≡ good y → x ≡ y
same_ok x y e = cc

-- what a field gave from which more was read
pub record Stepped {X Y : Type 0} (spell : X → List ℕ) (told : X → X) (Fits : X → Type 0) (go : X × List ℕ → Result Y FieldFault) (bytes : List ℕ) (y : Y) : Type 0 where
  pub value : X
  pub rest : List ℕ
  pub whole : bytes ≡ spell value ++ rest
  pub fits : Fits value
  pub own : told value ≡ value
  pub are_bytes : AllByRecursion IsByte rest
  pub then : go (value, rest) ≡ Ok y

pub stepped : {X Y : Type 0} {spell : X → List ℕ} {told : X → X} {Fits : X → Type 0} {scan : List ℕ → Result (X × List ℕ) FieldFault} (field : IsField spell told Fits scan)
    (go : X × List ℕ → Result Y FieldFault) (bytes : List ℕ) (y : Y) → AllByRecursion IsByte bytes → (scan bytes >>= go) ≡ Ok y → Stepped spell told Fits go bytes y
stepped {X} {Y} {spell} {told} {Fits} {scan} field go bytes y fit e = read (scan bytes) refl e
  where
    read : (r : Result (X × List ℕ) FieldFault) → scan bytes ≡ r → (r >>= go) ≡ Ok y → Stepped spell told Fits go bytes y
    read (Ok x) is e =
        let took = field.takes bytes x fit is in
        record { value = x.0; rest = x.1; whole = took.0; fits = took.1; own = took.2; are_bytes = behind (spell x.0) x.1 (subst AreAllBytes took.0 fit); then = e }
    read (Err f) is e = absurd cc

-- One field more is read behind a front: what is to be shown follows from what that field is. (The goal comes last, so
-- that a long row of fields is written with variables.)
pub onward : {X Y : Type 0} {spell : X → List ℕ} {told : X → X} {Fits : X → Type 0} {scan : List ℕ → Result (X × List ℕ) FieldFault} (field : IsField spell told Fits scan)
    (goal : Type 0) (front bytes behind_front : List ℕ) (go : X × List ℕ → Result Y FieldFault) (y : Y) → bytes ≡ front ++ behind_front → AllByRecursion IsByte behind_front → (scan behind_front >>= go) ≡ Ok y
    → ((v : X) (after : List ℕ) → bytes ≡ (front ++ spell v) ++ after → Fits v → told v ≡ v → AllByRecursion IsByte after → go (v, after) ≡ Ok y → goal) → goal
onward {X} {Y} {spell} {told} {Fits} {scan} field goal front bytes behind_front go y whole fit e shown =
    let s = stepped field go behind_front y fit e in
    shown s.value s.rest (whole ∙ ap (λ (t : List ℕ). front ++ t) s.whole ∙ sym (append_assoc front (spell s.value) s.rest)) s.fits s.own s.are_bytes s.then

-- ---- fields of one kind

abbrev pub each_told : {X : Type 0} → (X → X) → List X → List X
each_told told xs = map told xs

-- as many of them as there are in a list
pub each_again : {X : Type 0} {spell : X → List ℕ} {told : X → X} {Fits : X → Type 0} {scan : List ℕ → Result (X × List ℕ) FieldFault} (field : IsField spell told Fits scan)
    (xs : List X) (rest : List ℕ) → AllByRecursion Fits xs → each_scan scan (length xs) (flat_map spell xs ++ rest) ≡ Ok (map told xs, rest)
unfolding each_scan
each_again {X} {spell} {told} {Fits} {scan} field [] rest fits = refl
each_again {X} {spell} {told} {Fits} {scan} field (x ∷ xs) rest fits =
    rw (append_assoc (spell x) (flat_map spell xs) rest, field.again x (flat_map spell xs ++ rest) fits.0, each_again field xs rest fits.1) refl

pub record Took {X : Type 0} (spell : X → List ℕ) (told : X → X) (Fits : X → Type 0) (n : ℕ) (bytes : List ℕ) (xs : List X) (rest : List ℕ) : Type 0 where
  pub whole : bytes ≡ flat_map spell xs ++ rest
  pub count : length xs ≡ n
  pub each : AllByRecursion Fits xs
  pub own : map told xs ≡ xs
  pub are_bytes : AllByRecursion IsByte rest

pub each_takes : {X : Type 0} {spell : X → List ℕ} {told : X → X} {Fits : X → Type 0} {scan : List ℕ → Result (X × List ℕ) FieldFault} (field : IsField spell told Fits scan)
    (n : ℕ) (bytes : List ℕ) (x : List X × List ℕ) → AllByRecursion IsByte bytes → each_scan scan n bytes ≡ Ok x → Took spell told Fits n bytes x.0 x.1
unfolding each_scan
each_takes {X} {spell} {told} {Fits} {scan} field zero bytes x fit e =
    subst (λ (y : List X × List ℕ). Took spell told Fits 0 bytes y.0 y.1) (same_ok ([], bytes) x e) (record { whole = refl; count = refl; each = tt; own = refl; are_bytes = fit })
each_takes {X} {spell} {told} {Fits} {scan} field (suc n) bytes x fit e =
    let first = stepped field (λ first. each_scan scan n first.1 >>= λ others. Ok (first.0 ∷ others.0, others.1)) bytes x fit e in
    others first.value first.rest first.whole first.fits first.own first.are_bytes (λ after y fit is. each_takes field n after y fit is) (each_scan scan n first.rest) refl first.then
  where
    others : (v : X) (after : List ℕ) → bytes ≡ spell v ++ after → Fits v → told v ≡ v → AllByRecursion IsByte after
        → ((after : List ℕ) (y : List X × List ℕ) → AllByRecursion IsByte after → each_scan scan n after ≡ Ok y → Took spell told Fits n after y.0 y.1)
        → (r : Result (List X × List ℕ) FieldFault) → each_scan scan n after ≡ r → (r >>= λ others. Ok (v ∷ others.0, others.1)) ≡ Ok x → Took spell told Fits (suc n) bytes x.0 x.1
    others v after whole fits own fit rest_takes (Ok y) is e =
        let took = rest_takes after y fit is in
        subst (λ (z : List X × List ℕ). Took spell told Fits (suc n) bytes z.0 z.1) (same_ok (v ∷ y.0, y.1) x e)
        (record {
          whole = joined bytes (spell v) after (flat_map spell y.0) y.1 whole took.whole;
          count = ap suc took.count;
          each = (fits, took.each);
          own = ap (λ (a : X). a ∷ map told y.0) own ∙ ap (λ (vs : List X). v ∷ vs) took.own;
          are_bytes = took.are_bytes;
        })
    others v after whole fits own fit rest_takes (Err f) is e = absurd cc

-- what is told as it is, is
pub same_each : {X : Type 0} (xs : List X) → map (same {X = X}) xs ≡ xs
same_each {X} [] = refl
same_each {X} (x ∷ xs) = ap (λ (ys : List X). x ∷ ys) (same_each xs)
