-- Names compare as the words of their padded bytes.
use Rattle.std.proofs.Common.{◌≡◌, ℕ, zero, suc, ◌+◌, ◌-◌, ◌*◌, ◌≤◌, ◌<◌, true, IsTrue, List, [], ◌∷◌, ◌++◌, length, map, get_or, take, drop, replicate, refl, sym, ◌∙◌, ap, subst, arith, length-drop, length-take-le, length-append}
use Rattle.std.specs.List.{list_all}
use Rattle.std.specs.Simd.{first_chunks}
use Rattle.std.proofs.Math.Seq.{get_or-drop}
use Rattle.std.proofs.lemmas.Bool.Decides.{nat_tests}
use Rattle.std.proofs.lemmas.List.{length-replicate}
use Rattle.std.specs.Int.{w64, from_be_bytes}
use Rattle.std.specs.declared.cmp.Ordering.{Ordering}
use Rattle.std.specs.declared.cmp.Ordering.TheVariants.{Less, Equal, Greater}
use Rattle.std.specs.Ordering.{nat_cmp, ordering_then}
use Rattle.std.specs.Cmp.{tied_itself}
use Rattle.std.specs.Cmp.Lexicographic.{slice_cmp, nat_list_cmp_total}
use Rattle.lg_rules.specs.Meaning.Name.{is_name_byte, is_name}
use Rattle.lg_rules.specs.Meaning.Rows.{name_cmp}
use Rattle.lg_rules.specs.Support.Padding.{padded}
use Rattle.lg_rules.specs.Support.Words.{number_behind, words_of}
use Rattle.lg_rules.proofs.Tests.{both}
use Rattle.lg_rules.proofs.NameLemmas.{is_named}

-- `from_be_bytes` reads one word,
word_read : (bs : List ℕ) → length bs ≡ 8 → from_be_bytes w64 bs ≡ number_behind 0 bs
word_read (a ∷ b ∷ c ∷ d ∷ e ∷ f ∷ g ∷ h ∷ []) l = omega arith
word_read _ l = absurd (omega (arith, l))

-- and one of each chunk reads them all
pub words_read : (n : ℕ) (bytes : List ℕ) → length bytes ≡ n * 8 → map (from_be_bytes w64) (first_chunks 8 n bytes) ≡ words_of n bytes
words_read zero bytes l = refl
words_read (suc n) bytes l =
    let first = word_read (take 8 bytes) (length-take-le 8 bytes (omega (arith, l))) in
    let rest = words_read n (drop 8 bytes) (omega (arith, l, length-drop 8 bytes)) in
    λ i. first i ∷ rest i

-- one more digit decides where those before it tie
digit : (a b x y : ℕ) → x < 256 → y < 256 → nat_cmp (a * 256 + x) (b * 256 + y) ≡ ordering_then (nat_cmp a b) (nat_cmp x y)
digit a b x y p q = grind (arith, nat_tests)

then_assoc : (o p q : Ordering) → ordering_then (ordering_then o p) q ≡ ordering_then o (ordering_then p q)
then_assoc Less p q = refl
then_assoc Equal p q = refl
then_assoc Greater p q = refl

-- each number of a list is a byte
abbrev pub AreBytes : List ℕ → Type 0
AreBytes xs = (i : ℕ) → get_or xs i 0 < 256

-- the numbers of the first n bytes decide, and where they tie the bytes behind those
digits : (n a b : ℕ) (xs ys : List ℕ) → n ≤ length xs → n ≤ length ys → AreBytes xs → AreBytes ys
    → ordering_then (nat_cmp (number_behind a (take n xs)) (number_behind b (take n ys))) (slice_cmp nat_cmp (drop n xs) (drop n ys))
    ≡ ordering_then (nat_cmp a b) (slice_cmp nat_cmp xs ys)
digits zero a b xs ys l m p q = refl
digits (suc n) a b (x ∷ xs) (y ∷ ys) l m p q =
    digits n (a * 256 + x) (b * 256 + y) xs ys (omega arith) (omega arith) (λ i. p (suc i)) (λ i. q (suc i))
    ∙ ap (λ o. ordering_then o (slice_cmp nat_cmp xs ys)) (digit a b x y (p 0) (q 0))
    ∙ then_assoc (nat_cmp a b) (nat_cmp x y) (slice_cmp nat_cmp xs ys)
digits (suc n) a b _ _ l m p q = absurd (omega (arith, l, m))

bytes_behind : (xs : List ℕ) → AreBytes xs → AreBytes (drop 8 xs)
bytes_behind xs p i = subst (λ b. b < 256) (sym (get_or-drop 8 xs i 0)) (p (8 + i))

empty : (xs : List ℕ) → length xs ≡ 0 → xs ≡ []
empty [] l = refl
empty (x ∷ xs) l = absurd (omega (arith, l))

-- so bytes compare as their words do
words_compare : (n : ℕ) (xs ys : List ℕ) → length xs ≡ n * 8 → length ys ≡ n * 8 → AreBytes xs → AreBytes ys
    → slice_cmp nat_cmp (words_of n xs) (words_of n ys) ≡ slice_cmp nat_cmp xs ys
words_compare zero xs ys l m p q = rw (empty xs (omega (arith, l)), empty ys (omega (arith, m)))
words_compare (suc n) xs ys l m p q =
    let rest = words_compare n (drop 8 xs) (drop 8 ys) (omega (arith, l, length-drop 8 xs)) (omega (arith, m, length-drop 8 ys)) (bytes_behind xs p) (bytes_behind ys q) in
    ap (ordering_then (nat_cmp (number_behind 0 (take 8 xs)) (number_behind 0 (take 8 ys)))) rest
    ∙ digits 8 0 0 xs ys (omega (arith, l)) (omega (arith, m)) p q

-- A byte of a name is above 0, so zeros behind names don't change how they compare.
above_zero : (b : ℕ) → is_name_byte b ≡ true → 0 < b
above_zero b e = grind (arith, nat_tests)

zeros_behind : (j k : ℕ) (xs ys : List ℕ) → length xs + j ≡ length ys + k → list_all is_name_byte xs ≡ true → list_all is_name_byte ys ≡ true
    → slice_cmp nat_cmp (xs ++ replicate j 0) (ys ++ replicate k 0) ≡ slice_cmp nat_cmp xs ys
zeros_behind j k [] [] l p q =
    let same : j ≡ k = omega (arith, l) in
    ap (λ n. slice_cmp nat_cmp (replicate {A = ℕ} j 0) (replicate n 0)) (sym same) ∙ tied_itself nat_list_cmp_total (replicate {A = ℕ} j 0)
zeros_behind zero k [] (y ∷ ys) l p q = absurd (omega (arith, l))
zeros_behind (suc j) k [] (y ∷ ys) l p q =
    let more = above_zero y (both (is_name_byte y) (list_all is_name_byte ys) q).0 in
    let less : nat_cmp 0 y ≡ Less = grind (arith, nat_tests) in
    rw less
zeros_behind j zero (x ∷ xs) [] l p q = absurd (omega (arith, l))
zeros_behind j (suc k) (x ∷ xs) [] l p q =
    let more = above_zero x (both (is_name_byte x) (list_all is_name_byte xs) p).0 in
    let greater : nat_cmp x 0 ≡ Greater = grind (arith, nat_tests) in
    rw greater
zeros_behind j k (x ∷ xs) (y ∷ ys) l p q =
    let rest = zeros_behind j k xs ys (omega (arith, l)) (both (is_name_byte x) (list_all is_name_byte xs) p).1 (both (is_name_byte y) (list_all is_name_byte ys) q).1 in
    ap (ordering_then (nat_cmp x y)) rest

below_256 : (b : ℕ) → is_name_byte b ≡ true → b < 256
below_256 b e = grind (arith, nat_tests)

zeros : (k : ℕ) → AreBytes (replicate {A = ℕ} k 0)
zeros zero i = omega arith
zeros (suc k) zero = omega arith
zeros (suc k) (suc i) = zeros k i

padded_bytes : (text : List ℕ) (k : ℕ) → list_all is_name_byte text ≡ true → AreBytes (text ++ replicate k 0)
padded_bytes [] k e i = zeros k i
padded_bytes (b ∷ bs) k e zero = below_256 b (both (is_name_byte b) (list_all is_name_byte bs) e).0
padded_bytes (b ∷ bs) k e (suc i) = padded_bytes bs k (both (is_name_byte b) (list_all is_name_byte bs) e).1 i

length-padded : (text : List ℕ) → length text ≤ 32 → length (padded text) ≡ 32
length-padded text few = omega (arith, length-append text (replicate {A = ℕ} (32 - length text) 0), length-replicate {A = ℕ} (32 - length text) 0)

-- So the four words of two names tell how the names compare.
pub names_compare : (m n : List ℕ) → IsTrue (is_name m) → IsTrue (is_name n) → slice_cmp nat_cmp (words_of 4 (padded m)) (words_of 4 (padded n)) ≡ name_cmp m n
names_compare m n h g =
    let x = is_named m h in
    let y = is_named n g in
    words_compare 4 (padded m) (padded n) (length-padded m x.few) (length-padded n y.few) (padded_bytes m (32 - length m) x.good) (padded_bytes n (32 - length n) y.good)
    ∙ zeros_behind (32 - length m) (32 - length n) m n (omega (arith, x.few, y.few)) x.good y.good
