-- The tables of logarithms against their meaning, which is computed.
use Rattle.std.proofs.Common.{◌≡◌, ℕ, zero, suc, ◌+◌, ◌≤◌, ◌<◌, ◌^◌, Bool, true, false, cond, leb, refl, arith, lit≤, lit<}
use Rattle.std.proofs.Math.Nat.{pow-le-pow_right}
use Rattle.std.proofs.lemmas.Bool.{leb-true, leb-false}
use Rattle.std.proofs.lemmas.Bool.Decides.{nat_tests}
use Rattle.lg_timing.specs.Meaning.Tables.{IsLog, range_end, log10_of, ratio_of}

-- t is the greatest where t + 1 is too great
pub is_log : (base number t : ℕ) → 0 < base → base ^ t ≤ number ^ 1000 → number ^ 1000 < base ^ (t + 1) → IsLog base number t
is_log base number t some reached passed =
    record { reached = reached; greatest = λ s below. least s (leb s t) refl below }
  where
    least : (s : ℕ) (b : Bool) → leb s t ≡ b → base ^ s ≤ number ^ 1000 → s ≤ t
    least s true e below = leb-true s t e
    least s false e below =
        let beyond : t + 1 ≤ s = omega (arith, leb-false s t e) in
        absurd (omega (arith, pow-le-pow_right some beyond, passed, below))

either : (base : ℕ) (b : Bool) (m t m' t' : ℕ) → IsLog base m t → IsLog base m' t' → IsLog base (cond b m m') (cond b t t')
either base true m t m' t' yes' no' = yes'
either base false m t m' t' yes' no' = no'

-- each entry of the table of logarithms is the logarithm of the end of its range
pub log10_is : (n : ℕ) → IsLog 10 (range_end n) (log10_of n)
unfolding log10_of
log10_is n =
    either 10 (leb n 10) _ _ _ _ (is_log 10 10 1000 (lit< tt) (lit≤ tt) (lit< tt))
    (either 10 (leb n 16) _ _ _ _ (is_log 10 16 1204 (lit< tt) (lit≤ tt) (lit< tt))
    (either 10 (leb n 32) _ _ _ _ (is_log 10 32 1505 (lit< tt) (lit≤ tt) (lit< tt))
    (either 10 (leb n 64) _ _ _ _ (is_log 10 64 1806 (lit< tt) (lit≤ tt) (lit< tt))
    (either 10 (leb n 128) _ _ _ _ (is_log 10 128 2107 (lit< tt) (lit≤ tt) (lit< tt))
    (is_log 10 256 2408 (lit< tt) (lit≤ tt) (lit< tt))))))

-- and at most 2408
pub log10_most : (n : ℕ) → log10_of n ≤ 2408
unfolding log10_of
log10_most n = grind (arith, nat_tests)

-- a quotient log (c + 1) / log (k + 1), at most 1
pub record IsRatio (k c t : ℕ) : Type 0 where
  pub is_log : IsLog (k + 1) (c + 1) t
  pub most : t ≤ 1000

row_is : (k c t : ℕ) → 0 < k + 1 → (k + 1) ^ t ≤ (c + 1) ^ 1000 → (c + 1) ^ 1000 < (k + 1) ^ (t + 1) → t ≤ 1000 → IsRatio k c t
row_is k c t some reached passed most = record { is_log = is_log (k + 1) (c + 1) t some reached passed; most = most }

-- each entry of the table of quotients is the quotient
pub ratio_is : (k c : ℕ) → 1 ≤ k → k ≤ 5 → c ≤ k → IsRatio k c (ratio_of k c)
unfolding ratio_of
ratio_is (suc zero) zero some few within = row_is 1 0 0 (lit< tt) (lit≤ tt) (lit< tt) (lit≤ tt)
ratio_is (suc zero) (suc zero) some few within = row_is 1 1 1000 (lit< tt) (lit≤ tt) (lit< tt) (lit≤ tt)
ratio_is (suc zero) (suc (suc c)) some few within = absurd (omega (arith, within))
ratio_is (suc (suc zero)) zero some few within = row_is 2 0 0 (lit< tt) (lit≤ tt) (lit< tt) (lit≤ tt)
ratio_is (suc (suc zero)) (suc zero) some few within = row_is 2 1 630 (lit< tt) (lit≤ tt) (lit< tt) (lit≤ tt)
ratio_is (suc (suc zero)) (suc (suc zero)) some few within = row_is 2 2 1000 (lit< tt) (lit≤ tt) (lit< tt) (lit≤ tt)
ratio_is (suc (suc zero)) (suc (suc (suc c))) some few within = absurd (omega (arith, within))
ratio_is (suc (suc (suc zero))) zero some few within = row_is 3 0 0 (lit< tt) (lit≤ tt) (lit< tt) (lit≤ tt)
ratio_is (suc (suc (suc zero))) (suc zero) some few within = row_is 3 1 500 (lit< tt) (lit≤ tt) (lit< tt) (lit≤ tt)
ratio_is (suc (suc (suc zero))) (suc (suc zero)) some few within = row_is 3 2 792 (lit< tt) (lit≤ tt) (lit< tt) (lit≤ tt)
ratio_is (suc (suc (suc zero))) (suc (suc (suc zero))) some few within = row_is 3 3 1000 (lit< tt) (lit≤ tt) (lit< tt) (lit≤ tt)
ratio_is (suc (suc (suc zero))) (suc (suc (suc (suc c)))) some few within = absurd (omega (arith, within))
ratio_is (suc (suc (suc (suc zero)))) zero some few within = row_is 4 0 0 (lit< tt) (lit≤ tt) (lit< tt) (lit≤ tt)
ratio_is (suc (suc (suc (suc zero)))) (suc zero) some few within = row_is 4 1 430 (lit< tt) (lit≤ tt) (lit< tt) (lit≤ tt)
ratio_is (suc (suc (suc (suc zero)))) (suc (suc zero)) some few within = row_is 4 2 682 (lit< tt) (lit≤ tt) (lit< tt) (lit≤ tt)
ratio_is (suc (suc (suc (suc zero)))) (suc (suc (suc zero))) some few within = row_is 4 3 861 (lit< tt) (lit≤ tt) (lit< tt) (lit≤ tt)
ratio_is (suc (suc (suc (suc zero)))) (suc (suc (suc (suc zero)))) some few within = row_is 4 4 1000 (lit< tt) (lit≤ tt) (lit< tt) (lit≤ tt)
ratio_is (suc (suc (suc (suc zero)))) (suc (suc (suc (suc (suc c))))) some few within = absurd (omega (arith, within))
ratio_is (suc (suc (suc (suc (suc zero))))) zero some few within = row_is 5 0 0 (lit< tt) (lit≤ tt) (lit< tt) (lit≤ tt)
ratio_is (suc (suc (suc (suc (suc zero))))) (suc zero) some few within = row_is 5 1 386 (lit< tt) (lit≤ tt) (lit< tt) (lit≤ tt)
ratio_is (suc (suc (suc (suc (suc zero))))) (suc (suc zero)) some few within = row_is 5 2 613 (lit< tt) (lit≤ tt) (lit< tt) (lit≤ tt)
ratio_is (suc (suc (suc (suc (suc zero))))) (suc (suc (suc zero))) some few within = row_is 5 3 773 (lit< tt) (lit≤ tt) (lit< tt) (lit≤ tt)
ratio_is (suc (suc (suc (suc (suc zero))))) (suc (suc (suc (suc zero)))) some few within = row_is 5 4 898 (lit< tt) (lit≤ tt) (lit< tt) (lit≤ tt)
ratio_is (suc (suc (suc (suc (suc zero))))) (suc (suc (suc (suc (suc zero))))) some few within = row_is 5 5 1000 (lit< tt) (lit≤ tt) (lit< tt) (lit≤ tt)
ratio_is (suc (suc (suc (suc (suc zero))))) (suc (suc (suc (suc (suc (suc c)))))) some few within = absurd (omega (arith, within))
ratio_is zero c some few within = absurd (omega (arith, some))
ratio_is (suc (suc (suc (suc (suc (suc k)))))) c some few within = absurd (omega (arith, few))

-- and at most 1
pub ratio_most : (k c : ℕ) → k ≤ 5 → c ≤ k → ratio_of k c ≤ 1000
unfolding ratio_of
ratio_most zero zero few within = lit≤ tt
ratio_most zero (suc c) few within = absurd (omega (arith, within))
ratio_most (suc k) c few within = (ratio_is (suc k) c (omega arith) few within).most
