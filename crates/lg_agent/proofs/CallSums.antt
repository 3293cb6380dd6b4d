-- The entries of a history are the opening's and one for each answered call.
use Rattle.std.proofs.Common.{◌≡◌, ℕ, ◌+◌, ◌<◌, ◌≤◌, ◌==◌, Bool, true, false, cond, if◌then◌else◌, List, [], ◌∷◌, ◌++◌, length, drop, refl, ap, sym, ◌∙◌, arith, zero-add, All}
use Rattle.std.specs.List.{sum_by}
use Rattle.std.proofs.lemmas.Bool.{eqb-true, eq-eqb, ne_eqb}
use Rattle.std.proofs.lemmas.List.Elements.{All-head, All-tail}
use Rattle.std.proofs.lemmas.List.{length-drop}
use Rattle.std.proofs.lemmas.List.Sums.{sum_by-cons, prefix_len-le-length}
use Rattle.std.specs.Prelude.{nat_lt}
use Rattle.lg_history.specs.Meaning.History.{Entry, IsSeat, Seated, positions}
use Rattle.lg_agent.specs.Meaning.Values.{PassValue}
use Rattle.lg_history.specs.Meaning.Rest.{made_by}
use Rattle.lg_history.proofs.Rests.{made_by-join}
use Rattle.lg_agent.specs.Meaning.Closing.{times, below}
use Rattle.lg_agent.proofs.ClosingLaws.{times-cons, times_no}

-- how many entries of a history each of some passes has, added up
abbrev had : ℕ → List Entry → List PassValue → ℕ
had n h all = sum_by (λ s. length (positions s.seat n h)) all

had-none : (n : ℕ) (all : List PassValue) → had n [] all ≡ 0
had-none n [] = refl
had-none n (s ∷ all) = sum_by-cons (λ (o : PassValue). length (positions o.seat n [])) s all ∙ (zero-add (had n [] all) ∙ had-none n all)

-- the test of the seat either way round
flipped : (a b : ℕ) → (a == b) ≡ (b == a)
flipped a b = elim (a == b) as (λ (t : Bool). (a == b) ≡ t → t ≡ (b == a)) [
  | true ↦ λ is. sym (eq-eqb b a (sym (eqb-true a b is)))
  | false ↦ λ isnt. sym (ne_eqb b a (λ same. absurd (cc (isnt, eq-eqb a b (sym same)))))
] refl

one_more : (b : Bool) (n : ℕ) (rest : List ℕ) → length (if b then n ∷ rest else rest) ≡ cond b 1 0 + length rest
one_more true n rest = omega arith
one_more false n rest = sym (zero-add (length rest))

had-cons : (n : ℕ) (x : Entry) (h : List Entry) (all : List PassValue) → had n (x ∷ h) all ≡ times all x.seat + had (n + 1) h all
had-cons n x h [] = refl
had-cons n x h (s ∷ all) =
    let whole : had n (x ∷ h) (s ∷ all) ≡ length (positions s.seat n (x ∷ h)) + had n (x ∷ h) all = sum_by-cons (λ (o : PassValue). length (positions o.seat n (x ∷ h))) s all in
    let one : length (positions s.seat n (x ∷ h)) ≡ cond (s.seat == x.seat) 1 0 + length (positions s.seat (n + 1) h) = one_more (x.seat == s.seat) n (positions s.seat (n + 1) h) ∙ ap (λ (b : Bool). cond b 1 0 + length (positions s.seat (n + 1) h)) (flipped x.seat s.seat) in
    let rest : had n (x ∷ h) all ≡ times all x.seat + had (n + 1) h all = had-cons n x h all in
    let later : had (n + 1) h (s ∷ all) ≡ length (positions s.seat (n + 1) h) + had (n + 1) h all = sum_by-cons (λ (o : PassValue). length (positions o.seat (n + 1) h)) s all in
    let all_times : times (s ∷ all) x.seat ≡ cond (s.seat == x.seat) 1 0 + times all x.seat = times-cons s all x.seat in
    omega (arith, whole, one, rest, later, all_times)

-- entries of seats that have one pass each
had-all : (places n : ℕ) (h : List Entry) (all : List PassValue) → ((p : ℕ) → 0 < p → p ≤ places → times all p ≡ 1) → All (IsSeat places) h → had n h all ≡ length h
had-all places n [] all one_each seats = had-none n all
had-all places n (x ∷ h) all one_each seats =
    let is : IsSeat places x = All-head (IsSeat places) x h seats in
    let rest : had (n + 1) h all ≡ length h = had-all places (n + 1) h all one_each (All-tail (IsSeat places) x h seats) in
    let here : times all x.seat ≡ 1 = one_each x.seat is.0 is.1 in
    let step : had n (x ∷ h) all ≡ times all x.seat + had (n + 1) h all = had-cons n x h all in
    omega (arith, rest, here, step)

-- no pass has the opening's seat
none_at_zero : (all : List PassValue) → All (λ s. 0 < s.seat) all → times all 0 ≡ 0
none_at_zero [] seats = refl
none_at_zero (s ∷ all) seats =
    let Low : PassValue → Type 0 = λ o. 0 < o.seat in
    let here : 0 < s.seat = All-head Low s all seats in
    let isnt : (s.seat == 0) ≡ false = ne_eqb s.seat 0 (λ is. absurd (omega (arith, here, is))) in
    times_no s all 0 isnt ∙ none_at_zero all (All-tail Low s all seats)

lengths : (h : List Entry) (all : List PassValue) → All (λ s. s.gone + length s.mine ≡ length (positions s.seat 0 h)) all → sum_by (λ s. s.gone + length s.mine) all ≡ had 0 h all
lengths h [] same = refl
lengths h (s ∷ all) same =
    let Same : PassValue → Type 0 = λ o. o.gone + length o.mine ≡ length (positions o.seat 0 h) in
    let here : s.gone + length s.mine ≡ length (positions s.seat 0 h) = All-head Same s all same in
    let rest : sum_by (λ (o : PassValue). o.gone + length o.mine) all ≡ had 0 h all = lengths h all (All-tail Same s all same) in
    let left = sum_by-cons (λ (o : PassValue). o.gone + length o.mine) s all in
    let right = sum_by-cons (λ (o : PassValue). length (positions o.seat 0 h)) s all in
    left ∙ rw (here, rest) (sym right)

-- the sum
pub calls_sum : (places : ℕ) (h : List Entry) (all : List PassValue) → Seated places h → ((p : ℕ) → 0 < p → p ≤ places → times all p ≡ 1) → All (λ s. 0 < s.seat) all → All (λ s. s.gone + length s.mine ≡ length (positions s.seat 0 h)) all
    → length h ≡ 1 + sum_by (λ s. s.gone + length s.mine) all
calls_sum places [] all seated one_each low same = absurd seated
calls_sum places (x ∷ h) all seated one_each low same =
    let mine = lengths (x ∷ h) all same in
    let split : had 0 (x ∷ h) all ≡ times all x.seat + had 1 h all = had-cons 0 x h all in
    let none : times all x.seat ≡ 0 = ap (times all) seated.0 ∙ none_at_zero all low in
    let rest : had 1 h all ≡ length h = had-all places 1 h all one_each seated.1 in
    let total : sum_by (λ (s : PassValue). s.gone + length s.mine) all ≡ length h = mine ∙ (split ∙ omega (arith, none, rest)) in
    rw total (omega arith)

-- how many positions a seat has
length-positions : (seat n : ℕ) (h : List Entry) → length (positions seat n h) ≡ made_by seat h
length-positions seat n [] = refl
length-positions seat n (x ∷ h) = one_more (x.seat == seat) n (positions seat (n + 1) h) ∙ (ap (λ (k : ℕ). cond (x.seat == seat) 1 0 + k) (length-positions seat (n + 1) h) ∙ sym (sum_by-cons (λ (y : Entry). cond (y.seat == seat) 1 0) x h))

-- As many calls of a pass as entries of its place, of which the first were cut off.
pub all_calls : (gone h : List Entry) (s : PassValue) → s.gone + below (length gone) s.mine ≡ made_by s.seat gone → drop (below (length gone) s.mine) s.mine ≡ positions s.seat (length gone) h → s.gone + length s.mine ≡ length (positions s.seat 0 (gone ++ h))
all_calls gone h s cut mine =
    let first : ℕ = below (length gone) s.mine in
    let few : first ≤ length s.mine = prefix_len-le-length (λ (n : ℕ). nat_lt n (length gone)) s.mine in
    let rest : length (drop first s.mine) ≡ made_by s.seat h = ap length mine ∙ length-positions s.seat (length gone) h in
    let long = length-drop first s.mine in
    let whole : length (positions s.seat 0 (gone ++ h)) ≡ made_by s.seat gone + made_by s.seat h = length-positions s.seat 0 (gone ++ h) ∙ made_by-join s.seat gone h in
    omega (arith, cut, few, rest, long, whole)
