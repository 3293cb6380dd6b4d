-- What a pass has seen, before and after a call; and fresh passes.
use Rattle.std.proofs.Common.{true, ◌≡◌, ℕ, zero, suc, drop, append_assoc, ◌+◌, ◌<◌, ◌≤◌, List, [], ◌∷◌, ◌++◌, length, All, ap, sym, ◌∙◌, subst, arith, length-append}
use Rattle.std.specs.Prelude.{Result, Ok, Err, IfOk}
use mathlib.Core.List.{IsPrefix}
use Rattle.std.proofs.lemmas.List.{length-drop}
use Rattle.std.proofs.lemmas.List.Elements.{All-nil, All-cons, All-head, All-tail, All-append}
use Rattle.lg_detector.specs.declared.event.Event.{Event}
use Rattle.lg_detector.specs.declared.reply.Reply.{Reply}
use Rattle.lg_detector.specs.Meaning.Step.{is_accepted, is_open_event, reply_after}
use Rattle.lg_history.specs.Meaning.History.{Entry, entry, events}
use Rattle.lg_history.proofs.Legal.{events-append, length-events}
use Rattle.lg_view.proofs.Fronts.{prefix_shorter}
use Rattle.lg_view.specs.Meaning.Views.{begins_open}
use Rattle.lg_agent.specs.declared.receipt.Receipt.{Receipt}
use Rattle.lg_agent.specs.declared.refusal.Refusal.{Refusal}
use Rattle.lg_agent.specs.Meaning.Values.{KeptValue, PassValue, all_events, count_of}
use Rattle.lg_agent.specs.Meaning.Calls.{with_entry, receipt_of, IsAnswered, IsCall, IsFresh, AreFresh}

pub answered_by : (l : KeptValue) (seat : ℕ) (seen : List Event) (e : Event) (r : Receipt) (now : List Event)
    → length seen ≤ count_of l → r.place ≡ count_of l → r.reply ≡ reply_after (all_events l) e
    → IsPrefix seen (all_events (with_entry l seat e)) → now ≡ all_events (with_entry l seat e) → is_accepted now ≡ true
    → IsAnswered seen e r now
answered_by l seat seen e r now short place reply begins all accepted =
    let x : Entry = entry seat e (reply_after (all_events l) e) in
    let are : all_events (with_entry l seat e) ≡ all_events l ++ e ∷ [] = ap (λ (f : List Event). l.past ++ f) (events-append l.history x) ∙ sym (append_assoc l.past (events l.history) (e ∷ [])) in
    let long : length (all_events l) ≡ count_of l = let both = length-append l.past (events l.history) in let count = length-events l.history in omega (arith, both, count) in
    record {
      before = all_events l;
      begins = prefix_shorter seen (all_events l) (all_events (with_entry l seat e)) begins (e ∷ [], sym are) (omega (arith, short, long));
      ends = all ∙ are;
      accepted = accepted;
      place = long ∙ sym place;
      reply = reply;
    }

pub all_below : (m n : ℕ) (xs : List ℕ) → m ≤ n → All (λ k. k < m) xs → All (λ k. k < n) xs
all_below m n xs le all k d at = let h = all k d at in omega arith

pub fresh-append : (name : List ℕ) (n : ℕ) (passes : List PassValue) (p : PassValue) → AreFresh name n passes → IsFresh name (n + length passes + 1) p → AreFresh name n (passes ++ p ∷ [])
fresh-append name n [] p fresh last = (record { name = last.name; seat = last.seat ∙ omega arith; seen = last.seen; gone = last.gone; mine = last.mine }, tt)
fresh-append name n (x ∷ passes) p fresh last = (fresh.0, fresh-append name (n + 1) passes p fresh.1 (record { name = last.name; seat = last.seat ∙ omega arith; seen = last.seen; gone = last.gone; mine = last.mine }))

pub all-front : {A : Type 0} (P : A → Type 0) (xs ys : List A) → All P (xs ++ ys) → All P xs
all-front P [] ys a = All-nil P
all-front P (x ∷ xs) ys a = All-cons P x xs (All-head P x (xs ++ ys) a) (all-front P xs ys (All-tail P x (xs ++ ys) a))

pub all-last : {A : Type 0} (P : A → Type 0) (xs : List A) (x : A) → All P (xs ++ x ∷ []) → P x
all-last P [] x a = All-head P x [] a
all-last P (y ∷ xs) x a = all-last P xs x (All-tail P y (xs ++ x ∷ []) a)

pub answered_if : (l : KeptValue) (seat : ℕ) (seen : List Event) (e : Event) (result : Result ℕ Refusal) (reply : Reply) (after : KeptValue) (now : List Event)
    → length seen ≤ count_of l → IfOk result (λ place. (after ≡ with_entry l seat e) × (place ≡ count_of l) × (reply ≡ reply_after (all_events l) e))
    → IsPrefix seen (all_events after) → now ≡ all_events after → is_accepted now ≡ true
    → IfOk result (λ place. IsAnswered seen e (receipt_of place reply) now)
answered_if l seat seen e (Ok place) reply after now short done begins all accepted =
    let is : after ≡ with_entry l seat e = done.0 in
    answered_by l seat seen e (receipt_of place reply) now short done.1 done.2 (subst (λ (k : KeptValue). IsPrefix seen (all_events k)) is begins) (all ∙ ap all_events is) accepted
answered_if l seat seen e (Err f) reply after now short done begins all accepted = tt

pub open_prefix : (xs ys : List Event) → IsPrefix xs ys → begins_open xs ≡ true → begins_open ys ≡ true
open_prefix [] ys p opens = absurd cc
open_prefix (x ∷ xs) [] p opens = absurd (cc (p.1))
open_prefix (x ∷ xs) (y ∷ ys) p opens = let head : y ≡ x = cc (p.1) in ap is_open_event head ∙ opens

pub all_one_more : (n x : ℕ) (xs : List ℕ) → All (λ k. k < n) xs → x < n → All (λ k. k < n) (xs ++ x ∷ [])
all_one_more n x xs all low = All-append (λ (k : ℕ). k < n) xs (x ∷ []) all (All-cons (λ (k : ℕ). k < n) x [] low (All-nil (λ (k : ℕ). k < n)))

-- the positions that are left when the first were cut off
pub all_drop : (P : ℕ → Type 0) (n : ℕ) (xs : List ℕ) → All P xs → All P (drop n xs)
all_drop P zero xs all = all
all_drop P (suc n) [] all = all
all_drop P (suc n) (x ∷ xs) all = all_drop P n xs (All-tail P x xs all)

-- a pass after an answered call has seen the opening, and all its calls, and more events than it made calls
pub keeps_up : (seen : List Event) (e : Event) (r : Receipt) (now : List Event) (gone moved : ℕ) (mine more : List ℕ) → begins_open seen ≡ true → All (λ k. k < length seen) mine → gone + length mine < length seen
    → moved ≤ length mine → IsAnswered seen e r now → more ≡ drop moved mine ++ r.place ∷ []
    → (begins_open now ≡ true) × All (λ k. k < length now) more × (gone + moved + length more < length now)
keeps_up seen e r now gone moved mine more opens below fewer few answered grown =
    let step : length now ≡ length answered.before + 1 = ap length answered.ends ∙ length-append answered.before (e ∷ []) in
    let front : length answered.before ≡ length seen + length answered.begins.0 = ap length (sym answered.begins.1) ∙ length-append seen answered.begins.0 in
    let begins : IsPrefix answered.before now = (e ∷ [], sym answered.ends) in
    let rest : length (drop moved mine) + moved ≡ length mine = let cut = length-drop moved mine in omega (arith, cut, few) in
    let count : length more ≡ length (drop moved mine) + 1 = ap length grown ∙ length-append (drop moved mine) (r.place ∷ []) in (
      open_prefix answered.before now begins (open_prefix seen answered.before answered.begins opens),
      rw grown (all_one_more (length now) r.place (drop moved mine) (all_below (length seen) (length now) (drop moved mine) (omega (arith, step, front)) (all_drop (λ (k : ℕ). k < length seen) moved mine below)) (let place = answered.place in omega (arith, step, place))),
      omega (arith, step, front, rest, count, fewer),
    )

pub call_of : (before after : PassValue) (e : Event) (r : Receipt) (moved : ℕ) → All (λ k. k < length before.seen) before.mine → IsAnswered before.seen e r after.seen → moved ≤ length before.mine → after.gone ≡ before.gone + moved → after.mine ≡ drop moved before.mine ++ r.place ∷ [] → after.seat ≡ before.seat → after.name ≡ before.name → IsCall before e r after
call_of before after e r moved below answered few gone mine seat name =
    let front : length answered.before ≡ length before.seen + length answered.begins.0 = ap length (sym answered.begins.1) ∙ length-append before.seen answered.begins.0 in
    record {
      answered = answered;
      moved = moved;
      few = few;
      gone = gone;
      mine = mine;
      later = all_below (length before.seen) r.place before.mine (let place = answered.place in omega (arith, front, place)) below;
      seat = seat;
      name = name;
    }

-- looks that were all told of one list, which begins with an opening
pub all_begin : (f : List Event) (looks : List (List Event)) → begins_open f ≡ true → All (λ k. k ≡ f) looks → All (λ k. begins_open k ≡ true) looks
all_begin f looks opens told k d at = ap begins_open (told k d at) ∙ opens
