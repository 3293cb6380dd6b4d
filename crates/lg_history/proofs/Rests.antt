-- How what is left of a legal history begins, grows and is cut again.
use Rattle.std.proofs.Common.{◌≡◌, ℕ, zero, suc, ◌+◌, ◌<◌, ◌≤◌, ◌==◌, Bool, true, false, cond, List, [], ◌∷◌, ◌++◌, length, All, get_or, zero-add, ◌≢◌, ◌⊎◌, ⊎_elim, inl, inr, refl, ap, sym, ◌∙◌, subst, arith, append_assoc, append-nil, length-append}
use Rattle.std.specs.Prelude.{nat_lt}
use Rattle.std.specs.List.{count_by, sum_by}
use Rattle.std.proofs.lemmas.Bool.{eq-eqb, ne_eqb}
use Rattle.std.proofs.lemmas.Bool.Decides.{nat_tests}
use Rattle.std.proofs.lemmas.List.Elements.{All-nil, All-cons, All-head, All-tail}
use Rattle.std.proofs.lemmas.List.Sums.{sum_by-append, sum_by-cons, count_by-le-length}
use Rattle.lg_detector.specs.declared.event.Event.{Event}
use Rattle.lg_detector.specs.declared.reply.Reply.{Reply}
use Rattle.lg_detector.specs.Meaning.Step.{is_accepted, is_open_event, most_events, reply_after}
use Rattle.lg_detector.specs.Support.State.{State}
use Rattle.lg_detector.specs.Support.Step.{accepts_of, state_after, step_state, reply_state}
use Rattle.lg_detector.specs.Support.Summary.{IsSummary}
use Rattle.lg_detector.proofs.AcceptedLists.{accepted_few}
use Rattle.lg_detector.proofs.Accepting.{accepts-after}
use Rattle.lg_detector.proofs.StepLaws.{step-after, reply-of}
use Rattle.lg_detector.proofs.Summaries.{accepted_front}
use Rattle.lg_history.specs.Meaning.History.{Entry, entry, events, Answered, IsSeat, Seated, IsLegal}
use Rattle.lg_history.specs.Meaning.Rest.{made_by, of_seat, IsRest, AnsweredFrom, AreCut}
use Rattle.lg_history.proofs.Legal.{length-events, grown}

pub events-join : (g h : List Entry) → events (g ++ h) ≡ events g ++ events h
events-join [] h = refl
events-join (x ∷ g) h = ap (λ (l : List Event). x.event ∷ l) (events-join g h)

pub answered-rest : (f : List Event) (g h : List Entry) → Answered f (g ++ h) → Answered (f ++ events g) h
answered-rest f [] h answered = subst (λ (l : List Event). Answered l h) (sym (append-nil f)) answered
answered-rest f (x ∷ g) h answered =
    subst (λ (l : List Event). Answered l h) (append_assoc f (x.event ∷ []) (events g)) (answered-rest (f ++ x.event ∷ []) g h answered.1)

pub made_by-join : (seat : ℕ) (g h : List Entry) → made_by seat (g ++ h) ≡ made_by seat g + made_by seat h
made_by-join seat g h = sum_by-append (λ (x : Entry). cond (x.seat == seat) 1 0) g h

-- a legal history of which nothing was cut off
pub rest_whole : (places : ℕ) (cut : List ℕ) (h : List Entry) → ((seat : ℕ) → of_seat cut seat ≡ 0) → IsLegal places h → IsRest places [] cut h
rest_whole places cut h none legal = record { gone = []; past_is = refl; legal = legal; counted = none }

-- the whole events, and how many
pub whole_events : (places : ℕ) (past : List Event) (cut : List ℕ) (h : List Entry) (r : IsRest places past cut h) → events (r.gone ++ h) ≡ past ++ events h
whole_events places past cut h r = events-join r.gone h ∙ ap (λ (l : List Event). l ++ events h) r.past_is

pub whole_length : (places : ℕ) (past : List Event) (cut : List ℕ) (h : List Entry) (r : IsRest places past cut h) → length (r.gone ++ h) ≡ length h + length past
whole_length places past cut h r =
    let gone : length r.gone ≡ length past = sym (length-events r.gone) ∙ ap length r.past_is in
    let both = length-append r.gone h in
    omega (arith, gone, both)

pub rest_accepted : (places : ℕ) (past : List Event) (cut : List ℕ) (h : List Entry) → IsRest places past cut h → is_accepted (past ++ events h) ≡ true
rest_accepted places past cut h r = sym (ap is_accepted (whole_events places past cut h r)) ∙ r.legal.accepted

-- each reply is that of the definitions, after the events that were cut off and those of the entries before it
pub rest_answered : (places : ℕ) (past : List Event) (cut : List ℕ) (h : List Entry) → IsRest places past cut h → Answered past h
rest_answered places past cut h r = subst (λ (l : List Event). Answered l h) r.past_is (answered-rest [] r.gone h r.legal.answered)

-- and it is the one that a summary of what was cut off leads to
pub answered_from : (s : State) (f : List Event) (h : List Entry) → IsSummary s f → is_accepted (f ++ events h) ≡ true → Answered f h → AnsweredFrom s h
answered_from s f [] is accepted answered = tt
answered_from s f (x ∷ h) is accepted answered =
    let e : Event = x.event in
    let again : (f ++ e ∷ []) ++ events h ≡ f ++ e ∷ events h = append_assoc f (e ∷ []) (events h) in
    let whole : is_accepted ((f ++ e ∷ []) ++ events h) ≡ true = ap is_accepted again ∙ accepted in
    let one : is_accepted (f ++ e ∷ []) ≡ true = accepted_front (f ++ e ∷ []) (events h) whole in
    let takes : accepts_of (state_after f) e ≡ true = accepts-after f e (accepted_front f (e ∷ []) one) ∙ one in
    let next : step_state s e ≡ state_after (f ++ e ∷ []) = ap (λ (t : State). step_state t e) is ∙ step-after f e takes in
    (answered.0 ∙ (sym (reply-of f e) ∙ ap (λ (t : State). reply_state t e) (sym is)), answered_from (step_state s e) (f ++ e ∷ []) h next whole answered.1)

-- the other way round
pub answered_after : (s : State) (f : List Event) (h : List Entry) → IsSummary s f → is_accepted (f ++ events h) ≡ true → AnsweredFrom s h → Answered f h
answered_after s f [] is accepted answered = tt
answered_after s f (x ∷ h) is accepted answered =
    let e : Event = x.event in
    let again : (f ++ e ∷ []) ++ events h ≡ f ++ e ∷ events h = append_assoc f (e ∷ []) (events h) in
    let whole : is_accepted ((f ++ e ∷ []) ++ events h) ≡ true = ap is_accepted again ∙ accepted in
    let one : is_accepted (f ++ e ∷ []) ≡ true = accepted_front (f ++ e ∷ []) (events h) whole in
    let takes : accepts_of (state_after f) e ≡ true = accepts-after f e (accepted_front f (e ∷ []) one) ∙ one in
    let next : step_state s e ≡ state_after (f ++ e ∷ []) = ap (λ (t : State). step_state t e) is ∙ step-after f e takes in
    (answered.0 ∙ (ap (λ (t : State). reply_state t e) is ∙ reply-of f e), answered_after (step_state s e) (f ++ e ∷ []) h next whole answered.1)

-- What is left goes on by one entry, as a whole history does.
pub rest_grows : (places seat : ℕ) (past : List Event) (cut : List ℕ) (h : List Entry) (e : Event) (r : Reply) → IsRest places past cut h → is_open_event e ≡ false → length h + length past < most_events → 0 < seat → seat ≤ places → r ≡ reply_after (past ++ events h) e
    → IsRest places past cut (h ++ entry seat e r ∷ [])
rest_grows places seat past cut h e r rest shut few low high is =
    let whole : length (rest.gone ++ h) ≡ length h + length past = whole_length places past cut h rest in
    let same : r ≡ reply_after (events (rest.gone ++ h)) e = is ∙ ap (λ (l : List Event). reply_after l e) (sym (whole_events places past cut h rest)) in
    let longer : IsLegal places ((rest.gone ++ h) ++ entry seat e r ∷ []) = grown places seat (rest.gone ++ h) e r rest.legal shut (omega (arith, few, whole)) low high same in
    record {
      gone = rest.gone;
      past_is = rest.past_is;
      legal = subst (IsLegal places) (append_assoc rest.gone h (entry seat e r ∷ [])) longer;
      counted = rest.counted;
    }

-- All entries are cut off.
pub rest_cut : (places : ℕ) (past : List Event) (cut more : List ℕ) (h : List Entry) → IsRest places past cut h → ((seat : ℕ) → of_seat more seat ≡ of_seat cut seat + made_by seat h) → IsRest places (past ++ events h) more []
rest_cut places past cut more h rest counts = record {
  gone = rest.gone ++ h;
  past_is = whole_events places past cut h rest;
  legal = subst (IsLegal places) (sym (append-nil (rest.gone ++ h))) rest.legal;
  counted = λ seat. counts seat ∙ (ap (λ (n : ℕ). n + made_by seat h) (rest.counted seat) ∙ sym (made_by-join seat rest.gone h));
}

-- The seats of all that was cut off, and of what is left.
pub seats-rest : (places : ℕ) (g h : List Entry) → Seated places (g ++ h) → All (λ x. x.seat ≤ places) h
seats-rest places [] [] seated = absurd seated
seats-rest places [] (x ∷ h) seated = λ k d low. at places x h seated k d low
  where
    at : (places : ℕ) (x : Entry) (h : List Entry) → Seated places (x ∷ h) → All (λ y. y.seat ≤ places) (x ∷ h)
    at places x h seated zero d low = omega (arith, seated.0)
    at places x h seated (suc k) d low = (seated.1 k d (omega (arith, low))).1
seats-rest places (y ∷ g) h seated = later places g h seated.1
  where
    later : (places : ℕ) (g h : List Entry) → All (IsSeat places) (g ++ h) → All (λ y. y.seat ≤ places) h
    later places [] h seats = λ k d low. (seats k d low).1
    later places (x ∷ g) h seats = later places g h (All-tail (IsSeat places) x (g ++ h) seats)

-- where nothing was cut off, the whole is left
pub rest_none : (places : ℕ) (past : List Event) (cut : List ℕ) (h : List Entry) → IsRest places past cut h → past ≡ [] → IsLegal places h
rest_none places past cut h rest none = nothing rest.gone h (rest.past_is ∙ none) rest.legal
  where
    nothing : (g h : List Entry) → events g ≡ [] → IsLegal places (g ++ h) → IsLegal places h
    nothing [] h is legal = legal
    nothing (x ∷ g) h is legal = absurd cc

-- no seat made more than a detector accepts
pub cut_room : (places : ℕ) (past : List Event) (cut : List ℕ) (h : List Entry) → IsRest places past cut h → (seat : ℕ) → of_seat cut seat + length h ≤ most_events
cut_room places past cut h rest seat =
    let few = accepted_few (events (rest.gone ++ h)) rest.legal.accepted in
    let count = length-events (rest.gone ++ h) in
    let both = length-append rest.gone h in
    let made = count_by-le-length (λ (x : Entry). x.seat == seat) rest.gone in
    let is = rest.counted seat in
    omega (arith, few, count, both, made, is)

-- The numbers of the seats of what was cut off.
seats-front : (places : ℕ) (g h : List Entry) → All (IsSeat places) (g ++ h) → All (IsSeat places) g
seats-front places [] h seats = All-nil (IsSeat places)
seats-front places (x ∷ g) h seats = All-cons (IsSeat places) x g (All-head (IsSeat places) x (g ++ h) seats) (seats-front places g h (All-tail (IsSeat places) x (g ++ h) seats))

made-cons : (seat : ℕ) (x : Entry) (g : List Entry) → made_by seat (x ∷ g) ≡ cond (x.seat == seat) 1 0 + made_by seat g
made-cons seat x g = sum_by-cons (λ (y : Entry). cond (y.seat == seat) 1 0) x g

made-yes : (seat : ℕ) (x : Entry) (g : List Entry) → x.seat ≡ seat → made_by seat (x ∷ g) ≡ 1 + made_by seat g
made-yes seat x g is = made-cons seat x g ∙ ap (λ (b : Bool). cond b 1 0 + made_by seat g) (eq-eqb x.seat seat is)

made-no : (seat : ℕ) (x : Entry) (g : List Entry) → x.seat ≢ seat → made_by seat (x ∷ g) ≡ made_by seat g
made-no seat x g isnt = made-cons seat x g ∙ (ap (λ (b : Bool). cond b 1 0 + made_by seat g) (ne_eqb x.seat seat isnt) ∙ zero-add (made_by seat g))

none_outside : (places seat : ℕ) (g : List Entry) → All (IsSeat places) g → (seat ≡ 0) ⊎ (places < seat) → made_by seat g ≡ 0
none_outside places seat [] seats out = refl
none_outside places seat (x ∷ g) seats out =
    let here : IsSeat places x = All-head (IsSeat places) x g seats in
    let isnt : x.seat ≢ seat = λ same. ⊎_elim (λ (none : seat ≡ 0). absurd (omega (arith, here.0, none, same))) (λ (above : places < seat). absurd (omega (arith, here.1, above, same))) out in
    made-no seat x g isnt ∙ none_outside places seat g (All-tail (IsSeat places) x g seats) out

opening_once : (places : ℕ) (g h : List Entry) → Seated places (g ++ h) → 0 < length g → made_by 0 g ≡ 1
opening_once places [] h seated some = absurd (omega (arith, some))
opening_once places (x ∷ g) h seated some =
    let rest = none_outside places 0 g (seats-front places g h seated.1) (inl refl) in
    let first = made-yes 0 x g seated.0 in
    omega (arith, rest, first)

none_above : (places seat : ℕ) (g h : List Entry) → Seated places (g ++ h) → places < seat → made_by seat g ≡ 0
none_above places seat [] h seated above = refl
none_above places seat (x ∷ g) h seated above =
    let isnt : x.seat ≢ seat = λ same. absurd (omega (arith, seated.0, above, same)) in
    made-no seat x g isnt ∙ none_outside places seat g (seats-front places g h seated.1) (inr above)

-- entries of the seats below n
abbrev under : ℕ → List Entry → ℕ
under n g = count_by (λ (x : Entry). nat_lt x.seat n) g

under-more : (n : ℕ) (g : List Entry) → under (n + 1) g ≡ under n g + made_by n g
under-more n [] = refl
under-more n (x ∷ g) =
    let rest = under-more n g in
    let left = sum_by-cons (λ (y : Entry). cond (nat_lt y.seat (n + 1)) 1 0) x g in
    let right = sum_by-cons (λ (y : Entry). cond (nat_lt y.seat n) 1 0) x g in
    let made = made-cons n x g in
    let one = one_more x.seat n in
    omega (arith, rest, left, right, made, one)
  where
    one_more : (a n : ℕ) → cond (nat_lt a (n + 1)) 1 0 ≡ cond (nat_lt a n) 1 0 + cond (a == n) 1 0
    one_more a n = grind (arith, nat_tests)

under-all : (n : ℕ) (g : List Entry) → All (λ x. x.seat < n) g → under n g ≡ length g
under-all n [] below = refl
under-all n (x ∷ g) below =
    let Below : Entry → Type 0 = λ y. y.seat < n in
    let here : x.seat < n = All-head Below x g below in
    let rest = under-all n g (All-tail Below x g below) in
    let left = sum_by-cons (λ (y : Entry). cond (nat_lt y.seat n) 1 0) x g in
    let is : nat_lt x.seat n ≡ true = grind (arith, nat_tests, here) in
    let one : ◌≡◌ {A = ℕ} (cond (nat_lt x.seat n) 1 0) 1 = ap (λ (b : Bool). cond b 1 0) is in
    omega (arith, rest, left, one)

under-none : (g : List Entry) → under 0 g ≡ 0
under-none [] = refl
under-none (x ∷ g) =
    let rest = under-none g in
    let left = sum_by-cons (λ (y : Entry). cond (nat_lt y.seat 0) 1 0) x g in
    let is : nat_lt x.seat 0 ≡ false = grind (arith, nat_tests) in
    let none : ◌≡◌ {A = ℕ} (cond (nat_lt x.seat 0) 1 0) 0 = ap (λ (b : Bool). cond b 1 0) is in
    omega (arith, rest, left, none)

sum_from : (n : ℕ) (counts : List ℕ) (g : List Entry) → ((k : ℕ) → of_seat counts k ≡ made_by (n + k) g) → under n g + sum_by (λ (m : ℕ). m) counts ≡ under (n + length counts) g
sum_from n [] g are = let same : under n g ≡ under (n + 0) g = ap (λ (m : ℕ). under m g) (omega arith) in omega (arith, same)
sum_from n (c ∷ counts) g are =
    let here : c ≡ made_by n g = are 0 ∙ ap (λ (m : ℕ). made_by m g) (omega arith) in
    let later : (k : ℕ) → of_seat counts k ≡ made_by (n + 1 + k) g = λ k. are (suc k) ∙ ap (λ (m : ℕ). made_by m g) (omega arith) in
    let rest = sum_from (n + 1) counts g later in
    let more = under-more n g in
    let same : under (n + 1 + length counts) g ≡ under (n + suc (length counts)) g = ap (λ (m : ℕ). under m g) (omega arith) in
    let add : sum_by (λ (m : ℕ). m) (c ∷ counts) ≡ c + sum_by (λ (m : ℕ). m) counts = sum_by-cons (λ (m : ℕ). m) c counts in
    omega (arith, here, rest, more, same, add)

at_each-of : (places most : ℕ) (x : Entry) (g h : List Entry) → places < most → Seated places (x ∷ g ++ h) → (k : ℕ) (d : Entry) → k < length (x ∷ g) → (get_or (x ∷ g) k d).seat < most
at_each-of places most x g h long seated zero d low = omega (arith, seated.0, long)
at_each-of places most x g h long seated (suc k) d low = let at = seats-front places g h seated.1 k d (omega (arith, low)) in omega (arith, at.1, long)

pub rest_seats : (places : ℕ) (past : List Event) (cut : List ℕ) (h : List Entry) → IsRest places past cut h → places < length cut → AreCut places past cut
rest_seats places past cut h rest long =
    let g : List Entry = rest.gone in
    let count : length g ≡ length past = sym (length-events g) ∙ ap length rest.past_is in
    let seated : Seated places (g ++ h) = rest.legal.seated in
    let below : All (λ x. x.seat < length cut) g = all_below g h seated in
    record {
      opening = λ some. rest.counted 0 ∙ opening_once places g h seated (omega (arith, some, count));
      none_above = λ seat above. rest.counted seat ∙ none_above places seat g h seated above;
      all = let total = sum_from 0 cut g (λ k. rest.counted k ∙ ap (λ (m : ℕ). made_by m g) (omega arith)) in
          let none = under-none g in
          let all : under (0 + length cut) g ≡ length g = ap (λ (m : ℕ). under m g) (omega arith) ∙ under-all (length cut) g below in
          omega (arith, total, none, all, count);
    }
  where
    all_below : (g h : List Entry) → Seated places (g ++ h) → All (λ x. x.seat < length cut) g
    all_below [] h seated = All-nil (λ (x : Entry). x.seat < length cut)
    all_below (x ∷ g) h seated = λ k d low. at_each-of places (length cut) x g h long seated k d low
