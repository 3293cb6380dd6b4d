-- Worked rows: orders, helpers, rounds and relays after some facts.
use Rattle.std.specs.Prelude.{◌≡◌, ◌≤◌, ℕ, ℤ, pos, true, false, List, [], ◌∷◌, Some, None, refl}
use Rattle.lg_rules.specs.declared.addr.Addr.{Addr}
use Rattle.lg_rules.specs.declared.addr.Ip.TheVariants.{V4}
use Rattle.lg_probe.specs.declared.relays.Asker.{Asker}
use Rattle.lg_probe.specs.declared.relays.Relay.{Relay}
use Rattle.lg_probe.specs.Meaning.Helpers.{picked}
use Rattle.lg_probe.specs.Meaning.Relays.{Opened, TargetAcked, Closed, asker_at, ended_asker, ends, is_open, relay_at}
use Rattle.lg_probe.specs.Meaning.Relays.{relays_after}
use Rattle.lg_probe.specs.Meaning.Round.{RoundFact, Asked, Acked, Nacked, RoundValue, is_acked, is_first_ack, mark_of}
use Rattle.lg_probe.specs.Meaning.Round.{nack_counts, round_of, silent_in}
use Rattle.lg_probe.specs.Meaning.Order.{OrderFact, Joined, Left, Chose, Forgot}
use Rattle.lg_probe.specs.Meaning.Order.{EachInWindows, ever_joined, known_names, window}
use Rattle.lg_probe.specs.Meaning.Order.{picks, choices_after, choice_after, order_after}

abbrev a : List ℕ
a = 97 ∷ []

abbrev b : List ℕ
b = 98 ∷ []

abbrev c : List ℕ
c = 99 ∷ []

abbrev d : List ℕ
d = 100 ∷ []

abbrev e : List ℕ
e = 101 ∷ []

abbrev f : List ℕ
f = 102 ∷ []

two_names : picks (a ∷ b ∷ []) (0 ∷ 0 ∷ 1 ∷ 0 ∷ []) ≡ a ∷ b ∷ b ∷ a ∷ []
two_names = refl

three_names : picks (b ∷ c ∷ d ∷ []) (4 ∷ 0 ∷ 5 ∷ []) ≡ c ∷ b ∷ d ∷ []
three_names = refl

in_any_order : picks (d ∷ b ∷ c ∷ []) (4 ∷ 0 ∷ 5 ∷ []) ≡ c ∷ b ∷ d ∷ []
in_any_order = refl

one_name : picks (a ∷ []) (9 ∷ 9 ∷ []) ≡ a ∷ a ∷ []
one_name = refl

no_words : picks (a ∷ b ∷ []) [] ≡ []
no_words = refl

no_names : picks [] (0 ∷ 7 ∷ []) ≡ []
no_names = refl

-- of b and d the word 1 chooses d, and once c has joined, it chooses c
abbrev chose_c : List OrderFact
chose_c = Chose 1 ∷ Joined c ∷ Chose 1 ∷ Joined b ∷ Joined d ∷ []

chooses_c : choice_after (Joined c ∷ Chose 1 ∷ Joined b ∷ Joined d ∷ []) 1 ≡ Some c
chooses_c = refl

-- once a has joined, it is a candidate at once; then b is the last of the cycle, and c the first of the next
a_joins : choices_after (Joined a ∷ chose_c) (0 ∷ 7 ∷ 2 ∷ []) ≡ a ∷ b ∷ c ∷ []
a_joins = refl

begins_anew :
    order_after (Chose 2 ∷ Chose 7 ∷ Chose 0 ∷ Joined a ∷ chose_c)
    ≡ record { names = a ∷ b ∷ c ∷ d ∷ []; chosen = c ∷ [] }
begins_anew = refl

-- a cycle that is over stays until the next choice
stays_over :
    order_after (Chose 7 ∷ Chose 0 ∷ Joined a ∷ chose_c)
    ≡ record { names = a ∷ b ∷ c ∷ d ∷ []; chosen = a ∷ b ∷ c ∷ d ∷ [] }
stays_over = refl

-- a member that leaves and comes back within a cycle stays chosen in it
comes_back : choice_after (Joined d ∷ Left d ∷ chose_c) 1 ≡ Some b
comes_back = refl

-- one that is forgotten and comes back within a cycle is a candidate again
comes_back_anew : choice_after (Joined c ∷ Forgot c ∷ chose_c) 1 ≡ Some c
comes_back_anew = refl

known_less : known_names (order_after (Forgot c ∷ Left d ∷ chose_c)) ≡ b ∷ d ∷ []
known_less = refl

forgets_joining : ever_joined (Forgot c ∷ Left d ∷ Joined c ∷ Joined d ∷ []) ≡ d ∷ []
forgets_joining = refl

-- a member that has left is still one that ever joined, and counts once
ever :
    ever_joined (Joined b ∷ Left b ∷ Chose 1 ∷ Joined c ∷ Left d ∷ Joined b ∷ Joined d ∷ [])
    ≡ b ∷ c ∷ d ∷ []
ever = refl

nobody_joined : ever_joined (Left d ∷ Chose 1 ∷ []) ≡ []
nobody_joined = refl

-- b, c and d joined, c and d were chosen, and d has left
known : known_names record { names = b ∷ c ∷ []; chosen = c ∷ d ∷ [] } ≡ b ∷ c ∷ d ∷ []
known = refl

known_after : known_names (order_after (Left d ∷ chose_c)) ≡ b ∷ c ∷ d ∷ []
known_after = refl

window_of_none : window [] ≡ 0
window_of_none = refl

window_of_one : window (a ∷ []) ≡ 1
window_of_one = refl

window_of_three : window (b ∷ c ∷ d ∷ []) ≡ 5
window_of_three = refl

-- if there are no names, each of them is in every window
each_of_none : EachInWindows [] (0 ∷ 7 ∷ []) []
each_of_none name i named within = named

-- b isn't among the first three of the choices a, a, a and b, so not each name is in each window
without_b :
    EachInWindows (a ∷ b ∷ []) (0 ∷ 0 ∷ 0 ∷ 1 ∷ []) (a ∷ a ∷ a ∷ b ∷ [])
    → 3 ≤ 4 → false ≡ true
without_b each within = each b 0 refl within

-- three words 5 pick helpers: d of c, d, e and f, then f of c, e and f, and then e of c and e
three_helpers : picked 3 (5 ∷ 5 ∷ 5 ∷ 0 ∷ []) (c ∷ d ∷ e ∷ f ∷ []) ≡ d ∷ f ∷ e ∷ []
three_helpers = refl

too_few : picked 3 (5 ∷ 5 ∷ 5 ∷ 0 ∷ []) (c ∷ d ∷ []) ≡ d ∷ c ∷ []
too_few = refl

-- b probes a with the number 3, and c and d are asked
abbrev asks : List RoundFact
asks = Asked (c ∷ d ∷ []) ∷ []

abbrev mark_in : List RoundFact → ℤ
mark_in past = mark_of (is_acked 3 a past) (silent_in 3 past)

nobody_asked : mark_in [] ≡ pos 1
nobody_asked = refl

no_nack : mark_in asks ≡ pos 2
no_nack = refl

one_nack : mark_in (Nacked 3 c ∷ Nacked 3 c ∷ asks) ≡ pos 2
one_nack = refl

both_nacks : mark_in (Nacked 3 c ∷ Nacked 3 d ∷ asks) ≡ pos 1
both_nacks = refl

another_nack : mark_in (Nacked 3 e ∷ Nacked 2 d ∷ Nacked 3 c ∷ asks) ≡ pos 2
another_nack = refl

target_acks : mark_in (Acked 3 a ∷ []) ≡ pos 0
target_acks = refl

helper_acks : mark_in (Acked 3 d ∷ Nacked 3 c ∷ asks) ≡ pos 0
helper_acks = refl

-- no ack counts from a helper before it was asked, from another member, or with another number
acks_in_vain : mark_in (Acked 3 e ∷ Acked 2 a ∷ Asked (c ∷ d ∷ []) ∷ Acked 3 c ∷ []) ≡ pos 2
acks_in_vain = refl

-- the round once c and d are asked
abbrev asking : RoundValue
asking = record { number = 3; target = a; asked = c ∷ d ∷ []; silent = c ∷ d ∷ []; acked = false }

begun : round_of 3 a [] ≡ record { number = 3; target = a; asked = []; silent = []; acked = false }
begun = refl

both_asked : round_of 3 a asks ≡ asking
both_asked = refl

c_nacked : round_of 3 a (Acked 3 e ∷ Nacked 3 e ∷ Nacked 3 c ∷ asks) ≡ record asking { silent = d ∷ [] }
c_nacked = refl

d_acked : round_of 3 a (Acked 3 d ∷ Nacked 2 c ∷ asks) ≡ record asking { acked = true }
d_acked = refl

-- helpers that are asked later replace those asked before, and haven't sent a nack yet
asked_anew :
    round_of 3 a (Asked (d ∷ e ∷ []) ∷ Nacked 3 d ∷ asks)
    ≡ record asking { asked = d ∷ e ∷ []; silent = d ∷ e ∷ [] }
asked_anew = refl

first_of_target : is_first_ack asking 3 a ≡ true
first_of_target = refl

first_of_helper : is_first_ack asking 3 d ≡ true
first_of_helper = refl

first_of_another : is_first_ack asking 3 e ≡ false
first_of_another = refl

first_of_another_number : is_first_ack asking 4 a ≡ false
first_of_another_number = refl

second_ack : is_first_ack record asking { acked = true } 3 a ≡ false
second_ack = refl

nack_of_helper : nack_counts asking 3 c ≡ true
nack_of_helper = refl

nack_of_target : nack_counts asking 3 a ≡ false
nack_of_target = refl

nack_of_another_number : nack_counts asking 2 c ≡ false
nack_of_another_number = refl

second_nack : nack_counts record asking { silent = d ∷ [] } 3 c ≡ false
second_nack = refl

-- a asks for a probe of c, for its own probe numbered 9. The probe of the relay is numbered 4. And b asks for a probe
-- of d, for its own probe numbered 2. The probe of that relay is numbered 5.
abbrev at_port : ℕ → Addr
at_port port = record { ip = V4 (127 ∷ 0 ∷ 0 ∷ 1 ∷ []); port = port }

abbrev by_a : Asker
by_a = record { name = a; addr = at_port 7000; number = 9 }

abbrev by_b : Asker
by_b = record { name = b; addr = at_port 7001; number = 2 }

abbrev to_c : Relay
to_c = record { number = 4; target = c; asker = by_a }

abbrev to_d : Relay
to_d = record { number = 5; target = d; asker = by_b }

ends_one : ended_asker 4 c (relays_after (Opened to_d ∷ Opened to_c ∷ [])) ≡ Some by_a
ends_one = refl

another_sender : ended_asker 4 d (relays_after (Opened to_d ∷ Opened to_c ∷ [])) ≡ None
another_sender = refl

one_left : relays_after (TargetAcked 4 c ∷ TargetAcked 5 c ∷ Opened to_d ∷ Opened to_c ∷ []) ≡ to_d ∷ []
one_left = refl

-- the relay of c is opened, then that of d; the ack of c comes; the time of d's relay runs out
one_open : relays_after (Opened to_c ∷ []) ≡ to_c ∷ []
one_open = refl

both_open : relays_after (Opened to_d ∷ Opened to_c ∷ []) ≡ to_c ∷ to_d ∷ []
both_open = refl

first_acked : relays_after (TargetAcked 4 c ∷ Opened to_d ∷ Opened to_c ∷ []) ≡ to_d ∷ []
first_acked = refl

second_closed : relays_after (Closed 5 ∷ TargetAcked 4 c ∷ Opened to_d ∷ Opened to_c ∷ []) ≡ []
second_closed = refl

-- what came before the opening of a relay doesn't end it
opened_since : relays_after (Opened to_c ∷ TargetAcked 4 c ∷ Closed 4 ∷ Opened to_c ∷ []) ≡ to_c ∷ []
opened_since = refl

ended_by_ack : ends to_c (TargetAcked 4 c) ≡ true
ended_by_ack = refl

not_by_another : ends to_c (TargetAcked 4 d) ≡ false
not_by_another = refl

not_by_another_number : ends to_c (TargetAcked 5 c) ≡ false
not_by_another_number = refl

ended_by_closing : ends to_c (Closed 4) ≡ true
ended_by_closing = refl

not_by_another_closing : ends to_c (Closed 5) ≡ false
not_by_another_closing = refl

not_by_opening : ends to_c (Opened to_d) ≡ false
not_by_opening = refl

the_second : relay_at 5 (to_c ∷ to_d ∷ []) ≡ Some to_d
the_second = refl

no_sixth : relay_at 6 (to_c ∷ to_d ∷ []) ≡ None
no_sixth = refl

asker_of_first : asker_at 4 (to_c ∷ to_d ∷ []) ≡ Some by_a
asker_of_first = refl

asker_of_none : asker_at 9 (to_c ∷ to_d ∷ []) ≡ None
asker_of_none = refl

second_is_open : is_open 5 (to_c ∷ to_d ∷ []) ≡ true
second_is_open = refl

sixth_is_open : is_open 6 (to_c ∷ to_d ∷ []) ≡ false
sixth_is_open = refl
