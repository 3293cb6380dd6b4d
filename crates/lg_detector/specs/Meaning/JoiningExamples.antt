-- Worked Pulls and Pages of b.
use Rattle.std.specs.Prelude.{◌≡◌, false, List, [], ◌∷◌, ◌++◌, Some, None, refl}
use Rattle.lg_rules.specs.declared.claim.Claim.{Claim}
use Rattle.lg_rules.specs.declared.version.Version.TheVariants.{One, Three}
use Rattle.lg_packet.specs.declared.packet.Body.TheVariants.{Pull, Page}
use Rattle.lg_detector.specs.declared.event.Event.TheVariants.{Pull as Pulls}
use Rattle.lg_detector.specs.Meaning.Joining.{last_of_full}
use Rattle.lg_detector.specs.Meaning.Step.{is_accepted, reply_after}
use Rattle.lg_detector.specs.Meaning.Log.{event_count}
use Rattle.lg_detector.specs.Meaning.Examples.{by_computing, a, b, c, d, at, alive, suspect, opening, says, nothing}
use Rattle.lg_detector.specs.Meaning.Examples.{sent}
use Rattle.lg_detector.specs.Meaning.Examples.{log_after, suspects_c}

-- b asks the member at port 7002 for its table, and sends its own record with that. This is one more event.
it_asks_a_peer :
    reply_after (opening 0 ∷ []) (Pulls 5 (at 7002))
    ≡ record (nothing 0) { sends = record { items = sent 7002 (Pull None) (alive b 0 ∷ []) } }
unfolding by_computing
it_asks_a_peer = refl

it_is_an_event : event_count (log_after (opening 0 ∷ Pulls 5 (at 7002) ∷ [])) ≡ 2
unfolding by_computing
it_is_an_event = refl

it_cannot_come_first : is_accepted (Pulls 5 (at 7002) ∷ []) ≡ false
it_cannot_come_first = refl

-- A Pull is answered by the records after its name, this member's among them, once its own claims were applied.
a_pull_is_answered :
    (reply_after suspects_c (says 2000 (Pull None) [])).sends.items
    ≡ sent 1 Page (alive a 0 ∷ alive b 0 ∷ suspect c 0 d ∷ [])
unfolding by_computing
a_pull_is_answered = refl

a_pull_behind_a_name :
    (reply_after suspects_c (says 2000 (Pull (Some (a ∷ []))) (alive d 0 ∷ []))).sends.items
    ≡ sent 1 Page (alive b 0 ∷ suspect c 0 d ∷ alive d 0 ∷ [])
unfolding by_computing
a_pull_behind_a_name = refl

-- A Page of six claims is answered by a Pull for what comes after the last one, and a Page of five by nothing.
abbrev five : List Claim
five = alive 99 0 ∷ alive 100 0 ∷ alive 101 0 ∷ alive 102 0 ∷ alive 103 0 ∷ []

abbrev six : List Claim
six = alive 104 0 ∷ five

the_sixth : last_of_full One six ≡ Some (alive 103 0)
the_sixth = refl

no_sixth : last_of_full One five ≡ None
no_sixth = refl

-- A Page of version 3 is full with twelve claims.
six_of_three : last_of_full Three six ≡ None
six_of_three = refl

twelve_of_three : last_of_full Three (six ++ six) ≡ Some (alive 103 0)
twelve_of_three = refl

a_full_page_goes_on :
    (reply_after (opening 0 ∷ []) (says 10 Page six)).sends.items
    ≡ sent 1 (Pull (Some (103 ∷ []))) (alive b 0 ∷ [])
unfolding by_computing
a_full_page_goes_on = refl

a_last_page_ends_it : (reply_after (opening 0 ∷ []) (says 10 Page five)).sends.items ≡ []
unfolding by_computing
a_last_page_ends_it = refl
