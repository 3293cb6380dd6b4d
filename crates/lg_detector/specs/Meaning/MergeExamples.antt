-- Worked tables, heard by b, which merges them gently if it sends version 3.
use Rattle.std.specs.Prelude.{◌≡◌, ℕ, List, [], ◌∷◌, map, Some, None, refl}
use Rattle.lg_rules.specs.declared.claim.Claim.{Claim}
use Rattle.lg_rules.specs.declared.claim.Status.{Status}
use Rattle.lg_rules.specs.declared.claim.Status.TheVariants.{Suspect, Failed, Left}
use Rattle.lg_rules.specs.declared.version.Version.{Version}
use Rattle.lg_rules.specs.declared.version.Version.TheVariants.{One, Two, Three}
use Rattle.lg_timing.specs.Meaning.Config.{defaults}
use Rattle.lg_packet.specs.declared.packet.Body.TheVariants.{Page, Gossip}
use Rattle.lg_detector.specs.declared.event.Event.{Event}
use Rattle.lg_detector.specs.declared.event.Event.TheVariants.{Open, Heard, Health}
use Rattle.lg_detector.specs.declared.reply.Answer.TheVariants.{Health as OfHealth}
use Rattle.lg_detector.specs.Meaning.Apply.{merged}
use Rattle.lg_detector.specs.Meaning.Step.{reply_after}
use Rattle.lg_detector.specs.Meaning.Examples.{by_computing, a, b, c, e, at, on, alive, failed, suspect, says_in}

-- WHICH CLAIMS ONLY ACCUSE
-- b knows that c is suspected at 3 and that e failed at 0, and a tells it a table.
abbrev rows_of_b : List Claim
rows_of_b = alive b 0 ∷ suspect c 3 b ∷ failed e 0 ∷ []

abbrev merged_from : ℕ → Claim → Claim
merged_from teller said = merged (b ∷ []) rows_of_b (Some (teller ∷ [])) said

of_one_that_is_not_gone : merged_from a (failed c 4) ≡ suspect c 4 a
of_one_that_is_not_gone = refl

of_one_that_is_gone : merged_from a (failed e 1) ≡ failed e 1
of_one_that_is_gone = refl

of_an_unknown_one : merged_from c (failed a 0) ≡ failed a 0
of_an_unknown_one = refl

of_oneself : merged_from a (failed b 0) ≡ failed b 0
of_oneself = refl

of_the_one_who_tells : merged_from c (failed c 4) ≡ failed c 4
of_the_one_who_tells = refl

that_it_left : merged_from a (on c Left 4) ≡ on c Left 4
that_it_left = refl

in_no_table : merged (b ∷ []) rows_of_b None (failed c 4) ≡ failed c 4
in_no_table = refl

-- WHAT CHANGES
-- b is opened with a `wire`, and knows c from the start.
abbrev with_seed_c : ℕ → Event
with_seed_c wire =
    Open 0
    (record (defaults (b ∷ []) (at 7000)) {
      wire = wire;
      seeds = record { items = record { name = c ∷ []; addr = at 7000 } ∷ [] };
    })

-- a table, in some version
abbrev tells_in : Version → ℕ → List Claim → Event
tells_in version sender claims =
    Heard 1 (at 1)
    (record {
      version = version;
      group = None;
      sender = sender ∷ [];
      body = Page;
      claims = record { items = claims };
    })

-- the records that a table changes, in each version
abbrev changed_in_each : List Event → ℕ → List Claim → List (List Claim)
changed_in_each past sender claims =
    map (λ v. (reply_after past (tells_in v sender claims)).changed.items) (One ∷ Two ∷ Three ∷ [])

abbrev thrice : List Claim → List (List Claim)
thrice claims = claims ∷ claims ∷ claims ∷ []

-- claims that c is at another port
abbrev elsewhere : Status → ℕ → Claim
elsewhere status i = record { name = c ∷ []; addr = at 8; status = status; incarnation = i }

abbrev knows_c : List Event
knows_c = with_seed_c 3 ∷ says_in Three 0 Gossip (alive c 3 ∷ []) ∷ []

an_older_failure : changed_in_each knows_c a (elsewhere Failed 2 ∷ []) ≡ thrice []
unfolding by_computing
an_older_failure = refl

a_failure : changed_in_each knows_c a (elsewhere Failed 3 ∷ []) ≡ thrice (elsewhere (Suspect (a ∷ [])) 3 ∷ [])
unfolding by_computing
a_failure = refl

abbrev suspects_c : List Event
suspects_c = with_seed_c 3 ∷ says_in Three 0 Gossip (alive c 3 ∷ []) ∷ tells_in One a (elsewhere Failed 3 ∷ []) ∷ []

the_same_again : changed_in_each suspects_c a (elsewhere Failed 3 ∷ []) ≡ thrice []
unfolding by_computing
the_same_again = refl

a_newer_failure : changed_in_each suspects_c a (elsewhere Failed 4 ∷ []) ≡ thrice (elsewhere (Suspect (a ∷ [])) 4 ∷ [])
unfolding by_computing
a_newer_failure = refl

-- In a Gossip it is taken as it is,
abbrev failure_in_gossip : Event
failure_in_gossip = says_in Three 1 Gossip (failed c 4 ∷ [])

in_a_gossip : (reply_after knows_c failure_in_gossip).changed.items ≡ failed c 4 ∷ []
unfolding by_computing
in_a_gossip = refl

-- and then c is gone.
abbrev failed_at_four : List Event
failed_at_four = with_seed_c 3 ∷ says_in Three 0 Gossip (alive c 3 ∷ []) ∷ failure_in_gossip ∷ []

gone_already : changed_in_each failed_at_four a (failed c 5 ∷ []) ≡ thrice (failed c 5 ∷ [])
unfolding by_computing
gone_already = refl

-- Each claim of a table is judged behind those before it.
judged_in_order :
    changed_in_each failed_at_four a (alive c 6 ∷ failed c 6 ∷ failed c 7 ∷ []) ≡ thrice (suspect c 7 a ∷ [])
unfolding by_computing
judged_in_order = refl

-- Of the one who tells the table, of an unknown name and of oneself it is taken as it is, and so is a leave.
of_its_sender : changed_in_each knows_c c (failed c 7 ∷ []) ≡ thrice (failed c 7 ∷ [])
unfolding by_computing
of_its_sender = refl

of_an_unknown_name : changed_in_each knows_c a (failed e 0 ∷ []) ≡ thrice (failed e 0 ∷ [])
unfolding by_computing
of_an_unknown_name = refl

of_b_itself : changed_in_each knows_c a (failed b 0 ∷ []) ≡ thrice (alive b 1 ∷ [])
unfolding by_computing
of_b_itself = refl

and_no_mark :
    (reply_after (with_seed_c 3 ∷ tells_in Three a (failed b 0 ∷ []) ∷ []) (Health 1)).answer ≡ Some (OfHealth 0 1 2)
unfolding by_computing
and_no_mark = refl

a_leave : changed_in_each knows_c a (on c Left 3 ∷ []) ≡ thrice (on c Left 3 ∷ [])
unfolding by_computing
a_leave = refl

-- A member that sends version 2 takes tables as they are.
with_wire_two : changed_in_each (with_seed_c 2 ∷ []) a (failed c 0 ∷ []) ≡ thrice (failed c 0 ∷ [])
unfolding by_computing
with_wire_two = refl
