-- Worked turns of b, which has the seeds c and d and an interval of 100 ms, asks in turn every 300 ms, and begins at 0.
use Rattle.std.specs.Prelude.{◌≡◌, List, [], ◌∷◌, ◌++◌, drop, true, false, refl}
use Rattle.std.proofs.Common.{lit≤, lit<, inr}
use Rattle.lg_rules.specs.declared.claim.Claim.{Claim}
use Rattle.lg_detector.specs.Meaning.Examples.{a, b, c, d, at, alive, failed, suspect, nothing, seeded}
use Rattle.lg_agent.specs.declared.receipt.Receipt.{Receipt}
use Rattle.lg_turns.specs.declared.plan.Plan.{Plan}
use Rattle.lg_turns.specs.Meaning.Turns.{Turn}
use Rattle.lg_turns.specs.Meaning.Turns.Turn.{Paused, Looked, Unlooked, AskedSeed, AskedInTurn, FoundNobody, Unfound}
use Rattle.lg_turns.specs.Meaning.Pulling.{others_of, is_alone, next_look, askings_after, next_asking, waiting_after}
use Rattle.lg_turns.specs.Meaning.Pulling.{is_seeds_turn, seed_turns, IsChosen, IsSeedInTurn, AreTimely}

abbrev pub plan : Plan
plan = record {
  name = b ∷ [];
  own = at 7002;
  fixed = record { items = at 7000 ∷ at 7001 ∷ [] };
  seeds = record { items = at 7000 ∷ at 7001 ∷ [] };
  learns = false;
  interval_ms = 100;
  pull_ms = 300;
  until = 10000;
  leaves = false;
}

-- one that has failed is another too
abbrev three : List Claim
three = alive a 0 ∷ failed c 2 ∷ alive d 0 ∷ []

others : others_of (b ∷ []) (alive a 0 ∷ alive b 0 ∷ failed c 2 ∷ alive d 0 ∷ []) ≡ three
others = refl

-- 7 divided by 3 leaves 1: of three the second is asked, though it has failed
the_second : IsChosen (7 ∷ 1 ∷ 2 ∷ 3 ∷ 4 ∷ 5 ∷ 6 ∷ 7 ∷ []) three (at 7000)
the_second = record { chosen = failed c 2; rest = alive d 0 ∷ []; is = refl; there = refl }

-- b is alone if the others have failed, or if there are none. One that is suspected is company.
alone : is_alone (b ∷ []) (alive b 0 ∷ failed c 2 ∷ []) ≡ true
alone = refl

alone_at_first : is_alone (b ∷ []) (alive b 0 ∷ []) ≡ true
alone_at_first = refl

not_alone : is_alone (b ∷ []) (alive b 0 ∷ suspect c 0 a ∷ []) ≡ false
not_alone = refl

-- The first look is due after a second, and the next a second after it, also if it was refused.
the_first_look : next_look 0 (Paused 20 ∷ []) ≡ 1000
the_first_look = refl

the_next_look : next_look 0 (Looked 1003 (seeded ∷ []) true ∷ Paused 1020 ∷ Unlooked 2007 ∷ []) ≡ 3007
the_next_look = refl

abbrev pub receipt : Receipt
receipt = record { place = 1; reply = nothing 0 }

-- A look says that the seeds are to be asked. When one was, the other waits.
one_waits :
    waiting_after plan (Looked 1000 (seeded ∷ []) true ∷ AskedSeed 1001 (at 7000) receipt [] ∷ []) ≡ at 7001 ∷ []
one_waits = refl

none_waits : waiting_after plan (Looked 1000 (seeded ∷ []) false ∷ []) ≡ []
none_waits = refl

-- After so long it is time to ask for the first time, and then after twice as long, until it is 300 ms.
the_first_asking : next_asking plan (askings_after 0 (Paused 20 ∷ [])) ≡ 100
the_first_asking = refl

the_second_asking : next_asking plan (askings_after 0 (AskedInTurn 101 (at 7000) receipt [] ∷ Paused 120 ∷ [])) ≡ 301
the_second_asking = refl

abbrev two_turns : List Turn
two_turns = AskedInTurn 100 (at 7000) receipt [] ∷ FoundNobody 302 (seeded ∷ []) ∷ Paused 320 ∷ []

the_third_asking : next_asking plan (askings_after 0 two_turns) ≡ 602
the_third_asking = refl

the_fourth_asking : next_asking plan (askings_after 0 (two_turns ++ Unfound 700 ∷ [])) ≡ 1000
the_fourth_asking = refl

-- a look that says that the seeds are to be asked begins it anew
anew : next_asking plan (askings_after 0 (two_turns ++ Looked 1000 (seeded ∷ []) true ∷ [])) ≡ 1100
anew = refl

but_not_one_that_does_not : next_asking plan (askings_after 0 (two_turns ++ Looked 1000 (seeded ∷ []) false ∷ [])) ≡ 602
but_not_one_that_does_not = refl

-- At first it is the turn of c, then that of a member, and then that of d.
c_first : IsSeedInTurn plan (askings_after 0 []) (at 7000)
c_first = record { is_seeds = refl; rest = at 7001 ∷ []; is = refl }

then_a_member : is_seeds_turn (drop 1 (askings_after 0 (AskedInTurn 100 (at 7000) receipt [] ∷ []))) ≡ false
then_a_member = refl

then_d : IsSeedInTurn plan (askings_after 0 two_turns) (at 7001)
then_d = record { is_seeds = refl; rest = []; is = refl }

-- behind d comes c again
c_again : seed_turns (5 ∷ 4 ∷ 3 ∷ 2 ∷ []) ≡ 2
c_again = refl

-- b pauses until 100, asks c, pauses, and knows nobody at 300
they_are_timely :
    AreTimely plan 0 [] (Paused 0 ∷ AskedInTurn 100 (at 7000) receipt [] ∷ Paused 299 ∷ Unfound 300 ∷ [])
they_are_timely = (
  (lit< tt, record { none_waits = refl; no_look = inr (lit< tt); no_asking = inr (lit< tt) }),
  (
    record {
      early = lit< tt;
      time = record { none_waits = refl; no_look = inr (lit< tt); some = lit< tt; come = lit≤ tt };
      seed = record { is_seeds = refl; rest = at 7001 ∷ []; is = refl };
    },
    (
      (lit< tt, record { none_waits = refl; no_look = inr (lit< tt); no_asking = inr (lit< tt) }),
      (
        record {
          early = lit< tt;
          time = record { none_waits = refl; no_look = inr (lit< tt); some = lit< tt; come = lit≤ tt };
          members = inr refl;
        },
        tt,
      ),
    ),
  ),
)
