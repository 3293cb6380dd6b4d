-- Worked turns of b, at the port 7002, which has the seed c at 7000 and a host. It has an interval of 100 ms, asks in
-- turn every 300 ms, and begins at 0.
use Rattle.std.specs.Prelude.{◌≡◌, List, [], ◌∷◌, true, false, refl}
use Rattle.std.proofs.Common.{lit≤, lit<}
use Rattle.lg_rules.specs.declared.addr.Addr.{Addr}
use Rattle.lg_detector.specs.Meaning.Examples.{at}
use Rattle.lg_detector.specs.Meaning.Examples.{seeded}
use Rattle.lg_turns.specs.declared.plan.Plan.{Plan}
use Rattle.lg_turns.specs.Meaning.Turns.Turn.{Paused, Looked, AskedInTurn, Learned}
use Rattle.lg_turns.specs.Meaning.Leaving.{lingering, plan_after}
use Rattle.lg_turns.specs.Meaning.Pulling.{askings_after, next_asking, next_look, waiting_after, AreTimely}
use Rattle.lg_turns.specs.Meaning.Pulling.{IsSeedInTurn}
use Rattle.lg_turns.specs.Meaning.PullingExamples.{plan, receipt}

abbrev with_host : Plan
with_host =
    record plan {
      fixed = record { items = at 7000 ∷ [] };
      seeds = record { items = at 7000 ∷ [] };
      learns = true;
    }

-- The host's name has three addresses, the second of which is that of b itself.
abbrev found : List Addr
found = at 7003 ∷ at 7002 ∷ at 7001 ∷ []

-- so b asks c and the two others
three_seeds : (plan_after with_host (Paused 20 ∷ Learned 40 found ∷ [])).seeds.items ≡ at 7000 ∷ at 7003 ∷ at 7001 ∷ []
three_seeds = refl

-- what was learned later stands in the place of what was learned before
later : (plan_after with_host (Learned 40 found ∷ Learned 90 (at 7004 ∷ []) ∷ [])).seeds.items ≡ at 7000 ∷ at 7004 ∷ []
later = refl

-- if the name has no address any more, c alone is asked
none_left : (plan_after with_host (Learned 40 found ∷ Learned 90 [] ∷ [])).seeds.items ≡ at 7000 ∷ []
none_left = refl

-- There is a look at once, not only a second after the beginning, and a second after it the next.
a_look_at_once : next_look 0 (Paused 20 ∷ Learned 40 found ∷ []) ≡ 40
a_look_at_once = refl

and_a_second_later : next_look 0 (Learned 40 found ∷ Looked 41 (seeded ∷ []) true ∷ []) ≡ 1041
and_a_second_later = refl

-- Until that look nobody waits to be asked, and by it all of the present seeds do.
abbrev after : Plan
after = plan_after with_host (Learned 40 found ∷ [])

none_waits : waiting_after after (Learned 40 found ∷ []) ≡ []
none_waits = refl

all_wait :
    waiting_after after (Learned 40 found ∷ Looked 41 (seeded ∷ []) true ∷ []) ≡ at 7000 ∷ at 7003 ∷ at 7001 ∷ []
all_wait = refl

-- asking in turn begins anew, an interval later, with the first seed
anew : next_asking after (askings_after 0 (AskedInTurn 100 (at 7000) receipt [] ∷ Learned 140 found ∷ [])) ≡ 240
anew = refl

the_first_again :
    IsSeedInTurn after (askings_after 0 (AskedInTurn 100 (at 7000) receipt [] ∷ Learned 140 found ∷ [])) (at 7000)
the_first_again = record { is_seeds = refl; rest = at 7003 ∷ at 7001 ∷ []; is = refl }

-- b learns at 40 and looks at 41, which is timely
they_are_timely : AreTimely with_host 0 [] (Learned 40 found ∷ Looked 41 (seeded ∷ []) true ∷ [])
they_are_timely = (
  (lit< tt, refl),
  ((lit< tt, record { none_waits = refl; some = lit< tt; come = lit≤ tt }, λ alone. refl), tt),
)

-- one that has left learns nothing any more
learns_no_more : (lingering with_host 40).learns ≡ false
learns_no_more = refl
