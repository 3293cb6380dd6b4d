-- Worked ends of b, which knows c, and leaves its group if it writes its packets in version 3. Its interval is a
-- second.
use Rattle.std.specs.Prelude.{◌≡◌, ◌<◌, ℕ, List, [], ◌∷◌, true, false, Some, None, refl}
use Rattle.std.proofs.Common.{lit≤, lit<, inl}
use Rattle.std.proofs.lemmas.List.Elements.{All-nil, All-cons}
use Rattle.lg_timing.specs.declared.config.Config.{Config}
use Rattle.lg_timing.specs.Meaning.Config.{defaults}
use Rattle.lg_packet.specs.Meaning.Spelling.{spelling}
use Rattle.lg_detector.specs.declared.event.Event.{Event}
use Rattle.lg_detector.specs.declared.event.Event.TheVariants as events
use Rattle.lg_detector.specs.Meaning.Step.{reply_after}
use Rattle.lg_detector.specs.Meaning.Examples.{by_computing, b, c, at}
use Rattle.lg_agent.specs.declared.receipt.Receipt.{Receipt}
use Rattle.lg_agent.specs.declared.refusal.Refusal.TheVariants.{NoMemory}
use Rattle.lg_agent.specs.Meaning.Values.{PassValue}
use Rattle.lg_turns.specs.declared.ending.Why.TheVariants.{Stopped, Ousted, Refused, ReadBound}
use Rattle.lg_turns.specs.declared.plan.Plan.{Plan}
use Rattle.lg_turns.specs.Meaning.Links.LinkEvent.{Handed}
use Rattle.lg_turns.specs.Meaning.Turns.{Turn, IsTurn, deeds, losses, stops, words_in}
use Rattle.lg_turns.specs.Meaning.Turns.Turn.{Paused, Departed, Undeparted}
use Rattle.lg_turns.specs.Meaning.Leaving.{leaves_at, lingering, plan_after, HasLeftIf, Stays}
use Rattle.lg_turns.specs.Meaning.Pulling.{plan_of, AreTimely}

abbrev config_in : ℕ → Config
config_in wire =
    record (defaults (b ∷ []) (at 7000)) {
      wire = wire;
      gossip_ms = 0;
      seeds = record { items = record { name = c ∷ []; addr = at 7003 } ∷ [] };
    }

abbrev opened : Event
opened = events.Open 0 (config_in 3)

abbrev words : List ℕ
words = 0 ∷ 1 ∷ 2 ∷ 3 ∷ 4 ∷ 5 ∷ 6 ∷ 7 ∷ []

abbrev leave : Event
leave = events.Leave 20 words

abbrev receipt : Receipt
receipt = record { place = 1; reply = reply_after (opened ∷ []) leave }

abbrev pass : List Event → List ℕ → PassValue
pass seen mine = record { name = b ∷ []; seat = 2; seen = seen; gone = 0; mine = mine }

-- b leaves at 20, though its first round is due by then, and tells c.
abbrev left : Turn
left = Departed 20 words receipt (true ∷ [])

it_is_a_turn : IsTurn (pass (opened ∷ []) []) left (pass (opened ∷ leave ∷ []) (1 ∷ []))
unfolding by_computing
it_is_a_turn = (
  record {
    answered = record {
      before = opened ∷ [];
      begins = ([], refl);
      ends = refl;
      accepted = refl;
      place = refl;
      reply = refl;
    };
    moved = 0;
    few = lit≤ tt;
    gone = refl;
    mine = refl;
    later = All-nil (λ k. k < 1);
    seat = refl;
    name = refl;
  },
  refl,
)

-- One Gossip of version 3 is handed over, for c: b, at 127.0.0.1:7000, has left at the incarnation 0.
abbrev gossip_bytes : List ℕ
gossip_bytes =
    0x53 ∷ 0x4c ∷ 3 ∷ 7 ∷ 0 ∷ 1 ∷ 98 ∷ 1 ∷ 4 ∷ 1 ∷ 98 ∷ 4 ∷ 127 ∷ 0 ∷ 0 ∷ 1 ∷ 0x1b ∷ 0x58 ∷ 0 ∷ 0 ∷ 0 ∷ 0 ∷ []

it_tells_c : deeds left ≡ Handed (at 7003) gossip_bytes true ∷ []
unfolding by_computing spelling
it_tells_c = refl

-- if that packet isn't sent, it is counted as any other
one_is_lost : losses (Departed 20 words receipt (false ∷ [])) ≡ 1
one_is_lost = refl

it_throws_the_dice : words_in left ≡ words ∷ []
it_throws_the_dice = refl

-- A leave ends no loop, since the loop is told to stop anyway, and not even if the reply says that b was ousted. A call
-- that is refused does.
it_ends_nothing : stops left ≡ None
it_ends_nothing = refl

even_if_it_was_ousted :
    stops (Departed 20 words (record receipt { reply = record receipt.reply { ousted = true } }) []) ≡ None
even_if_it_was_ousted = refl

a_refusal_does : stops (Undeparted 20 words NoMemory) ≡ Some (Refused NoMemory)
a_refusal_does = refl

-- AT WHICH ENDS IT LEAVES
abbrev plan_in : ℕ → Plan
plan_in wire = plan_of (config_in wire) (at 7003 ∷ []) false 0 10000

if_it_is_stopped : leaves_at (plan_in 3) Stopped ≡ true
if_it_is_stopped = refl

not_if_it_was_ousted : leaves_at (plan_in 3) Ousted ≡ false
not_if_it_was_ousted = refl

not_by_the_bound : leaves_at (plan_in 3) ReadBound ≡ false
not_by_the_bound = refl

not_in_version_two : leaves_at (plan_in 2) Stopped ≡ false
not_in_version_two = refl

not_in_version_one : leaves_at (plan_in 1) Stopped ≡ false
not_in_version_one = refl

-- It pauses, leaves, and pauses again.
it_has_left : HasLeftIf true (Paused 0 ∷ left ∷ Paused 21 ∷ [])
it_has_left = record {
  before = Paused 0 ∷ [];
  leave = left;
  after = Paused 21 ∷ [];
  are = refl;
  stayed = All-cons Stays (Paused 0) [] refl (All-nil Stays);
  left = refl;
}

-- a turn in which the call for it was refused is none in which it left
it_stayed : Stays (Undeparted 20 words NoMemory)
it_stayed = refl

-- Its plan has to say that it leaves. Behind the leave it pauses until one interval is over, and looks for nobody.
it_lingers : AreTimely (plan_in 3) 0 [] (left ∷ Paused 21 ∷ Paused 1019 ∷ [])
it_lingers = (
  refl,
  (
    (lit< tt, record { none_waits = refl; no_look = inl refl; no_asking = inl refl }),
    ((lit< tt, record { none_waits = refl; no_look = inl refl; no_asking = inl refl }), tt),
  ),
)

-- it lingers until then, and doesn't leave again
its_plan : plan_after (plan_in 3) (Paused 0 ∷ left ∷ Paused 21 ∷ []) ≡ lingering (plan_in 3) 20
its_plan = refl

its_end : (lingering (plan_in 3) 20).until ≡ 1020
its_end = refl

it_leaves_once : (lingering (plan_in 3) 20).leaves ≡ false
it_leaves_once = refl
