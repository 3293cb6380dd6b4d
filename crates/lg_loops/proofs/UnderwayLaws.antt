-- A loop as it runs: the stretches that it made, and the turns of the current one so far.
use Rattle.std.proofs.Common.{◌≡◌, ℕ, ◌+◌, Bool, true, false, refl, ◌∙◌}
use Rattle.std.specs.Prelude.{Some, None}
use Rattle.lg_agent.specs.Meaning.Values.{PassValue}
use Rattle.lg_turns.specs.declared.ending.Why.{Why}
use Rattle.lg_turns.specs.declared.ending.Why.TheVariants.{Stopped, ReadBound}
use Rattle.lg_loops.specs.declared.stretch.Stretch.{Stretch}
use Rattle.lg_loops.specs.declared.turned.Turned.{Turned}
use Rattle.lg_turns.specs.Meaning.Turns.{Turn, LinkValue, Lasted}
use Rattle.lg_loops.specs.Support.Took.{Took}
use Rattle.lg_loops.proofs.TurnLaws.{Going, none_yet, on, over, stopped, bounded, not_bound}
use Rattle.lg_loops.proofs.LastingLaws.{Lasting, no_stretch, stretch_more, lasted, true_not_false}

-- The current stretch began with this link and this pass.
pub record Underway (kind : Turn → Bool) (tells : Bool) (bound : ℕ) (endless : Bool) (a c : LinkValue) (p q : PassValue) (s : Stretch) : Type 0 where
  pub line_then : LinkValue
  pub pass_then : PassValue
  pub before : Lasting kind tells bound endless a line_then p pass_then
  pub current : Going kind tells line_then c pass_then q s.dropped s.unsent s.turns

unfoldable pub underway_none : (kind : Turn → Bool) (tells : Bool) (bound : ℕ) (endless : Bool) (a : LinkValue) (p : PassValue)
    → Underway kind tells bound endless a a p p (record { dropped = 0; unsent = 0; turns = 0 })
underway_none kind tells bound endless a p = record { line_then = a; pass_then = p; before = no_stretch kind tells bound endless a p; current = none_yet kind tells a p }

-- a turn more, which doesn't end the loop
unfoldable pub underway_on : (kind : Turn → Bool) (tells : Bool) (bound : ℕ) (endless : Bool) (a b c : LinkValue) (p m q : PassValue) (s : Stretch) (turned : Turned)
    → Underway kind tells bound endless a b p m s → Took kind tells b c m q turned → turned.why ≡ None
    → Underway kind tells bound endless a c p q (record { dropped = s.dropped + turned.dropped; unsent = s.unsent + turned.unsent; turns = s.turns + 1 })
underway_on kind tells bound endless a b c p m q s turned was took none = record {
  line_then = was.line_then;
  pass_then = was.pass_then;
  before = was.before;
  current = on kind tells was.line_then b c was.pass_then m q s.dropped s.unsent s.turns turned was.current took none;
}

-- a turn more, which ends it
unfoldable pub underway_over : (kind : Turn → Bool) (tells : Bool) (bound : ℕ) (endless : Bool) (a b c : LinkValue) (p m q : PassValue) (s : Stretch) (turned : Turned) (why : Why)
    → Underway kind tells bound endless a b p m s → Took kind tells b c m q turned → turned.why ≡ Some why
    → Lasted kind tells bound endless a c p q (record { why = why; dropped = s.dropped + turned.dropped; unsent = s.unsent + turned.unsent; turns = s.turns + 1 })
underway_over kind tells bound endless a b c p m q s turned why was took some =
    lasted kind tells bound endless a was.line_then c p was.pass_then q _ was.before (over kind tells bound was.line_then b c was.pass_then m q s.dropped s.unsent s.turns turned why was.current took some)
    (λ always is. not_bound took.turn why (took.why ∙ some) is)

-- it is stopped
unfoldable pub underway_stopped : (kind : Turn → Bool) (tells : Bool) (bound : ℕ) (endless : Bool) (a c : LinkValue) (p q : PassValue) (s : Stretch) → Underway kind tells bound endless a c p q s
    → Lasted kind tells bound endless a c p q (record { why = Stopped; dropped = s.dropped; unsent = s.unsent; turns = s.turns })
underway_stopped kind tells bound endless a c p q s was =
    lasted kind tells bound endless a was.line_then c p was.pass_then q _ was.before (stopped kind tells bound was.line_then c was.pass_then q s.dropped s.unsent s.turns was.current) (λ always is. absurd cc)

-- it made as many turns as it may, and ends
unfoldable pub underway_bounded : (kind : Turn → Bool) (tells : Bool) (bound : ℕ) (endless : Bool) (a c : LinkValue) (p q : PassValue) (s : Stretch) → s.turns ≡ bound → endless ≡ false
    → Underway kind tells bound endless a c p q s
    → Lasted kind tells bound endless a c p q (record { why = ReadBound; dropped = s.dropped; unsent = s.unsent; turns = s.turns })
underway_bounded kind tells bound endless a c p q s all never was =
    lasted kind tells bound endless a was.line_then c p was.pass_then q _ was.before (bounded kind tells bound was.line_then c was.pass_then q s.dropped s.unsent s.turns all was.current)
    (λ always is. true_not_false endless always never)

-- it made as many turns as it may, and counts them anew
unfoldable pub underway_anew : (kind : Turn → Bool) (tells : Bool) (bound : ℕ) (endless : Bool) (a c : LinkValue) (p q : PassValue) (s : Stretch) → s.turns ≡ bound → endless ≡ true
    → Underway kind tells bound endless a c p q s → Underway kind tells bound endless a c p q (record { dropped = 0; unsent = 0; turns = 0 })
underway_anew kind tells bound endless a c p q s all always was = record {
  line_then = c;
  pass_then = q;
  before = stretch_more kind tells bound endless a was.line_then c p was.pass_then q _ was.before (bounded kind tells bound was.line_then c was.pass_then q s.dropped s.unsent s.turns all was.current) refl always;
  current = none_yet kind tells c q;
}
