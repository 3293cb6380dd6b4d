use Rattle.std.proofs.Common.{◌≡◌, ◌+◌, ◌≤◌, List, All, vec_len, true}
use Rattle.lg_detector.specs.declared.event.Event.{Event}
use Rattle.std.specs.Vec.{vec_capacity}
use Rattle.lg_view.specs.Meaning.Views.{begins_open}
use Rattle.lg_agent.specs.Meaning.Calls.{AreFresh}
use Rattle.lg_agent.proofs.agent.hand_out.Given as goal

abbrev pub invariant-loop-look : goal.invariant-loop-look
invariant-loop-look g l = record {
  ready : All (λ k. begins_open k ≡ true) l.looks.items;
  fresh : AreFresh l.fn.name 0 l.passes.items;
  seen : (f : List Event) → All (λ k. k ≡ f) l.fn.looks.items → All (λ k. k ≡ f) l.looks.items × All (λ p. p.seen ≡ f) l.passes.items;
  room : vec_len l.looks + vec_len l.passes ≤ vec_capacity l.passes;
  count : vec_len l.looks + vec_len l.passes ≡ vec_len l.fn.looks;
}

abbrev pub decreases-loop-look : goal.decreases-loop-look
decreases-loop-look g l = vec_len l.looks
