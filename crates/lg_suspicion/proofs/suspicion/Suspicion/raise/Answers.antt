use Rattle.std.proofs.Common.{◌≡◌, List, [], ◌∷◌, ◌++◌, ℕ, ap, sym, subst, ◌∙◌, arith}
use Rattle.lg_rules.proofs.SlotLaws.{Slots}
use Rattle.lg_timing.specs.Meaning.Timeouts.{range_of}
use Rattle.lg_suspicion.specs.Meaning.Accusers.{SuspicionValue}
use Rattle.lg_suspicion.specs.Meaning.Parts.{SuspicionParts, accuser_count, suspicion_by, IsKnownTo}
use Rattle.lg_suspicion.proofs.AccuserLaws.{counted-one}
use Rattle.lg_suspicion.proofs.KnownAccusers.{accused_once, once-by, once-known, once-count}
use Rattle.lg_suspicion.proofs.suspicion.Suspicion.raise.Goals as goal
use Rattle.lg_suspicion.proofs.suspicion.Suspicion.raise.Goals.{After-new-2}

abbrev parts : (c : After-new-2) → SuspicionParts
parts c = record {
  raised = c.args.now;
  timeout = c.new.result;
  members = c.new-2.result;
  named = c.push.new.self.items;
}

-- what is kept is the first accuser
is_once : (c : After-new-2)
    → parts c ≡ accused_once c.args.now (range_of c.args.live c.args.config.now) c.args.accuser.now
is_once c =
    let named = c.push.ensures.items
    ∙ ap (λ (ns : List (List ℕ)). ns ++ c.args.accuser.now ∷ []) c.new-named.ensures in
    λ i. record { raised = c.args.now; timeout = c.new.ensures i; members = c.new-2.ensures i; named = named i }

pub invariant_of-result : goal.invariant_of-result
invariant_of-result c =
    let count : accuser_count (parts c) ≡ 1 = ap accuser_count (is_once c) ∙ omega (arith, once-count) in
    record { some = omega (arith, count); counted = omega (arith, count) }

is_raised : (c : After-new-2) (names : Slots)
    → suspicion_by names (parts c)
    ≡ record {
      raised = c.args.now;
      timeout = range_of c.args.live c.args.config.now;
      accusers = c.args.accuser.now ∷ [];
    }
is_raised c names =
    let timeout = range_of c.args.live c.args.config.now in
    let put : List (List ℕ) → SuspicionValue = λ ns. record { raised = c.args.now; timeout = timeout; accusers = ns } in
    ap (suspicion_by names) (is_once c) ∙ ap put (once-by names c.args.now timeout c.args.accuser.now)

pub returns-clause-raised : goal.returns-clause-raised
returns-clause-raised c = λ names. is_raised c names

pub returns-clause-first : goal.returns-clause-first
returns-clause-first c = λ names.
    let timeout = range_of c.args.live c.args.config.now in
    let put : List (List ℕ) → SuspicionValue = λ ns. record { raised = c.args.now; timeout = timeout; accusers = ns } in
    is_raised c names ∙ ap put (sym (counted-one timeout.confirmations c.args.accuser.now))

pub returns-clause-known : goal.returns-clause-known
returns-clause-known c = λ names.
    subst (IsKnownTo names) (sym (is_once c))
    (once-known names c.args.now (range_of c.args.live c.args.config.now) c.args.accuser.now)
