use Rattle.std.proofs.Common.{◌≡◌, true, false, [], ◌∷◌, ◌++◌, set, get_or, ap, sym, subst, ◌∙◌}
use Rattle.lg_rules.specs.Meaning.Slots.{freed}
use Rattle.lg_suspicion.specs.Meaning.Parts.{SuspicionParts, suspicion_by, IsKnownTo}
use Rattle.lg_suspicion.proofs.KnownAccusers.{suspicion-left, known-left, suspicion-moved, known-moved}
use Rattle.lg_suspicion.proofs.suspicion.Suspicion.forget_slot.Goals as goal
use Rattle.lg_suspicion.proofs.suspicion.Suspicion.forget_slot.Goals.{Then-not-contains, After-push}

-- the slot isn't among the accusers
clear : (c : Then-not-contains) → get_or c.args.self.now.members c.args.slot false ≡ false
clear c =
    sym (ap (λ (p : SuspicionParts). get_or p.members c.args.slot false) c.self.view_is)
    ∙ ap (λ n. get_or c.self.inside.members n false) (sym c.number.ensures)
    ∙ sym c.contains.ensures.flag
    ∙ c.if-not-contains.true

pub returns-then-not-contains-clause-known : goal.returns-then-not-contains-clause-known
returns-then-not-contains-clause-known c = λ names has known.
    known-left names c.args.self.now c.args.name.now c.args.slot has known (clear c)

pub returns-then-not-contains-clause-same : goal.returns-then-not-contains-clause-same
returns-then-not-contains-clause-same c = λ names has known.
    suspicion-left names c.args.self.now c.args.name.now c.args.slot has known (clear c)

-- it is: its accusation is kept by the name
there : (c : After-push) → get_or c.args.self.now.members c.args.slot false ≡ true
there c =
    sym (ap (λ (p : SuspicionParts). get_or p.members c.args.slot false) c.self.view_is)
    ∙ ap (λ n. get_or c.self.inside.members n false) (sym c.number.ensures)
    ∙ sym c.contains.ensures.flag
    ∙ c.if-not-contains.false

is_moved : (c : After-push)
    → ◌≡◌ {A = SuspicionParts} record {
      raised = c.self.inside.raised;
      timeout = c.self.inside.timeout;
      members = c.remove.new.self;
      named = c.push.new.self.items;
    } record {
      raised = c.args.self.now.raised;
      timeout = c.args.self.now.timeout;
      members = set c.args.self.now.members c.args.slot false;
      named = c.args.self.now.named ++ c.args.name.now ∷ [];
    }
is_moved c =
    let members = c.remove.ensures.flags ∙ ap (λ n. set c.self.inside.members n false) c.number-2.ensures
    ∙ ap (λ (p : SuspicionParts). set p.members c.args.slot false) c.self.view_is in
    let named = c.push.ensures.items ∙ ap (λ (p : SuspicionParts). p.named ++ c.args.name.now ∷ []) c.self.view_is in
    λ i. record {
      raised = (c.self.view_is i).raised;
      timeout = (c.self.view_is i).timeout;
      members = members i;
      named = named i;
    }

pub returns-clause-known : goal.returns-clause-known
returns-clause-known c = λ names has known.
    let n = c.args.name.now in
    subst (IsKnownTo (freed n names)) (sym (is_moved c))
    (known-moved names c.args.self.now n c.args.slot has known (there c))

pub returns-clause-same : goal.returns-clause-same
returns-clause-same c = λ names has known.
    let n = c.args.name.now in
    ap (suspicion_by (freed n names)) (is_moved c)
    ∙ suspicion-moved names c.args.self.now n c.args.slot has known (there c)
