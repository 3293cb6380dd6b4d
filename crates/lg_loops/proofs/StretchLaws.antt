-- The ticking loop as it runs: whether its turns so far were timely, its plan and its agenda after them, and its dice.
use Rattle.std.proofs.Common.{◌≡◌, ℕ, ◌+◌, Bool, true, false, List, [], ◌∷◌, ◌++◌, refl, ap, sym, ◌∙◌, subst, append_assoc, append-nil}
use Rattle.std.specs.Prelude.{Some, None}
use Rattle.std.specs.List.{flat_map}
use Rattle.lg_agent.specs.Meaning.Values.{PassValue}
use Rattle.lg_loops.specs.declared.agenda.Agenda.{Agenda}
use Rattle.lg_turns.specs.declared.ending.Why.{Why}
use Rattle.lg_turns.specs.declared.ending.Why.TheVariants.{Stopped, ReadBound}
use Rattle.lg_turns.specs.declared.plan.Plan.{Plan}
use Rattle.lg_loops.specs.declared.stretch.Stretch.{Stretch}
use Rattle.lg_loops.specs.declared.turned.Turned.{Turned}
use Rattle.lg_turns.specs.Meaning.Turns.{Turn, LinkValue, Threw, is_of_ticking, words_in}
use Rattle.lg_turns.specs.Meaning.Leaving.{next_plan, plan_after}
use Rattle.lg_turns.specs.Meaning.Pulling.{AreTimely, IsTimely, Ticking}
use Rattle.lg_loops.specs.Support.Acted.{Acted, IsAgenda}
use Rattle.lg_loops.proofs.LeavingLaws.{plan_more, has_left, at_no_turn}
use Rattle.lg_loops.proofs.TurnLaws.{none_yet, on, over, of_turn, stopped, bounded, threw_more}
use Rattle.lg_loops.proofs.LastingLaws.{no_stretch, stretch_more, lasted}
use Rattle.lg_loops.proofs.UnderwayLaws.{Underway, underway_none, underway_on, underway_over, underway_stopped, underway_bounded, underway_anew}
use Rattle.lg_loops.proofs.PullingLaws.{timely_join}

-- All turns so far were timely. The plan and the agenda are those after them, and their words are those that the dice gave.
pub record Kept {D : Type 0} (throws : D → List ℕ → D → Type 0) (dice rest : D) (plan cur : Plan) (since : ℕ) (turns : List Turn) (a : Agenda) : Type 0 where
  pub timely : AreTimely plan since [] turns
  pub current : cur ≡ plan_after plan turns
  pub noted : IsAgenda cur since turns a
  pub threw : Threw throws dice (flat_map words_in turns) rest

kept_more : {D : Type 0} (throws : D → List ℕ → D → Type 0) (dice d e : D) (plan cur next : Plan) (tells : Bool) (since : ℕ) (turns : List Turn) (k l : LinkValue) (p q : PassValue) (a b : Agenda) (turned : Turned)
    → Kept throws dice d plan cur since turns a → (acted : Acted cur next tells k l p q a b turned) → Threw throws d (words_in acted.took.turn) e
    → Kept throws dice e plan next since (turns ++ acted.took.turn ∷ []) b
kept_more throws dice d e plan cur next tells since turns k l p q a b turned was acted threw =
    let t = acted.took.turn in
    record {
      timely = timely_join plan since [] turns (t ∷ []) was.timely (subst (λ (c : Plan). IsTimely c since turns t) was.current (acted.timely since turns was.noted), tt);
      current = sym acted.plans ∙ (ap (λ (c : Plan). next_plan c t) was.current ∙ sym (plan_more plan turns t));
      noted = acted.noted since turns was.noted;
      threw = threw_more throws dice d e turns t was.threw threw;
    }

-- the same, where the turns before are those of two lists
kept_on : {D : Type 0} (throws : D → List ℕ → D → Type 0) (dice d e : D) (plan cur next : Plan) (tells : Bool) (since : ℕ) (before turns : List Turn) (k l : LinkValue) (p q : PassValue) (a b : Agenda) (turned : Turned)
    → Kept throws dice d plan cur since (before ++ turns) a → (acted : Acted cur next tells k l p q a b turned) → Threw throws d (words_in acted.took.turn) e
    → Kept throws dice e plan next since (before ++ (turns ++ acted.took.turn ∷ [])) b
kept_on throws dice d e plan cur next tells since before turns k l p q a b turned was acted threw =
    subst (λ (ts : List Turn). Kept throws dice e plan next since ts b) (append_assoc before turns (acted.took.turn ∷ [])) (kept_more throws dice d e plan cur next tells since (before ++ turns) k l p q a b turned was acted threw)

-- The ticking loop as it runs. All its turns are those of its earlier stretches, and those of the current one.
pub record TicksOn
    {D : Type 0} (throws : D → List ℕ → D → Type 0) (dice rest : D) (plan cur : Plan) (tells : Bool) (bound : ℕ) (endless : Bool) (k k' : LinkValue) (p q : PassValue) (a : Agenda) (s : Stretch)
    : Type 0 where
  pub underway : Underway is_of_ticking tells bound endless k k' p q s
  pub since : ℕ
  pub kept : Kept throws dice rest plan cur since (underway.before.earlier ++ underway.current.turns) a

pub ticks_none : {D : Type 0} (throws : D → List ℕ → D → Type 0) (dice : D) (plan : Plan) (tells : Bool) (bound : ℕ) (endless : Bool) (k : LinkValue) (p : PassValue) (a : Agenda) (since : ℕ)
    → IsAgenda plan since [] a → TicksOn throws dice dice plan plan tells bound endless k k p p a (record { dropped = 0; unsent = 0; turns = 0 })
unfolding underway_none no_stretch none_yet
ticks_none throws dice plan tells bound endless k p a since is = record {
  underway = underway_none is_of_ticking tells bound endless k p;
  since = since;
  kept = record { timely = tt; current = refl; noted = is; threw = refl };
}

pub ticks_on : {D : Type 0} (throws : D → List ℕ → D → Type 0) (dice d e : D) (plan cur next : Plan) (tells : Bool) (bound : ℕ) (endless : Bool) (k l m : LinkValue) (p o q : PassValue) (a b : Agenda) (s : Stretch) (turned : Turned)
    → TicksOn throws dice d plan cur tells bound endless k l p o a s → (acted : Acted cur next tells l m o q a b turned) → Threw throws d (words_in acted.took.turn) e → turned.why ≡ None
    → TicksOn throws dice e plan next tells bound endless k m p q b (record { dropped = s.dropped + turned.dropped; unsent = s.unsent + turned.unsent; turns = s.turns + 1 })
unfolding underway_on on
ticks_on throws dice d e plan cur next tells bound endless k l m p o q a b s turned was acted threw none = record {
  underway = underway_on is_of_ticking tells bound endless k l m p o q s turned was.underway acted.took none;
  since = was.since;
  kept = kept_on throws dice d e plan cur next tells was.since was.underway.before.earlier was.underway.current.turns l m o q a b turned was.kept acted threw;
}

pub ticks_over : {D : Type 0} (throws : D → List ℕ → D → Type 0) (dice d e : D) (plan cur next : Plan) (tells : Bool) (bound : ℕ) (endless : Bool) (k l m : LinkValue) (p o q : PassValue) (a b : Agenda) (s : Stretch) (turned : Turned)
    (why : Why)
    → TicksOn throws dice d plan cur tells bound endless k l p o a s → (acted : Acted cur next tells l m o q a b turned) → Threw throws d (words_in acted.took.turn) e → turned.why ≡ Some why
    → Ticking throws dice plan tells bound endless k m p q (record { why = why; dropped = s.dropped + turned.dropped; unsent = s.unsent + turned.unsent; turns = s.turns + 1 })
unfolding underway_over lasted over
ticks_over throws dice d e plan cur next tells bound endless k l m p o q a b s turned why was acted threw some =
    let turns : List Turn = was.underway.before.earlier ++ (was.underway.current.turns ++ acted.took.turn ∷ []) in
    let kept : Kept throws dice e plan next was.since turns b = kept_on throws dice d e plan cur next tells was.since was.underway.before.earlier was.underway.current.turns l m o q a b turned was.kept acted threw in
    record {
      lasted = underway_over is_of_ticking tells bound endless k l m p o q s turned why was.underway acted.took some;
      since = was.since;
      timely = kept.timely;
      rest = e;
      threw = kept.threw;
      left = at_no_turn plan why turns (of_turn acted.took.turn why (acted.took.why ∙ some));
    }

-- it is stopped, and doesn't leave any more, or never does
pub ticks_stopped : {D : Type 0} (throws : D → List ℕ → D → Type 0) (dice d : D) (plan cur : Plan) (tells : Bool) (bound : ℕ) (endless : Bool) (k l : LinkValue) (p q : PassValue) (a : Agenda) (s : Stretch)
    → cur.leaves ≡ false → TicksOn throws dice d plan cur tells bound endless k l p q a s → Ticking throws dice plan tells bound endless k l p q (record { why = Stopped; dropped = s.dropped; unsent = s.unsent; turns = s.turns })
unfolding underway_stopped lasted stopped
ticks_stopped throws dice d plan cur tells bound endless k l p q a s stays was = record {
  lasted = underway_stopped is_of_ticking tells bound endless k l p q s was.underway;
  since = was.since;
  timely = was.kept.timely;
  rest = d;
  threw = was.kept.threw;
  left = has_left plan (was.underway.before.earlier ++ was.underway.current.turns) (ap (λ (c : Plan). c.leaves) (sym was.kept.current) ∙ stays);
}

pub ticks_bounded : {D : Type 0} (throws : D → List ℕ → D → Type 0) (dice d : D) (plan cur : Plan) (tells : Bool) (bound : ℕ) (endless : Bool) (k l : LinkValue) (p q : PassValue) (a : Agenda) (s : Stretch)
    → s.turns ≡ bound → endless ≡ false → TicksOn throws dice d plan cur tells bound endless k l p q a s
    → Ticking throws dice plan tells bound endless k l p q (record { why = ReadBound; dropped = s.dropped; unsent = s.unsent; turns = s.turns })
unfolding underway_bounded lasted bounded
ticks_bounded throws dice d plan cur tells bound endless k l p q a s all never was = record {
  lasted = underway_bounded is_of_ticking tells bound endless k l p q s all never was.underway;
  since = was.since;
  timely = was.kept.timely;
  rest = d;
  threw = was.kept.threw;
  left = tt;
}

pub ticks_anew : {D : Type 0} (throws : D → List ℕ → D → Type 0) (dice d : D) (plan cur : Plan) (tells : Bool) (bound : ℕ) (endless : Bool) (k l : LinkValue) (p q : PassValue) (a : Agenda) (s : Stretch)
    → s.turns ≡ bound → endless ≡ true → TicksOn throws dice d plan cur tells bound endless k l p q a s
    → TicksOn throws dice d plan cur tells bound endless k l p q a (record { dropped = 0; unsent = 0; turns = 0 })
unfolding underway_anew stretch_more bounded none_yet
ticks_anew throws dice d plan cur tells bound endless k l p q a s all always was = record {
  underway = underway_anew is_of_ticking tells bound endless k l p q s all always was.underway;
  since = was.since;
  kept = subst (λ (ts : List Turn). Kept throws dice d plan cur was.since ts a) (sym (append-nil (was.underway.before.earlier ++ was.underway.current.turns))) was.kept;
}
