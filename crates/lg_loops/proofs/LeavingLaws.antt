-- Whether this member has left in some turns, and its plan after them.
use Rattle.std.proofs.Common.{◌≡◌, ℕ, Bool, true, false, List, [], ◌∷◌, ◌++◌, refl, ap, ◌∙◌}
use Rattle.std.proofs.Math.Nat.{zero-min}
use Rattle.std.proofs.lemmas.List.Elements.{All-nil, All-cons}
use Rattle.lg_rules.specs.declared.addr.Addr.{Addr}
use Rattle.lg_turns.specs.declared.ending.Why.{Why}
use Rattle.lg_turns.specs.declared.ending.Why.TheVariants.{Stopped, Ousted, LinkFailed, Refused, ReadBound}
use Rattle.lg_turns.specs.declared.plan.Plan.{Plan}
use Rattle.lg_turns.specs.Meaning.Turns.{Turn}
use Rattle.lg_turns.specs.Meaning.Turns.Turn.{Quiet, Broken, Dropped, Heard, Unheard, Paused, Ticked, Unticked, Unseen, AskedSeed, UnaskedSeed, AskedInTurn, UnaskedInTurn, Looked, Unlooked, AskedMember, UnaskedMember, FoundNobody, Unfound, Learned, Departed, Undeparted, Pulled}
use Rattle.lg_turns.specs.Meaning.Leaving.{departs, next_plan, plan_after, HasLeft, HasLeftIf, leaves_at, Stays}
use Rattle.lg_turns.specs.Meaning.Pulling.{waiting, waiting_from, asking_distance}
use Rattle.lg_loops.proofs.TurnLaws.{is_of_turn}

pub plan_more : (plan : Plan) (turns : List Turn) (t : Turn) → plan_after plan (turns ++ t ∷ []) ≡ next_plan (plan_after plan turns) t
plan_more plan [] t = refl
plan_more plan (u ∷ turns) t = plan_more (next_plan plan u) turns t

-- a turn in which it doesn't leave doesn't change whether it leaves
same_leaves : (plan : Plan) (t : Turn) → departs t ≡ false → (next_plan plan t).leaves ≡ plan.leaves
same_leaves plan (Quiet limit) is = refl
same_leaves plan Broken is = refl
same_leaves plan (Dropped source bytes) is = refl
same_leaves plan (Heard now source bytes k r sent) is = refl
same_leaves plan (Unheard now source bytes e) is = refl
same_leaves plan (Paused now) is = refl
same_leaves plan (Ticked now words r sent) is = refl
same_leaves plan (Unticked now words e) is = refl
same_leaves plan (Unseen e) is = refl
same_leaves plan (AskedSeed now peer r sent) is = refl
same_leaves plan (UnaskedSeed now peer e) is = refl
same_leaves plan (AskedInTurn now peer r sent) is = refl
same_leaves plan (UnaskedInTurn now peer e) is = refl
same_leaves plan (Looked now seen asks) is = refl
same_leaves plan (Unlooked now) is = refl
same_leaves plan (AskedMember now words seen peer r sent) is = refl
same_leaves plan (UnaskedMember now words seen peer e) is = refl
same_leaves plan (FoundNobody now seen) is = refl
same_leaves plan (Unfound now) is = refl
same_leaves plan (Learned now found) is = refl
same_leaves plan (Departed now words r sent) is = absurd cc
same_leaves plan (Undeparted now words e) is = refl
same_leaves plan (Pulled now peer r sent) is = refl

-- it left in the first turn, or in one behind it
left_now : (t : Turn) (turns : List Turn) (b : Bool) → departs t ≡ b → (b ≡ false → HasLeft turns) → HasLeft (t ∷ turns)
left_now t turns true is behind = record { before = []; leave = t; after = turns; are = refl; stayed = All-nil Stays; left = is }
left_now t turns false is behind =
    let later = behind refl in
    record { before = t ∷ later.before; leave = later.leave; after = later.after; are = ap (λ (l : List Turn). t ∷ l) later.are; stayed = All-cons Stays t later.before is later.stayed; left = later.left }

-- if its plan said that it leaves, and says so no more, it has left
left_so : (plan : Plan) (turns : List Turn) → plan.leaves ≡ true → (plan_after plan turns).leaves ≡ false → HasLeft turns
left_so plan [] may not = absurd cc
left_so plan (t ∷ turns) may not = left_now t turns (departs t) refl (λ is. left_so (next_plan plan t) turns (same_leaves plan t is ∙ may) not)

left_if : (plan : Plan) (turns : List Turn) (b : Bool) → plan.leaves ≡ b → (plan_after plan turns).leaves ≡ false → HasLeftIf b turns
left_if plan turns true may not = left_so plan turns may not
left_if plan turns false may not = tt

pub has_left : (plan : Plan) (turns : List Turn) → (plan_after plan turns).leaves ≡ false → HasLeftIf plan.leaves turns
has_left plan turns not = left_if plan turns plan.leaves refl not

-- nothing is said of an end that a turn brings
pub at_no_turn : (plan : Plan) (why : Why) (turns : List Turn) → is_of_turn why ≡ true → HasLeftIf (leaves_at plan why) turns
at_no_turn plan Stopped turns is = absurd cc
at_no_turn plan Ousted turns is = tt
at_no_turn plan LinkFailed turns is = tt
at_no_turn plan (Refused e) turns is = tt
at_no_turn plan ReadBound turns is = absurd cc

-- where there are no seeds, none ever waits
none_waits_by : (t : Turn) → waiting [] [] t ≡ []
none_waits_by (Quiet limit) = refl
none_waits_by Broken = refl
none_waits_by (Dropped source bytes) = refl
none_waits_by (Heard now source bytes k r sent) = refl
none_waits_by (Unheard now source bytes e) = refl
none_waits_by (Paused now) = refl
none_waits_by (Ticked now words r sent) = refl
none_waits_by (Unticked now words e) = refl
none_waits_by (Unseen e) = refl
none_waits_by (AskedSeed now peer r sent) = refl
none_waits_by (UnaskedSeed now peer e) = refl
none_waits_by (AskedInTurn now peer r sent) = refl
none_waits_by (UnaskedInTurn now peer e) = refl
none_waits_by (Looked now seen true) = refl
none_waits_by (Looked now seen false) = refl
none_waits_by (Unlooked now) = refl
none_waits_by (AskedMember now words seen peer r sent) = refl
none_waits_by (UnaskedMember now words seen peer e) = refl
none_waits_by (FoundNobody now seen) = refl
none_waits_by (Unfound now) = refl
none_waits_by (Learned now found) = refl
none_waits_by (Departed now words r sent) = refl
none_waits_by (Undeparted now words e) = refl
none_waits_by (Pulled now peer r sent) = refl

pub none_ever : (turns : List Turn) → waiting_from [] [] turns ≡ []
none_ever [] = refl
none_ever (t ∷ turns) = ap (λ (l : List Addr). waiting_from [] l turns) (none_waits_by t) ∙ none_ever turns

pub no_distance : (interval : ℕ) (moments : List ℕ) → asking_distance interval 0 moments ≡ 0
no_distance interval [] = zero-min interval
no_distance interval (m ∷ moments) = zero-min _
