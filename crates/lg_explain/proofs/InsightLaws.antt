-- What the definitions say of an event, by what is known before and after it.
use Rattle.std.proofs.Common.{◌≡◌, Bool, true, false, List, [], ◌∷◌, ◌++◌, ℕ, Option, Some, None, refl, sym, ap, ◌∙◌}
use Rattle.std.specs.Prelude.{if◌then◌else◌}
use Rattle.lg_rules.specs.declared.claim.Claim.{Claim}
use Rattle.lg_detector.specs.Meaning.Step.{is_accepted, view_after}
use Rattle.lg_detector.specs.Support.Step.{state_after}
use Rattle.lg_detector.specs.declared.event.Event.{Event}
use Rattle.lg_notes.specs.declared.insights.Insight.{Insight}
use Rattle.lg_replay.specs.Meaning.Lives.{past_with}
use Rattle.lg_replay.specs.Support.Known.{HoldsPast}
use Rattle.lg_replay.specs.declared.known.Known.{Known}
use Rattle.lg_explain.specs.Meaning.Tellings.{insight_after, insights_at}

both : {A : Type 0} (b : Bool) → b ≡ true → b ≡ false → A
both b was isnt = let two : true ≡ false = sym was ∙ isnt in absurd cc

abbrev nothing : Option (Insight × Insight × List Claim)
nothing = None

abbrev triple : Insight → Insight → List Claim → Option (Insight × Insight × List Claim)
triple before after table = Some (before, after, table)

pub no_insights : (new : Known) (name : List ℕ) (past : Option (List Event)) (e : Event) → new.is_known ≡ false → HoldsPast new (past_with past e)
    → nothing ≡ insights_at name past e
unfolding insights_at
no_insights new name None e isnt holds = refl
no_insights new name (Some f) e isnt holds = by_accepted (is_accepted (f ++ e ∷ [])) holds
  where
    by_accepted : (b : Bool) → HoldsPast new (if b then Some (f ++ e ∷ []) else None)
        → nothing ≡ (if b then triple (insight_after name f) (insight_after name (f ++ e ∷ [])) (view_after (f ++ e ∷ [])) else nothing)
    by_accepted true now = both new.is_known now.known isnt
    by_accepted false now = refl

pub some_insights : (old new : Known) (name : List ℕ) (past : Option (List Event)) (e : Event) (before after : Insight) (table : List Claim) → new.is_known ≡ true
    → HoldsPast old past → HoldsPast new (past_with past e)
    → ((f : List Event) → old.detector ≡ state_after f → before ≡ insight_after name f)
    → ((f : List Event) → new.detector ≡ state_after f → after ≡ insight_after name f)
    → ((f : List Event) → new.detector ≡ state_after f → table ≡ view_after f)
    → triple before after table ≡ insights_at name past e
unfolding insights_at
some_insights old new name None e before after table does was now b a t = both new.is_known does now
some_insights old new name (Some f) e before after table does was now b a t = by_accepted (is_accepted (f ++ e ∷ [])) now
  where
    by_accepted : (y : Bool) → HoldsPast new (if y then Some (f ++ e ∷ []) else None)
        → triple before after table ≡ (if y then triple (insight_after name f) (insight_after name (f ++ e ∷ [])) (view_after (f ++ e ∷ [])) else nothing)
    by_accepted true now =
        let eb = b f was.detector in
        let ea = a (f ++ e ∷ []) now.detector in
        let et = t (f ++ e ∷ []) now.detector in
        ap (λ (i : Insight). triple i after table) eb ∙ ap (λ (i : Insight). triple (insight_after name f) i table) ea
        ∙ ap (λ (rows : List Claim). triple (insight_after name f) (insight_after name (f ++ e ∷ [])) rows) et
    by_accepted false now = both new.is_known does now
