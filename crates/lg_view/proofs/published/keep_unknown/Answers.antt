use Rattle.std.proofs.Common.{◌≡◌, ◌+◌, ◌∷◌, ◌++◌, ℕ, List, [], map, take, Bool, ap, sym, subst, ◌∙◌}
use Rattle.std.specs.Prelude.{filter, is_none}
use Rattle.std.proofs.lemmas.List.{take_all, take_more}
use Rattle.lg_changes.specs.declared.change.Change.{Change as Changed}
use Rattle.lg_changes.specs.Meaning.Changes.{forgotten_at}
use Rattle.lg_changes.specs.Meaning.Kept.{KeepsNewest}
use Rattle.lg_detector.specs.Meaning.Step.{moment_after}
use Rattle.lg_view.specs.Meaning.Changes.{is_unknown_after}
use Rattle.lg_view.proofs.ChangeLaws.{passed_more, passed_same, missing_is}
use Rattle.lg_view.proofs.published.keep_unknown.Goals as goal
use Rattle.lg_view.proofs.published.keep_unknown.Goals.{then-is_none, else-is_none}

pub loop-name-preserved : goal.loop-name-preserved
loop-name-preserved c f all at kept =
    let names : List (List ℕ) = c.args.names.now in
    let i : ℕ = c.loop-name.name-index in
    let n : List ℕ = c.name-item.result in
    let p : List ℕ → Bool = is_unknown_after f in
    let makes = forgotten_at c.args.version (moment_after f) in
    let far : List Changed = all ++ map makes (filter p (take i names)) in
    let before : KeepsNewest c.loop-name.changes far = c.loop-name.invariant f all at kept in
    let asked : is_none c.record_of.result ≡ c.is_none.result = missing_is c.record_of.result c.is_none.result c.is_none.ensures in
    let test : p n ≡ c.is_none.result = ap is_none (sym (c.record_of.ensures.list f at)) ∙ asked in
    let more : take i names ++ n ∷ [] ≡ take (i + 1) names =
    sym (take_more names i n c.loop-name-test.true ∙ ap (λ (x : List ℕ). take i names ++ x ∷ []) (sym c.name-item.is)) in
    elim c.if-is_none.branch [
      | then-is_none w ↦ (
          let told = ap (λ m. far ++ forgotten_at c.args.version m n ∷ []) (c.moment-moment.ensures.list f at)
          ∙ passed_more all makes p (take i names) n (test ∙ w.if-is_none.true)
          ∙ ap (λ (l : List (List ℕ)). all ++ map makes (filter p l)) more in
          subst (λ ring. KeepsNewest ring (all ++ map makes (filter p (take (i + 1) names)))) (sym w.changes-is)
          (subst (λ (l : List Changed). KeepsNewest w.keep_forgotten.new.self l) told (w.keep_forgotten.ensures far before)))
      | else-is_none w ↦ (
          let same = ap (λ (l : List (List ℕ)). all ++ map makes l) (sym (passed_same p (take i names) n (test ∙ w.if-is_none.false)))
          ∙ ap (λ (l : List (List ℕ)). all ++ map makes (filter p l)) more in
          subst (λ ring. KeepsNewest ring (all ++ map makes (filter p (take (i + 1) names)))) (sym w.changes-is)
          (subst (λ (l : List Changed). KeepsNewest c.loop-name.changes l) same before))
    ]

pub returns : goal.returns
returns c f all at kept =
    subst
    (λ (l : List (List ℕ)). KeepsNewest c.loop-name.changes (all ++ map (forgotten_at c.args.version (moment_after f)) (filter (is_unknown_after f) l)))
    (take_all c.loop-name.name-index c.args.names.now c.loop-name-test.false)
    (c.loop-name.invariant f all at kept)
