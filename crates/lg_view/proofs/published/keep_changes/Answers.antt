use Rattle.std.proofs.Common.{◌≡◌, ℕ, List, [], ◌∷◌, ◌++◌, map, true, false, subst, sym, ap, ◌∙◌, append_assoc}
use Rattle.std.specs.Prelude.{filter}
use Rattle.lg_changes.specs.declared.change.Change.{Change}
use Rattle.lg_changes.specs.Meaning.Changes.{recorded_at, forgotten_at}
use Rattle.lg_changes.specs.Meaning.Kept.{KeepsNewest}
use Rattle.lg_detector.specs.Meaning.Step.{is_open_event}
use Rattle.lg_detector.specs.declared.reply.Reply.{Reply}
use Rattle.lg_view.specs.Meaning.Changes.{is_unknown_after}
use Rattle.lg_view.proofs.ChangeLaws.{changes_opening, changes_told, forgotten-are, not_open}
use Rattle.lg_view.proofs.published.keep_changes.Goals as goal

pub returns-in-Open : goal.returns-in-Open
returns-in-Open c f all after reply long kept =
    let e = c.args.event.now in
    let opens : is_open_event e ≡ true = ap is_open_event c.in-Open.is in
    let version : ℕ = c.args.version in
    let moment : ℕ = c.moment-moment.result in
    let names = filter (is_unknown_after (f ++ e ∷ [])) c.deref.result.now in
    let table = c.deref-in-Open.result.now in
    let named = forgotten-are f e c.deref.result.now (c.deref.ensures.0 ∙ ap (λ (r : Reply). r.forgotten.items) reply) in
    let are = changes_opening f e version moment names table opens long
    (c.moment-moment.ensures.list (f ++ e ∷ []) after) named (c.deref-in-Open.ensures.0 ∙ c.put_table.ensures.list (f ++ e ∷ []) after) in
    let forgotten : List Change = map (forgotten_at version moment) names in
    let unknown =
    subst (λ (m : ℕ). KeepsNewest c.keep_unknown.new.changes (all ++ map (forgotten_at version m) names))
    (sym (c.moment-moment.ensures.list (f ++ e ∷ []) after)) (c.keep_unknown.ensures (f ++ e ∷ []) all after kept) in
    let records : List Change = map (recorded_at version moment) table in
    subst (λ (l : List Change). KeepsNewest c.keep_changed.new.self l)
    (append_assoc all forgotten records ∙ ap (λ (l : List Change). all ++ l) are)
    (c.keep_changed.ensures (all ++ forgotten) unknown)

pub returns-in_default : goal.returns-in_default
returns-in_default c f all after reply long kept =
    let e = c.args.event.now in
    let opens : is_open_event e ≡ false = not_open e c.in_default.not-Open in
    let version : ℕ = c.args.version in
    let moment : ℕ = c.moment-moment.result in
    let names = filter (is_unknown_after (f ++ e ∷ [])) c.deref.result.now in
    let rows = c.deref-in_default.result.now in
    let named = forgotten-are f e c.deref.result.now (c.deref.ensures.0 ∙ ap (λ (r : Reply). r.forgotten.items) reply) in
    let told = c.deref-in_default.ensures.0 ∙ ap (λ (r : Reply). r.changed.items) reply in
    let are = changes_told f e version moment names rows opens long
    (c.moment-moment.ensures.list (f ++ e ∷ []) after) named told in
    let forgotten : List Change = map (forgotten_at version moment) names in
    let unknown =
    subst (λ (m : ℕ). KeepsNewest c.keep_unknown.new.changes (all ++ map (forgotten_at version m) names))
    (sym (c.moment-moment.ensures.list (f ++ e ∷ []) after)) (c.keep_unknown.ensures (f ++ e ∷ []) all after kept) in
    let records : List Change = map (recorded_at version moment) rows in
    subst (λ (l : List Change). KeepsNewest c.keep_changed-in_default.new.self l)
    (append_assoc all forgotten records ∙ ap (λ (l : List Change). all ++ l) are)
    (c.keep_changed-in_default.ensures (all ++ forgotten) unknown)
