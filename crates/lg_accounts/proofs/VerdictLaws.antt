-- The first and the last verdict of some steps or entries, with one more behind them.
use Rattle.std.proofs.Common.{◌≡◌, ℕ, ◌+◌, ◌<◌, List, [], ◌∷◌, ◌++◌, Option, Some, None, length, take, drop, map, get_or, refl, sym, ap, ◌∙◌, append-nil}
use Rattle.std.specs.List.{cons_option, filter_map, last_or}
use Rattle.std.specs.Option.{option_or}
use Rattle.std.proofs.lemmas.List.{drop_more, map-append, take-append-drop, take_more}
use Rattle.std.proofs.lemmas.List.Concat.{flat_map-append}
use Rattle.std.proofs.lemmas.List.Elements.{filter_map-append}
use Rattle.lg_accounts.specs.declared.account.Note.{Note}
use Rattle.lg_accounts.specs.declared.step.NoteStep.{NoteStep}
use Rattle.lg_accounts.specs.declared.verdict.MemberVerdict.{MemberVerdict}
use Rattle.lg_accounts.specs.Meaning.Values.{NoteValue, note_value}
use Rattle.lg_accounts.specs.Meaning.Verdicts.{first_verdict, note_verdicts, verdict_of_step, verdicts}

last_or-append : (o : Option MemberVerdict) (xs ys : List MemberVerdict) → last_or o (xs ++ ys) ≡ last_or (last_or o xs) ys
last_or-append o [] ys = refl
last_or-append o (x ∷ xs) ys = last_or-append (Some x) xs ys

last_or-one : (o p : Option MemberVerdict) (xs : List MemberVerdict) → last_or o (xs ++ cons_option p []) ≡ option_or p (last_or o xs)
last_or-one o None xs = ap (λ (all : List MemberVerdict). last_or o all) (append-nil xs)
last_or-one o (Some p) xs = last_or-append o xs (p ∷ [])

-- the verdicts of one step more
steps_more : (note : NoteValue) (steps : List NoteStep) (i : ℕ) (step : NoteStep) → i < length steps → step ≡ get_or steps i step
    → filter_map (verdict_of_step note) (take (i + 1) steps)
    ≡ filter_map (verdict_of_step note) (take i steps) ++ cons_option (verdict_of_step note step) []
steps_more note steps i step within is =
    ap (λ (some : List NoteStep). filter_map (verdict_of_step note) some) (take_more steps i step within)
    ∙ filter_map-append (verdict_of_step note) (take i steps) (get_or steps i step ∷ [])
    ∙ ap (λ (it : NoteStep). filter_map (verdict_of_step note) (take i steps) ++ cons_option (verdict_of_step note it) []) (sym is)

-- the last verdict, with one step more
pub last_with_step : (note : NoteValue) (steps items : List NoteStep) (i : ℕ) (step : NoteStep) (earlier last found : Option MemberVerdict)
    → items ≡ steps → i < length items → step ≡ get_or items i step → found ≡ verdict_of_step note step
    → last ≡ last_or earlier (filter_map (verdict_of_step note) (take i steps))
    → option_or found last ≡ last_or earlier (filter_map (verdict_of_step note) (take (i + 1) steps))
last_with_step note steps items i step earlier last found same within is judged so_far =
    let within' : i < length steps = rw same at within in
    let is' : step ≡ get_or steps i step = is ∙ ap (λ (all : List NoteStep). get_or all i step) same in
    rw (judged, so_far)
    (sym (last_or-one earlier (verdict_of_step note step) (filter_map (verdict_of_step note) (take i steps)))
    ∙ ap (λ (all : List MemberVerdict). last_or earlier all) (sym (steps_more note steps i step within' is')))

-- no step has a verdict, with one more that has none
pub none_with_step : (note : NoteValue) (steps items : List NoteStep) (i : ℕ) (step : NoteStep) (found : Option MemberVerdict)
    → items ≡ steps → i < length items → step ≡ get_or items i step → found ≡ verdict_of_step note step → found ≡ None
    → filter_map (verdict_of_step note) (take i steps) ≡ []
    → filter_map (verdict_of_step note) (take (i + 1) steps) ≡ []
none_with_step note steps items i step found same within is judged none so_far =
    let within' : i < length steps = rw same at within in
    let is' : step ≡ get_or steps i step = is ∙ ap (λ (all : List NoteStep). get_or all i step) same in
    steps_more note steps i step within' is'
    ∙ ap (λ (all : List MemberVerdict). all ++ cons_option (verdict_of_step note step) []) so_far
    ∙ ap (λ (it : Option MemberVerdict). cons_option it []) (sym judged ∙ none)

-- the first verdict is that of the first step that has one
pub first_at_step : (note : NoteValue) (steps items : List NoteStep) (i : ℕ) (step : NoteStep) (found : Option MemberVerdict) (verdict : MemberVerdict)
    → items ≡ steps → i < length items → step ≡ get_or items i step → found ≡ verdict_of_step note step → found ≡ Some verdict
    → filter_map (verdict_of_step note) (take i steps) ≡ []
    → Some verdict ≡ first_verdict (filter_map (verdict_of_step note) steps)
first_at_step note steps items i step found verdict same within is judged some so_far =
    let within' : i < length steps = rw same at within in
    let is' : step ≡ get_or steps i step = is ∙ ap (λ (all : List NoteStep). get_or all i step) same in
    let rest : drop i steps ≡ step ∷ drop (i + 1) steps =
    drop_more steps i step within' ∙ ap (λ (it : NoteStep). it ∷ drop (i + 1) steps) (sym is') in
    let parts : filter_map (verdict_of_step note) steps
    ≡ cons_option (verdict_of_step note step) (filter_map (verdict_of_step note) (drop (i + 1) steps)) =
    ap (λ (all : List NoteStep). filter_map (verdict_of_step note) all) (sym (take-append-drop i steps))
    ∙ filter_map-append (verdict_of_step note) (take i steps) (drop i steps)
    ∙ ap (λ (all : List MemberVerdict). all ++ filter_map (verdict_of_step note) (drop i steps)) so_far
    ∙ ap (λ (all : List NoteStep). filter_map (verdict_of_step note) all) rest in
    sym (ap (λ (all : List MemberVerdict). first_verdict all) parts
    ∙ ap (λ (it : Option MemberVerdict). first_verdict (cons_option it (filter_map (verdict_of_step note) (drop (i + 1) steps)))) (sym judged ∙ some))

-- the verdicts of one entry more
notes_more : (notes : List Note) (i : ℕ) (note : Note) → i < length notes → note ≡ get_or notes i note
    → verdicts (map note_value (take (i + 1) notes)) ≡ verdicts (map note_value (take i notes)) ++ note_verdicts (note_value note)
notes_more notes i note within is =
    ap (λ (some : List Note). verdicts (map note_value some)) (take_more notes i note within)
    ∙ ap (λ (some : List NoteValue). verdicts some) (map-append note_value (take i notes) (get_or notes i note ∷ []))
    ∙ flat_map-append note_verdicts (map note_value (take i notes)) (map note_value (get_or notes i note ∷ []))
    ∙ ap (λ (it : Note). verdicts (map note_value (take i notes)) ++ (note_verdicts (note_value it) ++ [])) (sym is)
    ∙ ap (λ (more : List MemberVerdict). verdicts (map note_value (take i notes)) ++ more) (append-nil (note_verdicts (note_value note)))

-- the last verdict, with one entry more
pub last_with_note : (notes items : List Note) (i : ℕ) (note : Note) (last next : Option MemberVerdict)
    → items ≡ notes → i < length items → note ≡ get_or items i note → next ≡ last_or last (note_verdicts (note_value note))
    → last ≡ last_or None (verdicts (map note_value (take i notes))) → next ≡ last_or None (verdicts (map note_value (take (i + 1) notes)))
last_with_note notes items i note last next same within is judged so_far =
    let within' : i < length notes = rw same at within in
    let is' : note ≡ get_or notes i note = is ∙ ap (λ (all : List Note). get_or all i note) same in
    judged ∙ ap (λ (it : Option MemberVerdict). last_or it (note_verdicts (note_value note))) so_far
    ∙ sym (last_or-append None (verdicts (map note_value (take i notes))) (note_verdicts (note_value note)))
    ∙ ap (λ (all : List MemberVerdict). last_or None all) (sym (notes_more notes i note within' is'))

-- what has no first verdict has none
no_verdict : (xs : List MemberVerdict) → first_verdict xs ≡ None → xs ≡ []
no_verdict [] none = refl
no_verdict (x ∷ xs) none = absurd cc

-- no entry has a verdict, with one more that has none
pub none_with_note : (notes items : List Note) (i : ℕ) (note : Note) (found : Option MemberVerdict)
    → items ≡ notes → i < length items → note ≡ get_or items i note → found ≡ first_verdict (note_verdicts (note_value note)) → found ≡ None
    → verdicts (map note_value (take i notes)) ≡ [] → verdicts (map note_value (take (i + 1) notes)) ≡ []
none_with_note notes items i note found same within is judged none so_far =
    let within' : i < length notes = rw same at within in
    let is' : note ≡ get_or notes i note = is ∙ ap (λ (all : List Note). get_or all i note) same in
    notes_more notes i note within' is'
    ∙ ap (λ (all : List MemberVerdict). all ++ note_verdicts (note_value note)) so_far
    ∙ no_verdict (note_verdicts (note_value note)) (sym judged ∙ none)

first_of_append : (xs ys : List MemberVerdict) (verdict : MemberVerdict) → first_verdict xs ≡ Some verdict → first_verdict (xs ++ ys) ≡ Some verdict
first_of_append [] ys verdict is = absurd cc
first_of_append (x ∷ xs) ys verdict is = is

-- the first verdict is that of the first entry that has one
pub first_at_note : (notes items : List Note) (i : ℕ) (note : Note) (found : Option MemberVerdict) (verdict : MemberVerdict)
    → items ≡ notes → i < length items → note ≡ get_or items i note → found ≡ first_verdict (note_verdicts (note_value note)) → found ≡ Some verdict
    → verdicts (map note_value (take i notes)) ≡ [] → Some verdict ≡ first_verdict (verdicts (map note_value notes))
first_at_note notes items i note found verdict same within is judged some so_far =
    let within' : i < length notes = rw same at within in
    let is' : note ≡ get_or notes i note = is ∙ ap (λ (all : List Note). get_or all i note) same in
    let rest : drop i notes ≡ note ∷ drop (i + 1) notes =
    drop_more notes i note within' ∙ ap (λ (it : Note). it ∷ drop (i + 1) notes) (sym is') in
    let parts : verdicts (map note_value notes) ≡ note_verdicts (note_value note) ++ verdicts (map note_value (drop (i + 1) notes)) =
    ap (λ (all : List Note). verdicts (map note_value all)) (sym (take-append-drop i notes))
    ∙ ap (λ (all : List NoteValue). verdicts all) (map-append note_value (take i notes) (drop i notes))
    ∙ flat_map-append note_verdicts (map note_value (take i notes)) (map note_value (drop i notes))
    ∙ ap (λ (all : List MemberVerdict). all ++ verdicts (map note_value (drop i notes))) so_far
    ∙ ap (λ (all : List Note). verdicts (map note_value all)) rest in
    sym (ap (λ (all : List MemberVerdict). first_verdict all) parts
    ∙ first_of_append (note_verdicts (note_value note)) (verdicts (map note_value (drop (i + 1) notes))) verdict (sym judged ∙ some))
