-- How the episodes go on.
use Rattle.std.proofs.Common.{◌≡◌, Bool, true, false, List, [], ◌∷◌, ◌++◌, refl, sym, subst, ◌∙◌, append-nil}
use Rattle.std.specs.Prelude.{filter, map, if◌then◌else◌}
use Rattle.std.proofs.lemmas.List.{reverse-append}
use Rattle.lg_explain.specs.Meaning.Accounts.{accounts_told}
use Rattle.lg_explain.specs.Meaning.Episodes.{episodes, has_step, run_joined, note_in, notes_of, tells_it}
use Rattle.lg_explain.specs.Meaning.Told.{EntryTold}
use Rattle.lg_explain.specs.Support.Episodes.{HasEpisode, HasGathered, earlier_runs, latest_run}
use Rattle.lg_explain.specs.declared.question.MemberQuestion.{MemberQuestion}
use Rattle.lg_explain.specs.declared.gathered.Gathered.{Gathered}

-- the notes of an episode with one entry more
pub notes_more : (x : EntryTold) (episode : List EntryTold) → notes_of (x ∷ episode) ≡ notes_of episode ++ filter tells_it (x.note ∷ [])
notes_more x episode = by_steps (has_step x.note.steps) refl
  where
    by_steps : (b : Bool) → has_step x.note.steps ≡ b → notes_of (x ∷ episode) ≡ notes_of episode ++ filter tells_it (x.note ∷ [])
    by_steps true tells = rw tells (reverse-append (x.note ∷ []) (filter tells_it (map note_in episode)))
    by_steps false tells = rw tells (sym (append-nil (notes_of episode)))

-- no episode that is empty is told
pub ended_runs : (question : MemberQuestion) (runs : List (List EntryTold)) → accounts_told question (latest_run runs ∷ earlier_runs runs) ≡ accounts_told question runs
ended_runs question [] = refl
ended_runs question (episode ∷ runs) = refl

-- an entry begins an episode, or goes on with the latest one
pub begins_run : (s : Gathered) (question : MemberQuestion) (x : EntryTold) (before : List EntryTold) → x.begins ≡ true
    → HasEpisode s question (x ∷ []) (latest_run (episodes before) ∷ earlier_runs (episodes before)) → HasGathered s question (x ∷ before)
begins_run s question x before begins run =
    subst (λ (b : Bool). HasEpisode s question (latest_run (if b then (x ∷ []) ∷ episodes before else run_joined x (episodes before)))
    (earlier_runs (if b then (x ∷ []) ∷ episodes before else run_joined x (episodes before)))) (sym begins)
    (record { notes = run.notes; first = run.first; known = run.known; accounts = run.accounts ∙ ended_runs question (episodes before) })

joined_latest : (x : EntryTold) (runs : List (List EntryTold)) → latest_run (run_joined x runs) ≡ x ∷ latest_run runs
joined_latest x [] = refl
joined_latest x (episode ∷ runs) = refl

joined_earlier : (x : EntryTold) (runs : List (List EntryTold)) → earlier_runs (run_joined x runs) ≡ earlier_runs runs
joined_earlier x [] = refl
joined_earlier x (episode ∷ runs) = refl

pub goes_on_run : (s : Gathered) (question : MemberQuestion) (x : EntryTold) (before : List EntryTold) → x.begins ≡ false
    → HasEpisode s question (x ∷ latest_run (episodes before)) (earlier_runs (episodes before)) → HasGathered s question (x ∷ before)
goes_on_run s question x before begins run =
    subst (λ (b : Bool). HasEpisode s question (latest_run (if b then (x ∷ []) ∷ episodes before else run_joined x (episodes before)))
    (earlier_runs (if b then (x ∷ []) ∷ episodes before else run_joined x (episodes before)))) (sym begins)
    (subst (λ (e : List EntryTold). HasEpisode s question e (earlier_runs (run_joined x (episodes before)))) (sym (joined_latest x (episodes before)))
    (subst (λ (es : List (List EntryTold)). HasEpisode s question (x ∷ latest_run (episodes before)) es) (sym (joined_earlier x (episodes before))) run))
