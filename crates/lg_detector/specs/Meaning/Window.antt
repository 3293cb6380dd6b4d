-- Whom rounds choose in a stretch of a log (SWIM, section 4.3). A stretch is what was added to a log, the latest first.
use Rattle.std.specs.Prelude.{◌≡◌, ℕ, List, [], ◌∷◌, ◌++◌, if◌then◌else◌}
use Rattle.std.specs.Option.{option_to_list}
use Rattle.lg_detector.specs.Meaning.Log.{Log, Fired}
use Rattle.lg_detector.specs.Meaning.Probing.{is_round_start, others, chosen}

-- the targets that were chosen, in the order in which they were
abbrev pub targets : Log → Log → List (List ℕ)
targets [] log = []
targets (Fired timer words ∷ stretch) log =
    if is_round_start timer.id
    then targets stretch log ++ option_to_list (chosen words (stretch ++ log))
    else targets stretch log
targets (_ ∷ stretch) log = targets stretch log

-- throughout the stretch, these names are the others that aren't gone
abbrev pub AreOthers : List (List ℕ) → Log → Log → Type 0
AreOthers names [] log = others log ≡ names
AreOthers names (fact ∷ stretch) log = (others (fact ∷ stretch ++ log) ≡ names) × AreOthers names stretch log
