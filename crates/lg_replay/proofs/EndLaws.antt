-- How a replay ends, by what a replayer has counted and noted.
use Rattle.std.proofs.Common.{◌≡◌, ◌<◌, Bool, true, false, ◌||◌, List, refl, sym, ap, ◌∙◌}
use Rattle.std.specs.List.{list_any}
use Rattle.lg_replay.specs.Meaning.Files.{RecordingFile}
use Rattle.lg_replay.specs.Meaning.Lives.{unknown_life}
use Rattle.lg_replay.specs.Meaning.Replays.{all_verdicts, any_amiss, replay_end_by, replay_end}
use Rattle.lg_replay.specs.Meaning.Verdicts.{is_differing, is_unchecked}
use Rattle.lg_replay.specs.Support.Replayed.{IsReplayed}
use Rattle.lg_replay.specs.declared.end.ReplayEnd.TheVariants.{Done, Faulty, Unchecked}
use Rattle.lg_replay.specs.declared.replayer.Replayer.{Replayer}
use Rattle.lg_replay.proofs.CountLaws.{differs_not, differs_some, unchecked_not, unchecked_some}

ends : (files : List RecordingFile) (d a u : Bool) → list_any is_differing (all_verdicts unknown_life files) ≡ d → any_amiss files ≡ a
    → list_any is_unchecked (all_verdicts unknown_life files) ≡ u → replay_end files ≡ replay_end_by (d || a) u
unfolding replay_end
ends files d a u differs amiss unchecked =
    ap (λ (b : Bool). replay_end_by (b || any_amiss files) (list_any is_unchecked (all_verdicts unknown_life files))) differs
    ∙ ap (λ (b : Bool). replay_end_by (d || b) (list_any is_unchecked (all_verdicts unknown_life files))) amiss
    ∙ ap (λ (b : Bool). replay_end_by (d || a) b) unchecked

or_true : (d : Bool) → (d || true) ≡ true
or_true true = refl
or_true false = refl

pub faulty_by_reply : (r : Replayer) (files : List RecordingFile) → IsReplayed r files → 0 < r.counts.differing → Faulty ≡ replay_end files
faulty_by_reply r files is some = sym (ends files true _ _ (differs_some r.counts _ is.come.counts some) refl refl)

pub faulty_by_file : (r : Replayer) (files : List RecordingFile) → IsReplayed r files → r.is_amiss ≡ true → Faulty ≡ replay_end files
faulty_by_file r files is amiss =
    let d = list_any is_differing (all_verdicts unknown_life files) in
    let u = list_any is_unchecked (all_verdicts unknown_life files) in
    sym (ends files d true u refl (sym is.amiss ∙ amiss) refl ∙ ap (λ (b : Bool). replay_end_by b u) (or_true d))

pub ends_unchecked : (r : Replayer) (files : List RecordingFile) → IsReplayed r files → r.counts.differing ≡ 0 → r.is_amiss ≡ false → 0 < r.counts.unchecked
    → Unchecked ≡ replay_end files
ends_unchecked r files is none fine some =
    sym (ends files false false true (differs_not r.counts _ is.come.counts none) (sym is.amiss ∙ fine) (unchecked_some r.counts _ is.come.counts some))

pub ends_done : (r : Replayer) (files : List RecordingFile) → IsReplayed r files → r.counts.differing ≡ 0 → r.is_amiss ≡ false → r.counts.unchecked ≡ 0
    → Done ≡ replay_end files
ends_done r files is none fine all =
    sym (ends files false false false (differs_not r.counts _ is.come.counts none) (sym is.amiss ∙ fine) (unchecked_not r.counts _ is.come.counts all))
