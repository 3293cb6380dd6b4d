-- What a stretch of events chose, and the windows in it.
use Rattle.std.proofs.Common.{◌≡◌, ℕ, ◌≤◌, Bool, true, false, cond, List, [], ◌∷◌, ◌++◌, length, reverse, sym, ◌∙◌, ap, subst, append_assoc}
use Rattle.std.specs.Option.{option_to_list}
use Rattle.std.proofs.lemmas.List.{append-nil, append_cancel_left}
use Rattle.lg_rules.specs.Meaning.Rows.{name_cmp, is_among}
use Rattle.lg_timers.specs.declared.timer.Timer.{Timer}
use Rattle.lg_probe.specs.Meaning.Order.{window}
use Rattle.lg_detector.specs.declared.event.Event.{Event}
use Rattle.lg_detector.specs.Meaning.Choice.{targets_after}
use Rattle.lg_detector.specs.Meaning.Log.{Log, Came, Fired, AckHeard, NackHeard, Relayed, Ended, OfGroup}
use Rattle.lg_detector.specs.Meaning.Probing.{is_round_start, others, chosen}
use Rattle.lg_detector.specs.Meaning.Step.{log_of}
use Rattle.lg_detector.specs.Meaning.Window.{targets}
use Rattle.lg_detector.proofs.WindowLaws.{each_target, no_target}
use Rattle.lg_agent.specs.Meaning.Closing.{HasWindows}

-- one more timer that fired, where the targets of a log are those of its beginning and then those of the stretch
fired-split : (timer : Timer) (words : List ℕ) (stretch log : Log) → targets (stretch ++ log) [] ≡ targets log [] ++ targets stretch log
    → targets (Fired timer words ∷ stretch ++ log) [] ≡ targets log [] ++ targets (Fired timer words ∷ stretch) log
fired-split timer words stretch log before = step (is_round_start timer.id)
  where
    same : chosen words ((stretch ++ log) ++ []) ≡ chosen words (stretch ++ log)
    same = ap (chosen words) (append-nil (stretch ++ log))

    step : (b : Bool) → cond b (targets (stretch ++ log) [] ++ option_to_list (chosen words ((stretch ++ log) ++ []))) (targets (stretch ++ log) [])
        ≡ targets log [] ++ cond b (targets stretch log ++ option_to_list (chosen words (stretch ++ log))) (targets stretch log)
    step true =
        (λ i. before i ++ option_to_list (same i))
        ∙ append_assoc (targets log []) (targets stretch log) (option_to_list (chosen words (stretch ++ log)))
    step false = before

-- the targets of a whole log are those of its beginning, and then those of the stretch
targets-split : (stretch log : Log) → targets (stretch ++ log) [] ≡ targets log [] ++ targets stretch log
targets-split [] log = sym (append-nil (targets log []))
targets-split (Came now ∷ stretch) log = targets-split stretch log
targets-split (Fired timer words ∷ stretch) log = fired-split timer words stretch log (targets-split stretch log)
targets-split (AckHeard k sender ∷ stretch) log = targets-split stretch log
targets-split (NackHeard k sender ∷ stretch) log = targets-split stretch log
targets-split (Relayed target asker ∷ stretch) log = targets-split stretch log
targets-split (Ended ∷ stretch) log = targets-split stretch log
targets-split (OfGroup fact ∷ stretch) log = targets-split stretch log

names_are : (before whole : List Event) (names : List (List ℕ)) (stretch : Log) → targets_after whole ≡ targets_after before ++ names
    → log_of (reverse whole) ≡ stretch ++ log_of (reverse before)
    → targets stretch (log_of (reverse before)) ≡ names
names_are before whole names stretch gained grown =
    append_cancel_left (targets_after before) _ _
    (sym (targets-split stretch (log_of (reverse before))) ∙ (ap (λ (log : Log). targets log []) (sym grown) ∙ gained))

pub has_windows : (before whole : List Event) (names : List (List ℕ)) → targets_after whole ≡ targets_after before ++ names → HasWindows before whole names
has_windows before whole names gained =
    let log : Log = log_of (reverse before) in
    record {
      each = λ stretch name grown same named many.
          let are : targets stretch log ≡ names = names_are before whole names stretch gained grown in
          subst (λ (ns : List (List ℕ)). is_among name_cmp name ns ≡ true) are
          (each_target log stretch name same named (subst (λ (ns : List (List ℕ)). window (others log) ≤ length ns) (sym are) many));
      none = λ stretch grown same. sym (names_are before whole names stretch gained grown) ∙ no_target log stretch same;
    }
