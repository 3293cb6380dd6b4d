-- While the others that aren't gone stay the same, so many rounds in a row choose each of them.
use Rattle.std.proofs.Common.{◌≡◌, ℕ, ◌≤◌, Bool, true, false, not, ◌&&◌, cond, List, [], ◌∷◌, ◌++◌, length, Option, Some, None, refl, sym, ◌∙◌, ap, append_assoc, length-append, arith}
use Rattle.std.specs.Option.{option_to_list}
use Rattle.std.proofs.lemmas.Bool.{false≢true}
use Rattle.std.proofs.lemmas.List.{append-nil}
use Rattle.lg_rules.specs.Meaning.Rows.{name_cmp, is_same, is_among, without_key}
use Rattle.lg_rules.proofs.Roster.{among-without}
use Rattle.lg_rules.proofs.Tests.{both}
use Rattle.lg_timers.specs.declared.timer.Timer.{Timer}
use Rattle.lg_probe.specs.Meaning.Order.{choice, next_cycle, window}
use Rattle.lg_probe.proofs.WindowLaws.{choices, in_window}
use Rattle.lg_membership.specs.Meaning.Log as group
use Rattle.lg_membership.proofs.LiveOthers.{live-opened, live-forgot}
use Rattle.lg_detector.specs.Meaning.Log.{Log, Came, Fired, AckHeard, NackHeard, Relayed, Ended, OfGroup, group_log}
use Rattle.lg_detector.specs.Meaning.Probing.{is_round_start, has_left, others, cycle_names, first_word, chosen}
use Rattle.lg_detector.specs.Meaning.Window.{targets, AreOthers}
use Rattle.lg_detector.proofs.CycleLaws.{AreAlike, choice-alike, next-alike}

-- the names chosen in the cycle, after choices by words
cycles : List (List ℕ) → List (List ℕ) → List ℕ → List (List ℕ)
cycles names cycle [] = cycle
cycles names cycle (word ∷ words) = cycles names (next_cycle names cycle word) words

cycles-push : (names cycle : List (List ℕ)) (words : List ℕ) (word : ℕ) → cycles names cycle (words ++ word ∷ []) ≡ next_cycle names (cycles names cycle words) word
unfolding cycles
cycles-push names cycle [] word = refl
cycles-push names cycle (w ∷ words) word = cycles-push names (next_cycle names cycle w) words word

choices-push : (names cycle : List (List ℕ)) (words : List ℕ) (word : ℕ)
    → choices names cycle (words ++ word ∷ []) ≡ choices names cycle words ++ option_to_list (choice names (cycles names cycle words) word)
unfolding choices cycles
choices-push names cycle [] word = append-nil (option_to_list (choice names cycle word))
choices-push names cycle (w ∷ words) word =
    ap (λ ns. option_to_list (choice names cycle w) ++ ns) (choices-push names (next_cycle names cycle w) words word)
    ∙ sym (append_assoc (option_to_list (choice names cycle w)) (choices names (next_cycle names cycle w) words) (option_to_list (choice names (cycles names (next_cycle names cycle w) words) word)))

one_at_most : (n : Option (List ℕ)) → length (option_to_list n) ≤ 1
one_at_most None = omega arith
one_at_most (Some n) = omega arith

choices-few : (names cycle : List (List ℕ)) (words : List ℕ) → length (choices names cycle words) ≤ length words
unfolding choices
choices-few names cycle [] = omega arith
choices-few names cycle (w ∷ words) =
    omega (
      arith,
      length-append (option_to_list (choice names cycle w)) (choices names (next_cycle names cycle w) words),
      one_at_most (choice names cycle w),
      choices-few names (next_cycle names cycle w) words,
    )

-- The words by which a stretch chose: the targets are the choices by these, and the cycle after it has the same of the
-- names. It may lack others that were forgotten.
record Chosen (names : List (List ℕ)) (stretch log : Log) : Type 0 where
  pub words : List ℕ
  pub are : targets stretch log ≡ choices names (cycle_names log) words
  pub cycle : AreAlike names (cycle_names (stretch ++ log)) (cycles names (cycle_names log) words)

others_then : (names : List (List ℕ)) (stretch log : Log) → AreOthers names stretch log → others (stretch ++ log) ≡ names
others_then names [] log same = same
others_then names (fact ∷ stretch) log same = same.0

after_choice : (names : List (List ℕ)) (timer : Timer) (words : List ℕ) (stretch log : Log) → others (stretch ++ log) ≡ names → Chosen names stretch log → Chosen names (Fired timer words ∷ stretch) log
unfolding cycles
after_choice names timer words stretch log same before = step (is_round_start timer.id) refl (has_left (stretch ++ log)) refl
  where
    unchosen : (is_round_start timer.id && not (has_left (stretch ++ log))) ≡ false → AreAlike names (cycle_names (Fired timer words ∷ stretch ++ log)) (cycles names (cycle_names log) before.words)
    unchosen stays n a =
        ap (λ b. is_among name_cmp n (cond b (next_cycle (others (stretch ++ log)) (cycle_names (stretch ++ log)) (first_word words)) (cycle_names (stretch ++ log)))) stays
        ∙ before.cycle n a

    step : (b : Bool) → is_round_start timer.id ≡ b → (left : Bool) → has_left (stretch ++ log) ≡ left → Chosen names (Fired timer words ∷ stretch) log
    step true starts true left = record {
      words = before.words;
      are = rw (starts, left) (append-nil (targets stretch log) ∙ before.are);
      cycle = unchosen (λ i. starts i && not (left i));
    }
    step true starts false stays =
        let word = first_word words in
        let cycle = cycle_names log in
        let choice_is : choice (others (stretch ++ log)) (cycle_names (stretch ++ log)) word ≡ choice names (cycles names cycle before.words) word =
        ap (λ ns. choice ns (cycle_names (stretch ++ log)) word) same
        ∙ choice-alike names (cycle_names (stretch ++ log)) (cycles names cycle before.words) before.cycle word in
        let next = next_cycle (others (stretch ++ log)) (cycle_names (stretch ++ log)) word in
        let chooses : (is_round_start timer.id && not (has_left (stretch ++ log))) ≡ true = λ i. starts i && not (stays i) in
        record {
          words = before.words ++ word ∷ [];
          are = rw (starts, stays) ((λ i. before.are i ++ option_to_list (choice_is i)) ∙ sym (choices-push names cycle before.words word));
          cycle = λ n a.
              ap (λ b. is_among name_cmp n (cond b next (cycle_names (stretch ++ log)))) chooses
              ∙ ap (λ ns. is_among name_cmp n (next_cycle ns (cycle_names (stretch ++ log)) word)) same
              ∙ next-alike names (cycle_names (stretch ++ log)) (cycles names cycle before.words) before.cycle word n a
              ∙ sym (ap (is_among name_cmp n) (cycles-push names cycle before.words word));
        }
    step false not_started left is =
        record { words = before.words; are = rw not_started before.are; cycle = unchosen (λ i. not_started i && not (has_left (stretch ++ log))) }

-- A name that is forgotten, while the others stay the same, is none of them.
forgotten_in : (names : List (List ℕ)) (m : List ℕ) (stretch log : Log) → AreOthers names (OfGroup (group.Forgot m) ∷ stretch) log → Chosen names stretch log → Chosen names (OfGroup (group.Forgot m) ∷ stretch) log
forgotten_in names m stretch log same before =
    let less : names ≡ without_key name_cmp m names =
    sym same.0 ∙ live-forgot m (group_log (stretch ++ log)) ∙ ap (without_key name_cmp m) (others_then names stretch log same.1) in
    record {
      words = before.words;
      are = before.are;
      cycle = λ n a.
          let parts = both (not (is_same name_cmp n m)) (is_among name_cmp n names) (sym (among-without n m names) ∙ sym (ap (is_among name_cmp n) less) ∙ a) in
          among-without n m (cycle_names (stretch ++ log))
          ∙ ap (λ b. b && is_among name_cmp n (cycle_names (stretch ++ log))) parts.0
          ∙ before.cycle n a;
    }

chosen_in : (names : List (List ℕ)) (stretch log : Log) (name : List ℕ) → is_among name_cmp name names ≡ true → AreOthers names stretch log → Chosen names stretch log
unfolding cycles choices
chosen_in names [] log name named same = record { words = []; are = refl; cycle = λ n a. refl }
chosen_in names (Came now ∷ stretch) log name named same = let c = chosen_in names stretch log name named same.1 in record { words = c.words; are = c.are; cycle = c.cycle }
chosen_in names (Fired timer words ∷ stretch) log name named same =
    after_choice names timer words stretch log (others_then names stretch log same.1) (chosen_in names stretch log name named same.1)
chosen_in names (AckHeard k sender ∷ stretch) log name named same = let c = chosen_in names stretch log name named same.1 in record { words = c.words; are = c.are; cycle = c.cycle }
chosen_in names (NackHeard k sender ∷ stretch) log name named same = let c = chosen_in names stretch log name named same.1 in record { words = c.words; are = c.are; cycle = c.cycle }
chosen_in names (Ended ∷ stretch) log name named same = let c = chosen_in names stretch log name named same.1 in record { words = c.words; are = c.are; cycle = c.cycle }
chosen_in names (Relayed target asker ∷ stretch) log name named same = let c = chosen_in names stretch log name named same.1 in record { words = c.words; are = c.are; cycle = c.cycle }
chosen_in names (OfGroup (group.Opened opening) ∷ stretch) log name named same =
    let none : names ≡ [] = sym same.0 ∙ live-opened opening (group_log (stretch ++ log)) in
    absurd (false≢true (sym (ap (is_among name_cmp name) none) ∙ named))
chosen_in names (OfGroup (group.Said now origin claim) ∷ stretch) log name named same = let c = chosen_in names stretch log name named same.1 in record { words = c.words; are = c.are; cycle = c.cycle }
chosen_in names (OfGroup (group.Sent claims) ∷ stretch) log name named same = let c = chosen_in names stretch log name named same.1 in record { words = c.words; are = c.are; cycle = c.cycle }
chosen_in names (OfGroup (group.Forgot m) ∷ stretch) log name named same = forgotten_in names m stretch log same (chosen_in names stretch log name named same.1)
chosen_in names (OfGroup group.Departed ∷ stretch) log name named same = let c = chosen_in names stretch log name named same.1 in record { words = c.words; are = c.are; cycle = c.cycle }

pub each_target : (log stretch : Log) (name : List ℕ) → AreOthers (others log) stretch log → is_among name_cmp name (others log) ≡ true → window (others log) ≤ length (targets stretch log)
    → is_among name_cmp name (targets stretch log) ≡ true
each_target log stretch name same named many =
    let names = others log in
    let c = chosen_in names stretch log name named same in
    let few = choices-few names (cycle_names log) c.words in
    ap (is_among name_cmp name) c.are ∙ in_window names (cycle_names log) c.words name named (omega (arith, many, ap length c.are, few))

nobody_then : (log : Log) (timer : Timer) (words : List ℕ) (stretch : Log) → others (stretch ++ log) ≡ [] → targets stretch log ≡ [] → targets (Fired timer words ∷ stretch) log ≡ []
nobody_then log timer words stretch none before = step (is_round_start timer.id)
  where
    nobody : chosen words (stretch ++ log) ≡ None
    nobody = none_at (has_left (stretch ++ log))
      where
        none_at : (left : Bool) → cond left None (choice (others (stretch ++ log)) (cycle_names (stretch ++ log)) (first_word words)) ≡ None
        none_at true = refl
        none_at false = ap (λ ns. choice ns (cycle_names (stretch ++ log)) (first_word words)) none

    step : (b : Bool) → cond b (targets stretch log ++ option_to_list (chosen words (stretch ++ log))) (targets stretch log) ≡ []
    step true = λ i. before i ++ option_to_list (nobody i)
    step false = before

pub no_target : (log stretch : Log) → AreOthers [] stretch log → targets stretch log ≡ []
no_target log [] same = refl
no_target log (Came now ∷ stretch) same = no_target log stretch same.1
no_target log (Fired timer words ∷ stretch) same = nobody_then log timer words stretch (others_then [] stretch log same.1) (no_target log stretch same.1)
no_target log (AckHeard k sender ∷ stretch) same = no_target log stretch same.1
no_target log (NackHeard k sender ∷ stretch) same = no_target log stretch same.1
no_target log (Relayed target asker ∷ stretch) same = no_target log stretch same.1
no_target log (Ended ∷ stretch) same = no_target log stretch same.1
no_target log (OfGroup fact ∷ stretch) same = no_target log stretch same.1
