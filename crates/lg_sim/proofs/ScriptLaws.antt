-- How the run of a script goes on by a line.
use Rattle.std.proofs.Common.{
  ◌≡◌,
  ℕ,
  ◌+◌,
  ◌<◌,
  ◌≤◌,
  List,
  [],
  ◌∷◌,
  ◌++◌,
  length,
  Option,
  Some,
  None,
  Result,
  Ok,
  Err,
  refl,
  sym,
  ap,
  ◌∙◌,
  arith,
  append_assoc,
  append-nil,
}
use Rattle.lg_text.specs.Meaning.Lines.{lines_of}
use Rattle.lg_text.specs.declared.end.RunEnd.TheVariants.{Done, Faulty}
use Rattle.lg_script.specs.Meaning.Lines.{command_of}
use Rattle.lg_script.specs.declared.command.Command.{Command}
use Rattle.lg_script.specs.declared.fault.ScriptFault.{ScriptFault}
use Rattle.lg_sim.specs.Meaning.Past.{unset}
use Rattle.lg_sim.specs.Meaning.Text.{
  end_from,
  fault_line,
  line_fault,
  line_text,
  script_end,
  script_text,
  text_from,
  with_line,
  with_said,
}
use Rattle.lg_sim.specs.Support.After.{IsClusterAfter, IsClusterReached, RanLine}
use Rattle.lg_sim.specs.declared.cluster.Cluster.{Cluster}

-- ---- one line more

text_on : (number : ℕ) (before : List Command) (line : List ℕ) (lines : List (List ℕ)) → line_fault line before ≡ None
    → text_from number before (line ∷ lines) ≡ line_text line before ++ text_from (number + 1) (with_line line before) lines
text_on number before line lines good = rw (good, text_from) refl

text_stops : (number : ℕ) (before : List Command) (line : List ℕ) (lines : List (List ℕ)) (fault : ScriptFault) → line_fault line before ≡ Some fault
    → text_from number before (line ∷ lines) ≡ fault_line number fault
text_stops number before line lines fault bad = rw (bad, text_from) refl

end_on : (before : List Command) (line : List ℕ) (lines : List (List ℕ)) → line_fault line before ≡ None → end_from before (line ∷ lines) ≡ end_from (with_line line before) lines
end_on before line lines good = rw (good, end_from) refl

end_stops : (before : List Command) (line : List ℕ) (lines : List (List ℕ)) (fault : ScriptFault) → line_fault line before ≡ Some fault → end_from before (line ∷ lines) ≡ Faulty
end_stops before line lines fault bad = rw (bad, end_from) refl

few_said : (said : Result (Option Command) ScriptFault) (before : List Command) → length (with_said said before) ≤ length before + 1
few_said (Ok None) before = omega arith
few_said (Ok (Some command)) before = omega arith
few_said (Err fault) before = omega arith

-- ---- a run over lines

-- How far a run has come. The cluster is after the commands of the lines so far. The text so far, with that of the
-- lines that are left, is the text of the script, and the end of these lines is the script's.
pub record HasRun (cluster : Cluster) (input rest text : List ℕ) (number : ℕ) : Type 0 where
  pub before : List Command
  pub after : IsClusterAfter cluster before
  pub few : length before < number
  pub left : number + length rest ≤ length input + 1
  pub writes : text ++ text_from number before (lines_of rest) ≡ script_text input
  pub ends : end_from before (lines_of rest) ≡ script_end input

pub run_none : (cluster : Cluster) (input : List ℕ) → cluster.settings ≡ unset → cluster.hosts.items ≡ [] → cluster.sent.items ≡ [] → HasRun cluster input input [] 1
unfolding script_text script_end
run_none cluster input numbers hosts packets = record {
  before = [];
  after = record {
    settings_are = numbers;
    is = record { hosts_are = hosts; packets_are = packets; distinct = refl; begun = λ name. refl };
  };
  few = omega arith;
  left = omega arith;
  writes = refl;
  ends = refl;
}

pub run_reached : (cluster : Cluster) (input rest text : List ℕ) (number : ℕ) → length input ≤ 1048576 → HasRun cluster input rest text number → IsClusterReached cluster
run_reached cluster input rest text number few has = record {
  before = has.before;
  few = omega (arith, has.few, has.left);
  after = has.after;
}

pub run_more : (cluster next : Cluster) (input rest line after text longer : List ℕ) (number : ℕ) (has : HasRun cluster input rest text number)
    → lines_of rest ≡ line ∷ lines_of after → length after < length rest → line_fault line has.before ≡ None → RanLine next text longer has.before line
    → HasRun next input after longer (number + 1)
run_more cluster next input rest line after text longer number has cut shorter good ran = record {
  before = with_line line has.before;
  after = ran.after;
  few = omega (arith, few_said (command_of line) has.before, has.few);
  left = omega (arith, has.left);
  writes =
      ap (λ (t : List ℕ). t ++ text_from (number + 1) (with_line line has.before) (lines_of after)) ran.writes
      ∙ append_assoc text (line_text line has.before) (text_from (number + 1) (with_line line has.before) (lines_of after))
      ∙ ap (λ (t : List ℕ). text ++ t) (sym (text_on number has.before line (lines_of after) good))
      ∙ ap (λ (ls : List (List ℕ)). text ++ text_from number has.before ls) (sym cut)
      ∙ has.writes;
  ends =
      sym (end_on has.before line (lines_of after) good)
      ∙ ap (λ (ls : List (List ℕ)). end_from has.before ls) (sym cut)
      ∙ has.ends;
}

pub stopped_text : (cluster : Cluster) (input rest line after text longer : List ℕ) (number : ℕ) (fault : ScriptFault) (has : HasRun cluster input rest text number)
    → lines_of rest ≡ line ∷ lines_of after → line_fault line has.before ≡ Some fault → longer ≡ text ++ fault_line number fault → longer ≡ script_text input
stopped_text cluster input rest line after text longer number fault has cut bad lines =
    lines
    ∙ ap (λ (t : List ℕ). text ++ t) (sym (text_stops number has.before line (lines_of after) fault bad))
    ∙ ap (λ (ls : List (List ℕ)). text ++ text_from number has.before ls) (sym cut)
    ∙ has.writes

pub stopped_end : (cluster : Cluster) (input rest line after text : List ℕ) (number : ℕ) (fault : ScriptFault) (has : HasRun cluster input rest text number)
    → lines_of rest ≡ line ∷ lines_of after → line_fault line has.before ≡ Some fault → Faulty ≡ script_end input
stopped_end cluster input rest line after text number fault has cut bad =
    sym (end_stops has.before line (lines_of after) fault bad) ∙ ap (λ (ls : List (List ℕ)). end_from has.before ls) (sym cut) ∙ has.ends

no_more : (rest : List ℕ) → length rest ≡ 0 → rest ≡ []
no_more [] e = refl
no_more (b ∷ bs) e = absurd (omega arith)

pub ended_text : (cluster : Cluster) (input rest text : List ℕ) (number : ℕ) → HasRun cluster input rest text number → length rest ≡ 0 → text ≡ script_text input
ended_text cluster input rest text number has none =
    sym (append-nil text) ∙ ap (λ (r : List ℕ). text ++ text_from number has.before (lines_of r)) (sym (no_more rest none)) ∙ has.writes

pub ended_end : (cluster : Cluster) (input rest text : List ℕ) (number : ℕ) → HasRun cluster input rest text number → length rest ≡ 0 → Done ≡ script_end input
ended_end cluster input rest text number has none =
    ap (λ (r : List ℕ). end_from has.before (lines_of r)) (sym (no_more rest none)) ∙ has.ends
