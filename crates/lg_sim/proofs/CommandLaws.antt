-- How a cluster goes on by a command, and by a line.
use Rattle.std.proofs.Common.{◌≡◌, ℕ, List, ◌∷◌, ◌++◌, Option, Some, None, Result, Ok, sym, ap, subst, ◌∙◌, append-nil}
use Rattle.std.specs.List.{cons_option}
use Rattle.lg_timing.specs.declared.config.Config.{Config}
use Rattle.lg_script.specs.Meaning.Lines.{command_of}
use Rattle.lg_script.specs.declared.command.Command.{Command}
use Rattle.lg_script.specs.declared.command.Command.TheVariants.{Set, SetGroup, Table}
use Rattle.lg_timing.specs.declared.keys.Key.{Key}
use Rattle.lg_timing.specs.Meaning.Keys.{with_number}
use Rattle.lg_script.specs.declared.fault.ScriptFault.{ScriptFault}
use Rattle.lg_sim.specs.Meaning.Members.{Happening}
use Rattle.lg_sim.specs.Meaning.Outcome.{happening_text, text_of}
use Rattle.lg_sim.specs.Meaning.Past.{happenings, in_group, opened, settings}
use Rattle.lg_sim.specs.Meaning.Text.{fault_said, line_fault, text_said, with_said}
use Rattle.lg_sim.specs.Support.After.{IsClusterAfter, IsCluster, LedOn, RanCommand, RanLine, StopsAt}
use Rattle.lg_sim.specs.declared.cluster.Cluster.{Cluster}
use Rattle.lg_sim.specs.declared.cluster.Stop.{Stop}
use Rattle.lg_sim.specs.declared.host.Member.{Member}

pub ran : (old new : Cluster) (text longer : List ℕ) (before : List Command) (command : Command) (members : List Member) (h : Option Happening)
    → IsClusterAfter old before → opened (command ∷ before) ≡ members → happenings (command ∷ before) ≡ cons_option h (happenings before)
    → settings (command ∷ before) ≡ settings before → text_of command before ≡ happening_text h (happenings before)
    → LedOn old new text longer members (happenings before) h → RanCommand new text longer before command
ran old new text longer before command members h after who what numbers lines led = record {
  after = record {
    settings_are = led.settings_stay ∙ after.settings_are ∙ sym numbers;
    is =
        subst (λ (ms : List Member). IsCluster new.hosts.items new.sent.items ms (happenings (command ∷ before))) (sym who)
        (subst (λ (past : List Happening). IsCluster new.hosts.items new.sent.items members past) (sym what) led.after);
  };
  writes = led.writes ∙ ap (λ (more : List ℕ). text ++ more) (sym lines);
}

pub ran_set : (old new : Cluster) (text : List ℕ) (before : List Command) (key : Key) (number : ℕ) → IsClusterAfter old before
    → new ≡ record old { settings = with_number key number old.settings } → RanCommand new text text before (Set key number)
ran_set old new text before key number after changed = record {
  after =
      subst (λ (cluster : Cluster). IsClusterAfter cluster (Set key number ∷ before)) (sym changed) (record {
        settings_are = ap (λ (numbers : Config). with_number key number numbers) after.settings_are;
        is = after.is;
      });
  writes = sym (append-nil text);
}

pub ran_set_group : (old new : Cluster) (text : List ℕ) (before : List Command) (group : List ℕ) → IsClusterAfter old before
    → new ≡ record old { settings = in_group group old.settings } → RanCommand new text text before (SetGroup group)
ran_set_group old new text before group after changed = record {
  after =
      subst (λ (cluster : Cluster). IsClusterAfter cluster (SetGroup group ∷ before)) (sym changed) (record {
        settings_are = ap (λ (usual : Config). in_group group usual) after.settings_are;
        is = after.is;
      });
  writes = sym (append-nil text);
}

pub ran_table : (cluster : Cluster) (text longer : List ℕ) (before : List Command) (name : List ℕ) → IsClusterAfter cluster before
    → longer ≡ text ++ text_of (Table name) before → RanCommand cluster text longer before (Table name)
ran_table cluster text longer before name after lines = record {
  after = record { settings_are = after.settings_are; is = after.is };
  writes = lines;
}

-- ---- lines

pub passed_over : (cluster : Cluster) (text : List ℕ) (before : List Command) (line : List ℕ) → IsClusterAfter cluster before → command_of line ≡ Ok None → RanLine cluster text text before line
passed_over cluster text before line after said = record {
  after = subst (λ (s : Result (Option Command) ScriptFault). IsClusterAfter cluster (with_said s before)) (sym said) after;
  writes = sym (append-nil text) ∙ ap (λ (s : Result (Option Command) ScriptFault). text ++ text_said s before) (sym said);
}

pub ran_line : (cluster : Cluster) (text longer : List ℕ) (before : List Command) (line : List ℕ) (command : Command) → command_of line ≡ Ok (Some command)
    → RanCommand cluster text longer before command → RanLine cluster text longer before line
ran_line cluster text longer before line command said it = record {
  after = subst (λ (s : Result (Option Command) ScriptFault). IsClusterAfter cluster (with_said s before)) (sym said) it.after;
  writes = it.writes ∙ ap (λ (s : Result (Option Command) ScriptFault). text ++ text_said s before) (sym said);
}

pub stops_line : (r : Result (Unit {0}) Stop) (before : List Command) (line : List ℕ) (command : Command) → command_of line ≡ Ok (Some command)
    → StopsAt r (fault_said (Ok (Some command)) before) → StopsAt r (line_fault line before)
stops_line r before line command said stops = subst (λ (s : Result (Option Command) ScriptFault). StopsAt r (fault_said s before)) (sym said) stops
