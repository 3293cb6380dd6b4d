-- What is written and told at the end of a node, by the steps to it.
use Rattle.std.proofs.Common.{◌≡◌, ℕ, Bool, true, false, List, Option, is_some, Result, Ok, Err, IfOk, IfErr, MatchResult, OnErr, refl, ap, sym, ◌∙◌, subst}
use Rattle.lg_seal.specs.declared.key.Keys.{Keys}
use Rattle.lg_config.specs.declared.node.NodeConfig.{NodeConfig}
use Rattle.lg_text.specs.Meaning.Reporting.{Reported, Reports}
use Rattle.lg_text.specs.declared.fault.RunFault.{RunFault}
use Rattle.lg_node.specs.declared.node.NodeEnd.{NodeEnd}
use Rattle.lg_node.specs.declared.node.NodeFault.{NodeFault}
use Rattle.lg_node.specs.declared.node.Settings.{Settings}
use Rattle.lg_node.specs.Meaning.Nodes.{IsEarly, IsRun, TellsServed}
use Rattle.lg_node.proofs.FollowingLaws.{unfollowed}
use Rattle.lg_run.specs.declared.told.Told.{Told}
use Rattle.lg_run.specs.Meaning.Reporting.{ReportsBoth}
use Rattle.lg_run.specs.Meaning.Running.{node_settings, table_at_end, table_wished, Announces, HasRun, IsSecond, RunsAnnounced}
use Rattle.lg_run.specs.Meaning.Running.{TellsMeanwhile, Writes, WritesEnd}
use Rattle.lg_run.specs.Meaning.Telling.{line_of, run_told, status_told}
use Rattle.lg_run.specs.Meaning.Wishes.{end_wished}
use Rattle.lg_run.specs.Meaning.Words.{start_line}

-- a writer that was left alone until the table
pub end-written : {W : Type 0} (contents : W → Option (List ℕ)) (follow : Bool) (before between after : W) (ran : Result NodeEnd NodeFault) (written : Result (Unit {0}) RunFault)
    → (follow ≡ false → between ≡ before) → Writes between after (contents between) (contents after) (table_wished follow ran) written
    → WritesEnd follow before after (contents before) (contents after) (table_at_end ran) written
end-written contents true before between after ran written same wrote = wrote.1
end-written contents false before between after ran written same wrote =
    subst (λ w. Writes w after (contents w) (contents after) (table_at_end ran) written) (same refl) wrote

-- two lines that are told are two others that are the same
pub both-as : (reported reports : Reported) (first first' second second' : List ℕ) → ReportsBoth reported reports first second → first ≡ first' → second ≡ second'
    → ReportsBoth reported reports first' second'
both-as reported reports first first' second second' both same same' =
    record {
      between = both.between;
      first_taken = subst (λ line. Reports reported both.between line) same both.first_taken;
      second_taken = subst (λ line. Reports both.between reports line) same' both.second_taken;
    }

-- a node that didn't follow ran, whatever bytes a writer had taken
unfollowed-as : (n : NodeConfig) (keys : Option Keys) (until : ℕ) (held holds held' holds' : Option (List ℕ)) (e : NodeEnd) → HasRun n keys until false held holds e → HasRun n keys until false held' holds' e
unfollowed-as n keys until held holds held' holds' e ran = unfollowed n.config (node_settings n keys false) until held holds held' holds' (is_some n.record_folder) e refl ran

-- the run of a node, by the bytes that the writer had taken in the end: after it followed nothing more is written
pub run-written : {W : Type 0} (contents : W → Option (List ℕ)) (n : NodeConfig) (keys : Option Keys) (until : ℕ) (follow : Bool) (held : Option (List ℕ)) (between after : W) (ran : Result NodeEnd NodeFault) (written : Result (Unit {0}) RunFault)
    → MatchResult ran (HasRun n keys until follow held (contents between)) (IsEarly n.config) → Writes between after (contents between) (contents after) (table_wished follow ran) written
    → MatchResult ran (HasRun n keys until follow held (contents after)) (IsEarly n.config)
run-written contents n keys until follow held between after (Err fault) written ran wrote = ran
run-written contents n keys until false held between after (Ok e) written ran wrote = unfollowed-as n keys until held (contents between) held (contents after) e ran
run-written contents n keys until true held between after (Ok e) written ran wrote =
    subst (λ bytes. HasRun n keys until true held bytes e) (ap contents (sym wrote.0)) ran

-- nothing is written at the end of a node that ended before its loops
pub unwritten-early : {W : Type 0} (contents : W → Option (List ℕ)) (follow : Bool) (before between after : W) (ran : Result NodeEnd NodeFault) (written : Result (Unit {0}) RunFault)
    → OnErr ran (between ≡ before) → Writes between after (contents between) (contents after) (table_wished follow ran) written → OnErr ran (after ≡ before)
unwritten-early contents follow before between after (Ok e) written same wrote = tt
unwritten-early contents true before between after (Err fault) written same wrote = wrote.0 ∙ same
unwritten-early contents false before between after (Err fault) written same wrote = wrote.0 ∙ same

-- what a run says of both its outcomes
pub either-outcome : {T E : Type 0} (P : T → Type 0) (Q : E → Type 0) (ran : Result T E) → IfOk ran P → IfErr ran Q → MatchResult ran P Q
either-outcome P Q (Ok e) ok err = ok
either-outcome P Q (Err fault) ok err = err

-- what a node reported while it ran
pub told-meanwhile : {F : Type 0} (reported : F → Reported) (before after : F) (ran : Result NodeEnd NodeFault) → IfOk ran (λ e. TellsServed e.served (reported before) (reported after)) → OnErr ran (after ≡ before)
    → TellsMeanwhile ran (reported before) (reported after)
told-meanwhile reported before after (Ok e) told untold = told
told-meanwhile reported before after (Err fault) told untold = ap reported untold

-- A node is announced and run, by what each step says: `between` is its writer, and `meanwhile` its stream for faults, when it has ended.
pub announced-runs : {W F : Type 0} (contents : W → Option (List ℕ)) (reported : F → Reported) (before between after : W) (faults announced meanwhile faults' : F) (file : Option (List ℕ)) (n : NodeConfig) (keys : Option Keys)
    (wished : Option ℕ) (follow records : Bool) (settings : Settings) (until : ℕ) (ran : Result NodeEnd NodeFault) (written : Result (Unit {0}) RunFault) (told : Told) (status : ℕ)
    → Announces wished follow (reported faults) (reported announced) (start_line file n) → settings ≡ node_settings n keys follow → until ≡ end_wished wished → records ≡ is_some n.record_folder
    → IfOk ran (IsRun n.config settings until (contents before) (contents between) records) → IfErr ran (IsEarly n.config) → (settings.follow ≡ false → between ≡ before) → OnErr ran (between ≡ before)
    → IfOk ran (λ e. TellsServed e.served (reported announced) (reported meanwhile)) → OnErr ran (meanwhile ≡ announced)
    → Writes between after (contents between) (contents after) (table_wished follow ran) written → told ≡ run_told ran written
    → (second : List ℕ) × IsSecond n ran second × ReportsBoth (reported meanwhile) (reported faults') (line_of told) second → status ≡ status_told told
    → RunsAnnounced before after (contents before) (contents after) (reported faults) (reported faults') file n keys wished follow status
announced-runs contents reported before between after faults announced meanwhile faults' file n keys wished follow records settings until ran written told status start set ends kept ok early alone unwritten served unserved wrote tells lines is =
    let so = subst (λ b. IfOk ran (IsRun n.config settings until (contents before) (contents between) b)) kept ok in
    let here = subst (λ s. IfOk ran (IsRun n.config s until (contents before) (contents between) (is_some n.record_folder))) set so in
    let run = subst (λ end. IfOk ran (HasRun n keys end follow (contents before) (contents between))) ends here in
    let either = either-outcome (HasRun n keys (end_wished wished) follow (contents before) (contents between)) (IsEarly n.config) ran run early in
    record {
      announced = reported announced;
      start = start;
      runs =
          record {
            ran = ran;
            written = written;
            second = lines.0;
            run = run-written contents n keys (end_wished wished) follow (contents before) between after ran written either wrote;
            unwritten = unwritten-early contents follow before between after ran written unwritten wrote;
            table = end-written contents follow before between after ran written (subst (λ s. s.follow ≡ false → between ≡ before) set alone) wrote;
            meanwhile = reported meanwhile;
            told = told-meanwhile reported announced meanwhile ran served unserved;
            reason = lines.1;
            lines = both-as _ _ _ _ _ _ lines.2 (ap line_of tells) refl;
            is = is ∙ ap status_told tells;
          };
    }
