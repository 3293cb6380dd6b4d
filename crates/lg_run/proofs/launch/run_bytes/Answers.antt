use Rattle.std.proofs.Common.{Ok, inl, inr, refl, subst}
use Rattle.lg_config.specs.declared.node.NodeConfig.{NodeConfig}
use Rattle.lg_config.specs.Meaning.Options.{source_of}
use Rattle.lg_run.specs.declared.told.Told.TheVariants.{Memory}
use Rattle.lg_run.specs.Meaning.Reporting.{TellsLine}
use Rattle.lg_run.specs.Meaning.Running.{RunsKeyed}
use Rattle.lg_run.proofs.EndLaws.{announced-runs}
use Rattle.lg_run.proofs.launch.run_bytes.Goals as goal

pub returns : goal.returns
returns g c =
    let contents = g.W.Write.contents in
    let reported = g.F.FaultStream.reported in
    let node = c.started_at-node.result in
    let wishes = c.args.wishes.now in
    let keys = c.in-Ok-keys_at.keys in
    let before = c.configured.new.faults in
    let run = c.run_node-ran in
    let written = c.write_table-written in
    let told = c.tell_run-status in
    let found = c.in-Ok.ensures.found in
    record {
      answer = Ok found.0;
      read = found.1;
      runs = inl (
        c.in-Ok.node,
        reported before,
        found.2,
        (
          c.system_time.result,
          subst (λ (n : NodeConfig). RunsKeyed c.args.writer.now written.new.writer (contents c.args.writer.now)
              (contents written.new.writer) (reported before) (reported told.new.faults) (source_of wishes.source).file n
              wishes.until wishes.follow told.result) c.started_at-node.ensures.is
              (inl (
                keys,
                c.in-Ok-keys_at.ensures.keys,
                inl
                    (announced-runs contents reported c.args.writer.now run.new.writer written.new.writer
                    before c.prepare.new.faults run.new.faults told.new.faults (source_of wishes.source).file node keys
                    wishes.until wishes.follow _ c.settings_of-settings.result c.end_wished.result run.result written.result c.of.result told.result
                    c.in-Ok-prepare.ensures.said c.settings_of-settings.ensures c.end_wished.ensures c.in-Ok-prepare.ensures.records
                    run.ensures.ran run.ensures.refused run.ensures.alone run.ensures.unwritten run.ensures.told run.ensures.untold
                    written.ensures c.of.ensures told.ensures.lines told.ensures.status),
              )),
        ),
      );
    }

pub returns-in-Err-keys_at : goal.returns-in-Err-keys_at
returns-in-Err-keys_at g c =
    let contents = g.W.Write.contents in
    let reported = g.F.FaultStream.reported in
    let writer = c.args.writer.now in
    let wishes = c.args.wishes.now in
    let before = c.configured.new.faults in
    let told = c.tell_no_keys in
    let found = c.in-Ok.ensures.found in
    record {
      answer = Ok found.0;
      read = found.1;
      runs = inl (
        c.in-Ok.node,
        reported before,
        found.2,
        (
          c.system_time.result,
          subst (λ (n : NodeConfig). RunsKeyed writer writer (contents writer) (contents writer) (reported before)
              (reported told.new.faults) (source_of wishes.source).file n wishes.until wishes.follow told.result) c.started_at-node.ensures.is
              (inr (c.in-Err-keys_at.fault, c.in-Err-keys_at.ensures.named, refl, told.ensures)),
        ),
      );
    }

pub returns-in_default : goal.returns-in_default
returns-in_default g c =
    let contents = g.W.Write.contents in
    let reported = g.F.FaultStream.reported in
    let writer = c.args.writer.now in
    let wishes = c.args.wishes.now in
    let before = c.configured.new.faults in
    let told = c.tell in
    let found = c.in-Ok.ensures.found in
    let line = subst (λ f. TellsLine (reported f) (reported told.new.faults) Memory told.result) c.in_default.ensures.refused told.ensures in
    record {
      answer = Ok found.0;
      read = found.1;
      runs = inl (
        c.in-Ok.node,
        reported before,
        found.2,
        (
          c.system_time.result,
          subst (λ (n : NodeConfig). RunsKeyed writer writer (contents writer) (contents writer) (reported before)
              (reported told.new.faults) (source_of wishes.source).file n wishes.until wishes.follow told.result) c.started_at-node.ensures.is
              (inl (c.in-Ok-keys_at.keys, c.in-Ok-keys_at.ensures.keys, inr (refl {a = writer}, line))),
        ),
      );
    }
