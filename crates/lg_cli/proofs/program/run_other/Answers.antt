use Rattle.std.proofs.Common.{◌≡◌, ap, refl, subst}
use Rattle.lg_config.specs.Meaning.Options.{SourceValue}
use Rattle.lg_run.specs.Meaning.Checking.{ChecksSource}
use Rattle.lg_command_line.specs.Support.Requests.{source_with}
use Rattle.lg_cli.specs.Meaning.Running.{streams}
use Rattle.lg_cli.proofs.LineLaws.{found-runs}
use Rattle.lg_cli.proofs.program.run_other.Goals as goal

pub returns-in-Check : goal.returns-in-Check
returns-in-Check g c =
    let remaining = g.R.Read.remaining in
    let contents = g.W.Write.contents in
    let reported = g.F.FaultStream.reported in
    let reader = c.args.reader.now in
    let file = c.in-Check.file in
    let ran = c.check_source-status in
    let before = streams reader (remaining reader) c.args.writer.now (contents c.args.writer.now) (reported c.args.faults.now) in
    let after = streams reader (remaining reader) ran.new.writer (contents ran.new.writer) (reported ran.new.faults) in
    let source : source_with file c.as_slice.result.now ≡ source_with file c.in-Check.given.items = ap (source_with file) c.as_slice.ensures.value in
    found-runs before after ran.result c.in-Check.is
    (record {
      checked = subst (λ (s : SourceValue). ChecksSource c.args.writer.now ran.new.writer (contents c.args.writer.now) (contents ran.new.writer)
          (reported c.args.faults.now) (reported ran.new.faults) s ran.result) source ran.ensures;
      unread = refl {a = reader};
    })

pub returns-in-Ask : goal.returns-in-Ask
returns-in-Ask g c =
    let remaining = g.R.Read.remaining in
    let contents = g.W.Write.contents in
    let reported = g.F.FaultStream.reported in
    let reader = c.args.reader.now in
    let ran = c.ask_node in
    let before = streams reader (remaining reader) c.args.writer.now (contents c.args.writer.now) (reported c.args.faults.now) in
    let after = streams reader (remaining reader) ran.new.writer (contents ran.new.writer) (reported ran.new.faults) in
    found-runs before after ran.result c.in-Ask.is
    (record {
      asked = ran.ensures;
      unread = refl {a = reader};
    })

pub returns-in-Leave : goal.returns-in-Leave
returns-in-Leave g c =
    let remaining = g.R.Read.remaining in
    let contents = g.W.Write.contents in
    let reported = g.F.FaultStream.reported in
    let reader = c.args.reader.now in
    let writer = c.args.writer.now in
    let ran = c.leave_node in
    let before = streams reader (remaining reader) writer (contents writer) (reported c.args.faults.now) in
    let after = streams reader (remaining reader) writer (contents writer) (reported ran.new.faults) in
    found-runs before after ran.result c.in-Leave.is
    (record {
      left = ran.ensures;
      unread = refl {a = reader};
      unwritten = refl {a = writer};
    })

pub returns-in-Version : goal.returns-in-Version
returns-in-Version g c =
    let remaining = g.R.Read.remaining in
    let contents = g.W.Write.contents in
    let reported = g.F.FaultStream.reported in
    let reader = c.args.reader.now in
    let ran = c.tell_version in
    let before = streams reader (remaining reader) c.args.writer.now (contents c.args.writer.now) (reported c.args.faults.now) in
    let after = streams reader (remaining reader) ran.new.writer (contents ran.new.writer) (reported ran.new.faults) in
    found-runs before after ran.result c.in-Version.is
    (record {
      told = ran.ensures;
      unread = refl {a = reader};
    })

pub returns-in-Replay : goal.returns-in-Replay
returns-in-Replay g c =
    let remaining = g.R.Read.remaining in
    let contents = g.W.Write.contents in
    let reported = g.F.FaultStream.reported in
    let reader = c.args.reader.now in
    let ran = c.replay_part in
    let before = streams reader (remaining reader) c.args.writer.now (contents c.args.writer.now) (reported c.args.faults.now) in
    let after = streams reader (remaining reader) ran.new.writer (contents ran.new.writer) (reported ran.new.faults) in
    found-runs before after ran.result c.in-Replay.is
    (record {
      replayed = ran.ensures;
      unread = refl {a = reader};
    })

pub returns-in-Explain : goal.returns-in-Explain
returns-in-Explain g c =
    let remaining = g.R.Read.remaining in
    let contents = g.W.Write.contents in
    let reported = g.F.FaultStream.reported in
    let reader = c.args.reader.now in
    let ran = c.explain_part in
    let before = streams reader (remaining reader) c.args.writer.now (contents c.args.writer.now) (reported c.args.faults.now) in
    let after = streams reader (remaining reader) ran.new.writer (contents ran.new.writer) (reported ran.new.faults) in
    found-runs before after ran.result c.in-Explain.is
    (record {
      explained = ran.ensures;
      unread = refl {a = reader};
    })
