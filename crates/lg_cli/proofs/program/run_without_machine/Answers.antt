use Rattle.std.proofs.Common.{refl}
use Rattle.lg_cli.specs.Meaning.Running.{streams}
use Rattle.lg_cli.proofs.LineLaws.{found-runs}
use Rattle.lg_cli.proofs.program.run_without_machine.Goals as goal

pub returns-in-Answer : goal.returns-in-Answer
returns-in-Answer g c =
    let remaining = g.R.Read.remaining in
    let contents = g.W.Write.contents in
    let reported = g.F.FaultStream.reported in
    let reader = c.args.reader.now in
    let ran = c.answer_named in
    let before = streams reader (remaining reader) c.args.writer.now (contents c.args.writer.now) (reported c.args.faults.now) in
    let after = streams ran.new.reader (remaining ran.new.reader) ran.new.writer (contents ran.new.writer) (reported ran.new.faults) in
    found-runs before after ran.result c.in-Answer.is
    (record {
      answered = ran.ensures.answered;
      bad_name = ran.ensures.bad_name;
      unread = ran.ensures.unread;
      unnamed = ran.ensures.unnamed;
      failed = ran.ensures.failed;
      read = ran.ensures.read;
      run = ran.ensures.run;
    })

pub returns-in-Order : goal.returns-in-Order
returns-in-Order g c =
    let remaining = g.R.Read.remaining in
    let contents = g.W.Write.contents in
    let reported = g.F.FaultStream.reported in
    let reader = c.args.reader.now in
    let ran = c.order_lists in
    let before = streams reader (remaining reader) c.args.writer.now (contents c.args.writer.now) (reported c.args.faults.now) in
    let after = streams reader (remaining reader) ran.new.writer (contents ran.new.writer) (reported ran.new.faults) in
    found-runs before after ran.result c.in-Order.is
    (record {
      ordered = ran.ensures.ordered;
      unlisted = ran.ensures.unlisted;
      unread = refl {a = reader};
      failed = ran.ensures.failed;
      run = ran.ensures.run;
    })

pub returns-in-Sim : goal.returns-in-Sim
returns-in-Sim g c =
    let remaining = g.R.Read.remaining in
    let contents = g.W.Write.contents in
    let reported = g.F.FaultStream.reported in
    let reader = c.args.reader.now in
    let ran = c.simulate in
    let before = streams reader (remaining reader) c.args.writer.now (contents c.args.writer.now) (reported c.args.faults.now) in
    let after = streams ran.new.reader (remaining ran.new.reader) ran.new.writer (contents ran.new.writer) (reported ran.new.faults) in
    found-runs before after ran.result c.in-Sim.is
    (record {
      simulated = ran.ensures.simulated;
      failed = ran.ensures.failed;
      read = ran.ensures.read;
      run = ran.ensures.run;
    })

pub returns-in-Timeouts : goal.returns-in-Timeouts
returns-in-Timeouts g c =
    let remaining = g.R.Read.remaining in
    let contents = g.W.Write.contents in
    let reported = g.F.FaultStream.reported in
    let reader = c.args.reader.now in
    let ran = c.timeouts_of in
    let before = streams reader (remaining reader) c.args.writer.now (contents c.args.writer.now) (reported c.args.faults.now) in
    let after = streams reader (remaining reader) ran.new.writer (contents ran.new.writer) (reported ran.new.faults) in
    found-runs before after ran.result c.in-Timeouts.is
    (record {
      timed = ran.ensures.timed;
      unread = refl {a = reader};
      failed = ran.ensures.failed;
      run = ran.ensures.run;
    })

pub returns-in-Init : goal.returns-in-Init
returns-in-Init g c =
    let remaining = g.R.Read.remaining in
    let contents = g.W.Write.contents in
    let reported = g.F.FaultStream.reported in
    let reader = c.args.reader.now in
    let ran = c.write_init in
    let before = streams reader (remaining reader) c.args.writer.now (contents c.args.writer.now) (reported c.args.faults.now) in
    let after = streams reader (remaining reader) ran.new.writer (contents ran.new.writer) (reported ran.new.faults) in
    found-runs before after ran.result c.in-Init.is
    (record {
      begun = ran.ensures.written;
      unread = refl {a = reader};
      failed = ran.ensures.failed;
      run = ran.ensures.run;
    })
