use Rattle.std.proofs.Common.{◌≡◌, ℕ, Option, option_map, inr, refl, ap, subst, sym, ◌∙◌}
use Rattle.lg_config.specs.Meaning.Options.{SourceValue}
use Rattle.lg_run.specs.Meaning.Reporting.{AreBytesOf}
use Rattle.lg_run.specs.Meaning.Running.{RunsBytes}
use Rattle.lg_command_line.specs.Support.Requests.{source_with}
use Rattle.lg_cli.specs.Meaning.Running.{streams}
use Rattle.lg_cli.proofs.LineLaws.{left-runs, same-streams, taken-runs}
use Rattle.lg_cli.proofs.program.run_words.Goals as goal

pub returns-in-Err : goal.returns-in-Err
returns-in-Err g c =
    let remaining = g.R.Read.remaining in
    let contents = g.W.Write.contents in
    let reported = g.F.FaultStream.reported in
    let reader = c.args.reader.now in
    let took = c.take_words.new in
    let before = streams reader (remaining reader) c.args.writer.now (contents c.args.writer.now) (reported c.args.faults.now) in
    let after = streams reader (remaining reader) took.writer (contents took.writer) (reported took.faults) in
    left-runs before after _ c.in-Err.status refl c.in-Err.ensures.left

pub returns-in_default : goal.returns-in_default
returns-in_default g c =
    let remaining = g.R.Read.remaining in
    let contents = g.W.Write.contents in
    let reported = g.F.FaultStream.reported in
    let reader = c.args.reader.now in
    let took = c.in-Ok.ensures in
    let ran = c.run_other in
    let after = streams ran.new.reader (remaining ran.new.reader) ran.new.writer (contents ran.new.writer) (reported ran.new.faults) in
    let same = same-streams contents reported reader (remaining reader) took.unwritten took.unreported in
    taken-runs after took.taken took.asked same (refl {a = c.in-Ok.asked}) ran.ensures

pub returns : goal.returns
returns g c =
    let remaining = g.R.Read.remaining in
    let contents = g.W.Write.contents in
    let reported = g.F.FaultStream.reported in
    let reader = c.args.reader.now in
    let took = c.in-Ok.ensures in
    let file = c.in-Node.file in
    let begun = c.begin_node.new.faults in
    let ran = c.run_bytes-status in
    let bytes = c.deref-2.result.now in
    let after = streams reader (remaining reader) ran.new.writer (contents ran.new.writer) (reported ran.new.faults) in
    let unreported = ◌∙◌ {a = begun} c.in-Ok-begin_node.ensures.silent took.unreported in
    let same = same-streams contents reported reader (remaining reader) {faults' = begun} took.unwritten unreported in
    let source : source_with file c.as_slice.result.now ≡ source_with file c.in-Node.given.items = ap (source_with file) c.as_slice.ensures.value in
    let run = subst (λ (until : Option ℕ). RunsBytes c.take_words.new.writer ran.new.writer
    (contents c.take_words.new.writer) (contents ran.new.writer)
    (reported begun) (reported ran.new.faults)
    bytes (source_with file c.as_slice.result.now) until c.in-Node.follow ran.result) c.end_after.ensures ran.ensures in
    taken-runs after took.taken took.asked same c.in-Node.is
    (record {
      launched = inr (
        bytes,
        subst (AreBytesOf (option_map (λ path. path.now) file)) (sym c.deref-2.ensures.value) c.in-Ok-begin_node.ensures.bytes,
        subst (λ (s : SourceValue). RunsBytes c.take_words.new.writer ran.new.writer
            (contents c.take_words.new.writer) (contents ran.new.writer)
            (reported begun) (reported ran.new.faults)
            bytes s c.in-Node.for_ms c.in-Node.follow ran.result) source run,
      );
      unread = refl {a = reader};
    })
