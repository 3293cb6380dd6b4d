use Rattle.std.proofs.lemmas.Result.{on_ok_weaker}
use Rattle.lg_replay.specs.Meaning.Heads.{file_head_scan}
use Rattle.lg_replay.proofs.ReadLaws.{head_faulty}
use Rattle.lg_explain.proofs.ExplainedLaws.{took_headless, took_read}
use Rattle.lg_explain.proofs.explainer.Explainer.take_file.Goals as goal

pub returns-in-Ok : goal.returns-in-Ok
returns-in-Ok c =
    on_ok_weaker c.take_read.result
    (λ went. took_read c.args.self.now c.take_read.new.self c.args.bytes.now _ _ c.in-Ok.ensures went)
    c.take_read.ensures

pub returns-in-Err-Field : goal.returns-in-Err-Field
returns-in-Err-Field c =
    took_headless c.args.self.now c.args.bytes.now c.in-Err-Field.fault
    (head_faulty (file_head_scan c.args.bytes.now) c.in-Err-Field.field-0 c.in-Err-Field.fault c.read_file_head.new.reader.rest.now c.in-Err-Field.field-0-is c.in-Err-Field.ensures)
