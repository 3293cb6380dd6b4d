use Rattle.std.proofs.Common.{ℕ, List, Result, ap}
use Rattle.std.proofs.lemmas.Result.{on_ok_weaker}
use Rattle.lg_fields.specs.declared.fault.FieldFault.{FieldFault}
use Rattle.lg_heads.specs.Meaning.Heads.{HeadValue}
use Rattle.lg_replay.specs.Meaning.Files.{read_behind}
use Rattle.lg_replay.specs.Meaning.Heads.{file_head_scan}
use Rattle.lg_replay.proofs.ReadLaws.{head_faulty}
use Rattle.lg_replay.proofs.ReplayLaws.{headless_ran, read_ran}
use Rattle.lg_replay.proofs.replayer.Replayer.replay_file.Goals as goal

pub returns-in-Ok : goal.returns-in-Ok
returns-in-Ok c =
    on_ok_weaker c.replay_read.result
    (λ ran. read_ran c.args.self.now _ _ _ _ (record { number = c.args.number; bytes = c.args.bytes.now }) _
    (ap (λ (r : Result (HeadValue × List ℕ) FieldFault). read_behind r) c.in-Ok.ensures) ran)
    c.replay_read.ensures

pub returns-in_ok-put_headless_line-in-Err-Field : goal.returns-in_ok-put_headless_line-in-Err-Field
returns-in_ok-put_headless_line-in-Err-Field c =
    headless_ran c.args.self.now _ _ _ _ (record { number = c.args.number; bytes = c.args.bytes.now }) c.in-Err-Field.fault
    (ap (λ (r : Result (HeadValue × List ℕ) FieldFault). read_behind r)
    (head_faulty (file_head_scan c.args.bytes.now) c.in-Err-Field.field-0 c.in-Err-Field.fault c.read_file_head.new.reader.rest.now c.in-Err-Field.field-0-is c.in-Err-Field.ensures))
    (rw (← c.in-Err-Field.fault-is) c.in_ok-put_headless_line-in-Err-Field.ensures) (rw (← c.in-Err-Field.fault-is) c.note.ensures.noted) c.note.ensures.come
