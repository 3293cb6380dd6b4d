use Rattle.lg_heads.specs.Meaning.Heads.{head_value}
use Rattle.lg_replay.proofs.ReadLaws.{read_went}
use Rattle.lg_replay.proofs.replayer.Replayer.replay_read.Goals as goal

pub returns : goal.returns
returns c =
    read_went c.args.self.now c.replay_entries.new.self c.note.new.self c.enter.new.self c.args.text.now.items c.put_head_line.new.text.items c.put_gap.new.text.items
    c.replay_entries.new.text.items c.args.window.now c.args.number (head_value c.args.head.now) c.args.rest.now c.in_ok-fault.fault
    c.in_ok-put_head_line.ensures c.in_ok-enter.ensures c.in_ok-put_gap.ensures c.in_ok-fault.ensures.ran c.in_ok-fault.ensures.fault c.in_ok-fault.ensures.notes
    c.note.ensures.noted c.note.ensures.come
