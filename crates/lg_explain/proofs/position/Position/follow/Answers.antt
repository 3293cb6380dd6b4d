use Rattle.lg_heads.specs.Meaning.Heads.{head_value}
use Rattle.lg_recording.specs.Meaning.Next.{recorded_in}
use Rattle.lg_accounts.specs.Meaning.Values.{note_value}
use Rattle.lg_explain.proofs.PositionLaws.{passed, told_of}
use Rattle.lg_explain.proofs.position.Position.follow.Goals as goal

pub returns : goal.returns
returns c =
    let noted = c.in_ok-note.ensures.noted in
    let head = head_value c.args.head.now in
    let x = recorded_in c.args.recorded.now in
    record {
      at = λ r at.
          passed c.args.self.now c.note.new.self c.pass.new.self c.args.name.now head r x c.note_subject-subject.result c.note_subject-subject.ensures at noted.past
          c.in_ok-note.ensures.same c.in_ok-pass.ensures;
      is = λ r at.
          told_of c.args.self.now c.note.new.self c.pass.new.self c.args.name.now head r x c.begins_episode-begins.result c.changes_verdict.result (note_value c.in_ok-note.note)
          at c.begins_episode-begins.ensures c.changes_verdict.ensures (noted.past r.past at.past) c.in_ok-pass.ensures.known
          (noted.told c.args.name.now r c.note_subject-subject.ensures at);
    }
