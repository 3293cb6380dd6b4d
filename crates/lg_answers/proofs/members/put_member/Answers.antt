use Rattle.lg_answers.proofs.Pieces.{member_joined}
use Rattle.lg_answers.proofs.Writing.{written_as}
use Rattle.lg_answers.proofs.members.put_member.Goals as goal

pub returns : goal.returns
returns c = written_as c.put_behind.result _ _ _ _ c.put_behind.ensures (member_joined c.args.member.now)
