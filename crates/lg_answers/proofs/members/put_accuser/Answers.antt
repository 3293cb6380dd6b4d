use Rattle.lg_answers.proofs.Pieces.{an_accuser, no_accuser}
use Rattle.lg_answers.proofs.Writing.{pushed, written_as, written_twice}
use Rattle.lg_answers.proofs.members.put_accuser.Goals as goal

pub returns-in_ok-put_text-in-Suspect : goal.returns-in_ok-put_text-in-Suspect
returns-in_ok-put_text-in-Suspect c =
    let last = pushed c.push_str.result _ _ _ c.push_str.ensures.bytes in
    let both = written_twice c.push_str.result _ _ _ _ _ c.in_ok-put_text-in-Suspect.ensures last in
    written_as c.push_str.result _ _ _ _ both (an_accuser _ _ _ c.in-Suspect.is c.text_of_name.ensures)

pub returns-in-Alive : goal.returns-in-Alive
returns-in-Alive c =
    let written = pushed c.push_str-in-Alive.result _ _ _ c.push_str-in-Alive.ensures.bytes in
    written_as c.push_str-in-Alive.result _ _ _ _ written (no_accuser _ c.in-Alive.is)
