use Rattle.lg_http.proofs.peer.Peer.give.Goals as goal

pub returns-clause-rests : goal.returns-clause-rests
returns-clause-rests g c = λ _. rw c.turn_to_answer.ensures.http c.advance.ensures.rests
