use Rattle.lg_agent.proofs.pass.Pass.next_deadline.Goals as goal

pub returns : goal.returns
returns g c = rw (← c.self.view_is) c.next_deadline.ensures
