use Rattle.lg_http.proofs.slots.Slots.run.Goals as goal

pub returns-clause-served : goal.returns-clause-served
returns-clause-served g c = λ h.
    let both = c.run_all.ensures.served h in
    rw c.run_all.ensures.site (record { slots = both.0; ended = both.1 })
