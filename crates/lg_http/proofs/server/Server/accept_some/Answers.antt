use Rattle.std.proofs.Common.{refl, subst, sym, ◌∙◌}
use Rattle.lg_http.specs.declared.slots.Slots.{Slots}
use Rattle.lg_http.specs.Meaning.Answers.{Replies}
use Rattle.lg_http.specs.Meaning.Slots.{AreServed}
use Rattle.lg_http.proofs.SlotLaws.{served_none, served_both}
use Rattle.lg_http.proofs.server.Server.accept_some.Goals as goal
use Rattle.lg_http.proofs.server.Server.accept_some.Goals.{in-Ok, in-Err}

pub loop-init : goal.loop-init
loop-init g c = record {
  served = λ hosts site h. served_none (Replies g.S.Site.answers g.S.Site.acts g.S.Site.version g.S.Site.waits hosts) g.S.Site.later site _ _ refl h;
  turns = refl;
}

pub loop-preserved : goal.loop-preserved
loop-preserved g c =
    let was = c.loop.invariant in
    record {
      served = λ hosts site h.
          let before = was.served hosts site h in
          elim c.match-accept.branch [
            | in-Ok w ↦ rw w.self-is (served_both (Replies g.S.Site.answers g.S.Site.acts g.S.Site.version g.S.Site.waits hosts) g.S.Site.later site _ _ _ before (w.admit.ensures.served hosts site before.slots))
            | in-Err w ↦
                rw w.self-is
                (subst (λ (slots : Slots). AreServed (Replies g.S.Site.answers g.S.Site.acts g.S.Site.version g.S.Site.waits hosts) g.S.Site.later site c.args.self.now.slots slots) (sym w.not_accepted.ensures.slots) before)
          ];
      turns =
          elim c.match-accept.branch [
            | in-Ok w ↦ rw w.self-is (w.admit.ensures.turns ∙ was.turns)
            | in-Err w ↦ rw w.self-is (w.not_accepted.ensures.turns ∙ was.turns)
          ];
    }
