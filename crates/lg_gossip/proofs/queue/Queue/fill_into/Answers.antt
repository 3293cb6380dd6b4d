-- If no row may be sent any more, a packet without a buddy takes none, and the queue stays as it is.
use Rattle.std.proofs.Common.{◌≡◌, false, map, sym, ◌∙◌, ap, subst}
use Rattle.std.specs.Prelude.{nat_lt, option_copied}
use Rattle.std.specs.List.{IsDistinct, list_any}
use Rattle.lg_rules.specs.Meaning.Claim.{name_of}
use Rattle.lg_rules.specs.Meaning.Rows.{name_cmp, is_same}
use Rattle.lg_gossip.specs.Meaning.Queue.{fill_of, filled, has_news}
use Rattle.lg_gossip.proofs.Fewest.{sent-weaker}
use Rattle.lg_gossip.proofs.News.{fill_of-no_news, filled-no_news, none_below-sent}
use Rattle.lg_gossip.proofs.queue.Queue.fill_into.Goals as goal

no_news : (c : goal.After-clear) → has_news c.args.self.now c.args.live ≡ false
no_news c =
    let rows = c.self.inside.rows.items in
    let limit = c.send_limit-limit.result in
    let least = sent-weaker limit c.self.inside.fewest rows c.if-limit-self.true c.self.invariant.least in
    subst (λ q. has_news q c.args.live ≡ false) c.self.view_is
    (subst (λ l. list_any (λ q. nat_lt q.sends l) rows ≡ false) c.send_limit-limit.ensures.limit
    (none_below-sent limit rows least))

pub returns-in-None-clause-apart : goal.returns-in-None-clause-apart
unfolding IsDistinct
returns-in-None-clause-apart c =
    subst (λ cs. IsDistinct (is_same name_cmp) (map name_of cs)) (sym c.clear.ensures) tt

pub returns-in-None-clause-claims : goal.returns-in-None-clause-claims
returns-in-None-clause-claims c =
    c.clear.ensures
    ∙ sym (fill_of-no_news c.args.self.now c.args.live (no_news c))
    ∙ ap (λ b. fill_of c.args.self.now (option_copied b) c.args.live) (sym c.in-None.is)

pub returns-in-None-clause-queue : goal.returns-in-None-clause-queue
returns-in-None-clause-queue c =
    sym (filled-no_news c.args.self.now c.args.live (no_news c))
    ∙ ap (λ b. filled c.args.self.now (option_copied b) c.args.live) (sym c.in-None.is)
