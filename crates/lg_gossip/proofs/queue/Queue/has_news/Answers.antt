-- The two laws of news hold of the queue's value.
use Rattle.std.proofs.Common.{◌≡◌, sym, ◌∙◌, rules}
use Rattle.lg_gossip.specs.Meaning.Queue.{has_news}
use Rattle.lg_gossip.proofs.News.{fill_of-no_news, fill_of-news}
use Rattle.lg_gossip.proofs.queue.Queue.has_news.Goals as goal

pub returns-clause-none : goal.returns-clause-none
returns-clause-none c = λ e.
    let same : c.is_any_below.result ≡ has_news c.args.self.now c.args.live = search rules in
    fill_of-no_news c.args.self.now c.args.live (sym same ∙ e)

pub returns-clause-some : goal.returns-clause-some
returns-clause-some c = λ e.
    let same : c.is_any_below.result ≡ has_news c.args.self.now c.args.live = search rules in
    fill_of-news c.args.self.now c.args.live (sym same ∙ e)
