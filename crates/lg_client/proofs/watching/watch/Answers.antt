use Rattle.std.proofs.Common.{[], subst, List, ℕ}
use Rattle.std.specs.Io.KnownBytes.{Appends}
use Rattle.lg_text.specs.Meaning.Running.{AppendsFront}
use Rattle.lg_client.specs.declared.fault.AskFault.TheVariants.{Unanswered}
use Rattle.lg_client.specs.Support.Reading.{told_news_shown}
use Rattle.lg_client.proofs.AnswerLaws.{nothing_cut}
use Rattle.lg_client.proofs.WatchLaws.{ends_broken, ends_untold, watching_begins, watching_more}
use Rattle.lg_client.proofs.watching.watch.Goals as goal

pub loop-init : goal.loop-init
loop-init g c = watching_begins c.args.json c.args.writer.now _ _

pub returns-in-Err : goal.returns-in-Err
returns-in-Err g c =
    ends_untold _ _ _ _ _ _ _ _ _ _ _ c.in-Err.fault _ c.requires c.loop.invariant c.in-Err.ensures c.tell.ensures.line c.tell.ensures.status

pub returns-in-Err-write_whole : goal.returns-in-Err-write_whole
returns-in-Err-write_whole g c =
    ends_broken _ _ _ c.loop.writer _ _ _ _ _ _ _ _ _ _ c.requires c.loop.invariant c.in-Ok.ensures.0 c.in-Ok.ensures.1 (told_news_shown c.in-Ok.news) c.in-Ok.ensures.2
    (subst (λ (text : List ℕ). AppendsFront (g.W.Write.contents c.loop.writer) (g.W.Write.contents c.write_whole.new.writer) text) c.deref.ensures.value c.in-Err-write_whole.ensures.partly)
    c.in-Err-write_whole.fault c.tell-in-Err-write_whole.ensures.line c.tell-in-Err-write_whole.ensures.status

pub loop-preserved : goal.loop-preserved
loop-preserved g c =
    rw c.next_version.ensures
    (watching_more _ _ c.loop.writer _ _ _ _ _ _ _ _ c.loop.invariant c.in-Ok.ensures.0 c.in-Ok.ensures.1 (told_news_shown c.in-Ok.news) c.in-Ok.ensures.2
    (subst (λ (text : List ℕ). Appends (g.W.Write.contents c.loop.writer) (g.W.Write.contents c.write_whole.new.writer) text) c.deref.ensures.value c.in-Ok-write_whole.ensures.written))

pub returns : goal.returns
returns g c =
    ends_untold _ _ _ _ _ _ _ _ _ _ _ Unanswered _ c.requires c.loop.invariant ([], nothing_cut) c.tell-2.ensures.line c.tell-2.ensures.status
