use Rattle.std.proofs.Common.{inl, inr}
use Rattle.lg_follow.proofs.TellingLaws.{telling_none, still_telling, watched_failing, finished}
use Rattle.lg_follow.proofs.watching.watch.Goals.{in-Told, in-Refused}
use Rattle.lg_follow.proofs.watching.watch.Goals as goal

pub loop-init : goal.loop-init
loop-init g c = telling_none c.args.pass.now (g.W.Write.contents c.args.writer.now) c.new-watcher.result.version c.new-watcher.ensures

pub returns-in-WriterFailed : goal.returns-in-WriterFailed
returns-in-WriterFailed g c =
    watched_failing c.args.pass.now c.turn.new.pass (g.W.Write.contents c.args.writer.now) (g.W.Write.contents c.turn.new.writer)
    (c.in-WriterFailed.ensures c.args.pass.now (g.W.Write.contents c.args.writer.now) c.loop.invariant)

pub loop-preserved : goal.loop-preserved
loop-preserved g c =
    let turned = c.turn.ensures c.args.pass.now (g.W.Write.contents c.args.writer.now) c.loop.invariant in
    elim c.match-turn.branch [
      | in-Told w ↦ still_telling c.turn.result c.args.pass.now c.turn.new.pass (g.W.Write.contents c.args.writer.now) (g.W.Write.contents c.turn.new.writer) c.turn.new.self.version (inl w.in-Told.is) turned
      | in-Refused w ↦ still_telling c.turn.result c.args.pass.now c.turn.new.pass (g.W.Write.contents c.args.writer.now) (g.W.Write.contents c.turn.new.writer) c.turn.new.self.version (inr (w.in-Refused.field-0, w.in-Refused.is)) turned
    ]

pub returns : goal.returns
returns g c =
    finished c.turn-turned.result c.finish.result c.args.pass.now c.turn-turned.new.pass (g.W.Write.contents c.args.writer.now) (g.W.Write.contents c.turn-turned.new.writer) (g.W.Write.contents c.finish.new.writer)
    c.turn-turned.new.self.version (c.turn-turned.ensures c.args.pass.now (g.W.Write.contents c.args.writer.now) c.loop.invariant) c.finish.ensures
