use Rattle.lg_follow.proofs.TellingLaws.{telling_on, told_before, turned_by}
use Rattle.lg_follow.proofs.watcher.Watcher.turn.Goals as goal

pub returns-in-Ok-Some : goal.returns-in-Ok-Some
returns-in-Ok-Some g c = λ begin held telling.
    let found = rw c.in-Ok-Some.field-0-is at c.in-Ok-Some.ensures in
    turned_by c.tell.result begin c.args.pass.now c.look.new.pass held (g.W.Write.contents c.args.writer.now) (g.W.Write.contents c.tell.new.writer) c.in-Ok-Some.found
    c.args.self.now.version c.tell.new.self.version telling found.0 found.1 c.tell.ensures

pub returns-in-Ok-None : goal.returns-in-Ok-None
returns-in-Ok-None g c = λ begin held telling.
    let found = rw c.in-Ok-None.field-0-is at c.in-Ok-None.ensures in
    told_before begin c.args.pass.now c.look.new.pass held (g.W.Write.contents c.args.writer.now) c.args.self.now.version found.1.0 telling found.0 found.1.1 found.1.2

pub returns-in-Err : goal.returns-in-Err
returns-in-Err g c = λ begin held telling. (
  telling_on begin c.args.pass.now c.look.new.pass held (g.W.Write.contents c.args.writer.now) c.args.self.now.version telling c.in-Err.ensures.1,
  c.in-Err.ensures.0,
)
