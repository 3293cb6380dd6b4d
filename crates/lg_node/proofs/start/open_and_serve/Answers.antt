use Rattle.std.proofs.Common.{[], rules, subst}
use Rattle.lg_node.specs.Meaning.Nodes.{WatchesIf}
use Rattle.lg_turns.specs.Meaning.Turns.{line}
use Rattle.lg_turns.specs.Meaning.NodeLinks.{failures_of}
use Rattle.lg_node.proofs.start.open_and_serve.Goals as goal

pub returns-clause-ran : goal.returns-clause-ran
returns-clause-ran g c =
    let opened = c.in-Ok.ensures in
    let begun = c.in-Ok-begin.ensures.begun opened.told.0 opened.name opened.told.1 in
    let ready = c.in-Ok-begin.ready in
    let told = c.in-Ok-begin.ensures.told in
    let left = c.leave-left in
    let end = c.close.ensures in
    let threads = c.join_recorded-joined in record {
      start = opened.told.0;
      receiver = left.result.0.receiver;
      ticker = left.result.0.ticker;
      reader = left.result.0.reader;
      status = left.result.0.status;
      recorder = left.result.0.recorder;
      recorded = rw (left.ensures.passes.3, ← begun.recorder_is) threads.ensures.recorded;
      worked =
          record {
            hears = line [] (failures_of ready.sides.receiver.link);
            hears' = line [] (failures_of threads.result.1.1.0.0.link);
            sends = begun.sends;
            sends' = line [] (failures_of threads.result.1.1.0.1.link);
            asker = ready.asker;
            watcher = threads.result.0.0;
            links = begun.links;
            looped =
                record {
                  between = line [] (failures_of ready.sides.ticker.link);
                  unsent = ready.unsent;
                  later = threads.result.1.1.0.1.end.unsent;
                  asked = begun.asked;
                  ran = rw (
                    end.received,
                    left.ensures.received,
                    end.ticked,
                    left.ensures.ticked,
                    left.ensures.passes.0,
                    left.ensures.passes.1,
                    ← begun.receiver_is,
                    ← begun.ticker_is,
                    ← c.stall_of-stall.ensures,
                    ← c.wait_of.ensures,
                    ← c.in-Ok-begin.ensures.dice,
                    ← c.in-Ok-begin.ensures.plan,
                  )
                      threads.ensures.ran;
                  counted = rw end.ticked left.ensures.counted;
                };
            told = rw (end.watched, left.ensures.watched)
                (subst (λ h. WatchesIf c.args.setup.now.settings.now.follow ready.asker threads.result.0.0 (g.W.Write.contents c.args.writer.now) (g.W.Write.contents h) threads.result.0.1.1)
                (search rules)
                (rw (c.new-watching.ensures.followed, c.new-watching.ensures.pass, c.new-watching.ensures.writer) at threads.ensures.watched.1));
            shown = rw (end.served, left.ensures.served, left.ensures.passes.2) (rw (told.0, told.1, told.2, c.requires.serving, begun.status_is) at threads.ensures.served);
            read = rw end.members left.ensures.read;
          };
      closed = rw (← c.requires.places) end.closed;
    }

pub returns-in-Err-begin-clause-refused : goal.returns-in-Err-begin-clause-refused
returns-in-Err-begin-clause-refused g c =
    let opened = c.in-Ok.ensures in
    rw c.give_up.ensures (c.in-Err-begin.ensures.refused opened.told.0 opened.name opened.told.1)
