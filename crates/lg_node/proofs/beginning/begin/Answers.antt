use Rattle.std.proofs.Common.{◌≡◌, [], refl}
use Rattle.lg_turns.specs.Meaning.Turns.{line}
use Rattle.lg_turns.specs.Meaning.NodeLinks.{failures_of}
use Rattle.lg_node.proofs.EarlyLaws.{refused_early}
use Rattle.lg_node.proofs.beginning.begin.Goals as goal

pub returns-in_default-clause-refused : goal.returns-in_default-clause-refused
returns-in_default-clause-refused g c = λ start name told. tt

pub returns-in-Err-clause-refused : goal.returns-in-Err-clause-refused
returns-in-Err-clause-refused g c = λ start name told.
    let ready = c.in-Some.ensures _ start name told in
    let refused = c.in-Err.ensures.refused in
    refused_early c.args.setup.now.config.now start refused.0.seen c.in-Err.refusal (rw ready.2 at refused.1) refused.2

pub returns-clause-begun : goal.returns-clause-begun
returns-clause-begun g c = λ start name told.
    let ready = c.in-Some.ensures _ start name told in
    let seeds : c.deref.result.now ≡ c.args.setup.now.settings.now.seeds.items = cc in record {
      sends = line [] (failures_of c.link_of-sends.result);
      links =
          record {
            receiving = c.link_of.result;
            receiving_keys = c.link_of.ensures.keys;
            receiving_is = rw (c.of-sides.ensures.receiver, c.new.ensures.link) refl;
            receiving_unfailed = c.link_of.ensures.unfailed;
            ticking = c.link_of-sends.result;
            ticking_keys = c.link_of-sends.ensures.keys;
            ticking_is = refl;
            ticking_unfailed = c.link_of-sends.ensures.unfailed;
          };
      asked = rw (c.of-sides.ensures.ticker, c.new-2.ensures.link) (rw (ready.2, seeds) at c.in-Ok.ensures.asked);
      receiver_is = rw (c.of-sides.ensures.receiver, c.new.ensures.pass) ready.0;
      ticker_is = rw (c.of-sides.ensures.ticker, c.new-2.ensures.pass) ready.1;
      status_is = ready.3;
      recorder_is = ready.4;
    }
