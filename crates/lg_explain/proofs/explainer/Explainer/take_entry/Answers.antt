use Rattle.std.proofs.Common.{refl, subst, ◌∷◌}
use Rattle.std.proofs.lemmas.Result.{on_ok_weaker}
use Rattle.lg_explain.specs.Meaning.Tellings.{all_told}
use Rattle.lg_explain.specs.Meaning.Told.{EntryTold}
use Rattle.lg_explain.specs.Support.Episodes.{HasGathered}
use Rattle.lg_explain.proofs.explainer.Explainer.take_entry.Goals as goal

pub returns : goal.returns
returns c =
    on_ok_weaker c.add.result
    (λ added. record {
      question = refl;
      reached = λ r has. record {
        at = c.in_ok-told.ensures.at r has.at;
        told =
            subst (λ (t : EntryTold). HasGathered c.add.new.self c.args.self.now.question (t ∷ all_told r.entries)) (c.in_ok-told.ensures.is r has.at)
            (added (all_told r.entries) has.told);
      };
    })
    c.add.ensures
