use Rattle.lg_recording.specs.Meaning.Next.{recorded_in}
use Rattle.lg_replay.proofs.EntriesLaws.{next_none, next_some}
use Rattle.lg_explain.proofs.ExplainedLaws.{amid_all, amid_on, listed_are}
use Rattle.lg_explain.proofs.explainer.Explainer.take_entries.Goals as goal

pub returns-in-Ok-None : goal.returns-in-Ok-None
returns-in-Ok-None c =
    let is = next_none _ _ _ c.in-Ok-None.field-0-is c.in-Ok-None.ensures in
    amid_all _ _ _ _ _ c.entries.invariant (listed_are _ _ is)

pub returns-in-Err : goal.returns-in-Err
returns-in-Err c = amid_all _ _ _ _ _ c.entries.invariant (listed_are _ _ c.in-Err.ensures)

pub entries-preserved : goal.entries-preserved
entries-preserved c =
    let is = next_some _ _ _ c.in-Ok-Some.recorded c.in-Ok-Some.field-0-is c.in-Ok-Some.ensures in
    amid_on _ _ _ _ _ _ _ (recorded_in c.in-Ok-Some.recorded) c.entries.invariant (listed_are _ _ is) c.in_ok-take_entry-in-Ok-Some.ensures
