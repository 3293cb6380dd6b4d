-- What an entry tells of the member: its steps.
use Rattle.std.specs.Prelude.{List, ◌++◌, Option}
use Rattle.lg_detector.specs.declared.event.Event.{Event}
use Rattle.lg_detector.specs.declared.reply.Reply.{Reply}
use Rattle.lg_accounts.specs.declared.step.NoteStep.{NoteStep}
use Rattle.lg_notes.specs.declared.insights.MinuteBefore.{MinuteBefore}
use Rattle.lg_notes.specs.declared.subject.NoteSubject.{NoteSubject}
use Rattle.lg_notes.specs.declared.watch.Watch.{Watch}
use Rattle.lg_notes.specs.Meaning.Insights.{InsightsValue, table_known}
use Rattle.lg_notes.specs.Meaning.Probing.{pinged_steps, unanswered_steps, nacked_steps, acked_steps, ended_steps}
use Rattle.lg_notes.specs.Meaning.Probing.{scored_steps, minute_steps}
use Rattle.lg_notes.specs.Meaning.Suspecting.{told_steps, time_over_steps, changed_steps, suspected_steps}

-- What an entry tells of the member, in this order. It is said by what is known of the member before the entry (the
-- watch), by the event and the reply, by what the definitions say of the event, if that is known, and by what was
-- in the minute before.
unfoldable pub steps_of : NoteSubject → Watch → Event → Reply → Option InsightsValue → MinuteBefore → List NoteStep
steps_of subject watch e r known minute =
    pinged_steps subject.name r
    ++ unanswered_steps watch.probe r (table_known known)
    ++ nacked_steps subject watch.probe e
    ++ acked_steps subject watch.probe e
    ++ ended_steps subject.name watch.probe r known
    ++ scored_steps subject watch.probe e r known
    ++ told_steps subject e r known
    ++ time_over_steps subject.name r
    ++ changed_steps subject.name r
    ++ suspected_steps known
    ++ minute_steps subject.name watch.probe r minute
