-- What a stored event or reply stands for.
use Rattle.std.specs.Prelude.{ℕ, []}
use Rattle.lg_detector.specs.declared.event.Event.{Event}
use Rattle.lg_detector.specs.declared.event.Event.TheVariants.{Open, Tick, Heard, Ask, Health, Pull, Leave}
use Rattle.lg_detector.specs.declared.reply.Reply.{Reply}
use Rattle.lg_history.specs.declared.event.Content.{Content}
use Rattle.lg_history.specs.declared.event.Content.TheVariants.{Opens, Ticks, Hears, Asks, AsksHealth, Pulls, Leaves}
use Rattle.lg_history.specs.declared.reply.Form.{Form}
use Rattle.lg_history.specs.declared.reply.Form.TheVariants.{Exact, Forgetting, Whole}

-- the event with this moment and this content
abbrev pub event_in : ℕ → Content → Event
event_in now (Opens config) = Open now config.value
event_in now (Ticks words) = Tick now words.value
event_in now (Hears hearing) = Heard now hearing.value.source hearing.value.packet
event_in now (Asks name) = Ask now name.value
event_in now AsksHealth = Health now
event_in now (Pulls peer) = Pull now peer
event_in now (Leaves words) = Leave now words.value

-- the reply without the names that were forgotten
abbrev pub told_but_forgotten : Reply → Reply
told_but_forgotten reply = record reply { forgotten = record { items = [] } }

-- the reply, however it is stored
abbrev pub reply_in : Form → Reply
reply_in (Exact exact) = exact.value
reply_in (Forgetting forgetting) = forgetting.value
reply_in (Whole whole) = whole.value
