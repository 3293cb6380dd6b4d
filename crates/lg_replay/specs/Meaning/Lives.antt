-- What is known of the life of a node while its recordings are read: what happened since its opening, and what the
-- definitions reply behind that. A life begins with an opening, and a node that is started again begins another.
use Rattle.std.specs.Prelude.{ℕ, ◌+◌, ◌==◌, if◌then◌else◌, List, [], ◌∷◌, ◌++◌, length, Option, Some, None}
use Rattle.std.specs.Prelude.{unwrap_or}
use Rattle.lg_detector.specs.Meaning.Step.{is_accepted, reply_after}
use Rattle.lg_detector.specs.declared.event.Event.{Event}
use Rattle.lg_detector.specs.declared.reply.Reply.{Reply}
use Rattle.lg_history.specs.Meaning.History.{Entry}

-- What is known of the past of an entry: all events since the opening, the earliest first; or none of them, if some
-- are missing. Behind an event it is all events with this one. An event that isn't accepted behind what is known shows
-- that some are missing.
abbrev pub past_with : Option (List Event) → Event → Option (List Event)
past_with None e = None
past_with (Some f) e = if is_accepted (f ++ e ∷ []) then Some (f ++ e ∷ []) else None

-- what the definitions reply to an event, if its past is known and the event is accepted behind it
unfoldable pub due_reply : Option (List Event) → Event → Option Reply
due_reply None e = None
due_reply (Some f) e = if is_accepted (f ++ e ∷ []) then Some (reply_after f e) else None

-- the reply that is told of an entry: the due one, or the recorded one if none is known
abbrev pub told_of_entry : Option (List Event) → Entry → Reply
told_of_entry past x = unwrap_or (due_reply past x.event) x.reply

-- The past, and how many packets were sent since the life began, as far as its entries were read.
pub record Life : Type 0 where
  pub past : Option (List Event)
  pub sent : ℕ

-- nothing is known before the first file
abbrev pub unknown_life : Life
unknown_life = record { past = None; sent = 0 }

-- the life behind an entry
abbrev pub life_with : Life → Entry → Life
life_with life x = record {
  past = past_with life.past x.event;
  sent = life.sent + length (told_of_entry life.past x).sends.items;
}

-- the life behind some entries
abbrev pub life_behind : Life → List Entry → Life
life_behind life [] = life
life_behind life (x ∷ xs) = life_behind (life_with life x) xs

-- The past that a file goes on from, by the number of its first entry: the events that are known, if they are so many.
-- If they aren't, or if none are known, some are missing.
abbrev pub past_to : ℕ → Option (List Event) → Option (List Event)
past_to first None = None
past_to first (Some f) = if length f == first then Some f else None

-- The life at the beginning of a file, by the number of its first entry: with the number 0 a life begins.
abbrev pub life_from : ℕ → Life → Life
life_from first life =
    if first == 0 then record { past = Some []; sent = 0 }
    else record { past = past_to first life.past; sent = life.sent }
