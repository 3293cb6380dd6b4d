-- What a recorder is handed of a node: the entries that a rotation cut off, and the head of a file that begins with
-- them.
use Rattle.std.specs.Prelude.{◌≡◌, ℕ, Bool, true, false, List, [], ◌∷◌, map, min, Option, Some, None}
use Rattle.lg_timing.specs.declared.config.Config.{Config}
use Rattle.lg_detector.specs.Support.State.{State}
use Rattle.lg_detector.specs.Support.Ask.{own_standing_state}
use Rattle.lg_detector.specs.Support.Step.{view_state}
use Rattle.lg_history.specs.Meaning.History.{Entry, entry}
use Rattle.lg_agent.specs.Meaning.Values.{CutOffValue, PassValue}
use Rattle.lg_agent.specs.Meaning.Calls.{IsCutOff, IsRotatedPass}
use Rattle.lg_recording.specs.Meaning.Listing.{entry_chunk}
use Rattle.lg_recording.specs.Meaning.Spelling.{greatest_seat}
use Rattle.lg_recording.specs.Meaning.Starts.{spelled_start}
use Rattle.lg_recording.specs.Meaning.Values.{with_standstill}
use Rattle.lg_heads.specs.Meaning.Heads.{BeforeValue, HeadValue, spelled_head_body}
use Rattle.lg_recorder.specs.Meaning.Batches.{BatchValue}

-- whose node it is: its configuration, the bytes of its configuration file, and its program's version
pub record SubjectValue : Type 0 where
  pub config : Config
  pub text : List ℕ
  pub program : List ℕ

-- what was known before entries that were cut off, if others were cut off before them: what their summary tells
abbrev pub known_before : Option State → Option BeforeValue
known_before None = None
known_before (Some s) = Some record { standing = own_standing_state s; table = view_state s }

-- what the head says of a file that begins with them and is begun at this wall time and this moment
abbrev pub head_of_cut : SubjectValue → ℕ → ℕ → CutOffValue → HeadValue
head_of_cut n wall_ms now c =
    record {
      name = n.config.name;
      config = n.config;
      text = n.text;
      program = n.program;
      wall_ms = wall_ms;
      now = now;
      first = c.base;
      before = known_before c.before;
    }

-- An entry as a chunk, before which the clock stood still for so many milliseconds. An agent has no more places than
-- there are seats that can be written, so a greater one is none.
abbrev pub chunk_of : ℕ → Entry → List ℕ
chunk_of stood_still_ms e =
    entry_chunk (with_standstill (entry (min e.seat greatest_seat) e.event e.reply) stood_still_ms)

-- Entries as chunks. The clock stood still for so many milliseconds since entries were taken before these, which the
-- first one says.
abbrev pub chunks_of : ℕ → List Entry → List (List ℕ)
chunks_of stood_still_ms [] = []
chunks_of stood_still_ms (e ∷ es) = chunk_of stood_still_ms e ∷ map (chunk_of 0) es

-- what a recorder is handed
abbrev pub batch_of : SubjectValue → (wall_ms now stood_still_ms : ℕ) → CutOffValue → BatchValue
batch_of n wall_ms now stood_still_ms c =
    record {
      first = c.base;
      head = spelled_start (spelled_head_body (head_of_cut n wall_ms now c));
      chunks = chunks_of stood_still_ms c.entries;
    }

-- A recorder was handed what a rotation cut off: the end of a single thread's history, with the replies of the
-- definitions.
pub record IsHanded (places : ℕ) (batch : BatchValue) : Type 0 where
  pub subject : SubjectValue
  pub wall_ms : ℕ
  pub moment : ℕ
  pub stood_still_ms : ℕ
  pub cut : CutOffValue
  pub is : batch ≡ batch_of subject wall_ms moment stood_still_ms cut
  pub right : IsCutOff places cut

-- What one taking did, of an agent with so many places, by what its pass was and whether it took: the pass was rotated,
-- and the batch is what that cut off; or nothing was done to it.
abbrev pub IsTaking : ℕ → PassValue → Bool → BatchValue → PassValue → Type 0
IsTaking places before true batch after = IsRotatedPass before after × IsHanded places batch
IsTaking places before false batch after = after ≡ before
