-- What the program says of a node's run: a status, and a line or two if something went wrong.
use Rattle.std.specs.Prelude.{ℕ, List, [], ◌++◌, codes, decimal, Bool, true, false, if◌then◌else◌}
use Rattle.std.specs.Prelude.{Result, Ok, Err}
use Rattle.lg_text.specs.Meaning.Faults.{unwritten_text}
use Rattle.lg_text.specs.Meaning.Lines.{newline}
use Rattle.lg_config.specs.Meaning.Faults.{fault_number}
use Rattle.lg_text.specs.declared.fault.RunFault.{RunFault}
use Rattle.lg_text.specs.declared.fault.RunFault.TheVariants as fault
use Rattle.lg_agent.specs.declared.refusal.Refusal.{Refusal}
use Rattle.lg_agent.specs.declared.refusal.Refusal.TheVariants as refusal
use Rattle.lg_turns.specs.declared.ending.Why.{Why}
use Rattle.lg_turns.specs.declared.ending.Why.TheVariants as why
use Rattle.lg_node.specs.declared.node.NodeEnd.{NodeEnd}
use Rattle.lg_node.specs.declared.node.NodeFault.{NodeFault}
use Rattle.lg_node.specs.declared.node.NodeFault.TheVariants as node
use Rattle.lg_run.specs.declared.told.Told.{Told}
use Rattle.lg_run.specs.declared.told.Told.TheVariants.{Done, Memory, Read, Write, History, Turns, Refused, Close}
use Rattle.lg_run.specs.declared.told.Told.TheVariants.{Config, Ousted, Link, Status, Key}

-- the exit status
abbrev pub status_told : Told → ℕ
status_told Done = 0
status_told (Config fault) = 3
status_told Ousted = 4
status_told Link = 5
status_told Status = 6
status_told Key = 9
status_told Memory = 1
status_told Read = 1
status_told (Write fault) = 1
status_told History = 1
status_told Turns = 1
status_told Refused = 1
status_told Close = 1

-- `lg: ` and a word or two, as a line
abbrev pub said_line : List ℕ → List ℕ
said_line words = codes "lg: " ++ words ++ newline

-- the line of a faulty configuration file, by the number of the fault
abbrev pub config_line : ℕ → List ℕ
config_line number = said_line (codes "config " ++ decimal number)

-- the line on standard error; with a second one for a text that can't be written
abbrev pub line_of : Told → List ℕ
line_of Done = []
line_of Memory = said_line (codes "memory")
line_of Read = said_line (codes "read")
line_of (Write fault) = unwritten_text fault.kind
line_of History = said_line (codes "history")
line_of Turns = said_line (codes "turns")
line_of Refused = said_line (codes "refused")
line_of Close = said_line (codes "close")
line_of (Config fault) = config_line (fault_number fault)
line_of Ousted = said_line (codes "ousted")
line_of Link = said_line (codes "link")
line_of Status = said_line (codes "status")
line_of Key = said_line (codes "key")

-- what is told of a refusal, and of a fault of memory, reading or writing
abbrev pub refusal_told : Refusal → Told
refusal_told refusal.NoMemory = Memory
refusal_told (refusal.HistoryFull limit) = History
refusal_told (refusal.BadPacket fault) = Refused
refusal_told (refusal.Behind seen here) = Refused
refusal_told refusal.NoPlace = Refused
refusal_told refusal.NoView = Refused

abbrev pub fault_told : RunFault → Told
fault_told fault.Memory = Memory
fault_told (fault.Read unread) = Read
fault_told (fault.Write unwritten) = Write unwritten

-- what the ends of the two loops lead to: what is told of them, and whether the members are to be written
pub record Ending : Type 0 where
  pub told : Told
  pub writes : Bool

abbrev pub with_members : Told → Ending
with_members told = record { told = told; writes = true }

abbrev pub without_members : Told → Ending
without_members told = record { told = told; writes = false }

-- The table of the two ends, the receiving loop's and then the ticking loop's. The first that isn't Stopped counts.
abbrev pub ending : Why → Why → Ending
-- both were stopped: status 0, no line; the members are written
ending why.Stopped why.Stopped = with_members Done
-- the first other end is that the member was ousted: status 4, `lg: ousted`; the members are written
ending why.Ousted ticked = with_members Ousted
ending why.Stopped why.Ousted = with_members Ousted
-- it is that receiving failed: status 5, `lg: link`; nothing is written
ending why.LinkFailed ticked = without_members Link
ending why.Stopped why.LinkFailed = without_members Link
-- it is a refusal: status 1, `lg: memory`, `lg: history` or `lg: refused`; nothing is written
ending (why.Refused refusal) ticked = without_members (refusal_told refusal)
ending why.Stopped (why.Refused refusal) = without_members (refusal_told refusal)
-- it is that the loop made as many turns as it may: status 1, `lg: turns`; nothing is written
ending why.ReadBound ticked = without_members Turns
ending why.Stopped why.ReadBound = without_members Turns

-- The table of what is told if the members are to be written. It goes by the members, the writing of their table, the
-- closing of the agent, and what the ends lead to.
abbrev pub finished : {M C F : Type 0} → Result M Refusal → Result (Unit {0}) RunFault → Result C F → Told → Told
-- the members were refused: that refusal
finished (Err refusal) written closed told = refusal_told refusal
-- their table wasn't written: why, as `lg: memory` or `lg: write`
finished (Ok members) (Err fault) closed told = fault_told fault
-- it was written, and the agent wasn't closed: status 1, `lg: close`
finished (Ok members) (Ok done) (Err fault) told = Close
-- nothing went wrong: what the ends lead to
finished (Ok members) (Ok done) (Ok whole) told = told

-- what is told of a node that was run, given how its table was written
abbrev pub run_told : Result NodeEnd NodeFault → Result (Unit {0}) RunFault → Told
-- its socket couldn't be bound: status 5, `lg: link`
run_told (Err (node.Socket kind)) written = Link
-- its status server couldn't be bound: status 6, `lg: status`
run_told (Err (node.Status kind)) written = Status
-- the machine's clock couldn't be read: status 1, `lg: refused`
run_told (Err node.Clock) written = Refused
-- it was refused before its loops: status 1, `lg: memory`, `lg: history` or `lg: refused`
run_told (Err (node.Refused refusal)) written = refusal_told refusal
-- it ran its loops: what the two tables above say
run_told (Ok e) written =
    let ends = ending e.received.why e.ticked.why in
    if ends.writes then finished e.members written e.closed ends.told else ends.told
