-- Worked ends of a node.
use Rattle.std.specs.Prelude.{◌≡◌, ℕ, List, [], Bool, true, false, Some, None, Result, Ok, Err, Vec, codes, refl}
use Rattle.std.specs.Fmt.{digits}
use Rattle.std.specs.declared.alloc.Global.{Global}
use Rattle.std.specs.declared.io.ErrorKind.{ErrorKind}
use Rattle.std.specs.declared.io.ErrorKind.TheVariants.{StorageFull}
use Rattle.lg_rules.specs.declared.claim.Claim.{Claim}
use Rattle.lg_text.specs.declared.fault.RunFault.{RunFault}
use Rattle.lg_text.specs.declared.fault.RunFault.TheVariants as fault
use Rattle.lg_text.specs.declared.fault.WriteFault.{WriteFault}
use Rattle.lg_packet.specs.declared.fault.Fault.{Fault}
use Rattle.lg_agent.specs.declared.refusal.Refusal.{Refusal}
use Rattle.lg_agent.specs.declared.refusal.Refusal.TheVariants as refusal
use Rattle.lg_agent.specs.declared.refusal.CloseFault.{CloseFault}
use Rattle.lg_agent.specs.declared.refusal.CloseFault.TheVariants.{Missing}
use Rattle.lg_agent.specs.Meaning.Closing.{ClosedValue}
use Rattle.lg_config.specs.declared.fault.FileFault.TheVariants.{Value}
use Rattle.lg_turns.specs.declared.ending.Why.{Why}
use Rattle.lg_turns.specs.declared.ending.Why.TheVariants.{Stopped, Ousted, LinkFailed, Refused, ReadBound}
use Rattle.lg_node.specs.declared.node.NodeEnd.{NodeEnd}
use Rattle.lg_node.specs.declared.node.NodeFault.TheVariants as node
use Rattle.lg_run.specs.declared.told.Told.TheVariants as told
use Rattle.lg_run.specs.Meaning.Running.{table_at_end}
use Rattle.lg_run.specs.Meaning.Telling.{ending, line_of, run_told, status_told}

-- what is seen of two ends, if nothing went wrong after them: status, line, and whether the members are written
record Seen : Type 0 where
  status : ℕ
  line : List ℕ
  writes : Bool

abbrev seen : Why → Why → Seen
seen received ticked =
    let ends = ending received ticked in
    record { status = status_told ends.told; line = line_of ends.told; writes = ends.writes }

abbrev row : ℕ → List ℕ → Bool → Seen
row status line writes = record { status = status; line = line; writes = writes }

both_stopped : seen Stopped Stopped ≡ row 0 [] true
both_stopped = refl

ousted : (ticked : Why) → seen Ousted ticked ≡ row 4 (codes "lg: ousted\n") true
ousted ticked = refl

link_failed : (ticked : Why) → seen LinkFailed ticked ≡ row 5 (codes "lg: link\n") false
link_failed ticked = refl

no_memory : (ticked : Why) → seen (Refused refusal.NoMemory) ticked ≡ row 1 (codes "lg: memory\n") false
no_memory ticked = refl

history_full :
    (limit : ℕ) (ticked : Why)
    → seen (Refused (refusal.HistoryFull limit)) ticked ≡ row 1 (codes "lg: history\n") false
history_full limit ticked = refl

no_packet :
    (bad : Fault) (ticked : Why)
    → seen (Refused (refusal.BadPacket bad)) ticked ≡ row 1 (codes "lg: refused\n") false
no_packet bad ticked = refl

behind :
    (here there : ℕ) (ticked : Why)
    → seen (Refused (refusal.Behind there here)) ticked ≡ row 1 (codes "lg: refused\n") false
behind here there ticked = refl

no_place : (ticked : Why) → seen (Refused refusal.NoPlace) ticked ≡ row 1 (codes "lg: refused\n") false
no_place ticked = refl

no_view : (ticked : Why) → seen (Refused refusal.NoView) ticked ≡ row 1 (codes "lg: refused\n") false
no_view ticked = refl

turns_made : (ticked : Why) → seen ReadBound ticked ≡ row 1 (codes "lg: turns\n") false
turns_made ticked = refl

-- if the receiving loop was stopped, an end of the ticking loop counts as one of the receiving loop does
either_loop : (end : Why) → ending Stopped end ≡ ending end Stopped
either_loop Stopped = refl
either_loop Ousted = refl
either_loop LinkFailed = refl
either_loop (Refused refusal) = refl
either_loop ReadBound = refl

abbrev Members : Type 0
Members = Vec Claim Global

-- a node whose loops ended like this, with these members and this closing
abbrev left : NodeEnd → Why → Why → Result Members Refusal → Result ClosedValue CloseFault → NodeEnd
left e received ticked members closed =
    record e {
      received = record e.received { why = received };
      ticked = record e.ticked { why = ticked };
      members = members;
      closed = closed;
    }

-- If the node was ousted and its members were refused, the refusal is told, and no table is written.
refused_members :
    (e : NodeEnd) (closed : Result ClosedValue CloseFault) (written : Result (Unit {0}) RunFault)
    → run_told (Ok (left e Ousted (Refused (refusal.HistoryFull 2)) (Err refusal.NoMemory) closed)) written
    ≡ told.Memory
refused_members e closed written = refl

no_table :
    (e : NodeEnd) (closed : Result ClosedValue CloseFault)
    → table_at_end (Ok (left e Ousted Stopped (Err refusal.NoView) closed)) ≡ None
no_table e closed = refl

-- Otherwise its members are the table. Why that wasn't written is told before a closing that was refused, and that
-- before the ousting.
the_table :
    (e : NodeEnd) (records : Members) (closed : Result ClosedValue CloseFault)
    → table_at_end (Ok (left e Stopped Ousted (Ok records) closed)) ≡ Some records.items
the_table e records closed = refl

unwritten-table :
    (e : NodeEnd) (records : Members) (closed : Result ClosedValue CloseFault)
    (unwritten : WriteFault)
    → run_told (Ok (left e Stopped Ousted (Ok records) closed)) (Err (fault.Write unwritten)) ≡ told.Write unwritten
unwritten-table e records closed unwritten = refl

unclosed :
    (e : NodeEnd) (records : Members)
    → run_told (Ok (left e Stopped Ousted (Ok records) (Err Missing))) (Ok tt) ≡ told.Close
unclosed e records = refl

nothing_else :
    (e : NodeEnd) (records : Members) (whole : ClosedValue)
    → run_told (Ok (left e Stopped Ousted (Ok records) (Ok whole))) (Ok tt) ≡ told.Ousted
nothing_else e records whole = refl

-- If the link failed, no table is written, and nothing else is told.
link_without_table :
    (e : NodeEnd) (members : Result Members Refusal) (closed : Result ClosedValue CloseFault)
    → table_at_end (Ok (left e Stopped LinkFailed members closed)) ≡ None
link_without_table e members closed = refl

link_alone :
    (e : NodeEnd) (members : Result Members Refusal) (closed : Result ClosedValue CloseFault)
    (written : Result (Unit {0}) RunFault)
    → run_told (Ok (left e Stopped LinkFailed members closed)) written ≡ told.Link
link_alone e members closed written = refl

-- ends before the loops
no_socket :
    (kind : ErrorKind) (written : Result (Unit {0}) RunFault) → run_told (Err (node.Socket kind)) written ≡ told.Link
no_socket kind written = refl

no_status_server :
    (kind : ErrorKind) (written : Result (Unit {0}) RunFault) → run_told (Err (node.Status kind)) written ≡ told.Status
no_status_server kind written = refl

status_line : line_of told.Status ≡ codes "lg: status\n"
status_line = refl

status_of_no_server : status_told told.Status ≡ 6
status_of_no_server = refl

no_clock : (written : Result (Unit {0}) RunFault) → run_told (Err node.Clock) written ≡ told.Refused
no_clock written = refl

refused_opening :
    (written : Result (Unit {0}) RunFault) → run_told (Err (node.Refused refusal.NoMemory)) written ≡ told.Memory
refused_opening written = refl

-- a file with a value that is out of its form
faulty_file : line_of (told.Config Value) ≡ codes "lg: config 14\n"
unfolding digits
faulty_file = refl

faulty_file_status : status_told (told.Config Value) ≡ 3
faulty_file_status = refl

no_file : line_of told.Read ≡ codes "lg: read\n"
no_file = refl

no_output :
    line_of (told.Write (record { kind = StorageFull }))
    ≡ codes "lg: write\nstandard output can't be written: no space is left\n"
no_output = refl

not_closed : line_of told.Close ≡ codes "lg: close\n"
not_closed = refl
