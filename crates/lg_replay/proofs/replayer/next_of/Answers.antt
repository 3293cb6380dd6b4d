use Rattle.std.proofs.Common.{◌<◌, ℕ, List, get_or, arith, subst}
use Rattle.std.specs.List.{AllByRecursion}
use Rattle.lg_packet.specs.Meaning.Bytes.{IsByte}
use Rattle.lg_replay.proofs.ReadLaws.{all_bytes, fault_read, none_read, one_read}
use Rattle.lg_replay.proofs.replayer.next_of.Goals as goal

pub returns-in-None : goal.returns-in-None
returns-in-None c = none_read _ _ c.in-None.ensures

pub returns-in-Some-Ok : goal.returns-in-Some-Ok
returns-in-Some-Ok c =
    let fits : (i : ℕ) → get_or c.args.bytes.now i 0 < 256 = λ i. omega (arith, c.type_inv.bytes i) in
    let fit : AllByRecursion IsByte c.args.entries.now.rest.now =
    subst (λ (bytes : List ℕ). AllByRecursion IsByte bytes) c.requires (all_bytes c.args.bytes.now fits) in
    one_read _ _ c.in-Some-Ok.field-0 c.in-Some-Ok.recorded fit c.in-Some-Ok.field-0-is c.in-Some-Ok.ensures

pub returns-in-Some-Err : goal.returns-in-Some-Err
returns-in-Some-Err c = fault_read _ _ c.in-Some-Err.field-0 c.in-Some-Err.fault c.in-Some-Err.field-0-is c.in-Some-Err.ensures
