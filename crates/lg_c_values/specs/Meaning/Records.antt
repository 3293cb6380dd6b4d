-- A record as C has it.
use Rattle.std.specs.Prelude.{ℕ}
use Rattle.lg_rules.specs.declared.claim.Claim.{Claim}
use Rattle.lg_rules.specs.declared.claim.Status.{Status}
use Rattle.lg_rules.specs.declared.claim.Status.TheVariants.{Alive, Suspect, Failed, Left}
use Rattle.lg_c_values.specs.declared.name.LgName.{LgName}
use Rattle.lg_c_values.specs.declared.record.LgRecord.{LgRecord}
use Rattle.lg_c_values.specs.Meaning.Addresses.{c_addr, no_c_addr}
use Rattle.lg_c_values.specs.Meaning.Names.{c_name, no_c_name}

-- the number that C is given for a status
abbrev pub c_status : Status → ℕ
c_status Alive = 1
c_status (Suspect accuser) = 2
c_status Failed = 3
c_status Left = 4

-- the accuser that C is given
abbrev pub c_accuser : Status → LgName
c_accuser (Suspect accuser) = c_name accuser
c_accuser Alive = no_c_name
c_accuser Failed = no_c_name
c_accuser Left = no_c_name

-- what C is given for a record
abbrev pub c_record : Claim → LgRecord
c_record r =
    record {
      name = c_name r.name;
      accuser = c_accuser r.status;
      address = c_addr r.addr;
      incarnation = r.incarnation;
      status = c_status r.status;
    }

-- what C is given for no record
abbrev pub no_c_record : LgRecord
no_c_record = record { name = no_c_name; accuser = no_c_name; address = no_c_addr; incarnation = 0; status = 0 }
