-- The faults for which a node counts the datagrams that it drops (this project's choice).
use Rattle.std.specs.Prelude.{◌≡◌, ℕ, List, [], ◌∷◌, codes, map}
use Rattle.lg_packet.specs.declared.fault.Fault.{Fault}
use Rattle.lg_packet.specs.declared.fault.Fault.TheVariants as fault
use Rattle.lg_counters.specs.declared.counts.Drops.{Drops}

-- the name by which a fault of a packet is shown
abbrev pub fault_name : Fault → List ℕ
fault_name fault.Short = codes "Short"
fault_name fault.Magic = codes "Magic"
fault_name fault.Version = codes "Version"
fault_name fault.Kind = codes "Kind"
fault_name fault.Name = codes "Name"
fault_name fault.Count = codes "Count"
fault_name fault.ClaimKind = codes "ClaimKind"
fault_name fault.Incarnation = codes "Incarnation"
fault_name fault.Trailing = codes "Trailing"
fault_name fault.Family = codes "Family"

-- The faults for which datagrams are dropped, in the order in which they are shown: those of a packet in the order of
-- their numbers, then those of a datagram that isn't sealed as a keyed link wants it, and then that of a packet of
-- another group.
abbrev pub fault_names : List (List ℕ)
fault_names =
    codes "Short" ∷ codes "Magic" ∷ codes "Version" ∷ codes "Kind" ∷ codes "Name" ∷ codes "Count" ∷ codes "ClaimKind"
    ∷ codes "Incarnation" ∷ codes "Trailing" ∷ codes "Family" ∷ codes "Unsigned" ∷ codes "Forged"
    ∷ codes "OtherGroup" ∷ []

-- there is one row for each fault, in this order
abbrev pub AreOfFaults : List Drops → Type 0
AreOfFaults rows = map (λ row. row.fault.now) rows ≡ fault_names
