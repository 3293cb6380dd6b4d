-- Worked rows: heads with their bytes, and bytes with their faults.
use Rattle.std.specs.Prelude.{◌≡◌, ℕ, List, [], ◌∷◌, ◌++◌, Some, None, Ok, Err, true, refl}
use Rattle.lg_rules.specs.declared.addr.Addr.{Addr}
use Rattle.lg_rules.specs.declared.addr.Ip.TheVariants.{V4}
use Rattle.lg_rules.specs.declared.claim.Claim.{Claim}
use Rattle.lg_rules.specs.declared.claim.Status.TheVariants.{Suspect}
use Rattle.lg_timing.specs.Meaning.Keys.{defaults}
use Rattle.lg_packet.specs.Meaning.Spelling.{spelling}
use Rattle.lg_packet.specs.Meaning.Reading.{addr_at, body_at, claim_at, claims_at, head_at, incarnation_at, name_at}
use Rattle.lg_packet.specs.Meaning.Reading.{name_or_none_at, packet_at, packet_of, some_name_at, status_at}
use Rattle.lg_fields.specs.declared.fault.FieldFault.TheVariants.{Count, Short, Trailing}
use Rattle.lg_fields.specs.Meaning.Spelled.{spelled_config, spelled_count, spelled_digits}
use Rattle.lg_fields.specs.Meaning.Scanned.{bounded_scan, config_scan, count_scan, digits_scan, few_scan, numbers_scan}
use Rattle.lg_fields.specs.Meaning.Scanned.{records_scan, seed_scan, seeds_scan, text_scan}
use Rattle.lg_recording.specs.Meaning.Scanning.{each_scan}
use Rattle.lg_heads.specs.Meaning.Heads.{HeadValue, spelled_before, spelled_head_body, spelled_standing, spelled_table}
use Rattle.lg_heads.specs.Meaning.Scanning.{before_scan, head_in, head_scan, known_before_scan, own_standing_scan}
use Rattle.lg_heads.specs.Meaning.Scanning.{row_scan, table_scan}

unfoldable pub by_computing : Unit {0}
unfolding spelled_digits spelled_count spelled_config digits_scan count_scan bounded_scan few_scan text_scan
    records_scan numbers_scan seed_scan seeds_scan config_scan spelling packet_of packet_at head_at name_at
    some_name_at name_or_none_at addr_at body_at claims_at claim_at incarnation_at status_at each_scan
    spelled_standing spelled_table spelled_before spelled_head_body row_scan table_scan own_standing_scan
    known_before_scan before_scan head_scan head_in
by_computing = tt

-- the address 127.0.0.1:7001
abbrev at_7001 : Addr
at_7001 = record { ip = V4 (127 ∷ 0 ∷ 0 ∷ 1 ∷ []); port = 7001 }

-- The node a with the default configuration, without a file, with the program 0.9.0. It began its file at 1000, which
-- is 104 and 7 times 128, and its clock was at 20. It had made no entry.
abbrev fresh : HeadValue
fresh =
    record {
      name = 97 ∷ [];
      config = defaults (97 ∷ []) at_7001;
      text = [];
      program = 48 ∷ 46 ∷ 57 ∷ 46 ∷ 48 ∷ [];
      wall_ms = 1000;
      now = 20;
      first = 0;
      before = None;
    }

-- the name, the configuration, no text, the program, the wall time and the clock
abbrev front : List ℕ
front =
    1 ∷ 97
    ∷ 0xe8 ∷ 7 ∷ 0xf4 ∷ 3 ∷ 3 ∷ 8 ∷ 5 ∷ 6 ∷ 3 ∷ 4 ∷ 0xa0 ∷ 6 ∷ 0xa0 ∷ 0x9c ∷ 1 ∷ 1 ∷ 0 ∷ 0xc8 ∷ 1 ∷ 3 ∷ 1
    ∷ 1 ∷ 97 ∷ 4 ∷ 127 ∷ 0 ∷ 0 ∷ 1 ∷ 0x1b ∷ 0x59 ∷ 0 ∷ 0
    ∷ 0 ∷ 5 ∷ 48 ∷ 46 ∷ 57 ∷ 46 ∷ 48 ∷ 0xe8 ∷ 7 ∷ 20 ∷ []

fresh_is_spelled : spelled_head_body fresh ≡ front ++ 0 ∷ 0 ∷ []
unfolding by_computing
fresh_is_spelled = refl

fresh_is_read : head_in (front ++ 0 ∷ 0 ∷ []) ≡ Ok fresh
unfolding by_computing
fresh_is_read = refl

-- The same node behind 300 entries, which are 44 and 2 times 128: its score is 2 and its incarnation 7, a claim came
-- that it can't refute, and its table has one record, b suspected by c at the incarnation 1.
abbrev row : Claim
row = record { name = 98 ∷ []; addr = at_7001; status = Suspect (99 ∷ []); incarnation = 1 }

abbrev later : HeadValue
later =
    record fresh {
      first = 300;
      before = Some (record { standing = record { score = 2; number = 7; ousted = true }; table = row ∷ [] });
    }

-- the record as a Page of 24 bytes from b
abbrev row_bytes : List ℕ
row_bytes =
    24 ∷ 0x53 ∷ 0x4c ∷ 3 ∷ 6 ∷ 0 ∷ 1 ∷ 98 ∷ 1
    ∷ 2 ∷ 1 ∷ 98 ∷ 4 ∷ 127 ∷ 0 ∷ 0 ∷ 1 ∷ 0x1b ∷ 0x59 ∷ 0 ∷ 0 ∷ 0 ∷ 1 ∷ 1 ∷ 99 ∷ []

abbrev later_bytes : List ℕ
later_bytes = front ++ 0xac ∷ 2 ∷ 1 ∷ 2 ∷ 0 ∷ 0 ∷ 0 ∷ 7 ∷ 1 ∷ 1 ∷ row_bytes

later_is_spelled : spelled_head_body later ≡ later_bytes
unfolding by_computing
later_is_spelled = refl

later_is_read : head_in later_bytes ≡ Ok later
unfolding by_computing
later_is_read = refl

-- a flag that doesn't fit how many entries were made before
nothing_known : head_in (front ++ 1 ∷ 0 ∷ []) ≡ Err Count
unfolding by_computing
nothing_known = refl

something_known : head_in (front ++ 0 ∷ 1 ∷ []) ≡ Err Count
unfolding by_computing
something_known = refl

-- tables of no records and of 257, which is 1 and 2 times 128
no_rows : table_scan (0 ∷ []) ≡ Err Count
unfolding by_computing
no_rows = refl

many_rows : table_scan (0x81 ∷ 2 ∷ []) ≡ Err Count
unfolding by_computing
many_rows = refl

-- records of which there isn't one
empty_row : row_scan (0 ∷ []) ≡ Err Count
unfolding by_computing
empty_row = refl

-- a body that goes on behind its head, and one that ends before it
it_goes_on : head_in (front ++ 0 ∷ 0 ∷ 0 ∷ []) ≡ Err Trailing
unfolding by_computing
it_goes_on = refl

it_ends : head_in (front ++ 0 ∷ []) ≡ Err Short
unfolding by_computing
it_ends = refl
