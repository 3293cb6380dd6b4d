-- Worked rows: fields with their bytes, and bytes with their faults.
use Rattle.std.specs.Prelude.{◌≡◌, ℕ, List, [], ◌∷◌, ◌++◌, replicate, take, Ok, Err, false, true, refl}
use Rattle.sha2.specs.Sha256.{compress, digest_bytes, first_words, hash_after, rounds, schedule, sha256}
use Rattle.lg_rules.specs.declared.addr.Addr.{Addr}
use Rattle.lg_rules.specs.declared.addr.Ip.TheVariants.{V4}
use Rattle.lg_rules.specs.declared.claim.Claim.{Claim}
use Rattle.lg_rules.specs.declared.claim.Status.TheVariants.{Alive}
use Rattle.lg_timing.specs.declared.config.Config.{Config}
use Rattle.lg_timing.specs.Meaning.Keys.{defaults}
use Rattle.lg_packet.specs.Meaning.Spelling.{spelling}
use Rattle.lg_packet.specs.Meaning.Reading.{addr_at, body_at, claim_at, claims_at, head_at, incarnation_at, name_at}
use Rattle.lg_packet.specs.Meaning.Reading.{name_or_none_at, packet_at, packet_of, some_name_at, status_at}
use Rattle.lg_fields.specs.declared.fault.FieldFault.TheVariants.{Check, Count, Kind, Name, Number, Packet, Short}
use Rattle.lg_fields.specs.Meaning.Spelled.{chunk, spelled_config, spelled_count, spelled_digits, spelled_flag}
use Rattle.lg_fields.specs.Meaning.Spelled.{spelled_records, spelled_text}
use Rattle.lg_fields.specs.Meaning.Scanned.{bounded_scan, chunk_scan, config_scan, count_scan, digits_scan, few_scan}
use Rattle.lg_fields.specs.Meaning.Scanned.{flag_scan, label_scan, numbers_scan, records_scan, seed_scan, seeds_scan}
use Rattle.lg_fields.specs.Meaning.Scanned.{text_scan}

unfoldable pub by_computing : Unit {0}
unfolding spelled_digits spelled_count spelled_config chunk digits_scan count_scan bounded_scan few_scan text_scan
    records_scan numbers_scan seed_scan seeds_scan config_scan chunk_scan spelling packet_of packet_at head_at name_at
    some_name_at name_or_none_at addr_at body_at claims_at claim_at incarnation_at status_at
by_computing = tt

-- ---- numbers

none : spelled_count 0 ≡ 0 ∷ []
unfolding by_computing
none = refl

one_byte : spelled_count 127 ≡ 127 ∷ []
unfolding by_computing
one_byte = refl

-- 128 is 0 and 1 times 128
two_bytes : spelled_count 128 ≡ 128 ∷ 1 ∷ []
unfolding by_computing
two_bytes = refl

-- 300 is 44 and 2 times 128
three_hundred : spelled_count 300 ≡ 0xac ∷ 2 ∷ []
unfolding by_computing
three_hundred = refl

-- the greatest number: nine times seven bits, and one more
greatest : spelled_count 18446744073709551615 ≡ replicate 9 255 ++ 1 ∷ []
unfolding by_computing
greatest = refl

read_three_hundred : count_scan (0xac ∷ 2 ∷ 7 ∷ []) ≡ Ok (300, 7 ∷ [])
unfolding by_computing
read_three_hundred = refl

read_greatest : count_scan (replicate 9 255 ++ 1 ∷ []) ≡ Ok (18446744073709551615, [])
unfolding by_computing
read_greatest = refl

-- one above it, and a number whose tenth byte goes on
too_great : count_scan (replicate 9 128 ++ 2 ∷ []) ≡ Err Number
unfolding by_computing
too_great = refl

too_long : count_scan (replicate 10 255 ++ 1 ∷ []) ≡ Err Number
unfolding by_computing
too_long = refl

-- a byte more than is needed: 0 and 1 in two bytes, and 0 in ten
long_zero : count_scan (128 ∷ 0 ∷ []) ≡ Err Number
unfolding by_computing
long_zero = refl

long_one : count_scan (129 ∷ 0 ∷ []) ≡ Err Number
unfolding by_computing
long_one = refl

longest_zero : count_scan (replicate 9 128 ++ 0 ∷ []) ≡ Err Number
unfolding by_computing
longest_zero = refl

-- a number whose end is missing
no_end : count_scan (255 ∷ 255 ∷ []) ≡ Err Short
unfolding by_computing
no_end = refl

-- a number out of its range, and a count of too many
above : bounded_scan 127 (128 ∷ 1 ∷ []) ≡ Err Number
unfolding by_computing
above = refl

too_many : few_scan 12 (13 ∷ []) ≡ Err Count
unfolding by_computing
too_many = refl

-- ---- flags and texts

set : flag_scan (spelled_flag true) ≡ Ok (true, [])
set = refl

not_set : flag_scan (0 ∷ 9 ∷ []) ≡ Ok (false, 9 ∷ [])
not_set = refl

no_flag : flag_scan (2 ∷ []) ≡ Err Kind
no_flag = refl

text : spelled_text (97 ∷ 98 ∷ []) ≡ 2 ∷ 97 ∷ 98 ∷ []
unfolding by_computing
text = refl

read_text : text_scan (2 ∷ 97 ∷ 98 ∷ 99 ∷ []) ≡ Ok (97 ∷ 98 ∷ [], 99 ∷ [])
unfolding by_computing
read_text = refl

short_text : text_scan (2 ∷ 97 ∷ []) ≡ Err Short
unfolding by_computing
short_text = refl

bad_label : label_scan (1 ∷ 32 ∷ []) ≡ Err Name
unfolding by_computing
bad_label = refl

-- ---- records

no_records : spelled_records [] ≡ 0 ∷ []
unfolding by_computing
no_records = refl

read_no_records : records_scan (0 ∷ []) ≡ Ok ([], [])
unfolding by_computing
read_no_records = refl

-- the claim that c is alive at 127.0.0.1:7003
abbrev there : Claim
there =
    let addr : Addr = record { ip = V4 (127 ∷ 0 ∷ 0 ∷ 1 ∷ []); port = 7003 } in
    record { name = 99 ∷ []; addr = addr; status = Alive; incarnation = 3 }

-- its Page has 22 bytes: the head, no group, the sender c, and one claim
abbrev there_bytes : List ℕ
there_bytes =
    22 ∷ 0x53 ∷ 0x4c ∷ 3 ∷ 6 ∷ 0 ∷ 1 ∷ 99 ∷ 1 ∷ 1 ∷ 1 ∷ 99 ∷ 4 ∷ 127 ∷ 0 ∷ 0 ∷ 1 ∷ 0x1b ∷ 0x5b
    ∷ 0 ∷ 0 ∷ 0 ∷ 3 ∷ []

one_record : spelled_records (there ∷ []) ≡ there_bytes
unfolding by_computing
one_record = refl

read_one_record : records_scan (there_bytes ++ 5 ∷ []) ≡ Ok (there ∷ [], 5 ∷ [])
unfolding by_computing
read_one_record = refl

-- the same claim in a Page of d, and in a Gossip; and a Page with no claims
other_sender : records_scan
    (22 ∷ 0x53 ∷ 0x4c ∷ 3 ∷ 6 ∷ 0 ∷ 1 ∷ 100 ∷ 1 ∷ 1 ∷ 1 ∷ 99 ∷ 4 ∷ 127 ∷ 0 ∷ 0 ∷ 1 ∷ 0x1b ∷ 0x5b
    ∷ 0 ∷ 0 ∷ 0 ∷ 3 ∷ []) ≡ Err Packet
unfolding by_computing
other_sender = refl

other_body : records_scan
    (22 ∷ 0x53 ∷ 0x4c ∷ 3 ∷ 7 ∷ 0 ∷ 1 ∷ 99 ∷ 1 ∷ 1 ∷ 1 ∷ 99 ∷ 4 ∷ 127 ∷ 0 ∷ 0 ∷ 1 ∷ 0x1b ∷ 0x5b
    ∷ 0 ∷ 0 ∷ 0 ∷ 3 ∷ []) ≡ Err Packet
unfolding by_computing
other_body = refl

empty_page : records_scan (8 ∷ 0x53 ∷ 0x4c ∷ 3 ∷ 6 ∷ 0 ∷ 1 ∷ 99 ∷ 0 ∷ []) ≡ Err Packet
unfolding by_computing
empty_page = refl

-- ---- configurations

-- the default configuration of a member a at 127.0.0.1:7001
abbrev usual : Config
usual = defaults (97 ∷ []) (record { ip = V4 (127 ∷ 0 ∷ 0 ∷ 1 ∷ []); port = 7001 })

-- 1000 is 104 and 7 times 128, 500 is 116 and 3 times, 800 is 32 and 6 times, 20000 is 32, 28 times, and 1 time 128
-- times 128, and 200 is 72 and 1 time
abbrev usual_bytes : List ℕ
usual_bytes =
    0xe8 ∷ 7 ∷ 0xf4 ∷ 3 ∷ 3 ∷ 8 ∷ 5 ∷ 6 ∷ 3 ∷ 4 ∷ 0xa0 ∷ 6 ∷ 0xa0 ∷ 0x9c ∷ 1 ∷ 1 ∷ 0 ∷ 0xc8 ∷ 1 ∷ 3 ∷ 1
    ∷ 1 ∷ 97 ∷ 4 ∷ 127 ∷ 0 ∷ 0 ∷ 1 ∷ 0x1b ∷ 0x59 ∷ 0 ∷ 0 ∷ []

spelled_usual : spelled_config usual ≡ usual_bytes
unfolding by_computing
spelled_usual = refl

read_usual : config_scan (usual_bytes ++ 8 ∷ []) ≡ Ok (usual, 8 ∷ [])
unfolding by_computing
read_usual = refl

-- 17 seeds are too many
many_seeds : config_scan (take 31 usual_bytes ++ 17 ∷ []) ≡ Err Count
unfolding by_computing
many_seeds = refl

-- ---- chunks

-- the chunk of no bytes: their SHA-256 begins with e3b0c442
empty_chunk : chunk [] ≡ 0 ∷ 0xe3 ∷ 0xb0 ∷ 0xc4 ∷ 0x42 ∷ []
unfolding by_computing sha256 first_words schedule rounds compress hash_after digest_bytes
empty_chunk = refl

read_empty_chunk : chunk_scan (0 ∷ 0xe3 ∷ 0xb0 ∷ 0xc4 ∷ 0x42 ∷ 1 ∷ []) ≡ Ok ([], 1 ∷ [])
unfolding by_computing sha256 first_words schedule rounds compress hash_after digest_bytes
read_empty_chunk = refl

other_digest : chunk_scan (0 ∷ 0xe3 ∷ 0xb0 ∷ 0xc4 ∷ 0x43 ∷ []) ≡ Err Check
unfolding by_computing sha256 first_words schedule rounds compress hash_after digest_bytes
other_digest = refl

short_digest : chunk_scan (0 ∷ 0xe3 ∷ 0xb0 ∷ 0xc4 ∷ []) ≡ Err Short
unfolding by_computing
short_digest = refl
