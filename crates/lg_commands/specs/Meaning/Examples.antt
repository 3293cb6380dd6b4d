-- Worked inputs.
use Rattle.std.specs.Prelude.{◌≡◌, ℕ, true, false, List, [], ◌∷◌}
use Rattle.std.specs.Prelude.{◌++◌, map, take, None, Ok, Err, codes, refl}
use Rattle.std.specs.Fmt.{digits}
use Rattle.std.specs.List.{flat_map}
use Rattle.hex.proofs.OnLiterals.{hex_on_literals}
use Rattle.lg_rules.specs.declared.claim.Claim.{Claim}
use Rattle.lg_rules.specs.declared.claim.Status.TheVariants.{Alive}
use Rattle.lg_packet.specs.declared.packet.Body.TheVariants.{Ack, Ping}
use Rattle.lg_packet.specs.declared.packet.Packet.{Packet}
use Rattle.lg_rules.specs.declared.version.Version.TheVariants.{One}
use Rattle.lg_packet.specs.Meaning.Reading.{addr_at, body_at, claim_at, claims_at, head_at, incarnation_at}
use Rattle.lg_packet.specs.Meaning.Reading.{name_at, packet_at, packet_of, status_at}
use Rattle.lg_packet.specs.Meaning.Spelling.{spelling}
use Rattle.lg_timing.specs.Meaning.Tables.{log10_of, ratio_of}
use Rattle.lg_timing.specs.Meaning.Timeouts.{range_of, timeout_of}
use Rattle.lg_text.specs.Meaning.Lines.{lines_of, newline}
use Rattle.lg_text.specs.declared.end.RunEnd.TheVariants.{Done}
use Rattle.lg_commands.specs.Meaning.Answering.{answer_end, answer_text, events_of_lines, heard_event, opening}
use Rattle.lg_commands.specs.Meaning.Answering.{sent_text}
use Rattle.lg_script.specs.Meaning.Values.{local}
use Rattle.lg_commands.specs.Meaning.Choosing.{are_names, comma_parts, names_of_text, order_text, words_of_text}
use Rattle.lg_commands.specs.Meaning.Spelled.{packet_in}
use Rattle.lg_commands.specs.Meaning.Timeouts.{timeouts_text}
use Rattle.lg_commands.specs.declared.order.BadList.TheVariants.{Names, Words}

-- a Ping from a for b, numbered 7
abbrev ping : List ℕ
ping = codes "534c0101016100000007016200"

pinged : Packet
pinged = record {
  version = One;
  group = None;
  sender = 97 ∷ [];
  body = Ping 7 (98 ∷ []);
  claims = record { items = [] };
}

heard-ping : events_of_lines (codes "b") (lines_of (ping ++ 10 ∷ [])) ≡ opening (98 ∷ []) ∷ heard_event pinged ∷ []
unfolding events_of_lines packet_in hex_on_literals packet_of packet_at head_at name_at body_at claims_at pinged
heard-ping = refl

acked : sent_text record {
  version = One;
  group = None;
  sender = 98 ∷ [];
  body = Ack 7 None;
  claims = record { items = [] };
}
    ≡ codes "534c010301620000000700" ++ 10 ∷ []
unfolding hex_on_literals spelling
acked = refl

done : answer_end (ping ++ 10 ∷ []) ≡ Done
unfolding answer_end packet_in hex_on_literals packet_of packet_at head_at name_at body_at claims_at
done = refl

-- the claim that c is alive, with the incarnation 0
c-alive : Claim
c-alive = record { name = 99 ∷ []; addr = local 7003; status = Alive; incarnation = 0 }

heard-claim : packet_in (codes "534c01010161000000070163010101637f0000011b5b00000000")
    ≡ Ok record {
      version = One;
      group = None;
      sender = 97 ∷ [];
      body = Ping 7 (99 ∷ []);
      claims = record { items = c-alive ∷ [] };
    }
unfolding packet_in hex_on_literals packet_of packet_at head_at name_at body_at claims_at claim_at addr_at
    incarnation_at status_at c-alive
heard-claim = refl

acked-with-claim : sent_text record {
  version = One;
  group = None;
  sender = 98 ∷ [];
  body = Ack 8 None;
  claims = record { items = c-alive ∷ [] };
}
    ≡ codes "534c0103016200000008010101637f0000011b5b00000000" ++ 10 ∷ []
unfolding hex_on_literals spelling c-alive
acked-with-claim = refl

-- a Ping for another isn't answered
for-another : answer_text (codes "b") (codes "534c01010161000000070163010101637f0000011b5b00000000" ++ 10 ∷ []) ≡ []
unfolding answer_text events_of_lines packet_in hex_on_literals packet_of packet_at head_at name_at body_at claims_at
    claim_at addr_at incarnation_at status_at
for-another = refl

past-greatest : answer_text (codes "b") (codes "534c01010161000000010162010201627f0000011b583b9aca010161" ++ 10 ∷ [])
    ≡ codes "fault 8 Incarnation" ++ 10 ∷ []
unfolding answer_text events_of_lines packet_in hex_on_literals packet_of packet_at head_at name_at body_at claims_at
    claim_at addr_at incarnation_at status_at
past-greatest = refl

trailing : answer_text (codes "b") (ping ++ codes "00") ≡ codes "fault 9 Trailing" ++ 10 ∷ []
unfolding answer_text events_of_lines packet_in hex_on_literals packet_of packet_at head_at name_at body_at claims_at
trailing = refl

-- some lines, each with its newline
abbrev lines : List (List ℕ) → List ℕ
lines texts = flat_map (λ line. line ++ newline) texts

-- five confirmations among sixteen members, at an interval of 200 ms
sixteen-members : timeouts_text record { members = 16; confirmations = 5; alpha = 5; beta = 6; interval_ms = 200 }
    ≡ lines (codes "min 1204" ∷ codes "max 7224"
    ∷ codes "0 7224" ∷ codes "1 4901" ∷ codes "2 3534" ∷ codes "3 2571" ∷ codes "4 1819" ∷ codes "5 1204"
    ∷ [])
unfolding timeouts_text range_of timeout_of log10_of ratio_of digits
sixteen-members = refl

-- four members are too few for three confirmations
four-members : timeouts_text record { members = 4; confirmations = 3; alpha = 5; beta = 6; interval_ms = 1000 }
    ≡ lines (codes "min 5000" ∷ codes "max 30000" ∷ codes "0 5000" ∷ [])
unfolding timeouts_text range_of timeout_of log10_of ratio_of digits
four-members = refl

three-parts : comma_parts (codes "a,,b") ≡ codes "a" ∷ [] ∷ codes "b" ∷ []
three-parts = refl

empty-parts : comma_parts (codes ",") ≡ [] ∷ [] ∷ []
empty-parts = refl

-- the two choices of a are three apart
two-to-choose : order_text (codes "a,b") (codes "0,0,1,0")
    ≡ Ok (lines (codes "a" ∷ codes "b" ∷ codes "b" ∷ codes "a" ∷ []))
unfolding order_text names_of_text words_of_text
two-to-choose = refl

three-to-choose :
    order_text (codes "b,c,d") (codes "4,0,5") ≡ Ok (lines (codes "c" ∷ codes "b" ∷ codes "d" ∷ []))
unfolding order_text names_of_text words_of_text
three-to-choose = refl

-- the names may stand in any order
in-any-order : order_text (codes "d,b,c") (codes "4,0,5") ≡ Ok (lines (codes "c" ∷ codes "b" ∷ codes "d" ∷ []))
unfolding order_text names_of_text words_of_text
in-any-order = refl

one-to-choose : order_text (codes "a") (codes "9,9") ≡ Ok (lines (codes "a" ∷ codes "a" ∷ []))
unfolding order_text names_of_text words_of_text
one-to-choose = refl

no-words : order_text (codes "a,b") [] ≡ Ok []
unfolding order_text names_of_text words_of_text
no-words = refl

name-twice : order_text (codes "a,a") (codes "0") ≡ Err Names
unfolding order_text names_of_text words_of_text
name-twice = refl

no-names : order_text [] (codes "0") ≡ Err Names
unfolding order_text names_of_text words_of_text
no-names = refl

-- 256 names, each of two letters out of sixteen: one name more than a list may have.
abbrev letters : List ℕ
letters = codes "abcdefghijklmnop"

abbrev two-letter-names : List (List ℕ)
two-letter-names = flat_map (λ m. map (λ n. m ∷ n ∷ []) letters) letters

most-names : are_names (take 255 two-letter-names) ≡ true
most-names = refl

too-many-names : are_names two-letter-names ≡ false
too-many-names = refl

greatest-word : order_text (codes "a") (codes "4294967295") ≡ Ok (lines (codes "a" ∷ []))
unfolding order_text names_of_text words_of_text
greatest-word = refl

past-greatest-word : order_text (codes "a") (codes "4294967296") ≡ Err Words
unfolding order_text names_of_text words_of_text
past-greatest-word = refl

-- leading zeros count as digits
seventeen-digits : order_text (codes "a") (codes "0000000000000001,00000000000000001") ≡ Err Words
unfolding order_text names_of_text words_of_text
seventeen-digits = refl

signed-word : order_text (codes "a") (codes "+1") ≡ Err Words
unfolding order_text names_of_text words_of_text
signed-word = refl

two-empty-words : order_text (codes "a") (codes ",") ≡ Err Words
unfolding order_text names_of_text words_of_text
two-empty-words = refl

-- the names are judged first
both-bad : order_text (codes "a,a") (codes "x") ≡ Err Names
unfolding order_text names_of_text words_of_text
both-bad = refl
