-- Worked replies of a at 127.0.0.1:7001 and of b at 127.0.0.1:7002. First a probe and its ack; then a suspicion, the
-- buddy and the refutation; then a relay and its nack; then replies of further kinds.
use Rattle.std.specs.Prelude.{◌≡◌, ℕ, true, List, [], ◌∷◌, ◌++◌, Some, None, codes, refl}
use Rattle.std.specs.Fmt.{digits}
use Rattle.std.specs.List.{flat_map}
use Rattle.hex.proofs.OnLiterals.{hex_on_literals}
use Rattle.lg_rules.specs.declared.claim.Claim.{Claim}
use Rattle.lg_rules.specs.declared.claim.Status.{Status}
use Rattle.lg_rules.specs.declared.claim.Status.TheVariants.{Alive, Suspect, Failed, Left}
use Rattle.lg_timers.specs.declared.timer.TimerId.{TimerId}
use Rattle.lg_timers.specs.declared.timer.TimerId.TheVariants.{RoundEnd, Suspicion, Direct}
use Rattle.lg_timers.specs.declared.timer.TimerId.TheVariants.{RelayNack, RelayEnd, RoundStart, Forget}
use Rattle.lg_packet.specs.declared.packet.Body.{Body}
use Rattle.lg_packet.specs.declared.packet.Body.TheVariants.{Ping, PingReq, Ack, Nack, Page}
use Rattle.lg_rules.specs.declared.version.Version.TheVariants.{One}
use Rattle.lg_packet.specs.Meaning.Spelling.{spelling}
use Rattle.lg_detector.specs.declared.event.Event.TheVariants.{Ask, Health, Leave}
use Rattle.lg_detector.specs.declared.reply.Answer.TheVariants.{Status as OfStatus, Health as OfHealth}
use Rattle.lg_detector.specs.declared.reply.Outgoing.{Outgoing}
use Rattle.lg_detector.specs.declared.reply.Reply.{Reply}
use Rattle.lg_detector.specs.Meaning.Examples.{a, b, c, at, nothing, opening, says, ticks, timer_of}
use Rattle.lg_text.specs.Meaning.Lines.{newline}
use Rattle.lg_lines.specs.Meaning.Records.{table_text}
use Rattle.lg_lines.specs.Meaning.Replies.{forgotten_text, packet_text, reply_text}

-- What has to be unfolded to compute a worked reply.
unfoldable pub by_computing : Unit {0}
unfolding digits hex_on_literals spelling table_text forgotten_text reply_text
by_computing = tt

-- some lines, each with its newline
abbrev lines : List (List ℕ) → List ℕ
lines texts = flat_map (λ line. line ++ newline) texts

-- a claim about the member whose name is a letter, at a port
abbrev claimed : ℕ → ℕ → Status → ℕ → Claim
claimed letter port status i = record { name = letter ∷ []; addr = at port; status = status; incarnation = i }

-- what the member whose name is a letter sends to a port
abbrev sent : ℕ → ℕ → Body → List Claim → Outgoing
sent sender port body claims =
    record {
      to = at port;
      packet = record {
        version = One;
        group = None;
        sender = sender ∷ [];
        body = body;
        claims = record { items = claims };
      };
    }

-- a reply that sends one packet
abbrev sends : Outgoing → ℕ → Reply
sends s next = record (nothing next) { sends = record { items = s ∷ [] } }

-- a reply to a tick that fired a timer
abbrev fires : TimerId → ℕ → Reply
fires id next = record (nothing next) { fired = Some (timer_of 0 id) }

-- ---- a probe and its ack

opens : reply_text (opening 0) 1 (nothing 0) ≡ lines (codes "next 0" ∷ [])
unfolding by_computing
opens = refl

starts_a_round : reply_text (ticks 0) 1
    (record (sends (sent a 7002 (Ping 1 (b ∷ [])) []) 500) { fired = Some (timer_of 0 RoundStart) })
    ≡ lines (codes "fired round-start"
    ∷ codes "send 1 127.0.0.1:7002 534c0101016100000001016200"
    ∷ codes "next 500" ∷ [])
unfolding by_computing
starts_a_round = refl

acks : reply_text (says 10 (Ping 1 (b ∷ [])) []) 2 (sends (sent b 7001 (Ack 1 None) []) 0)
    ≡ lines (codes "send 2 127.0.0.1:7001 534c010301620000000100" ∷ codes "next 0" ∷ [])
unfolding by_computing
acks = refl

hears_an_ack : reply_text (says 20 (Ack 1 None) []) 3 (nothing 1000) ≡ lines (codes "next 1000" ∷ [])
unfolding by_computing
hears_an_ack = refl

-- an Ack of b, numbered 7
acked : packet_text record {
  version = One;
  group = None;
  sender = 98 ∷ [];
  body = Ack 7 None;
  claims = record { items = [] };
}
    ≡ codes "534c010301620000000700"
unfolding by_computing
acked = refl

-- ---- a suspicion, the buddy and the refutation

asks_nobody : reply_text (ticks 500) 2 (fires Direct 1000) ≡ lines (codes "fired direct" ∷ codes "next 1000" ∷ [])
unfolding by_computing
asks_nobody = refl

suspects : reply_text (ticks 1000) 2
    (record (fires RoundEnd 1000) { changed = record { items = claimed b 7002 (Suspect (a ∷ [])) 0 ∷ [] } })
    ≡ lines (codes "fired round-end"
    ∷ codes "record b suspect 0 127.0.0.1:7002 by a"
    ∷ codes "next 1000" ∷ [])
unfolding by_computing
suspects = refl

sends_the_buddy : reply_text (ticks 1000) 2
    (record (sends (sent a 7002 (Ping 2 (b ∷ [])) (claimed b 7002 (Suspect (a ∷ [])) 0 ∷ [])) 2000) {
      fired = Some (timer_of 1000 RoundStart);
    })
    ≡ lines (codes "fired round-start"
    ∷ codes "send 2 127.0.0.1:7002 534c01010161000000020162010201627f0000011b5a000000000161"
    ∷ codes "next 2000" ∷ [])
unfolding by_computing
sends_the_buddy = refl

refutes : reply_text (says 1010 (Ping 2 (b ∷ [])) (claimed b 7002 (Suspect (a ∷ [])) 0 ∷ [])) 3
    (record (sends (sent b 7001 (Ack 2 None) (claimed b 7002 Alive 1 ∷ [])) 0) {
      changed = record { items = claimed b 7002 Alive 1 ∷ [] };
    })
    ≡ lines (codes "send 3 127.0.0.1:7001 534c0103016200000002010101627f0000011b5a00000001"
    ∷ codes "record b alive 1 127.0.0.1:7002"
    ∷ codes "next 0" ∷ [])
unfolding by_computing
refutes = refl

-- ---- a relay and its nack

asks_a_helper : reply_text (ticks 500) 2
    (record (sends (sent a 7002 (PingReq 1 (c ∷ []) (at 7003)) []) 1000) { fired = Some (timer_of 500 Direct) })
    ≡ lines (codes "fired direct"
    ∷ codes "send 2 127.0.0.1:7002 534c010201610000000101637f0000011b5b00"
    ∷ codes "next 1000" ∷ [])
unfolding by_computing
asks_a_helper = refl

sends_a_nack : reply_text (ticks 910) 4
    (record (sends (sent b 7001 (Nack 1 None) []) 1510) { fired = Some (timer_of 910 (RelayNack 1)) })
    ≡ lines (codes "fired relay-nack 1"
    ∷ codes "send 4 127.0.0.1:7001 534c010401620000000100"
    ∷ codes "next 1510" ∷ [])
unfolding by_computing
sends_a_nack = refl

tells_its_health : reply_text (Health 1000) 5 (record (nothing 1000) { answer = Some (OfHealth 1 0 3) })
    ≡ lines (codes "answer score 1 number 0 members 3" ∷ codes "next 1000" ∷ [])
unfolding by_computing
tells_its_health = refl

-- ---- further kinds

idles : reply_text (ticks 7) 1 (nothing 500) ≡ lines (codes "idle" ∷ codes "next 500" ∷ [])
unfolding by_computing
idles = refl

fails_a_member : reply_text (ticks 9500) 1
    (record (fires (Suspicion (c ∷ [])) 9500) { changed = record { items = claimed c 7003 Failed 4 ∷ [] } })
    ≡ lines (codes "fired suspicion c" ∷ codes "record c failed 4 127.0.0.1:7003" ∷ codes "next 9500" ∷ [])
unfolding by_computing
fails_a_member = refl

closes_a_relay : reply_text (ticks 1510) 1 (fires (RelayEnd 12) 2000)
    ≡ lines (codes "fired relay-end 12" ∷ codes "next 2000" ∷ [])
unfolding by_computing
closes_a_relay = refl

knows_no_such_name : reply_text (Ask 5 (c ∷ [])) 1 (record (nothing 500) { answer = Some (OfStatus None) })
    ≡ lines (codes "answer none" ∷ codes "next 500" ∷ [])
unfolding by_computing
knows_no_such_name = refl

knows_a_suspect : reply_text (Ask 5 (b ∷ [])) 1
    (record (nothing 500) { answer = Some (OfStatus (Some (claimed b 7002 (Suspect (a ∷ [])) 3))) })
    ≡ lines (codes "answer b suspect 3 127.0.0.1:7002 by a" ∷ codes "next 500" ∷ [])
unfolding by_computing
knows_a_suspect = refl

-- A leave fires nothing. A packet of version 1 tells its record, which is Left, as Failed.
tells_its_leave : reply_text (Leave 10 (1 ∷ 7 ∷ 0 ∷ 0 ∷ 0 ∷ 0 ∷ 0 ∷ 0 ∷ [])) 3
    (record (sends (sent b 7001 Page (claimed b 7002 Left 0 ∷ [])) 1010) {
      changed = record { items = claimed b 7002 Left 0 ∷ [] };
    })
    ≡ lines (codes "send 3 127.0.0.1:7001 534c01060162010301627f0000011b5a00000000"
    ∷ codes "record b left 0 127.0.0.1:7002"
    ∷ codes "next 1010" ∷ [])
unfolding by_computing
tells_its_leave = refl

leaves_again : reply_text (Leave 30 (0 ∷ 0 ∷ 0 ∷ 0 ∷ 0 ∷ 0 ∷ 0 ∷ 0 ∷ [])) 4 (nothing 1010)
    ≡ lines (codes "next 1010" ∷ [])
unfolding by_computing
leaves_again = refl

-- b, which left or failed long ago, is forgotten
forgets_a_member : reply_text (ticks 86400010) 7
    (record (fires (Forget (b ∷ [])) 86400500) { forgotten = record { items = (b ∷ []) ∷ [] } })
    ≡ lines (codes "fired forget b" ∷ codes "forgot b" ∷ codes "next 86400500" ∷ [])
unfolding by_computing
forgets_a_member = refl

-- names that were forgotten stand in their order, also one that is known again
makes_room : reply_text (says 20 (Ack 1 None) (claimed a 7001 Alive 1 ∷ claimed b 7002 Alive 0 ∷ [])) 7
    (record (nothing 500) {
      changed = record { items = claimed b 7002 Alive 0 ∷ [] };
      forgotten = record { items = (c ∷ []) ∷ (b ∷ []) ∷ [] };
    })
    ≡ lines (codes "record b alive 0 127.0.0.1:7002" ∷ codes "forgot c" ∷ codes "forgot b" ∷ codes "next 500" ∷ [])
unfolding by_computing
makes_room = refl

-- the packets of an event are numbered one after another
asks_two_helpers : reply_text (ticks 500) 9
    (record (fires Direct 1000)
    { sends = record { items = sent a 7002 (Nack 1 None) [] ∷ sent a 7003 (Nack 2 None) [] ∷ [] } })
    ≡ lines (codes "fired direct"
    ∷ codes "send 9 127.0.0.1:7002 534c010401610000000100"
    ∷ codes "send 10 127.0.0.1:7003 534c010401610000000200"
    ∷ codes "next 1000" ∷ [])
unfolding by_computing
asks_two_helpers = refl

-- all that a reply can say, in order
says_all : reply_text (ticks 500) 1
    (record (sends (sent a 7002 (Ack 1 None) []) 600) {
      fired = Some (timer_of 0 RoundStart);
      answer = Some (OfStatus None);
      changed = record { items = claimed b 7002 Alive 0 ∷ [] };
      forgotten = record { items = (c ∷ []) ∷ [] };
      ousted = true;
    })
    ≡ lines (codes "fired round-start"
    ∷ codes "answer none"
    ∷ codes "send 1 127.0.0.1:7002 534c010301610000000100"
    ∷ codes "record b alive 0 127.0.0.1:7002"
    ∷ codes "forgot c"
    ∷ codes "ousted"
    ∷ codes "next 600" ∷ [])
unfolding by_computing
says_all = refl

-- ---- tables

no_records : table_text [] ≡ []
unfolding by_computing
no_records = refl

three_records : table_text
    (claimed a 7001 Alive 0 ∷ claimed b 7002 (Suspect (a ∷ [])) 2 ∷ claimed c 7003 Failed 1000000000 ∷ [])
    ≡ lines (codes "record a alive 0 127.0.0.1:7001"
    ∷ codes "record b suspect 2 127.0.0.1:7002 by a"
    ∷ codes "record c failed 1000000000 127.0.0.1:7003" ∷ [])
unfolding by_computing
three_records = refl

one_that_left : table_text (claimed c 7003 Left 4 ∷ []) ≡ lines (codes "record c left 4 127.0.0.1:7003" ∷ [])
unfolding by_computing
one_that_left = refl
