-- What a loop does, turn by turn, and how it ends.
use Rattle.std.specs.Prelude.{◌≡◌, ◌==◌, ◌⊎◌, ℕ, ◌+◌, ◌*◌, ◌<◌, ◌≤◌}
use Rattle.std.specs.Prelude.{Bool, true, false, if◌then◌else◌}
use Rattle.std.specs.Prelude.{List, [], ◌∷◌, ◌++◌, length, All, Option, Some, None, Ok, Err}
use Rattle.std.specs.List.{flat_map, sum_by}
use Rattle.lg_rules.specs.declared.addr.Addr.{Addr}
use Rattle.lg_packet.specs.declared.fault.Fault.{Fault}
use Rattle.lg_packet.specs.declared.packet.Packet.{Packet}
use Rattle.lg_packet.specs.Meaning.Reading.{packet_of}
use Rattle.lg_detector.specs.declared.event.Event.{Event}
use Rattle.lg_detector.specs.declared.event.Event.TheVariants as events
use Rattle.lg_detector.specs.Meaning.Step.{deadline_after}
use Rattle.lg_agent.specs.declared.receipt.Receipt.{Receipt}
use Rattle.lg_agent.specs.declared.refusal.Refusal.{Refusal}
use Rattle.lg_agent.specs.declared.refusal.Refusal.TheVariants.{NoMemory, NoView}
use Rattle.lg_agent.specs.Meaning.Values.{PassValue}
use Rattle.lg_agent.specs.Meaning.Calls.{IsCall, IsLook, IsRefusal, IsRotatedPass}
use Rattle.lg_turns.specs.declared.ending.LoopEnd.{LoopEnd}
use Rattle.lg_turns.specs.declared.ending.Why.{Why}
use Rattle.lg_turns.specs.declared.ending.Why.TheVariants.{Stopped, Ousted, LinkFailed, Refused, ReadBound}
use Rattle.lg_turns.specs.Meaning.Links.{LinkEvent, handed, lost}
use Rattle.lg_turns.specs.Meaning.Links.LinkEvent.{Received, Silent, Failed}

-- One turn of a loop. A turn of receiving:
-- - no datagram came in a call that waits for one at most so many milliseconds, or receiving failed;
-- - a datagram with these bytes came from an address, and was dropped, since the bytes are no packet;
-- - it was heard at a moment as a packet, with this receipt, and these of the reply's packets were sent;
-- - the call for it was refused.
-- A turn of ticking:
-- - nothing was due at a moment;
-- - there was a tick at a moment with random words, with this receipt, and these of the reply's packets were sent;
-- - the call for it was refused, or the look at the next deadline was.
-- A turn in which the ticking loop finds its group:
-- - a seed at an address, which waited for it, was asked at a moment for its table, with this receipt, and these of the
--   reply's packets were sent; or the call for it was refused;
-- - a seed at an address was asked so since it was its turn; or the call for it was refused;
-- - there was a look at the members at a moment, which answered from these events, and then the seeds were to be asked
--   or not; or that look was refused;
-- - a member at an address was asked at a moment for its table. Random words had chosen it among the members of a look,
--   which answered from these events. The receipt and the packets sent are as above. Or the call for it was refused;
-- - a member was to be asked at a moment, and a look that answered from these events showed no other; or that look was
--   refused;
-- - the loop learned at a moment which addresses the hosts among the seeds have.
-- A turn of a ticking loop that is to stop, if this member leaves its group then:
-- - this member left at a moment, by random words, with this receipt, and these of the reply's packets were sent;
-- - the call for it was refused.
-- A turn of asking:
-- - a member at an address was asked at a moment for its table, with this receipt, and these of the reply's packets
--   were sent.
pub data Turn : Type 0 where
  Quiet : ℕ → Turn
  Broken : Turn
  Dropped : Addr → List ℕ → Turn
  Heard : ℕ → Addr → List ℕ → Packet → Receipt → List Bool → Turn
  Unheard : ℕ → Addr → List ℕ → Refusal → Turn
  Paused : ℕ → Turn
  Ticked : ℕ → List ℕ → Receipt → List Bool → Turn
  Unticked : ℕ → List ℕ → Refusal → Turn
  Unseen : Refusal → Turn
  AskedSeed : ℕ → Addr → Receipt → List Bool → Turn
  UnaskedSeed : ℕ → Addr → Refusal → Turn
  AskedInTurn : ℕ → Addr → Receipt → List Bool → Turn
  UnaskedInTurn : ℕ → Addr → Refusal → Turn
  Looked : ℕ → List Event → Bool → Turn
  Unlooked : ℕ → Turn
  AskedMember : ℕ → List ℕ → List Event → Addr → Receipt → List Bool → Turn
  UnaskedMember : ℕ → List ℕ → List Event → Addr → Refusal → Turn
  FoundNobody : ℕ → List Event → Turn
  Unfound : ℕ → Turn
  Learned : ℕ → List Addr → Turn
  Departed : ℕ → List ℕ → Receipt → List Bool → Turn
  Undeparted : ℕ → List ℕ → Refusal → Turn
  Pulled : ℕ → Addr → Receipt → List Bool → Turn

-- a turn of receiving, which waits for a datagram at most so many milliseconds
unfoldable pub receives : ℕ → Turn → Bool
receives wait (Quiet limit) = limit == wait
receives wait Broken = true
receives wait (Dropped source bytes) = true
receives wait (Heard now source bytes p r sent) = true
receives wait (Unheard now source bytes e) = true
receives wait _ = false

-- a turn of the ticking loop
abbrev pub is_of_ticking : Turn → Bool
is_of_ticking (Paused now) = true
is_of_ticking (Ticked now words r sent) = true
is_of_ticking (Unticked now words e) = true
is_of_ticking (Unseen e) = true
is_of_ticking (AskedSeed now peer r sent) = true
is_of_ticking (UnaskedSeed now peer e) = true
is_of_ticking (AskedInTurn now peer r sent) = true
is_of_ticking (UnaskedInTurn now peer e) = true
is_of_ticking (Looked now seen asks) = true
is_of_ticking (Unlooked now) = true
is_of_ticking (AskedMember now words seen peer r sent) = true
is_of_ticking (UnaskedMember now words seen peer e) = true
is_of_ticking (FoundNobody now seen) = true
is_of_ticking (Unfound now) = true
is_of_ticking (Learned now found) = true
is_of_ticking (Departed now words r sent) = true
is_of_ticking (Undeparted now words e) = true
is_of_ticking _ = false

-- a turn of asking
abbrev pub is_pull : Turn → Bool
is_pull (Pulled now peer r sent) = true
is_pull _ = false

-- What the link did in a turn. First the datagram is received. Then the packets of the reply are handed over, once
-- each and in order, to the addresses that the reply gives them.
abbrev pub deeds : Turn → List LinkEvent
deeds (Quiet limit) = Silent limit ∷ []
deeds Broken = Failed ∷ []
deeds (Dropped source bytes) = Received source bytes ∷ []
deeds (Heard now source bytes p r sent) = Received source bytes ∷ handed r.reply.sends.items sent
deeds (Unheard now source bytes e) = Received source bytes ∷ []
deeds (Ticked now words r sent) = handed r.reply.sends.items sent
deeds (AskedSeed now peer r sent) = handed r.reply.sends.items sent
deeds (AskedInTurn now peer r sent) = handed r.reply.sends.items sent
deeds (AskedMember now words seen peer r sent) = handed r.reply.sends.items sent
deeds (Departed now words r sent) = handed r.reply.sends.items sent
deeds (Pulled now peer r sent) = handed r.reply.sends.items sent
deeds _ = []

-- the datagrams dropped, the packets not sent, and how often the link failed
abbrev pub drops : Turn → ℕ
drops (Dropped source bytes) = 1
drops _ = 0

abbrev pub losses : Turn → ℕ
losses (Heard now source bytes p r sent) = lost sent
losses (Ticked now words r sent) = lost sent
losses (AskedSeed now peer r sent) = lost sent
losses (AskedInTurn now peer r sent) = lost sent
losses (AskedMember now words seen peer r sent) = lost sent
losses (Departed now words r sent) = lost sent
losses (Pulled now peer r sent) = lost sent
losses _ = 0

abbrev pub breaks : Turn → ℕ
breaks Broken = 1
breaks t = losses t

-- the random words of a tick, of the choice of a member, or of a leave
abbrev pub words_in : Turn → List (List ℕ)
words_in (Ticked now words r sent) = words ∷ []
words_in (Unticked now words e) = words ∷ []
words_in (AskedMember now words seen peer r sent) = words ∷ []
words_in (UnaskedMember now words seen peer e) = words ∷ []
words_in (Departed now words r sent) = words ∷ []
words_in (Undeparted now words e) = words ∷ []
words_in _ = []

-- the address that was asked
abbrev pub peers_in : Turn → List Addr
peers_in (Pulled now peer r sent) = peer ∷ []
peers_in _ = []

-- the dice gave these words, one throw after another
abbrev pub Threw : {D : Type 0} → (D → List ℕ → D → Type 0) → D → List (List ℕ) → D → Type 0
Threw throws d [] e = e ≡ d
Threw throws d (words ∷ more) e = (m : _) × throws d words m × Threw throws m more e

-- after these events the next deadline is this one
abbrev pub IsDeadline : List Event → ℕ → Type 0
IsDeadline seen due = deadline_after seen ≡ Some due

-- a look of a pass at the next deadline, which has come at this moment
pub record SeesDue (p : PassValue) (now : ℕ) (q : PassValue) : Type 0 where
  pub look : IsLook p q
  pub due : ℕ
  pub deadline : IsDeadline q.seen due
  pub come : due ≤ now

-- and a look at a deadline that hasn't come
pub record SeesNoneDue (p : PassValue) (now : ℕ) (q : PassValue) : Type 0 where
  pub look : IsLook p q
  pub due : ℕ
  pub deadline : IsDeadline q.seen due
  pub later : now < due

-- a look at the members, which answered from these events, after one at a deadline that hasn't come
pub record SeesMembers (p : PassValue) (now : ℕ) (seen : List Event) (q : PassValue) : Type 0 where
  pub between : PassValue
  pub none_due : SeesNoneDue p now between
  pub look : IsLook between q
  pub saw : q.seen ≡ seen

-- A pass whose call was refused: it is as it was, or it was rotated.
abbrev pub MadeNoCall : PassValue → PassValue → Type 0
MadeNoCall p q = (q ≡ p) ⊎ IsRotatedPass p q

-- What a turn does with the pass. If a datagram is a packet, it is heard. If the next deadline has come, there is a
-- tick, and only otherwise the loop looks at the members, asks one of them, or learns addresses. A member leaves
-- whatever is due. Each packet of the reply was sent or not. A call counts once, even if it was refused because the
-- history was full and was made again after a rotation.
abbrev pub IsTurn : PassValue → Turn → PassValue → Type 0
IsTurn p (Quiet limit) q = q ≡ p
IsTurn p Broken q = q ≡ p
IsTurn p (Dropped source bytes) q = (q ≡ p) × ((fault : Fault) × (packet_of bytes ≡ Err fault))
IsTurn p (Heard now source bytes k r sent) q =
    (packet_of bytes ≡ Ok k) × IsCall p (events.Heard now source k) r q
    × (length sent ≡ length r.reply.sends.items)
IsTurn p (Unheard now source bytes e) q = MadeNoCall p q × IsRefusal p.seen e
IsTurn p (Paused now) q = SeesNoneDue p now q
IsTurn p (Ticked now words r sent) q =
    (m : PassValue) × SeesDue p now m × IsCall m (events.Tick now words) r q
    × (length sent ≡ length r.reply.sends.items)
IsTurn p (Unticked now words e) q = (m : PassValue) × SeesDue p now m × MadeNoCall m q × IsRefusal m.seen e
IsTurn p (Unseen e) q = (q ≡ p) × (e ≡ NoView)
IsTurn p (AskedSeed now peer r sent) q =
    (m : PassValue) × SeesNoneDue p now m × IsCall m (events.Pull now peer) r q
    × (length sent ≡ length r.reply.sends.items)
IsTurn p (UnaskedSeed now peer e) q =
    (m : PassValue) × SeesNoneDue p now m × MadeNoCall m q × IsRefusal m.seen e
IsTurn p (AskedInTurn now peer r sent) q =
    (m : PassValue) × SeesNoneDue p now m × IsCall m (events.Pull now peer) r q
    × (length sent ≡ length r.reply.sends.items)
IsTurn p (UnaskedInTurn now peer e) q =
    (m : PassValue) × SeesNoneDue p now m × MadeNoCall m q × IsRefusal m.seen e
IsTurn p (Looked now seen asks) q = SeesMembers p now seen q
IsTurn p (Unlooked now) q = SeesNoneDue p now q
IsTurn p (AskedMember now words seen peer r sent) q =
    (m : PassValue) × SeesMembers p now seen m × IsCall m (events.Pull now peer) r q
    × (length sent ≡ length r.reply.sends.items)
IsTurn p (UnaskedMember now words seen peer e) q =
    (m : PassValue) × SeesMembers p now seen m × MadeNoCall m q × IsRefusal m.seen e
IsTurn p (FoundNobody now seen) q = SeesMembers p now seen q
IsTurn p (Unfound now) q = SeesNoneDue p now q
IsTurn p (Learned now found) q = SeesNoneDue p now q
IsTurn p (Departed now words r sent) q =
    IsCall p (events.Leave now words) r q × (length sent ≡ length r.reply.sends.items)
IsTurn p (Undeparted now words e) q = MadeNoCall p q × IsRefusal p.seen e
IsTurn p (Pulled now peer r sent) q =
    IsCall p (events.Pull now peer) r q × (length sent ≡ length r.reply.sends.items)

-- what some turns, one after another, do with the pass
abbrev pub Follows : PassValue → List Turn → PassValue → Type 0
Follows p [] q = q ≡ p
Follows p (t ∷ turns) q = (m : PassValue) × IsTurn p t m × Follows m turns q

-- Why a turn ends the loop, if it does. A loop in which this member left is one that was stopped, even if the reply
-- says that the member was ousted before.
abbrev pub stops : Turn → Option Why
stops Broken = Some LinkFailed
stops (Heard now source bytes p r sent) = if r.reply.ousted then Some Ousted else None
stops (Unheard now source bytes e) = Some (Refused e)
stops (Ticked now words r sent) = if r.reply.ousted then Some Ousted else None
stops (Unticked now words e) = Some (Refused e)
stops (Unseen e) = Some (Refused e)
stops (AskedSeed now peer r sent) = if r.reply.ousted then Some Ousted else None
stops (UnaskedSeed now peer e) = Some (Refused e)
stops (AskedInTurn now peer r sent) = if r.reply.ousted then Some Ousted else None
stops (UnaskedInTurn now peer e) = Some (Refused e)
stops (AskedMember now words seen peer r sent) = if r.reply.ousted then Some Ousted else None
stops (UnaskedMember now words seen peer e) = Some (Refused e)
stops (Undeparted now words e) = Some (Refused e)
stops _ = None

abbrev pub goes_on : Turn → Type 0
goes_on t = stops t ≡ None

-- the last of some turns ends the loop, and no other does
pub record EndsBy (turns : List Turn) (why : Why) : Type 0 where
  pub before : List Turn
  pub last : Turn
  pub are : turns ≡ before ++ last ∷ []
  pub went_on : All goes_on before
  pub ended : stops last ≡ Some why

-- Why a loop ended after these turns. It was stopped, or made as many turns as are allowed, and no turn ended it.
-- Otherwise the last turn ended it.
abbrev pub Ends : ℕ → List Turn → Why → Type 0
Ends bound turns Stopped = All goes_on turns
Ends bound turns ReadBound = All goes_on turns × (length turns ≡ bound)
Ends bound turns why = EndsBy turns why

-- What contracts see of a link: what it did, and how often it failed.
pub record LinkValue : Type 0 where
  pub log : List LinkEvent
  pub failed : ℕ

abbrev pub line : List LinkEvent → ℕ → LinkValue
line log failed = record { log = log; failed = failed }

-- Some turns, all of one kind, led a pass and a link from one state to another. Each turn does with the pass what its
-- definition says. The link did what the turns do, in order and nothing else, and its failures were counted. If
-- contracts don't see what the link did, nothing is said of its log.
pub record Made (kind : Turn → Bool) (tells : Bool) (turns : List Turn) (k k' : LinkValue) (p q : PassValue)
    : Type 0 where
  pub kinds : All (λ t. kind t ≡ true) turns
  pub follows : Follows p turns q
  pub told : tells ≡ true → k'.log ≡ k.log ++ flat_map deeds turns
  pub failed : k'.failed ≡ k.failed + sum_by breaks turns

-- what a loop's end counts of its turns
pub record Counts (turns : List Turn) (dropped unsent made : ℕ) : Type 0 where
  pub dropped_is : dropped ≡ sum_by drops turns
  pub unsent_is : unsent ≡ sum_by losses turns
  pub turns_is : made ≡ length turns

-- A run of a loop: there are turns that it made, and by which it ended.
pub record Ran (kind : Turn → Bool) (tells : Bool) (bound : ℕ) (k k' : LinkValue) (p q : PassValue) (end : LoopEnd)
    : Type 0 where
  pub turns : List Turn
  pub made : Made kind tells turns k k' p q
  pub counts : Counts turns end.dropped end.unsent end.turns
  pub why : Ends bound turns end.why

-- A run of a loop that makes `bound` turns at a time. If it is endless, it goes on when they are made, and counts its
-- turns anew: so there are earlier stretches, no turn of which ended it, and the bound isn't why it ends. Otherwise
-- there is one stretch. The end tells why the last stretch ended, and its counts are those of the last stretch.
pub record Lasted
    (kind : Turn → Bool) (tells : Bool) (bound : ℕ) (endless : Bool) (k k' : LinkValue) (p q : PassValue)
    (end : LoopEnd)
    : Type 0 where
  pub stretches : ℕ
  pub earlier : List Turn
  pub line_then : LinkValue
  pub pass_then : PassValue
  pub made_earlier : Made kind tells earlier k line_then p pass_then
  pub went_on : All goes_on earlier
  pub many : length earlier ≡ stretches * bound
  pub once : endless ≡ false → stretches ≡ 0
  pub last : Ran kind tells bound line_then k' pass_then q end
  pub lasts : endless ≡ true → end.why ≡ ReadBound → ⊥
  -- all its turns
  pub turns : List Turn
  pub turns_are : turns ≡ earlier ++ last.turns

-- the end of a loop that makes no turn
abbrev pub unstarted : LoopEnd
unstarted = record { why = Stopped; dropped = 0; unsent = 0; turns = 0 }

-- A loop that made no turn: nothing changed.
pub record MadeNoTurn (k k' : LinkValue) (p q : PassValue) (end : LoopEnd) : Type 0 where
  pub same_link : k' ≡ k
  pub same_pass : q ≡ p
  pub ended : end ≡ unstarted

-- A loop that no thread could be started for: it ran as a loop does, but its end says that memory was refused.
pub record HadNoThread
    (kind : Turn → Bool) (tells : Bool) (bound : ℕ) (endless : Bool) (k k' : LinkValue) (p q : PassValue)
    (end : LoopEnd)
    : Type 0 where
  pub was : Why
  pub ran : Lasted kind tells bound endless k k' p q (record end { why = was })
  pub why : end.why ≡ Refused NoMemory
