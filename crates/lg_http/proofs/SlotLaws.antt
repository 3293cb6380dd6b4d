-- What holds of the slots when one of them changes.
use Rattle.std.proofs.Common.{◌≡◌, ℕ, Bool, ◌+◌, ◌-◌, ◌≤◌, ◌<◌, List, [], ◌∷◌, ◌++◌, inl, inr, append_assoc, length, get_or, set, replicate, All, None, Some, arith, refl, sym, ap, subst, ◌∙◌}
use Rattle.std.proofs.lemmas.List.{length-set, length-replicate, append-nil, get_or_default}
use Rattle.std.proofs.lemmas.List.Elements.{All-nil, All-cons, All-append, All-set, All-get_or, All-weaker, All-replicate}
use Rattle.std.proofs.lemmas.List.Sums.{sum_by-set, sum_by_more, sum_by-take-le}
use Rattle.std.proofs.lemmas.List.Folds.{sum_by-replicate}
use Rattle.http_server.proofs.Theorems.{always_served}
use Rattle.lg_http.specs.declared.peer.Peer.{Peer}
use Rattle.lg_http.specs.declared.hosts.Hosts.{Hosts}
use Rattle.lg_http.specs.declared.slots.Slots.{Slots}
use Rattle.lg_http.specs.declared.slots.TheConstants.{MAX_PEERS, MAX_PARKED}
use Rattle.lg_http.specs.Meaning.Answers.{SiteAnswers, SiteActs, SiteVersion, SiteReplies, SiteOrder, IsSiteOrder, RepliesAmong, Replies}
use Rattle.lg_http.specs.Meaning.Fronts.{WaitRule}
use Rattle.lg_http.proofs.ChainLaws.{answered_until, adds_answered, among_some}
use Rattle.lg_http.specs.Meaning.Peers.{IsBounded, AnswersInOrder, IsNewPeer, calls_of}
use Rattle.lg_http.specs.Meaning.Parked.{Slot, loopback_in, parked_in, parked_count}
use Rattle.lg_http.specs.Meaning.Slots.{InSlot, IsAnsweredPeer, IsAnsweredSlot, Ended, HadTurn, AddsEnded, AreFree, AreSlots, AreServed, noted_from}

always_in_slot : (slot : Slot) → InSlot AnswersInOrder slot
always_in_slot None = tt
always_in_slot (Some peer) = always_served peer.http

-- `http_server` keeps the order
pub always_in_order : (slots : List Slot) → All (InSlot AnswersInOrder) slots
always_in_order slots = λ k d h. always_in_slot (get_or slots k d)

-- a slot has no more long polls that wait than all slots
pub parked_within : (slots : List Slot) (k : ℕ) → k < length slots → parked_in (get_or slots k None) ≤ parked_count slots
parked_within slots k within =
    omega (arith, sum_by_more parked_in slots k None within, sum_by-take-le parked_in slots (k + 1))

-- a slot may change, if too few long polls wait then
pub AreSlots-with : {S : Type 0} (replies : SiteReplies S) (later : SiteOrder S) (site : S) (slots : List Slot) (k : ℕ) (slot : Slot)
    → parked_count (set slots k slot) ≤ MAX_PARKED
    → InSlot IsBounded slot → IsAnsweredSlot replies later site slot → AreSlots replies later site slots → AreSlots replies later site (set slots k slot)
AreSlots-with replies later site slots k slot parked bounded answered h = record {
  count = length-set slots k slot ∙ h.count;
  parked = parked;
  bounded = All-set (InSlot IsBounded) slots k slot bounded h.bounded;
  ordered = always_in_order (set slots k slot);
  answered = All-set (IsAnsweredSlot replies later site) slots k slot answered h.answered;
}

-- a slot may become one in which no more long polls wait
pub AreSlots-set : {S : Type 0} (replies : SiteReplies S) (later : SiteOrder S) (site : S) (slots : List Slot) (k : ℕ) (slot : Slot) → k < length slots
    → parked_in slot ≤ parked_in (get_or slots k None)
    → InSlot IsBounded slot → IsAnsweredSlot replies later site slot → AreSlots replies later site slots → AreSlots replies later site (set slots k slot)
AreSlots-set replies later site slots k slot within fewer bounded answered h =
    AreSlots-with replies later site slots k slot (omega (arith, sum_by-set parked_in slots k slot None within, h.parked, fewer)) bounded answered h

new_unparked : (peer : Peer) → IsNewPeer peer → parked_in (Some peer) ≡ 0
new_unparked peer new = rw new.phase refl

-- a slot may get a new connection
pub AreSlots-put : {S : Type 0} (replies : SiteReplies S) (later : SiteOrder S) → IsSiteOrder later → (site : S) (slots : List Slot) (k : ℕ) (peer : Peer) → k < length slots
    → IsNewPeer peer → AreSlots replies later site slots → AreSlots replies later site (set slots k (Some peer))
AreSlots-put replies later order site slots k peer within new h =
    AreSlots-set replies later site slots k (Some peer) within
    (omega (arith, new_unparked peer new))
    (rw new.held (omega arith))
    (site, rw new.calls (order.same site))
    h

abbrev free_slot : Slot
free_slot = None

-- free slots
pub slots_if_free : {S : Type 0} (replies : SiteReplies S) (later : SiteOrder S) (site : S) (slots : List Slot) → AreFree slots → AreSlots replies later site slots
slots_if_free replies later site slots free = rw free record {
  count = length-replicate MAX_PEERS free_slot;
  parked = omega (arith, sum_by-replicate parked_in MAX_PEERS free_slot);
  bounded = All-replicate (InSlot IsBounded) MAX_PEERS free_slot tt;
  ordered = always_in_order (replicate MAX_PEERS free_slot);
  answered = All-replicate (IsAnsweredSlot replies later site) MAX_PEERS free_slot tt;
}

-- a slot may become one with the same answers and as many long polls that wait
pub slots_noted : {S : Type 0} (replies : SiteReplies S) (later : SiteOrder S) (site : S) (slots : List Slot) (k : ℕ) (old new : Slot) → k < length slots
    → old ≡ get_or slots k old → parked_in new ≡ parked_in old
    → (InSlot IsBounded old → InSlot IsBounded new) → (IsAnsweredSlot replies later site old → IsAnsweredSlot replies later site new)
    → AreSlots replies later site slots → AreSlots replies later site (set slots k new)
slots_noted replies later site slots k old new within is parked bounded answered h =
    AreSlots-with replies later site slots k new
    (omega (arith, sum_by-set parked_in slots k new old within, h.parked, parked, ap (λ (slot : Slot). parked_in slot) is))
    (bounded (subst (InSlot IsBounded) (sym is) (All-get_or (InSlot IsBounded) slots k old within h.bounded)))
    (answered (subst (IsAnsweredSlot replies later site) (sym is) (All-get_or (IsAnsweredSlot replies later site) slots k old within h.answered)))
    h

-- the count after a slot had its turn
pub parked_more : (slots : List Slot) (k before after : ℕ) (old new : Slot) → before ≡ parked_count slots
    → after + parked_in old ≡ before + parked_in new → old ≡ get_or slots k old → k < length slots
    → after ≡ parked_count (set slots k new)
parked_more slots k before after old new counted moved is within =
    omega (arith, sum_by-set parked_in slots k new old within, counted, moved, ap (λ (slot : Slot). parked_in slot) is)

-- how many long polls wait in the other slots
pub parked_others : (slots : List Slot) (k before : ℕ) (old : Slot) → before ≡ parked_count slots → old ≡ get_or slots k old → k < length slots
    → parked_count (set slots k None) ≡ before - parked_in old
parked_others slots k before old counted is within =
    omega (arith, sum_by-set parked_in slots k None old within, counted, ap (λ (slot : Slot). parked_in slot) is)

-- the slots after one of them had its turn
pub slots_more : {S : Type 0} (replies : SiteReplies S) (later : SiteOrder S) (site : S) (slots : List Slot) (k before after : ℕ) (old new : Slot)
    → before ≡ parked_count slots → after ≡ parked_count (set slots k new) → (before ≤ MAX_PARKED → after ≤ MAX_PARKED)
    → (InSlot IsBounded old → InSlot IsBounded new) → IsAnsweredSlot replies later site new
    → old ≡ get_or slots k old → k < length slots
    → AreSlots replies later site slots → AreSlots replies later site (set slots k new)
slots_more replies later site slots k before after old new counted recounted few bounded answered is within h =
    let was : before ≤ MAX_PARKED = omega (arith, counted, h.parked) in
    let now = few was in
    AreSlots-with replies later site slots k new (omega (arith, recounted, now))
    (bounded (subst (InSlot IsBounded) (sym is) (All-get_or (InSlot IsBounded) slots k old within h.bounded)))
    answered
    h

peer_until : {S : Type 0} (replies : SiteReplies S) (later : SiteOrder S) → IsSiteOrder later → (now site : S) → later now site
    → (peer : Peer) → IsAnsweredPeer replies later now peer → IsAnsweredPeer replies later site peer
peer_until replies later order now site goes_on peer h =
    (h.0, answered_until replies later order h.0 now site (calls_of peer) goes_on h.1)

slot_until : {S : Type 0} (replies : SiteReplies S) (later : SiteOrder S) → IsSiteOrder later → (now site : S) → later now site
    → (slot : Slot) → IsAnsweredSlot replies later now slot → IsAnsweredSlot replies later site slot
slot_until replies later order now site goes_on None h = tt
slot_until replies later order now site goes_on (Some peer) h = peer_until replies later order now site goes_on peer h

-- the slots when the site has gone on
pub slots_until : {S : Type 0} (replies : SiteReplies S) (later : SiteOrder S) → IsSiteOrder later → (now site : S) → later now site
    → (slots : List Slot) → AreSlots replies later now slots → AreSlots replies later site slots
slots_until replies later order now site goes_on slots h = record {
  count = h.count;
  parked = h.parked;
  bounded = h.bounded;
  ordered = h.ordered;
  answered = All-weaker (IsAnsweredSlot replies later now) (IsAnsweredSlot replies later site)
      (slot_until replies later order now site goes_on) slots h.answered;
}

-- what is stated of a connection that ended
abbrev EndedSo : {S : Type 0} → SiteReplies S → SiteOrder S → S → Ended → Type 0
EndedSo replies later site ended = IsAnsweredPeer replies later site ended.0 × AnswersInOrder ended.0

-- none ended
pub ends_none : {S : Type 0} (replies : SiteReplies S) (later : SiteOrder S) (site : S) (old new : List Ended) → new ≡ old
    → AddsEnded replies later site old new
ends_none replies later site old new same = ([], same ∙ sym (append-nil old), All-nil (EndedSo replies later site))

-- one ended
pub ends_one : {S : Type 0} (replies : SiteReplies S) (later : SiteOrder S) (site : S) (old new : List Ended) (peer : Peer) (at : ℕ)
    → new ≡ old ++ (peer, at) ∷ [] → IsAnsweredPeer replies later site peer → AddsEnded replies later site old new
ends_one replies later site old new peer at noted h = (
  (peer, at) ∷ [],
  noted,
  All-cons (EndedSo replies later site) (peer, at) [] (h, always_served peer.http) (All-nil (EndedSo replies later site)),
)

-- some ended, and then others
pub ends_both : {S : Type 0} (replies : SiteReplies S) (later : SiteOrder S) (site : S) (old now new : List Ended)
    → AddsEnded replies later site old now → AddsEnded replies later site now new → AddsEnded replies later site old new
ends_both replies later site old now new a b = (
  a.0 ++ b.0,
  b.1 ∙ ap (λ (x : List Ended). x ++ b.0) a.1 ∙ append_assoc old a.0 b.0,
  All-append (EndedSo replies later site) a.0 b.0 a.2 b.2,
)

-- those that ended when the site has gone on
pub ends_until : {S : Type 0} (replies : SiteReplies S) (later : SiteOrder S) → IsSiteOrder later → (now site : S) → later now site
    → (old new : List Ended) → AddsEnded replies later now old new → AddsEnded replies later site old new
ends_until replies later order now site goes_on old new a = (
  a.0,
  a.1,
  All-weaker (EndedSo replies later now) (EndedSo replies later site)
      (λ (ended : Ended) h. (peer_until replies later order now site goes_on ended.0 h.0, h.1)) a.0 a.2,
)

-- a slot after the turn of its connection
pub turn_answered : {S : Type 0} (answers : SiteAnswers S) (acts : SiteActs S) (version : SiteVersion S) (waits : WaitRule) (hosts : Hosts) (later : SiteOrder S)
    → IsSiteOrder later → (site : S) (others : List Slot) (n : ℕ) (loopback : Bool) (old new : Slot) (before after : List Ended) → parked_count others ≡ n
    → HadTurn (RepliesAmong answers acts version waits hosts n loopback) site old new before after
    → IsAnsweredSlot (Replies answers acts version waits hosts) later site old
    → IsAnsweredSlot (Replies answers acts version waits hosts) later site new
    × AddsEnded (Replies answers acts version waits hosts) later site before after
turn_answered answers acts version waits hosts later order site others n loopback None new before after counted had h =
    (rw had.0 tt, ends_none (Replies answers acts version waits hosts) later site before after had.1)
turn_answered answers acts version waits hosts later order site others n loopback (Some peer) new before after counted had h =
    let last = had.0 in
    let adds = among_some answers acts version waits hosts site others n loopback (calls_of peer) (calls_of last) counted had.1 in
    let answered : IsAnsweredPeer (Replies answers acts version waits hosts) later site last =
    adds_answered (Replies answers acts version waits hosts) later order site (calls_of peer) (calls_of last) adds h in
    elim had.2 [
      | inl kept ↦ (rw kept.0 answered, ends_none (Replies answers acts version waits hosts) later site before after kept.1)
      | inr gone ↦ (rw gone.0 tt, ends_one (Replies answers acts version waits hosts) later site before after last gone.1.0 gone.1.1 answered)
    ]

-- what has happened is whole
pub served_none : {S : Type 0} (replies : SiteReplies S) (later : SiteOrder S) (site : S) (old new : Slots) → new.ended.items ≡ old.ended.items
    → AreSlots replies later site new.slots.items → AreServed replies later site old new
served_none replies later site old new same h = record {
  slots = h;
  ended = ends_none replies later site old.ended.items new.ended.items same;
}

-- some time, and then more
pub served_both : {S : Type 0} (replies : SiteReplies S) (later : SiteOrder S) (site : S) (old now new : Slots)
    → AreServed replies later site old now → AreServed replies later site now new → AreServed replies later site old new
served_both replies later site old now new a b = record {
  slots = b.slots;
  ended = ends_both replies later site old.ended.items now.ended.items new.ended.items a.ended b.ended;
}

-- some time when the site has gone on
pub served_until : {S : Type 0} (replies : SiteReplies S) (later : SiteOrder S) → IsSiteOrder later → (now site : S) → later now site
    → (old new : Slots) → AreServed replies later now old new → AreServed replies later site old new
served_until replies later order now site goes_on old new a = record {
  slots = slots_until replies later order now site goes_on new.slots.items a.slots;
  ended = ends_until replies later order now site goes_on old.ended.items new.ended.items a.ended;
}

ends_slot : {S : Type 0} (replies : SiteReplies S) (later : SiteOrder S) (site : S) (slot : Slot) (at : ℕ) (old new : List Ended)
    → new ≡ noted_from old at slot → IsAnsweredSlot replies later site slot → AddsEnded replies later site old new
ends_slot replies later site None at old new noted h = ends_none replies later site old new noted
ends_slot replies later site (Some peer) at old new noted h = ends_one replies later site old new peer at noted h

-- a slot gets a new connection, and the one that had it ended
pub ends_read : {S : Type 0} (replies : SiteReplies S) (later : SiteOrder S) (site : S) (slots : List Slot) (k at : ℕ) (slot : Slot) (old new : List Ended)
    → k < length slots → slot ≡ get_or slots k slot → new ≡ noted_from old at slot → AreSlots replies later site slots
    → AddsEnded replies later site old new
ends_read replies later site slots k at slot old new within there noted h =
    ends_slot replies later site slot at old new noted
    (subst (IsAnsweredSlot replies later site) (sym there) (All-get_or (IsAnsweredSlot replies later site) slots k slot within h.answered))

-- what is noted of a slot that was read
pub noted_read : (slots : List Slot) (k at : ℕ) (slot : Slot) (old new : List Ended)
    → k < length slots → slot ≡ get_or slots k slot → new ≡ noted_from old at slot → new ≡ noted_from old at (get_or slots k None)
noted_read slots k at slot old new within there noted =
    noted ∙ ap (λ (s : Slot). noted_from old at s) (there ∙ get_or_default slots k slot None within)

-- the slots after one of them had its turn, and those that ended
pub slots_after : {S : Type 0} (answers : SiteAnswers S) (acts : SiteActs S) (version : SiteVersion S) (waits : WaitRule) (hosts known : Hosts) (later : SiteOrder S)
    → IsSiteOrder later → (site now : S) (slots : List Slot) (k before after : ℕ) (old new : Slot) (first was is : List Ended)
    → known ≡ hosts → now ≡ site → before ≡ parked_count slots → after + parked_in old ≡ before + parked_in new
    → (before ≤ MAX_PARKED → after ≤ MAX_PARKED) → (InSlot IsBounded old → InSlot IsBounded new)
    → old ≡ get_or slots k old → k < length slots
    → HadTurn (RepliesAmong answers acts version waits known (before - parked_in old) (loopback_in old)) now old new was is
    → AreSlots (Replies answers acts version waits hosts) later site slots → AddsEnded (Replies answers acts version waits hosts) later site first was
    → AreSlots (Replies answers acts version waits hosts) later site (set slots k new)
    × AddsEnded (Replies answers acts version waits hosts) later site first is
slots_after answers acts version waits hosts known later order site now slots k before after old new first was is same_hosts same counted moved few bounded there within had h adds =
    let replies = Replies answers acts version waits hosts in
    let among = parked_others slots k before old counted there within in
    let recounted = parked_more slots k before after old new counted moved there within in
    let turn : HadTurn (RepliesAmong answers acts version waits hosts (before - parked_in old) (loopback_in old)) site old new was is =
    subst (λ (x : Hosts). HadTurn (RepliesAmong answers acts version waits x (before - parked_in old) (loopback_in old)) site old new was is) same_hosts
    (subst (λ x. HadTurn (RepliesAmong answers acts version waits known (before - parked_in old) (loopback_in old)) x old new was is) same had) in
    let turned =
    turn_answered answers acts version waits hosts later order site (set slots k None) (before - parked_in old) (loopback_in old) old new was is among turn
    (subst (IsAnsweredSlot replies later site) (sym there) (All-get_or (IsAnsweredSlot replies later site) slots k old within h.answered)) in (
      slots_more replies later site slots k before after old new counted recounted few bounded turned.0 there within h,
      ends_both replies later site first was is adds turned.1,
    )

-- some time, and then more, in which the site went on
pub served_more : {S : Type 0} (answers : SiteAnswers S) (acts : SiteActs S) (version : SiteVersion S) (waits : WaitRule) (hosts known : Hosts) (later : SiteOrder S)
    → IsSiteOrder later → (now site : S) (old mid new : Slots) → known ≡ hosts → later now site
    → (AreSlots (Replies answers acts version waits known) later now mid.slots.items → AreServed (Replies answers acts version waits known) later site mid new)
    → AreServed (Replies answers acts version waits hosts) later now old mid → AreServed (Replies answers acts version waits hosts) later site old new
served_more answers acts version waits hosts known later order now site old mid new same goes_on more was =
    let replies = Replies answers acts version waits hosts in
    let step : AreSlots replies later now mid.slots.items → AreServed replies later site mid new =
    subst (λ (x : Hosts). AreSlots (Replies answers acts version waits x) later now mid.slots.items → AreServed (Replies answers acts version waits x) later site mid new)
    same more in
    served_both replies later site old mid new (served_until replies later order now site goes_on old mid was) (step was.slots)

-- free slots, and then some time
pub served_free : {S : Type 0} (replies : SiteReplies S) (later : SiteOrder S) (begun site : S) (old new : Slots)
    → (AreSlots replies later begun old.slots.items → AreServed replies later site old new) → AreFree old.slots.items
    → AreServed replies later site old new
served_free replies later begun site old new served free = served (slots_if_free replies later begun old.slots.items free)
