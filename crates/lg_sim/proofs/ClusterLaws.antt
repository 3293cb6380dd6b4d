-- How a cluster goes on by what happens at a member.
use Rattle.std.proofs.Common.{
  ◌≡◌,
  ℕ,
  ◌+◌,
  ◌<◌,
  ◌≤◌,
  zero,
  suc,
  Bool,
  true,
  false,
  ◌&&◌,
  ◌||◌,
  not,
  cond,
  eqb,
  ltb,
  List,
  [],
  ◌∷◌,
  ◌++◌,
  length,
  map,
  Option,
  Some,
  None,
  refl,
  sym,
  ap,
  subst,
  ◌∙◌,
  arith,
  append-nil,
  length-append,
  get_or,
  vec_len,
}
use Rattle.std.specs.Prelude.{codes, nat_eq, slice_get, set, IsTrue, is_some}
use Rattle.std.specs.List.{list_any, cons_option, find, position}
use Rattle.std.specs.Option.{option_map}
use Rattle.std.specs.Cmp.Lexicographic.{pointwise}
use Rattle.std.proofs.lemmas.Cmp.{nat_list_eq_equiv}
use Rattle.std.proofs.lemmas.List.{length-map}
use Rattle.std.proofs.lemmas.Option.{get_or_from_slice_get, same_Some, slice_get-map}
use Rattle.lg_rules.specs.declared.addr.Addr.{Addr}
use Rattle.lg_rules.proofs.KeyOrder.{names_equal}
use Rattle.lg_rules.proofs.Tests.{both}
use Rattle.lg_detector.specs.Meaning.Step.{is_open_event, opens_well, reply_after}
use Rattle.lg_detector.specs.Support.Step.{accepts_of, accepts_at, state_after}
use Rattle.lg_detector.specs.declared.event.Event.{Event}
use Rattle.lg_detector.proofs.Accepting.{events-after}
use Rattle.lg_lines.specs.Meaning.Replies.{reply_text}
use Rattle.lg_script.specs.declared.command.Command.{Command}
use Rattle.lg_sim.specs.Meaning.Members.{
  Happening,
  events_of,
  is_at,
  is_named,
  member_at,
  member_named,
  packet_number,
  sent,
  sent_by,
  sent_from,
}
use Rattle.lg_script.specs.declared.fault.ScriptFault.TheVariants as fault
use Rattle.lg_sim.specs.Meaning.Outcome.{naming_fault}
use Rattle.lg_sim.specs.Meaning.Past.{at_named, delivered, happening_after, arrival, happenings, opened}
use Rattle.lg_sim.specs.Support.After.{
  IsCluster,
  IsClusterReached,
  LedOn,
  delivery_of,
  are_distinct_members,
  host_after,
  is_begun,
}
use Rattle.lg_sim.proofs.PlaceLaws.{find-map, find_placed, find_unplaced, placed_within}
use Rattle.lg_sim.specs.declared.host.Host.{Host}
use Rattle.lg_sim.specs.declared.host.Member.{Member}
use Rattle.lg_sim.specs.declared.host.SentPacket.{SentPacket}
use Rattle.lg_sim.specs.declared.cluster.Cluster.{Cluster}

-- ---- the events of a name

pub names_swap : (a b : List ℕ) → pointwise nat_eq a b ≡ pointwise nat_eq b a
names_swap a b = nat_list_eq_equiv.symm a b

pub events_of-other : (name : List ℕ) (h : Happening) (past : List Happening) → is_named name h.member ≡ false → events_of name (h ∷ past) ≡ events_of name past
events_of-other name h past differs = rw differs (append-nil (events_of name past))

pub events_of-own : (name : List ℕ) (h : Happening) (past : List Happening) → is_named name h.member ≡ true → events_of name (h ∷ past) ≡ events_of name past ++ h.event ∷ []
events_of-own name h past same = rw same refl

few_ends : (b : Bool) (e : Event) (es : List Event) → length (es ++ cond b (e ∷ []) []) ≤ length es + 1
few_ends true e es = omega (arith, length-append es (e ∷ []))
few_ends false e es = omega (arith, length-append {A = Event} es [])

pub few_events : (name : List ℕ) (past : List Happening) → length (events_of name past) ≤ length past
few_events name [] = omega arith
few_events name (h ∷ past) = omega (arith, few_ends (is_named name h.member) h.event (events_of name past), few_events name past)

-- ---- the hosts, once something happened at the one in a place

host_same : (past : List Happening) (h : Happening) (m : Member) → is_named m.name h.member ≡ false → host_after (h ∷ past) m ≡ host_after past m
host_same past h m differs = ap (λ (es : List Event). record { member = m; detector = state_after es }) (events_of-other m.name h past differs)

pub or_false : (a b : Bool) → (a || b) ≡ false → (a ≡ false) × (b ≡ false)
or_false false false e = (refl, refl)
or_false true b e = absurd cc
or_false false true e = absurd cc

pub not_true : (b : Bool) → not b ≡ true → b ≡ false
not_true false e = refl
not_true true e = absurd cc

pub hosts_same : (past : List Happening) (h : Happening) (members : List Member) → list_any (is_named h.member.name) members ≡ false
    → map (host_after past) members ≡ map (host_after (h ∷ past)) members
hosts_same past h [] none = refl
hosts_same past h (m ∷ ms) none =
    let parts = or_false (is_named h.member.name m) (list_any (is_named h.member.name) ms) none in
    let differs : is_named m.name h.member ≡ false = names_swap h.member.name m.name ∙ parts.0 in
    rw (host_same past h m differs, hosts_same past h ms parts.1) refl

among : (members : List Member) (at : ℕ) (m : Member) (test : Member → Bool) → slice_get members at ≡ Some m → list_any test members ≡ false → test m ≡ false
among [] at m test is none = absurd cc
among (x ∷ xs) zero m test is none =
    let same : x ≡ m = cc in
    ap test (sym same) ∙ (or_false (test x) (list_any test xs) none).0
among (x ∷ xs) (suc at) m test is none = among xs at m test is (or_false (test x) (list_any test xs) none).1

same_cons : {X : Type 0} (x y : X) (xs ys : List X) → x ≡ y → xs ≡ ys → x ∷ xs ≡ y ∷ ys
same_cons {X = X} x y xs ys e es = ap (λ (z : X). z ∷ xs) e ∙ ap (λ (zs : List X). y ∷ zs) es

pub hosts_led : (past : List Happening) (members : List Member) (at : ℕ) (m : Member) (e : Event) → slice_get members at ≡ Some m → are_distinct_members members ≡ true
    → set (map (host_after past) members) at (host_after (record { member = m; event = e } ∷ past) m) ≡ map (host_after (record { member = m; event = e } ∷ past)) members
hosts_led past [] at m e is distinct = absurd cc
hosts_led past (x ∷ xs) zero m e is distinct =
    let h : Happening = record { member = m; event = e } in
    let same : x ≡ m = cc in
    let parts = both (not (list_any (is_named x.name) xs)) (are_distinct_members xs) distinct in
    let none : list_any (is_named m.name) xs ≡ false = ap (λ (y : Member). list_any (is_named y.name) xs) (sym same) ∙ not_true _ parts.0 in
    same_cons _ _ _ _ (ap (λ (y : Member). host_after (h ∷ past) y) (sym same)) (hosts_same past h xs none)
hosts_led past (x ∷ xs) (suc at) m e is distinct =
    let h : Happening = record { member = m; event = e } in
    let parts = both (not (list_any (is_named x.name) xs)) (are_distinct_members xs) distinct in
    let other : is_named x.name m ≡ false = among xs at m (is_named x.name) is (not_true _ parts.0) in
    rw (host_same past h x other, hosts_led past xs at m e is parts.1) refl

-- ---- the host in a place

pub within_some : {X : Type 0} (xs : List X) (k : ℕ) → k < length xs → (x : X) × (slice_get xs k ≡ Some x)
within_some [] k e = absurd (omega arith)
within_some (x ∷ xs) zero e = (x, refl)
within_some (x ∷ xs) (suc k) e = within_some xs k (omega arith)

pub member_in : (hosts : List Host) (packets : List SentPacket) (members : List Member) (past : List Happening) (at : ℕ) → IsCluster hosts packets members past → at < length hosts
    → (m : Member) × (slice_get members at ≡ Some m)
member_in hosts packets members past at is within =
    let same : length hosts ≡ length members = ap length is.hosts_are ∙ length-map members (host_after past) in
    within_some members at (omega arith)

pub read_host : (hosts : List Host) (packets : List SentPacket) (members : List Member) (past : List Happening) (at : ℕ) (m : Member) (x : Host) → IsCluster hosts packets members past
    → slice_get members at ≡ Some m → x ≡ get_or hosts at x → x ≡ host_after past m
read_host hosts packets members past at m x is found read =
    let place : slice_get hosts at ≡ Some (host_after past m) =
    ap (λ (hs : List Host). slice_get hs at) is.hosts_are ∙ slice_get-map (host_after past) members at ∙ ap (λ (o : Option Member). option_map (host_after past) o) found in
    read ∙ get_or_from_slice_get hosts at (host_after past m) x place

-- ---- a member accepts whatever isn't an opening

pub first_among : (members : List Member) (at : ℕ) (m : Member) (test : Member → Bool) → slice_get members at ≡ Some m → test m ≡ true → is_some (find test members) ≡ true
first_among [] at m test is passes = absurd cc
first_among (x ∷ xs) zero m test is passes =
    let same : x ≡ m = cc in
    let first : test x ≡ true = ap test same ∙ passes in
    rw first refl
first_among (x ∷ xs) (suc at) m test is passes = either (test x) (first_among xs at m test is passes)
  where
    either : (b : Bool) → is_some (find test xs) ≡ true → is_some (cond b (Some x) (find test xs)) ≡ true
    either true found = refl
    either false found = found

begun_some : (es : List Event) → is_begun es ≡ true → 0 < length es
begun_some [] e = absurd cc
begun_some (x ∷ es) e = omega arith

pub begun_more : (es : List Event) (e : Event) → is_begun (es ++ e ∷ []) ≡ true
begun_more [] e = refl
begun_more (x ∷ es) e = refl

pub has_begun : (hosts : List Host) (packets : List SentPacket) (members : List Member) (past : List Happening) (at : ℕ) (m : Member)
    → IsCluster hosts packets members past → slice_get members at ≡ Some m → 0 < length (events_of m.name past)
has_begun hosts packets members past at m is found =
    begun_some (events_of m.name past) (sym (is.begun m.name) ∙ first_among members at m (is_named m.name) found (nat_list_eq_equiv.refl m.name))

accepted : (n : ℕ) (well opens : Bool) → 0 < n → n < 4000000000 → opens ≡ false → cond (eqb n 0) well (not opens && ltb n 4000000000) ≡ true
accepted n well opens some few later = grind arith

few_more : (o : Option Happening) (past : List Happening) (n : ℕ) → length past ≤ n → length (cons_option o past) ≤ suc n
few_more None past n few = omega arith
few_more (Some h) past n few = omega arith

pub few_happenings : (before : List Command) → length (happenings before) ≤ length before
few_happenings [] = omega arith
few_happenings (command ∷ before) = few_more (happening_after command before (happenings before)) (happenings before) (length before) (few_happenings before)

pub accepts_next : (cluster : Cluster) (at : ℕ) (x : Host) (e : Event) → IsClusterReached cluster → at < length cluster.hosts.items → x ≡ get_or cluster.hosts.items at x → is_open_event e ≡ false
    → IsTrue (accepts_of x.detector e)
accepts_next cluster at x e reached within read later =
    let before = reached.before in
    let past = happenings before in
    let is = reached.after.is in
    let place = member_in cluster.hosts.items cluster.sent.items (opened before) past at is within in
    let same = read_host cluster.hosts.items cluster.sent.items (opened before) past at place.0 x is place.1 read in
    let f = events_of place.0.name past in
    let some = has_begun cluster.hosts.items cluster.sent.items (opened before) past at place.0 is place.1 in
    let few : length f < 4000000000 = omega (arith, few_events place.0.name past, few_happenings before, reached.few) in
    ap (λ (y : Host). accepts_of y.detector e) same
    ∙ ap (λ (n : ℕ). accepts_at n e) (events-after f)
    ∙ accepted (length f) (opens_well e) (is_open_event e) some few later

-- ---- a cluster goes on by an event at the member in a place

pub happened : (hosts : List Host) (packets : List SentPacket) (members : List Member) (past : List Happening) (at : ℕ) (m : Member) (e : Event) (led : Host) (sends : List SentPacket)
    → IsCluster hosts packets members past → slice_get members at ≡ Some m
    → led ≡ record { member = m; detector = state_after (events_of m.name past ++ e ∷ []) }
    → sends ≡ packets ++ sent_by (record { member = m; event = e }) past
    → IsCluster (set hosts at led) sends members (record { member = m; event = e } ∷ past)
happened hosts packets members past at m e led sends is found leads sent_more = record {
  hosts_are =
      let h : Happening = record { member = m; event = e } in
      let own : events_of m.name (h ∷ past) ≡ events_of m.name past ++ e ∷ [] = events_of-own m.name h past (nat_list_eq_equiv.refl m.name) in
      let now : led ≡ host_after (h ∷ past) m = leads ∙ ap (λ (es : List Event). record { member = m; detector = state_after es }) (sym own) in
      rw (is.hosts_are, now) (hosts_led past members at m e found is.distinct);
  packets_are = sent_more ∙ ap (λ (ps : List SentPacket). ps ++ sent_by (record { member = m; event = e }) past) is.packets_are;
  distinct = is.distinct;
  begun = λ name. begun_on name (is_named name m) refl;
}
  where
    begun_on : (name : List ℕ) (named : Bool) → is_named name m ≡ named → is_some (member_named name members) ≡ is_begun (events_of name (record { member = m; event = e } ∷ past))
    begun_on name true same =
        first_among members at m (is_named name) found same
        ∙ sym (ap is_begun (events_of-own name (record { member = m; event = e }) past same) ∙ begun_more (events_of name past) e)
    begun_on name false differs = is.begun name ∙ ap is_begun (sym (events_of-other name (record { member = m; event = e }) past differs))

-- the same, with the lines of the reply behind a text
pub led_on : (old new : Cluster) (text longer : List ℕ) (members : List Member) (past : List Happening) (at : ℕ) (m : Member) (e : Event) (was led : Host)
    → IsCluster old.hosts.items old.sent.items members past → slice_get members at ≡ Some m → was ≡ host_after past m
    → new.hosts.items ≡ set old.hosts.items at led → new.settings ≡ old.settings
    → led ≡ record { member = was.member; detector = state_after (events_of m.name past ++ e ∷ []) }
    → new.sent.items ≡ old.sent.items ++ map (sent_from was.member.addr) (reply_after (events_of m.name past) e).sends.items
    → longer ≡ text ++ reply_text e (vec_len old.sent + 1) (reply_after (events_of m.name past) e)
    → LedOn old new text longer members past (Some (record { member = m; event = e }))
led_on old new text longer members past at m e was led is found same hosts settings leads sends lines = record {
  after =
      let of_m : led ≡ record { member = m; detector = state_after (events_of m.name past ++ e ∷ []) } =
      leads ∙ ap (λ (x : Host). record { member = x.member; detector = state_after (events_of m.name past ++ e ∷ []) }) same in
      let from_m : new.sent.items ≡ old.sent.items ++ sent_by (record { member = m; event = e }) past =
      sends ∙ ap (λ (x : Host). old.sent.items ++ map (sent_from x.member.addr) (reply_after (events_of m.name past) e).sends.items) same in
      let next = happened old.hosts.items old.sent.items members past at m e led new.sent.items is found of_m from_m in
      subst (λ (hs : List Host). IsCluster hs new.sent.items members (record { member = m; event = e } ∷ past)) (sym hosts) next;
  settings_stay = settings;
  writes =
      let count : vec_len old.sent ≡ length (sent past) = omega (arith, old.sent.ok.0, ap length is.packets_are) in
      lines ∙ ap (λ (n : ℕ). text ++ reply_text e (n + 1) (reply_after (events_of m.name past) e)) count;
}

-- ---- the member of a name, by the place of its host

of_map : (found : Option Host) (past : List Happening) (m : Option Member) → found ≡ option_map (host_after past) m → found ≡ None → m ≡ None
of_map found past None e none = refl
of_map found past (Some m) e none = absurd cc

-- the hosts that pass a test of their members are those of the members that pass it
pub found_host : (hosts : List Host) (packets : List SentPacket) (members : List Member) (past : List Happening) (test : Member → Bool) → IsCluster hosts packets members past
    → find (λ host. test host.member) hosts ≡ option_map (host_after past) (find test members)
found_host hosts packets members past test is =
    ap (λ (hs : List Host). find (λ host. test host.member) hs) is.hosts_are ∙ find-map (λ host. test host.member) (host_after past) members

pub found_nowhere : (hosts : List Host) (packets : List SentPacket) (members : List Member) (past : List Happening) (test : Member → Bool) → IsCluster hosts packets members past
    → None ≡ position (λ host. test host.member) hosts → find test members ≡ None
found_nowhere hosts packets members past test is none =
    of_map (find (λ host. test host.member) hosts) past (find test members) (found_host hosts packets members past test is) (find_unplaced (λ host. test host.member) hosts none)

pub found_at : (hosts : List Host) (packets : List SentPacket) (members : List Member) (past : List Happening) (test : Member → Bool) (at : ℕ) → IsCluster hosts packets members past
    → Some at ≡ position (λ host. test host.member) hosts → (m : Member) × (find test members ≡ Some m) × (slice_get members at ≡ Some m)
found_at hosts packets members past test at is found =
    let within = placed_within (λ host. test host.member) hosts at found in
    let member = member_in hosts packets members past at is within in
    let place : find (λ host. test host.member) hosts ≡ slice_get hosts at = find_placed (λ host. test host.member) hosts at found in
    let host : slice_get hosts at ≡ Some (host_after past member.0) =
    ap (λ (hs : List Host). slice_get hs at) is.hosts_are ∙ slice_get-map (host_after past) members at ∙ ap (λ (o : Option Member). option_map (host_after past) o) member.1 in
    (member.0, only (find test members) member.0 (sym (found_host hosts packets members past test is) ∙ place ∙ host), member.1)
  where
    only : (o : Option Member) (m : Member) → option_map (host_after past) o ≡ Some (host_after past m) → o ≡ Some m
    only None m e = absurd cc
    only (Some x) m e = ap (λ (y : Member). Some y) (ap (λ (y : Host). y.member) (same_Some (host_after past x) (host_after past m) e))

-- ---- a command for a name

pub named_nowhere : (hosts : List Host) (packets : List SentPacket) (members : List Member) (past : List Happening) (name : List ℕ) → IsCluster hosts packets members past
    → None ≡ position (λ host. is_named name host.member) hosts → member_named name members ≡ None
named_nowhere hosts packets members past name is none = found_nowhere hosts packets members past (is_named name) is none

pub named_at : (hosts : List Host) (packets : List SentPacket) (members : List Member) (past : List Happening) (name : List ℕ) (at : ℕ) → IsCluster hosts packets members past
    → Some at ≡ position (λ host. is_named name host.member) hosts → (m : Member) × (member_named name members ≡ Some m) × (slice_get members at ≡ Some m)
named_at hosts packets members past name at is found = found_at hosts packets members past (is_named name) at is found

pub not_named : (name : List ℕ) (members : List Member) → member_named name members ≡ None → naming_fault name members ≡ Some fault.Member
not_named name members none = ap (λ (o : Option Member). cond (is_some o) None (Some fault.Member)) none

pub named_open : (name : List ℕ) (members : List Member) (m : Member) → member_named name members ≡ Some m → naming_fault name members ≡ None
named_open name members m found = ap (λ (o : Option Member). cond (is_some o) None (Some fault.Member)) found

pub leads_named : (old new : Cluster) (text longer : List ℕ) (members : List Member) (past : List Happening) (name : List ℕ) (e : Event) (m : Member)
    → member_named name members ≡ Some m → LedOn old new text longer members past (Some (record { member = m; event = e }))
    → LedOn old new text longer members past (at_named name e members)
leads_named old new text longer members past name e m found led =
    subst (λ (o : Option Member). LedOn old new text longer members past (option_map (λ (x : Member). record { member = x; event = e }) o)) (sym found) led

-- ---- the table of the member of a name

found_passes : (test : Member → Bool) (members : List Member) (m : Member) → find test members ≡ Some m → test m ≡ true
found_passes test [] m found = absurd cc
found_passes test (x ∷ xs) m found = either (test x) refl (λ rest. found_passes test xs m rest)
  where
    either : (b : Bool) → test x ≡ b → (find test xs ≡ Some m → test m ≡ true) → test m ≡ true
    either true it rest =
        let first : Some x ≡ Some m = sym (ap (λ (c : Bool). cond c (Some x) (find test xs)) it) ∙ found in
        ap test (sym (same_Some x m first)) ∙ it
    either false it rest = rest (sym (ap (λ (c : Bool). cond c (Some x) (find test xs)) it) ∙ found)

-- the detector of the member of a name is after the events of that name
pub named_after : (hosts : List Host) (packets : List SentPacket) (members : List Member) (past : List Happening) (name : List ℕ) (at : ℕ) (x : Host)
    → IsCluster hosts packets members past → Some at ≡ position (λ host. is_named name host.member) hosts → x ≡ get_or hosts at x
    → x.detector ≡ state_after (events_of name past)
named_after hosts packets members past name at x is found read =
    let place = named_at hosts packets members past name at is found in
    let same : place.0.name ≡ name = names_equal place.0.name name (found_passes (is_named name) members place.0 place.1) in
    ap (λ (y : Host). y.detector) (read_host hosts packets members past at place.0 x is place.2 read)
    ∙ ap (λ (n : List ℕ). state_after (events_of n past)) same

-- ---- a delivery

delivers : (now : ℕ) (o : Option SentPacket) (to : Addr) (e : Event) (members : List Member) → delivery_of now o ≡ Some (to, e)
    → delivered now o members ≡ option_map (λ (m : Member). record { member = m; event = e }) (member_at to members)
delivers now None to e members is = absurd cc
delivers now (Some p) to e members is =
    let pair : ◌≡◌ {A = Addr × Event} (p.outgoing.to, arrival now p) (to, e) = same_Some _ _ is in
    ap (λ (d : Addr × Event). option_map (λ (m : Member). record { member = m; event = d.1 }) (member_at d.0 members)) pair

pub leads_nobody : (cluster : Cluster) (text longer : List ℕ) (members : List Member) (past : List Happening) (packet now : ℕ) (to : Addr) (e : Event)
    → IsCluster cluster.hosts.items cluster.sent.items members past
    → delivery_of now (packet_number packet cluster.sent.items) ≡ Some (to, e)
    → None ≡ position (λ host. is_at to host.member) cluster.hosts.items
    → longer ≡ text ++ (codes "nobody" ++ 10 ∷ [])
    → LedOn cluster cluster text longer members past (delivered now (packet_number packet (sent past)) members)
leads_nobody cluster text longer members past packet now to e is delivery nowhere lines =
    let none : member_at to members ≡ None = found_nowhere cluster.hosts.items cluster.sent.items members past (is_at to) is nowhere in
    let said : delivered now (packet_number packet (sent past)) members ≡ None =
    ap (λ (ps : List SentPacket). delivered now (packet_number packet ps) members) (sym is.packets_are)
    ∙ delivers now (packet_number packet cluster.sent.items) to e members delivery
    ∙ ap (λ (o : Option Member). option_map (λ (m : Member). record { member = m; event = e }) o) none in
    subst (λ (o : Option Happening). LedOn cluster cluster text longer members past o) (sym said) (record {
      after = is;
      settings_stay = refl;
      writes = lines;
    })

pub leads_delivery : (old new : Cluster) (text longer : List ℕ) (members : List Member) (past : List Happening) (packet now : ℕ) (to : Addr) (e : Event) (at : ℕ)
    → IsCluster old.hosts.items old.sent.items members past
    → delivery_of now (packet_number packet old.sent.items) ≡ Some (to, e)
    → Some at ≡ position (λ host. is_at to host.member) old.hosts.items
    → ((m : Member) → slice_get members at ≡ Some m → LedOn old new text longer members past (Some (record { member = m; event = e })))
    → LedOn old new text longer members past (delivered now (packet_number packet (sent past)) members)
leads_delivery old new text longer members past packet now to e at is delivery place leads =
    let found = found_at old.hosts.items old.sent.items members past (is_at to) at is place in
    let said : delivered now (packet_number packet (sent past)) members ≡ Some (record { member = found.0; event = e }) =
    ap (λ (ps : List SentPacket). delivered now (packet_number packet ps) members) (sym is.packets_are)
    ∙ delivers now (packet_number packet old.sent.items) to e members delivery
    ∙ ap (λ (o : Option Member). option_map (λ (m : Member). record { member = m; event = e }) o) found.1 in
    subst (λ (o : Option Happening). LedOn old new text longer members past o) (sym said) (leads found.0 found.2)
