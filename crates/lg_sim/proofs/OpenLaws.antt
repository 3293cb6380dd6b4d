-- How a cluster goes on by a member that is opened.
use Rattle.std.proofs.Common.{
  ◌≡◌,
  ℕ,
  ◌+◌,
  Bool,
  true,
  false,
  ◌||◌,
  not,
  cond,
  leb,
  List,
  [],
  ◌∷◌,
  ◌++◌,
  length,
  map,
  Option,
  Some,
  None,
  Result,
  Ok,
  Err,
  refl,
  sym,
  ap,
  subst,
  ◌∙◌,
  arith,
  vec_len,
}
use Rattle.std.specs.Prelude.{is_some, is_ok, is_err, IsTrue}
use Rattle.std.specs.List.{list_any, find, position}
use Rattle.std.specs.Option.{option_map, option_or}
use Rattle.std.proofs.lemmas.Cmp.{nat_list_eq_equiv}
use Rattle.std.proofs.lemmas.List.{length-map, map-append}
use Rattle.std.proofs.lemmas.List.Folds.{find-append, list_any-append}
use Rattle.lg_rules.proofs.Tests.{both}
use Rattle.lg_timing.specs.Meaning.Config.{check_of, IsChecked}
use Rattle.lg_timing.specs.declared.config.Config.{Config}
use Rattle.lg_timing.specs.declared.config.ConfigFault.{ConfigFault}
use Rattle.lg_detector.specs.Meaning.Step.{reply_after}
use Rattle.lg_detector.specs.Support.Step.{accepts_of, state_after}
use Rattle.lg_detector.specs.Support.State.{State}
use Rattle.lg_detector.specs.declared.event.Event.{Event}
use Rattle.lg_detector.specs.declared.event.Event.TheVariants.{Open}
use Rattle.lg_lines.specs.Meaning.Replies.{reply_text}
use Rattle.lg_script.specs.declared.fault.ScriptFault.{ScriptFault}
use Rattle.lg_script.specs.declared.fault.ScriptFault.TheVariants as fault
use Rattle.lg_sim.specs.Meaning.Members.{
  Happening,
  events_of,
  is_at,
  is_named,
  member_at,
  member_named,
  sent,
  sent_by,
  sent_from,
}
use Rattle.lg_sim.specs.Meaning.Outcome.{opening_fault}
use Rattle.lg_sim.specs.Support.After.{IsCluster, LedOn, fault_in, are_distinct_members, host_after, is_begun}
use Rattle.lg_sim.proofs.ClusterLaws.{
  begun_more,
  events_of-other,
  events_of-own,
  found_host,
  hosts_same,
  names_swap,
  not_true,
  or_false,
  within_some,
}
use Rattle.lg_sim.proofs.PlaceLaws.{find_placed, find_unplaced, placed_within}
use Rattle.lg_sim.specs.declared.cluster.Cluster.{Cluster}
use Rattle.lg_sim.specs.declared.host.Host.{Host}
use Rattle.lg_sim.specs.declared.host.Member.{Member}
use Rattle.lg_sim.specs.declared.host.SentPacket.{SentPacket}

-- ---- why a member can't be opened

some_place : {X : Type 0} (p : X → Bool) (xs : List X) (o : Option ℕ) → o ≡ position p xs → is_some o ≡ is_some (find p xs)
some_place {X = X} p xs None e = sym (ap (λ (r : Option X). is_some r) (find_unplaced p xs e))
some_place {X = X} p xs (Some at) e =
    let element = within_some xs at (placed_within p xs at e) in
    sym (ap (λ (r : Option X). is_some r) (find_placed p xs at e ∙ element.1))

some_mapped : {X Y : Type 0} (f : X → Y) (o : Option X) → is_some (option_map f o) ≡ is_some o
some_mapped f None = refl
some_mapped f (Some x) = refl

some_host : (hosts : List Host) (packets : List SentPacket) (members : List Member) (past : List Happening) (test : Member → Bool) → IsCluster hosts packets members past
    → is_some (position (λ host. test host.member) hosts) ≡ is_some (find test members)
some_host hosts packets members past test is =
    some_place (λ host. test host.member) hosts (position (λ host. test host.member) hosts) refl
    ∙ ap (λ (o : Option Host). is_some o) (found_host hosts packets members past test is)
    ∙ some_mapped (host_after past) (find test members)

abbrev fault_by : Bool → Bool → Bool → ℕ → Option ScriptFault
fault_by bad named placed n = cond bad (Some fault.Value) (cond (named || placed) (Some fault.Double) (cond (leb 16 n) (Some fault.Full) None))

pub fault_in-is : (hosts : List Host) (packets : List SentPacket) (members : List Member) (past : List Happening) (config : Config) → IsCluster hosts packets members past
    → fault_in config hosts ≡ opening_fault config members
fault_in-is hosts packets members past config is =
    let bad = is_err (check_of config) in
    let named = some_host hosts packets members past (is_named config.name) is in
    let placed = some_host hosts packets members past (is_at config.addr) is in
    let count : length hosts ≡ length members = ap length is.hosts_are ∙ length-map members (host_after past) in
    ap (λ (b : Bool). fault_by bad b (is_some (position (λ host. is_at config.addr host.member) hosts)) (length hosts)) named
    ∙ ap (λ (b : Bool). fault_by bad (is_some (member_named config.name members)) b (length hosts)) placed
    ∙ ap (λ (n : ℕ). fault_by bad (is_some (member_named config.name members)) (is_some (member_at config.addr members)) n) count

not_bad : (bad named placed : Bool) (n : ℕ) → fault_by bad named placed n ≡ None → bad ≡ false
not_bad false named placed n e = refl
not_bad true named placed n e = absurd cc

not_taken : (bad named placed : Bool) (n : ℕ) → fault_by bad named placed n ≡ None → named ≡ false
not_taken true named placed n e = absurd cc
not_taken false false placed n e = refl
not_taken false true placed n e = absurd cc

checked : (r : Result (Unit {0}) ConfigFault) → is_err r ≡ false → r ≡ Ok tt
checked (Ok u) e = refl
checked (Err f) e = absurd cc

pub opens_checked : (hosts : List Host) (config : Config) → fault_in config hosts ≡ None → IsChecked config
opens_checked hosts config none =
    checked (check_of config) (not_bad (is_err (check_of config)) (is_some (position (λ host. is_named config.name host.member) hosts)) (is_some (position (λ host. is_at config.addr host.member) hosts)) (length hosts) none)

no_member : (o : Option Member) → is_some o ≡ false → o ≡ None
no_member None e = refl
no_member (Some m) e = absurd cc

pub opens_new : (config : Config) (members : List Member) → opening_fault config members ≡ None → member_named config.name members ≡ None
opens_new config members none =
    no_member (member_named config.name members)
    (not_taken (is_err (check_of config)) (is_some (member_named config.name members)) (is_some (member_at config.addr members)) (length members) none)

-- ---- the first event of a member is accepted

pub accepts_first : (now : ℕ) (config : Config) (s : State) → IsChecked config → s ≡ state_after [] → IsTrue (accepts_of s (Open now config))
accepts_first now config s good blank = ap (λ (t : State). accepts_of t (Open now config)) blank ∙ ap (λ (r : Result (Unit {0}) ConfigFault). is_ok r) good

-- ---- a cluster with one more member

none_named : (members : List Member) (name : List ℕ) → member_named name members ≡ None → list_any (is_named name) members ≡ false
none_named [] name none = refl
none_named (x ∷ xs) name none = either (is_named name x) refl (λ rest. none_named xs name rest)
  where
    either : (b : Bool) → is_named name x ≡ b → (member_named name xs ≡ None → list_any (is_named name) xs ≡ false) → (is_named name x || list_any (is_named name) xs) ≡ false
    either true it rest = let some : Some x ≡ None = sym (ap (λ (c : Bool). cond c (Some x) (member_named name xs)) it) ∙ none in absurd cc
    either false it rest = rw it (rest (sym (ap (λ (c : Bool). cond c (Some x) (member_named name xs)) it) ∙ none))

distinct_more : (members : List Member) (m : Member) → are_distinct_members members ≡ true → list_any (is_named m.name) members ≡ false → are_distinct_members (members ++ m ∷ []) ≡ true
distinct_more [] m distinct none = refl
distinct_more (x ∷ xs) m distinct none =
    let parts = both (not (list_any (is_named x.name) xs)) (are_distinct_members xs) distinct in
    let new = or_false (is_named m.name x) (list_any (is_named m.name) xs) none in
    let rest = distinct_more xs m parts.1 new.1 in
    let differs : is_named x.name m ≡ false = names_swap m.name x.name ∙ new.0 in
    let apart : list_any (is_named x.name) (xs ++ m ∷ []) ≡ false = list_any-append (is_named x.name) xs (m ∷ []) ∙ rw (not_true _ parts.0, differs) refl in
    rw (apart, rest) refl

no_events : (es : List Event) → is_begun es ≡ false → es ≡ []
no_events [] e = refl
no_events (x ∷ es) e = absurd cc

pub new_events : (hosts : List Host) (packets : List SentPacket) (members : List Member) (past : List Happening) (name : List ℕ) → IsCluster hosts packets members past → member_named name members ≡ None
    → events_of name past ≡ []
new_events hosts packets members past name is none =
    no_events (events_of name past) (sym (is.begun name) ∙ ap (λ (o : Option Member). is_some o) none)

some_more : (o : Option Member) (m : Member) → is_some (option_or o (Some m)) ≡ true
some_more None m = refl
some_more (Some x) m = refl

none_more : (o : Option Member) → is_some (option_or o None) ≡ is_some o
none_more None = refl
none_more (Some x) = refl

began : (hosts : List Host) (packets : List SentPacket) (members : List Member) (past : List Happening) (m : Member) (e : Event) (host : Host) (sends : List SentPacket)
    → IsCluster hosts packets members past → member_named m.name members ≡ None
    → host ≡ record { member = m; detector = state_after (e ∷ []) }
    → sends ≡ packets ++ sent_by (record { member = m; event = e }) past
    → IsCluster (hosts ++ host ∷ []) sends (members ++ m ∷ []) (record { member = m; event = e } ∷ past)
began hosts packets members past m e host sends is none leads sent_more =
    let h : Happening = record { member = m; event = e } in
    let new = none_named members m.name none in
    let own : events_of m.name (h ∷ past) ≡ e ∷ [] =
    events_of-own m.name h past (nat_list_eq_equiv.refl m.name) ∙ ap (λ (es : List Event). es ++ e ∷ []) (new_events hosts packets members past m.name is none) in
    record {
      hosts_are =
          let now : host ≡ host_after (h ∷ past) m = leads ∙ ap (λ (es : List Event). record { member = m; detector = state_after es }) (sym own) in
          ap (λ (hs : List Host). hs ++ host ∷ []) (is.hosts_are ∙ hosts_same past h members new)
          ∙ ap (λ (x : Host). map (host_after (h ∷ past)) members ++ x ∷ []) now
          ∙ sym (map-append (host_after (h ∷ past)) members (m ∷ []));
      packets_are = sent_more ∙ ap (λ (ps : List SentPacket). ps ++ sent_by h past) is.packets_are;
      distinct = distinct_more members m is.distinct new;
      begun = λ name. begun_on name (is_named name m) refl;
    }
  where
    begun_on : (name : List ℕ) (named : Bool) → is_named name m ≡ named → is_some (member_named name (members ++ m ∷ [])) ≡ is_begun (events_of name (record { member = m; event = e } ∷ past))
    begun_on name true same =
        ap (λ (o : Option Member). is_some o) (find-append (is_named name) members (m ∷ []))
        ∙ ap (λ (b : Bool). is_some (option_or (member_named name members) (cond b (Some m) None))) same
        ∙ some_more (member_named name members) m
        ∙ sym (ap (λ (es : List Event). is_begun es) (events_of-own name (record { member = m; event = e }) past same) ∙ begun_more (events_of name past) e)
    begun_on name false differs =
        ap (λ (o : Option Member). is_some o) (find-append (is_named name) members (m ∷ []))
        ∙ ap (λ (b : Bool). is_some (option_or (member_named name members) (cond b (Some m) None))) differs
        ∙ none_more (member_named name members)
        ∙ is.begun name ∙ ap (λ (es : List Event). is_begun es) (sym (events_of-other name (record { member = m; event = e }) past differs))

-- the same, with the lines of the reply behind a text
pub began_on : (old new : Cluster) (text longer : List ℕ) (members : List Member) (past : List Happening) (m : Member) (e : Event) (host : Host)
    → IsCluster old.hosts.items old.sent.items members past → member_named m.name members ≡ None
    → new.hosts.items ≡ old.hosts.items ++ host ∷ [] → new.settings ≡ old.settings
    → host ≡ record { member = m; detector = state_after (e ∷ []) }
    → new.sent.items ≡ old.sent.items ++ map (sent_from m.addr) (reply_after [] e).sends.items
    → longer ≡ text ++ reply_text e (vec_len old.sent + 1) (reply_after [] e)
    → LedOn old new text longer (members ++ m ∷ []) past (Some (record { member = m; event = e }))
began_on old new text longer members past m e host is none hosts settings leads sends lines =
    let h : Happening = record { member = m; event = e } in
    let none_yet = new_events old.hosts.items old.sent.items members past m.name is none in
    record {
      after =
          let sent_more : new.sent.items ≡ old.sent.items ++ sent_by h past =
          sends ∙ ap (λ (es : List Event). old.sent.items ++ map (sent_from m.addr) (reply_after es e).sends.items) (sym none_yet) in
          let next = began old.hosts.items old.sent.items members past m e host new.sent.items is none leads sent_more in
          subst (λ (hs : List Host). IsCluster hs new.sent.items (members ++ m ∷ []) (h ∷ past)) (sym hosts) next;
      settings_stay = settings;
      writes =
          let count : vec_len old.sent ≡ length (sent past) = omega (arith, old.sent.ok.0, ap length is.packets_are) in
          lines ∙ ap (λ (n : ℕ). text ++ reply_text e (n + 1) (reply_after [] e)) count
          ∙ ap (λ (es : List Event). text ++ reply_text e (length (sent past) + 1) (reply_after es e)) (sym none_yet);
    }
