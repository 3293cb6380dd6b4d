-- The rows of suspicions once a name is forgotten, by the names that are left; and whether there is room for a claim.
use Rattle.std.proofs.Common.{◌≡◌, ◌≢◌, ℕ, ◌+◌, ◌<◌, Bool, true, false, not, ◌&&◌, ◌||◌, cond, leb, ltb, arith, List, [], ◌∷◌, length, map, get_or, Option, Some, None, inl, inr, refl, sym, ◌∙◌, ap, subst}
use Rattle.std.proofs.lemmas.Bool.{cases_Bool}
use Rattle.std.proofs.lemmas.Bool.Decides.{nat_tests}
use Rattle.lg_rules.specs.declared.claim.Claim.{Claim}
use Rattle.lg_rules.specs.Meaning.Claim.{is_gone, name_of}
use Rattle.lg_rules.specs.Meaning.Rows.{name_cmp, is_same, is_among, row_at, without_row}
use Rattle.lg_rules.specs.Meaning.Slots.{freed, slot_in}
use Rattle.lg_rules.specs.Meaning.Table.{MembersValue, members_forgot, slot_given_back, lacks_room, record_of}
use Rattle.lg_rules.proofs.KeyOrder.{names_order, same_key, other_key, cases_key}
use Rattle.lg_rules.proofs.Rises.{among-put}
use Rattle.lg_rules.proofs.SlotLaws.{none-held, freed-none}
use Rattle.lg_rules.proofs.Stories.{record_of_none, record_of_some}
use Rattle.lg_rules.proofs.Tables.{length-table, row_at-record}
use Rattle.lg_suspicion.specs.Meaning.Parts.{SuspicionParts, suspicion_by, parts_without, IsKnownTo}
use Rattle.lg_suspicion.proofs.KnownAccusers.{suspicion-left, known-left, suspicion-moved, known-moved}
use Rattle.lg_membership.specs.declared.suspected.Suspected.{Suspected}
use Rattle.lg_membership.specs.Meaning.Log.{GroupLog, me, own, own_facts, forgets, known_others, known, table, needs_room, has_room_for}
use Rattle.lg_membership.specs.Support.Rows.{row_without, rows_by, AreKnownTo}
use Rattle.lg_membership.specs.Support.Reached.{IsGroupReached}
use Rattle.lg_membership.specs.Support.State.{GroupState, group_state_of, has_room_in, needs_room_in, forget_from_group, without_name}
use Rattle.lg_membership.proofs.FactLaws.{own_name}
use Rattle.lg_membership.proofs.KnownLaws.{own_known}
use Rattle.lg_membership.proofs.Rooms.{reached-ordered}

-- one suspicion
suspicion-without : (names : List (Option (List ℕ))) (parts : SuspicionParts) (n : List ℕ) (slot : ℕ) → slot_in n names ≡ Some slot → IsKnownTo names parts
    → suspicion_by (freed n names) (parts_without slot n parts) ≡ suspicion_by names parts
suspicion-without names parts n slot has known = elim (cases_Bool (get_or parts.members slot false)) [
  | inl t ↦ rw t (suspicion-moved names parts n slot has known t)
  | inr f ↦ rw f (suspicion-left names parts n slot has known f)
]

known-without_slot : (names : List (Option (List ℕ))) (parts : SuspicionParts) (n : List ℕ) (slot : ℕ) → slot_in n names ≡ Some slot → IsKnownTo names parts
    → IsKnownTo (freed n names) (parts_without slot n parts)
known-without_slot names parts n slot has known = elim (cases_Bool (get_or parts.members slot false)) [
  | inl t ↦ rw t (known-moved names parts n slot has known t)
  | inr f ↦ rw f (known-left names parts n slot has known f)
]

-- all of them
rows-forgotten : (names : List (Option (List ℕ))) (n : List ℕ) (slot : ℕ) (rows : List Suspected) → slot_in n names ≡ Some slot → AreKnownTo names rows
    → rows_by (freed n names) (map (row_without slot n) rows) ≡ rows_by names rows
rows-forgotten names n slot [] has known = refl
rows-forgotten names n slot (x ∷ xs) has known =
    let one = suspicion-without names x.suspicion n slot has known.0 in
    λ i. record { name = x.name; suspicion = one i } ∷ rows-forgotten names n slot xs has known.1 i

known-forgotten : (names : List (Option (List ℕ))) (n : List ℕ) (slot : ℕ) (rows : List Suspected) → slot_in n names ≡ Some slot → AreKnownTo names rows
    → AreKnownTo (freed n names) (map (row_without slot n) rows)
known-forgotten names n slot [] has known = known
known-forgotten names n slot (x ∷ xs) has known =
    (known-without_slot names x.suspicion n slot has known.0, known-forgotten names n slot xs has known.1)

-- what a name leaves once it was forgotten and gave its slot back, if it had one
module _ (n : List ℕ) (k left : MembersValue) (rows : List Suspected) (other : n ≢ k.own) (is : left ≡ members_forgot n k) (known : AreKnownTo k.names rows) where
  names-left : left.names ≡ freed n k.names
  names-left = ap (λ (m : MembersValue). m.names) is ∙ ap (λ b. names_if b) (other_key names_order n k.own other)
    where
      names_if : Bool → List (Option (List ℕ))
      names_if b = (cond b k (record k { table = without_row name_cmp name_of n k.table; names = freed n k.names })).names

  slot-left : (o : Option ℕ) → o ≡ slot_given_back n k → slot_in n k.names ≡ o
  slot-left o given = sym (given ∙ ap (λ b. cond b None (slot_in n k.names)) (other_key names_order n k.own other))

  module _ (slot : ℕ) (given : Some slot ≡ slot_given_back n k) (after : List Suspected) (each : after ≡ map (row_without slot n) rows) where
    pub rows-given : rows_by left.names after ≡ rows_by k.names rows
    rows-given = (λ i. rows_by (names-left i) (each i)) ∙ rows-forgotten k.names n slot rows (slot-left (Some slot) given) known

    pub known-given : AreKnownTo left.names after
    known-given =
        subst (λ xs. AreKnownTo left.names xs) (sym each)
        (subst (λ ns. AreKnownTo ns (map (row_without slot n) rows)) (sym names-left)
        (known-forgotten k.names n slot rows (slot-left (Some slot) given) known))

  -- a name that had no slot gives none back
  module _ (none : None ≡ slot_given_back n k) where
    names-same : left.names ≡ k.names
    names-same = names-left ∙ freed-none n k.names (none-held n k.names (slot-left None none))

    pub rows-same : rows_by left.names rows ≡ rows_by k.names rows
    rows-same = ap (λ ns. rows_by ns rows) names-same

    pub known-same : AreKnownTo left.names rows
    known-same = subst (λ ns. AreKnownTo ns rows) (sym names-same) known

-- The state of a member that forgets a name: its own, or another.
pub forget_none : (n : List ℕ) (s : GroupState) → IsGroupReached s → is_same name_cmp n s.own.name ≡ true → s ≡ forget_from_group n s
forget_none n s r same =
    ap (λ b. cond b s (without_name n s)) (sym same ∙ ap (is_same name_cmp n) (reached-ordered s r).one_name)

pub forget_other : (n : List ℕ) (s : GroupState) → IsGroupReached s → is_same name_cmp n s.own.name ≡ false → without_name n s ≡ forget_from_group n s
forget_other n s r other =
    ap (λ b. cond b s (without_name n s)) (sym other ∙ ap (is_same name_cmp n) (reached-ordered s r).one_name)

-- Whether there is room for a claim, by the state and by the log.
lacks-row : (forgetting : Bool) (count : ℕ) (c : Claim) (o : Option Claim) (b : Bool) → (b ≡ true → o ≢ None) → (b ≡ false → o ≡ None)
    → lacks_room forgetting count c o ≡ (forgetting && (not (ltb count 255) && (not (is_gone c.status) && not b)))
lacks-row forgetting count c None true some none = absurd (some refl refl)
lacks-row forgetting count c None false some none = last forgetting (not (ltb count 255)) (not (is_gone c.status))
  where
    last : (x y z : Bool) → (x && (y && z)) ≡ (x && (y && (z && true)))
    last true true true = refl
    last true true false = refl
    last true false z = refl
    last false y z = refl
lacks-row forgetting count c (Some r) true some none = last forgetting (not (ltb count 255)) (not (is_gone c.status))
  where
    last : (x y z : Bool) → false ≡ (x && (y && (z && false)))
    last true true true = refl
    last true true false = refl
    last true false z = refl
    last false y z = refl
lacks-row forgetting count c (Some r) false some none = (let bad : Some r ≡ None = none refl in absurd cc)

needs_room-other : (log : GroupLog) (c : Claim) → c.name ≢ me log
    → lacks_room (forgets log) (length (table log)) c (row_at name_cmp name_of c.name (table log)) ≡ needs_room log c
needs_room-other log c other =
    let F = forgets log in
    let facts = own_facts log in
    let among : is_among name_cmp c.name (known log) ≡ is_among name_cmp c.name (known_others log) =
    among-put names_order c.name (me log) (known_others log)
    ∙ ap (λ b. b || is_among name_cmp c.name (known_others log)) (other_key names_order (me log) c.name (λ e. other (sym e))) in
    (λ i. lacks_room F (length-table F (me log) facts i) c (row_at-record F (me log) facts c.name i))
    ∙ lacks-row F (length (known_others log)) c (record_of F (me log) facts c.name) (is_among name_cmp c.name (known_others log))
    (record_of_some F (me log) facts c.name) (record_of_none F (me log) facts c.name)
    ∙ ap (λ b. F && (not (ltb (length (known_others log)) 255) && (not (is_gone c.status) && not b))) (sym among)

needs_room-own : (log : GroupLog) (c : Claim) → c.name ≡ me log → false ≡ needs_room log c
needs_room-own log c same =
    let among : is_among name_cmp c.name (known log) ≡ true = ap (λ k. is_among name_cmp k (known log)) same ∙ own_known log in
    none (forgets log) (not (ltb (length (known_others log)) 255)) (not (is_gone c.status))
    ∙ ap (λ b. forgets log && (not (ltb (length (known_others log)) 255) && (not (is_gone c.status) && not b))) (sym among)
  where
    none : (x y z : Bool) → false ≡ (x && (y && (z && false)))
    none true true true = refl
    none true true false = refl
    none true false z = refl
    none false y z = refl

pub needs_room-log : (c : Claim) (log : GroupLog) → needs_room_in c (group_state_of log) ≡ needs_room log c
needs_room-log c log = elim (cases_key names_order c.name (me log)) [
  | inl same ↦ rw (same_key names_order c.name (own log).name (same ∙ sym (own_name log))) (needs_room-own log c same)
  | inr other ↦ rw (other_key names_order c.name (own log).name (λ e. other (e ∙ own_name log))) (needs_room-other log c other)
]

-- The same of some claims,
pub has_room-log : (count : ℕ) (log : GroupLog) → has_room_in count (group_state_of log) ≡ has_room_for log count
has_room-log count log =
    ap (λ n. not (forgets log) || leb (n + count) 255) (length-table (forgets log) (me log) (own_facts log))

-- and if there is room for them, none of them needs any.
full_none : (b : Bool) (n k : ℕ) → 0 < k → (not b || leb (n + k) 255) ≡ true → (b && not (ltb n 255)) ≡ false
full_none false n k some e = refl
full_none true n k some e = grind (arith, nat_tests, e)

pub room-no_need : (log : GroupLog) (count : ℕ) (c : Claim) → 0 < count → has_room_for log count ≡ true → needs_room log c ≡ false
room-no_need log count c some roomy =
    less (forgets log) (not (ltb (length (known_others log)) 255)) (not (is_gone c.status) && not (is_among name_cmp c.name (known log)))
    (full_none (forgets log) (length (known_others log)) count some roomy)
  where
    less : (a b d : Bool) → (a && b) ≡ false → (a && (b && d)) ≡ false
    less true true d e = absurd cc
    less true false d e = refl
    less false b d e = refl
