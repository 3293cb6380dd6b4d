-- The suspicions of all, when a claim is said.
use Rattle.std.proofs.Common.{◌≡◌, ◌≢◌, ℕ, ◌<◌, ◌≤◌, Bool, true, false, ◌&&◌, cond, eqb, List, [], ◌∷◌, length, map, Option, Some, None, inl, inr, refl, sym, ◌∙◌, ap, subst, arith}
use Rattle.std.specs.List.{filter_map}
use Rattle.std.proofs.lemmas.Bool.{cases_Bool, eqb-true}
use Rattle.lg_rules.specs.declared.claim.Claim.{Claim}
use Rattle.lg_rules.specs.declared.claim.Status.{Status}
use Rattle.lg_rules.specs.declared.claim.Status.TheVariants.{Alive, Suspect, Failed, Left}
use Rattle.lg_rules.specs.declared.members.Heard.{Heard}
use Rattle.lg_rules.specs.declared.members.Heard.TheVariants.{Overrode, Accused, Same, Ignored, NoRoom}
use Rattle.lg_rules.specs.Meaning.Claim.{accuser_of, is_gone}
use Rattle.lg_rules.specs.Meaning.Own.{Told}
use Rattle.lg_rules.specs.Meaning.Rows.{name_cmp, is_same, is_among, put_key, put_row, row_at, without_row, Rises}
use Rattle.lg_rules.specs.Meaning.Table.{roster, record_of, takes, standing_hearing, hearing_of, heard, live_in}
use Rattle.lg_rules.proofs.Cases.{Missing, Holding, held, held_once}
use Rattle.lg_rules.proofs.KeyOrder.{names_order, cases_key}
use Rattle.lg_rules.proofs.Rises.{put-there}
use Rattle.lg_rules.proofs.Roster.{rises-roster, roster-nil, roster-own, roster-forgot, roster-leaves, own_unknown, length-roster}
use Rattle.lg_rules.proofs.RowLaws.{AgreeBut, rows_equal, rows_same, rows-skip, rows-put, rows-less, rows-without, row_at-rows, rises-rows, rows_room, length_rows-le}
use Rattle.lg_rules.proofs.Stories.{record_of_none}
use Rattle.lg_rules.proofs.Tables.{IsTaken, IsUnbeaten, Taken, Unbeaten, Out, heard_cases, heard-table, row_at-table}
use Rattle.lg_timing.specs.declared.config.Config.{Config}
use Rattle.lg_timing.specs.Meaning.Config.{does_forget}
use Rattle.lg_suspicion.specs.Meaning.Accusers.{SuspicionValue, accuser_counts, accused}
use Rattle.lg_gossip.specs.Meaning.Queue.{is_suspect}
use Rattle.lg_membership.specs.declared.origin.Origin.{Origin}
use Rattle.lg_membership.specs.Meaning.Log.{GroupLog, Opened, Said, Sent, Departed, Forgot, config, me, own_facts, forgets, known_others, table, live}
use Rattle.lg_membership.specs.Meaning.Suspicions.{SuspectedValue, suspected, suspicions, suspected_name, accuses}
use Rattle.lg_membership.specs.Support.Changes.{Change, Nothing, Putting, ended, accusing, overriding, change_by, change_of, row_about, suspicions_after}
use Rattle.lg_membership.proofs.QueueLaws.{none_rows}
use Rattle.lg_rules.proofs.Removing.{without-missing}
use Rattle.lg_membership.proofs.QueuedLaws.{row_out}
use Rattle.lg_membership.proofs.SuspectedLaws.{suspected-alike, suspected-left, suspected-kept, suspected-forgotten, suspected-quiet, suspected-other, suspected-unopened, suspected-ended, suspected-raised, raised_at, suspected-accused, suspected_keyed}
use Rattle.lg_membership.proofs.SuspectedLaws.{suspected_unknown}

-- Facts that say nothing of a member leave the suspicions.
pub suspicions-sent : (taken : List Claim) (log : GroupLog) → suspicions log ≡ suspicions (Sent taken ∷ log)
unfolding suspicions
suspicions-sent taken log = sym (rows_equal (suspected log) (suspected (Sent taken ∷ log)) (known_others log) (λ m. suspected-alike log (Sent taken ∷ log) m refl refl refl (λ i. refl)))

pub suspicions-left : (log : GroupLog) → suspicions log ≡ suspicions (Departed ∷ log)
unfolding suspicions
suspicions-left log =
    sym (rows_equal (suspected log) (suspected (Departed ∷ log)) (known_others log) (suspected-left log))
    ∙ ap (filter_map (suspected (Departed ∷ log))) (sym (roster-leaves (forgets log) (me log) (own_facts log)))

-- Once a name is forgotten, those of the others are left.
pub suspicions-forgot : (n : List ℕ) (log : GroupLog) → without_row name_cmp suspected_name n (suspicions log) ≡ suspicions (Forgot n ∷ log)
unfolding suspicions
suspicions-forgot n log =
    let f = suspected log in
    let g = suspected (Forgot n ∷ log) in
    rows-without names_order suspected_name f g n (known_others log) (suspected_keyed log) (suspected-forgotten n log) (λ m other. suspected-kept n log m (λ e. other (sym e)))
    ∙ sym (rows-less names_order g n (known_others log) (suspected-forgotten n log))
    ∙ ap (filter_map g) (sym (roster-forgot (forgets log) (me log) n (own_facts log)))

pub suspicions-opened : (opening : Config) (log : GroupLog) → suspicions (Opened opening ∷ log) ≡ []
unfolding suspicions
suspicions-opened opening log = ap (filter_map (suspected (Opened opening ∷ log))) (roster-nil (does_forget opening) opening.name)

pub suspicions-nil : suspicions [] ≡ []
unfolding suspicions
suspicions-nil = ap (filter_map (suspected [])) (roster-nil (forgets []) (me []))

pub suspicions-unopened : (log : GroupLog) → config log ≡ None → suspicions log ≡ []
unfolding suspicions
suspicions-unopened log e = none_rows (suspected log) (roster (forgets log) (me log) (own_facts log)) (λ m. suspected-unopened log m e)

-- the suspicion of a member that is known
pub row_at-suspicions : (log : GroupLog) (m : List ℕ) → is_among name_cmp m (roster (forgets log) (me log) (own_facts log)) ≡ true → row_at name_cmp suspected_name m (suspicions log) ≡ suspected log m
unfolding suspicions
row_at-suspicions log m among =
    row_at-rows names_order suspected_name (suspected log) m (roster (forgets log) (me log) (own_facts log)) (rises-roster (forgets log) (me log) (own_facts log)) (suspected_keyed log)
    ∙ ap (λ b. cond b (suspected log m) None) among

-- Who isn't known isn't suspected, so what is found among the suspicions is that of the member.
pub found-suspected : (log : GroupLog) (m : List ℕ)
    → row_at name_cmp suspected_name m (suspicions log) ≡ suspected log m
unfolding suspicions
found-suspected log m = elim (cases_Bool (is_among name_cmp m (roster (forgets log) (me log) (own_facts log)))) [
  | inl among ↦ row_at-suspicions log m among
  | inr other ↦
      row_at-rows names_order suspected_name (suspected log) m (roster (forgets log) (me log) (own_facts log))
      (rises-roster (forgets log) (me log) (own_facts log)) (suspected_keyed log)
      ∙ ap (λ b. cond b (suspected log m) None) other
      ∙ sym (suspected_unknown log m (record_of_none (forgets log) (me log) (own_facts log) m other))
]

-- there is none of oneself
pub row_at-suspicions_own : (log : GroupLog) → row_at name_cmp suspected_name (me log) (suspicions log) ≡ None
unfolding suspicions
row_at-suspicions_own log =
    row_at-rows names_order suspected_name (suspected log) (me log) (known_others log) (rises-roster (forgets log) (me log) (own_facts log)) (suspected_keyed log)
    ∙ ap (λ b. cond b (suspected log (me log)) None) (own_unknown (forgets log) (me log) (own_facts log))

-- They are in the order of their names.
pub rises-suspicions : (log : GroupLog) → Rises name_cmp (map suspected_name (suspicions log))
unfolding suspicions
rises-suspicions log = rises-rows names_order suspected_name (suspected log) (roster (forgets log) (me log) (own_facts log)) (suspected_keyed log) (rises-roster (forgets log) (me log) (own_facts log))

-- A claim about oneself leaves them.
pub suspicions-own : (now : ℕ) (origin : Origin) (log : GroupLog) (c : Claim) → c.name ≡ me log → suspicions log ≡ suspicions (Said now origin c ∷ log)
unfolding suspicions
suspicions-own now origin log c same =
    let agree : AgreeBut (me log) (suspected log) (suspected (Said now origin c ∷ log)) = λ n other. suspected-other now origin log c n (λ e. other (sym e ∙ same)) in
    sym (rows_same names_order (suspected log) (suspected (Said now origin c ∷ log)) (me log) (roster (forgets log) (me log) (own_facts log)) agree (own_unknown (forgets log) (me log) (own_facts log)))
    ∙ ap (filter_map (suspected (Said now origin c ∷ log))) (sym (roster-own (forgets log) (me log) c (own_facts log) same))

agree_but : (now : ℕ) (origin : Origin) (log : GroupLog) (c : Claim) → AgreeBut c.name (suspected log) (suspected (Said now origin c ∷ log))
agree_but now origin log c n other = suspected-other now origin log c n (λ e. other (sym e))

-- One about another puts a suspicion, ends one, or leaves them.
rows_put : (now : ℕ) (origin : Origin) (log : GroupLog) (c : Claim) (r : SuspectedValue) → r.name ≡ c.name → suspected (Said now origin c ∷ log) c.name ≡ Some r
    → roster (forgets log) (me log) (Told c ∷ own_facts log) ≡ put_key name_cmp c.name (roster (forgets log) (me log) (own_facts log))
    → put_row name_cmp suspected_name r (suspicions log) ≡ suspicions (Said now origin c ∷ log)
unfolding suspicions
rows_put now origin log c r named is names =
    let f = suspected log in
    let g = suspected (Said now origin c ∷ log) in
    let ns = roster (forgets log) (me log) (own_facts log) in
    rows-put names_order suspected_name f g r ns (rises-roster (forgets log) (me log) (own_facts log)) (suspected_keyed log) (ap g named ∙ is) (λ n other. agree_but now origin log c n (λ e. other (e ∙ sym named)))
    ∙ ap (λ m. filter_map g (put_key name_cmp m ns)) named
    ∙ ap (filter_map g) (sym names)

rows_end : (now : ℕ) (origin : Origin) (log : GroupLog) (c : Claim) → suspected (Said now origin c ∷ log) c.name ≡ None
    → roster (forgets log) (me log) (Told c ∷ own_facts log) ≡ put_key name_cmp c.name (roster (forgets log) (me log) (own_facts log))
    → without_row name_cmp suspected_name c.name (suspicions log) ≡ suspicions (Said now origin c ∷ log)
unfolding suspicions
rows_end now origin log c none names =
    let f = suspected log in
    let g = suspected (Said now origin c ∷ log) in
    let ns = roster (forgets log) (me log) (own_facts log) in
    rows-without names_order suspected_name f g c.name ns (suspected_keyed log) none (agree_but now origin log c)
    ∙ sym (rows-skip names_order g c.name ns none)
    ∙ ap (filter_map g) (sym names)

rows_stay : (now : ℕ) (origin : Origin) (log : GroupLog) (c : Claim) → suspected (Said now origin c ∷ log) c.name ≡ suspected log c.name → roster (forgets log) (me log) (Told c ∷ own_facts log) ≡ roster (forgets log) (me log) (own_facts log)
    → suspicions log ≡ suspicions (Said now origin c ∷ log)
unfolding suspicions
rows_stay now origin log c same names =
    let f = suspected log in
    let g = suspected (Said now origin c ∷ log) in
    sym (rows_equal f g (roster (forgets log) (me log) (own_facts log)) each) ∙ ap (filter_map g) (sym names)
  where
    each : (n : List ℕ) → suspected (Said now origin c ∷ log) n ≡ suspected log n
    each n = elim (cases_key names_order c.name n) [
      | inl e ↦ subst (λ m. suspected (Said now origin c ∷ log) m ≡ suspected log m) e same
      | inr other ↦ suspected-other now origin log c n other
    ]

rows_out : (now : ℕ) (origin : Origin) (log : GroupLog) (c : Claim) → is_among name_cmp c.name (roster (forgets log) (me log) (own_facts log)) ≡ false → roster (forgets log) (me log) (Told c ∷ own_facts log) ≡ roster (forgets log) (me log) (own_facts log)
    → suspicions log ≡ suspicions (Said now origin c ∷ log)
unfolding suspicions
rows_out now origin log c out names =
    sym (rows_same names_order (suspected log) (suspected (Said now origin c ∷ log)) c.name (roster (forgets log) (me log) (own_facts log)) (agree_but now origin log c) out)
    ∙ ap (filter_map (suspected (Said now origin c ∷ log))) (sym names)

-- before the opening there is none
none_overridden : (now n : ℕ) (m : List ℕ) (s : Status) → suspicions_after (overriding None now n m None s) [] ≡ []
none_overridden now n m Alive = refl
none_overridden now n m (Suspect a) = refl
none_overridden now n m Failed = refl
none_overridden now n m Left = refl

none_accused : (a : Option (List ℕ)) → suspicions_after (accusing a None) [] ≡ []
none_accused None = refl
none_accused (Some a) = refl

none_changed : (h : Heard) (now n : ℕ) (c : Claim) → suspicions_after (change_by h None now n None c) [] ≡ []
none_changed Overrode now n c = none_overridden now n c.name c.status
none_changed Accused now n c = none_accused (accuser_of c.status)
none_changed Same now n c = refl
none_changed Ignored now n c = refl
none_changed NoRoom now n c = refl

abbrev change : ℕ → GroupLog → Claim → Change
change now log c = change_of (forgets log) (config log) now (table log) (suspicions log) c

changed-unopened : (now : ℕ) (origin : Origin) (log : GroupLog) (c : Claim) → config log ≡ None → suspicions_after (change now log c) (suspicions log) ≡ suspicions (Said now origin c ∷ log)
changed-unopened now origin log c e =
    let none = suspicions-unopened log e in
    (λ i. suspicions_after (change_of (forgets log) (e i) now (table log) (none i) c) (none i))
    ∙ none_changed (hearing_of (forgets log) (table log) c) now (live_in (heard (forgets log) (table log) c)) c
    ∙ sym (suspicions-unopened (Said now origin c ∷ log) e)

-- what a status is
data Kind (s : Status) : Type 0 where
  IsAlive : s ≡ Alive → Kind s
  IsSuspect : (accuser : List ℕ) → s ≡ Suspect accuser → Kind s
  IsFailed : s ≡ Failed → Kind s
  IsLeft : s ≡ Left → Kind s

kind_of : (s : Status) → Kind s
kind_of Alive = IsAlive refl
kind_of (Suspect a) = IsSuspect a refl
kind_of Failed = IsFailed refl
kind_of Left = IsLeft refl

-- a claim that is taken
overrode : (log : GroupLog) (c : Claim) → takes (forgets log) (table log) c ≡ true → hearing_of (forgets log) (table log) c ≡ Overrode
overrode log c t = rw t refl

-- a suspicion that ends, if there is one, leaves those of the others
pub ended-after : (m : List ℕ) (rows : List SuspectedValue) → Rises name_cmp (map suspected_name rows)
    → suspicions_after (ended m (row_at name_cmp suspected_name m rows)) rows ≡ without_row name_cmp suspected_name m rows
ended-after m rows rise = elim (held (row_at name_cmp suspected_name m rows)) [
  | Missing gap ↦ ap (λ o. suspicions_after (ended m o) rows) gap ∙ sym (without-missing names_order suspected_name m rows rise gap)
  | Holding row is ↦ ap (λ o. suspicions_after (ended m o) rows) is
]

changed-taken : (now : ℕ) (origin : Origin) (log : GroupLog) (c : Claim) (opening : Config) → config log ≡ Some opening → c.name ≢ me log → IsTaken (forgets log) (me log) c (own_facts log)
    → suspicions_after (change now log c) (suspicions log) ≡ suspicions (Said now origin c ∷ log)
changed-taken now origin log c opening opened other t =
    let later = Said now origin c ∷ log in
    let n = live_in (heard (forgets log) (table log) c) in
    let rows = suspicions log in
    let row = row_about c rows in
    let by_status : change now log c ≡ overriding (Some opening) now n c.name row c.status =
    ap (λ h. change_by h (config log) now n row c) (overrode log c t.taken) ∙ ap (λ o. overriding o now n c.name row c.status) opened in
    let fewer : n ≡ live later = ap live_in (heard-table (forgets log) (me log) c (own_facts log) other) in
    let left = ended-after c.name rows (rises-suspicions log) in
    elim (kind_of c.status) [
      | IsAlive is ↦ (
          ap (λ ch. suspicions_after ch rows) (by_status ∙ ap (overriding (Some opening) now n c.name row) is)
          ∙ left ∙ rows_end now origin log c (suspected-ended later c.name c t.stands (ap is_suspect is)) t.names)
      | IsSuspect accuser is ↦ (
          let raised : overriding (Some opening) now n c.name row c.status ≡ Putting (raised_at opening later c.name accuser) =
          ap (overriding (Some opening) now n c.name row) is ∙ ap (λ k. overriding (Some opening) now k c.name row (Suspect accuser)) fewer in
          ap (λ ch. suspicions_after ch rows) (by_status ∙ raised)
          ∙ rows_put now origin log c (raised_at opening later c.name accuser) refl (suspected-raised now origin log c accuser opening opened is t.stands t.beaten) t.names)
      | IsFailed is ↦ (
          ap (λ ch. suspicions_after ch rows) (by_status ∙ ap (overriding (Some opening) now n c.name row) is)
          ∙ left ∙ rows_end now origin log c (suspected-ended later c.name c t.stands (ap is_suspect is)) t.names)
      | IsLeft is ↦ (
          ap (λ ch. suspicions_after ch rows) (by_status ∙ ap (overriding (Some opening) now n c.name row) is)
          ∙ left ∙ rows_end now origin log c (suspected-ended later c.name c t.stands (ap is_suspect is)) t.names)
    ]

-- a claim that isn't, about a member with this record
abbrev is_quiet : Heard → Bool
is_quiet Overrode = false
is_quiet Accused = false
is_quiet Same = true
is_quiet Ignored = true
is_quiet NoRoom = true

quiet_change : (h : Heard) (opened : Option Config) (now n : ℕ) (row : Option SuspectedValue) (c : Claim) → is_quiet h ≡ true → change_by h opened now n row c ≡ Nothing
quiet_change Overrode opened now n row c e = absurd cc
quiet_change Accused opened now n row c e = absurd cc
quiet_change Same opened now n row c e = refl
quiet_change Ignored opened now n row c e = refl
quiet_change NoRoom opened now n row c e = refl

data UnbeatenAs (c r : Claim) : Type 0 where
  Accuses : (accuser : List ℕ) → c.status ≡ Suspect accuser → is_suspect r.status ≡ true → c.incarnation ≡ r.incarnation → standing_hearing false c (Some r) ≡ Accused → UnbeatenAs c r
  Says : is_quiet (standing_hearing false c (Some r)) ≡ true → (is_suspect r.status ≡ true → (is_suspect c.status && eqb c.incarnation r.incarnation) ≡ false) → UnbeatenAs c r

unbeaten_as : (c r : Claim) → UnbeatenAs c r
unbeaten_as c r = elim (cases_Bool (eqb c.incarnation r.incarnation)) [
  | inl t ↦ elim (kind_of c.status) [
    | IsAlive cs ↦ elim (kind_of r.status) [
      | IsAlive rs ↦ Says (rw (t, cs, rs) refl) (λ e. rw cs refl)
      | IsSuspect b rs ↦ Says (rw (t, cs, rs) refl) (λ e. rw cs refl)
      | IsFailed rs ↦ Says (rw (t, cs, rs) refl) (λ e. rw cs refl)
      | IsLeft rs ↦ Says (rw (t, cs, rs) refl) (λ e. rw cs refl)
    ]
    | IsSuspect a cs ↦ elim (kind_of r.status) [
      | IsAlive rs ↦ Says (rw (t, cs, rs) refl) (λ e. (let bad : false ≡ true = sym (ap is_suspect rs) ∙ e in absurd cc))
      | IsSuspect b rs ↦ Accuses a cs (ap is_suspect rs) (eqb-true c.incarnation r.incarnation t) (rw (t, cs, rs) refl)
      | IsFailed rs ↦ Says (rw (t, cs, rs) refl) (λ e. (let bad : false ≡ true = sym (ap is_suspect rs) ∙ e in absurd cc))
      | IsLeft rs ↦ Says (rw (t, cs, rs) refl) (λ e. (let bad : false ≡ true = sym (ap is_suspect rs) ∙ e in absurd cc))
    ]
    | IsFailed cs ↦ elim (kind_of r.status) [
      | IsAlive rs ↦ Says (rw (t, cs, rs) refl) (λ e. rw cs refl)
      | IsSuspect b rs ↦ Says (rw (t, cs, rs) refl) (λ e. rw cs refl)
      | IsFailed rs ↦ Says (rw (t, cs, rs) refl) (λ e. rw cs refl)
      | IsLeft rs ↦ Says (rw (t, cs, rs) refl) (λ e. rw cs refl)
    ]
    | IsLeft cs ↦ elim (kind_of r.status) [
      | IsAlive rs ↦ Says (rw (t, cs, rs) refl) (λ e. rw cs refl)
      | IsSuspect b rs ↦ Says (rw (t, cs, rs) refl) (λ e. rw cs refl)
      | IsFailed rs ↦ Says (rw (t, cs, rs) refl) (λ e. rw cs refl)
      | IsLeft rs ↦ Says (rw (t, cs, rs) refl) (λ e. rw cs refl)
    ]
  ]
  | inr f ↦ Says (rw f refl) (λ e. rw f (never (is_suspect c.status)))
]
  where
    never : (b : Bool) → (b && false) ≡ false
    never true = refl
    never false = refl

hearing-unbeaten : (log : GroupLog) (c : Claim) (k : IsUnbeaten (forgets log) (me log) c (own_facts log)) → hearing_of (forgets log) (table log) c ≡ standing_hearing false c (Some k.r)
hearing-unbeaten log c k =
    let row = row_at-table (forgets log) (me log) (own_facts log) c.name ∙ ap (λ b. cond b (record_of (forgets log) (me log) (own_facts log) c.name) None) k.among ∙ k.before in
    rw k.taken (ap (standing_hearing (forgets log) c) row)

accused-not : (s : SuspicionValue) (a : List ℕ) → accuser_counts s a ≡ false → accused s a ≡ s
accused-not s a e = rw e refl

changed-unbeaten : (now : ℕ) (origin : Origin) (log : GroupLog) (c : Claim) (opening : Config) → config log ≡ Some opening → IsUnbeaten (forgets log) (me log) c (own_facts log)
    → suspicions_after (change now log c) (suspicions log) ≡ suspicions (Said now origin c ∷ log)
changed-unbeaten now origin log c opening opened k =
    let n = live_in (heard (forgets log) (table log) c) in
    let rows = suspicions log in
    let ns = roster (forgets log) (me log) (own_facts log) in
    let said_same = k.after ∙ sym k.before in
    let there = put-there names_order c.name ns (rises-roster (forgets log) (me log) (own_facts log)) k.among in
    elim (unbeaten_as c k.r) [
      | Accuses a is suspect same hearing ↦ (
          let has = suspected-accused now origin log c k.r a opening opened is k.before k.after suspect same in
          let row = has.row in
          let grown : SuspectedValue = record { name = row.name; suspicion = accused row.suspicion a } in
          let by_row : change now log c ≡ accusing (Some a) (Some row) =
          ap (λ h. change_by h (config log) now n (row_about c rows) c) (hearing-unbeaten log c k ∙ hearing)
          ∙ ap (λ s. accusing (accuser_of s) (row_at name_cmp suspected_name c.name rows)) is
          ∙ ap (accusing (Some a)) (row_at-suspicions log c.name k.among ∙ has.before) in
          elim (cases_Bool (accuser_counts row.suspicion a)) [
            | inl t ↦ (
                let stands : accusing (Some a) (Some row) ≡ Putting grown = rw t refl in
                ap (λ ch. suspicions_after ch rows) (by_row ∙ stands) ∙ rows_put now origin log c grown has.named has.after (k.names ∙ sym there))
            | inr f ↦ (
                let stays : accusing (Some a) (Some row) ≡ Nothing = rw f refl in
                let same_row : suspected (Said now origin c ∷ log) c.name ≡ suspected log c.name =
                has.after ∙ ap (λ s. Some record { name = row.name; suspicion = s }) (accused-not row.suspicion a f) ∙ sym has.before in
                ap (λ ch. suspicions_after ch rows) (by_row ∙ stays) ∙ rows_stay now origin log c same_row k.names)
          ])
      | Says quiet calm ↦ (
          let stays : change now log c ≡ Nothing =
          ap (λ h. change_by h (config log) now n (row_about c rows) c) (hearing-unbeaten log c k) ∙ quiet_change (standing_hearing false c (Some k.r)) (config log) now n (row_about c rows) c quiet in
          let same_row : suspected (Said now origin c ∷ log) c.name ≡ suspected log c.name =
          suspected-quiet now origin log c c.name said_same (λ r is suspect. quiet_about r is suspect calm) in
          ap (λ ch. suspicions_after ch rows) stays ∙ rows_stay now origin log c same_row k.names)
    ]
  where
    never : (a : Bool) {b : Bool} → b ≡ false → (a && b) ≡ false
    never true e = e
    never false e = refl

    quiet_about : (r : Claim) → record_of (forgets log) (me log) (own_facts log) c.name ≡ Some r → is_suspect r.status ≡ true
        → (is_suspect k.r.status ≡ true → (is_suspect c.status && eqb c.incarnation k.r.incarnation) ≡ false) → accuses c.name r.incarnation c ≡ false
    quiet_about r is suspect calm =
        let same : k.r ≡ r = held_once k.r r (sym k.before ∙ is) in
        let off : (is_suspect c.status && eqb c.incarnation r.incarnation) ≡ false =
        ap (λ (q : Claim). is_suspect c.status && eqb c.incarnation q.incarnation) (sym same) ∙ calm (ap (λ (q : Claim). is_suspect q.status) same ∙ suspect) in
        never (is_same name_cmp c.name c.name) off

-- a claim about a name that isn't let in
either_quiet : (b : Bool) → is_quiet (cond b Ignored NoRoom) ≡ true
either_quiet true = refl
either_quiet false = refl

changed-out : (now : ℕ) (origin : Origin) (log : GroupLog) (c : Claim) → takes (forgets log) (table log) c ≡ false → is_among name_cmp c.name (known_others log) ≡ false
    → roster (forgets log) (me log) (Told c ∷ own_facts log) ≡ known_others log → suspicions_after (change now log c) (suspicions log) ≡ suspicions (Said now origin c ∷ log)
changed-out now origin log c taken out names =
    let hearing : hearing_of (forgets log) (table log) c ≡ cond (forgets log && is_gone c.status) Ignored NoRoom = rw (taken, row_out log c.name out) refl in
    let n = live_in (heard (forgets log) (table log) c) in
    let row = row_about c (suspicions log) in
    let stays : change now log c ≡ Nothing =
    ap (λ h. change_by h (config log) now n row c) hearing
    ∙ quiet_change (cond (forgets log && is_gone c.status) Ignored NoRoom) (config log) now n row c (either_quiet (forgets log && is_gone c.status)) in
    ap (λ ch. suspicions_after ch (suspicions log)) stays ∙ rows_out now origin log c out names

pub suspicions-other : (now : ℕ) (origin : Origin) (log : GroupLog) (c : Claim) → c.name ≢ me log → suspicions_after (change now log c) (suspicions log) ≡ suspicions (Said now origin c ∷ log)
suspicions-other now origin log c other = elim (held (config log)) [
  | Missing none ↦ changed-unopened now origin log c none
  | Holding opening opened ↦ elim (heard_cases (forgets log) (me log) c (own_facts log) other) [
    | Taken t ↦ changed-taken now origin log c opening opened other t
    | Unbeaten k ↦ changed-unbeaten now origin log c opening opened k
    | Out o ↦ changed-out now origin log c o.taken o.out o.names
  ]
]

-- They are at most 255.
pub length-suspicions : (log : GroupLog) → length (suspicions log) ≤ 255
unfolding suspicions
length-suspicions log = omega (arith, length_rows-le (suspected log) (roster (forgets log) (me log) (own_facts log)), length-roster (forgets log) (me log) (own_facts log))

-- Where a claim is taken there is a seat for the suspicion of its member.
pub seat_of : (log : GroupLog) (c : Claim) → IsTaken (forgets log) (me log) c (own_facts log) → row_at name_cmp suspected_name c.name (suspicions log) ≡ None → length (suspicions log) < 255
unfolding suspicions
seat_of log c t missing =
    rows_room names_order suspected_name (suspected log) c.name 255 (roster (forgets log) (me log) (own_facts log)) (rises-roster (forgets log) (me log) (own_facts log)) (suspected_keyed log)
    (subst (λ ns. length ns ≤ 255) t.names (length-roster (forgets log) (me log) (Told c ∷ own_facts log))) missing
