-- Who is gone, and when each is to be forgotten, after each fact of the group.
use Rattle.std.proofs.Common.{◌≡◌, ◌≢◌, ℕ, ◌+◌, ◌≤◌, Bool, true, false, not, ◌&&◌, cond, List, [], ◌∷◌, length, map, Option, Some, None, option_map, inl, inr, refl, sym, ◌∙◌, ap, subst, arith}
use Rattle.std.specs.List.{filter_map}
use Rattle.std.proofs.lemmas.Bool.{cases_Bool, false≢true}
use Rattle.std.proofs.lemmas.List.{length-map}
use Rattle.lg_rules.specs.declared.claim.Claim.{Claim}
use Rattle.lg_rules.specs.declared.claim.Status.{Status}
use Rattle.lg_rules.specs.declared.claim.Status.TheVariants.{Alive, Suspect, Failed, Left}
use Rattle.lg_rules.specs.Meaning.Claim.{is_gone, name_of}
use Rattle.lg_rules.specs.Meaning.Rows.{name_cmp, is_same, put_row, row_at, without_row, Rises}
use Rattle.lg_rules.specs.Meaning.Table.{record_of, table_of}
use Rattle.lg_rules.proofs.Cases.{Below, Tied, Above, compared, Missing, Holding, held}
use Rattle.lg_rules.proofs.KeyOrder.{names_order, cases_key, same_key, other_key}
use Rattle.lg_rules.proofs.Removing.{rises-without, row_at-without}
use Rattle.lg_rules.proofs.Roster.{length-roster}
use Rattle.lg_rules.proofs.RowLaws.{row_at-put}
use Rattle.lg_rules.proofs.RowsFound.{rises-put_row}
use Rattle.lg_rules.proofs.Tables.{rises-table, row_at_own-table, table-nil, table-forgot, table-leaves, table-own, heard-table, heard_taken, heard_passed}
use Rattle.lg_timing.specs.declared.config.Config.{Config}
use Rattle.lg_timing.specs.Meaning.Config.{does_forget}
use Rattle.lg_timers.proofs.Parts.{filter-swap}
use Rattle.lg_gossip.specs.Meaning.Queue.{is_suspect}
use Rattle.lg_membership.specs.declared.origin.Origin.{Origin}
use Rattle.lg_membership.specs.Meaning.Log as group
use Rattle.lg_membership.specs.Meaning.Log.{GroupLog, Opened, Said, Departed, Forgot, me, own_facts, forgets, known_others, table}
use Rattle.lg_membership.specs.Meaning.Suspicions.{SuspectedValue, suspected, suspected_by, suspected_in, suspicions}
use Rattle.lg_membership.proofs.Chosen.{found_key}
use Rattle.lg_membership.proofs.Putting.{same_rows}
use Rattle.lg_detector.specs.Meaning.Forget.{Gone, forget_time, is_taken, taken_at, gone_by, gone_records, gone}
use Rattle.lg_detector.proofs.ForgetTimers.{gone_name}
use Rattle.lg_detector.proofs.RowFilters.{keep, rises-kept, row_at-kept, row_at-less}

-- They are in the order of names, and each name has at most one of them.
keys-gone : (log : GroupLog) (rows : List Claim) → map gone_name (map (gone_by log) rows) ≡ map name_of rows
keys-gone log [] = refl
keys-gone log (r ∷ rows) = ap (λ ns. r.name ∷ ns) (keys-gone log rows)

rises-records : (log : GroupLog) → Rises name_cmp (map name_of (table log))
rises-records log = rises-table (forgets log) (me log) (own_facts log)

pub rises-gone : (log : GroupLog) → Rises name_cmp (map gone_name (gone log))
rises-gone log = either (forgets log)
  where
    either : (b : Bool) → Rises name_cmp (map gone_name (cond b (map (gone_by log) (gone_records (table log))) []))
    either true =
        subst (Rises name_cmp) (sym (keys-gone log (gone_records (table log))))
        (rises-kept names_order name_of (λ r. is_gone r.status) (table log) (rises-records log))
    either false = tt

row_at-gone : (log : GroupLog) (n : List ℕ) (rows : List Claim) → row_at name_cmp gone_name n (map (gone_by log) rows) ≡ option_map (gone_by log) (row_at name_cmp name_of n rows)
row_at-gone log n [] = refl
row_at-gone log n (x ∷ xs) = elim (compared (name_cmp n x.name)) [
  | Below l ↦ rw l refl
  | Tied t ↦ rw t refl
  | Above g ↦ rw g (row_at-gone log n xs)
]

abbrev is_out : Claim → Bool
is_out r = is_gone r.status

abbrev gone_one : Bool → GroupLog → Option Claim → Option Gone
gone_one b log o = cond b (option_map (gone_by log) (keep is_out o)) None

found-gone : (log : GroupLog) (n : List ℕ) → row_at name_cmp gone_name n (gone log) ≡ gone_one (forgets log) log (row_at name_cmp name_of n (table log))
found-gone log n = either (forgets log)
  where
    either : (b : Bool) → row_at name_cmp gone_name n (cond b (map (gone_by log) (gone_records (table log))) []) ≡ gone_one b log (row_at name_cmp name_of n (table log))
    either true =
        row_at-gone log n (gone_records (table log))
        ∙ ap (option_map (gone_by log)) (row_at-kept names_order name_of is_out n (table log) (rises-records log))
    either false = refl

same_gone : (xs ys : List Gone) → Rises name_cmp (map gone_name xs) → Rises name_cmp (map gone_name ys)
    → ((n : List ℕ) → row_at name_cmp gone_name n xs ≡ row_at name_cmp gone_name n ys) → xs ≡ ys
same_gone xs ys up up' same = same_rows names_order gone_name xs ys up up' same

-- what is found for a name has it
named : (log : GroupLog) (n : List ℕ) (r : Claim) → row_at name_cmp name_of n (table log) ≡ Some r → r.name ≡ n
named log n r e = found_key names_order name_of n (table log) r e

-- A CLAIM IS SAID
module _ (now : ℕ) (origin : Origin) (c : Claim) (log : GroupLog) where
  abbrev after : GroupLog
  after = Said now origin c ∷ log

  -- Of other members nothing changes.
  by-other : (r : Claim) → c.name ≢ r.name → gone_by after r ≡ gone_by log r
  by-other r d = rw (other_key names_order c.name r.name d) refl

  one-other : (b : Bool) (n : List ℕ) (o : Option Claim) → c.name ≢ n → ((r : Claim) → o ≡ Some r → r.name ≡ n) → gone_one b after o ≡ gone_one b log o
  one-other false n o d has = refl
  one-other true n None d has = refl
  one-other true n (Some r) d has = elim (cases_Bool (is_out r)) [
    | inl t ↦ rw t (ap Some (by-other r (λ e. d (e ∙ has r refl))))
    | inr f ↦ rw f refl
  ]

  -- a claim that isn't taken changes nothing
  by-passed : is_taken c log ≡ false → (r : Claim) → gone_by after r ≡ gone_by log r
  by-passed f r = rw f (never (is_same name_cmp c.name r.name))
    where
      by : Bool → Gone
      by b = record { name = r.name; deadline = cond (b && false) now (taken_at log r.name) + forget_time (group.config log) }

      never : (b : Bool) → by b ≡ gone_by log r
      never true = refl
      never false = refl

  pub gone-passed : c.name ≢ me log → is_taken c log ≡ false → gone log ≡ gone after
  gone-passed other f =
      let same : table log ≡ table after = sym (heard_passed (forgets log) (table log) c f) ∙ heard-table (forgets log) (me log) c (own_facts log) other in
      λ i. cond (forgets log) (map (λ r. sym (by-passed f r) i) (gone_records (same i))) []

  -- one that is taken makes the record what it is
  abbrev pub late : Gone
  late = record { name = c.name; deadline = now + forget_time (group.config log) }

  by-itself : is_taken c log ≡ true → gone_by after c ≡ late
  by-itself t = rw (same_key names_order c.name c.name refl, t) refl

  table-taken : c.name ≢ me log → is_taken c log ≡ true → table after ≡ put_row name_cmp name_of c (table log)
  table-taken other t = sym (heard-table (forgets log) (me log) c (own_facts log) other) ∙ heard_taken (forgets log) (table log) c t

  found-after : c.name ≢ me log → is_taken c log ≡ true → (n : List ℕ)
      → row_at name_cmp gone_name n (gone after) ≡ gone_one (forgets log) after (cond (is_same name_cmp c.name n) (Some c) (row_at name_cmp name_of n (table log)))
  found-after other t n =
      found-gone after n
      ∙ ap (gone_one (forgets log) after) (ap (row_at name_cmp name_of n) (table-taken other t) ∙ row_at-put names_order name_of n c (table log))

  -- it says that the member is gone: that one is forgotten so much later
  pub gone-put : forgets log ≡ true → c.name ≢ me log → is_taken c log ≡ true → is_gone c.status ≡ true
      → put_row name_cmp gone_name late (gone log) ≡ gone after
  gone-put forgetting other t out =
      same_gone (put_row name_cmp gone_name late (gone log)) (gone after) (rises-put_row names_order gone_name late (gone log) (rises-gone log)) (rises-gone after)
      (λ n.
      row_at-put names_order gone_name n late (gone log)
      ∙ ap (λ o. cond (is_same name_cmp c.name n) (Some late) o) (found-gone log n)
      ∙ each n
      ∙ sym (found-after other t n))
    where
      one : (b : Bool) → b ≡ true → gone_one b after (Some c) ≡ Some late
      one true e = rw out (ap Some (by-itself t))
      one false e = absurd (false≢true e)

      each : (n : List ℕ) → cond (is_same name_cmp c.name n) (Some late) (gone_one (forgets log) log (row_at name_cmp name_of n (table log)))
          ≡ gone_one (forgets log) after (cond (is_same name_cmp c.name n) (Some c) (row_at name_cmp name_of n (table log)))
      each n =
          let found = row_at name_cmp name_of n (table log) in
          elim (cases_key names_order c.name n) [
            | inl same ↦ (
                let is = same_key names_order c.name n same in
                ap (λ b. cond b (Some late) (gone_one (forgets log) log found)) is
                ∙ sym (one (forgets log) forgetting)
                ∙ sym (ap (λ b. gone_one (forgets log) after (cond b (Some c) found)) is))
            | inr d ↦ (
                let is = other_key names_order c.name n d in
                ap (λ b. cond b (Some late) (gone_one (forgets log) log found)) is
                ∙ sym (one-other (forgets log) n found d (λ r e. named log n r e))
                ∙ sym (ap (λ b. gone_one (forgets log) after (cond b (Some c) found)) is))
          ]

  -- or that it isn't: that one isn't forgotten
  pub gone-less : c.name ≢ me log → is_taken c log ≡ true → is_gone c.status ≡ false → without_row name_cmp gone_name c.name (gone log) ≡ gone after
  gone-less other t live =
      same_gone (without_row name_cmp gone_name c.name (gone log)) (gone after) (rises-without names_order gone_name c.name (gone log) (rises-gone log)) (rises-gone after)
      (λ n. each n ∙ sym (found-after other t n))
    where
      none : (b : Bool) → gone_one b after (Some c) ≡ None
      none true = rw live refl
      none false = refl

      each : (n : List ℕ) → row_at name_cmp gone_name n (without_row name_cmp gone_name c.name (gone log))
          ≡ gone_one (forgets log) after (cond (is_same name_cmp c.name n) (Some c) (row_at name_cmp name_of n (table log)))
      each n =
          let found = row_at name_cmp name_of n (table log) in
          elim (cases_key names_order c.name n) [
            | inl same ↦ (
                ap (λ m. row_at name_cmp gone_name m (without_row name_cmp gone_name c.name (gone log))) (sym same)
                ∙ row_at-without names_order gone_name c.name (gone log)
                ∙ sym (none (forgets log))
                ∙ sym (ap (λ b. gone_one (forgets log) after (cond b (Some c) found)) (same_key names_order c.name n same)))
            | inr d ↦ (
                row_at-less names_order gone_name c.name n (gone log) (rises-gone log) d
                ∙ found-gone log n
                ∙ sym (one-other (forgets log) n found d (λ r e. named log n r e))
                ∙ sym (ap (λ b. gone_one (forgets log) after (cond b (Some c) found)) (other_key names_order c.name n d)))
          ]

  -- a claim about this member changes nothing
  pub gone-own : c.name ≡ me log → gone log ≡ gone after
  gone-own same =
      same_gone (gone log) (gone after) (rises-gone log) (rises-gone after)
      (λ n.
      found-gone log n
      ∙ each n
      ∙ ap (λ rows. gone_one (forgets log) after (row_at name_cmp name_of n rows)) (sym (table-own (forgets log) (me log) c (own_facts log) same))
      ∙ sym (found-gone after n))
    where
      none : (b : Bool) (l : GroupLog) → gone_one b l None ≡ None
      none true l = refl
      none false l = refl

      each : (n : List ℕ) → gone_one (forgets log) log (row_at name_cmp name_of n (table log)) ≡ gone_one (forgets log) after (row_at name_cmp name_of n (table log))
      each n = elim (cases_key names_order c.name n) [
        | inl e ↦ (
            let missing : row_at name_cmp name_of n (table log) ≡ None =
            ap (λ m. row_at name_cmp name_of m (table log)) (sym e ∙ same) ∙ row_at_own-table (forgets log) (me log) (own_facts log) in
            ap (gone_one (forgets log) log) missing ∙ none (forgets log) log ∙ sym (none (forgets log) after) ∙ sym (ap (gone_one (forgets log) after) missing))
        | inr d ↦ sym (one-other (forgets log) n (row_at name_cmp name_of n (table log)) d (λ r e. named log n r e))
      ]

-- OTHER FACTS
pub gone-opened : (opening : Config) (log : GroupLog) → gone (Opened opening ∷ log) ≡ []
gone-opened opening log =
    ap (λ rows. cond (does_forget opening) (map (gone_by (Opened opening ∷ log)) (gone_records rows)) []) (table-nil (does_forget opening) opening.name)
    ∙ either (does_forget opening)
  where
    none : List Gone
    none = []

    either : (b : Bool) → cond b none none ≡ none
    either true = refl
    either false = refl

pub gone-left : (log : GroupLog) → gone log ≡ gone (Departed ∷ log)
gone-left log = ap (λ rows. cond (forgets log) (map (gone_by log) (gone_records rows)) []) (sym (table-leaves (forgets log) (me log) (own_facts log)))

pub gone-forgot : (n : List ℕ) (log : GroupLog) → without_row name_cmp gone_name n (gone log) ≡ gone (Forgot n ∷ log)
gone-forgot n log =
    either (forgets log)
    ∙ ap (λ rows. cond (forgets log) (map (gone_by log) rows) []) (filter-swap (λ r. not (is_same name_cmp r.name n)) is_out (table log))
    ∙ ap (λ rows. cond (forgets log) (map (gone_by log) (gone_records rows)) []) (table-forgot (forgets log) (me log) n (own_facts log))
  where
    mapped : (rows : List Claim) → without_row name_cmp gone_name n (map (gone_by log) rows) ≡ map (gone_by log) (without_row name_cmp name_of n rows)
    mapped [] = refl
    mapped (r ∷ rows) = elim (cases_Bool (is_same name_cmp r.name n)) [
      | inl t ↦ rw t (mapped rows)
      | inr f ↦ rw f (ap (λ gs. gone_by log r ∷ gs) (mapped rows))
    ]

    either : (b : Bool) → without_row name_cmp gone_name n (cond b (map (gone_by log) (gone_records (table log))) []) ≡ cond b (map (gone_by log) (without_row name_cmp name_of n (gone_records (table log)))) []
    either true = mapped (gone_records (table log))
    either false = refl

-- HOW MANY
-- Who is suspected isn't gone.
abbrev Suspects : Option Claim → Type 0
Suspects None = ⊥
Suspects (Some r) = is_suspect r.status ≡ true

suspects_row : (opening : Config) (log : GroupLog) (n : List ℕ) (o : Option Claim) (s : SuspectedValue) → suspected_by opening log n o ≡ Some s → Suspects o
suspects_row opening log n None s e = absurd cc
suspects_row opening log n (Some r) s e = elim (cases_Bool (is_suspect r.status)) [
  | inl t ↦ t
  | inr f ↦ (let bad : None ≡ Some s = rw f at e in absurd cc)
]

suspects_in : (o : Option Config) (log : GroupLog) (n : List ℕ) (s : SuspectedValue) → suspected_in o log n ≡ Some s → Suspects (record_of (forgets log) (me log) (own_facts log) n)
suspects_in None log n s e = absurd cc
suspects_in (Some opening) log n s e = suspects_row opening log n (record_of (forgets log) (me log) (own_facts log) n) s e

suspects : (log : GroupLog) (n : List ℕ) (s : SuspectedValue) → suspected log n ≡ Some s → Suspects (record_of (forgets log) (me log) (own_facts log) n)
unfolding suspected
suspects log n s e = suspects_in (group.config log) log n s e

not_gone : (s : Status) → is_suspect s ≡ true → is_gone s ≡ false
not_gone Alive e = refl
not_gone (Suspect a) e = refl
not_gone Failed e = absurd cc
not_gone Left e = absurd cc

abbrev outs : List Claim → ℕ
outs rows = length (gone_records rows)

both-few : (log : GroupLog) (ns : List (List ℕ)) → length (filter_map (suspected log) ns) + outs (filter_map (record_of (forgets log) (me log) (own_facts log)) ns) ≤ length ns
both-few log [] = omega arith
both-few log (n ∷ ns) =
    let record_for = record_of (forgets log) (me log) (own_facts log) in
    let rest = both-few log ns in
    elim (held (suspected log n)) [
      | Missing none ↦ elim (held (record_for n)) [
        | Missing gap ↦ rw (none, gap) (omega (arith, rest))
        | Holding r is ↦ elim (cases_Bool (is_out r)) [
          | inl t ↦ rw (none, is, t) (omega (arith, rest))
          | inr f ↦ rw (none, is, f) (omega (arith, rest))
        ]
      ]
      | Holding s is ↦ elim (held (record_for n)) [
        | Missing gap ↦ (let bad : ⊥ = subst Suspects gap (suspects log n s is) in absurd bad)
        | Holding r row ↦ (
            let f : is_out r ≡ false = not_gone r.status (subst Suspects row (suspects log n s is)) in
            rw (is, row, f) (omega (arith, rest)))
      ]
    ]

length-gone : (log : GroupLog) → length (gone log) ≤ outs (table log)
length-gone log = either (forgets log)
  where
    either : (b : Bool) → length (cond b (map (gone_by log) (gone_records (table log))) []) ≤ outs (table log)
    either true = omega (arith, length-map (gone_records (table log)) (gone_by log))
    either false = omega arith

-- So there are at most 255 of both.
pub few-waiting : (log : GroupLog) → length (suspicions log) + length (gone log) ≤ 255
unfolding suspicions table_of
few-waiting log = omega (arith, both-few log (known_others log), length-roster (forgets log) (me log) (own_facts log), length-gone log)
