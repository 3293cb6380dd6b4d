-- Worked logs of b, which is at 127.0.0.1:7000 and forgets members that are gone. A log has the latest fact first.
use Rattle.std.specs.Prelude.{◌≡◌, ℕ, false, List, [], ◌∷◌, map, Some, None, refl}
use Rattle.std.specs.Fmt.{digits}
use Rattle.lg_rules.specs.declared.addr.Addr.{Addr}
use Rattle.lg_rules.specs.declared.addr.Ip.TheVariants.{V4}
use Rattle.lg_rules.specs.declared.claim.Claim.{Claim}
use Rattle.lg_rules.specs.declared.claim.Status.{Status}
use Rattle.lg_rules.specs.declared.claim.Status.TheVariants.{Alive, Suspect, Failed, Left}
use Rattle.lg_rules.specs.Meaning.Own.{own_of}
use Rattle.lg_rules.specs.Meaning.Table.{record_of, story, roster, table_of, takes}
use Rattle.lg_timing.specs.Meaning.Config.{defaults}
use Rattle.lg_timing.specs.Meaning.Tables.{log10_of, ratio_of}
use Rattle.lg_timing.specs.Meaning.Timeouts.{range_of, timeout_of}
use Rattle.lg_suspicion.specs.Meaning.Accusers.{counted_accusers, deadline_of}
use Rattle.lg_gossip.specs.Meaning.Queue.{taken_of}
use Rattle.lg_membership.specs.declared.addressee.Addressee.TheVariants.{Anybody}
use Rattle.lg_membership.specs.declared.origin.Origin.TheVariants.{Seed, Group}
use Rattle.lg_membership.specs.Meaning.Log.{GroupFact, GroupLog, Opened, Said, Forgot, live, live_others}
use Rattle.lg_membership.specs.Meaning.Log.{group_view, needs_room}
use Rattle.lg_membership.specs.Meaning.Suspicions.{suspicions, suspected}
use Rattle.lg_membership.specs.Meaning.Gossip.{put_by, queued, queue_rows, fill}

-- the letters that name the members
abbrev b : ℕ
b = 98

abbrev c : ℕ
c = 99

abbrev d : ℕ
d = 100

abbrev e : ℕ
e = 101

abbrev f : ℕ
f = 102

abbrev x : ℕ
x = 120

abbrev here : Addr
here = record { ip = V4 (127 ∷ 0 ∷ 0 ∷ 1 ∷ []); port = 7000 }

abbrev by : ℕ → Status
by letter = Suspect (letter ∷ [])

abbrev on : ℕ → Status → ℕ → Claim
on letter status i = record { name = letter ∷ []; addr = here; status = status; incarnation = i }

abbrev opened_with : ℕ → GroupFact
opened_with forget = Opened (record (defaults (b ∷ []) here) { forget_ms = forget })

abbrev says : ℕ → Claim → GroupFact
says now claim = Said now Group claim

abbrev forgets_name : ℕ → GroupFact
forgets_name letter = Forgot (letter ∷ [])

-- c is alive, and leaves; then b forgets it
abbrev with_c : GroupLog
with_c = says 0 (on c Alive 0) ∷ opened_with 1000 ∷ []

abbrev left_c : GroupLog
left_c = says 10 (on c Left 0) ∷ with_c

abbrev forgot_c : GroupLog
forgot_c = forgets_name c ∷ left_c

still_known : group_view left_c ≡ on b Alive 0 ∷ on c Left 0 ∷ []
unfolding own_of table_of record_of story roster
still_known = refl

no_longer_known : group_view forgot_c ≡ on b Alive 0 ∷ []
unfolding own_of table_of record_of story roster
no_longer_known = refl

still_queued : queued left_c (c ∷ []) ≡ Some record { claim = on c Left 0; sends = 0 }
unfolding own_of table_of record_of story roster takes put_by queued digits
still_queued = refl

no_longer_queued : queued forgot_c (c ∷ []) ≡ None
unfolding queued
no_longer_queued = refl

no_longer_told : fill Anybody forgot_c ≡ []
unfolding own_of table_of record_of story roster takes put_by queued queue_rows taken_of digits
no_longer_told = refl

-- Who keeps c longer says again that it left, or that it failed: c stays unknown, and nothing is queued.
abbrev told_late : GroupLog
told_late = says 30 (on c Failed 7) ∷ says 20 (on c Left 0) ∷ forgot_c

stays_unknown : group_view told_late ≡ on b Alive 0 ∷ []
unfolding own_of table_of record_of story roster
stays_unknown = refl

is_not_told_on : queued told_late (c ∷ []) ≡ None
unfolding own_of table_of record_of story roster takes put_by queued suspicions suspected digits
is_not_told_on = refl

-- An old claim says that it is alive: it is known as any other name, though it had left at this incarnation.
abbrev back : GroupLog
back = says 40 (on c Alive 0) ∷ told_late

known_again : group_view back ≡ on b Alive 0 ∷ on c Alive 0 ∷ []
unfolding own_of table_of record_of story roster
known_again = refl

queued_again : queued back (c ∷ []) ≡ Some record { claim = on c Alive 0; sends = 0 }
unfolding own_of table_of record_of story roster takes put_by queued suspicions suspected digits
queued_again = refl

counted_again : live back ≡ 2
unfolding table_of record_of story roster
counted_again = refl

-- a member that forgets nothing takes what is said of an unknown one that is gone
failed_is_taken :
    group_view (says 0 (on c Failed 0) ∷ opened_with 0 ∷ []) ≡ on b Alive 0 ∷ on c Failed 0 ∷ []
unfolding own_of table_of record_of story roster
failed_is_taken = refl

-- b forgets neither itself nor who is unknown
keeps_itself : group_view (forgets_name b ∷ left_c) ≡ on b Alive 0 ∷ on c Left 0 ∷ []
unfolding own_of table_of record_of story roster
keeps_itself = refl

forgets_nobody : group_view (forgets_name d ∷ left_c) ≡ on b Alive 0 ∷ on c Left 0 ∷ []
unfolding own_of table_of record_of story roster
forgets_nobody = refl

-- there is room for many
needs_none : needs_room forgot_c (on c Alive 0) ≡ false
unfolding roster
needs_none = refl

-- Accusers that are forgotten. c, d, e and f are known from the opening. c is suspected by d at 0; d leaves and is
-- forgotten, and x has its slot from 1020 on. Then x accuses c, d again, and e; then e leaves and is forgotten.
abbrev with_seeds : GroupLog
with_seeds =
    Said 0 Seed (on f Alive 0) ∷ Said 0 Seed (on e Alive 0) ∷ Said 0 Seed (on d Alive 0) ∷ Said 0 Seed (on c Alive 0)
    ∷ opened_with 1000 ∷ []

abbrev by_d : GroupLog
by_d = says 0 (on c (by d) 0) ∷ with_seeds

abbrev x_for_d : GroupLog
x_for_d = says 1020 (on x Alive 0) ∷ forgets_name d ∷ says 10 (on d Left 0) ∷ by_d

abbrev by_x : GroupLog
by_x = says 1021 (on c (by x) 0) ∷ x_for_d

abbrev by_d_again : GroupLog
by_d_again = says 1022 (on c (by d) 0) ∷ by_x

abbrev by_e : GroupLog
by_e = says 1023 (on c (by e) 0) ∷ by_d_again

abbrev without_e : GroupLog
without_e = forgets_name e ∷ says 1030 (on e Left 0) ∷ by_e

abbrev deadlines : GroupLog → List ℕ
deadlines log = map (λ r. deadline_of r.suspicion) (suspicions log)

deadline_by_d : deadlines by_d ≡ 30000 ∷ []
unfolding table_of record_of story roster suspicions suspected range_of timeout_of log10_of ratio_of counted_accusers
deadline_by_d = refl

deadline_by_x : deadlines by_x ≡ 17500 ∷ []
unfolding table_of record_of story roster suspicions suspected range_of timeout_of log10_of ratio_of counted_accusers
deadline_by_x = refl

deadline_by_d_again : deadlines by_d_again ≡ 17500 ∷ []
unfolding table_of record_of story roster suspicions suspected range_of timeout_of log10_of ratio_of counted_accusers
deadline_by_d_again = refl

deadline_by_e : deadlines by_e ≡ 10200 ∷ []
unfolding table_of record_of story roster suspicions suspected range_of timeout_of log10_of ratio_of counted_accusers
deadline_by_e = refl

deadline_without_e : deadlines without_e ≡ 10200 ∷ []
unfolding table_of record_of story roster suspicions suspected range_of timeout_of log10_of ratio_of counted_accusers
deadline_without_e = refl

-- Who is suspected and is forgotten is suspected no more; if it is known again and suspected again, that is a suspicion
-- of its own.
suspicion_ends : deadlines (forgets_name c ∷ by_e) ≡ []
unfolding table_of record_of story roster suspicions suspected range_of timeout_of log10_of ratio_of counted_accusers
suspicion_ends = refl

suspicion_begins_anew : deadlines (says 2000 (on c (by e) 0) ∷ forgets_name c ∷ by_d) ≡ 32000 ∷ []
unfolding table_of record_of story roster suspicions suspected range_of timeout_of log10_of ratio_of counted_accusers
suspicion_begins_anew = refl

-- the others that aren't gone
others_left : live_others without_e ≡ (c ∷ []) ∷ (f ∷ []) ∷ (x ∷ []) ∷ []
unfolding table_of record_of story roster
others_left = refl
