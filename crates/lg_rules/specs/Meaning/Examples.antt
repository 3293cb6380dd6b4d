-- Worked rows: what the definitions give for some claims.
use Rattle.std.specs.Prelude.{◌≡◌, ℕ, ◌+◌, Bool, true, false, List, [], ◌∷◌, ◌++◌, map, Some, refl}
use Rattle.lg_rules.specs.declared.addr.Addr.{Addr}
use Rattle.lg_rules.specs.declared.addr.Ip.TheVariants.{V4}
use Rattle.lg_rules.specs.declared.claim.Claim.{Claim}
use Rattle.lg_rules.specs.declared.claim.Status.{Status}
use Rattle.lg_rules.specs.declared.claim.Status.TheVariants.{Alive, Suspect, Failed, Left}
use Rattle.lg_rules.specs.declared.members.Heard.TheVariants.{Accused, Ignored}
use Rattle.lg_rules.specs.declared.own.OwnHeard.TheVariants.{Raised, Ignored as Unheeded}
use Rattle.lg_rules.specs.Meaning.Beats.{beats_of}
use Rattle.lg_rules.specs.Meaning.Own.{OwnValue, OwnFact, Told, TakesLeave, own_hearing, own_of, own_record}
use Rattle.lg_rules.specs.Meaning.View.{view_of, changed}
use Rattle.lg_rules.specs.Meaning.Table.{story, record_of, roster, table_of, takes, hearing_of}

-- the letters that name the members
abbrev pub a : ℕ
a = 97

abbrev pub b : ℕ
b = 98

abbrev pub c : ℕ
c = 99

abbrev pub d : ℕ
d = 100

abbrev pub e : ℕ
e = 101

-- a status, an address and a claim
abbrev pub accused_by : ℕ → Status
accused_by letter = Suspect (letter ∷ [])

abbrev pub at_port : ℕ → Addr
at_port port = record { ip = V4 (127 ∷ 0 ∷ 0 ∷ 1 ∷ []); port = port }

abbrev pub on : ℕ → Status → ℕ → Claim
on letter status i = record { name = letter ∷ []; addr = at_port (7000 + letter); status = status; incarnation = i }

pub alive_at_the_number : beats_of (on c Alive 4) (on c (accused_by d) 4) ≡ false
alive_at_the_number = refl

pub alive_above_it : beats_of (on c Alive 5) (on c (accused_by d) 4) ≡ true
alive_above_it = refl

pub suspect_at_the_number : beats_of (on c (accused_by d) 4) (on c Alive 4) ≡ true
suspect_at_the_number = refl

pub suspected_already : beats_of (on c (accused_by e) 4) (on c (accused_by d) 4) ≡ false
suspected_already = refl

pub failed_below_it : beats_of (on c Failed 3) (on c Alive 4) ≡ false
failed_below_it = refl

pub failed_at_the_number : beats_of (on c Failed 4) (on c (accused_by d) 4) ≡ true
failed_at_the_number = refl

pub alive_at_the_number_of_failed : beats_of (on c Alive 4) (on c Failed 4) ≡ false
alive_at_the_number_of_failed = refl

pub left_at_the_number_of_failed : beats_of (on c Left 4) (on c Failed 4) ≡ true
left_at_the_number_of_failed = refl

pub failed_at_the_number_of_left : beats_of (on c Failed 4) (on c Left 4) ≡ false
failed_at_the_number_of_left = refl

pub back_from_leaving : beats_of (on c Alive 5) (on c Left 4) ≡ true
back_from_leaving = refl

pub comes_back : beats_of (on c Alive 5) (on c Failed 4) ≡ true
comes_back = refl

pub suspected_above_failed : beats_of (on c (accused_by d) 5) (on c Failed 4) ≡ true
suspected_above_failed = refl

-- What b hears, the latest first. c is suspected twice at 4, and refutes that at 5. d is alive at 3, fails there, and
-- comes back at 7. b itself is suspected.
pub standing_claims :
    table_of false (b ∷ [])
    (map Told
    (on c Alive 5 ∷ on c Alive 4 ∷ on b (accused_by d) 0 ∷ on c (accused_by e) 4 ∷ on d Alive 7
    ∷ on d Failed 3 ∷ on c (accused_by a) 4 ∷ on d Alive 3 ∷ on c Alive 4 ∷ on a Alive 0 ∷ []))
    ≡ on a Alive 0 ∷ on c Alive 5 ∷ on d Alive 7 ∷ []
unfolding table_of record_of story roster
standing_claims = refl

-- before c refutes, the claim of the first accuser stands
pub first_accuser :
    record_of false (b ∷ [])
    (map Told (on c Alive 4 ∷ on c (accused_by e) 4 ∷ on c (accused_by a) 4 ∷ on c Alive 4 ∷ [])) (c ∷ [])
    ≡ Some (on c (accused_by a) 4)
unfolding record_of story roster
first_accuser = refl

pub not_cleared : hearing_of false (on c (accused_by a) 4 ∷ []) (on c Alive 4) ≡ Ignored
unfolding takes
not_cleared = refl

pub accused_again : hearing_of false (on c (accused_by a) 4 ∷ []) (on c (accused_by e) 4) ≡ Accused
unfolding takes
accused_again = refl

-- b is at 127.0.0.1:7000
abbrev pub b_at : Addr
b_at = at_port 7000

abbrev pub b_is : ℕ → Bool → OwnValue
b_is number ousted = record { name = b ∷ []; addr = b_at; number = number; ousted = ousted; left = false }

-- b once it is told these claims, the latest first
abbrev pub b_told : List Claim → OwnValue
b_told past = own_of (b ∷ []) b_at (map Told past)

-- b is suspected by a and then by c, both at 0
pub refuted_once : b_told (on b (accused_by c) 0 ∷ on b (accused_by a) 0 ∷ []) ≡ b_is 1 false
unfolding own_of
refuted_once = refl

pub alive_at_the_own_number : b_told (on b Alive 0 ∷ on c (accused_by a) 7 ∷ []) ≡ b_is 0 false
unfolding own_of
alive_at_the_own_number = refl

pub alive_above_the_own_number : b_told (on b Alive 3 ∷ []) ≡ b_is 4 false
unfolding own_of
alive_above_the_own_number = refl

pub suspected_beyond_refuting : b_told (on b (accused_by a) 1000000000 ∷ []) ≡ b_is 0 true
unfolding own_of
suspected_beyond_refuting = refl

pub refuted_by_the_greatest : b_told (on b (accused_by a) 999999999 ∷ []) ≡ b_is 1000000000 false
unfolding own_of
refuted_by_the_greatest = refl

pub comes_back_itself : b_told (on b Failed 0 ∷ []) ≡ b_is 1 false
unfolding own_of
comes_back_itself = refl

pub failed_below_the_own_number : b_told (on b Failed 0 ∷ on b Failed 0 ∷ []) ≡ b_is 1 false
unfolding own_of
failed_below_the_own_number = refl

pub failed_beyond_coming_back : b_told (on b Failed 1000000000 ∷ []) ≡ b_is 0 true
unfolding own_of
failed_beyond_coming_back = refl

pub about_another : own_hearing (b_is 0 false) (on c Failed 0) ≡ Unheeded
about_another = refl

-- b is told that it left, though it didn't leave: at 0, at 0 again, and at the greatest incarnation
pub left_at_the_own_number : b_told (on b Left 0 ∷ []) ≡ b_is 1 false
unfolding own_of
left_at_the_own_number = refl

pub left_below_the_own_number : b_told (on b Left 0 ∷ on b Left 0 ∷ []) ≡ b_is 1 false
unfolding own_of
left_below_the_own_number = refl

pub left_beyond_coming_back : b_told (on b Left 1000000000 ∷ on b Left 0 ∷ on b Left 0 ∷ []) ≡ b_is 1 true
unfolding own_of
left_beyond_coming_back = refl

-- b leaves at 0
abbrev pub b_left : ℕ → OwnValue
b_left number = record { name = b ∷ []; addr = b_at; number = number; ousted = false; left = true }

pub leaves_at_0 : own_of (b ∷ []) b_at (TakesLeave ∷ []) ≡ b_left 0
unfolding own_of
leaves_at_0 = refl

pub leaves_again : own_of (b ∷ []) b_at (TakesLeave ∷ TakesLeave ∷ []) ≡ b_left 0
unfolding own_of
leaves_again = refl

-- Then it is told one claim after another. Its own record is Left at its number, and it is never ousted.
pub left_record : (number : ℕ)
    → own_record (b_left number) ≡ record { name = b ∷ []; addr = b_at; status = Left; incarnation = number }
left_record number = refl

abbrev pub left_and_told : List Claim → OwnValue
left_and_told past = own_of (b ∷ []) b_at (map Told past ++ TakesLeave ∷ [])

abbrev pub told_at_0 : List Claim
told_at_0 = on b Left 0 ∷ on b Failed 0 ∷ on b Alive 0 ∷ on b (accused_by c) 0 ∷ []

pub suspected_after_leaving : own_hearing (b_left 0) (on b (accused_by c) 0) ≡ Unheeded
suspected_after_leaving = refl

pub alive_after_leaving : own_hearing (b_left 0) (on b Alive 0) ≡ Unheeded
alive_after_leaving = refl

pub failed_after_leaving : own_hearing (b_left 0) (on b Failed 0) ≡ Unheeded
failed_after_leaving = refl

pub left_after_leaving : own_hearing (b_left 0) (on b Left 0) ≡ Unheeded
left_after_leaving = refl

pub stays_at_0 : left_and_told told_at_0 ≡ b_left 0
unfolding own_of
stays_at_0 = refl

pub follows_failed : own_hearing (b_left 0) (on b Failed 5) ≡ Raised
follows_failed = refl

abbrev pub told_at_5 : List Claim
told_at_5 = on b Failed 5 ∷ told_at_0

pub left_at_5 : left_and_told told_at_5 ≡ b_left 5
unfolding own_of
left_at_5 = refl

pub stays_at_5 : left_and_told (on b Left 5 ∷ told_at_5) ≡ b_left 5
unfolding own_of
stays_at_5 = refl

abbrev pub told_at_9 : List Claim
told_at_9 = on b Alive 9 ∷ on b Left 5 ∷ told_at_5

pub left_at_9 : left_and_told told_at_9 ≡ b_left 9
unfolding own_of
left_at_9 = refl

pub stays_at_9 : left_and_told (on b (accused_by c) 8 ∷ told_at_9) ≡ b_left 9
unfolding own_of
stays_at_9 = refl

abbrev pub told_at_11 : List Claim
told_at_11 = on b Left 11 ∷ on b (accused_by c) 8 ∷ told_at_9

pub left_at_11 : left_and_told told_at_11 ≡ b_left 11
unfolding own_of
left_at_11 = refl

pub left_at_the_greatest : left_and_told (on b (accused_by c) 1000000000 ∷ told_at_11) ≡ b_left 1000000000
unfolding own_of
left_at_the_greatest = refl

pub stays_at_the_greatest :
    left_and_told (on b Alive 1000000000 ∷ on b (accused_by c) 1000000000 ∷ told_at_11) ≡ b_left 1000000000
unfolding own_of
stays_at_the_greatest = refl

pub left_and_about_another : own_hearing (b_left 0) (on c Failed 5) ≡ Unheeded
left_and_about_another = refl

-- the member table of b after a past
abbrev pub members_of_b : List OwnFact → List Claim
members_of_b past = view_of (own_record (own_of (b ∷ []) b_at past)) (table_of false (b ∷ []) past)

-- b knows that c is alive at 2. It hears that c is alive at 3, then that c is alive at 2, then that b is suspected.
pub changed_rows :
    changed (members_of_b (Told (on c Alive 2) ∷ []))
    (members_of_b (map Told (on b (accused_by a) 0 ∷ on c Alive 2 ∷ on c Alive 3 ∷ on c Alive 2 ∷ [])))
    ≡ record { name = b ∷ []; addr = b_at; status = Alive; incarnation = 1 } ∷ on c Alive 3 ∷ []
unfolding own_of table_of record_of story roster
changed_rows = refl

-- b knows that c is alive at 2, and leaves
pub leaving_changes_the_own_row :
    changed (members_of_b (Told (on c Alive 2) ∷ [])) (members_of_b (TakesLeave ∷ Told (on c Alive 2) ∷ []))
    ≡ record { name = b ∷ []; addr = b_at; status = Left; incarnation = 0 } ∷ []
unfolding own_of table_of record_of story roster
leaving_changes_the_own_row = refl
