-- Worked pages of a table.
use Rattle.std.specs.Prelude.{◌≡◌, ℕ, List, [], ◌∷◌, ◌++◌, replicate, Some, None, refl}
use Rattle.lg_rules.specs.declared.addr.Addr.{Addr}
use Rattle.lg_rules.specs.declared.addr.Ip.TheVariants.{V4, V6}
use Rattle.lg_rules.specs.declared.claim.Claim.{Claim}
use Rattle.lg_rules.specs.declared.claim.Status.{Status}
use Rattle.lg_rules.specs.declared.claim.Status.TheVariants.{Alive, Suspect, Failed}
use Rattle.lg_rules.specs.declared.version.Version.TheVariants.{One, Two, Three}
use Rattle.lg_membership.specs.Meaning.Pages.{page_of}

-- the letters that name the members
abbrev a : ℕ
a = 97

abbrev b : ℕ
b = 98

abbrev c : ℕ
c = 99

abbrev d : ℕ
d = 100

abbrev e : ℕ
e = 101

abbrev at_addr : Addr → ℕ → Status → ℕ → Claim
at_addr addr letter status i = record { name = letter ∷ []; addr = addr; status = status; incarnation = i }

abbrev on : ℕ → Status → ℕ → Claim
on letter status i = at_addr (record { ip = V4 (127 ∷ 0 ∷ 0 ∷ 1 ∷ []); port = 7000 }) letter status i

-- c, which a suspects, is at 127.0.0.1, or at 2001:db8::1
abbrev near-c : Claim
near-c = on c (Suspect (a ∷ [])) 2

abbrev far-c : Claim
far-c =
    let ip = V6 (0x20 ∷ 0x01 ∷ 0x0d ∷ 0xb8 ∷ replicate 11 0 ++ 1 ∷ []) in
    at_addr (record { ip = ip; port = 7000 }) c (Suspect (a ∷ [])) 2

-- A table of seven records: a to e, g (103) and h (104). Its first page has six, and the page after the sixth has
-- one. In version 3 its first page has all seven. The status of a record doesn't matter.
abbrev seven : List Claim
seven =
    on a Alive 0 ∷ on b Alive 3 ∷ near-c ∷ on d Failed 1 ∷ on e Alive 0 ∷ on 103 Failed 7
    ∷ on 104 Alive 0
    ∷ []

first_page_has_six :
    page_of One None seven
    ≡ on a Alive 0 ∷ on b Alive 3 ∷ near-c ∷ on d Failed 1 ∷ on e Alive 0 ∷ on 103 Failed 7
    ∷ []
first_page_has_six = refl

first_page_of_version_two : page_of Two None seven ≡ page_of One None seven
first_page_of_version_two = refl

first_page_of_version_three : page_of Three None seven ≡ seven
first_page_of_version_three = refl

page_behind_the_sixth : page_of One (Some (103 ∷ [])) seven ≡ on 104 Alive 0 ∷ []
page_behind_the_sixth = refl

page_behind_the_last : page_of One (Some (104 ∷ [])) seven ≡ []
page_behind_the_last = refl

-- Nobody is called f (102) or dd.
page_behind_f : page_of One (Some (102 ∷ [])) seven ≡ on 103 Failed 7 ∷ on 104 Alive 0 ∷ []
page_behind_f = refl

page_behind_dd : page_of One (Some (d ∷ d ∷ [])) seven ≡ on e Alive 0 ∷ on 103 Failed 7 ∷ on 104 Alive 0 ∷ []
page_behind_dd = refl

no_page_of_none : page_of One None [] ≡ []
no_page_of_none = refl

none_behind_a_name : page_of One (Some (c ∷ [])) [] ≡ []
none_behind_a_name = refl

-- The same, but c has an address of IPv6. Versions 1 and 2 can't tell that, so the next record takes its place.
abbrev seven_with_far_c : List Claim
seven_with_far_c =
    on a Alive 0 ∷ on b Alive 3 ∷ far-c ∷ on d Failed 1 ∷ on e Alive 0 ∷ on 103 Failed 7 ∷ on 104 Alive 0 ∷ []

far_record_is_passed_over :
    page_of Two None seven_with_far_c
    ≡ on a Alive 0 ∷ on b Alive 3 ∷ on d Failed 1 ∷ on e Alive 0 ∷ on 103 Failed 7 ∷ on 104 Alive 0
    ∷ []
far_record_is_passed_over = refl

far_record_behind_b : page_of One (Some (b ∷ [])) (on b Alive 3 ∷ far-c ∷ on d Failed 1 ∷ []) ≡ on d Failed 1 ∷ []
far_record_behind_b = refl

far_record_in_version_three : page_of Three None seven_with_far_c ≡ seven_with_far_c
far_record_in_version_three = refl
