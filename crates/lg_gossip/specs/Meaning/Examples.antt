-- Worked rows: what is queued, and what packets take.
use Rattle.std.specs.Prelude.{◌≡◌, ℕ, true, false, List, [], ◌∷◌, ◌++◌, Some, None, refl}
use Rattle.lg_rules.specs.declared.addr.Addr.{Addr}
use Rattle.lg_rules.specs.declared.addr.Ip.TheVariants.{V4, V6}
use Rattle.lg_rules.specs.declared.claim.Claim.{Claim}
use Rattle.lg_rules.specs.declared.claim.Status.{Status}
use Rattle.lg_rules.specs.declared.claim.Status.TheVariants.{Alive, Suspect, Failed}
use Rattle.lg_rules.specs.declared.version.Version.{Version}
use Rattle.lg_rules.specs.declared.version.Version.TheVariants.{One, Two, Three}
use Rattle.lg_gossip.specs.declared.queued.Queued.{Queued}
use Rattle.lg_gossip.specs.Meaning.Queue.{QueueValue, buddy_of, put_of, removed, taken_of, fill_of, filled}
use Rattle.lg_gossip.specs.Meaning.Queue.{has_news, may_send_about}
use Rattle.std.specs.Fmt.{digits}

-- a claim about the member with a name of one letter
abbrev on : ℕ → Status → ℕ → Claim
on letter status i =
    let addr : Addr = record { ip = V4 (127 ∷ 0 ∷ 0 ∷ 1 ∷ []); port = 7000 } in
    record { name = letter ∷ []; addr = addr; status = status; incarnation = i }

abbrev suspect-c : Claim
suspect-c = on 99 (Suspect (97 ∷ [])) 2

abbrev alive : ℕ → Claim
alive letter = on letter Alive 0

abbrev row : Claim → ℕ → Queued
row c sends = record { claim = c; sends = sends }

abbrev in_version : Version → List Queued → QueueValue
in_version v rows = record { lambda = 4; version = v; rows = rows }

abbrev of_rows : List Queued → QueueValue
of_rows rows = in_version One rows

-- Suspect(c, 2) and Alive(d, 0) are put, and Suspect(c, 2) is to stand first in a packet.
puts : put_of (alive 100) (put_of suspect-c (of_rows [])) ≡ of_rows (row suspect-c 0 ∷ row (alive 100) 0 ∷ [])
puts = refl

replaces :
    put_of (alive 99) (of_rows (row suspect-c 3 ∷ row (alive 100) 1 ∷ []))
    ≡ of_rows (row (alive 99) 0 ∷ row (alive 100) 1 ∷ [])
replaces = refl

-- the claim about c is dropped; about e there is none
drops : removed (99 ∷ []) (of_rows (row suspect-c 3 ∷ row (alive 100) 1 ∷ [])) ≡ of_rows (row (alive 100) 1 ∷ [])
drops = refl

drops_none : removed (101 ∷ []) (of_rows (row suspect-c 3 ∷ [])) ≡ of_rows (row suspect-c 3 ∷ [])
drops_none = refl

to_buddy :
    fill_of (of_rows (row suspect-c 0 ∷ row (alive 100) 0 ∷ [])) (Some suspect-c) 9
    ≡ suspect-c ∷ alive 100 ∷ []
unfolding taken_of digits
to_buddy = refl

counts_no_buddy :
    filled (of_rows (row suspect-c 0 ∷ row (alive 100) 0 ∷ [])) (Some suspect-c) 9
    ≡ of_rows (row suspect-c 0 ∷ row (alive 100) 1 ∷ [])
unfolding taken_of digits
counts_no_buddy = refl

fewest_first :
    fill_of (of_rows (row suspect-c 0 ∷ row (alive 100) 1 ∷ [])) None 9 ≡ suspect-c ∷ alive 100 ∷ []
unfolding taken_of digits
fewest_first = refl

sent_less_first :
    fill_of (of_rows (row (alive 99) 2 ∷ row (alive 100) 1 ∷ row (alive 101) 2 ∷ [])) None 9
    ≡ alive 100 ∷ alive 99 ∷ alive 101 ∷ []
unfolding taken_of digits
sent_less_first = refl

-- seven claims about d to j
abbrev seven : List Queued
seven =
    let four = row (alive 100) 0 ∷ row (alive 101) 0 ∷ row (alive 102) 0 ∷ row (alive 103) 0 ∷ [] in
    four ++ row (alive 104) 0 ∷ row (alive 105) 0 ∷ row (alive 106) 0 ∷ []

-- and a packet in which Suspect(c, 2) is to stand first
five_others :
    fill_of (of_rows seven) (Some suspect-c) 9
    ≡ suspect-c ∷ alive 100 ∷ alive 101 ∷ alive 102 ∷ alive 103 ∷ alive 104 ∷ []
unfolding taken_of digits
five_others = refl

-- any record may be the one that stands first
five_beside_alive :
    fill_of (of_rows seven) (Some (alive 99)) 9
    ≡ alive 99 ∷ alive 100 ∷ alive 101 ∷ alive 102 ∷ alive 103 ∷ alive 104 ∷ []
unfolding taken_of digits
five_beside_alive = refl

five_beside_failed :
    let failed-c = on 99 Failed 2 in
    fill_of (of_rows seven) (Some failed-c) 9
    ≡ failed-c ∷ alive 100 ∷ alive 101 ∷ alive 102 ∷ alive 103 ∷ alive 104 ∷ []
unfolding taken_of digits
five_beside_failed = refl

six_without :
    taken_of (of_rows seven) None 9
    ≡ alive 100 ∷ alive 101 ∷ alive 102 ∷ alive 103 ∷ alive 104 ∷ alive 105 ∷ []
unfolding taken_of digits
six_without = refl

-- all seven in version 3, whose packets have 12 places
seven_in_three :
    taken_of (in_version Three seven) None 9
    ≡ alive 100 ∷ alive 101 ∷ alive 102 ∷ alive 103 ∷ alive 104 ∷ alive 105 ∷ alive 106 ∷ []
unfolding taken_of digits
seven_in_three = refl

with_buddy_in_three :
    fill_of (in_version Three seven) (Some suspect-c) 9
    ≡ suspect-c ∷ alive 100 ∷ alive 101 ∷ alive 102 ∷ alive 103 ∷ alive 104 ∷ alive 105 ∷ alive 106 ∷ []
unfolding taken_of digits
with_buddy_in_three = refl

-- six more about k to p: 13 claims, of which 12 go, and 11 beside a buddy
abbrev thirteen : List Queued
thirteen =
    let four = row (alive 107) 0 ∷ row (alive 108) 0 ∷ row (alive 109) 0 ∷ row (alive 110) 0 ∷ [] in
    seven ++ four ++ row (alive 111) 0 ∷ row (alive 112) 0 ∷ []

abbrev eleven : List Claim
eleven =
    let six = alive 100 ∷ alive 101 ∷ alive 102 ∷ alive 103 ∷ alive 104 ∷ alive 105 ∷ [] in
    six ++ alive 106 ∷ alive 107 ∷ alive 108 ∷ alive 109 ∷ alive 110 ∷ []

twelve_in_three : taken_of (in_version Three thirteen) None 9 ≡ eleven ++ alive 111 ∷ []
unfolding taken_of digits
twelve_in_three = refl

eleven_others_in_three : fill_of (in_version Three thirteen) (Some suspect-c) 9 ≡ suspect-c ∷ eleven
unfolding taken_of digits
eleven_others_in_three = refl

-- a claim that was sent as often as it may be among nine members, which may be sent again among ten
exhausted : fill_of (of_rows (row (alive 99) 4 ∷ [])) None 9 ≡ []
unfolding taken_of digits
exhausted = refl

sendable_again : fill_of (of_rows (row (alive 99) 4 ∷ [])) None 10 ≡ alive 99 ∷ []
unfolding taken_of digits
sendable_again = refl

-- a claim about c, whose address is one of IPv6: 2001:db8::1
abbrev six-c : Status → Claim
six-c status =
    let group : List ℕ = 32 ∷ 1 ∷ 13 ∷ 184 ∷ [] in
    let zeros : List ℕ = 0 ∷ 0 ∷ 0 ∷ 0 ∷ 0 ∷ 0 ∷ 0 ∷ 0 ∷ 0 ∷ 0 ∷ 0 ∷ [] in
    let addr : Addr = record { ip = V6 (group ++ zeros ++ 1 ∷ []); port = 7000 } in
    record { name = 99 ∷ []; addr = addr; status = status; incarnation = 0 }

-- It is passed over in version 1, and no send is counted. It takes the place of no other.
passed_over-put :
    put_of (six-c Alive) (of_rows (row (alive 100) 0 ∷ []))
    ≡ of_rows (row (six-c Alive) 200 ∷ row (alive 100) 0 ∷ [])
passed_over-put = refl

passed_over-taken : fill_of (put_of (six-c Alive) (of_rows (row (alive 100) 0 ∷ []))) None 9 ≡ alive 100 ∷ []
unfolding taken_of digits
passed_over-taken = refl

passed_over-row :
    filled (put_of (six-c Alive) (of_rows (row (alive 100) 0 ∷ []))) None 9
    ≡ of_rows (row (six-c Alive) 200 ∷ row (alive 100) 1 ∷ [])
unfolding taken_of digits
passed_over-row = refl

passed_over-places :
    taken_of (put_of (six-c Alive) (of_rows seven)) None 9
    ≡ alive 100 ∷ alive 101 ∷ alive 102 ∷ alive 103 ∷ alive 104 ∷ alive 105 ∷ []
unfolding taken_of digits
passed_over-places = refl

-- In version 3 it goes.
told-taken :
    fill_of (put_of (six-c Alive) (in_version Three (row (alive 100) 0 ∷ []))) None 9
    ≡ six-c Alive ∷ alive 100 ∷ []
unfolding taken_of digits
told-taken = refl

told-row :
    filled (put_of (six-c Alive) (in_version Three (row (alive 100) 0 ∷ []))) None 9
    ≡ in_version Three (row (six-c Alive) 1 ∷ row (alive 100) 1 ∷ [])
unfolding taken_of digits
told-row = refl

-- As a buddy it is none in version 2, and is one in version 3.
no_buddy : buddy_of Two (Some (six-c (Suspect (97 ∷ [])))) ≡ None
no_buddy = refl

no_buddy-packet :
    fill_of (in_version Two (row (alive 100) 0 ∷ [])) (Some (six-c (Suspect (97 ∷ [])))) 9 ≡ alive 100 ∷ []
unfolding taken_of digits
no_buddy-packet = refl

buddy_in_three :
    fill_of (in_version Three (row (alive 100) 0 ∷ [])) (Some (six-c (Suspect (97 ∷ [])))) 9
    ≡ six-c (Suspect (97 ∷ [])) ∷ alive 100 ∷ []
unfolding taken_of digits
buddy_in_three = refl

-- There is news as long as a claim may still be sent, here among nine members, and then among ten.
no_news : has_news (of_rows (row (alive 99) 4 ∷ row (alive 100) 4 ∷ [])) 9 ≡ false
unfolding digits
no_news = refl

no_news-empty : has_news (of_rows []) 9 ≡ false
no_news-empty = refl

one_left : has_news (of_rows (row (alive 99) 4 ∷ row (alive 100) 3 ∷ [])) 9 ≡ true
unfolding digits
one_left = refl

news_again : has_news (of_rows (row (alive 99) 4 ∷ row (alive 100) 4 ∷ [])) 10 ≡ true
unfolding digits
news_again = refl

-- A claim that can't be told is no news.
no_news-passed_over : has_news (put_of (six-c Alive) (of_rows [])) 9 ≡ false
unfolding digits
no_news-passed_over = refl

-- The claim about d may still be sent, the one about c not, and there is none about e.
about_c : may_send_about (99 ∷ []) (of_rows (row (alive 99) 4 ∷ row (alive 100) 3 ∷ [])) 9 ≡ false
unfolding digits
about_c = refl

about_d : may_send_about (100 ∷ []) (of_rows (row (alive 99) 4 ∷ row (alive 100) 3 ∷ [])) 9 ≡ true
unfolding digits
about_d = refl

about_e : may_send_about (101 ∷ []) (of_rows (row (alive 99) 4 ∷ row (alive 100) 3 ∷ [])) 9 ≡ false
unfolding digits
about_e = refl
