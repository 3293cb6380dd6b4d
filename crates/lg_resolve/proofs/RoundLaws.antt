-- One more host of a round, and what becomes of the hosts before it.
use Rattle.std.proofs.Common.{◌≡◌, ℕ, ◌+◌, ◌<◌, ◌≤◌, List, [], ◌∷◌, ◌++◌, length, get_or, take, zero, suc, refl, ap, sym, ◌∙◌, arith, append-nil, subst}
use Rattle.std.specs.Prelude.{min, Option}
use Rattle.std.proofs.Math.Seq.{take-append-add}
use Rattle.std.proofs.lemmas.List.{length-map, length-take-le, map-append, take_more, take_min}
use Rattle.std.proofs.lemmas.List.Concat.{flat_map-append}
use Rattle.lg_rules.specs.declared.addr.Addr.{Addr}
use Rattle.lg_text.specs.Meaning.Reporting.{Reported}
use Rattle.lg_config.specs.declared.host.Host.{Host}
use Rattle.lg_resolve.specs.declared.known.KnownHost.{KnownHost}
use Rattle.lg_resolve.specs.declared.known.HostNews.{HostNews}
use Rattle.lg_resolve.specs.Meaning.Answers.{answers_by, news_of, HostAnswer, Found, IsAfter}
use Rattle.lg_resolve.specs.Meaning.Lines.{Tells}
use Rattle.lg_resolve.specs.Meaning.Rounds.{are_fresh, found_in, hosts_in, longer, AreAfter, TellsEach}

-- as many histories as hosts
pub same_count : (histories : List (List Found)) (rows : List KnownHost) → AreAfter histories rows → length histories ≡ length rows
same_count [] [] all = refl
same_count [] (k ∷ rows) all = absurd all
same_count (h ∷ histories) [] all = absurd all
same_count (h ∷ histories) (k ∷ rows) all = ap (λ (n : ℕ). suc n) (same_count histories rows all.1)

-- the host at an index
pub after_at : (histories : List (List Found)) (rows : List KnownHost) (i : ℕ) (d : KnownHost) → AreAfter histories rows → i < length rows → IsAfter (get_or histories i []) (get_or rows i d)
after_at [] [] i d all there = absurd (omega (arith, there))
after_at [] (k ∷ rows) i d all there = absurd all
after_at (h ∷ histories) [] i d all there = absurd all
after_at (h ∷ histories) (k ∷ rows) zero d all there = all.0
after_at (h ∷ histories) (k ∷ rows) (suc i) d all there = after_at histories rows i d all.1 (omega (arith, there))

-- one more host
pub after_more : (histories : List (List Found)) (rows : List KnownHost) (h : List Found) (k : KnownHost) → AreAfter histories rows → IsAfter h k → AreAfter (histories ++ h ∷ []) (rows ++ k ∷ [])
after_more [] [] h k all one = (one, tt)
after_more [] (j ∷ rows) h k all one = absurd all
after_more (g ∷ histories) [] h k all one = absurd all
after_more (g ∷ histories) (j ∷ rows) h k all one = (all.0, after_more histories rows h k all.1 one)

-- and one more answer
pub longer_more : (histories : List (List Found)) (found : List Found) (h : List Found) (f : Found) → length histories ≡ length found
    → longer (histories ++ h ∷ []) (found ++ f ∷ []) ≡ longer histories found ++ (h ++ f ∷ []) ∷ []
longer_more [] [] h f same = refl
longer_more [] (e ∷ found) h f same = absurd (omega (arith, same))
longer_more (g ∷ histories) [] h f same = absurd (omega (arith, same))
longer_more (g ∷ histories) (e ∷ found) h f same = ap (λ (l : List (List Found)). (g ++ e ∷ []) ∷ l) (longer_more histories found h f (omega (arith, same)))

pub answers_more : (hosts : List Host) (found : List Found) (host : Host) (f : Found) → length hosts ≡ length found
    → answers_by (hosts ++ host ∷ []) (found ++ f ∷ []) ≡ answers_by hosts found ++ record { host = host; found = f } ∷ []
answers_more [] [] host f same = refl
answers_more [] (e ∷ found) host f same = absurd (omega (arith, same))
answers_more (g ∷ hosts) [] host f same = absurd (omega (arith, same))
answers_more (g ∷ hosts) (e ∷ found) host f same = ap (λ (l : List HostAnswer). record { host = g; found = e } ∷ l) (answers_more hosts found host f (omega (arith, same)))

-- the hosts of some rows, and their addresses, with one more
pub hosts_more : (rows : List KnownHost) (i : ℕ) (k : KnownHost) → i < length rows → k ≡ get_or rows i k → hosts_in (take (i + 1) rows) ≡ hosts_in (take i rows) ++ k.host ∷ []
hosts_more rows i k there is =
    ap hosts_in (take_more rows i k there) ∙ (map-append (λ (known : KnownHost). known.host) (take i rows) (get_or rows i k ∷ [])
    ∙ ap (λ (known : KnownHost). hosts_in (take i rows) ++ known.host ∷ []) (sym is))

pub found_more : (rows : List KnownHost) (i : ℕ) (k : KnownHost) → i < length rows → k ≡ get_or rows i k → found_in (take (i + 1) rows) ≡ found_in (take i rows) ++ k.addrs.items
found_more rows i k there is =
    ap found_in (take_more rows i k there) ∙ (flat_map-append (λ (known : KnownHost). known.addrs.items) (take i rows) (get_or rows i k ∷ [])
    ∙ (ap (λ (known : KnownHost). found_in (take i rows) ++ (known.addrs.items ++ [])) (sym is)
    ∙ ap (λ (l : List Addr). found_in (take i rows) ++ l) (append-nil k.addrs.items)))

-- hosts of which nothing was answered, with one more
pub fresh_more : (hosts : List Host) (i : ℕ) (d : Host) → i < length hosts → are_fresh (take (i + 1) hosts) ≡ are_fresh (take i hosts) ++ [] ∷ []
fresh_more hosts i d there = ap are_fresh (take_more hosts i d there) ∙ map-append (λ (host : Host). []) (take i hosts) (get_or hosts i d ∷ [])

-- to cut off twice is to cut off once
pub cut_again : (n : ℕ) (xs ys : List Addr) → take n (take n xs ++ ys) ≡ take n (xs ++ ys)
cut_again zero xs ys = refl
cut_again (suc n) [] ys = refl
cut_again (suc n) (x ∷ xs) ys = ap (λ (l : List Addr). x ∷ l) (cut_again n xs ys)

-- what there is room for behind some addresses
pub room_for : (n room : ℕ) (xs ys : List Addr) → length xs + room ≡ n → xs ++ take (min room (length ys)) ys ≡ take n (xs ++ ys)
room_for n room xs ys is = ap (λ (l : List Addr). xs ++ l) (take_min room ys) ∙ (sym (take-append-add xs ys room) ∙ ap (λ (m : ℕ). take m (xs ++ ys)) is)

-- so many hosts of some rows, and their answers with one more
host_count : (rows : List KnownHost) (i : ℕ) → i ≤ length rows → length (hosts_in (take i rows)) ≡ i
host_count rows i there = length-map (take i rows) (λ (known : KnownHost). known.host) ∙ length-take-le i rows there

pub answered_more : (rows : List KnownHost) (found : List Found) (i : ℕ) (k : KnownHost) (f : Found) → i < length rows → k ≡ get_or rows i k → length found ≡ i
    → answers_by (hosts_in (take (i + 1) rows)) (found ++ f ∷ []) ≡ answers_by (hosts_in (take i rows)) found ++ record { host = k.host; found = f } ∷ []
answered_more rows found i k f there is many =
    ap (λ (l : List Host). answers_by l (found ++ f ∷ [])) (hosts_more rows i k there is)
    ∙ answers_more (hosts_in (take i rows)) found k.host f (host_count rows i (omega (arith, there)) ∙ sym many)

-- What is known after a round of so many hosts, and of one more: it is known of that what its answers say, and then
-- what they say with one answer more.
pub round_more : (histories : List (List Found)) (rows after : List KnownHost) (found : List Found) (i : ℕ) (k l : KnownHost) (f : Found)
    → AreAfter histories rows → i < length rows → k ≡ get_or rows i k → length found ≡ i → AreAfter (longer (take i histories) found) after
    → ((answers : List Found) → IsAfter answers k → IsAfter (answers ++ f ∷ []) l) → AreAfter (longer (take (i + 1) histories) (found ++ f ∷ [])) (after ++ l ∷ [])
round_more histories rows after found i k l f all there is many so_far next =
    let h : List Found = get_or histories i [] in
    let count : length histories ≡ length rows = same_count histories rows all in
    let here : IsAfter h k = subst (λ (x : KnownHost). IsAfter h x) (sym is) (after_at histories rows i k all there) in
    let more : take (i + 1) histories ≡ take i histories ++ h ∷ [] = take_more histories i [] (omega (arith, count, there)) in
    let same : length (take i histories) ≡ length found = length-take-le i histories (omega (arith, count, there)) ∙ sym many in
    let whole : longer (take (i + 1) histories) (found ++ f ∷ []) ≡ longer (take i histories) found ++ (h ++ f ∷ []) ∷ [] =
    ap (λ (x : List (List Found)). longer x (found ++ f ∷ [])) more ∙ longer_more (take i histories) found h f same in
    subst (λ (x : List (List Found)). AreAfter x (after ++ l ∷ [])) (sym whole) (after_more (longer (take i histories) found) after (h ++ f ∷ []) l so_far (next h here))

-- the news of one more host
told_more : (hosts : List Host) (histories : List (List Found)) (found : List Found) (host : Host) (h : List Found) (f : Found) (before so_far after : Reported)
    → length hosts ≡ length found → length histories ≡ length found → TellsEach before so_far hosts histories found → Tells so_far after host.name (news_of h f)
    → TellsEach before after (hosts ++ host ∷ []) (histories ++ h ∷ []) (found ++ f ∷ [])
told_more [] [] [] host h f before so_far after same each told one = (after, subst (λ (r : Reported). Tells r after host.name (news_of h f)) told one, refl)
told_more [] [] (e ∷ found) host h f before so_far after same each told one = absurd (omega (arith, same))
told_more [] (g ∷ histories) [] host h f before so_far after same each told one = absurd (omega (arith, each))
told_more [] (g ∷ histories) (e ∷ found) host h f before so_far after same each told one = absurd (omega (arith, same))
told_more (j ∷ hosts) [] [] host h f before so_far after same each told one = absurd (omega (arith, same))
told_more (j ∷ hosts) [] (e ∷ found) host h f before so_far after same each told one = absurd (omega (arith, each))
told_more (j ∷ hosts) (g ∷ histories) [] host h f before so_far after same each told one = absurd (omega (arith, same))
told_more (j ∷ hosts) (g ∷ histories) (e ∷ found) host h f before so_far after same each told one =
    (told.0, told.1, told_more hosts histories found host h f told.0 so_far after (omega (arith, same)) (omega (arith, each)) told.2 one)

-- What was told in a round of so many hosts, and of one more.
pub news_more : (histories : List (List Found)) (rows : List KnownHost) (found : List Found) (i : ℕ) (k : KnownHost) (f : Found) (news : Option HostNews)
    (before so_far after : Reported) → AreAfter histories rows → i < length rows → k ≡ get_or rows i k → length found ≡ i
    → TellsEach before so_far (hosts_in (take i rows)) (take i histories) found → ((answers : List Found) → IsAfter answers k → news ≡ news_of answers f)
    → Tells so_far after k.host.name news
    → TellsEach before after (hosts_in (take (i + 1) rows)) (take (i + 1) histories) (found ++ f ∷ [])
news_more histories rows found i k f news before so_far after all there is many told by one =
    let h : List Found = get_or histories i [] in
    let count : length histories ≡ length rows = same_count histories rows all in
    let here : IsAfter h k = subst (λ (x : KnownHost). IsAfter h x) (sym is) (after_at histories rows i k all there) in
    let more : take (i + 1) histories ≡ take i histories ++ h ∷ [] = take_more histories i [] (omega (arith, count, there)) in
    let same : length (take i histories) ≡ length found = length-take-le i histories (omega (arith, count, there)) ∙ sym many in
    let hosts : length (hosts_in (take i rows)) ≡ length found = host_count rows i (omega (arith, there)) ∙ sym many in
    let whole : TellsEach before after (hosts_in (take i rows) ++ k.host ∷ []) (take i histories ++ h ∷ []) (found ++ f ∷ []) =
    told_more (hosts_in (take i rows)) (take i histories) found k.host h f before so_far after hosts same told
    (subst (λ (n : Option HostNews). Tells so_far after k.host.name n) (by h here) one) in
    subst (λ (x : List (List Found)). TellsEach before after (hosts_in (take (i + 1) rows)) x (found ++ f ∷ [])) (sym more)
    (subst (λ (x : List Host). TellsEach before after x (take i histories ++ h ∷ []) (found ++ f ∷ [])) (sym (hosts_more rows i k there is)) whole)
