-- Chunks that are cut off, and entries that end anywhere.
use Rattle.std.proofs.Common.{◌≡◌, ℕ, zero, suc, ◌+◌, ◌-◌, ◌/◌, ◌%◌, ◌≤◌, ◌<◌, Bool, true, false, cond, eqb, ltb, nat_lt, List, [], ◌∷◌, ◌++◌, length, take, Option, Some, None, Result, Ok, Err, refl, sym, ap, subst, ◌∙◌, arith}
use Rattle.std.proofs.lemmas.Bool.{le-ltb, lt-ltb, ltb-true, ltb-false, ne_eqb}
use Rattle.std.proofs.lemmas.List.{length-append, length-take-le, take-append-le, take_all}
use Rattle.std.proofs.Math.Seq.{take-append-add}
use Rattle.lg_fields.specs.declared.fault.FieldFault.{FieldFault}
use Rattle.lg_fields.specs.declared.fault.FieldFault.TheVariants as faults
use Rattle.lg_fields.specs.Meaning.Spelled.{spelled_digits, spelled_count, spelled_text, check_of_body, chunk, IsCountedText}
use Rattle.lg_fields.specs.Meaning.Scanned.{◌>>=◌, digits_scan, count_scan, split_scan, text_scan, check_scan, chunk_scan}
use Rattle.lg_fields.proofs.Numbers.{count_again}
use Rattle.lg_fields.proofs.Texts.{text_again}
use Rattle.lg_fields.proofs.Chunks.{length-check, chunk_again}
use Rattle.lg_recording.specs.Meaning.Values.{RecordedEntry}
use Rattle.lg_recording.specs.Meaning.Spelling.{spelled_recorded, told_recorded, told_entries}
use Rattle.lg_recording.specs.Meaning.Listing.{entry_chunk, spelled_entries, IsRecordable, AreRecordable, entry_chunk_scan, ListedEntries, listing, listed_before, listed_upto, entries_scan, whole_within, cut_fault}
use Rattle.lg_recording.proofs.EntryLaws.{whole_again}

-- what stands in front, with more of what follows
take_behind : (n : ℕ) (front rest : List ℕ) → length front ≤ n → take n (front ++ rest) ≡ front ++ take (n - length front) rest
take_behind n front rest enough =
    let sum : n ≡ length front + (n - length front) = omega arith in
    ap (λ (m : ℕ). take m (front ++ rest)) sum ∙ take-append-add front rest (n - length front)

-- ---- numbers that are cut off

digits_torn : (more n k : ℕ) → k < length (spelled_digits more n) → digits_scan more (take k (spelled_digits more n)) ≡ Err faults.Short
unfolding spelled_digits digits_scan
digits_torn zero n zero few = refl
digits_torn zero n (suc k) few = absurd (omega (arith, few))
digits_torn (suc more) n k few = split (nat_lt n 128) refl (λ j fewer. digits_torn more (n / 128) j fewer) k few
  where
    split : (small : Bool) → nat_lt n 128 ≡ small → ((j : ℕ) → j < length (spelled_digits more (n / 128)) → digits_scan more (take j (spelled_digits more (n / 128))) ≡ Err faults.Short)
        → (k : ℕ) → k < length (cond small (n ∷ []) ((128 + n % 128) ∷ spelled_digits more (n / 128)))
        → digits_scan (suc more) (take k (cond small (n ∷ []) ((128 + n % 128) ∷ spelled_digits more (n / 128)))) ≡ Err faults.Short
    split small is others zero few = refl
    split true is others (suc k) few = absurd (omega (arith, few))
    split false is others (suc k) few =
        let big : ltb (128 + n % 128) 128 ≡ false = le-ltb (128 + n % 128) 128 (omega arith) in
        rw (big, others k (omega (arith, few))) refl

count_torn : (n k : ℕ) → k < length (spelled_count n) → count_scan (take k (spelled_count n)) ≡ Err faults.Short
unfolding spelled_count count_scan
count_torn n k few = digits_torn 9 n k few

-- a number has a byte at least
digits_some : (more n : ℕ) → 0 < length (spelled_digits more n)
unfolding spelled_digits
digits_some zero n = omega arith
digits_some (suc more) n = split (nat_lt n 128)
  where
    split : (small : Bool) → 0 < length (cond small (n ∷ []) ((128 + n % 128) ∷ spelled_digits more (n / 128)))
    split true = omega arith
    split false = omega arith

count_some : (n : ℕ) → 0 < length (spelled_count n)
unfolding spelled_count
count_some n = digits_some 9 n

pub chunk_some : (body : List ℕ) → 0 < length (chunk body)
unfolding chunk
chunk_some body =
    let some = count_some (length body) in
    omega (arith, some, length-append (spelled_text body) (check_of_body body), length-append (spelled_count (length body)) body)

-- ---- texts and chunks that are cut off

split_torn : (n : ℕ) (bytes : List ℕ) → length bytes < n → split_scan n bytes ≡ Err faults.Short
split_torn n bytes few =
    let short : ltb (length bytes) n ≡ true = lt-ltb (length bytes) n few in
    rw short refl

text_torn : (text : List ℕ) (k : ℕ) → IsCountedText text → k < length (spelled_text text) → text_scan (take k (spelled_text text)) ≡ Err faults.Short
unfolding text_scan
text_torn text k fit few = split (ltb k (length (spelled_count (length text)))) refl
  where
    split : (early : Bool) → ltb k (length (spelled_count (length text))) ≡ early → (count_scan (take k (spelled_count (length text) ++ text)) >>= λ number. split_scan number.0 number.1) ≡ Err faults.Short
    split true is =
        let within : k < length (spelled_count (length text)) = ltb-true k (length (spelled_count (length text))) is in
        rw (take-append-le k (spelled_count (length text)) text (omega (arith, within)), count_torn (length text) k within) refl
    split false is =
        let past : length (spelled_count (length text)) ≤ k = ltb-false k (length (spelled_count (length text))) is in
        let left = k - length (spelled_count (length text)) in
        let all = length-append (spelled_count (length text)) text in
        let fewer : left < length text = omega (arith, few, all, past) in
        let short : length (take left text) < length text = omega (arith, fewer, length-take-le left text (omega (arith, fewer))) in
        rw (take_behind k (spelled_count (length text)) text past, count_again (length text) (take left text) fit) (split_torn (length text) (take left text) short)

pub chunk_torn : (body : List ℕ) (k : ℕ) → IsCountedText body → k < length (chunk body) → chunk_scan (take k (chunk body)) ≡ Err faults.Short
unfolding chunk_scan chunk
chunk_torn body k fit few = split (ltb k (length (spelled_text body))) refl
  where
    split : (early : Bool) → ltb k (length (spelled_text body)) ≡ early → (text_scan (take k (spelled_text body ++ check_of_body body)) >>= λ b. check_scan b.0 b.1) ≡ Err faults.Short
    split true is =
        let within : k < length (spelled_text body) = ltb-true k (length (spelled_text body)) is in
        rw (take-append-le k (spelled_text body) (check_of_body body) (omega (arith, within)), text_torn body k fit within) refl
    split false is =
        let past : length (spelled_text body) ≤ k = ltb-false k (length (spelled_text body)) is in
        let left = k - length (spelled_text body) in
        let all = length-append (spelled_text body) (check_of_body body) in
        let four = length-check body in
        let fewer : left < 4 = omega (arith, few, all, past, four) in
        let short : length (take left (check_of_body body)) < 4 = omega (arith, fewer, four, length-take-le left (check_of_body body) (omega (arith, fewer, four))) in
        rw (take_behind k (spelled_text body) (check_of_body body) past, text_again body (take left (check_of_body body)) fit, split_torn 4 (take left (check_of_body body)) short) refl

-- ---- entries

pub entry_chunk_again : (e : RecordedEntry) (rest : List ℕ) → IsRecordable e → entry_chunk_scan (entry_chunk e ++ rest) ≡ Ok (told_recorded e, rest)
unfolding entry_chunk_scan
entry_chunk_again e rest fit = rw (chunk_again (spelled_recorded e) rest fit.counted, whole_again e fit.spelled) refl

entry_chunk_torn : (e : RecordedEntry) (k : ℕ) → IsRecordable e → k < length (entry_chunk e) → entry_chunk_scan (take k (entry_chunk e)) ≡ Err faults.Short
unfolding entry_chunk_scan
entry_chunk_torn e k fit few = rw (chunk_torn (spelled_recorded e) k fit.counted few) refl

-- one chunk of some bytes is read
pub upto_one : (n : ℕ) (bytes : List ℕ) → 0 < length bytes → listed_upto (suc n) bytes ≡ listed_before (entry_chunk_scan bytes) (λ rest. listed_upto n rest)
unfolding listed_upto
upto_one n [] some = absurd (omega (arith, some))
upto_one n (b ∷ bytes) some = refl

pub none_listed : (n : ℕ) → listed_upto n [] ≡ listing [] None
unfolding listed_upto
none_listed zero = refl
none_listed (suc n) = refl

-- a cut within the first chunk
torn_here : (e : RecordedEntry) (n most : ℕ) (rest : List ℕ) → IsRecordable e → n < length (entry_chunk e) → length (take n (entry_chunk e ++ rest)) ≤ most
    → listed_upto most (take n (entry_chunk e ++ rest)) ≡ listing [] (cond (eqb n 0) None (Some faults.Short))
torn_here e zero most rest fit few enough = none_listed most
torn_here e (suc n) most rest fit few enough =
    let same : take (suc n) (entry_chunk e ++ rest) ≡ take (suc n) (entry_chunk e) = take-append-le (suc n) (entry_chunk e) rest (omega (arith, few)) in
    let long : length (take (suc n) (entry_chunk e)) ≡ suc n = length-take-le (suc n) (entry_chunk e) (omega (arith, few)) in
    let many : suc n ≤ most = subst (λ (m : ℕ). m ≤ most) (ap length same ∙ long) enough in
    ap (λ (bytes : List ℕ). listed_upto most bytes) same ∙ begun most many (omega (arith, long))
  where
    begun : (most : ℕ) → suc n ≤ most → 0 < length (take (suc n) (entry_chunk e)) → listed_upto most (take (suc n) (entry_chunk e)) ≡ listing [] (cond (eqb (suc n) 0) None (Some faults.Short))
    begun zero many some = absurd (omega (arith, many))
    begun (suc m) many some =
        let more : eqb (suc n) 0 ≡ false = ne_eqb (suc n) 0 (λ (h : suc n ≡ 0). omega (arith, h)) in
        upto_one m (take (suc n) (entry_chunk e)) some
        ∙ ap (λ (r : Result (RecordedEntry × List ℕ) FieldFault). listed_before r (λ rest. listed_upto m rest)) (entry_chunk_torn e (suc n) fit few)
        ∙ ap (λ (b : Bool). listing [] (cond b None (Some faults.Short))) (sym more)

-- a cut behind the first chunk
went_on : (e : RecordedEntry) (n most : ℕ) (rest : List ℕ) (others : ListedEntries) → IsRecordable e → length (entry_chunk e) ≤ n → length (take n (entry_chunk e ++ rest)) ≤ most
    → ((k : ℕ) → length (take (n - length (entry_chunk e)) rest) ≤ k → listed_upto k (take (n - length (entry_chunk e)) rest) ≡ others)
    → listed_upto most (take n (entry_chunk e ++ rest)) ≡ listing (told_recorded e ∷ others.entries) others.fault
went_on e n most rest others fit past enough later =
    let same : take n (entry_chunk e ++ rest) ≡ entry_chunk e ++ take (n - length (entry_chunk e)) rest = take_behind n (entry_chunk e) rest past in
    let some : 0 < length (entry_chunk e) = chunk_some (spelled_recorded e) in
    let sum : length (entry_chunk e ++ take (n - length (entry_chunk e)) rest) ≡ length (entry_chunk e) + length (take (n - length (entry_chunk e)) rest) = length-append (entry_chunk e) (take (n - length (entry_chunk e)) rest) in
    let many : length (entry_chunk e) + length (take (n - length (entry_chunk e)) rest) ≤ most = subst (λ (m : ℕ). m ≤ most) (ap length same ∙ sum) enough in
    ap (λ (bytes : List ℕ). listed_upto most bytes) same
    ∙ begun most (take (n - length (entry_chunk e)) rest) some sum many later
  where
    begun : (most : ℕ) (left : List ℕ) → 0 < length (entry_chunk e) → length (entry_chunk e ++ left) ≡ length (entry_chunk e) + length left → length (entry_chunk e) + length left ≤ most
        → ((k : ℕ) → length left ≤ k → listed_upto k left ≡ others) → listed_upto most (entry_chunk e ++ left) ≡ listing (told_recorded e ∷ others.entries) others.fault
    begun zero left some sum many later = absurd (omega (arith, some, many))
    begun (suc m) left some sum many later =
        upto_one m (entry_chunk e ++ left) (omega (arith, some, sum))
        ∙ ap (λ (r : Result (RecordedEntry × List ℕ) FieldFault). listed_before r (λ rest. listed_upto m rest)) (entry_chunk_again e left fit)
        ∙ ap (λ (l : ListedEntries). listing (told_recorded e ∷ l.entries) l.fault) (later m (omega (arith, some, many)))

abbrev no_bytes : List ℕ
no_bytes = []

take_nil : (n : ℕ) → take n no_bytes ≡ no_bytes
take_nil zero = refl
take_nil (suc n) = refl

-- entries that end after n bytes, read in at least as many steps as there are bytes
upto_torn : (es : List RecordedEntry) (n most : ℕ) → AreRecordable es → length (take n (spelled_entries es)) ≤ most
    → listed_upto most (take n (spelled_entries es)) ≡ listing (told_entries (whole_within n es)) (cut_fault n es)
upto_torn [] n most fit enough = ap (λ (bytes : List ℕ). listed_upto most bytes) (take_nil n) ∙ none_listed most
upto_torn (e ∷ es) n most fit enough =
    decided (ltb n (length (entry_chunk e))) refl (λ k few. upto_torn es (n - length (entry_chunk e)) k fit.1 few)
  where
    decided : (early : Bool) → ltb n (length (entry_chunk e)) ≡ early
        → ((k : ℕ) → length (take (n - length (entry_chunk e)) (spelled_entries es)) ≤ k
        → listed_upto k (take (n - length (entry_chunk e)) (spelled_entries es)) ≡ listing (told_entries (whole_within (n - length (entry_chunk e)) es)) (cut_fault (n - length (entry_chunk e)) es))
        → listed_upto most (take n (entry_chunk e ++ spelled_entries es))
        ≡ listing (told_entries (cond early [] (e ∷ whole_within (n - length (entry_chunk e)) es))) (cond early (cond (eqb n 0) None (Some faults.Short)) (cut_fault (n - length (entry_chunk e)) es))
    decided true is later = torn_here e n most (spelled_entries es) fit.0 (ltb-true n (length (entry_chunk e)) is) enough
    decided false is later =
        went_on e n most (spelled_entries es) (listing (told_entries (whole_within (n - length (entry_chunk e)) es)) (cut_fault (n - length (entry_chunk e)) es)) fit.0
        (ltb-false n (length (entry_chunk e)) is) enough later

pub entries_torn : (es : List RecordedEntry) (n : ℕ) → AreRecordable es → entries_scan (take n (spelled_entries es)) ≡ listing (told_entries (whole_within n es)) (cut_fault n es)
entries_torn es n fit = upto_torn es n (length (take n (spelled_entries es))) fit (omega arith)

-- all of the bytes
all_within : (es : List RecordedEntry) (n : ℕ) → length (spelled_entries es) ≤ n → (whole_within n es ≡ es) × (cut_fault n es ≡ None)
all_within [] n enough = (refl, refl)
all_within (e ∷ es) n enough =
    let sum = length-append (entry_chunk e) (spelled_entries es) in
    let past : ltb n (length (entry_chunk e)) ≡ false = le-ltb n (length (entry_chunk e)) (omega (arith, enough, sum)) in
    let others = all_within es (n - length (entry_chunk e)) (omega (arith, enough, sum)) in (
      ap (λ (b : Bool). cond b [] (e ∷ whole_within (n - length (entry_chunk e)) es)) past ∙ ap (λ (xs : List RecordedEntry). e ∷ xs) others.0,
      ap (λ (b : Bool). cond b (cond (eqb n 0) None (Some faults.Short)) (cut_fault (n - length (entry_chunk e)) es)) past ∙ others.1,
    )

pub entries_whole : (es : List RecordedEntry) → AreRecordable es → entries_scan (spelled_entries es) ≡ listing (told_entries es) None
entries_whole es fit =
    let within = all_within es (length (spelled_entries es)) (omega arith) in
    let all : take (length (spelled_entries es)) (spelled_entries es) ≡ spelled_entries es = take_all (length (spelled_entries es)) (spelled_entries es) (omega arith) in
    ap entries_scan (sym all) ∙ entries_torn es (length (spelled_entries es)) fit
    ∙ ap (λ (xs : List RecordedEntry). listing (told_entries xs) (cut_fault (length (spelled_entries es)) es)) within.0
    ∙ ap (λ (f : Option FieldFault). listing (told_entries es) f) within.1

-- the entries that are there whole are a front of all
pub whole_front : (es : List RecordedEntry) (n : ℕ) → (rest : List RecordedEntry) × (whole_within n es ++ rest ≡ es)
whole_front [] n = ([], refl)
whole_front (e ∷ es) n = decided (ltb n (length (entry_chunk e))) (whole_front es (n - length (entry_chunk e)))
  where
    decided : (early : Bool) → (rest : List RecordedEntry) × (whole_within (n - length (entry_chunk e)) es ++ rest ≡ es)
        → (rest : List RecordedEntry) × (cond early [] (e ∷ whole_within (n - length (entry_chunk e)) es) ++ rest ≡ e ∷ es)
    decided true others = (e ∷ es, refl)
    decided false others = (others.0, ap (λ (xs : List RecordedEntry). e ∷ xs) others.1)
