-- What a packet counts in the queue.
use Rattle.std.proofs.Common.{◌≡◌, ◌≢◌, inl, inr, ℕ, suc, zero, ◌+◌, ◌<◌, ◌≤◌, Bool, true, false, ◌||◌, List, [], ◌∷◌, ◌++◌, length, map, take, get_or, set, refl, sym, ◌∙◌, ap, subst, arith}
use Rattle.std.specs.declared.cmp.Ordering.TheVariants.{Less}
use Rattle.std.specs.Prelude.{option_map}
use Rattle.std.specs.List.{AllByRecursion}
use Rattle.std.proofs.lemmas.Bool.{cases_Bool}
use Rattle.std.proofs.lemmas.Option.{slice_get_within, get_or_from_slice_get, slice_get-map}
use Rattle.lg_rules.specs.declared.claim.Claim.{Claim}
use Rattle.lg_rules.specs.Meaning.Claim.{name_of}
use Rattle.lg_rules.specs.Meaning.Rows.{name_cmp, is_same, is_among, AreAbove}
use Rattle.lg_rules.proofs.KeyOrder.{names_order, same_key, other_key, same_back, less_apart}
use Rattle.lg_gossip.specs.declared.choice.TakenRow.{TakenRow}
use Rattle.lg_gossip.specs.declared.queued.Queued.{Queued}
use Rattle.lg_gossip.specs.Meaning.Queue.{queued_name, queued_claim, sent_once}
use Rattle.lg_gossip.specs.Support.Places.{IsRowOf, rows_at}
use Rattle.lg_gossip.specs.Support.Sound.{AreInOrder}
use Rattle.lg_gossip.proofs.BySends.{above_at}
use Rattle.lg_gossip.proofs.Each.{holds_at}
use Rattle.lg_gossip.proofs.Places.{claims-more}

-- one more claim counts at its member's row,
counted : (taken : List Claim) (c : Claim) (n : List ℕ) → is_same name_cmp c.name n ≡ true → is_among name_cmp n (map name_of (taken ++ c ∷ [])) ≡ true
counted [] c n s = rw s refl
counted (t ∷ ts) c n s = rw (counted ts c n s) (or-true (is_same name_cmp t.name n))
  where
    or-true : (b : Bool) → (b || true) ≡ true
    or-true true = refl
    or-true false = refl

-- and at no other
uncounted : (taken : List Claim) (c : Claim) (n : List ℕ) → is_same name_cmp c.name n ≡ false → is_among name_cmp n (map name_of (taken ++ c ∷ [])) ≡ is_among name_cmp n (map name_of taken)
uncounted [] c n d = rw d refl
uncounted (t ∷ ts) c n d = ap (λ b. is_same name_cmp t.name n || b) (uncounted ts c n d)

at-other : (taken : List Claim) (c : Claim) (q : Queued) → is_same name_cmp c.name (queued_name q) ≡ false → sent_once (taken ++ c ∷ []) q ≡ sent_once taken q
at-other taken c q d = rw (uncounted taken c (queued_name q) d) refl

at-others : (taken : List Claim) (c : Claim) (rows : List Queued) → AreAbove name_cmp c.name (map queued_name rows) → map (sent_once (taken ++ c ∷ [])) rows ≡ map (sent_once taken) rows
at-others taken c [] a = refl
at-others taken c (q ∷ qs) a = rw (at-other taken c q (other_key names_order c.name (queued_name q) (less_apart names_order c.name (queued_name q) a.0)), at-others taken c qs a.1) refl

-- So a packet that takes one more row is counted at its index.
pub count-more : (taken : List Claim) (index : ℕ) (q : Queued) (rows : List Queued) → index < length rows → q ≡ get_or rows index q → AreInOrder rows
    → set (map (sent_once taken) rows) index record { claim = q.claim; sends = q.sends + 1 } ≡ map (sent_once (taken ++ queued_claim q ∷ [])) rows
count-more taken index q [] l r o = absurd (omega arith)
count-more taken zero q (x ∷ xs) l r o =
    let more : sent_once (taken ++ q.claim ∷ []) q ≡ record { claim = q.claim; sends = q.sends + 1 } = rw (counted taken q.claim (queued_name q) (same_key names_order (queued_name q) (queued_name q) refl)) refl in
    let head : ◌≡◌ {A = Queued} record { claim = q.claim; sends = q.sends + 1 } (sent_once (taken ++ q.claim ∷ []) x) = sym more ∙ ap (sent_once (taken ++ q.claim ∷ [])) r in
    let rest = sym (at-others taken q.claim xs (subst (λ y. AreAbove name_cmp (queued_name y) (map queued_name xs)) (sym r) o.0)) in
    λ i. head i ∷ rest i
count-more taken (suc index) q (x ∷ xs) l r o =
    let less : name_cmp (queued_name x) (queued_name q) ≡ Less = subst (λ y. name_cmp (queued_name x) (queued_name y) ≡ Less) (sym r) (above_at (queued_name x) index q xs (omega arith) o.0) in
    let other : is_same name_cmp q.claim.name (queued_name x) ≡ false = same_back names_order (queued_name q) (queued_name x) ∙ other_key names_order (queued_name x) (queued_name q) (less_apart names_order (queued_name x) (queued_name q) less) in
    let head = sym (at-other taken q.claim x other) in
    let rest = count-more taken index q xs (omega arith) r o.1 in
    λ i. head i ∷ rest i

-- a packet that takes nothing is counted nowhere
pub count-none : (rows : List Queued) → rows ≡ map (sent_once []) rows
count-none [] = refl
count-none (q ∷ qs) = ap (λ rs. q ∷ rs) (count-none qs)

-- a row that is taken was sent no more often than any
pub sent-most : (most : ℕ) (rows : List Queued) (t : TakenRow) → AllByRecursion (λ r. r.sends ≤ most) rows → IsRowOf rows t → t.sends ≤ most
sent-most most rows t few one =
    let there = holds_at (λ r. r.sends ≤ most) t.index one.row rows (slice_get_within rows t.index one.row one.stands) few in
    omega (arith, one.sends, ap (λ r. r.sends) (get_or_from_slice_get rows t.index one.row one.row one.stands), there)

-- what is there now of a row that is taken was sent as often as it says, or once more
pub sent-either : (rows now : List Queued) (taken : List Claim) (q : Queued) (t : TakenRow) → IsRowOf rows t
    → now ≡ map (sent_once taken) rows → q ≡ get_or now t.index q
    → q.sends ≢ t.sends → q.sends ≡ t.sends + 1
sent-either rows now taken q t one is read other =
    let there : q ≡ sent_once taken one.row = read ∙ ap (λ rs. get_or rs t.index q) is
    ∙ get_or_from_slice_get (map (sent_once taken) rows) t.index (sent_once taken one.row) q
    (slice_get-map (sent_once taken) rows t.index ∙ ap (option_map (sent_once taken)) one.stands) in
    let sends = ap (λ r. r.sends) there in
    elim (cases_Bool (is_among name_cmp (queued_name one.row) (map name_of taken))) [
      | inl a ↦ (let more = rw a at sends in omega (arith, more, one.sends))
      | inr n ↦ (let same = rw n at sends in absurd (other (same ∙ sym one.sends)))
    ]

pub count-next : (rows now : List Queued) (k : ℕ) (d : TakenRow) (e : Queued) (ts : List TakenRow) → k < length ts → AllByRecursion (IsRowOf rows) ts → AreInOrder rows
    → now ≡ map (sent_once (map queued_claim (rows_at rows (take k ts)))) rows
    → e ≡ get_or now (get_or ts k d).index e
    → set now (get_or ts k d).index record { claim = e.claim; sends = (get_or ts k d).sends + 1 }
    ≡ map (sent_once (map queued_claim (rows_at rows (take (k + 1) ts)))) rows
count-next rows now k d e ts l a o is held =
    let t = get_or ts k d in
    let one = holds_at (IsRowOf rows) k d ts l a in
    let taken = map queued_claim (rows_at rows (take k ts)) in
    let within = slice_get_within rows t.index one.row one.stands in
    let there : e ≡ sent_once taken one.row = held ∙ ap (λ rs. get_or rs t.index e) is
    ∙ get_or_from_slice_get (map (sent_once taken) rows) t.index (sent_once taken one.row) e (slice_get-map (sent_once taken) rows t.index ∙ ap (option_map (sent_once taken)) one.stands) in
    let row : ◌≡◌ {A = Queued} record { claim = e.claim; sends = t.sends + 1 } record { claim = one.row.claim; sends = one.row.sends + 1 } =
    λ i. record { claim = (there i).claim; sends = one.sends i + 1 } in
    let read : one.row ≡ get_or rows t.index one.row = sym (get_or_from_slice_get rows t.index one.row one.row one.stands) in
    let more : taken ++ queued_claim one.row ∷ [] ≡ map queued_claim (rows_at rows (take (k + 1) ts)) =
    ap (λ r. taken ++ queued_claim r ∷ []) read ∙ claims-more rows [] taken k d one.row ts l a refl in
    ap (λ r. set now t.index r) row
    ∙ ap (λ rs. set rs t.index record { claim = one.row.claim; sends = one.row.sends + 1 }) is
    ∙ count-more taken t.index one.row rows within read o
    ∙ ap (λ cs. map (sent_once cs) rows) more
