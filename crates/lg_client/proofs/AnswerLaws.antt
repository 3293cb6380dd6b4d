-- Which bytes are an answer, by what is read of their head.
use Rattle.std.proofs.Common.{◌≡◌, ℕ, ◌+◌, ◌<◌, ◌≤◌, Bool, true, false, List, [], ◌∷◌, ◌++◌, length, drop, map, take, Some, refl, sym, ap, subst, ◌∙◌, arith, append-nil, length-append, length-take}
use Rattle.std.specs.Prelude.{nat_lt, if◌then◌else◌}
use Rattle.std.proofs.lemmas.Bool.Decides.{nat_tests}
use Rattle.std.proofs.lemmas.List.{length-map}
use Rattle.std.proofs.lemmas.Option.{same_Some}
use Rattle.httparse.specs.declared.spans.HeaderSpan.{HeaderSpan}
use Rattle.httparse.specs.declared.spans.ResponseSpans.{ResponseSpans}
use Rattle.httparse.specs.Grammar.{HasNoResponse, ReadsResponse, ResponseHead}
use Rattle.httparse.specs.Spans.{IsResponseAt, IsResponseOf, ResponseOverflows, header_bytes, name_and_value}
use Rattle.httparse.proofs.GrammarLemmas.{print_response-append, response_prefix_free}
use Rattle.lg_client.specs.declared.heard.Heard.{Heard}
use Rattle.lg_client.specs.declared.heard.Heard.TheVariants.{Cut, Other, Whole}
use Rattle.lg_client.specs.declared.heard.Said.{Said}
use Rattle.lg_client.specs.declared.heard.Said.TheVariants.{Length, Nothing, Unclear}
use Rattle.lg_client.specs.Meaning.Answers.{Hears, IsCutShort, IsHttpAnswer, IsOther, body_end, end_by, end_said, most_answer, most_fields}
use Rattle.lg_client.specs.Support.Receiving.{heard_by, heard_until}

-- ---- no whole head

pub cut_unread : (bytes : List ℕ) → HasNoResponse bytes → length bytes < most_answer → IsCutShort bytes
cut_unread bytes none room = record { none_yet = λ code body it. none it.head body it.reads; room = room }

pub other_unread : (bytes : List ℕ) → HasNoResponse bytes → most_answer ≤ length bytes → IsOther bytes
other_unread bytes none full [] code body it =
    none it.head body (subst (λ (b : List ℕ). ReadsResponse b it.head body) (append-nil bytes) it.reads)
other_unread bytes none full (b ∷ more) code body it = absurd (omega (arith, it.few, full, length-append bytes (b ∷ more)))

pub other_refused : (bytes : List ℕ) → ResponseOverflows most_fields bytes → IsOther bytes
other_refused bytes over more code body it =
    let many = over more it.head body it.reads in
    let few = it.few_fields in
    absurd (omega (arith, many, few))

-- all three, for the code
pub ruleset headless_bytes = (cut_unread, other_unread, other_refused)

-- nothing has no head
nothing-read : HasNoResponse []
nothing-read h rest reads =
    let e = ap length (reads.1 ∙ print_response-append h rest) in
    absurd (omega (arith, simp length-append at e))

pub nothing_cut : IsCutShort []
nothing_cut = cut_unread [] nothing-read (omega arith)

-- ---- a whole head

-- the end of each answer that the bytes begin is the one that their head says
ends-as : (bytes more : List ℕ) (headers : List HeaderSpan) (r : ResponseSpans) (h : ResponseHead) (code : ℕ) (body : List ℕ) → IsResponseAt bytes headers r h
    → IsHttpAnswer (bytes ++ more) code body → end_by r.len (end_said (map (header_bytes bytes) (take r.headers headers))) ≡ Some (length (bytes ++ more))
ends-as bytes more headers r h code body at it =
    let same = response_prefix_free bytes more h it.head (drop r.len bytes) body at.reads it.reads in
    ap (λ (fields : List (List ℕ × List ℕ)). end_by r.len (end_said fields)) at.fields
    ∙ ap (λ (n : ℕ). end_by n (end_said (map name_and_value h.fields))) at.len
    ∙ ap body_end same.0 ∙ it.ends

-- the bytes are an answer if their head's body ends where they do
whole-as : (bytes : List ℕ) (headers : List HeaderSpan) (r : ResponseSpans) (h : ResponseHead) → IsResponseAt bytes headers r h → length headers ≤ most_fields
    → end_by r.len (end_said (map (header_bytes bytes) (take r.headers headers))) ≡ Some (length bytes) → length bytes ≤ most_answer
    → IsHttpAnswer bytes r.code (drop r.len bytes)
whole-as bytes headers r h at room ends few = record {
  head = h;
  reads = at.reads;
  few_fields =
      omega (arith, room, ap length at.fields, length-map (take r.headers headers) (header_bytes bytes), length-map h.fields name_and_value, length-take r.headers headers);
  is = at.code;
  ends =
      sym (ap (λ (fields : List (List ℕ × List ℕ)). end_by r.len (end_said fields)) at.fields
      ∙ ap (λ (n : ℕ). end_by n (end_said (map name_and_value h.fields))) at.len) ∙ ends;
  few = few;
}

-- what bytes are whose answers all end there
until : (bytes : List ℕ) (code start e : ℕ) → start ≤ length bytes
    → ((more : List ℕ) (c : ℕ) (body : List ℕ) → IsHttpAnswer (bytes ++ more) c body → e ≡ length (bytes ++ more))
    → (e ≡ length bytes → length bytes ≤ most_answer → IsHttpAnswer bytes code (drop start bytes))
    → Hears bytes (heard_until (length bytes) code start e)
until bytes code start e within ends whole =
    by (nat_lt most_answer e) refl (nat_lt e (length bytes)) refl (nat_lt (length bytes) e) refl
  where
    by : (a : Bool) → nat_lt most_answer e ≡ a → (b : Bool) → nat_lt e (length bytes) ≡ b → (c : Bool) → nat_lt (length bytes) e ≡ c
        → Hears bytes (if a then Other else if b then Other else if c then Cut else Whole code start)
    by true p b q c r =
        let far : most_answer < e = grind (arith, nat_tests, p) in
        λ more k body it. absurd (omega (arith, far, it.few, ends more k body it))
    by false p true q c r =
        let short : e < length bytes = grind (arith, nat_tests, q) in
        λ more k body it. absurd (omega (arith, short, ends more k body it, length-append bytes more))
    by false p false q true r =
        let near : e ≤ most_answer = grind (arith, nat_tests, p) in
        let long : length bytes < e = grind (arith, nat_tests, r) in record {
          none_yet =
              λ k body it. let here = subst (λ (b : List ℕ). IsHttpAnswer b k body) (sym (append-nil bytes)) it in
              absurd (omega (arith, long, ends [] k body here, length-append bytes []));
          room = omega (arith, near, long);
        }
    by false p false q false r =
        let near : e ≤ most_answer = grind (arith, nat_tests, p) in
        let least : length bytes ≤ e = grind (arith, nat_tests, q) in
        let most : e ≤ length bytes = grind (arith, nat_tests, r) in
        (within, whole (omega (arith, least, most)) (omega (arith, near, least)))

hears-said : (bytes : List ℕ) (headers : List HeaderSpan) (r : ResponseSpans) (h : ResponseHead) (said : Said) → IsResponseAt bytes headers r h
    → length headers ≤ most_fields → r.len ≤ length bytes → end_said (map (header_bytes bytes) (take r.headers headers)) ≡ said
    → Hears bytes (heard_by (length bytes) r.code r.len said)
hears-said bytes headers r h Nothing at room within is =
    λ more code body it. let e = rw is at (ends-as bytes more headers r h code body at it) in
    absurd cc
hears-said bytes headers r h Unclear at room within is =
    λ more code body it. let e = rw is at (ends-as bytes more headers r h code body at it) in
    absurd cc
hears-said bytes headers r h (Length n) at room within is =
    until bytes r.code r.len (r.len + n) within
    (λ more code body it. same_Some (r.len + n) (length (bytes ++ more)) (rw is at (ends-as bytes more headers r h code body at it)))
    (λ e few. whole-as bytes headers r h at room (rw is (ap Some e)) few)

pub judged : (bytes : List ℕ) (headers some : List HeaderSpan) (r : ResponseSpans) (said : Said) (heard : Heard) → IsResponseOf bytes headers r
    → length headers ≤ most_fields → r.len ≤ length bytes → some ≡ take r.headers headers → said ≡ end_said (map (header_bytes bytes) some)
    → heard ≡ heard_by (length bytes) r.code r.len said → Hears bytes heard
judged bytes headers some r said heard of room within taken is same =
    subst (Hears bytes) (sym same)
    (hears-said bytes headers r of.0 said of.1 room within
    (sym (is ∙ ap (λ (fields : List HeaderSpan). end_said (map (header_bytes bytes) fields)) taken)))
