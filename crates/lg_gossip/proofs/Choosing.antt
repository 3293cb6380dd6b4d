-- The rows that a packet takes are chosen one row after another.
use Rattle.std.proofs.Common.{
  ◌≡◌,
  ℕ,
  suc,
  ◌+◌,
  ◌<◌,
  ◌≤◌,
  true,
  false,
  List,
  [],
  ◌∷◌,
  length,
  take,
  get_or,
  Option,
  Some,
  ◌⊎◌,
  inl,
  inr,
  refl,
  sym,
  ◌∙◌,
  ap,
  subst,
  arith,
}
use Rattle.std.specs.Prelude.{insert, filter, nat_le, nat_lt, slice_get, if◌then◌else◌}
use Rattle.std.specs.List.{prefix_len, AllByRecursion}
use Rattle.std.proofs.lemmas.Bool.{cases_Bool, cases_lt, lt-ltb, le-ltb, le-leb, lt-leb, ltb-true, false≢true}
use Rattle.std.proofs.lemmas.List.{length-take, take_all}
use Rattle.std.proofs.lemmas.List.Edits.{length-insert}
use Rattle.std.proofs.lemmas.Option.{slice_get_read}
use Rattle.lg_rules.specs.declared.claim.Claim.{Claim}
use Rattle.lg_rules.specs.declared.version.Version.{Version}
use Rattle.lg_rules.proofs.Tests.{both}
use Rattle.lg_gossip.specs.declared.choice.TakenRow.{TakenRow}
use Rattle.lg_gossip.specs.declared.queued.Queued.{Queued}
use Rattle.lg_gossip.specs.Meaning.Queue.{by_sends, is_beside, may_go, room_beside, rows_taken}
use Rattle.lg_gossip.specs.Support.Places.{IsRowOf, HasTaken, rows_at}
use Rattle.lg_gossip.specs.Support.Sound.{AreInOrder, AreSent}
use Rattle.lg_gossip.proofs.BySends.{goes_in, stays_out}
use Rattle.lg_gossip.proofs.Each.{all-insert, all-take}
use Rattle.lg_gossip.proofs.Places.{length-at, prefix-at, take-at, insert-at}

-- a packet's rows are so many, and none was sent more often than this
pub record IsFull (room bound : ℕ) (first : List TakenRow) : Type 0 where
  pub whole : room ≤ length first
  pub each : AllByRecursion (λ t. t.sends ≤ bound) first

-- what a packet takes of the first k rows; a row that was sent as often as the bound, or more often, isn't among them
pub record IsChosen (buddy : Option Claim) (limit room : ℕ) (rows : List Queued) (k bound : ℕ) (first : List TakenRow) : Type 0 where
  pub places : AllByRecursion (IsRowOf rows) first
  pub chosen : rows_at rows first ≡ take room (by_sends (filter (may_go buddy limit) (take k rows)))
  pub few : length first ≤ room
  pub most : bound ≤ limit
  pub full : bound < limit → IsFull room bound first

module _ (sends : ℕ) where
  prefix-most : (ts : List TakenRow) → prefix_len (λ t. nat_le t.sends sends) ts ≤ length ts
  prefix-most [] = omega arith
  prefix-most (t ∷ ts) = elim (cases_lt sends t.sends) [
    | inl l ↦ rw (lt-leb t.sends sends l) (omega arith)
    | inr g ↦ rw (le-leb t.sends sends g) (omega (arith, prefix-most ts))
  ]

  -- where that many are all, each was sent no more often than so
  each-prefix : (ts : List TakenRow) → length ts ≤ prefix_len (λ t. nat_le t.sends sends) ts → AllByRecursion (λ t. t.sends ≤ sends) ts
  each-prefix [] l = tt
  each-prefix (t ∷ ts) l = elim (cases_lt sends t.sends) [
    | inl b ↦ (let more : suc (length ts) ≤ 0 = rw (lt-leb t.sends sends b) at l in absurd (omega (arith, more)))
    | inr g ↦ (let more : suc (length ts) ≤ 1 + prefix_len (λ t. nat_le t.sends sends) ts = rw (le-leb t.sends sends g) at l in (g, each-prefix ts (omega (arith, more))))
  ]

  prefix-each : (bound : ℕ) (ts : List TakenRow) → bound ≤ sends → AllByRecursion (λ t. t.sends ≤ bound) ts → prefix_len (λ t. nat_le t.sends sends) ts ≡ length ts
  prefix-each bound [] b a = refl
  prefix-each bound (t ∷ ts) b a = rw (le-leb t.sends sends (omega (arith, a.0)), prefix-each bound ts b a.1) (omega arith)

all-weaker : (low high : ℕ) (ts : List TakenRow) → low ≤ high → AllByRecursion (λ t. t.sends ≤ low) ts → AllByRecursion (λ t. t.sends ≤ high) ts
all-weaker low high [] l a = tt
all-weaker low high (t ∷ ts) l a = (omega (arith, a.0), all-weaker low high ts l a.1)

-- one more behind all of them isn't among the first so many
insert_behind : (q : Queued) (rows : List Queued) → take (length rows) (insert rows (length rows) q) ≡ rows
insert_behind q [] = refl
insert_behind q (r ∷ rs) = ap (λ ys. r ∷ ys) (insert_behind q rs)

module _ (buddy : Option Claim) (limit room k : ℕ) (q : Queued) (rows : List Queued) (l : k < length rows) (read : q ≡ get_or rows k q) (o : AreInOrder rows) where
  abbrev here : (t : TakenRow) → t.index ≡ k → t.sends ≡ q.sends → IsRowOf rows t
  here t p s = record { row = q; stands = subst (λ n. slice_get rows n ≡ Some q) (sym p) (slice_get_read rows (length rows) k q refl l read); sends = s }

  still_full : (t : TakenRow) (bound : ℕ) (first : List TakenRow) → t.sends ≤ bound → IsFull room bound first
      → IsFull room bound (take room (insert first (prefix_len (λ r. nat_le r.sends t.sends) first) t))
  still_full t bound first b f =
      let index = prefix_len (λ r. nat_le r.sends t.sends) first in
      record {
        whole = omega (arith, f.whole, length-take room (insert first index t), length-insert first index t (prefix-most t.sends first));
        each = all-take (λ x. x.sends ≤ bound) room (insert first index t) (all-insert (λ x. x.sends ≤ bound) index t first b f.each);
      }

  now_full : (t : TakenRow) (first : List TakenRow) → room ≤ prefix_len (λ r. nat_le r.sends t.sends) first → length first ≤ room
      → IsFull room t.sends (take room (insert first (prefix_len (λ r. nat_le r.sends t.sends) first) t))
  now_full t first b few =
      let index = prefix_len (λ r. nat_le r.sends t.sends) first in
      record {
        whole = omega (arith, b, prefix-most t.sends first, length-take room (insert first index t), length-insert first index t (prefix-most t.sends first));
        each = all-take (λ x. x.sends ≤ t.sends) room (insert first index t)
            (all-insert (λ x. x.sends ≤ t.sends) index t first (omega arith) (each-prefix t.sends first (omega (arith, few, b))));
      }

  pub chooses : (t : TakenRow) (bound : ℕ) (first : List TakenRow) → t.index ≡ k → t.sends ≡ q.sends → q.sends < bound → is_beside buddy q ≡ true → 0 < room
      → IsChosen buddy limit room rows k bound first
      → let index = prefix_len (λ r. nat_le r.sends t.sends) first in
      IsChosen buddy limit room rows (k + 1) (if nat_lt index room then bound else t.sends) (take room (insert first index t))
  chooses t bound first p s below beside some h =
      let index = prefix_len (λ r. nat_le r.sends t.sends) first in
      let one = here t p s in
      let all = all-insert (IsRowOf rows) index t first one h.places in
      let within : q.sends < limit = omega (arith, below, h.most) in
      let may : may_go buddy limit q ≡ true = rw (lt-ltb q.sends limit within, beside) refl in
      let same_index : index ≡ prefix_len (λ r. nat_le r.sends q.sends) (rows_at rows first) = ap (λ n. prefix_len (λ r. nat_le r.sends n) first) s ∙ sym (prefix-at rows q.sends first h.places) in
      record {
        places = all-take (IsRowOf rows) room (insert first index t) all;
        chosen = take-at rows room (insert first index t) all
            ∙ ap (take room) (insert-at rows index t first one h.places ∙ ap (λ n. insert (rows_at rows first) n q) same_index)
            ∙ goes_in (may_go buddy limit) room k q rows l read o (rows_at rows first) may h.chosen;
        few = omega (arith, length-take room (insert first index t));
        most = elim (cases_lt index room) [
          | inl a ↦ rw (lt-ltb index room a) h.most
          | inr b ↦ rw (le-ltb index room b) (omega (arith, s, within))
        ];
        full = elim (cases_lt index room) [
          | inl a ↦ rw (lt-ltb index room a) (λ low. still_full t bound first (omega (arith, s, below)) (h.full low))
          | inr b ↦ rw (le-ltb index room b) (λ low. now_full t first b h.few)
        ];
      }

  pub passes : (bound : ℕ) (first : List TakenRow) → (bound ≤ q.sends) ⊎ (is_beside buddy q ≡ false) → IsChosen buddy limit room rows k bound first
      → IsChosen buddy limit room rows (k + 1) bound first
  passes bound first why h =
      record { places = h.places; chosen = elim (cases_Bool (may_go buddy limit q)) [ inl t ↦ unchanged t why | inr f ↦ h.chosen ∙ stays_out (may_go buddy limit) room k q rows l read o f ]; few = h.few; most = h.most; full = h.full }
    where
      unchanged : may_go buddy limit q ≡ true → (bound ≤ q.sends) ⊎ (is_beside buddy q ≡ false) → rows_at rows first ≡ take room (by_sends (filter (may_go buddy limit) (take (k + 1) rows)))
      unchanged t (inr n) = absurd (false≢true (sym n ∙ (both (nat_lt q.sends limit) (is_beside buddy q) t).1))
      unchanged t (inl b) =
          let within : q.sends < limit = ltb-true q.sends limit (both (nat_lt q.sends limit) (is_beside buddy q) t).0 in
          let f = h.full (omega (arith, b, within)) in
          let behind : prefix_len (λ r. nat_le r.sends q.sends) (rows_at rows first) ≡ length (rows_at rows first) =
          prefix-at rows q.sends first h.places ∙ prefix-each q.sends bound first b f.each ∙ sym (length-at rows first h.places) in
          let whole : room ≡ length (rows_at rows first) = omega (arith, f.whole, h.few, length-at rows first h.places) in
          sym (ap (λ n. take room (insert (rows_at rows first) n q)) behind ∙ ap (λ n. take n (insert (rows_at rows first) (length (rows_at rows first)) q)) whole ∙ insert_behind q (rows_at rows first))
          ∙ goes_in (may_go buddy limit) room k q rows l read o (rows_at rows first) t h.chosen

-- If each row was sent as often as the limit, or more often, none is taken.
none_may : (buddy : Option Claim) (limit : ℕ) (rows : List Queued) → AreSent limit rows → filter (may_go buddy limit) rows ≡ []
none_may buddy limit [] least = refl
none_may buddy limit (q ∷ qs) least = rw (le-ltb q.sends limit least.0) (none_may buddy limit qs least.1)

pub takes_none : (v : Version) (buddy : Option Claim) (limit : ℕ) (rows : List Queued) → AreSent limit rows
    → rows_taken v buddy limit rows ≡ []
takes_none v buddy limit rows least =
    ap (λ rs. take (room_beside v buddy) (by_sends rs)) (none_may buddy limit rows least)
    ∙ take_all (room_beside v buddy) [] (omega arith)

pub taken_none : (v : Version) (buddy : Option Claim) (limit : ℕ) (rows : List Queued) (none : List TakenRow)
    → none ≡ []
    → AreSent limit rows
    → HasTaken v buddy limit rows none
taken_none v buddy limit rows none e least = subst (HasTaken v buddy limit rows) (sym e)
    (record { places = tt; chosen = sym (takes_none v buddy limit rows least) })
