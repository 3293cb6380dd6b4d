-- The claims of a packet are about different members.
use Rattle.std.proofs.Common.{◌≡◌, ℕ, suc, zero, true, false, not, nat_lt, List, [], ◌∷◌, ◌++◌, map, take, Option, Some, None, inl, inr, sym, ◌∙◌, ap}
use Rattle.std.specs.Prelude.{⊤}
use Rattle.std.specs.Option.{option_to_list}
use Rattle.std.specs.List.{AllByRecursion, IsDistinct}
use Rattle.std.proofs.lemmas.Bool.{cases_Bool, false≢true}
use Rattle.lg_rules.specs.declared.claim.Claim.{Claim}
use Rattle.lg_rules.specs.declared.version.Version.{Version}
use Rattle.lg_rules.specs.Meaning.Claim.{name_of}
use Rattle.lg_rules.specs.Meaning.Rows.{name_cmp, is_same, AreAbove}
use Rattle.lg_rules.proofs.KeyOrder.{names_order, other_key, same_back, less_apart}
use Rattle.lg_rules.proofs.Tests.{both}
use Rattle.lg_gossip.specs.declared.queued.Queued.{Queued}
use Rattle.lg_gossip.specs.Meaning.Queue.{queued_name, queued_claim, is_sooner, put_by_sends, by_sends, is_beside, may_go, room_beside, rows_taken}
use Rattle.lg_gossip.specs.Support.Sound.{AreInOrder}
use Rattle.lg_gossip.proofs.Each.{all-put_by_sends, all-by_sends, all-take}
use Rattle.lg_gossip.proofs.Taken.{IsTaken, are_taken, in_order-filter}

-- each row is about another member than one
abbrev AreOthers : List ℕ → List Queued → Type 0
AreOthers n rows = AllByRecursion (λ q. is_same name_cmp n (queued_name q) ≡ false) rows

-- no two rows are about one member
abbrev AreApart : List Queued → Type 0
AreApart [] = ⊤
AreApart (q ∷ qs) = AreOthers (queued_name q) qs × AreApart qs

apart-in_order : (rows : List Queued) → AreInOrder rows → AreApart rows
apart-in_order [] o = tt
apart-in_order (q ∷ qs) o = (others qs o.0, apart-in_order qs o.1)
  where
    others : (rs : List Queued) → AreAbove name_cmp (queued_name q) (map queued_name rs) → AreOthers (queued_name q) rs
    others [] a = tt
    others (r ∷ rs) a = (other_key names_order (queued_name q) (queued_name r) (less_apart names_order (queued_name q) (queued_name r) a.0), others rs a.1)

apart-put_by_sends : (q : Queued) (rows : List Queued) → AreOthers (queued_name q) rows → AreApart rows → AreApart (put_by_sends q rows)
apart-put_by_sends q [] o a = (tt, tt)
apart-put_by_sends q (r ∷ rs) o a = elim (cases_Bool (is_sooner q r)) [
  | inl t ↦ rw t (o, a)
  | inr f ↦ rw f (all-put_by_sends (λ x. is_same name_cmp (queued_name r) (queued_name x) ≡ false) q rs (same_back names_order (queued_name r) (queued_name q) ∙ o.0) a.0, apart-put_by_sends q rs o.1 a.1)
]

apart-by_sends : (rows : List Queued) → AreApart rows → AreApart (by_sends rows)
apart-by_sends [] a = tt
apart-by_sends (q ∷ qs) a = apart-put_by_sends q (by_sends qs) (all-by_sends (λ x. is_same name_cmp (queued_name q) (queued_name x) ≡ false) qs a.0) (apart-by_sends qs a.1)

apart-take : (k : ℕ) (rows : List Queued) → AreApart rows → AreApart (take k rows)
apart-take zero rows a = tt
apart-take (suc k) [] a = tt
apart-take (suc k) (q ∷ qs) a = (all-take _ k qs a.0, apart-take k qs a.1)

-- in the words of std
distinct : (rows : List Queued) → AreApart rows → IsDistinct (is_same name_cmp) (map name_of (map queued_claim rows))
unfolding IsDistinct
distinct [] a = tt
distinct (q ∷ qs) a = (others qs a.0, distinct qs a.1)
  where
    others : (rs : List Queued) → AreOthers (queued_name q) rs → AllByRecursion (λ n. is_same name_cmp (queued_name q) n ≡ false) (map name_of (map queued_claim rs))
    others [] o = tt
    others (r ∷ rs) o = (o.0, others rs o.1)

pub distinct-taken : (v : Version) (buddy : Option Claim) (limit : ℕ) (rows : List Queued) → AreInOrder rows
    → IsDistinct (is_same name_cmp) (map name_of (map queued_claim (rows_taken v buddy limit rows)))
distinct-taken v buddy limit rows o =
    distinct (rows_taken v buddy limit rows)
    (apart-take (room_beside v buddy) _
    (apart-by_sends _ (apart-in_order _ (in_order-filter (may_go buddy limit) rows o))))

-- and none is about the buddy's
beside : (buddy : Claim) (limit : ℕ) (q : Queued) → may_go (Some buddy) limit q ≡ true → is_same name_cmp buddy.name (queued_name q) ≡ false
beside buddy limit q e = same_back names_order buddy.name (queued_name q) ∙ elim (cases_Bool (is_same name_cmp (queued_name q) buddy.name)) [
  | inl t ↦ absurd (false≢true (sym (ap not t) ∙ (both (nat_lt q.sends limit) (is_beside (Some buddy) q) e).1))
  | inr f ↦ f
]

none_of : (buddy : Claim) (limit : ℕ) (rows taken : List Queued) → AllByRecursion (IsTaken (Some buddy) limit rows) taken
    → AllByRecursion (λ n. is_same name_cmp buddy.name n ≡ false) (map name_of (map queued_claim taken))
none_of buddy limit rows [] a = tt
none_of buddy limit rows (q ∷ qs) a = (beside buddy limit q a.0.may, none_of buddy limit rows qs a.1)

pub distinct-packet : (v : Version) (buddy : Option Claim) (limit : ℕ) (rows : List Queued) → AreInOrder rows
    → IsDistinct (is_same name_cmp)
    (map name_of (option_to_list buddy ++ map queued_claim (rows_taken v buddy limit rows)))
unfolding IsDistinct
distinct-packet v None limit rows o = distinct-taken v None limit rows o
distinct-packet v (Some buddy) limit rows o = (
  none_of buddy limit rows (rows_taken v (Some buddy) limit rows) (are_taken v (Some buddy) limit rows o),
  distinct-taken v (Some buddy) limit rows o,
)
