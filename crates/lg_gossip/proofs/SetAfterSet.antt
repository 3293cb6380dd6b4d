-- What a packet takes, by one set of rows after another.
use Rattle.std.proofs.Common.{
  ◌≡◌,
  ℕ,
  suc,
  zero,
  ◌+◌,
  Bool,
  List,
  [],
  ◌∷◌,
  ◌++◌,
  length,
  take,
  Option,
  refl,
  sym,
  ◌∙◌,
  ap,
  subst,
  arith,
  ◌<◌,
  get_or,
  set,
  not,
  false,
}
use Rattle.std.specs.List.{AllByRecursion}
use Rattle.std.specs.Prelude.{nat_eq}
use Rattle.std.proofs.lemmas.List.{take_all, take-append-le}
use Rattle.std.proofs.lemmas.List.Elements.{filter_map-append}
use Rattle.lg_bit_set.specs.Meaning.Flags.{flags_by}
use Rattle.lg_rules.specs.declared.claim.Claim.{Claim}
use Rattle.lg_rules.specs.declared.version.Version.{Version}
use Rattle.lg_gossip.specs.declared.choice.TakenRow.{TakenRow}
use Rattle.lg_gossip.specs.declared.queued.Queued.{Queued}
use Rattle.lg_gossip.specs.Meaning.Queue.{is_beside, room_beside, rows_taken}
use Rattle.lg_gossip.specs.Support.Places.{IsRowOf, HasTaken, rows_at}
use Rattle.lg_gossip.specs.declared.sets.TheConstants.{SETS}
use Rattle.lg_gossip.specs.Support.Sets.{AreSets, places_of}
use Rattle.lg_gossip.specs.Support.Sound.{AreInOrder}
use Rattle.lg_gossip.proofs.BySets.{may_at, at_sends, fewer, exactly, one_more_set}
use Rattle.lg_gossip.proofs.Each.{all-append, all-take}
use Rattle.lg_gossip.proofs.OfSet.{places_of-flags_by, rows_at-flags_by, set_beside}
use Rattle.lg_gossip.proofs.Places.{length-at, take-at}

-- the first so many of the first so many with more behind them
take-again : (k : ℕ) (xs ys : List Queued) → take k (take k xs ++ ys) ≡ take k (xs ++ ys)
take-again zero xs ys = refl
take-again (suc k) [] ys = refl
take-again (suc k) (x ∷ xs) ys = ap (λ zs. x ∷ zs) (take-again k xs ys)

module _ (v : Version) (buddy : Option Claim) (rows : List Queued) (o : AreInOrder rows) where
  next_rows : (sends : ℕ)
      → take (room_beside v buddy) (rows_taken v buddy sends rows ++ exactly buddy sends rows) ≡ rows_taken v buddy
      (suc sends) rows
  next_rows sends =
      take-again (room_beside v buddy) (fewer buddy sends rows) (exactly buddy sends rows)
      ∙ ap (take (room_beside v buddy)) (sym (one_more_set buddy sends rows o))

  -- the rows of the next set are taken, as far as there is room
  pub takes_set : (sends room : ℕ) (taken now : List TakenRow) (set : List Bool) → room ≡ room_beside v buddy
      → HasTaken v buddy sends rows taken
      → set ≡ flags_by (may_at buddy sends) rows → now ≡ take room (taken ++ places_of sends set)
      → HasTaken v buddy (sends + 1) rows now
  takes_set sends room taken now set r h e is =
      let found = places_of sends (flags_by (may_at buddy sends) rows) in
      let found_are = places_of-flags_by sends (may_at buddy sends) (at_sends buddy sends) rows in
      let found_rows = rows_at-flags_by sends (may_at buddy sends) (at_sends buddy sends) rows in
      let all = all-append (IsRowOf rows) taken found h.places found_are in
      let next : suc sends ≡ sends + 1 = omega arith in
      let same : now ≡ take (room_beside v buddy) (taken ++ found) =
      is ∙ ap (λ n. take n (taken ++ places_of sends set)) r
      ∙ ap (λ s. take (room_beside v buddy) (taken ++ places_of sends s)) e in
      let shown : rows_at rows (taken ++ found) ≡ rows_taken v buddy sends rows ++ exactly buddy sends rows =
      filter_map-append _ taken found
      ∙ ap (λ qs. qs ++ rows_at rows found) h.chosen ∙ ap (λ qs. rows_taken v buddy sends rows ++ qs) found_rows in
      record {
        places = subst (AllByRecursion (IsRowOf rows)) (sym same)
            (all-take (IsRowOf rows) (room_beside v buddy) (taken ++ found) all);
        chosen = ap (rows_at rows) same
            ∙ take-at rows (room_beside v buddy) (taken ++ found) all
            ∙ ap (take (room_beside v buddy)) shown
            ∙ next_rows sends
            ∙ ap (λ n. rows_taken v buddy n rows) next;
      }

  -- the same, if the set of all rows that were sent so often is read, and the index of the buddy's row is left out
  pub takes_beside : (sends room passed_over : ℕ) (taken now : List TakenRow) (sent : List (List Bool))
      (d left : List Bool)
      → room ≡ room_beside v buddy → sends < SETS → AreSets sent rows
      → ((k : ℕ) (q : Queued) → k < length rows → is_beside buddy (get_or rows k q) ≡ not (nat_eq k passed_over))
      → HasTaken v buddy sends rows taken
      → left ≡ set (get_or sent sends d) passed_over false
      → now ≡ take room (taken ++ places_of sends left) → HasTaken v buddy (sends + 1) rows now
  takes_beside sends room passed_over taken now sent d left r within sets beside h rest is =
      let flags = ap (λ s. set s passed_over false) (sets.each sends d within) in
      takes_set sends room taken now left r h (rest ∙ flags ∙ set_beside buddy sends passed_over rows beside) is

  -- where there is no room for more, none of the further sets has a row that is taken
  pub takes_no_more : (more sends : ℕ) (taken : List TakenRow) → length taken ≡ room_beside v buddy
      → HasTaken v buddy sends rows taken
      → HasTaken v buddy (more + sends) rows taken
  takes_no_more zero sends taken full h = subst (λ n. HasTaken v buddy n rows taken) (omega arith) h
  takes_no_more (suc more) sends taken full h =
      let whole : length (rows_taken v buddy sends rows) ≡ room_beside v buddy = ap length (sym h.chosen)
      ∙ length-at rows taken h.places ∙ full in
      let next : more + suc sends ≡ suc more + sends = omega arith in
      subst (λ n. HasTaken v buddy n rows taken) next
      (takes_no_more more (suc sends) taken full (record {
        places = h.places;
        chosen = h.chosen
            ∙ sym (take-append-le (room_beside v buddy) (rows_taken v buddy sends rows) (exactly buddy sends rows)
            (omega (arith, whole)) ∙ all_of (rows_taken v buddy sends rows) whole)
            ∙ next_rows sends;
      }))
    where
      all_of : (qs : List Queued) → length qs ≡ room_beside v buddy → take (room_beside v buddy) qs ≡ qs
      all_of qs l = take_all (room_beside v buddy) qs (omega (arith, l))
