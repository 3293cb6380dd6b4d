-- What each step does to the row and the flags that an order keeps.
use Rattle.std.proofs.Common.{
  ◌≡◌,
  ◌≢◌,
  ℕ,
  ◌%◌,
  ◌<◌,
  ◌≤◌,
  Bool,
  true,
  false,
  not,
  cond,
  ◌&&◌,
  List,
  [],
  ◌∷◌,
  ◌++◌,
  length,
  get_or,
  set,
  Some,
  None,
  refl,
  sym,
  ap,
  ◌∙◌,
  subst,
  inl,
  inr,
  arith,
}
use Rattle.std.specs.Prelude.{filter, insert, remove, slice_get}
use Rattle.std.proofs.lemmas.Bool.{cases_Bool, false≢true}
use Rattle.std.proofs.lemmas.Option.{same_Some}
use Rattle.std.proofs.lemmas.List.Edits.{get_or-insert_at, length-insert}
use Rattle.lg_bit_set.specs.Meaning.Flags.{
  no_flags,
  flags_below,
  flags_by,
  flags_without,
  count_set,
  entries_in,
  nth_number,
  opened_flags,
  closed_flags,
}
use Rattle.lg_bit_set.proofs.TestLaws.{flags_without-flags_by}
use Rattle.lg_bit_set.proofs.FilterLaws.{IsEntryAt, IsEntryAt-from, no_entry_at, length-filter-flags_by}
use Rattle.lg_rules.specs.Meaning.Rows.{name_cmp, is_same, is_among, put_key, Rises}
use Rattle.lg_rules.specs.Support.Places.{HasRow, LacksRow}
use Rattle.lg_rules.proofs.KeyOrder.{names_order, key_is, same_key}
use Rattle.lg_rules.proofs.Rises.{
  rises-put,
  rises-filter,
  rises-in_order,
  among-put,
  among-filter,
  among-in_order,
  same_members,
  length-put,
}
use Rattle.lg_rules.proofs.RowsFound.{filter-none}
use Rattle.lg_rules.proofs.Tests.{both}
use Rattle.lg_probe.specs.Meaning.Order.{
  OrderValue,
  Joined,
  Left,
  Forgot,
  without,
  candidate,
  candidates,
  current_cycle,
  known_names,
  order_after,
  order_with,
}
use Rattle.lg_probe.specs.Support.Order.{IsOrderKept, Keeps, order_in}
use Rattle.lg_probe.proofs.NameRows.{among-append, among_missing}
use Rattle.lg_probe.proofs.OrderLaws.{InEither, First, Second, in_either, first_of, second_of}
use Rattle.lg_probe.proofs.Candidates.{taken_out, none_in, over-none, over-some}
use Rattle.lg_probe.proofs.Parts.{
  filter_both,
  part_is,
  part_count,
  part_flag,
  part_rises,
  part_within,
  part_none,
  part_all,
  part_put,
  part_out,
  part_opened,
  part_closed,
}

-- a name that is in a row, and one that isn't and would be inserted
abbrev pub IsAt : List ℕ → List (List ℕ) → ℕ → Type 0
IsAt n row i = HasRow {K = List ℕ} name_cmp {R = List ℕ} (λ m. m) n row i

abbrev pub WouldBeAt : List ℕ → List (List ℕ) → ℕ → Type 0
WouldBeAt n row i = LacksRow {K = List ℕ} name_cmp {R = List ℕ} (λ m. m) n row i

same_bools : (a b : Bool) → (a ≡ true → b ≡ true) → (b ≡ true → a ≡ true) → a ≡ b
same_bools true b h g = sym (h refl)
same_bools false true h g = g refl
same_bools false false h g = refl

-- who is in the first list, or in the second and so in the third
either_list : (k : List ℕ) (xs ys zs : List (List ℕ)) → (is_among name_cmp k ys ≡ true → is_among name_cmp k zs ≡ true)
    → is_among name_cmp k (xs ++ ys) ≡ true → is_among name_cmp k (xs ++ zs) ≡ true
either_list k xs ys zs h a =
    among-append k xs zs
    ∙ elim (in_either (is_among name_cmp k xs) (is_among name_cmp k ys) (sym (among-append k xs ys) ∙ a)) [
      | First b ↦ first_of (is_among name_cmp k xs) (is_among name_cmp k zs) b
      | Second b ↦ second_of (is_among name_cmp k xs) (is_among name_cmp k zs) (h b)
    ]

in_second : (k : List ℕ) (xs ys : List (List ℕ)) → is_among name_cmp k ys ≡ true → is_among name_cmp k (xs ++ ys) ≡ true
in_second k xs ys a =
    among-append k xs ys ∙ second_of (is_among name_cmp k xs) (is_among name_cmp k ys) a

in_first : (k : List ℕ) (xs ys : List (List ℕ)) → is_among name_cmp k xs ≡ true → is_among name_cmp k (xs ++ ys) ≡ true
in_first k xs ys a =
    among-append k xs ys ∙ first_of (is_among name_cmp k xs) (is_among name_cmp k ys) a

either_first : (k : List ℕ) (xs ys zs : List (List ℕ)) → (is_among name_cmp k xs ≡ true → is_among name_cmp k ys ≡ true)
    → is_among name_cmp k (xs ++ zs) ≡ true → is_among name_cmp k (ys ++ zs) ≡ true
either_first k xs ys zs h a =
    elim (in_either (is_among name_cmp k xs) (is_among name_cmp k zs) (sym (among-append k xs zs) ∙ a)) [
      | First b ↦ in_first k ys zs (h b)
      | Second b ↦ in_second k ys zs b
    ]

in_put : (k n : List ℕ) (ns : List (List ℕ)) → is_among name_cmp k ns ≡ true
    → is_among name_cmp k (put_key name_cmp n ns) ≡ true
in_put k n ns a = among-put names_order k n ns ∙ second_of (is_same name_cmp n k) (is_among name_cmp k ns) a

-- no more pass a test than there are, and if as many do, all do
filter_few : (p : List ℕ → Bool) (xs : List (List ℕ)) → length (filter p xs) ≤ length xs
filter_few p [] = omega arith
filter_few p (x ∷ xs) =
    elim (cases_Bool (p x)) [
      | inl t ↦ rw t (omega (arith, filter_few p xs))
      | inr f ↦ rw f (omega (arith, filter_few p xs))
    ]

filter_all : (p : List ℕ → Bool) (xs : List (List ℕ)) → length xs ≤ length (filter p xs) → filter p xs ≡ xs
filter_all p [] many = refl
filter_all p (x ∷ xs) many =
    elim (cases_Bool (p x)) [
      | inl t ↦ (
          let more : length (x ∷ xs) ≤ length (x ∷ filter p xs) = rw t at many in
          rw t (ap (λ l. x ∷ l) (filter_all p xs (omega (arith, more)))))
      | inr f ↦ (
          let more : length (x ∷ xs) ≤ length (filter p xs) = rw f at many in
          absurd (omega (arith, more, filter_few p xs)))
    ]

-- the same by equations
pub changed : {order other : OrderValue} {row known : List (List ℕ)} {first second joined chosen : List Bool}
    → order ≡ other → known ≡ row → joined ≡ first → chosen ≡ second
    → Keeps order row first second → Keeps other known joined chosen
changed {order = order} {other = other} {row = row} {known = known} {first = first} {second = second} {joined =
    joined} {chosen = chosen}
    a b c d keeps =
    subst (λ (o : OrderValue). Keeps o known joined chosen) a
    (subst (λ (l : List (List ℕ)). Keeps order l joined chosen) (sym b)
    (subst (λ (f : List Bool). Keeps order row f chosen) (sym c)
    (subst (λ (f : List Bool). Keeps order row first f) (sym d) keeps)))

-- nobody has joined
pub kept_first : Keeps (order_after []) [] no_flags no_flags
kept_first = record {
  rises = tt;
  names = part_none [] (omega arith);
  cycle = part_none [] (omega arith);
  used = λ k a. a;
}

module _ {order : OrderValue} {known : List (List ℕ)} {joined chosen : List Bool}
    (keeps : Keeps order known joined chosen) where
  -- the flags say the order
  pub kept_is : order_in known joined chosen ≡ order
  kept_is = λ i. record { names = part_is keeps.names i; chosen = part_is keeps.cycle i }

  pub kept : IsOrderKept known joined chosen
  kept = subst (λ (o : OrderValue). Keeps o known joined chosen) (sym kept_is) keeps

  -- the row has the names that are known
  pub kept_known : known ≡ known_names order
  kept_known =
      same_members names_order known (known_names order) keeps.rises
      (rises-in_order names_order (order.chosen ++ order.names))
      (λ k. same_bools (is_among name_cmp k known) (is_among name_cmp k (order.chosen ++ order.names)) (keeps.used k)
      (λ a. elim (in_either (is_among name_cmp k order.chosen) (is_among name_cmp k order.names)
      (sym (among-append k order.chosen order.names) ∙ a)) [
        | First b ↦ part_within keeps.cycle k b
        | Second b ↦ part_within keeps.names k b
      ]) ∙ sym (among-in_order names_order k (order.chosen ++ order.names)))

  absent : (n : List ℕ) (i : ℕ) → WouldBeAt n known i → is_among name_cmp n known ≡ false
  absent n i lacks = among_missing n known keeps.rises lacks.missing

  -- so the row has room for a name that it lacks
  pub join_room : (n : List ℕ) (i m : ℕ) → WouldBeAt n known i → length (put_key name_cmp n (known_names order)) ≤ m
      → length known < m
  join_room n i m lacks few =
      omega (
        arith,
        few,
        ap (λ l. length (put_key name_cmp n l)) kept_known,
        length-put names_order n known (absent n i lacks),
      )

  -- a known name joins
  pub joined_known : (n : List ℕ) (i : ℕ) → IsAt n known i
      → Keeps (order_with order (Joined n)) known (set joined i true) chosen
  joined_known n i has = record {
    rises = keeps.rises;
    names = part_put keeps.rises keeps.names i n has.within (has.named []);
    cycle = keeps.cycle;
    used = λ k a. either_list k order.chosen order.names (put_key name_cmp n order.names) (in_put k n order.names)
        (keeps.used k a);
  }

  -- another name joins
  pub joined_new : (n : List ℕ) (i : ℕ) → length known < 255 → WouldBeAt n known i
      → Keeps (order_with order (Joined n)) (insert known i n) (set (opened_flags i joined) i true)
      (opened_flags i chosen)
  joined_new n i room lacks =
      let put = lacks.insert n refl in
      let fresh = absent n i lacks in
      let rises : Rises name_cmp (insert known i n) =
      subst (Rises name_cmp) (sym put) (rises-put names_order n known keeps.rises) in
      let opened = part_opened keeps.rises keeps.names i n (omega (arith, room)) lacks.within put fresh in
      record {
        rises = rises;
        names = part_put rises opened i n (omega (arith, lacks.within, length-insert known i n lacks.within))
            (get_or-insert_at known i n [] lacks.within);
        cycle = part_opened keeps.rises keeps.cycle i n (omega (arith, room)) lacks.within put fresh;
        used = λ k a. used k
            (in_either (is_same name_cmp n k) (is_among name_cmp k known)
            (sym (among-put names_order k n known) ∙ sym (ap (is_among name_cmp k) put) ∙ a));
      }
    where
      used : (k : List ℕ) → InEither (is_same name_cmp n k) (is_among name_cmp k known)
          → is_among name_cmp k (order.chosen ++ put_key name_cmp n order.names) ≡ true
      used k (First s) = in_second k order.chosen (put_key name_cmp n order.names)
          (among-put names_order k n order.names ∙ first_of (is_same name_cmp n k) (is_among name_cmp k order.names) s)
      used k (Second b) = either_list k order.chosen order.names (put_key name_cmp n order.names)
          (in_put k n order.names) (keeps.used k b)

  -- a name leaves that was chosen in the cycle
  pub left_chosen : (n : List ℕ) (i : ℕ) → IsAt n known i → get_or chosen i false ≡ true
      → Keeps (order_with order (Left n)) known (set joined i false) chosen
  left_chosen n i has was = record {
    rises = keeps.rises;
    names = part_out keeps.rises keeps.names i n has.within (has.named []);
    cycle = keeps.cycle;
    used = λ k a. used k (is_same name_cmp k n) refl (keeps.used k a);
  }
    where
      there : is_among name_cmp n order.chosen ≡ true
      there = sym (part_flag keeps.cycle i n has.within (has.named [])) ∙ was

      used : (k : List ℕ) (s : Bool) → is_same name_cmp k n ≡ s
          → is_among name_cmp k (order.chosen ++ order.names) ≡ true
          → is_among name_cmp k (order.chosen ++ without n order.names) ≡ true
      used k true e a = in_first k order.chosen (without n order.names)
          (ap (λ m. is_among name_cmp m order.chosen) (key_is names_order k n e) ∙ there)
      used k false e a = either_list k order.chosen order.names (without n order.names)
          (λ b. among-filter names_order (λ m. not (is_same name_cmp m n)) k order.names ∙ rw (e, b) refl) a

  -- a name leaves that wasn't: it is forgotten
  pub left_forgotten : (n : List ℕ) (i : ℕ) → length known ≤ 255 → IsAt n known i → get_or chosen i false ≡ false
      → Keeps (order_with order (Left n)) (remove known i) (closed_flags i (set joined i false)) (closed_flags i chosen)
  left_forgotten n i few has was =
      let p : List ℕ → Bool = λ m. not (is_same name_cmp m n) in
      let out : remove known i ≡ without n known = taken_out n known i keeps.rises has in
      let left = part_out keeps.rises keeps.names i n has.within (has.named []) in
      let gone : is_among name_cmp n (without n order.names) ≡ false =
      among-filter names_order p n order.names
      ∙ ap (λ b. not b && is_among name_cmp n order.names) (same_key names_order n n refl) in
      record {
        rises = subst (Rises name_cmp) (sym out) (rises-filter names_order p known keeps.rises);
        names = part_closed keeps.rises left i n (omega (arith, few)) has.within out gone;
        cycle = part_closed keeps.rises keeps.cycle i n (omega (arith, few)) has.within out
            (sym (part_flag keeps.cycle i n has.within (has.named [])) ∙ was);
        used = λ k a. used k
            (both (p k) (is_among name_cmp k known)
            (sym (among-filter names_order p k known) ∙ sym (ap (is_among name_cmp k) out) ∙ a));
      }
    where
      used : (k : List ℕ) → (not (is_same name_cmp k n) ≡ true) × (is_among name_cmp k known ≡ true)
          → is_among name_cmp k (order.chosen ++ without n order.names) ≡ true
      used k parts = either_list k order.chosen order.names (without n order.names)
          (λ b. among-filter names_order (λ m. not (is_same name_cmp m n)) k order.names ∙ rw (parts.0, b) refl)
          (keeps.used k parts.1)

  -- a name leaves that isn't known
  pub left_unknown : (n : List ℕ) (i : ℕ) → WouldBeAt n known i → order ≡ order_with order (Left n)
  left_unknown n i lacks =
      let fresh : is_among name_cmp n order.names ≡ false = either (is_among name_cmp n order.names) refl in
      let same : order.names ≡ without n order.names =
      sym (filter-none (λ m. is_same name_cmp m n) order.names fresh) in
      λ j. record { names = same j; chosen = order.chosen }
    where
      either : (b : Bool) → is_among name_cmp n order.names ≡ b → is_among name_cmp n order.names ≡ false
      either true e = absurd (false≢true (sym (absent n i lacks) ∙ part_within keeps.names n e))
      either false e = e

  -- a name is forgotten, whether it was chosen or not
  pub out_of_both : (n : List ℕ) (i : ℕ) → length known ≤ 255 → IsAt n known i
      → Keeps (order_with order (Forgot n)) (remove known i) (closed_flags i (set joined i false))
      (closed_flags i (set chosen i false))
  out_of_both n i few has =
      let p : List ℕ → Bool = λ m. not (is_same name_cmp m n) in
      let out : remove known i ≡ without n known = taken_out n known i keeps.rises has in
      let gone : (ns : List (List ℕ)) → is_among name_cmp n (without n ns) ≡ false =
      λ ns. among-filter names_order p n ns
      ∙ ap (λ b. not b && is_among name_cmp n ns) (same_key names_order n n refl) in
      record {
        rises = subst (Rises name_cmp) (sym out) (rises-filter names_order p known keeps.rises);
        names = part_closed keeps.rises (part_out keeps.rises keeps.names i n has.within (has.named [])) i n
            (omega (arith, few)) has.within out (gone order.names);
        cycle = part_closed keeps.rises (part_out keeps.rises keeps.cycle i n has.within (has.named [])) i n
            (omega (arith, few)) has.within out (gone order.chosen);
        used = λ k a. used k
            (both (p k) (is_among name_cmp k known)
            (sym (among-filter names_order p k known) ∙ sym (ap (is_among name_cmp k) out) ∙ a));
      }
    where
      kept : (k : List ℕ) (ns : List (List ℕ)) → not (is_same name_cmp k n) ≡ true → is_among name_cmp k ns ≡ true
          → is_among name_cmp k (without n ns) ≡ true
      kept k ns other b = among-filter names_order (λ m. not (is_same name_cmp m n)) k ns ∙ rw (other, b) refl

      used : (k : List ℕ) → (not (is_same name_cmp k n) ≡ true) × (is_among name_cmp k known ≡ true)
          → is_among name_cmp k (without n order.chosen ++ without n order.names) ≡ true
      used k parts = either_first k order.chosen (without n order.chosen) (without n order.names)
          (kept k order.chosen parts.0)
          (either_list k order.chosen order.names (without n order.names) (kept k order.names parts.0)
          (keeps.used k parts.1))

  pub forgot_unknown : (n : List ℕ) (i : ℕ) → WouldBeAt n known i → order ≡ order_with order (Forgot n)
  forgot_unknown n i lacks =
      λ j. record {
        names = same order.names (part_within keeps.names n) j;
        chosen = same order.chosen (part_within keeps.cycle n) j;
      }
    where
      fresh : (b : Bool) → (b ≡ true → is_among name_cmp n known ≡ true) → b ≡ false
      fresh true there = absurd (false≢true (sym (absent n i lacks) ∙ there refl))
      fresh false there = refl

      same : (ns : List (List ℕ)) → (is_among name_cmp n ns ≡ true → is_among name_cmp n known ≡ true)
          → ns ≡ without n ns
      same ns there = sym (filter-none (λ m. is_same name_cmp m n) ns (fresh (is_among name_cmp n ns) there))

  -- a new cycle begins, and nobody has left
  pub begun : length known ≤ 255 → length known ≤ count_set joined
      → Keeps record { names = order.names; chosen = [] } known joined no_flags
  begun few many =
      let here : filter (λ n. is_among name_cmp n order.names) known ≡ known =
      filter_all (λ n. is_among name_cmp n order.names) known
      (omega (arith, many, part_count keeps.names, ap length keeps.names.all)) in
      record {
        rises = keeps.rises;
        names = keeps.names;
        cycle = part_none known (omega (arith, few));
        used = λ k a. ap (is_among name_cmp k) (keeps.names.all ∙ here) ∙ a;
      }

  -- a new cycle begins, and those that have left are forgotten
  pub begun_anew : length known ≤ 255 → (row : List (List ℕ)) → row ≡ entries_in joined known
      → Keeps record { names = order.names; chosen = [] } row (flags_below (length row)) no_flags
  begun_anew few row is =
      let within : length order.names ≤ 256 =
      omega (arith, few, ap length keeps.names.all, filter_few (λ n. is_among name_cmp n order.names) known) in
      subst (λ (l : List (List ℕ)). Keeps record {
        names = order.names;
        chosen =
            [];
      } l (flags_below (length l)) no_flags) (sym (is ∙ part_is keeps.names)) record {
        rises = part_rises keeps.rises keeps.names;
        names = part_all order.names within;
        cycle = part_none order.names within;
        used = λ k a. a;
      }

  -- which candidates the flags say
  abbrev is_free : List ℕ → Bool
  is_free n = is_among name_cmp n order.names && not (is_among name_cmp n order.chosen)

  free : flags_without joined chosen ≡ flags_by is_free known
  free =
      (λ i. flags_without (keeps.names.flagged i) (keeps.cycle.flagged i))
      ∙ flags_without-flags_by (λ n. is_among name_cmp n order.names) (λ n. is_among name_cmp n order.chosen) known

  free_are : candidates order.names order.chosen ≡ filter is_free known
  free_are =
      ap (filter (λ n. not (is_among name_cmp n order.chosen))) keeps.names.all
      ∙ sym (filter_both (λ n. is_among name_cmp n order.names) (λ n. not (is_among name_cmp n order.chosen)) known)

  free_count : count_set (flags_without joined chosen) ≡ length (candidates order.names order.chosen)
  free_count = ap count_set free ∙ sym (length-filter-flags_by is_free known) ∙ ap length (sym free_are)

  -- the cycle is over if no candidate remains, and goes on if one does
  pub over : count_set (flags_without joined chosen) ≡ 0 → current_cycle order.names order.chosen ≡ []
  over none =
      let cycle = order.chosen in
      ap (λ b. cond b [] cycle)
      (over-none order.names cycle (none_in (candidates order.names cycle) (omega (arith, none, free_count))))

  pub goes_on : count_set (flags_without joined chosen) ≢ 0 → current_cycle order.names order.chosen ≡ order.chosen
  goes_on some =
      let cycle = order.chosen in
      ap (λ b. cond b [] cycle) (over-some order.names cycle (omega (arith, some, free_count)))

  -- whom a word chooses
  module _ (word : ℕ) where
    by_count : candidate word (candidates order.names order.chosen)
        ≡ slice_get (filter is_free known) (word % count_set (flags_without joined chosen))
    by_count = λ i. slice_get (free_are i) (word % sym free_count i)

    pub none_chosen : nth_number (flags_without joined chosen) (word % count_set (flags_without joined chosen)) ≡ None
        → candidate word (candidates order.names order.chosen) ≡ None
    none_chosen none =
        by_count
        ∙ no_entry_at is_free known (word % count_set (flags_without joined chosen))
        (sym (ap (λ f. nth_number f (word % count_set (flags_without joined chosen))) free) ∙ none)

    module _ (number : ℕ)
        (chose : nth_number (flags_without joined chosen) (word % count_set (flags_without joined chosen))
        ≡ Some number) where
      entry : (d : List ℕ) → IsEntryAt is_free known d (word % count_set (flags_without joined chosen)) number
      entry d =
          IsEntryAt-from is_free known d (word % count_set (flags_without joined chosen)) number
          (sym (ap (λ f. nth_number f (word % count_set (flags_without joined chosen))) free) ∙ chose)

      pub chosen_within : number < length known
      chosen_within = (entry []).within

      pub chosen_is : (n : List ℕ) → n ≡ get_or known number n
          → Some n ≡ candidate word (candidates order.names order.chosen)
      chosen_is n is = ap Some is ∙ sym (entry n).entry ∙ sym by_count

      pub chosen_keeps : (n : List ℕ) → n ≡ get_or known number n
          → Keeps record {
            names = order.names;
            chosen =
                put_key name_cmp n order.chosen;
          } known joined (set chosen number true)
      chosen_keeps n is =
          let named : get_or known number [] ≡ n =
          same_Some (get_or known number []) n (sym (entry []).entry ∙ (entry n).entry ∙ ap Some (sym is)) in
          record {
            rises = keeps.rises;
            names = keeps.names;
            cycle = part_put keeps.rises keeps.cycle number n chosen_within named;
            used = λ k a. either_first k order.chosen (put_key name_cmp n order.chosen) order.names
                (in_put k n order.chosen) (keeps.used k a);
          }
