-- Sights with one more, each change told once, and looks one after another.
use Rattle.std.proofs.Common.{◌≡◌, ℕ, ◌≤◌, Bool, true, false, cond, List, [], ◌∷◌, ◌++◌, length, Option, Some, None, refl, sym, ap, ◌∙◌, subst, inl, inr, arith, append_assoc, append-nil, length-append}
use Rattle.std.specs.Prelude.{filter, nat_lt, IsSome}
use mathlib.Core.List.{IsPrefix}
use Rattle.std.proofs.lemmas.Bool.Decides.{nat_tests}
use Rattle.std.proofs.lemmas.List.Elements.{filter-append}
use Rattle.std.proofs.lemmas.List.Concat.{flat_map-append}
use Rattle.lg_changes.specs.declared.change.Change.{Change}
use Rattle.lg_changes.specs.Meaning.Changes.{changes_after, is_after}
use Rattle.lg_changes.proofs.KeptLaws.{found_behind}
use Rattle.lg_detector.specs.declared.event.Event.{Event}
use Rattle.lg_detector.specs.Meaning.Step.{is_accepted}
use Rattle.lg_view.specs.Meaning.Changes.{changes_of}
use Rattle.lg_view.proofs.ChangeLaws.{behind_earlier, changes_grow}
use Rattle.lg_agent.specs.Meaning.Values.{PassValue}
use Rattle.lg_agent.specs.Meaning.Calls.{IsLook}
use Rattle.lg_follow.specs.Meaning.Lines.{changed_line, changed_lines}
use Rattle.lg_follow.specs.Meaning.Sights.{first_text, behind_text, sight_text, later_text, sights_text, SightsGrow, MissedNone, last_sight, changes_between, TellsEachChangeOnce, OnlyLooked}

-- the text of one more sight
later_more : (before : List Event) (sights : List (List Event)) (s : List Event) → later_text before (sights ++ s ∷ []) ≡ later_text before sights ++ sight_text (last_sight before sights) s
unfolding later_text
later_more before [] s = append-nil (sight_text before s)
later_more before (x ∷ xs) s =
    ap (λ (l : List ℕ). sight_text before x ++ l) (later_more x xs s)
    ∙ sym (append_assoc (sight_text before x) (later_text x xs) (sight_text (last_sight x xs) s))

last_is : (first : List Event) (earlier : List (List Event)) (last : List Event) → last_sight first (earlier ++ last ∷ []) ≡ last
last_is first [] last = refl
last_is first (x ∷ earlier) last = last_is x earlier last

begun_more : (first : List Event) (later : List (List Event)) (s : List Event) → sights_text (first ∷ (later ++ s ∷ [])) ≡ sights_text (first ∷ later) ++ sight_text (last_sight first later) s
unfolding sights_text
begun_more first later s =
    ap (λ (l : List ℕ). first_text first ++ l) (later_more first later s)
    ∙ sym (append_assoc (first_text first) (later_text first later) (sight_text (last_sight first later) s))

pub sights_more : (earlier : List (List Event)) (last s : List Event) → sights_text ((earlier ++ last ∷ []) ++ s ∷ []) ≡ sights_text (earlier ++ last ∷ []) ++ sight_text last s
sights_more [] last s = begun_more last [] s
sights_more (x ∷ earlier) last s =
    begun_more x (earlier ++ last ∷ []) s
    ∙ ap (λ (f : List Event). sights_text (x ∷ (earlier ++ last ∷ [])) ++ sight_text f s) (last_is x earlier last)

-- the text of the first sight
pub no_text : sights_text [] ≡ []
unfolding sights_text
no_text = refl

pub sights_first : (s : List Event) → sights_text (s ∷ []) ≡ first_text s
unfolding sights_text later_text
sights_first s = append-nil (first_text s)

pub prefix_through : (xs ys zs : List Event) → IsPrefix xs ys → IsPrefix ys zs → IsPrefix xs zs
prefix_through xs ys zs p q = (p.0 ++ q.0, sym (append_assoc xs p.0 q.0) ∙ ap (λ (l : List Event). l ++ q.0) p.1 ∙ q.1)

pub prefix_itself : (xs : List Event) → IsPrefix xs xs
prefix_itself xs = ([], append-nil xs)

prefix_short : (xs ys : List Event) → IsPrefix xs ys → length xs ≤ length ys
prefix_short xs ys p = omega (arith, length-append xs p.0, ap length p.1)

pub grow_none : (from : List Event) → SightsGrow from [] from
unfolding SightsGrow
grow_none from = prefix_itself from

pub grow_on : (from to now : List Event) (sights : List (List Event)) → SightsGrow from sights to → IsPrefix to now → SightsGrow from sights now
unfolding SightsGrow
grow_on from to now [] grow more = prefix_through from to now grow more
grow_on from to now (s ∷ later) grow more = (grow.0, grow.1, grow_on s to now later grow.2 more)

pub grow_more : (from to now : List Event) (sights : List (List Event)) → SightsGrow from sights to → IsPrefix to now → is_accepted now ≡ true
    → SightsGrow from (sights ++ now ∷ []) now
unfolding SightsGrow
grow_more from to now [] grow more accepted = (prefix_through from to now grow more, accepted, prefix_itself now)
grow_more from to now (s ∷ later) grow more accepted = (grow.0, grow.1, grow_more s to now later grow.2 more accepted)

pub grow_last : (from to : List Event) (earlier : List (List Event)) (s : List Event) → SightsGrow from (earlier ++ s ∷ []) to → IsPrefix s to
unfolding SightsGrow
grow_last from to [] s grow = grow.2
grow_last from to (x ∷ earlier) s grow = grow_last x to earlier s grow.2

-- each sight begins the last
grow_through : (first to : List Event) (later : List (List Event)) → SightsGrow first later to → IsPrefix first (last_sight first later)
unfolding SightsGrow
grow_through first to [] grow = prefix_itself first
grow_through first to (s ∷ later) grow = prefix_through first s (last_sight s later) grow.0 (grow_through s to later grow.2)

-- of the changes behind a version, those behind an earlier one are all of them
both_step : (m n : ℕ) (c : Change) (xs : List Change) (b : Bool) → m ≤ n → nat_lt n c.version ≡ b → filter (is_after m) xs ≡ xs
    → filter (is_after m) (cond b (c ∷ xs) xs) ≡ cond b (c ∷ xs) xs
both_step m n c xs true le is same =
    let test : nat_lt m c.version ≡ true = grind (arith, nat_tests) in
    rw test (ap (λ (l : List Change). c ∷ l) same)
both_step m n c xs false le is same = same

after_both : (m n : ℕ) (changes : List Change) → m ≤ n → filter (is_after m) (filter (is_after n) changes) ≡ filter (is_after n) changes
after_both m n [] le = refl
after_both m n (c ∷ changes) le = both_step m n c (filter (is_after n) changes) (nat_lt n c.version) le refl (after_both m n changes le)

none_between : (f : List Event) → changes_between f f ≡ []
none_between f = behind_earlier (length f) [] f (omega arith)

-- the changes behind a list of events, up to a longer one and from there on
between_split : (f g h : List Event) → IsPrefix f g → IsPrefix g h → changes_between f h ≡ changes_between f g ++ changes_between g h
between_split f g h p q =
    ap (λ (l : List Change). filter (is_after (length f)) l) (changes_grow g h q)
    ∙ filter-append (is_after (length f)) (changes_of g) (changes_between g h)
    ∙ ap (λ (l : List Change). changes_between f g ++ l) (after_both (length f) (length g) (changes_of h) (prefix_short f g p))

-- a sight that missed nothing tells all changes behind the one before it
told_behind : (events : List Event) (v : ℕ) (all : List Change) (found : Option (List Change)) → changes_after v all ≡ found → IsSome found
    → behind_text events found ≡ changed_lines (filter (is_after v) all)
told_behind events v all None is some = absurd (cc some)
told_behind events v all (Some rows) is some = ap (λ (l : List Change). changed_lines l) (found_behind v all rows is)

later_once : (before to : List Event) (later : List (List Event)) → SightsGrow before later to → MissedNone before later
    → later_text before later ≡ changed_lines (changes_between before (last_sight before later))
unfolding later_text SightsGrow changed_lines
later_once before to [] grow none = sym (ap (λ (l : List Change). changed_lines l) (none_between before))
later_once before to (s ∷ later) grow none =
    let last : List Event = last_sight s later in
    ap (λ (l : List ℕ). l ++ later_text s later) (told_behind s (length before) (changes_of s) (changes_after (length before) (changes_of s)) refl none.0)
    ∙ ap (λ (l : List ℕ). changed_lines (changes_between before s) ++ l) (later_once s to later grow.2 none.1)
    ∙ sym (flat_map-append (λ (c : Change). changed_line c) (changes_between before s) (changes_between s last))
    ∙ sym (ap (λ (l : List Change). changed_lines l) (between_split before s last grow.0 (grow_through s to later grow.2)))

-- so each change is told once
pub told_once : (from to : List Event) (sights : List (List Event)) → SightsGrow from sights to → TellsEachChangeOnce sights
unfolding SightsGrow sights_text
told_once from to [] grow = tt
told_once from to (first ∷ later) grow = λ none. ap (λ (l : List ℕ). first_text first ++ l) (later_once first to later grow.2 none)

pub look_through : (a b c : PassValue) → IsLook a b → IsLook b c → IsLook a c
look_through a b c p q = record {
  begins = prefix_through a.seen b.seen c.seen p.begins q.begins;
  accepted = q.accepted;
  gone = q.gone ∙ p.gone;
  mine = q.mine ∙ p.mine;
  seat = q.seat ∙ p.seat;
  name = q.name ∙ p.name;
}

pub looked_on : (a b c : PassValue) → OnlyLooked a b → IsLook b c → OnlyLooked a c
looked_on a b c (inl same) q = inr (subst (λ (x : PassValue). IsLook x c) same q)
looked_on a b c (inr p) q = inr (look_through a b c p q)

pub looked_through : (a b c : PassValue) → OnlyLooked a b → OnlyLooked b c → OnlyLooked a c
looked_through a b c p (inl same) = subst (λ (x : PassValue). OnlyLooked a x) (sym same) p
looked_through a b c p (inr q) = looked_on a b c p q

pub looked_prefix : (a b : PassValue) → OnlyLooked a b → IsPrefix a.seen b.seen
looked_prefix a b (inl same) = subst (λ (x : PassValue). IsPrefix a.seen x.seen) (sym same) (prefix_itself a.seen)
looked_prefix a b (inr p) = p.begins
