-- The timers that forget members, behind the others: set, set anew, and cancelled.
use Rattle.std.proofs.Common.{◌≡◌, ℕ, Bool, true, false, not, ◌||◌, List, [], ◌∷◌, ◌++◌, map, append_assoc, refl, sym, ◌∙◌, ap}
use Rattle.std.proofs.lemmas.List.Folds.{list_any-append}
use Rattle.std.proofs.lemmas.List.Elements.{filter-append}
use mathlib.Core.List.{map-append}
use Rattle.lg_rules.specs.Meaning.Rows.{name_cmp, is_same, is_among, put_row, without_row, Rises}
use Rattle.lg_timers.specs.declared.timer.Timer.{Timer}
use Rattle.lg_timers.specs.declared.timer.TimerId.TheVariants.{Forget}
use Rattle.lg_timers.specs.Meaning.Timers.{timer_key, has_id, is_set, with_timer, without_timer, in_turn}
use Rattle.lg_timers.proofs.Parts.{without-found}
use Rattle.lg_timers.proofs.Pending.{without-in_turn, without-none, in_turn-same, among-put_row}
use Rattle.lg_detector.specs.Meaning.Forget.{Gone}
use Rattle.lg_detector.specs.Meaning.Timing.{forget_timer}

abbrev pub fades : List Gone → List Timer
fades rows = map forget_timer rows

abbrev pub gone_name : Gone → List ℕ
gone_name r = r.name

-- no timer of these forgets a member
abbrev pub NoForget : List Timer → Type 0
NoForget timers = (m : List ℕ) → is_set (Forget m) timers ≡ false

pub no_forget-append : (A B : List Timer) → NoForget A → NoForget B → NoForget (A ++ B)
no_forget-append A B a b m =
    list_any-append (has_id (Forget m)) A B ∙ ap (λ x. x || is_set (Forget m) B) (a m) ∙ b m

-- in which order timers stand doesn't count
among-both : (k : List ℕ) (X Y : List Timer) → is_among name_cmp k (map timer_key (X ++ Y)) ≡ (is_among name_cmp k (map timer_key X) || is_among name_cmp k (map timer_key Y))
among-both k X Y =
    ap (is_among name_cmp k) (map-append timer_key X Y)
    ∙ list_any-append (λ m. is_same name_cmp m k) (map timer_key X) (map timer_key Y)

either_way : (a b : Bool) → (a || b) ≡ (b || a)
either_way true true = refl
either_way true false = refl
either_way false true = refl
either_way false false = refl

pub last-first : (X Y : List Timer) → in_turn (X ++ Y) ≡ in_turn (Y ++ X)
last-first X Y =
    in_turn-same (X ++ Y) (Y ++ X)
    (λ k. among-both k X Y ∙ either_way (is_among name_cmp k (map timer_key X)) (is_among name_cmp k (map timer_key Y)) ∙ sym (among-both k Y X))

-- the last of five parts stands behind all others, or before them
pub as_last : (A B C D E : List Timer) → A ++ (B ++ (C ++ (D ++ E))) ≡ (A ++ (B ++ (C ++ D))) ++ E
as_last A B C D E =
    sym (
    append_assoc A (B ++ (C ++ D)) E
    ∙ ap (λ ts. A ++ ts) (append_assoc B (C ++ D) E ∙ ap (λ ts. B ++ ts) (append_assoc C D E)))

pub as_first : (A B C D E : List Timer) → in_turn (A ++ (B ++ (C ++ (D ++ E)))) ≡ in_turn ((E ++ A) ++ (B ++ (C ++ D)))
as_first A B C D E =
    ap in_turn (as_last A B C D E)
    ∙ last-first (A ++ (B ++ (C ++ D))) E
    ∙ ap in_turn (sym (append_assoc E A (B ++ (C ++ D))))

-- one member isn't forgotten any more: its timer is cancelled
without-fades : (m : List ℕ) (rows : List Gone) → without_timer (Forget m) (fades rows) ≡ fades (without_row name_cmp gone_name m rows)
without-fades m rows = without-found (Forget m) forget_timer (λ r. is_same name_cmp r.name m) rows (λ r. refl)

pub behind-without : (m : List ℕ) (first : List Timer) (rows : List Gone) → NoForget first
    → without_timer (Forget m) (in_turn (first ++ fades rows)) ≡ in_turn (first ++ fades (without_row name_cmp gone_name m rows))
behind-without m first rows none =
    without-in_turn (Forget m) (first ++ fades rows)
    ∙ ap in_turn (filter-append (λ t. not (has_id (Forget m) t)) first (fades rows))
    ∙ ap (λ ts. in_turn (ts ++ without_timer (Forget m) (fades rows))) (without-none (Forget m) first (none m))
    ∙ ap (λ ts. in_turn (first ++ ts)) (without-fades m rows)

-- one is forgotten at a moment: its timer is set, or set anew
keys-fades : (rows : List Gone) → map timer_key (fades rows) ≡ map (λ r. timer_key (forget_timer r)) rows
keys-fades [] = refl
keys-fades (r ∷ rows) = ap (λ ks. timer_key (forget_timer r) ∷ ks) (keys-fades rows)

among-behind : (k : List ℕ) (first : List Timer) (rows : List Gone)
    → is_among name_cmp k (map timer_key (first ++ fades rows)) ≡ (is_among name_cmp k (map timer_key first) || is_among name_cmp k (map (λ r. timer_key (forget_timer r)) rows))
among-behind k first rows =
    among-both k first (fades rows) ∙ ap (λ ks. is_among name_cmp k (map timer_key first) || is_among name_cmp k ks) (keys-fades rows)

or_swap : (a b c : Bool) → (a || (b || c)) ≡ (b || (a || c))
or_swap true true c = refl
or_swap true false c = refl
or_swap false b c = refl

pub behind-put : (r : Gone) (first : List Timer) (rows : List Gone) → NoForget first → Rises name_cmp (map gone_name rows)
    → with_timer (forget_timer r) (without_timer (Forget r.name) (in_turn (first ++ fades rows))) ≡ in_turn (first ++ fades (put_row name_cmp gone_name r rows))
unfolding in_turn
behind-put r first rows none rises =
    let left = without_row name_cmp gone_name r.name rows in
    ap (with_timer (forget_timer r)) (behind-without r.name first rows none)
    ∙ in_turn-same (forget_timer r ∷ first ++ fades left) (first ++ fades (put_row name_cmp gone_name r rows))
    (λ k.
    ap (λ b. is_same name_cmp (timer_key (forget_timer r)) k || b) (among-behind k first left)
    ∙ or_swap (is_same name_cmp (timer_key (forget_timer r)) k) (is_among name_cmp k (map timer_key first)) (is_among name_cmp k (map (λ x. timer_key (forget_timer x)) left))
    ∙ ap (λ b. is_among name_cmp k (map timer_key first) || b) (sym (among-put_row gone_name (λ x. timer_key (forget_timer x)) k r rows rises))
    ∙ sym (among-behind k first (put_row name_cmp gone_name r rows)))
