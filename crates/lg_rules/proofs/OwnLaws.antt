-- Oneself, once one more claim is told, and once it leaves.
use Rattle.std.proofs.Common.{◌≡◌, ◌≢◌, ℕ, suc, ◌≤◌, ◌<◌, ◌+◌, true, false, cond, List, [], ◌∷◌, inl, inr, refl, sym, ◌∙◌, ap, subst, arith, ltb, leb}
use Rattle.std.specs.Prelude.{All, filter}
use Rattle.std.proofs.lemmas.Bool.{cases_Bool, ltb-true}
use Rattle.lg_rules.specs.declared.addr.Addr.{Addr}
use Rattle.lg_rules.specs.declared.claim.Claim.{Claim}
use Rattle.lg_rules.specs.declared.claim.Status.{Status}
use Rattle.lg_rules.specs.declared.claim.Status.TheVariants.{Alive, Suspect, Failed, Left}
use Rattle.lg_rules.specs.declared.own.OwnHeard.{OwnHeard}
use Rattle.lg_rules.specs.declared.own.OwnHeard.TheVariants.{Refuted, Raised, Ousted, Ignored}
use Rattle.lg_rules.specs.Meaning.Rows.{name_cmp, is_same}
use Rattle.lg_rules.specs.Meaning.Own.{OwnValue, OwnFact, Told, Forgets, TakesLeave, beyond, own_hearing, own_hearing_at}
use Rattle.lg_rules.specs.Meaning.Own.{left_hearing_at, oneself_hearing, oneself_changed, own_heard, own_left}
use Rattle.lg_rules.specs.Meaning.Own.{own_after, is_own_fact, own_of, claims_told}
use Rattle.lg_rules.proofs.KeyOrder.{names_order, same_key, other_key, cases_key}

-- what a claim about oneself does,
pub own_hearing-same : (me : OwnValue) (c : Claim) → c.name ≡ me.name → own_hearing me c ≡ oneself_hearing me c.status c.incarnation
own_hearing-same me c e = rw (same_key names_order c.name me.name e)

pub own_heard-same : (me : OwnValue) (c : Claim) → c.name ≡ me.name → own_heard me c ≡ oneself_changed (oneself_hearing me c.status c.incarnation) c.incarnation me
own_heard-same me c e = rw (same_key names_order c.name me.name e)

-- and one about another
pub own_hearing-other : (me : OwnValue) (c : Claim) → c.name ≢ me.name → own_hearing me c ≡ Ignored
own_hearing-other me c d = rw (other_key names_order c.name me.name d)

pub own_heard-other : (me : OwnValue) (c : Claim) → c.name ≢ me.name → own_heard me c ≡ me
own_heard-other me c d = rw (other_key names_order c.name me.name d)

pub own-nil : (name : List ℕ) (addr : Addr) → own_of name addr [] ≡ record { name = name; addr = addr; number = 0; ousted = false; left = false }
unfolding own_of
own-nil name addr = refl

-- a claim about oneself is heard,
pub own-same : (name : List ℕ) (addr : Addr) (c : Claim) (past : List OwnFact) → c.name ≡ name → own_of name addr (Told c ∷ past) ≡ own_heard (own_of name addr past) c
unfolding own_of
own-same name addr c past e = rw (same_key names_order c.name name e)

-- and a claim about another is not
pub own-other : (name : List ℕ) (addr : Addr) (c : Claim) (past : List OwnFact) → c.name ≢ name → own_of name addr (Told c ∷ past) ≡ own_of name addr past
unfolding own_of
own-other name addr c past d = rw (other_key names_order c.name name d)

-- nor is a name that is forgotten
pub own-forgot : (name : List ℕ) (addr : Addr) (n : List ℕ) (past : List OwnFact) → own_of name addr (Forgets n ∷ past) ≡ own_of name addr past
unfolding own_of
own-forgot name addr n past = refl

-- once it leaves, it has left
pub own-leaves : (name : List ℕ) (addr : Addr) (past : List OwnFact) → own_of name addr (TakesLeave ∷ past) ≡ own_left (own_of name addr past)
unfolding own_of
own-leaves name addr past = refl

-- what a claim about oneself does while it hasn't left, and once it has
pub oneself_hearing-here : (me : OwnValue) (s : Status) (i : ℕ) → me.left ≡ false → oneself_hearing me s i ≡ own_hearing_at s i me.number
oneself_hearing-here me s i f = ap (λ b. cond b (left_hearing_at i me.number) (own_hearing_at s i me.number)) f

pub oneself_hearing-gone : (me : OwnValue) (s : Status) (i : ℕ) → me.left ≡ true → oneself_hearing me s i ≡ left_hearing_at i me.number
oneself_hearing-gone me s i t = ap (λ b. cond b (left_hearing_at i me.number) (own_hearing_at s i me.number)) t

-- name and address stay, and the number is within the greatest if those of the claims are
changed_name : (o : OwnHeard) (i : ℕ) (me : OwnValue) → (oneself_changed o i me).name ≡ me.name
changed_name Refuted i me = refl
changed_name Raised i me = refl
changed_name Ousted i me = refl
changed_name Ignored i me = refl

changed_addr : (o : OwnHeard) (i : ℕ) (me : OwnValue) → (oneself_changed o i me).addr ≡ me.addr
changed_addr Refuted i me = refl
changed_addr Raised i me = refl
changed_addr Ousted i me = refl
changed_addr Ignored i me = refl

beyond_within : (o : OwnHeard) (i : ℕ) (me : OwnValue) → ((j : ℕ) → (oneself_changed o j me).number ≡ j + 1) → me.number ≤ 1000000000 → (oneself_changed (beyond i o) i me).number ≤ 1000000000
beyond_within o i me h few = elim (cases_Bool (ltb i 1000000000)) [
  | inl t ↦ (let l : i < 1000000000 = ltb-true i 1000000000 t in rw t (omega (arith, h i, l)))
  | inr f ↦ rw f few
]

pub raised_here : (i : ℕ) (me : OwnValue) → me.left ≡ false → (oneself_changed Raised i me).number ≡ i + 1
raised_here i me f = ap (λ b. cond b i (i + 1)) f

pub raised_gone : (i : ℕ) (me : OwnValue) → me.left ≡ true → (oneself_changed Raised i me).number ≡ i
raised_gone i me t = ap (λ b. cond b i (i + 1)) t

changed_within : (s : Status) (i : ℕ) (me : OwnValue) → me.left ≡ false → me.number ≤ 1000000000 → (oneself_changed (own_hearing_at s i me.number) i me).number ≤ 1000000000
changed_within Alive i me here few = elim (cases_Bool (ltb me.number i)) [ inl t ↦ rw t (beyond_within Raised i me (λ j. raised_here j me here) few) | inr f ↦ rw f few ]
changed_within (Suspect a) i me here few = elim (cases_Bool (leb me.number i)) [ inl t ↦ rw t (beyond_within Refuted i me (λ j. refl) few) | inr f ↦ rw f few ]
changed_within Failed i me here few = elim (cases_Bool (leb me.number i)) [ inl t ↦ rw t (beyond_within Raised i me (λ j. raised_here j me here) few) | inr f ↦ rw f few ]
changed_within Left i me here few = elim (cases_Bool (leb me.number i)) [ inl t ↦ rw t (beyond_within Raised i me (λ j. raised_here j me here) few) | inr f ↦ rw f few ]

left_within : (i : ℕ) (me : OwnValue) → me.left ≡ true → i ≤ 1000000000 → me.number ≤ 1000000000 → (oneself_changed (left_hearing_at i me.number) i me).number ≤ 1000000000
left_within i me gone low few = elim (cases_Bool (ltb me.number i)) [
  | inl t ↦ rw t (omega (arith, raised_gone i me gone, low))
  | inr f ↦ rw f few
]

oneself_within : (s : Status) (i : ℕ) (me : OwnValue) → i ≤ 1000000000 → me.number ≤ 1000000000 → (oneself_changed (oneself_hearing me s i) i me).number ≤ 1000000000
oneself_within s i me low few = elim (cases_Bool me.left) [
  | inl t ↦ subst (λ h. (oneself_changed h i me).number ≤ 1000000000) (sym (oneself_hearing-gone me s i t)) (left_within i me t low few)
  | inr f ↦ subst (λ h. (oneself_changed h i me).number ≤ 1000000000) (sym (oneself_hearing-here me s i f)) (changed_within s i me f few)
]

heard_within : (me : OwnValue) (c : Claim) → c.incarnation ≤ 1000000000 → me.number ≤ 1000000000 → (own_heard me c).number ≤ 1000000000
heard_within me c low few = elim (cases_Bool (is_same name_cmp c.name me.name)) [ inl t ↦ rw t (oneself_within c.status c.incarnation me low few) | inr f ↦ rw f few ]

pub own_heard_name : (me : OwnValue) (c : Claim) → (own_heard me c).name ≡ me.name
own_heard_name me c = changed_name (own_hearing me c) c.incarnation me

pub own_heard_addr : (me : OwnValue) (c : Claim) → (own_heard me c).addr ≡ me.addr
own_heard_addr me c = changed_addr (own_hearing me c) c.incarnation me

after_name : (name : List ℕ) (addr : Addr) (past : List OwnFact) → (own_after name addr past).name ≡ name
after_name name addr [] = refl
after_name name addr (Told c ∷ past) = own_heard_name (own_after name addr past) c ∙ after_name name addr past
after_name name addr (Forgets n ∷ past) = after_name name addr past
after_name name addr (TakesLeave ∷ past) = after_name name addr past

after_addr : (name : List ℕ) (addr : Addr) (past : List OwnFact) → (own_after name addr past).addr ≡ addr
after_addr name addr [] = refl
after_addr name addr (Told c ∷ past) = own_heard_addr (own_after name addr past) c ∙ after_addr name addr past
after_addr name addr (Forgets n ∷ past) = after_addr name addr past
after_addr name addr (TakesLeave ∷ past) = after_addr name addr past

pub own_of_name : (name : List ℕ) (addr : Addr) (past : List OwnFact) → (own_of name addr past).name ≡ name
unfolding own_of
own_of_name name addr past = after_name name addr (filter (is_own_fact name) past)

pub own_of_addr : (name : List ℕ) (addr : Addr) (past : List OwnFact) → (own_of name addr past).addr ≡ addr
unfolding own_of
own_of_addr name addr past = after_addr name addr (filter (is_own_fact name) past)

-- After any claim, oneself is what it was once the claim is heard.
pub own-cons : (name : List ℕ) (addr : Addr) (c : Claim) (past : List OwnFact) → own_of name addr (Told c ∷ past) ≡ own_heard (own_of name addr past) c
own-cons name addr c past = elim (cases_key names_order c.name name) [
  | inl e ↦ own-same name addr c past e
  | inr d ↦ own-other name addr c past d ∙ sym (own_heard-other (own_of name addr past) c (λ e. d (e ∙ own_of_name name addr past)))
]

own-nil_within : (name : List ℕ) (addr : Addr) → (own_of name addr []).number ≤ 1000000000
own-nil_within name addr = subst (λ (me : OwnValue). me.number ≤ 1000000000) (sym (own-nil name addr)) (omega arith)

pub own_of_within : (name : List ℕ) (addr : Addr) (past : List OwnFact) → All (λ (c : Claim). c.incarnation ≤ 1000000000) (claims_told past) → (own_of name addr past).number ≤ 1000000000
own_of_within name addr [] low = own-nil_within name addr
own_of_within name addr (Told c ∷ past) low =
    subst (λ (me : OwnValue). me.number ≤ 1000000000) (sym (own-cons name addr c past))
    (heard_within (own_of name addr past) c (low 0 c (omega arith)) (own_of_within name addr past (λ k d l. low (suc k) d (omega (arith, l)))))
own_of_within name addr (Forgets n ∷ past) low =
    subst (λ (me : OwnValue). me.number ≤ 1000000000) (sym (own-forgot name addr n past)) (own_of_within name addr past low)
own_of_within name addr (TakesLeave ∷ past) low =
    subst (λ (me : OwnValue). me.number ≤ 1000000000) (sym (own-leaves name addr past)) (own_of_within name addr past low)
