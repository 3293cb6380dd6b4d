-- A loop goes on with a further stretch of turns.
use Rattle.std.proofs.Common.{◌≡◌, ℕ, ◌+◌, ◌*◌, Bool, true, false, List, [], ◌∷◌, ◌++◌, length, All, refl, ap, sym, ◌∙◌, subst, arith, append_assoc, append-nil, length-append}
use Rattle.std.specs.List.{flat_map}
use Rattle.std.proofs.lemmas.List.Elements.{All-nil, All-append}
use Rattle.std.proofs.lemmas.List.Sums.{sum_by-append}
use Rattle.std.proofs.lemmas.List.Concat.{flat_map-append}
use Rattle.lg_agent.specs.Meaning.Values.{PassValue}
use Rattle.lg_turns.specs.Meaning.Links.{LinkEvent}
use Rattle.lg_turns.specs.declared.ending.LoopEnd.{LoopEnd}
use Rattle.lg_turns.specs.declared.ending.Why.{Why}
use Rattle.lg_turns.specs.declared.ending.Why.TheVariants.{ReadBound}
use Rattle.lg_turns.specs.Meaning.Turns.{Turn, deeds, breaks, goes_on, Follows, LinkValue, Made, Ends, Ran, Lasted}

pub follows_join : (p m q : PassValue) (ts us : List Turn) → Follows p ts m → Follows m us q → Follows p (ts ++ us) q
follows_join p m q [] us before after = subst (λ (o : PassValue). Follows o us q) before after
follows_join p m q (t ∷ ts) us before after = (before.0, before.1, follows_join before.0 m q ts us before.2 after)

pub made_join : (kind : Turn → Bool) (tells : Bool) (ts us : List Turn) (a b c : LinkValue) (p m q : PassValue)
    → Made kind tells ts a b p m → Made kind tells us b c m q → Made kind tells (ts ++ us) a c p q
made_join kind tells ts us a b c p m q one two = record {
  kinds = All-append (λ s. kind s ≡ true) ts us one.kinds two.kinds;
  follows = follows_join p m q ts us one.follows two.follows;
  told = λ yes. two.told yes ∙ (ap (λ (l : List LinkEvent). l ++ flat_map deeds us) (one.told yes) ∙ (append_assoc a.log (flat_map deeds ts) (flat_map deeds us)
      ∙ ap (λ (l : List LinkEvent). a.log ++ l) (sym (flat_map-append deeds ts us))));
  failed = omega (arith, one.failed, two.failed, sum_by-append breaks ts us);
}

-- The stretches of a loop so far: no turn of them ended it.
pub record Lasting (kind : Turn → Bool) (tells : Bool) (bound : ℕ) (endless : Bool) (a b : LinkValue) (p q : PassValue) : Type 0 where
  pub stretches : ℕ
  pub earlier : List Turn
  pub made : Made kind tells earlier a b p q
  pub went_on : All goes_on earlier
  pub many : length earlier ≡ stretches * bound
  pub once : endless ≡ false → stretches ≡ 0

unfoldable pub no_stretch : (kind : Turn → Bool) (tells : Bool) (bound : ℕ) (endless : Bool) (a : LinkValue) (p : PassValue) → Lasting kind tells bound endless a a p p
no_stretch kind tells bound endless a p = record {
  stretches = 0;
  earlier = [];
  made = record { kinds = All-nil (λ s. kind s ≡ true); follows = refl; told = λ yes. sym (append-nil a.log); failed = omega arith };
  went_on = All-nil goes_on;
  many = omega arith;
  once = λ never. refl;
}

pub all_made : (bound : ℕ) (turns : List Turn) (why : Why) → why ≡ ReadBound → Ends bound turns why → All goes_on turns × (length turns ≡ bound)
all_made bound turns why is ends = subst (λ (w : Why). Ends bound turns w) is ends

pub true_not_false : (b : Bool) → b ≡ true → b ≡ false → ⊥
true_not_false b h k = let e : true ≡ false = sym h ∙ k in absurd cc

pub many_more : (turns more : List Turn) (stretches bound : ℕ) → length turns ≡ stretches * bound → length more ≡ bound → length (turns ++ more) ≡ (stretches + 1) * bound
many_more turns more stretches bound one two = let three = length-append turns more in grind arith

unfoldable pub stretch_more : (kind : Turn → Bool) (tells : Bool) (bound : ℕ) (endless : Bool) (a b c : LinkValue) (p m q : PassValue) (end : LoopEnd)
    → Lasting kind tells bound endless a b p m → Ran kind tells bound b c m q end → end.why ≡ ReadBound → endless ≡ true → Lasting kind tells bound endless a c p q
stretch_more kind tells bound endless a b c p m q end was ran why always =
    let all = all_made bound ran.turns end.why why ran.why in
    record {
      stretches = was.stretches + 1;
      earlier = was.earlier ++ ran.turns;
      made = made_join kind tells was.earlier ran.turns a b c p m q was.made ran.made;
      went_on = All-append goes_on was.earlier ran.turns was.went_on all.0;
      many = many_more was.earlier ran.turns was.stretches bound was.many all.1;
      once = λ never. absurd (true_not_false endless always never);
    }

unfoldable pub lasted : (kind : Turn → Bool) (tells : Bool) (bound : ℕ) (endless : Bool) (a b c : LinkValue) (p m q : PassValue) (end : LoopEnd)
    → Lasting kind tells bound endless a b p m → Ran kind tells bound b c m q end → (endless ≡ true → end.why ≡ ReadBound → ⊥) → Lasted kind tells bound endless a c p q end
lasted kind tells bound endless a b c p m q end was ran not = record {
  stretches = was.stretches;
  earlier = was.earlier;
  line_then = b;
  pass_then = m;
  made_earlier = was.made;
  went_on = was.went_on;
  many = was.many;
  once = was.once;
  last = ran;
  lasts = not;
  turns = was.earlier ++ ran.turns;
  turns_are = refl;
}
