-- One more turn of a loop.
use Rattle.std.proofs.Common.{◌≡◌, ℕ, ◌+◌, Bool, true, false, List, [], ◌∷◌, ◌++◌, All, refl, ap, sym, ◌∙◌, subst, arith, append_assoc, append-nil, length-append}
use Rattle.std.specs.Prelude.{Option, Some, None, if◌then◌else◌}
use Rattle.std.specs.List.{flat_map}
use Rattle.std.proofs.lemmas.List.Elements.{All-nil, All-cons, All-append}
use Rattle.std.proofs.lemmas.List.Sums.{sum_by-append}
use Rattle.std.proofs.lemmas.List.Concat.{flat_map-append}
use Rattle.lg_agent.specs.Meaning.Values.{PassValue}
use Rattle.lg_turns.specs.Meaning.Links.{LinkEvent}
use Rattle.lg_turns.specs.declared.ending.Why.{Why}
use Rattle.lg_turns.specs.declared.ending.Why.TheVariants.{Stopped, Ousted, LinkFailed, Refused, ReadBound}
use Rattle.lg_loops.specs.declared.turned.Turned.{Turned}
use Rattle.lg_turns.specs.Meaning.Turns.{Turn, deeds, drops, losses, breaks, stops, goes_on, IsTurn, Follows, LinkValue, Made, Counts, Ends, Ran, Threw, words_in}
use Rattle.lg_turns.specs.Meaning.Turns.Turn.{Quiet, Broken, Dropped, Heard, Unheard, Paused, Ticked, Unticked, Unseen, AskedSeed, UnaskedSeed, AskedInTurn, UnaskedInTurn, Looked, Unlooked, AskedMember, UnaskedMember, FoundNobody, Unfound, Learned, Departed, Undeparted, Pulled}
use Rattle.lg_loops.specs.Support.Took.{Took}

pub follows-append : (p m q : PassValue) (turns : List Turn) (t : Turn) → Follows p turns m → IsTurn m t q → Follows p (turns ++ t ∷ []) q
follows-append p m q [] t before last = (q, subst (λ (o : PassValue). IsTurn o t q) before last, refl)
follows-append p m q (s ∷ turns) t before last = (before.0, before.1, follows-append before.0 m q turns t before.2 last)

-- turns of one kind, and one more of it
pub made_more : (kind : Turn → Bool) (tells : Bool) (turns : List Turn) (t : Turn) (a b c : LinkValue) (p m q : PassValue)
    → Made kind tells turns a b p m → kind t ≡ true → IsTurn m t q → (tells ≡ true → c.log ≡ b.log ++ deeds t) → c.failed ≡ b.failed + breaks t
    → Made kind tells (turns ++ t ∷ []) a c p q
made_more kind tells turns t a b c p m q made is turn told failed = record {
  kinds = All-append (λ s. kind s ≡ true) turns (t ∷ []) made.kinds (All-cons (λ s. kind s ≡ true) t [] is (All-nil (λ s. kind s ≡ true)));
  follows = follows-append p m q turns t made.follows turn;
  told = λ yes. told yes ∙ (ap (λ (l : List LinkEvent). l ++ deeds t) (made.told yes) ∙ (append_assoc a.log (flat_map deeds turns) (deeds t)
      ∙ ap (λ (l : List LinkEvent). a.log ++ l) (ap (λ (l : List LinkEvent). flat_map deeds turns ++ l) (sym (append-nil (deeds t))) ∙ sym (flat_map-append deeds turns (t ∷ [])))));
  failed = omega (arith, failed, made.failed, sum_by-append breaks turns (t ∷ []));
}

pub counts_more : (turns : List Turn) (t : Turn) (dropped unsent n : ℕ) → Counts turns dropped unsent n → Counts (turns ++ t ∷ []) (dropped + drops t) (unsent + losses t) (n + 1)
counts_more turns t dropped unsent n was = record {
  dropped_is = omega (arith, was.dropped_is, sum_by-append drops turns (t ∷ []));
  unsent_is = omega (arith, was.unsent_is, sum_by-append losses turns (t ∷ []));
  turns_is = omega (arith, was.turns_is, length-append turns (t ∷ []));
}

-- a turn ends no loop as stopped, nor by the bound
abbrev pub is_of_turn : Why → Bool
is_of_turn Stopped = false
is_of_turn ReadBound = false
is_of_turn why = true

abbrev are_of_turn : Option Why → Bool
are_of_turn None = true
are_of_turn (Some why) = is_of_turn why

ousted_of_turn : (b : Bool) → are_of_turn (if b then Some Ousted else None) ≡ true
ousted_of_turn true = refl
ousted_of_turn false = refl

stops_of_turn : (t : Turn) → are_of_turn (stops t) ≡ true
stops_of_turn (Quiet limit) = refl
stops_of_turn Broken = refl
stops_of_turn (Dropped source bytes) = refl
stops_of_turn (Heard now source bytes k r sent) = ousted_of_turn r.reply.ousted
stops_of_turn (Unheard now source bytes e) = refl
stops_of_turn (Paused now) = refl
stops_of_turn (Ticked now words r sent) = ousted_of_turn r.reply.ousted
stops_of_turn (Unticked now words e) = refl
stops_of_turn (Unseen e) = refl
stops_of_turn (AskedSeed now peer r sent) = ousted_of_turn r.reply.ousted
stops_of_turn (UnaskedSeed now peer e) = refl
stops_of_turn (AskedInTurn now peer r sent) = ousted_of_turn r.reply.ousted
stops_of_turn (UnaskedInTurn now peer e) = refl
stops_of_turn (Looked now seen asks) = refl
stops_of_turn (Unlooked now) = refl
stops_of_turn (AskedMember now words seen peer r sent) = ousted_of_turn r.reply.ousted
stops_of_turn (UnaskedMember now words seen peer e) = refl
stops_of_turn (FoundNobody now seen) = refl
stops_of_turn (Unfound now) = refl
stops_of_turn (Learned now found) = refl
stops_of_turn (Departed now words r sent) = refl
stops_of_turn (Undeparted now words e) = refl
stops_of_turn (Pulled now peer r sent) = refl

pub of_turn : (t : Turn) (why : Why) → stops t ≡ Some why → is_of_turn why ≡ true
of_turn t why is = sym (ap are_of_turn is) ∙ stops_of_turn t

pub not_bound : (t : Turn) (why : Why) → stops t ≡ Some why → why ≡ ReadBound → ⊥
not_bound t why is bound = let e : is_of_turn ReadBound ≡ true = subst (λ (w : Why). is_of_turn w ≡ true) bound (of_turn t why is) in absurd cc

pub ends_by : (bound : ℕ) (before : List Turn) (t : Turn) (why : Why) → All goes_on before → stops t ≡ Some why → Ends bound (before ++ t ∷ []) why
ends_by bound before t Stopped on is = absurd (let e = of_turn t Stopped is in cc)
ends_by bound before t ReadBound on is = absurd (let e = of_turn t ReadBound is in cc)
ends_by bound before t Ousted on is = record { before = before; last = t; are = refl; went_on = on; ended = is }
ends_by bound before t LinkFailed on is = record { before = before; last = t; are = refl; went_on = on; ended = is }
ends_by bound before t (Refused e) on is = record { before = before; last = t; are = refl; went_on = on; ended = is }

-- The turns of a loop so far: none of them ended it.
pub record Going (kind : Turn → Bool) (tells : Bool) (a b : LinkValue) (p q : PassValue) (dropped unsent n : ℕ) : Type 0 where
  pub turns : List Turn
  pub made : Made kind tells turns a b p q
  pub counts : Counts turns dropped unsent n
  pub went_on : All goes_on turns

unfoldable pub none_yet : (kind : Turn → Bool) (tells : Bool) (a : LinkValue) (p : PassValue) → Going kind tells a a p p 0 0 0
none_yet kind tells a p = record {
  turns = [];
  made = record { kinds = All-nil (λ s. kind s ≡ true); follows = refl; told = λ yes. sym (append-nil a.log); failed = omega arith };
  counts = record { dropped_is = refl; unsent_is = refl; turns_is = refl };
  went_on = All-nil goes_on;
}

-- a turn more, which doesn't end the loop
unfoldable pub on : (kind : Turn → Bool) (tells : Bool) (a b c : LinkValue) (p m q : PassValue) (dropped unsent n : ℕ) (turned : Turned)
    → Going kind tells a b p m dropped unsent n → Took kind tells b c m q turned → turned.why ≡ None
    → Going kind tells a c p q (dropped + turned.dropped) (unsent + turned.unsent) (n + 1)
on kind tells a b c p m q dropped unsent n turned going took none = record {
  turns = going.turns ++ took.turn ∷ [];
  made = made_more kind tells going.turns took.turn a b c p m q going.made took.kind_is took.is took.told took.failed;
  counts = rw (took.dropped, took.unsent) (counts_more going.turns took.turn dropped unsent n going.counts);
  went_on = All-append goes_on going.turns (took.turn ∷ []) going.went_on (All-cons goes_on took.turn [] (took.why ∙ none) (All-nil goes_on));
}

-- a turn more, which ends it
unfoldable pub over : (kind : Turn → Bool) (tells : Bool) (bound : ℕ) (a b c : LinkValue) (p m q : PassValue) (dropped unsent n : ℕ) (turned : Turned) (why : Why)
    → Going kind tells a b p m dropped unsent n → Took kind tells b c m q turned → turned.why ≡ Some why
    → Ran kind tells bound a c p q (record { why = why; dropped = dropped + turned.dropped; unsent = unsent + turned.unsent; turns = n + 1 })
over kind tells bound a b c p m q dropped unsent n turned why going took some = record {
  turns = going.turns ++ took.turn ∷ [];
  made = made_more kind tells going.turns took.turn a b c p m q going.made took.kind_is took.is took.told took.failed;
  counts = rw (took.dropped, took.unsent) (counts_more going.turns took.turn dropped unsent n going.counts);
  why = ends_by bound going.turns took.turn why going.went_on (took.why ∙ some);
}

-- it was stopped, or made as many turns as it may
unfoldable pub stopped : (kind : Turn → Bool) (tells : Bool) (bound : ℕ) (a b : LinkValue) (p q : PassValue) (dropped unsent n : ℕ) → Going kind tells a b p q dropped unsent n
    → Ran kind tells bound a b p q (record { why = Stopped; dropped = dropped; unsent = unsent; turns = n })
stopped kind tells bound a b p q dropped unsent n going = record { turns = going.turns; made = going.made; counts = going.counts; why = going.went_on }

unfoldable pub bounded : (kind : Turn → Bool) (tells : Bool) (bound : ℕ) (a b : LinkValue) (p q : PassValue) (dropped unsent n : ℕ) → n ≡ bound → Going kind tells a b p q dropped unsent n
    → Ran kind tells bound a b p q (record { why = ReadBound; dropped = dropped; unsent = unsent; turns = n })
bounded kind tells bound a b p q dropped unsent n is going = record { turns = going.turns; made = going.made; counts = going.counts; why = (going.went_on, sym going.counts.turns_is ∙ is) }

-- more words
pub threw-append : {D : Type 0} (throws : D → List ℕ → D → Type 0) (d m e : D) (ws vs : List (List ℕ)) → Threw throws d ws m → Threw throws m vs e → Threw throws d (ws ++ vs) e
threw-append throws d m e [] vs before last = subst (λ x. Threw throws x vs e) before last
threw-append throws d m e (w ∷ ws) vs before last = (before.0, before.1, threw-append throws before.0 m e ws vs before.2 last)

pub threw_more : {D : Type 0} (throws : D → List ℕ → D → Type 0) (d m e : D) (turns : List Turn) (t : Turn) → Threw throws d (flat_map words_in turns) m → Threw throws m (words_in t) e
    → Threw throws d (flat_map words_in (turns ++ t ∷ [])) e
threw_more throws d m e turns t before last =
    let is : flat_map words_in (turns ++ t ∷ []) ≡ flat_map words_in turns ++ words_in t = flat_map-append words_in turns (t ∷ []) ∙ ap (λ (l : List (List ℕ)). flat_map words_in turns ++ l) (append-nil (words_in t)) in
    rw is (threw-append throws d m e (flat_map words_in turns) (words_in t) before last)
