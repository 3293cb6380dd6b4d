-- One more packet is handed to a link.
use Rattle.std.proofs.Common.{◌≡◌, ℕ, ◌+◌, ◌≤◌, Bool, true, false, not, cond, List, [], ◌∷◌, ◌++◌, length, refl, ap, sym, ◌∙◌, arith, append_assoc, length-append}
use Rattle.std.specs.Prelude.{Result, Ok, Err, is_ok, is_err, OnOk, OnErr}
use Rattle.std.proofs.lemmas.List.Sums.{sum_by-append}
use Rattle.lg_packet.specs.Meaning.Spelling.{spelling}
use Rattle.lg_detector.specs.declared.reply.Outgoing.{Outgoing}
use Rattle.lg_turns.specs.declared.link.LinkFault.{LinkFault}
use Rattle.lg_turns.specs.Meaning.Links.{LinkEvent, handed, lost, WereHanded}
use Rattle.lg_turns.specs.Meaning.Links.LinkEvent.{Handed}

pub handed-append : (sends : List Outgoing) (sent : List Bool) (o : Outgoing) (b : Bool) → length sent ≡ length sends
    → handed (sends ++ o ∷ []) (sent ++ b ∷ []) ≡ handed sends sent ++ Handed o.to (spelling o.packet) b ∷ []
handed-append [] [] o b same = refl
handed-append [] (x ∷ sent) o b same = absurd (omega arith)
handed-append (y ∷ sends) [] o b same = absurd (omega arith)
handed-append (y ∷ sends) (x ∷ sent) o b same = ap (λ l. Handed y.to (spelling y.packet) x ∷ l) (handed-append sends sent o b (omega arith))

pub lost-append : (sent : List Bool) (b : Bool) → lost (sent ++ b ∷ []) ≡ lost sent + lost (b ∷ [])
lost-append sent b = sum_by-append (λ (x : Bool). cond (not x) 1 0) sent (b ∷ [])

pub failed_more : (answer : Result (Unit {0}) LinkFault) (f g : ℕ) → OnOk answer (g ≡ f) → OnErr answer (g ≡ f + 1) → g ≡ f + lost (is_ok answer ∷ [])
failed_more (Ok x) f g ok err = let h : g ≡ f = ok in omega (arith, h)
failed_more (Err x) f g ok err = err

pub lost_if : (answer : Result (Unit {0}) LinkFault) (b : Bool) → b ≡ is_err answer → lost (is_ok answer ∷ []) ≡ cond b 1 0
lost_if (Ok x) b is = rw is refl
lost_if (Err x) b is = rw is refl

pub one_handed : (tells : Bool) (log log' log'' : List LinkEvent) (f f' f'' : ℕ) (sends : List Outgoing) (o : Outgoing) (unsent : ℕ) (answer : Result (Unit {0}) LinkFault)
    → WereHanded tells log log' f f' sends unsent
    → (tells ≡ true → log'' ≡ log' ++ Handed o.to (spelling o.packet) (is_ok answer) ∷ []) → OnOk answer (f'' ≡ f') → OnErr answer (f'' ≡ f' + 1)
    → WereHanded tells log log'' f f'' (sends ++ o ∷ []) (unsent + lost (is_ok answer ∷ []))
one_handed tells log log' log'' f f' f'' sends o unsent answer was told ok err =
    let b : Bool = is_ok answer in
    let last : List LinkEvent = Handed o.to (spelling o.packet) b ∷ [] in
    let more : f'' ≡ f' + lost (b ∷ []) = failed_more answer f' f'' ok err in
    record {
      sent = was.sent ++ b ∷ [];
      each = omega (arith, length-append was.sent (b ∷ []), length-append sends (o ∷ []), was.each);
      told = λ yes. told yes ∙ (ap (λ (l : List LinkEvent). l ++ last) (was.told yes) ∙ (append_assoc log (handed sends was.sent) last ∙ ap (λ (l : List LinkEvent). log ++ l) (sym (handed-append sends was.sent o b was.each))));
      unsent_is = omega (arith, lost-append was.sent b, was.unsent_is);
      failed_is = omega (arith, more, was.failed_is);
    }

pub lost_one : (b : Bool) → lost (b ∷ []) ≤ 1
lost_one true = omega arith
lost_one false = omega arith
