-- One more seed is asked; and the passes of a fresh agent.
use Rattle.std.proofs.Common.{◌≡◌, ℕ, ◌+◌, Bool, true, List, [], ◌∷◌, ◌++◌, refl, ap, sym, ◌∙◌, arith, append-nil}
use Rattle.std.specs.List.{sum_by}
use Rattle.std.proofs.lemmas.List.Elements.{All-nil}
use Rattle.std.proofs.lemmas.List.Sums.{sum_by-append}
use Rattle.std.proofs.lemmas.List.Concat.{flat_map-append}
use Rattle.lg_rules.specs.declared.addr.Addr.{Addr}
use Rattle.lg_detector.specs.declared.event.Event.TheVariants as events
use Rattle.lg_agent.specs.declared.receipt.Receipt.{Receipt}
use Rattle.lg_agent.specs.Meaning.Values.{PassValue}
use Rattle.lg_agent.specs.Meaning.Calls.{IsCall}
use Rattle.lg_turns.specs.Meaning.Links.{WereHanded}
use Rattle.lg_turns.specs.Meaning.Asking.{Asked}
use Rattle.lg_turns.specs.Meaning.Turns.{Turn, LinkValue, is_pull, peers_in, losses}
use Rattle.lg_turns.specs.Meaning.Turns.Turn.{Pulled}
use Rattle.lg_loops.proofs.TurnLaws.{made_more}

pub asked_none : (tells : Bool) (a : LinkValue) (p : PassValue) → Asked tells [] a a p p 0
asked_none tells a p = record {
  turns = [];
  made = record { kinds = All-nil (λ s. is_pull s ≡ true); follows = refl; told = λ yes. sym (append-nil a.log); failed = omega arith };
  each = refl;
  unsent_is = refl;
}

pub asked_more : (tells : Bool) (seeds : List Addr) (seed : Addr) (now : ℕ) (r : Receipt) (a b c : LinkValue) (p m q : PassValue) (unsent more : ℕ)
    → Asked tells seeds a b p m unsent → IsCall m (events.Pull now seed) r q → WereHanded tells b.log c.log b.failed c.failed r.reply.sends.items more
    → Asked tells (seeds ++ seed ∷ []) a c p q (unsent + more)
asked_more tells seeds seed now r a b c p m q unsent more asked call handed =
    let t : Turn = Pulled now seed r handed.sent in
    let lost_now : sum_by losses (t ∷ []) ≡ more = omega (arith, handed.unsent_is) in
    record {
      turns = asked.turns ++ t ∷ [];
      made = made_more is_pull tells asked.turns t a b c p m q asked.made refl (call, handed.each) handed.told (omega (arith, handed.failed_is, handed.unsent_is));
      each = flat_map-append peers_in asked.turns (t ∷ []) ∙ ap (λ (l : List Addr). l ++ seed ∷ []) asked.each;
      unsent_is = omega (arith, sum_by-append losses asked.turns (t ∷ []), lost_now, asked.unsent_is);
    }
