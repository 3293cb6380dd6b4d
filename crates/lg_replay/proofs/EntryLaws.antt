-- What is told of an entry, and what is known behind it, by the due reply.
use Rattle.std.proofs.Common.{◌≡◌, ℕ, ◌+◌, Bool, true, false, cond, List, [], ◌∷◌, ◌++◌, length, Option, Some, None, refl, sym, ap, subst, ◌∙◌, arith, append_assoc}
use Rattle.std.specs.Prelude.{unwrap_or}
use Rattle.lg_detector.specs.Meaning.Step.{is_accepted, reply_after}
use Rattle.lg_detector.specs.declared.event.Event.{Event}
use Rattle.lg_detector.specs.declared.reply.Reply.{Reply}
use Rattle.lg_history.specs.Meaning.History.{Entry}
use Rattle.lg_replay.specs.Meaning.Entries.{entry_lines, entry_text, loss_text}
use Rattle.lg_replay.specs.Meaning.Lives.{Life, due_reply, life_with, past_with, told_of_entry}
use Rattle.lg_replay.specs.Meaning.Verdicts.{verdict_by, verdict_on}
use Rattle.lg_replay.specs.Meaning.Words.{unchecked_line}
use Rattle.lg_replay.specs.Support.Counted.{HasCounts}
use Rattle.lg_replay.specs.Support.Known.{HoldsPast, IsDue, IsKnown, lost_text}
use Rattle.lg_replay.specs.Support.Replayed.{HasCome, RanEntry}
use Rattle.lg_replay.specs.declared.known.Known.{Known}
use Rattle.lg_replay.specs.declared.replayer.Replayer.{Replayer}
use Rattle.lg_replay.specs.declared.verdict.Verdict.{Verdict}
use Rattle.lg_replay.specs.declared.verdict.Verdict.TheVariants.{Unchecked}
use Rattle.lg_replay.specs.declared.window.Window.{Window}

is_some : (b : Bool) (x r : Reply) → cond b (Some x) None ≡ Some r → b ≡ true
is_some true x r e = refl
is_some false x r e = absurd cc

is_none : (b : Bool) (x : Reply) → cond b (Some x) None ≡ None → b ≡ false
is_none true x e = absurd cc
is_none false x e = refl

-- without a due reply an entry can't be checked
pub unjudged : (is_due : Bool) (r : Reply) (due : Option Reply) (x : Entry) → is_due ≡ false → IsDue is_due r due → Unchecked ≡ verdict_by due x
unfolding verdict_by
unjudged true r due x e none = absurd cc
unjudged false r due x e none = ap (λ (d : Option Reply). verdict_by d x) (sym none)

-- the line before an entry from which on nothing can be checked
pub loss_is : (k : Known) (past : Option (List Event)) (e : Event) (is_due : Bool) (r : Reply) (number : ℕ) → HoldsPast k past → IsDue is_due r (due_reply past e)
    → lost_text number k.is_known is_due ≡ loss_text number past e
unfolding loss_text due_reply
loss_is k None e is_due r number holds due = ap (λ (b : Bool). lost_text number b is_due) holds
loss_is k (Some f) e true r number holds due =
    let yes : is_accepted (f ++ e ∷ []) ≡ true = is_some (is_accepted (f ++ e ∷ [])) (reply_after f e) r due in
    ap (λ (b : Bool). lost_text number b true) holds.known
    ∙ sym (ap (λ (b : Bool). cond b [] (unchecked_line number)) yes)
loss_is k (Some f) e false r number holds due =
    let no : is_accepted (f ++ e ∷ []) ≡ false = is_none (is_accepted (f ++ e ∷ [])) (reply_after f e) due in
    ap (λ (b : Bool). lost_text number b false) holds.known
    ∙ sym (ap (λ (b : Bool). cond b [] (unchecked_line number)) no)

written : (text loss lines t1 t2 : List ℕ) → t1 ≡ text ++ loss → t2 ≡ t1 ++ lines → t2 ≡ text ++ (loss ++ lines)
written text loss lines t1 t2 first second = second ∙ ap (λ (t : List ℕ). t ++ lines) first ∙ append_assoc text loss lines

pub entry_ran : (old new : Replayer) (k2 k3 : Known) (text t1 t2 : List ℕ) (window : Window) (number first : ℕ) (x : Entry) (life : Life) (verdicts : List Verdict)
    (is_due : Bool) (due told : Reply) (verdict : Verdict)
    → HasCome old life verdicts
    → ((past : Option (List Event)) → HoldsPast old.known past → HoldsPast k2 (past_with past x.event))
    → k2.sent ≡ old.known.sent
    → ((past : Option (List Event)) → HoldsPast old.known past → IsDue is_due due (due_reply past x.event))
    → t1 ≡ text ++ lost_text number old.known.is_known is_due
    → ((r : Option Reply) → IsDue is_due due r → verdict ≡ verdict_by r x)
    → first ≡ k2.sent + 1
    → ((r : Option Reply) → IsDue is_due due r → told ≡ unwrap_or r x.reply)
    → t2 ≡ t1 ++ entry_lines window first x.event told x.reply verdict
    → k3.sent ≡ k2.sent + length told.sends.items
    → ((past : Option (List Event)) → HoldsPast k2 past → HoldsPast k3 past)
    → new.known ≡ k3
    → ((vs : List Verdict) → HasCounts old.counts vs → HasCounts new.counts (vs ++ verdict ∷ []))
    → RanEntry new text t2 window number x life verdicts
unfolding entry_text
entry_ran old new k2 k3 text t1 t2 window number first x life verdicts is_due due told verdict come past sent dues loss judged numbered tells lines counted kept is counts =
    let due_is = dues life.past come.known.past in
    let told_is : told ≡ told_of_entry life.past x = tells (due_reply life.past x.event) due_is in
    let verdict_is : verdict ≡ verdict_on life x = judged (due_reply life.past x.event) due_is in
    let first_is : first ≡ life.sent + 1 = omega (arith, numbered, sent, come.known.sent) in
    let loss_was : lost_text number old.known.is_known is_due ≡ loss_text number life.past x.event =
    loss_is old.known life.past x.event is_due due number come.known.past due_is in
    let lines_are : entry_lines window first x.event told x.reply verdict ≡ entry_lines window (life.sent + 1) x.event (told_of_entry life.past x) x.reply (verdict_on life x) =
    ap (λ (n : ℕ). entry_lines window n x.event told x.reply verdict) first_is
    ∙ ap (λ (r : Reply). entry_lines window (life.sent + 1) x.event r x.reply verdict) told_is
    ∙ ap (λ (v : Verdict). entry_lines window (life.sent + 1) x.event (told_of_entry life.past x) x.reply v) verdict_is in
    let sent_is : k3.sent ≡ life.sent + length (told_of_entry life.past x).sends.items =
    lines_count life.sent told (told_of_entry life.past x) told_is lines_sent in
    record {
      come = record {
        known =
            subst (λ (k : Known). IsKnown k (life_with life x)) (sym is) (record {
              past = kept (past_with life.past x.event) (past life.past come.known.past);
              sent = sent_is;
            });
        counts = subst (λ (v : Verdict). HasCounts new.counts (verdicts ++ v ∷ [])) verdict_is (counts verdicts come.counts);
      };
      writes = written text _ _ t1 t2 (loss ∙ ap (λ (l : List ℕ). text ++ l) loss_was) (lines ∙ ap (λ (l : List ℕ). t1 ++ l) lines_are);
    }
  where
    lines_sent : k3.sent ≡ life.sent + length told.sends.items
    lines_sent = omega (arith, counted, sent, come.known.sent)

    lines_count : (n : ℕ) (r s : Reply) → r ≡ s → k3.sent ≡ n + length r.sends.items → k3.sent ≡ n + length s.sends.items
    lines_count n r s e is = subst (λ (y : Reply). k3.sent ≡ n + length y.sends.items) e is
