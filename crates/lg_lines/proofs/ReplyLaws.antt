-- The lines of a reply, by their parts.
use Rattle.std.proofs.Common.{◌≡◌, ℕ, List, ◌++◌, append_assoc}
use Rattle.lg_rules.specs.declared.claim.Claim.{Claim}
use Rattle.lg_detector.specs.declared.event.Event.{Event}
use Rattle.lg_detector.specs.declared.reply.Outgoing.{Outgoing}
use Rattle.lg_detector.specs.declared.reply.Reply.{Reply}
use Rattle.lg_lines.specs.Meaning.Records.{table_text}
use Rattle.lg_lines.specs.Meaning.Replies.{answer_line, fired_text, forgotten_text, next_text, ousted_text, reply_text, sends_text}

joined : (text a b c d e f g : List ℕ) → text ++ a ++ b ++ c ++ d ++ e ++ f ++ g ≡ text ++ (a ++ b ++ c ++ d ++ e ++ f ++ g)
joined text a b c d e f g = simp append_assoc

-- the parts, put behind a text one after another
pub reply_written : (event : Event) (k : ℕ) (r : Reply) (text t1 t2 t3 t4 t5 t6 t7 : List ℕ) (sends : List Outgoing) (changed : List Claim) (names : List (List ℕ))
    → sends ≡ r.sends.items → changed ≡ r.changed.items → names ≡ r.forgotten.items
    → t1 ≡ text ++ fired_text event r.fired → t2 ≡ t1 ++ answer_line r.answer → t3 ≡ t2 ++ sends_text k sends → t4 ≡ t3 ++ table_text changed
    → t5 ≡ t4 ++ forgotten_text names → t6 ≡ t5 ++ ousted_text r.ousted → t7 ≡ t6 ++ next_text r.next → t7 ≡ text ++ reply_text event k r
unfolding reply_text
reply_written event k r text t1 t2 t3 t4 t5 t6 t7 sends changed names are_sent are_changed are_names e1 e2 e3 e4 e5 e6 e7 =
    rw (e7, e6, e5, e4, e3, e2, e1, are_sent, are_changed, are_names)
    (joined text (fired_text event r.fired) (answer_line r.answer) (sends_text k r.sends.items) (table_text r.changed.items)
    (forgotten_text r.forgotten.items) (ousted_text r.ousted) (next_text r.next))
