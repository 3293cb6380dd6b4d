-- The parts of a reply, put behind a text one after another.
use Rattle.std.proofs.Common.{◌≡◌, ℕ, List, ◌++◌, append_assoc}
use Rattle.lg_rules.specs.declared.claim.Claim.{Claim}
use Rattle.lg_detector.specs.declared.reply.Outgoing.{Outgoing}
use Rattle.lg_detector.specs.declared.reply.Reply.{Reply}
use Rattle.lg_fields.specs.Meaning.Spelled.{spelled_count, spelled_flag, spelled_records}
use Rattle.lg_recording.specs.Meaning.Spelling.{spelled_fired, spelled_sends, spelled_names, spelled_answer, spelled_reply}

joined : (text a b c d e f g : List ℕ) → ((((((text ++ a) ++ b) ++ c) ++ d) ++ e) ++ f) ++ g ≡ text ++ (a ++ (b ++ (c ++ (d ++ (e ++ (f ++ g))))))
joined text a b c d e f g = simp append_assoc

pub reply_written : (r : Reply) (sends : List Outgoing) (changed : List Claim) (names : List (List ℕ)) (text t1 t2 t3 t4 t5 t6 t7 : List ℕ)
    → sends ≡ r.sends.items → changed ≡ r.changed.items → names ≡ r.forgotten.items
    → t1 ≡ text ++ spelled_fired r.fired → t2 ≡ t1 ++ spelled_sends sends → t3 ≡ t2 ++ spelled_records changed → t4 ≡ t3 ++ spelled_names names
    → t5 ≡ t4 ++ spelled_answer r.answer → t6 ≡ t5 ++ spelled_flag r.ousted → t7 ≡ t6 ++ spelled_count r.next → t7 ≡ text ++ spelled_reply r
unfolding spelled_reply
reply_written r sends changed names text t1 t2 t3 t4 t5 t6 t7 es ec en e1 e2 e3 e4 e5 e6 e7 =
    rw (e7, e6, e5, e4, e3, e2, e1, es, ec, en) (joined text (spelled_fired r.fired) (spelled_sends r.sends.items) (spelled_records r.changed.items) (spelled_names r.forgotten.items) (spelled_answer r.answer) (spelled_flag r.ousted) (spelled_count r.next))
