-- The line of a packet that is sent, by its parts, and the lines of several, with one more behind them.
use Rattle.std.proofs.Common.{◌≡◌, ℕ, ◌+◌, ◌<◌, List, [], ◌∷◌, ◌++◌, length, take, get_or, codes, decimal, sym, ap, ◌∙◌, arith, append-nil, append_assoc, length-take-le}
use Rattle.std.proofs.lemmas.List.{take_more}
use Rattle.lg_detector.specs.declared.reply.Outgoing.{Outgoing}
use Rattle.lg_text.specs.Meaning.Addresses.{addr_text}
use Rattle.lg_lines.specs.Meaning.Replies.{packet_text, send_line, sends_text}

-- one packet more: its number is behind those of the packets before it
sends_text-more : (k : ℕ) (before : List Outgoing) (s : Outgoing)
    → sends_text k (before ++ s ∷ []) ≡ sends_text k before ++ send_line (k + length before) s
sends_text-more k [] s = append-nil (send_line k s) ∙ ap (λ (n : ℕ). send_line n s) (omega arith)
sends_text-more k (x ∷ xs) s =
    ap (λ (rest : List ℕ). send_line k x ++ rest) (sends_text-more (k + 1) xs s)
    ∙ ap (λ (n : ℕ). send_line k x ++ (sends_text (k + 1) xs ++ send_line n s)) (omega arith)
    ∙ sym (append_assoc (send_line k x) (sends_text (k + 1) xs) _)

-- the same for the packet at an index
sends_text-at : (k i : ℕ) (sends : List Outgoing) (s : Outgoing) → i < length sends → s ≡ get_or sends i s
    → sends_text k (take (i + 1) sends) ≡ sends_text k (take i sends) ++ send_line (k + i) s
sends_text-at k i sends s within is =
    ap (λ (ss : List Outgoing). sends_text k ss) (take_more sends i s within ∙ ap (λ (x : Outgoing). take i sends ++ x ∷ []) (sym is))
    ∙ sends_text-more k (take i sends) s
    ∙ ap (λ (n : ℕ). sends_text k (take i sends) ++ send_line (k + n) s) (length-take-le i sends (omega arith))

-- a text of the lines so far, with the next one behind it
pub send_written : (k i number : ℕ) (sends : List Outgoing) (s : Outgoing) (text now next : List ℕ) → i < length sends → s ≡ get_or sends i s
    → number ≡ k + i → now ≡ text ++ sends_text k (take i sends) → next ≡ now ++ send_line number s
    → (number + 1 ≡ k + (i + 1)) × (next ≡ text ++ sends_text k (take (i + 1) sends))
send_written k i number sends s text now next within is numbered so_far line = (
  omega arith,
  line ∙ ap (λ (xs : List ℕ). xs ++ send_line number s) so_far ∙ append_assoc text (sends_text k (take i sends)) (send_line number s)
      ∙ ap (λ (n : ℕ). text ++ (sends_text k (take i sends) ++ send_line n s)) numbered
      ∙ ap (λ (xs : List ℕ). text ++ xs) (sym (sends_text-at k i sends s within is)),
)

joined : (text word number to bytes : List ℕ) → text ++ (word ++ number) ++ 32 ∷ [] ++ to ++ 32 ∷ [] ++ bytes ++ 10 ∷ []
    ≡ text ++ (word ++ number ++ 32 ∷ [] ++ to ++ 32 ∷ [] ++ bytes ++ 10 ∷ [])
joined text word number to bytes = simp append_assoc

-- the parts of a line, put behind a text one after another
pub line_written : (k : ℕ) (s : Outgoing) (text t1 t2 t3 t4 t5 t6 : List ℕ)
    → t1 ≡ text ++ (codes "send " ++ decimal k) → t2 ≡ t1 ++ 32 ∷ [] → t3 ≡ t2 ++ addr_text s.to → t4 ≡ t3 ++ 32 ∷ []
    → t5 ≡ t4 ++ packet_text s.packet → t6 ≡ t5 ++ 10 ∷ [] → t6 ≡ text ++ send_line k s
line_written k s text t1 t2 t3 t4 t5 t6 e1 e2 e3 e4 e5 e6 =
    rw (e6, e5, e4, e3, e2, e1) (joined text (codes "send ") (decimal k) (addr_text s.to) (packet_text s.packet))
