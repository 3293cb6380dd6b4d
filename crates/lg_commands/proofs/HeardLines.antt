-- What answering one line does, by what the line spells.
use Rattle.std.proofs.Common.{◌≡◌, ℕ, List, [], ◌∷◌, ◌++◌, Result, Ok, Err, cond, ap, ◌∙◌}
use Rattle.std.specs.List.{flat_map}
use Rattle.std.specs.Result.{is_err}
use Rattle.lg_packet.specs.declared.packet.Packet.{Packet}
use Rattle.lg_detector.specs.Meaning.Step.{reply_after}
use Rattle.lg_detector.specs.Support.Step.{state_after}
use Rattle.lg_detector.specs.Support.State.{State}
use Rattle.lg_detector.specs.declared.event.Event.{Event}
use Rattle.lg_detector.specs.declared.reply.Reply.{Reply}
use Rattle.lg_text.specs.Meaning.Lines.{newline}
use Rattle.lg_commands.specs.Meaning.Answering.{heard_event, line_reply, line_answer, sent_line}
use Rattle.lg_commands.specs.Meaning.Spelled.{fault_text, packet_in}
use Rattle.lg_commands.specs.Support.Hearing.{line_end, with_heard}
use Rattle.lg_text.specs.declared.end.RunEnd.TheVariants.{Done, Faulty}
use Rattle.lg_commands.specs.declared.line.LineFault.{LineFault}

-- ---- a faulty line

pub after_fault : (line : List ℕ) (fault : LineFault) → Err fault ≡ packet_in line → (s : State)
    → (earlier : List Event) → s ≡ state_after earlier → s ≡ state_after (with_heard earlier (packet_in line))
after_fault line fault is s earlier after = after ∙ ap (λ (d : Result Packet LineFault). state_after (with_heard earlier d)) is

pub text_of_fault : (line : List ℕ) (fault : LineFault) → Err fault ≡ packet_in line → (s : State) (text text' : List ℕ)
    → text' ≡ text ++ (fault_text fault ++ newline)
    → (earlier : List Event) → s ≡ state_after earlier → text' ≡ text ++ line_answer earlier line
text_of_fault line fault is s text text' put earlier after =
    put ∙ ap (λ (d : Result Packet LineFault). text ++ line_reply earlier d) is

pub end_of_fault : (line : List ℕ) (fault : LineFault) → Err fault ≡ packet_in line → Faulty ≡ line_end line
end_of_fault line fault is = ap (λ (d : Result Packet LineFault). cond (is_err d) Faulty Done) is

-- ---- a line that spells a packet

pub after_packet : (line : List ℕ) (packet : Packet) → Ok packet ≡ packet_in line → (event : Event) → event ≡ heard_event packet → (s s' : State)
    → ((earlier : List Event) → s ≡ state_after earlier → s' ≡ state_after (earlier ++ event ∷ []))
    → (earlier : List Event) → s ≡ state_after earlier → s' ≡ state_after (with_heard earlier (packet_in line))
after_packet line packet is event same s s' step earlier after =
    step earlier after ∙ ap (λ (e : Event). state_after (earlier ++ e ∷ [])) same
    ∙ ap (λ (d : Result Packet LineFault). state_after (with_heard earlier d)) is

pub text_of_packet : (line : List ℕ) (packet : Packet) → Ok packet ≡ packet_in line → (event : Event) → event ≡ heard_event packet → (s : State) (reply : Reply)
    → ((earlier : List Event) → s ≡ state_after earlier → reply ≡ reply_after earlier event)
    → (text text' : List ℕ) → text' ≡ text ++ flat_map sent_line reply.sends.items
    → (earlier : List Event) → s ≡ state_after earlier → text' ≡ text ++ line_answer earlier line
text_of_packet line packet is event same s reply answers text text' put earlier after =
    put ∙ ap (λ (r : Reply). text ++ flat_map sent_line r.sends.items) (answers earlier after ∙ ap (λ (e : Event). reply_after earlier e) same)
    ∙ ap (λ (d : Result Packet LineFault). text ++ line_reply earlier d) is

pub end_of_packet : (line : List ℕ) (packet : Packet) → Ok packet ≡ packet_in line → Done ≡ line_end line
end_of_packet line packet is = ap (λ (d : Result Packet LineFault). cond (is_err d) Faulty Done) is
