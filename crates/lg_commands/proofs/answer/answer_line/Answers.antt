use Rattle.std.proofs.Common.{◌≡◌, ◌/◌, List, ◌++◌, IsTrue, Err, Ok, length, ap, ap₂, arith, length-take-le, subst, sym, ◌∙◌}
use Rattle.std.specs.List.{flat_map}
use Rattle.lg_rules.specs.declared.addr.Addr.{Addr}
use Rattle.lg_detector.specs.Support.Step.{accepts_of}
use Rattle.lg_detector.specs.declared.event.Event.{Event as Happened}
use Rattle.lg_detector.specs.declared.event.Event.TheVariants.{Heard}
use Rattle.lg_detector.specs.declared.reply.Outgoing.{Outgoing}
use Rattle.lg_commands.specs.Meaning.Answering.{heard_event, sent_line}
use Rattle.lg_commands.specs.Meaning.Spelled.{packet_in}
use Rattle.lg_commands.specs.declared.line.LineFault.TheVariants.{NotHex, Refused}
use Rattle.lg_commands.proofs.HexLines.{not_hex, spelled}
use Rattle.lg_commands.proofs.HeardLines.{after_fault, after_packet, end_of_fault, end_of_packet, text_of_fault, text_of_packet}
use Rattle.lg_commands.proofs.answer.answer_line.Goals as goal

pub returns-in_err-put_fault-clause-after : goal.returns-in_err-put_fault-clause-after
returns-in_err-put_fault-clause-after c =
    let half = length-take-le (length c.args.line.now / 2) c.args.bytes.now (omega arith) in
    let is : Err NotHex ≡ packet_in c.args.line.now = not_hex _ _ c.decode_to_slice.result _ half c.decode_to_slice.ensures.value (sym c.if-is_err.ensures.value) in
    after_fault _ _ is _

pub returns-then-is_err-clause-text : goal.returns-then-is_err-clause-text
returns-then-is_err-clause-text c =
    let half = length-take-le (length c.args.line.now / 2) c.args.bytes.now (omega arith) in
    let is : Err NotHex ≡ packet_in c.args.line.now = not_hex _ _ c.decode_to_slice.result _ half c.decode_to_slice.ensures.value (sym c.if-is_err.ensures.value) in
    text_of_fault _ _ is _ _ _ c.in_ok-put_fault.ensures

pub returns-then-is_err-clause-after : goal.returns-then-is_err-clause-after
returns-then-is_err-clause-after c =
    let half = length-take-le (length c.args.line.now / 2) c.args.bytes.now (omega arith) in
    let is : Err NotHex ≡ packet_in c.args.line.now = not_hex _ _ c.decode_to_slice.result _ half c.decode_to_slice.ensures.value (sym c.if-is_err.ensures.value) in
    after_fault _ _ is _

pub returns-then-is_err-clause-end : goal.returns-then-is_err-clause-end
returns-then-is_err-clause-end c =
    let half = length-take-le (length c.args.line.now / 2) c.args.bytes.now (omega arith) in
    let is : Err NotHex ≡ packet_in c.args.line.now = not_hex _ _ c.decode_to_slice.result _ half c.decode_to_slice.ensures.value (sym c.if-is_err.ensures.value) in
    end_of_fault _ _ is

pub step-requires : goal.step-requires
step-requires c =
    let is : ◌≡◌ {A = Happened} (Heard c.default.result c.local.result c.in-Ok.packet) (heard_event c.in-Ok.packet) = ap₂ (λ m (a : Addr). Heard m a c.in-Ok.packet) c.default.ensures c.local.ensures in
    subst (λ (e : Happened). IsTrue (accepts_of c.args.detector.now e)) (sym is) (c.requires.accepts.accepts c.in-Ok.packet)

pub returns-in_err-put_sends-in-Ok-clause-after : goal.returns-in_err-put_sends-in-Ok-clause-after
returns-in_err-put_sends-in-Ok-clause-after c =
    let half = length-take-le (length c.args.line.now / 2) c.args.bytes.now (omega arith) in
    let is : Ok c.in-Ok.packet ≡ packet_in c.args.line.now = spelled _ _ c.decode_to_slice.result _ half c.decode_to_slice.ensures.value (sym c.if-is_err.ensures.value) _ (sym c.decode.ensures.exact ∙ c.in-Ok.is) in
    let event : ◌≡◌ {A = Happened} (Heard c.default.result c.local.result c.in-Ok.packet) (heard_event c.in-Ok.packet) = ap₂ (λ m (a : Addr). Heard m a c.in-Ok.packet) c.default.ensures c.local.ensures in
    after_packet _ _ is _ event _ _ c.step.ensures.after

pub returns-in_err-put_fault-in-Err-clause-after : goal.returns-in_err-put_fault-in-Err-clause-after
returns-in_err-put_fault-in-Err-clause-after c =
    let half = length-take-le (length c.args.line.now / 2) c.args.bytes.now (omega arith) in
    let is : Err (Refused c.in-Err.fault) ≡ packet_in c.args.line.now = spelled _ _ c.decode_to_slice.result _ half c.decode_to_slice.ensures.value (sym c.if-is_err.ensures.value) _ (sym c.decode.ensures.exact ∙ c.in-Err.is) in
    after_fault _ _ is _

pub returns-in_ok-put_sends-in-Ok-clause-text : goal.returns-in_ok-put_sends-in-Ok-clause-text
returns-in_ok-put_sends-in-Ok-clause-text c =
    let half = length-take-le (length c.args.line.now / 2) c.args.bytes.now (omega arith) in
    let is : Ok c.in-Ok.packet ≡ packet_in c.args.line.now = spelled _ _ c.decode_to_slice.result _ half c.decode_to_slice.ensures.value (sym c.if-is_err.ensures.value) _ (sym c.decode.ensures.exact ∙ c.in-Ok.is) in
    let event : ◌≡◌ {A = Happened} (Heard c.default.result c.local.result c.in-Ok.packet) (heard_event c.in-Ok.packet) = ap₂ (λ m (a : Addr). Heard m a c.in-Ok.packet) c.default.ensures c.local.ensures in
    text_of_packet _ _ is _ event _ _ c.step.ensures.answer _ _
    (c.in_ok-put_sends-in-Ok.ensures ∙ ap (λ (sends : List Outgoing). c.args.text.now.items ++ flat_map sent_line sends) c.as_slice.ensures.value)

pub returns-in_ok-put_sends-in-Ok-clause-after : goal.returns-in_ok-put_sends-in-Ok-clause-after
returns-in_ok-put_sends-in-Ok-clause-after c =
    let half = length-take-le (length c.args.line.now / 2) c.args.bytes.now (omega arith) in
    let is : Ok c.in-Ok.packet ≡ packet_in c.args.line.now = spelled _ _ c.decode_to_slice.result _ half c.decode_to_slice.ensures.value (sym c.if-is_err.ensures.value) _ (sym c.decode.ensures.exact ∙ c.in-Ok.is) in
    let event : ◌≡◌ {A = Happened} (Heard c.default.result c.local.result c.in-Ok.packet) (heard_event c.in-Ok.packet) = ap₂ (λ m (a : Addr). Heard m a c.in-Ok.packet) c.default.ensures c.local.ensures in
    after_packet _ _ is _ event _ _ c.step.ensures.after

pub returns-in_ok-put_sends-in-Ok-clause-end : goal.returns-in_ok-put_sends-in-Ok-clause-end
returns-in_ok-put_sends-in-Ok-clause-end c =
    let half = length-take-le (length c.args.line.now / 2) c.args.bytes.now (omega arith) in
    let is : Ok c.in-Ok.packet ≡ packet_in c.args.line.now = spelled _ _ c.decode_to_slice.result _ half c.decode_to_slice.ensures.value (sym c.if-is_err.ensures.value) _ (sym c.decode.ensures.exact ∙ c.in-Ok.is) in
    end_of_packet _ _ is

pub returns-in_ok-put_fault-in-Err-clause-text : goal.returns-in_ok-put_fault-in-Err-clause-text
returns-in_ok-put_fault-in-Err-clause-text c =
    let half = length-take-le (length c.args.line.now / 2) c.args.bytes.now (omega arith) in
    let is : Err (Refused c.in-Err.fault) ≡ packet_in c.args.line.now = spelled _ _ c.decode_to_slice.result _ half c.decode_to_slice.ensures.value (sym c.if-is_err.ensures.value) _ (sym c.decode.ensures.exact ∙ c.in-Err.is) in
    text_of_fault _ _ is _ _ _ c.in_ok-put_fault-in-Err.ensures

pub returns-in_ok-put_fault-in-Err-clause-after : goal.returns-in_ok-put_fault-in-Err-clause-after
returns-in_ok-put_fault-in-Err-clause-after c =
    let half = length-take-le (length c.args.line.now / 2) c.args.bytes.now (omega arith) in
    let is : Err (Refused c.in-Err.fault) ≡ packet_in c.args.line.now = spelled _ _ c.decode_to_slice.result _ half c.decode_to_slice.ensures.value (sym c.if-is_err.ensures.value) _ (sym c.decode.ensures.exact ∙ c.in-Err.is) in
    after_fault _ _ is _

pub returns-in_ok-put_fault-in-Err-clause-end : goal.returns-in_ok-put_fault-in-Err-clause-end
returns-in_ok-put_fault-in-Err-clause-end c =
    let half = length-take-le (length c.args.line.now / 2) c.args.bytes.now (omega arith) in
    let is : Err (Refused c.in-Err.fault) ≡ packet_in c.args.line.now = spelled _ _ c.decode_to_slice.result _ half c.decode_to_slice.ensures.value (sym c.if-is_err.ensures.value) _ (sym c.decode.ensures.exact ∙ c.in-Err.is) in
    end_of_fault _ _ is
