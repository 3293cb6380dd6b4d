use Rattle.std.proofs.Common.{◌≡◌, ℕ, ◌∷◌, ◌++◌, length, decimal, ap, ◌∙◌, rules}
use Rattle.std.proofs.Transfers.{starts_with_trans}
use Rattle.lg_lines.proofs.RecordLaws.{addr_written}
use Rattle.lg_lines.proofs.records.put_ipv4.Goals as goal

pub returns-clause-put : goal.returns-clause-put
returns-clause-put c =
    let four : length c.args.octets.now ≡ 4 = search rules in
    addr_written c.args.octets.now _ _ _ _ _ _ _ _ _ _ _ four c.from.ensures c.from-2.ensures c.from-3.ensures c.from-4.ensures
    c.in_ok-put_number.ensures.put c.in_ok-put_numbered.ensures.put c.in_ok-put_numbered-2.ensures.put c.in_ok-put_numbered-3.ensures.put
    (c.in_ok-put_numbered-4.ensures.put ∙ ap (λ (port : ℕ). c.put_numbered-3.new.text.items ++ (58 ∷ decimal port)) c.from-5.ensures)

pub returns-in_err-put_numbered-clause-front : goal.returns-in_err-put_numbered-clause-front
returns-in_err-put_numbered-clause-front c = starts_with_trans _ _ _ c.put_numbered.ensures.front c.put_number.ensures.front

pub returns-in_err-put_numbered-2-clause-front : goal.returns-in_err-put_numbered-2-clause-front
returns-in_err-put_numbered-2-clause-front c = starts_with_trans _ _ _ c.put_numbered-2.ensures.front (starts_with_trans _ _ _ c.put_numbered.ensures.front c.put_number.ensures.front)

pub returns-in_err-put_numbered-3-clause-front : goal.returns-in_err-put_numbered-3-clause-front
returns-in_err-put_numbered-3-clause-front c = starts_with_trans _ _ _ c.put_numbered-3.ensures.front (starts_with_trans _ _ _ c.put_numbered-2.ensures.front (starts_with_trans _ _ _ c.put_numbered.ensures.front c.put_number.ensures.front))

pub returns-in_err-put_numbered-4-clause-front : goal.returns-in_err-put_numbered-4-clause-front
returns-in_err-put_numbered-4-clause-front c = starts_with_trans _ _ _ c.put_numbered-4.ensures.front (starts_with_trans _ _ _ c.put_numbered-3.ensures.front (starts_with_trans _ _ _ c.put_numbered-2.ensures.front (starts_with_trans _ _ _ c.put_numbered.ensures.front c.put_number.ensures.front)))

pub returns-clause-front : goal.returns-clause-front
returns-clause-front c = starts_with_trans _ _ _ c.put_numbered-4.ensures.front (starts_with_trans _ _ _ c.put_numbered-3.ensures.front (starts_with_trans _ _ _ c.put_numbered-2.ensures.front (starts_with_trans _ _ _ c.put_numbered.ensures.front c.put_number.ensures.front)))
