use Rattle.std.specs.Prelude.{is_some, option_copied}
use Rattle.std.proofs.Common.{◌≡◌, ◌+◌, ◌-◌, false, map, get_or, ◌∙◌, ap, arith, rules}
use Rattle.lg_gossip.specs.Meaning.Queue.{queued_claim, rows_taken}
use Rattle.lg_gossip.proofs.Fewest.{rises-to, still_sent}
use Rattle.lg_gossip.proofs.choice.fewest_after.Goals as goal

pub returns-then-is_some : goal.returns-then-is_some
returns-then-is_some c rows o t l =
    still_sent (map queued_claim (rows_taken c.args.version (option_copied c.args.buddy) c.args.limit rows))
    c.args.fewest rows l

pub returns-in-empty : goal.returns-in-empty
returns-in-empty c rows o t l =
    let none : is_some (option_copied c.args.buddy) ≡ false = search rules in
    rises-to c.args.version (option_copied c.args.buddy) c.args.limit c.args.limit rows c.args.taken.now
    record { index = 0; sends = 0 } none o t
    (λ e. omega arith) (λ w. absurd (omega arith)) (λ e. absurd (omega arith))

pub returns-in-len2-up : goal.returns-in-len2-up
returns-in-len2-up c rows o t l =
    let none : is_some (option_copied c.args.buddy) ≡ false = search rules in
    let last =
    c.from.ensures ∙ ap (λ n. (get_or c.args.taken.now (n - 1) record { index = 0; sends = 0 }).sends)
    (c.if-taken-room.true ∙ c.most_claims-room.ensures.count) in
    rises-to c.args.version (option_copied c.args.buddy) c.args.limit c.min.result rows c.args.taken.now
    record { index = 0; sends = 0 } none o t
    (λ e. absurd (omega arith)) (λ w. omega (arith, c.from-in-len2-up.ensures, c.min.ensures)) (λ e. omega (arith, last, c.min.ensures))

pub returns-in-len1-up : goal.returns-in-len1-up
returns-in-len1-up c rows o t l =
    let none : is_some (option_copied c.args.buddy) ≡ false = search rules in
    rises-to c.args.version (option_copied c.args.buddy) c.args.limit (c.from-in-len1-up.result + 1) rows c.args.taken.now
    record { index = 0; sends = 0 } none o t
    (λ e. absurd (grind arith)) (λ w. omega (arith, c.from-in-len1-up.ensures)) (λ e. absurd (grind arith))
