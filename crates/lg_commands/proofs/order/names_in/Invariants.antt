use Rattle.std.proofs.Common.{map}
use Rattle.lg_rules.specs.Meaning.Name.{is_name}
use Rattle.lg_commands.proofs.ListLaws.{HasRead}
use Rattle.lg_commands.proofs.order.names_in.Given as goal

-- each part so far is a name
abbrev pub invariant-loop-part : goal.invariant-loop-part
invariant-loop-part l = HasRead is_name (λ p. p) (map (λ p. p.now) l.yielded) l.names.items
