use Rattle.std.proofs.Common.{◌≡◌, map, take}
use Rattle.lg_c_values.specs.Meaning.Names.{c_name}
use Rattle.lg_c.proofs.reply.c_names.Given as goal

abbrev pub invariant-loop-name : goal.invariant-loop-name
invariant-loop-name l = l.row.items ≡ map c_name (take l.name-index l.names)
