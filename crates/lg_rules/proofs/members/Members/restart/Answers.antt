use Rattle.std.proofs.Common.{refl, sym, subst, ap, ◌∙◌, replicate, map, List}
use Rattle.lg_rules.specs.declared.claim.Claim.{Claim}
use Rattle.lg_rules.specs.Meaning.Claim.{name_of}
use Rattle.lg_rules.specs.Meaning.Rows.{name_cmp, Rises}
use Rattle.lg_rules.specs.Meaning.Table.{live_in}
use Rattle.lg_rules.proofs.Naming.{naming-nil}
use Rattle.lg_rules.proofs.Numbering.{held-none, none-numbered}
use Rattle.lg_rules.proofs.Tables.{table-nil}
use Rattle.lg_rules.proofs.members.Members.restart.Goals as goal

pub returns : goal.returns
returns c =
    let own = c.args.own.now in
    let forgets = c.args.forgets in
    let names =
    held-none own c.clear.new.self.items (replicate 255 255) c.clear.ensures refl ∙ sym (naming-nil forgets own) in
    let table = c.clear.ensures ∙ sym (table-nil forgets own) in
    λ i. record { own = own; forgets = forgets; table = table i; names = names i }

pub invariant_of-self : goal.invariant_of-self
invariant_of-self c = record {
  rows = record {
    rises = subst (λ (rs : List Claim). Rises name_cmp (map name_of rs)) (sym c.clear.ensures) tt;
    counted = ap live_in (sym c.clear.ensures);
  };
  names = none-numbered c.args.own.now c.clear.new.self.items c.clear-2.new.self.items (replicate 255 255) c.clear.ensures
      c.clear-2.ensures refl;
}
