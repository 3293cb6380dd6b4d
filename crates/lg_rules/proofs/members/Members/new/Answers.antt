use Rattle.std.proofs.Common.{refl, sym, subst, ap, ◌∙◌, replicate, map, List}
use Rattle.lg_rules.specs.declared.claim.Claim.{Claim}
use Rattle.lg_rules.specs.Meaning.Claim.{name_of}
use Rattle.lg_rules.specs.Meaning.Rows.{name_cmp, Rises}
use Rattle.lg_rules.specs.Meaning.Table.{live_in}
use Rattle.lg_rules.proofs.Naming.{naming-nil}
use Rattle.lg_rules.proofs.Numbering.{held-none, none-numbered}
use Rattle.lg_rules.proofs.Tables.{table-nil}
use Rattle.lg_rules.proofs.members.Members.new.Goals as goal

pub returns : goal.returns
returns c = λ i. record {
  own = c.args.own.now;
  forgets = c.args.forgets;
  table = (c.new.ensures ∙ sym (table-nil c.args.forgets c.args.own.now)) i;
  names = (held-none c.args.own.now c.new.result.items (replicate 255 255) c.new.ensures refl
      ∙ sym (naming-nil c.args.forgets c.args.own.now)) i;
}

pub invariant_of-result : goal.invariant_of-result
invariant_of-result c = record {
  rows = record {
    rises = subst (λ (rs : List Claim). Rises name_cmp (map name_of rs)) (sym c.new.ensures) tt;
    counted = ap live_in (sym c.new.ensures);
  };
  names = none-numbered c.args.own.now c.new.result.items c.new-2.result.items (replicate 255 255) c.new.ensures
      c.new-2.ensures refl;
}
