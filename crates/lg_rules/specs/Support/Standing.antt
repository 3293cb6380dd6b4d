-- What a member knows of itself and of the others after a past, and once it heard some claims about anyone, one after
-- another; and which of the claims change a record.
use Rattle.std.specs.Prelude.{ℕ, Bool, true, false, if◌then◌else◌, List, [], ◌∷◌}
use Rattle.lg_rules.specs.declared.addr.Addr.{Addr}
use Rattle.lg_rules.specs.declared.claim.Claim.{Claim}
use Rattle.lg_rules.specs.declared.own.OwnHeard.{OwnHeard}
use Rattle.lg_rules.specs.declared.own.OwnHeard.TheVariants.{Refuted, Raised, Ousted, Ignored}
use Rattle.lg_rules.specs.Meaning.Own.{OwnValue, OwnFact, own_hearing, own_heard, own_of, own_record}
use Rattle.lg_rules.specs.Meaning.Rows.{name_cmp, is_same}
use Rattle.lg_rules.specs.Meaning.Table.{table_of, takes, heard}
use Rattle.lg_rules.specs.Meaning.View.{view_of}

-- what a member knows of itself, whether it forgets, and the records of the others
pub record Standing : Type 0 where
  pub own : OwnValue
  pub forgets : Bool
  pub table : List Claim

abbrev pub standing_of : Bool → List ℕ → Addr → List OwnFact → Standing
standing_of forgets name addr past =
    record { own = own_of name addr past; forgets = forgets; table = table_of forgets name past }

-- the member table, with this member's own record
abbrev pub standing_view : Standing → List Claim
standing_view m = view_of (own_record m.own) m.table

-- what a member knows once it heard a claim about anyone
unfoldable pub hear_claim : Standing → Claim → Standing
hear_claim m c =
    if is_same name_cmp c.name m.own.name
    then record m { own = own_heard m.own c }
    else record m { table = heard m.forgets m.table c }

-- whether a claim changes a record: it raises this member's incarnation, or it is about another and is taken
abbrev pub is_rise : OwnHeard → Bool
is_rise Refuted = true
is_rise Raised = true
is_rise Ousted = false
is_rise Ignored = false

unfoldable pub changes_record : Standing → Claim → Bool
changes_record m c =
    if is_same name_cmp c.name m.own.name then is_rise (own_hearing m.own c) else takes m.forgets m.table c

-- what a member knows once it heard these claims, the first one first; and the names whose records they changed
abbrev pub standing_after : Standing → List Claim → Standing
standing_after m [] = m
standing_after m (c ∷ cs) = standing_after (hear_claim m c) cs

abbrev pub changed_names : Standing → List Claim → List (List ℕ)
changed_names m [] = []
changed_names m (c ∷ cs) =
    let rest = changed_names (hear_claim m c) cs in
    if changes_record m c then c.name ∷ rest else rest
