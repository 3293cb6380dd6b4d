use Rattle.std.proofs.Common.{◌≡◌, false, cond, Some, sym, ap, refl, ◌∙◌, map}
use Rattle.lg_rules.specs.declared.members.Heard.TheVariants.{Overrode}
use Rattle.lg_rules.specs.Meaning.Claim.{name_of}
use Rattle.lg_rules.specs.Meaning.Rows.{name_cmp, row_at}
use Rattle.lg_rules.specs.Meaning.Table.{takes, standing_hearing}
use Rattle.lg_rules.proofs.Numbering.{keys-set}
use Rattle.lg_rules.proofs.Tables.{takes-row}
use Rattle.lg_rules.proofs.records.hear_known.Goals as goal

pub returns-then-beats-clause-names : goal.returns-then-beats-clause-names
returns-then-beats-clause-names c =
    ap (map name_of) c.replace.ensures.rows
    ∙ keys-set name_of c.args.claim.now.name c.args.claim.now c.args.records.now.items c.args.at c.requires.has refl

pub returns-else-beats-clause-hearing : goal.returns-else-beats-clause-hearing
returns-else-beats-clause-hearing c = λ forgets.
    let rows = c.args.records.now.items in
    let claim = c.args.claim.now in
    let beaten = c.index.result.now in
    let standing = c.index-else-beats.result.now in
    let first : row_at name_cmp name_of claim.name rows ≡ Some beaten =
    c.requires.has.found beaten ∙ ap Some (sym c.index.ensures) in
    let second : row_at name_cmp name_of claim.name rows ≡ Some standing =
    c.requires.has.found standing ∙ ap Some (sym c.index-else-beats.ensures) in
    let passed : takes forgets rows claim ≡ false =
    takes-row forgets rows claim beaten first ∙ sym c.beats.ensures ∙ c.if-beats.false in
    c.standing_hearing.ensures forgets
    ∙ ap (standing_hearing forgets claim) (sym second)
    ∙ sym (ap (λ b. cond b Overrode (standing_hearing forgets claim (row_at name_cmp name_of claim.name rows))) passed)
