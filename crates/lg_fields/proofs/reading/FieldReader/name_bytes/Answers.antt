use Rattle.std.proofs.Common.{ap, ◌∙◌, ◌≤◌, length, arith}
use Rattle.std.specs.Option.{ok_or}
use Rattle.std.specs.Result.{result_ok}
use Rattle.lg_packet.specs.declared.fault.Fault.TheVariants as faults
use Rattle.lg_packet.proofs.NameFields.{name_whole}
use Rattle.lg_fields.proofs.reading.FieldReader.name_bytes.Goals as goal

pub returns : goal.returns
returns c =
    let enough : c.args.len ≤ length c.args.self.now.rest.now = omega arith in
    let made = c.ok_or.ensures.value ∙ ap (λ o. ok_or o faults.Name) (c.ok.ensures.value ∙ ap result_ok c.new.ensures) in
    name_whole c.args.len c.args.self.now.rest.now c.split_at.result.0.now c.split_at.result.1.now c.ok_or.result
    c.requires.some c.requires.few enough c.split_at.ensures.front c.split_at.ensures.back made
