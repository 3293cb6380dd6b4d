use Rattle.std.proofs.Common.{◌∙◌, ap, decimal}
use Rattle.lg_follow.proofs.LineLaws.{line_written}
use Rattle.lg_follow.proofs.lines.put_line.Goals as goal

pub returns : goal.returns
returns c =
    line_written c.args.moment c.args.claim.now c.args.text.now.items _ _ _ _ (c.as_bytes.ensures.value ∙ (c.format.ensures.text ∙ ap decimal c.milliseconds.ensures.milliseconds))
    c.in_ok-extend_from_slice.ensures.items c.in_ok-extend_from_slice-2.ensures.items c.in_ok-put_table.ensures.put
