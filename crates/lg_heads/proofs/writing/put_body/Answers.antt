use Rattle.lg_heads.specs.Meaning.Heads.{head_value}
use Rattle.lg_heads.proofs.Written.{body_written}
use Rattle.lg_heads.proofs.writing.put_body.Goals as goal

pub returns : goal.returns
returns c =
    body_written (head_value c.args.head.now) _ _ _ _ _ _ _ _ _ _ c.milliseconds.ensures.milliseconds
    c.in_ok-put_label.ensures.put c.in_ok-put_config.ensures.put c.in_ok-put_text.ensures.put c.in_ok-put_text-2.ensures.put
    c.in_ok-put_count.ensures.put c.in_ok-put_count-2.ensures.put c.in_ok-put_count-3.ensures.put c.in_ok-put_before.ensures
