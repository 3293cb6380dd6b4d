use Rattle.std.proofs.Common.{◌≡◌, ◌++◌, OnOk, codes, string_bytes, subst}
use Rattle.lg_check.specs.Meaning.Checks.{key_line}
use Rattle.lg_check.proofs.lines.put_leave.Goals as goal

-- the word that was put is that of the switch
pub returns : goal.returns
returns c =
    let before = string_bytes c.args.text.now in
    subst
    (λ word. OnOk c.put_key.result
    (string_bytes c.put_key.new.text ≡ before ++ key_line (codes "leave") word c.args.leave))
    c.switch_spelled.ensures c.put_key.ensures
