use Rattle.std.proofs.Common.{◌≡◌, ◌++◌, OnOk, not, codes, string_bytes, subst}
use Rattle.lg_check.specs.Meaning.Checks.{key_line}
use Rattle.lg_check.proofs.lines.put_status_open.Goals as goal

-- the word that was put is that of the truth value
pub returns : goal.returns
returns c =
    let before = string_bytes c.args.text.now in
    let mark = not c.args.is_open in
    subst
    (λ word. OnOk c.put_key.result
    (string_bytes c.put_key.new.text ≡ before ++ key_line (codes "status_open") word mark))
    c.truth_spelled.ensures c.put_key.ensures
