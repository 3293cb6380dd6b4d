use Rattle.std.proofs.Common.{◌≡◌, ◌++◌, ap, ◌∙◌, codes, string_bytes, ℕ}
use Rattle.lg_timing.specs.Meaning.Timeouts.{range_of}
use Rattle.lg_timing.specs.declared.config.Config.{Config}
use Rattle.lg_commands.specs.Meaning.Timeouts.{after_lines, config_of, ms_line, range_text, timeouts_text}
use Rattle.lg_commands.proofs.TimeoutLaws.{good_is_checked, joined}
use Rattle.lg_commands.proofs.timeouts.timeouts.Goals as goal

pub new-timeout-requires-clause-checked : goal.new-timeout-requires-clause-checked
new-timeout-requires-clause-checked c = rw c.config_of.ensures (good_is_checked c.args.numbers.now c.requires)

pub returns : goal.returns
unfolding timeouts_text
returns c =
    let n = c.args.numbers.now in
    let r = c.new-timeout.result in
    let is : r ≡ range_of n.members (config_of n) = c.new-timeout.ensures ∙ ap (λ (config : Config). range_of n.members config) c.config_of.ensures in
    joined _ _ _ _ (ms_line (codes "min") r.min) (ms_line (codes "max") r.max) (after_lines r) c.new-text.ensures.bytes
    (c.in_ok-writeln.ensures.bytes ∙ ap (λ (ms : ℕ). string_bytes c.new-text.result ++ ms_line (codes "min") ms) c.min_ms.ensures)
    (c.in_ok-writeln-2.ensures.bytes ∙ ap (λ (ms : ℕ). string_bytes c.writeln.new.self ++ ms_line (codes "max") ms) c.max_ms.ensures)
    c.in_ok-put_after.ensures
    ∙ ap range_text is
