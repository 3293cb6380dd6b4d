use Rattle.std.proofs.Common.{◌≡◌, ◌+◌, take}
use Rattle.std.specs.List.{count_by}
use Rattle.lg_text.specs.Meaning.Cutting.{is_byte}
use Rattle.lg_config.proofs.reasons.line_at.Given as goal

-- one more than the newlines so far
abbrev pub invariant-loop-byte : goal.invariant-loop-byte
invariant-loop-byte l = l.line ≡ count_by (is_byte 10) (take l.byte-index (take l.place l.text)) + 1
