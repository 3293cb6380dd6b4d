use Rattle.std.proofs.Common.{◌≡◌, ◌++◌, map, string_bytes, take}
use Rattle.lg_config.specs.Meaning.Quoting.{shown_byte}
use Rattle.lg_config.proofs.quoting.put_shown.Given as goal

-- the bytes so far
abbrev pub invariant-loop-byte : goal.invariant-loop-byte
invariant-loop-byte l =
    string_bytes l.shown ≡ string_bytes l.initial.shown ++ map shown_byte (take l.byte-index l.text)
