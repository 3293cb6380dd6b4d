-- Which file gives keys, and what is told of one that gives none (this project's choice).
use Rattle.std.specs.Prelude.{◌≡◌, ℕ, ◌==◌, Bool, ◌||◌, not, bit_and, List, [], ◌++◌, codes, decimal}
use Rattle.std.specs.Prelude.{Option, Some, None, if◌then◌else◌}
use Rattle.lg_text.specs.Meaning.Reporting.{Reported}
use Rattle.lg_seal.specs.declared.fault.KeyFault.{KeyFault}
use Rattle.lg_seal.specs.declared.fault.KeyFault.TheVariants.{NoKey, BadLine, TooManyLines, SameKeys}
use Rattle.lg_run.specs.declared.key_file.NoKeys.{NoKeys}
use Rattle.lg_run.specs.declared.key_file.NoKeys.TheVariants as none
use Rattle.lg_run.specs.declared.told.Told.TheVariants.{Key, Memory}
use Rattle.lg_run.specs.Meaning.Reporting.{ReportsBoth, TellsLine}
use Rattle.lg_run.specs.Meaning.Telling.{line_of, status_told}

-- the bits of a mode by which others than its owner may read a file, write to it or run it
abbrev pub bits_of_others : ℕ
bits_of_others = 0o077

-- whether a file belongs to root, whose number is 0, or to the user who runs the node, if it is known who that is
abbrev pub is_owner : Option ℕ → ℕ → Bool
is_owner None owner = owner == 0
is_owner (Some user) owner = (owner == 0) || (owner == user)

-- Why an opened file gives no keys, by whether it is a regular file, its owner and its mode. The first of these counts:
-- it is no regular file, it belongs to another user, others can use it.
abbrev pub refused_by : (is_file : Bool) (user : Option ℕ) (owner mode : ℕ) → Option NoKeys
refused_by is_file user owner mode =
    if not is_file then Some none.Irregular
    else if not (is_owner user owner) then Some none.Foreign
    else if bit_and mode bits_of_others == 0 then None
    else Some none.Shared

-- a file gives no text that could have keys
abbrev pub IsTextless : NoKeys → Type 0
IsTextless none.Memory = Unit {0}
IsTextless none.Read = Unit {0}
IsTextless none.Irregular = Unit {0}
IsTextless none.Foreign = Unit {0}
IsTextless none.Shared = Unit {0}
IsTextless (none.Text fault) = ⊥

-- line N of the key file isn't 64 hex digits
abbrev pub bad_line : ℕ → List ℕ
bad_line number = codes "line " ++ (decimal number ++ codes " of the key file isn't 64 hex digits\n")

-- why a text spells no keys
abbrev pub key_fault_line : KeyFault → List ℕ
key_fault_line NoKey = codes "the key file has no key\n"
key_fault_line (BadLine number) = bad_line number
key_fault_line TooManyLines = codes "the key file has more than two lines\n"
key_fault_line SameKeys = codes "both keys of the key file are the same\n"

-- why a file gives no keys; there is no line if memory was refused
abbrev pub no_keys_line : NoKeys → List ℕ
no_keys_line none.Memory = []
no_keys_line none.Read = codes "the key file can't be read\n"
no_keys_line none.Irregular = codes "the key file is no regular file\n"
no_keys_line none.Foreign = codes "the key file belongs to another user\n"
no_keys_line none.Shared = codes "others than its owner can use the key file\n"
no_keys_line (none.Text fault) = key_fault_line fault

-- what is told in two lines
pub record TellsKey (reported reports : Reported) (second : List ℕ) (status : ℕ) : Type 0 where
  pub lines : ReportsBoth reported reports (line_of Key) second
  pub is : status ≡ status_told Key

-- A file gives no keys: that memory was refused is told, or else why, in two lines.
abbrev pub TellsNoKeys : (reported reports : Reported) → NoKeys → (status : ℕ) → Type 0
TellsNoKeys reported reports none.Memory status = TellsLine reported reports Memory status
TellsNoKeys reported reports none.Read status = TellsKey reported reports (no_keys_line none.Read) status
TellsNoKeys reported reports none.Irregular status = TellsKey reported reports (no_keys_line none.Irregular) status
TellsNoKeys reported reports none.Foreign status = TellsKey reported reports (no_keys_line none.Foreign) status
TellsNoKeys reported reports none.Shared status = TellsKey reported reports (no_keys_line none.Shared) status
TellsNoKeys reported reports (none.Text fault) status = TellsKey reported reports (key_fault_line fault) status
