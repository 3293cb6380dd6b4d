-- What the parts of reading a file give.
use Rattle.std.specs.Prelude.{◌≡◌, ℕ, Bool, true, false, nat_le, List, length}
use Rattle.std.specs.Prelude.{Some, None, Result, Ok, Err}
use Rattle.std.specs.Borrow.{Bor}
use Rattle.std.specs.Str.{is_utf8}
use Rattle.std.specs.Prelude.{String}
use Rattle.std.specs.BTreeMap.{BTreeMap}
use Rattle.std.specs.declared.alloc.Global.{Global}
use Rattle.toml.specs.Errors.{IsBlank, IsWithin}
use Rattle.toml.specs.Parse.{parse_document}
use Rattle.toml.specs.View.{table_view}
use Rattle.toml.specs.declared.value.Value.{Value}
use Rattle.lg_config.specs.declared.document.Unread.{Unread}
use Rattle.lg_config.specs.declared.document.Unread.TheVariants as unread
use Rattle.lg_config.specs.declared.fault.FileFault.TheVariants as fault
use Rattle.lg_config.specs.declared.fault.ReadFault.{ReadFault}
use Rattle.lg_config.specs.declared.fault.ReadFault.TheVariants.{NoMemory, File}
use Rattle.lg_config.specs.Meaning.Answer.{document_of, document_with, is_text_file, TakesMemory}
use Rattle.lg_config.specs.Meaning.Bounds.{most_bytes}
use Rattle.lg_config.specs.Meaning.Options.{Options}

-- whether bytes are few enough for a file
abbrev pub are_few : List ℕ → Bool
are_few bytes = nat_le (length bytes) most_bytes

-- why bytes are no document, or that memory was refused, of which this is known
abbrev pub IsUnread : (memory : Type 0) → List ℕ → Unread → Type 0
IsUnread memory bytes unread.NoMemory = memory
IsUnread memory bytes unread.TooLong = are_few bytes ≡ false
IsUnread memory bytes unread.NoUtf8 = (are_few bytes ≡ true) × (is_utf8 bytes ≡ false)
IsUnread memory bytes (unread.NoToml error) =
    (are_few bytes ≡ true) × (is_utf8 bytes ≡ true) × (parse_document bytes ≡ None) × IsWithin bytes error

-- the text that bytes spell, or why they spell none
abbrev pub IsText : List ℕ → Result (Bor (List ℕ)) Unread → Type 0
IsText bytes (Ok text) = (text.now ≡ bytes) × (are_few bytes ≡ true) × (is_utf8 bytes ≡ true)
IsText bytes (Err unread.NoMemory) = ⊥
IsText bytes (Err unread.TooLong) = are_few bytes ≡ false
IsText bytes (Err unread.NoUtf8) = (are_few bytes ≡ true) × (is_utf8 bytes ≡ false)
IsText bytes (Err (unread.NoToml error)) = ⊥

-- what parsing bytes gives
abbrev pub IsParsed : List ℕ → Result (BTreeMap (String Global) Value) Unread → Type 0
IsParsed bytes (Ok table) = document_of bytes ≡ Some (table_view table)
IsParsed bytes (Err why) = IsUnread ((is_text_file bytes ≡ true) × ¬ (IsBlank bytes)) bytes why

-- the same with options
abbrev pub IsTableWith : Options → List ℕ → Result (BTreeMap (String Global) Value) Unread → Type 0
IsTableWith options bytes (Ok table) = document_with options bytes ≡ Some (table_view table)
IsTableWith options bytes (Err why) = IsUnread (TakesMemory options bytes) bytes why

-- the fault of a file that wasn't read as a document
abbrev pub SaysUnread : Unread → ReadFault → Type 0
SaysUnread unread.NoMemory told = told ≡ NoMemory
SaysUnread unread.TooLong told = told ≡ File fault.Syntax
SaysUnread unread.NoUtf8 told = told ≡ File fault.Syntax
SaysUnread (unread.NoToml error) told = told ≡ File fault.Syntax
