-- The line in words about a file that couldn't be written (this project's choice).
use Rattle.std.specs.Prelude.{ℕ, List, ◌++◌, codes}
use Rattle.std.specs.declared.io.ErrorKind.{ErrorKind}
use Rattle.std.specs.declared.io.ErrorKind.TheVariants as error
use Rattle.lg_text.specs.Meaning.Lines.{newline}

-- why a file can't be written, by the kind of the error
abbrev pub write_words : ErrorKind → List ℕ
write_words error.NotFound = codes "its folder isn't there"
write_words error.NotADirectory = codes "a part of its path is no folder"
write_words error.IsADirectory = codes "it is a folder"
write_words error.PermissionDenied = codes "permission is denied"
write_words error.ReadOnlyFilesystem = codes "its disk can only be read"
write_words error.StorageFull = codes "no space is left"
write_words error.QuotaExceeded = codes "no space is left"
write_words error.FileTooLarge = codes "it would be too large"
write_words error.BrokenPipe = codes "nobody reads it"
write_words error.WriteZero = codes "it takes nothing"
write_words error.OutOfMemory = codes "memory is refused"
write_words _ = codes "the machine refuses it"

-- the file FILE can't be written: WHY
abbrev pub write_reason : List ℕ → ErrorKind → List ℕ
write_reason path kind =
    codes "the file " ++ (path ++ (codes " can't be written: " ++ (write_words kind ++ newline)))
