-- The lines in words: who starts, which address was found, why a socket can't be bound, why a file can't be read, and
-- why a status server ended early (this project's choice).
use Rattle.std.specs.Prelude.{ℕ, ◌==◌, List, ◌++◌, codes, decimal, length, if◌then◌else◌, Option, Some, None}
use Rattle.std.specs.declared.io.ErrorKind.{ErrorKind}
use Rattle.std.specs.declared.io.ErrorKind.TheVariants as error
use Rattle.lg_rules.specs.declared.addr.Addr.{Addr}
use Rattle.lg_text.specs.Meaning.Lines.{newline}
use Rattle.lg_text.specs.Meaning.Addresses.{addr_text}
use Rattle.lg_config.specs.declared.node.NodeConfig.{NodeConfig}

abbrev pub seed_count : ℕ → List ℕ
seed_count n = if n == 1 then codes "1 seed" else decimal n ++ codes " seeds"

-- the file of a configuration, or that there is none
abbrev pub file_words : Option (List ℕ) → List ℕ
file_words (Some file) = codes "file " ++ file
file_words None = codes "no file"

-- lg: NAME at A.B.C.D:PORT, file FILE, wire VERSION, N seeds
abbrev pub start_line : Option (List ℕ) → NodeConfig → List ℕ
start_line file n =
    let seeds = seed_count (length n.seeds.items) ++ newline in
    let format = codes ", wire " ++ (decimal n.config.wire ++ (codes ", " ++ seeds)) in
    codes "lg: " ++ (n.config.name ++ (codes " at " ++ (addr_text n.config.addr
    ++ (codes ", " ++ (file_words file ++ format)))))

-- lg: the address auto is A.B.C.D:PORT
abbrev pub auto_line : Addr → List ℕ
auto_line addr = codes "lg: the address auto is " ++ (addr_text addr ++ newline)

-- why an address that is to be found isn't
abbrev pub unfound_reason : List ℕ
unfound_reason = codes "the address auto wasn't found: no seed resolves to an address that this machine reaches\n"

-- why an address can't be bound, by the kind of the error
abbrev pub bind_words : ErrorKind → List ℕ
bind_words error.AddrInUse = codes "the address is in use"
bind_words error.AddrNotAvailable = codes "the address isn't one of this machine's"
bind_words error.PermissionDenied = codes "permission is denied"
bind_words error.OutOfMemory = codes "memory is refused"
bind_words _ = codes "the machine refuses it"

-- A.B.C.D:PORT can't be bound: WHY
abbrev pub link_reason : Addr → ErrorKind → List ℕ
link_reason addr kind = addr_text addr ++ (codes " can't be bound: " ++ (bind_words kind ++ newline))

-- why a file can't be read, by the kind of the error
abbrev pub read_words : ErrorKind → List ℕ
read_words error.NotFound = codes "there is no such file"
read_words error.IsADirectory = codes "it is a folder"
read_words error.NotADirectory = codes "a part of its path is no folder"
read_words error.PermissionDenied = codes "permission is denied"
read_words _ = codes "the machine refuses it"

-- the file FILE can't be read: WHY
abbrev pub read_reason : List ℕ → ErrorKind → List ℕ
read_reason file kind = codes "the file " ++ (file ++ (codes " can't be read: " ++ (read_words kind ++ newline)))
