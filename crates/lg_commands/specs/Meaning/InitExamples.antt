-- Worked rows of the file that `init` writes.
use Rattle.std.specs.Prelude.{◌≡◌, ℕ, ◌==◌, Bool, true, false, not, List, [], ◌∷◌, ◌++◌, codes, decimal, refl}
use Rattle.std.specs.Fmt.{digits}
use Rattle.std.specs.List.{filter, list_all, list_any}
use Rattle.std.specs.Str.{bytes_eq}
use Rattle.lg_timing.specs.declared.keys.Key.{Key}
use Rattle.lg_timing.specs.declared.keys.Key.TheVariants.{First, ForgetMs, HistoryLimit, Wire}
use Rattle.lg_timing.specs.Meaning.Keys.{key_name, keys, row_of}
use Rattle.lg_commands.specs.Meaning.Init.{init_lines}

-- whether a line sets a key: it isn't empty, and is no comment
abbrev sets : List ℕ → Bool
sets [] = false
sets (b ∷ bs) = not (b == 35)

in-force : filter sets init_lines
    ≡ codes "name = \"a\"" ∷ codes "wire = 3" ∷ codes "forget_ms = 86400000" ∷ codes "history_limit = 1000"
    ∷ codes "status = \"127.0.0.1:8946\"" ∷ []
in-force = refl

-- whether a comment has a key with its default
abbrev has_default : Key → Bool
has_default key =
    let line = codes "# " ++ (key_name key ++ (codes " = " ++ decimal (row_of key).default)) in
    list_any (bytes_eq line) init_lines

-- Of the numbers of a configuration each has its default in a comment, but for those that are set, and for `first`,
-- which is no key of a file.
without-default : filter (λ key. not (has_default key)) keys ≡ HistoryLimit ∷ Wire ∷ ForgetMs ∷ First ∷ []
unfolding digits
without-default = refl

-- the node's own numbers have their defaults in comments
own-numbers :
    list_all (λ line. list_any (bytes_eq line) init_lines)
    (codes "# pull_ms = 30000" ∷ codes "# stall_ms = 100" ∷ codes "# resolve_ms = 60000"
    ∷ codes "# record_mb = 64" ∷ [])
    ≡ true
own-numbers = refl
