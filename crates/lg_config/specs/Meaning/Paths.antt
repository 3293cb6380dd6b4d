-- Which texts are paths of files and folders (this project's choice).
use Rattle.std.specs.Prelude.{ℕ, Bool, ◌&&◌, List, length, Option, Some, None, if◌then◌else◌}
use Rattle.std.specs.List.{list_all}
use Rattle.lg_timing.specs.Meaning.Keys.{is_within}
use Rattle.lg_config.specs.Meaning.Bounds.{most_path_bytes}

-- whether a byte may stand in a path: it is printable ASCII, so that a terminal takes it for nothing else
abbrev pub is_path_byte : ℕ → Bool
is_path_byte b = is_within 32 126 b

-- the path that a text is; None if it has no bytes, too many, or one that may not stand in a path
abbrev pub is_path : List ℕ → Bool
is_path text = is_within 1 most_path_bytes (length text) && list_all is_path_byte text

abbrev pub path_of : List ℕ → Option (List ℕ)
path_of text = if is_path text then Some text else None
