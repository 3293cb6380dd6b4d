-- The end of the program: its status, and what it tells of an output that is cut off (this project's choice).
use Rattle.std.specs.Prelude.{◌==◌, ℕ, List, ◌++◌, codes, Bool, true, false, if◌then◌else◌}
use Rattle.lg_text.specs.Meaning.Lines.{newline}

-- the lines for an output that is cut off
abbrev pub cut_text : List ℕ
cut_text = codes "lg: write" ++ newline ++ codes "standard output took nothing for 2 s" ++ newline

-- the status of the program: that of its command, but 1 in place of 0 if the output is cut off
abbrev pub end_status : ℕ → Bool → ℕ
end_status status true = if status == 0 then 1 else status
end_status status false = status
