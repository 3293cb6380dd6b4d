-- The words of a line, the commands that they name, and how many words each takes.
use Rattle.std.specs.Prelude.{ℕ, Bool, not, ◌==◌, nat_le, ◌&&◌, List, length, Option, Some, None, codes, find}
use Rattle.std.specs.Prelude.{if◌then◌else◌, option_and_then, ◌-◌}
use Rattle.std.specs.List.{list_all, slice_split}
use Rattle.std.specs.Str.{bytes_eq}
use Rattle.lg_timing.specs.Meaning.Config.{is_within}
use Rattle.lg_script.specs.declared.verb.Verb.{Verb}
use Rattle.lg_script.specs.declared.verb.Verb.TheVariants.{Set, Open, Tick, Deliver, Ask, Health, Pull, Leave, Table}

-- the parts of a line between its spaces; a line with no space is one part
abbrev pub parts_of : List ℕ → List (List ℕ)
parts_of line = slice_split (λ b. b == 32) line

-- whether a part is a word: it isn't empty
abbrev pub is_filled : List ℕ → Bool
is_filled part = not (length part == 0)

-- the command that a word names, if it names one
unfoldable pub verb_of : List ℕ → Option Verb
verb_of word =
    if bytes_eq word (codes "set") then Some Set
    else if bytes_eq word (codes "open") then Some Open
    else if bytes_eq word (codes "tick") then Some Tick
    else if bytes_eq word (codes "deliver") then Some Deliver
    else if bytes_eq word (codes "ask") then Some Ask
    else if bytes_eq word (codes "health") then Some Health
    else if bytes_eq word (codes "pull") then Some Pull
    else if bytes_eq word (codes "leave") then Some Leave
    else if bytes_eq word (codes "table") then Some Table
    else None

-- the command that the first word of a line names
abbrev pub verb_in : List (List ℕ) → Option Verb
verb_in parts = option_and_then verb_of (find is_filled parts)

-- whether a command takes this many words after its name; `open` takes any number of seeds
abbrev pub takes_words : Verb → ℕ → Bool
takes_words Set words = words == 2
takes_words Open words = nat_le 3 words
takes_words Tick words = is_within 2 10 words
takes_words Deliver words = words == 2
takes_words Ask words = words == 3
takes_words Health words = words == 2
takes_words Pull words = words == 3
takes_words Leave words = is_within 2 10 words
takes_words Table words = words == 1

-- whether the parts of a line are words, separated by single spaces, and as many as the command takes
abbrev pub are_words_of : Verb → List (List ℕ) → Bool
are_words_of verb parts = takes_words verb (length parts - 1) && list_all is_filled parts
