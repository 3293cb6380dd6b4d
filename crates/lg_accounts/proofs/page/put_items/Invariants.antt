use Rattle.std.proofs.Common.{◌≡◌, ◌++◌, map, string_bytes, take}
use Rattle.std.specs.List.{flat_map}
use Rattle.lg_accounts.specs.Meaning.Pages.{note_item}
use Rattle.lg_accounts.specs.Meaning.Values.{note_value}
use Rattle.lg_accounts.proofs.page.put_items.Given as goal

-- the entries so far
abbrev pub invariant-loop-note : goal.invariant-loop-note
invariant-loop-note l =
    string_bytes l.text ≡ string_bytes l.initial.text ++ flat_map note_item (map note_value (take l.note-index l.notes))
