-- The moment of the last of some entries.
use Rattle.std.proofs.Common.{◌≡◌, ℕ, ◌-◌, ◌<◌, List, [], ◌∷◌, length, map, get_or, refl, ap, ◌∙◌, arith}
use Rattle.lg_accounts.specs.declared.account.Note.{Note}
use Rattle.lg_accounts.specs.Meaning.Pages.{moment_of_last}
use Rattle.lg_accounts.specs.Meaning.Values.{note_value}

last_behind : (note : Note) (later : List Note) (default : Note)
    → (get_or (note ∷ later) (length later) default).moment ≡ moment_of_last (map note_value (note ∷ later))
last_behind note [] default = refl
last_behind note (next ∷ more) default = last_behind next more default

pub last_at : (notes : List Note) (default : Note) → 0 < length notes
    → (get_or notes (length notes - 1) default).moment ≡ moment_of_last (map note_value notes)
last_at [] default some = absurd (omega (arith, some))
last_at (note ∷ later) default some =
    let behind : length (note ∷ later) - 1 ≡ length later = omega arith in
    ap (λ (n : ℕ). (get_or (note ∷ later) n default).moment) behind ∙ last_behind note later default
