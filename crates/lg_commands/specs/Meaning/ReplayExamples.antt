-- Worked rows of what `replay` tells.
use Rattle.std.specs.Prelude.{◌≡◌, [], None, Some, Ok, Err, codes, refl, replicate}
use Rattle.lg_commands.specs.Meaning.Faults.{bad_part_text}
use Rattle.lg_commands.specs.Meaning.Replaying.{part_of}
use Rattle.lg_commands.specs.declared.bad_part.BadPart.TheVariants.{Folder, Name}

whole :
    part_of (codes "/var/lib/lg") 0 70 None
    ≡ Ok record { folder = codes "/var/lib/lg"; from = 0; to = 70; only = None }
whole = refl

of-one-member :
    part_of (codes "a") 5 7 (Some (codes "b"))
    ≡ Ok record { folder = codes "a"; from = 5; to = 7; only = Some (codes "b") }
of-one-member = refl

-- nothing is told, and that is no fault
moments-turned : part_of (codes "a") 7 5 None ≡ Ok record { folder = codes "a"; from = 7; to = 5; only = None }
moments-turned = refl

no-bytes : part_of [] 0 70 None ≡ Err Folder
no-bytes = refl

too-long : part_of (replicate 256 120) 0 70 None ≡ Err Folder
too-long = refl

no-name : part_of (codes "a") 0 70 (Some (codes "b!")) ≡ Err Name
no-name = refl

empty-name : part_of (codes "a") 0 70 (Some []) ≡ Err Name
empty-name = refl

-- both are bad
folder-first : part_of [] 0 70 (Some []) ≡ Err Folder
folder-first = refl

the-lines : bad_part_text Folder ≡ codes "lg: bad folder\n"
the-lines = refl
