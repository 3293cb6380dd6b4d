-- Worked rows of what `explain` tells.
use Rattle.std.specs.Prelude.{◌≡◌, [], Ok, Err, codes, false, refl, replicate, true}
use Rattle.lg_commands.specs.Meaning.Explaining.{explained_of}
use Rattle.lg_commands.specs.declared.bad_part.BadPart.TheVariants.{Folder, Name}

latest :
    explained_of (codes "/var/lib/lg") (codes "c") 70 false
    ≡ Ok record { folder = codes "/var/lib/lg"; name = codes "c"; at = 70; all = false }
latest = refl

each :
    explained_of (codes "a") (codes "b") 0 true
    ≡ Ok record { folder = codes "a"; name = codes "b"; at = 0; all = true }
each = refl

no-folder : explained_of [] (codes "c") 70 false ≡ Err Folder
no-folder = refl

too-long : explained_of (replicate 256 120) (codes "c") 70 false ≡ Err Folder
too-long = refl

no-name : explained_of (codes "a") (codes "b!") 70 false ≡ Err Name
no-name = refl

empty-name : explained_of (codes "a") [] 70 false ≡ Err Name
empty-name = refl

-- both are bad
folder-first : explained_of [] [] 70 false ≡ Err Folder
folder-first = refl
