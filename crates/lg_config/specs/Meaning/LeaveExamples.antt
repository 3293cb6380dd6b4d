-- Worked files that say whether a request may end the node, which is judged behind all else.
use Rattle.std.specs.Prelude.{◌≡◌, false, codes, refl, Ok, Err}
use Rattle.lg_timing.specs.declared.config.ConfigFault.TheVariants.{Interval, Group}
use Rattle.lg_config.specs.declared.fault.FileFault.TheVariants as fault
use Rattle.lg_config.specs.Meaning.Answer.{answer_of}
use Rattle.lg_config.specs.Meaning.Examples.{b-by-default, b-with, means, on_files, usual-with}

-- ---- on, which is the default, and off

leave-on : answer_of (b-with (codes "leave = \"on\"")) ≡ means b-by-default
unfolding on_files
leave-on = refl

leave-off : answer_of (b-with (codes "leave = \"off\"")) ≡ Ok (record (usual-with b-by-default) { leave = false })
unfolding on_files
leave-off = refl

-- ---- other values

leave-in-capitals : answer_of (b-with (codes "leave = \"Off\"")) ≡ Err fault.Leave
unfolding on_files
leave-in-capitals = refl

leave-empty : answer_of (b-with (codes "leave = \"\"")) ≡ Err fault.Leave
unfolding on_files
leave-empty = refl

leave-as-boolean : answer_of (b-with (codes "leave = false")) ≡ Err fault.Leave
unfolding on_files
leave-as-boolean = refl

leave-in-array : answer_of (b-with (codes "leave = [\"off\"]")) ≡ Err fault.Leave
unfolding on_files
leave-in-array = refl

-- ---- it is judged behind all else

interval-before-leave : answer_of (b-with (codes "leave = 1\ninterval_ms = 9")) ≡ Err (fault.Config Interval)
unfolding on_files
interval-before-leave = refl

path-before-leave : answer_of (b-with (codes "leave = 1\nkey_file = \"\"")) ≡ Err fault.KeyFile
unfolding on_files
path-before-leave = refl

group-before-leave : answer_of (b-with (codes "leave = 1\ngroup = \"g\"")) ≡ Err (fault.Config Group)
unfolding on_files
group-before-leave = refl
