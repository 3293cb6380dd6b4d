-- Worked files that say what a node records.
use Rattle.std.specs.Prelude.{◌≡◌, ℕ, codes, refl, replicate, Some, None, Result, Ok, Err}
use Rattle.lg_timing.specs.declared.config.ConfigFault.TheVariants.{Wire}
use Rattle.lg_config.specs.declared.fault.FileFault.{FileFault}
use Rattle.lg_config.specs.declared.fault.FileFault.TheVariants as fault
use Rattle.lg_config.specs.declared.node.NodeConfig.{NodeConfig}
use Rattle.lg_config.specs.Meaning.Answer.{answer_of}
use Rattle.lg_config.specs.Meaning.Examples.{b-by-default, b-with, on_files, usual-with}
use Rattle.lg_config.specs.Meaning.Settings.{folder_of}

-- ---- the folder

recorded :
    answer_of (b-with (codes "record = \"/var/lib/lg\""))
    ≡ Ok (record (usual-with b-by-default) { record_folder = Some (codes "/var/lib/lg") })
unfolding on_files
recorded = refl

-- it is a path as that of the key file is
no-folder : folder_of None ≡ Some None
no-folder = refl

longest-folder : folder_of (Some (replicate 255 120)) ≡ Some (Some (replicate 255 120))
longest-folder = refl

folder-too-long : folder_of (Some (replicate 256 120)) ≡ None
folder-too-long = refl

folder-with-newline : folder_of (Some (codes "a\nb")) ≡ None
folder-with-newline = refl

folder-without-bytes : answer_of (b-with (codes "record = \"\"")) ≡ Err fault.Value
unfolding on_files
folder-without-bytes = refl

folder-as-number : answer_of (b-with (codes "record = 1")) ≡ Err fault.Key
unfolding on_files
folder-as-number = refl

-- it is judged with the other values, before each number
folder-before-interval : answer_of (b-with (codes "record = \"\"\ninterval_ms = 5")) ≡ Err fault.Value
unfolding on_files
folder-before-interval = refl

-- ---- how much it takes

abbrev b-taking : ℕ → Result NodeConfig FileFault
b-taking units = Ok (record (usual-with b-by-default) { record_mb = units })

least-units : answer_of (b-with (codes "record_mb = 1")) ≡ b-taking 1
unfolding on_files
least-units = refl

most-units : answer_of (b-with (codes "record_mb = 100000")) ≡ b-taking 100000
unfolding on_files
most-units = refl

no-units : answer_of (b-with (codes "record_mb = 0")) ≡ Err fault.RecordMb
unfolding on_files
no-units = refl

many-units : answer_of (b-with (codes "record_mb = 100001")) ≡ Err fault.RecordMb
unfolding on_files
many-units = refl

negative-units : answer_of (b-with (codes "record_mb = -1")) ≡ Err fault.RecordMb
unfolding on_files
negative-units = refl

units-as-text : answer_of (b-with (codes "record_mb = \"64\"")) ≡ Err fault.Key
unfolding on_files
units-as-text = refl

-- they are judged behind the node's other numbers, and before the status server
resolving-before-units : answer_of (b-with (codes "record_mb = 0\nresolve_ms = 0")) ≡ Err fault.Resolve
unfolding on_files
resolving-before-units = refl

units-before-status : answer_of (b-with (codes "status = 1\nrecord_mb = 0")) ≡ Err fault.RecordMb
unfolding on_files
units-before-status = refl

wire-before-units : answer_of (b-with (codes "record_mb = 0\nwire = 4")) ≡ Err (fault.Config Wire)
unfolding on_files
wire-before-units = refl
