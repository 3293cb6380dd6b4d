-- Worked files of a member of a group, which is judged last of all.
use Rattle.std.specs.Prelude.{◌≡◌, ◌++◌, codes, replicate, refl, Some, None, Err}
use Rattle.lg_timing.specs.declared.config.ConfigFault.TheVariants.{Interval, Wire, Forget, GossipTo, Group}
use Rattle.lg_timing.specs.declared.keys.Key.TheVariants as key
use Rattle.lg_config.specs.declared.fault.FileFault.TheVariants as fault
use Rattle.lg_config.specs.Meaning.Answer.{answer_of}
use Rattle.lg_config.specs.Meaning.Examples.{b-by-default, b-with, means, on_files}
use Rattle.lg_config.specs.Meaning.Keys.{file_key_named}

-- ---- a name, in packets of version 3

a-group :
    answer_of (b-with (codes "wire = 3\ngroup = \"g\""))
    ≡ means (record b-by-default { wire = 3; group = Some (codes "g") })
unfolding on_files
a-group = refl

-- it may be a number, in a text
group-of-digits :
    answer_of (b-with (codes "group = \"1\"\nwire = 3"))
    ≡ means (record b-by-default { wire = 3; group = Some (codes "1") })
unfolding on_files
group-of-digits = refl

group-of-32-bytes :
    answer_of (b-with (codes "wire = 3\ngroup = \"" ++ (replicate 32 110 ++ codes "\"")))
    ≡ means (record b-by-default { wire = 3; group = Some (replicate 32 110) })
unfolding on_files
group-of-32-bytes = refl

-- ---- texts that are no names

empty-group : answer_of (b-with (codes "wire = 3\ngroup = \"\"")) ≡ Err (fault.Config Group)
unfolding on_files
empty-group = refl

group-with-bad-byte : answer_of (b-with (codes "wire = 3\ngroup = \"g!\"")) ≡ Err (fault.Config Group)
unfolding on_files
group-with-bad-byte = refl

group-of-33-bytes :
    answer_of (b-with (codes "wire = 3\ngroup = \"" ++ (replicate 33 110 ++ codes "\""))) ≡ Err (fault.Config Group)
unfolding on_files
group-of-33-bytes = refl

group-as-number : answer_of (b-with (codes "wire = 3\ngroup = 1")) ≡ Err fault.Key
unfolding on_files
group-as-number = refl

-- ---- packets of versions 1 and 2 name no group

group-by-default-version : answer_of (b-with (codes "group = \"g\"")) ≡ Err (fault.Config Group)
unfolding on_files
group-by-default-version = refl

group-in-version-2 : answer_of (b-with (codes "wire = 2\ngroup = \"g\"")) ≡ Err (fault.Config Group)
unfolding on_files
group-in-version-2 = refl

-- ---- a group is judged behind all else

interval-before-group : answer_of (b-with (codes "group = \"g!\"\ninterval_ms = 9")) ≡ Err (fault.Config Interval)
unfolding on_files
interval-before-group = refl

wire-before-group : answer_of (b-with (codes "group = \"g\"\nwire = 4")) ≡ Err (fault.Config Wire)
unfolding on_files
wire-before-group = refl

forgetting-before-group : answer_of (b-with (codes "group = \"g!\"\nforget_ms = 999")) ≡ Err (fault.Config Forget)
unfolding on_files
forgetting-before-group = refl

gossip-before-group : answer_of (b-with (codes "gossip_to = 9\ngroup = \"g!\"")) ≡ Err (fault.Config GossipTo)
unfolding on_files
gossip-before-group = refl

pulls-before-group : answer_of (b-with (codes "group = \"g\"\npull_ms = -1")) ≡ Err fault.Pull
unfolding on_files
pulls-before-group = refl

status-before-group : answer_of (b-with (codes "group = \"\"\nstatus = 1")) ≡ Err fault.Status
unfolding on_files
status-before-group = refl

path-before-group : answer_of (b-with (codes "group = \"\"\nkey_file = \"\"")) ≡ Err fault.KeyFile
unfolding on_files
path-before-group = refl

-- ---- the first number of a probe is no key of a file

first-in-file : answer_of (b-with (codes "first = 1")) ≡ Err fault.Key
unfolding on_files
first-in-file = refl

first-not-named : file_key_named (codes "first") ≡ None
unfolding file_key_named
first-not-named = refl

last-named : file_key_named (codes "gossip_to") ≡ Some key.GossipTo
unfolding file_key_named
last-named = refl
