-- Worked files of the numbers that are judged last: when members are forgotten, and how news is gossiped.
use Rattle.std.specs.Prelude.{◌≡◌, codes, refl, Err}
use Rattle.lg_timing.specs.declared.config.ConfigFault.TheVariants.{Wire, Forget, GossipMs, GossipTo}
use Rattle.lg_config.specs.declared.fault.FileFault.TheVariants as fault
use Rattle.lg_config.specs.Meaning.Answer.{answer_of}
use Rattle.lg_config.specs.Meaning.Examples.{b-by-default, b-with, means, on_files}

-- ---- numbers at the ends of their ranges, and 0, which turns off what they are about

forgets-soon : answer_of (b-with (codes "forget_ms = 1000")) ≡ means (record b-by-default { forget_ms = 1000 })
unfolding on_files
forgets-soon = refl

forgets-late :
    answer_of (b-with (codes "forget_ms = 2592000000")) ≡ means (record b-by-default { forget_ms = 2592000000 })
unfolding on_files
forgets-late = refl

forgets-nobody : answer_of (b-with (codes "forget_ms = 0")) ≡ means b-by-default
unfolding on_files
forgets-nobody = refl

gossips-nothing : answer_of (b-with (codes "gossip_ms = 0")) ≡ means (record b-by-default { gossip_ms = 0 })
unfolding on_files
gossips-nothing = refl

-- ---- numbers beside these ends

too-soon : answer_of (b-with (codes "forget_ms = 999")) ≡ Err (fault.Config Forget)
unfolding on_files
too-soon = refl

too-late : answer_of (b-with (codes "forget_ms = 2592000001")) ≡ Err (fault.Config Forget)
unfolding on_files
too-late = refl

negative-time : answer_of (b-with (codes "forget_ms = -1")) ≡ Err (fault.Config Forget)
unfolding on_files
negative-time = refl

soon-gossip : answer_of (b-with (codes "gossip_ms = 9")) ≡ Err (fault.Config GossipMs)
unfolding on_files
soon-gossip = refl

gossip-to-nobody : answer_of (b-with (codes "gossip_to = 0")) ≡ Err (fault.Config GossipTo)
unfolding on_files
gossip-to-nobody = refl

-- ---- they are judged in the order of their faults, and behind all else

forgetting-before-gossip : answer_of (b-with (codes "gossip_ms = 9\nforget_ms = 999")) ≡ Err (fault.Config Forget)
unfolding on_files
forgetting-before-gossip = refl

wire-before-forgetting : answer_of (b-with (codes "forget_ms = 999\nwire = 4")) ≡ Err (fault.Config Wire)
unfolding on_files
wire-before-forgetting = refl

pulls-before-forgetting : answer_of (b-with (codes "pull_ms = -1\nforget_ms = 999")) ≡ Err fault.Pull
unfolding on_files
pulls-before-forgetting = refl

pulls-before-gossip : answer_of (b-with (codes "pull_ms = -1\ngossip_to = 9")) ≡ Err fault.Pull
unfolding on_files
pulls-before-gossip = refl

status-before-forgetting : answer_of (b-with (codes "forget_ms = 999\nstatus = 1")) ≡ Err fault.Status
unfolding on_files
status-before-forgetting = refl

path-before-forgetting : answer_of (b-with (codes "key_file = \"\"\nforget_ms = 999")) ≡ Err fault.KeyFile
unfolding on_files
path-before-forgetting = refl
