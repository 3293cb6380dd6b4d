-- Worked files that say where the node's socket is bound, which is judged behind all else.
use Rattle.std.specs.Prelude.{⊤, ◌≡◌, ℕ, [], ◌∷◌, codes, refl, Some, Result, Ok, Err}
use Rattle.lg_rules.specs.declared.addr.Addr.{Addr}
use Rattle.lg_rules.specs.declared.addr.Ip.TheVariants.{V4}
use Rattle.lg_timing.specs.declared.config.ConfigFault.TheVariants.{Interval, Group}
use Rattle.lg_config.specs.declared.fault.FileFault.{FileFault}
use Rattle.lg_config.specs.declared.fault.FileFault.TheVariants as fault
use Rattle.lg_config.specs.declared.node.NodeConfig.{NodeConfig}
use Rattle.lg_config.specs.Meaning.Answer.{answer_of}
use Rattle.lg_config.specs.Meaning.Binding.{bound_at}
use Rattle.lg_config.specs.Meaning.Examples.{b-by-default, b-with, local, on_files, usual-with}
use Rattle.lg_config.specs.Meaning.Texts.{address_with_port}

unfoldable on_bound : ⊤
unfolding on_files address_with_port
on_bound = tt

-- what a file of the member b means whose socket is bound there
abbrev b-bound : Addr → Result NodeConfig FileFault
b-bound addr = Ok (record (usual-with b-by-default) { bind = Some addr })

-- all addresses of the machine, with a port
abbrev anywhere : ℕ → Addr
anywhere port = record { ip = V4 (0 ∷ 0 ∷ 0 ∷ 0 ∷ []); port = port }

-- ---- with a port, and without one: then it is the member's

bound-with-port : answer_of (b-with (codes "bind = \"0.0.0.0:8000\"")) ≡ b-bound (anywhere 8000)
unfolding on_bound
bound-with-port = refl

bound-without-port : answer_of (b-with (codes "bind = \"0.0.0.0\"")) ≡ b-bound (anywhere 7946)
unfolding on_bound
bound-without-port = refl

bound-at-members-port :
    answer_of (b-with (codes "bind = \"0.0.0.0\"\nport = 7101"))
    ≡ Ok (record (usual-with (record b-by-default { addr = local 7101 })) { bind = Some (anywhere 7101) })
unfolding on_bound
bound-at-members-port = refl

-- ---- where the socket is

not-said : bound_at (usual-with b-by-default) ≡ local 7946
not-said = refl

said-where : bound_at (record (usual-with b-by-default) { bind = Some (anywhere 1) }) ≡ anywhere 1
said-where = refl

-- ---- other values

bind-empty : answer_of (b-with (codes "bind = \"\"")) ≡ Err fault.Bind
unfolding on_bound
bind-empty = refl

bind-empty-port : answer_of (b-with (codes "bind = \"0.0.0.0:\"")) ≡ Err fault.Bind
unfolding on_bound
bind-empty-port = refl

bind-port-0 : answer_of (b-with (codes "bind = \"0.0.0.0:0\"")) ≡ Err fault.Bind
unfolding on_bound
bind-port-0 = refl

bind-as-number : answer_of (b-with (codes "bind = 7946")) ≡ Err fault.Bind
unfolding on_bound
bind-as-number = refl

-- ---- it is judged behind all else

interval-before-bind : answer_of (b-with (codes "bind = 1\ninterval_ms = 9")) ≡ Err (fault.Config Interval)
unfolding on_bound
interval-before-bind = refl

group-before-bind : answer_of (b-with (codes "bind = 1\ngroup = \"g\"")) ≡ Err (fault.Config Group)
unfolding on_bound
group-before-bind = refl

leave-before-bind : answer_of (b-with (codes "bind = 1\nleave = 1")) ≡ Err fault.Leave
unfolding on_bound
leave-before-bind = refl
