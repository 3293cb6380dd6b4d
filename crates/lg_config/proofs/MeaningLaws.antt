-- What holds of each configuration that a document means.
use Rattle.std.proofs.Common.{◌≡◌, ℕ, Bool, true, false, if◌then◌else◌, List, Option, Some, None, Result, Ok, Err, IfOk, refl, ◌∙◌}
use Rattle.lg_rules.specs.declared.addr.Addr.{Addr}
use Rattle.lg_rules.specs.declared.addr.Ip.{Ip}
use Rattle.lg_timing.specs.Meaning.Config.{check_of, IsChecked}
use Rattle.lg_timing.specs.declared.config.ConfigFault.{ConfigFault}
use Rattle.toml.specs.Data.{Members}
use Rattle.lg_config.specs.declared.fault.FileFault.{FileFault}
use Rattle.lg_config.specs.declared.fault.FileFault.TheVariants as fault
use Rattle.lg_config.specs.declared.node.NodeConfig.{NodeConfig}
use Rattle.lg_config.specs.declared.node_keys.NodeKey.{NodeKey}
use Rattle.lg_config.specs.Meaning.Answer.{and_bind, and_findable, and_group, and_key_file, and_late, and_leave, and_status, and_told, fault_of_seeds, go_together, is_late, late_meaning_of, meaning_of, right_meaning_of, unless_apart, unless_broken, unless_config, unless_late, unless_node}
use Rattle.lg_config.specs.Meaning.Binding.{bind_in, with_bind}
use Rattle.lg_config.specs.Meaning.Families.{tells_own, unless_untold}
use Rattle.lg_config.specs.Meaning.Finding.{is_unfindable, unless_unfindable, with_own_ip}
use Rattle.lg_config.specs.Meaning.Groups.{group_in, with_group}
use Rattle.lg_config.specs.Meaning.KeyFiles.{key_file_in, with_key_file}
use Rattle.lg_config.specs.Meaning.Keys.{are_right_keys}
use Rattle.lg_config.specs.Meaning.Leaves.{leave_in, with_leave}
use Rattle.lg_config.specs.Meaning.NodeKeys.{own_broken}
use Rattle.lg_config.specs.Meaning.Status.{may_listen, open_in, status_addr_in, with_status}
use Rattle.lg_config.specs.Meaning.Settings.{item_count, seeds_at, settings_of}

-- ---- what holds of settings, whatever they say of leaving and of where the socket is bound, is kept

bind-kept : (P : NodeConfig → Type 0) → ((node : NodeConfig) (bind : Option Addr) → P node → P (record node { bind = bind }))
    → (node : NodeConfig) (bind : Result (Option Addr) FileFault) → P node → IfOk (with_bind node bind) P
bind-kept P same node (Err found) holds = tt
bind-kept P same node (Ok bind) holds = same node bind holds

and_bind-kept : (P : NodeConfig → Type 0) → ((node : NodeConfig) (bind : Option Addr) → P node → P (record node { bind = bind }))
    → (m : Members) (r : Result NodeConfig FileFault) → IfOk r P → IfOk (and_bind m r) P
and_bind-kept P same m (Err found) holds = tt
and_bind-kept P same m (Ok node) holds = bind-kept P same node (bind_in node.config.addr.port m) holds

leave-kept : (P : NodeConfig → Type 0) → ((node : NodeConfig) (leave : Bool) → P node → P (record node { leave = leave }))
    → (node : NodeConfig) (leave : Result Bool FileFault) → P node → IfOk (with_leave node leave) P
leave-kept P same node (Err found) holds = tt
leave-kept P same node (Ok leave) holds = same node leave holds

and_leave-kept : (P : NodeConfig → Type 0) → ((node : NodeConfig) (leave : Bool) → P node → P (record node { leave = leave }))
    → (m : Members) (r : Result NodeConfig FileFault) → IfOk r P → IfOk (and_leave m r) P
and_leave-kept P same m (Err found) holds = tt
and_leave-kept P same m (Ok node) holds = leave-kept P same node (leave_in m) holds

-- and it is kept whether packets can tell the address or not
pub told-kept : (P : NodeConfig → Type 0) (node : NodeConfig) → P node → IfOk (unless_untold node) P
told-kept P node holds = step (tells_own node.config)
  where
    step : (told : Bool) → IfOk (if told then Ok node else Err fault.Family) P
    step true = holds
    step false = tt

and_told-kept : (P : NodeConfig → Type 0) (r : Result NodeConfig FileFault) → IfOk r P → IfOk (and_told r) P
and_told-kept P (Err found) holds = tt
and_told-kept P (Ok node) holds = told-kept P node holds

-- and whether that is to be found without seeds or not
findable-kept : (P : NodeConfig → Type 0) (node : NodeConfig) → P node → IfOk (unless_unfindable node) P
findable-kept P node holds = step (is_unfindable node)
  where
    step : (unfindable : Bool) → IfOk (if unfindable then Err fault.Auto else Ok node) P
    step true = tt
    step false = holds

and_findable-kept : (P : NodeConfig → Type 0) (r : Result NodeConfig FileFault) → IfOk r P → IfOk (and_findable r) P
and_findable-kept P (Err found) holds = tt
and_findable-kept P (Ok node) holds = findable-kept P node holds

-- so it is kept by all that is judged behind the check
right-kept : (P : NodeConfig → Type 0) → ((node : NodeConfig) (bind : Option Addr) → P node → P (record node { bind = bind }))
    → ((node : NodeConfig) (leave : Bool) → P node → P (record node { leave = leave }))
    → (m : Members) → IfOk (late_meaning_of m) P → IfOk (right_meaning_of m) P
right-kept P bound left m holds =
    and_findable-kept P (and_told (and_bind m (and_leave m (late_meaning_of m))))
    (and_told-kept P (and_bind m (and_leave m (late_meaning_of m)))
    (and_bind-kept P bound m (and_leave m (late_meaning_of m)) (and_leave-kept P left m (late_meaning_of m) holds)))

if_right-kept : (P : NodeConfig → Type 0) (right : Bool) (r : Result NodeConfig FileFault) → IfOk r P → IfOk (if right then r else Err fault.Key) P
if_right-kept P true r holds = holds
if_right-kept P false r holds = tt

meaning-kept : (P : NodeConfig → Type 0) → ((node : NodeConfig) (bind : Option Addr) → P node → P (record node { bind = bind }))
    → ((node : NodeConfig) (leave : Bool) → P node → P (record node { leave = leave }))
    → (m : Members) → IfOk (late_meaning_of m) P → IfOk (meaning_of m) P
meaning-kept P bound left m holds = if_right-kept P (are_right_keys m) (right_meaning_of m) (right-kept P bound left m holds)

-- what a document means, but for what is read later
abbrev judged_of : Members → Result NodeConfig FileFault
judged_of m = unless_node (item_count (seeds_at m)) (settings_of m)

-- ---- the node's own numbers of a configuration that is given are in their ranges

abbrev HasWithin : NodeConfig → Type 0
HasWithin node = own_broken node ≡ None

within-judged : (node : NodeConfig) (broken : Option NodeKey) → own_broken node ≡ broken → IfOk (unless_broken node broken) HasWithin
within-judged node None is = is
within-judged node (Some key) is = tt

within-checked : (node : NodeConfig) (checked : Result (Unit {0}) ConfigFault) → IfOk (unless_config node checked) HasWithin
within-checked node (Ok passed) = within-judged node (own_broken node) refl
within-checked node (Err broken) = step (is_late broken)
  where
    step : (late : Bool) → IfOk (if late then unless_broken node (own_broken node) else Err (fault.Config broken)) HasWithin
    step true = within-judged node (own_broken node) refl
    step false = tt

within-apart : (count : ℕ) (node : NodeConfig) → IfOk (unless_apart count node) HasWithin
within-apart count node = step (go_together count node)
  where
    step : (together : Bool) → IfOk (if together then unless_config node (check_of node.config) else Err (fault.Config (fault_of_seeds (check_of node.config)))) HasWithin
    step true = within-checked node (check_of node.config)
    step false = tt

within-node : (count : ℕ) (settings : Option NodeConfig) → IfOk (unless_node count settings) HasWithin
within-node count None = tt
within-node count (Some node) = within-apart count node

within-open : (node : NodeConfig) (status : Option Addr) (is_open listens : Bool) → HasWithin node
    → IfOk (if listens then Ok (record node { status = status; status_open = is_open }) else Err fault.StatusNotLoopback) HasWithin
within-open node status is_open true within = within
within-open node status is_open false within = tt

within-status : (node : NodeConfig) (status : Result (Option Addr) FileFault) (is_open : Result Bool FileFault) → HasWithin node
    → IfOk (with_status node status is_open) HasWithin
within-status node (Err found) is_open within = tt
within-status node (Ok status) (Err found) within = tt
within-status node (Ok status) (Ok is_open) within = within-open node status is_open (may_listen status is_open) within

within-and_status : (m : Members) (r : Result NodeConfig FileFault) → IfOk r HasWithin → IfOk (and_status m r) HasWithin
within-and_status m (Err found) within = tt
within-and_status m (Ok node) within = within-status node (status_addr_in m) (open_in m) within

within-key_file : (node : NodeConfig) (path : Result (Option (List ℕ)) FileFault) → HasWithin node → IfOk (with_key_file node path) HasWithin
within-key_file node (Err found) within = tt
within-key_file node (Ok path) within = within

within-and_key_file : (m : Members) (r : Result NodeConfig FileFault) → IfOk r HasWithin → IfOk (and_key_file m r) HasWithin
within-and_key_file m (Err found) within = tt
within-and_key_file m (Ok node) within = within-key_file node (key_file_in m) within

within-unless_late : (node : NodeConfig) (r : Result (Unit {0}) ConfigFault) → HasWithin node → IfOk (unless_late node r) HasWithin
within-unless_late node (Ok passed) within = within
within-unless_late node (Err broken) within = tt

within-and_late : (r : Result NodeConfig FileFault) → IfOk r HasWithin → IfOk (and_late r) HasWithin
within-and_late (Err found) within = tt
within-and_late (Ok node) within = within-unless_late node (check_of node.config) within

within-group : (node : NodeConfig) (group : Result (Option (List ℕ)) FileFault) → HasWithin node → IfOk (with_group node group) HasWithin
within-group node (Err found) within = tt
within-group node (Ok group) within = within

within-and_group : (m : Members) (r : Result NodeConfig FileFault) → IfOk r HasWithin → IfOk (and_group m r) HasWithin
within-and_group m (Err found) within = tt
within-and_group m (Ok node) within = within-group node (group_in m) within

within-late_meaning : (m : Members) → IfOk (late_meaning_of m) HasWithin
within-late_meaning m =
    within-and_late _ (within-and_group m _ (within-and_late _ (within-and_key_file m _ (within-and_status m _ (within-node (item_count (seeds_at m)) (settings_of m))))))

pub within-meaning : (m : Members) → IfOk (meaning_of m) HasWithin
within-meaning m =
    meaning-kept HasWithin (λ node bind within. within) (λ node leave within. within) m (within-late_meaning m)

-- ---- and the status server of a configuration that is given may listen where it is to

abbrev IsGuarded : NodeConfig → Type 0
IsGuarded node = may_listen node.status node.status_open ≡ true

guarded-open : (node : NodeConfig) (status : Option Addr) (is_open listens : Bool) → may_listen status is_open ≡ listens
    → IfOk (if listens then Ok (record node { status = status; status_open = is_open }) else Err fault.StatusNotLoopback) IsGuarded
guarded-open node status is_open true listens = listens
guarded-open node status is_open false listens = tt

guarded-status : (node : NodeConfig) (status : Result (Option Addr) FileFault) (is_open : Result Bool FileFault)
    → IfOk (with_status node status is_open) IsGuarded
guarded-status node (Err found) is_open = tt
guarded-status node (Ok status) (Err found) = tt
guarded-status node (Ok status) (Ok is_open) = guarded-open node status is_open (may_listen status is_open) refl

guarded-and_status : (m : Members) (r : Result NodeConfig FileFault) → IfOk (and_status m r) IsGuarded
guarded-and_status m (Err found) = tt
guarded-and_status m (Ok node) = guarded-status node (status_addr_in m) (open_in m)

guarded-key_file : (node : NodeConfig) (path : Result (Option (List ℕ)) FileFault) → IsGuarded node → IfOk (with_key_file node path) IsGuarded
guarded-key_file node (Err found) guarded = tt
guarded-key_file node (Ok path) guarded = guarded

guarded-and_key_file : (m : Members) (r : Result NodeConfig FileFault) → IfOk r IsGuarded → IfOk (and_key_file m r) IsGuarded
guarded-and_key_file m (Err found) guarded = tt
guarded-and_key_file m (Ok node) guarded = guarded-key_file node (key_file_in m) guarded

guarded-unless_late : (node : NodeConfig) (r : Result (Unit {0}) ConfigFault) → IsGuarded node → IfOk (unless_late node r) IsGuarded
guarded-unless_late node (Ok passed) guarded = guarded
guarded-unless_late node (Err broken) guarded = tt

guarded-and_late : (r : Result NodeConfig FileFault) → IfOk r IsGuarded → IfOk (and_late r) IsGuarded
guarded-and_late (Err found) guarded = tt
guarded-and_late (Ok node) guarded = guarded-unless_late node (check_of node.config) guarded

guarded-group : (node : NodeConfig) (group : Result (Option (List ℕ)) FileFault) → IsGuarded node → IfOk (with_group node group) IsGuarded
guarded-group node (Err found) guarded = tt
guarded-group node (Ok group) guarded = guarded

guarded-and_group : (m : Members) (r : Result NodeConfig FileFault) → IfOk r IsGuarded → IfOk (and_group m r) IsGuarded
guarded-and_group m (Err found) guarded = tt
guarded-and_group m (Ok node) guarded = guarded-group node (group_in m) guarded

guarded-late_meaning : (m : Members) → IfOk (late_meaning_of m) IsGuarded
guarded-late_meaning m =
    guarded-and_late _ (guarded-and_group m _ (guarded-and_late _ (guarded-and_key_file m _ (guarded-and_status m (judged_of m)))))

pub guarded-meaning : (m : Members) → IfOk (meaning_of m) IsGuarded
guarded-meaning m =
    meaning-kept IsGuarded (λ node bind guarded. guarded) (λ node leave guarded. guarded) m (guarded-late_meaning m)

-- ---- and the member's configuration passes its check

abbrev pub HasPassed : NodeConfig → Type 0
HasPassed node = IsChecked node.config

passed-unless_late : (node : NodeConfig) (r : Result (Unit {0}) ConfigFault) → check_of node.config ≡ r → IfOk (unless_late node r) HasPassed
passed-unless_late node (Ok passed) is = is
passed-unless_late node (Err broken) is = tt

passed-and_late : (r : Result NodeConfig FileFault) → IfOk (and_late r) HasPassed
passed-and_late (Err found) = tt
passed-and_late (Ok node) = passed-unless_late node (check_of node.config) refl

pub passed-meaning : (m : Members) → IfOk (meaning_of m) HasPassed
passed-meaning m =
    meaning-kept HasPassed (λ node bind passed. passed) (λ node leave passed. passed) m
    (passed-and_late (and_group m (and_late (and_key_file m (and_status m (judged_of m))))))

-- ---- and it does with another IP address of the member's own

same-checked : (ip : Ip) (node : NodeConfig) → check_of (with_own_ip ip node).config ≡ check_of node.config
unfolding check_of
same-checked ip node = refl

pub passed-own_ip : (ip : Ip) (node : NodeConfig) → HasPassed node → HasPassed (with_own_ip ip node)
passed-own_ip ip node passed = same-checked ip node ∙ passed
