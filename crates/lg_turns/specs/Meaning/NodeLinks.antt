-- What contracts see of a node's link over UDP.
use Rattle.std.specs.Prelude.{ℕ, Option, Some, None}
use Rattle.lg_seal.specs.declared.key.Keys.{Keys}
use Rattle.lg_turns.specs.declared.node_link.NodeLink.{NodeLink}
use Rattle.lg_turns.specs.declared.node_link.NodeLink.TheVariants.{Plain, Keyed}
use Rattle.lg_turns.specs.declared.udp.UdpLink.{UdpLink}

-- the keys with which a link seals and opens, if it has any
abbrev pub link_keys : NodeLink → Option Keys
link_keys (Plain udp) = None
link_keys (Keyed noted) = Some noted.link.keys

-- the link over UDP that it uses
abbrev pub udp_of : NodeLink → UdpLink
udp_of (Plain udp) = udp
udp_of (Keyed noted) = noted.link.inner

-- how often it failed
abbrev pub failures_of : NodeLink → ℕ
failures_of (Plain udp) = udp.failures
failures_of (Keyed noted) = noted.link.inner.failures
