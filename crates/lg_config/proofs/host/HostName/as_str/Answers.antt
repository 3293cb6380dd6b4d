use Rattle.std.proofs.Common.{subst, sym}
use Rattle.std.specs.Str.{IsUtf8}
use Rattle.lg_config.proofs.HostLaws.{host-utf8}
use Rattle.lg_config.proofs.host.HostName.as_str.Goals as goal

-- the bytes of the name of a host are those of a text
pub unreachable-requires : goal.unreachable-requires
unreachable-requires c =
    c.in-Err.ensures.cases.0 (subst IsUtf8 (sym c.as_bytes.ensures.bytes) (host-utf8 c.args.self.now c.as_bytes.ensures.host))
