use Rattle.lg_config.proofs.HostLaws.{host_copied}
use Rattle.lg_config.proofs.host.HostName.from_good.Goals as goal

pub invariant_of-result : goal.invariant_of-result
invariant_of-result c = host_copied c.copy_from_slice.new.self c.args.text.now c.copy_from_slice.ensures.after c.requires
