use Rattle.lg_node.proofs.ServingLaws.{did_serve}
use Rattle.lg_node.proofs.serving.serve_with.Goals as goal

pub returns-clause-did : goal.returns-clause-did
returns-clause-did g c =
    did_serve c.args.config.now c.args.settings.now c.args.pass c.serve.result.0 c.serve.result.1 _ _ _ _ _ _
    c.requires c.folder_of-folder.ensures c.hosts_of-hosts.ensures c.in-Ok.ensures c.serve.ensures.served
