use Rattle.lg_node.proofs.serving.serve_if.Goals as goal

pub returns-clause-served : goal.returns-clause-served
returns-clause-served g c = rw c.in-Some.is (record {
  looked = c.serve_with-pass.ensures.looked;
  server = c.in-Some.status.server;
  server' = c.serve_with-pass.new.status.server;
  free = rw c.in-Some.is at c.requires.free;
  did = c.serve_with-pass.ensures.did;
})
