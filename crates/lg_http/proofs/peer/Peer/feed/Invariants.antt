use Rattle.std.proofs.Common.{◌≡◌, ◌≤◌, length}
use Rattle.lg_http.specs.Meaning.Peers.{stream_of, calls_of}
use Rattle.lg_http.proofs.peer.Peer.feed.Given as goal

-- nothing is lost, and what is left to give is held
abbrev pub invariant-loop : goal.invariant-loop
invariant-loop l = record {
  stream : stream_of l.self ≡ stream_of l.initial.self;
  calls : calls_of l.self ≡ calls_of l.initial.self;
  less : length l.self.held.items ≤ length l.initial.self.held.items;
  room : l.left ≤ length l.self.held.items;
}
