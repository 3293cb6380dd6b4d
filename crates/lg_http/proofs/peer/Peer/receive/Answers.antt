use Rattle.lg_http.proofs.FeedLaws.{grown_stream}
use Rattle.lg_http.proofs.peer.Peer.receive.Goals as goal

pub returns-in-Ok-extend_from_slice-clause-stream : goal.returns-in-Ok-extend_from_slice-clause-stream
returns-in-Ok-extend_from_slice-clause-stream c = (_, grown_stream _ _ _ _ c.in-Ok-extend_from_slice.ensures.ok)
