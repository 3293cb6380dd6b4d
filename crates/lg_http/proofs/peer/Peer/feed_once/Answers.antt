use Rattle.std.proofs.Common.{ℕ, List, take, ap, sym, ◌∙◌, ◌++◌}
use Rattle.lg_http.proofs.FeedLaws.{fed_stream, fed_bound, fed_count}
use Rattle.lg_http.proofs.peer.Peer.feed_once.Goals as goal

pub returns-clause-stream : goal.returns-clause-stream
returns-clause-stream c =
    let read = c.in_ok-count.ensures.ok in
    let offered = ap (λ (x : List ℕ). take c.args.len x) (sym c.as_slice.ensures) ∙ read.2 in
    fed_stream _ _ _ _ read.0 _ c.args.len c.in_ok-count.count offered read.1 (ap (λ h. h.received) read.3) c.advance.ensures.items

pub returns-clause-bound : goal.returns-clause-bound
returns-clause-bound c =
    let read = c.in_ok-count.ensures.ok in
    let offered = ap (λ (x : List ℕ). take c.args.len x) (sym c.as_slice.ensures) ∙ read.2 in
    fed_bound _ read.0 _ c.args.len c.in_ok-count.count c.requires offered read.1

pub returns-clause-count : goal.returns-clause-count
returns-clause-count c =
    let read = c.in_ok-count.ensures.ok in
    let offered = ap (λ (x : List ℕ). take c.args.len x) (sym c.as_slice.ensures) ∙ read.2 in
    let bound = fed_bound _ read.0 _ c.args.len c.in_ok-count.count c.requires offered read.1 in
    fed_count _ _ c.args.len c.in_ok-count.count bound c.requires c.advance.ensures.items

pub returns-clause-calls : goal.returns-clause-calls
returns-clause-calls c = ap (λ h. h.calls) c.in_ok-count.ensures.ok.3

pub returns-in_err-count-clause-calls : goal.returns-in_err-count-clause-calls
returns-in_err-count-clause-calls c = ap (λ h. h.calls) c.in_err-count.ensures.err.0

pub returns-in_err-count-clause-stream : goal.returns-in_err-count-clause-stream
returns-in_err-count-clause-stream c = ap (λ h. h.received ++ c.args.self.now.held.items) c.in_err-count.ensures.err.0
