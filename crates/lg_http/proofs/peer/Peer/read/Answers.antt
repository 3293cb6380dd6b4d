use Rattle.std.proofs.Common.{refl, inl}
use Rattle.lg_http.specs.Meaning.Answers.{RepliesAmong}
use Rattle.lg_http.specs.Meaning.Peers.{calls_of}
use Rattle.lg_http.proofs.ChainLaws.{adds_nothing}
use Rattle.lg_http.proofs.ReadLaws.{goes_on_same, reading_moves, reading_awake, awake_current}
use Rattle.lg_http.proofs.ReadLaws.{given_moves, given_awake, given_keeps, given_current}
use Rattle.lg_http.proofs.peer.Peer.read.Goals as goal

pub returns-then-not-self-clause-moves : goal.returns-then-not-self-clause-moves
returns-then-not-self-clause-moves g c = λ _.
    reading_moves c.args.self.now.phase c.receive.new.self.phase c.requires.phase c.receive.ensures.phase

pub returns-then-not-self-clause-current : goal.returns-then-not-self-clause-current
returns-then-not-self-clause-current g c = λ _.
    awake_current c.args.turn.now.at c.args.turn.now.version c.receive.new.self
    (rw c.receive.ensures.until c.requires.timely)
    (reading_awake c.args.self.now.phase c.receive.new.self.phase c.requires.phase c.receive.ensures.phase)

pub returns-then-not-self-clause-parks : goal.returns-then-not-self-clause-parks
returns-then-not-self-clause-parks g c = λ _ _.
    reading_awake c.args.self.now.phase c.receive.new.self.phase c.requires.phase c.receive.ensures.phase

pub returns-then-not-self-clause-time : goal.returns-then-not-self-clause-time
returns-then-not-self-clause-time g c = λ _. inl (c.receive.ensures.phase, c.receive.ensures.until)

pub returns-then-not-self-clause-answers : goal.returns-then-not-self-clause-answers
returns-then-not-self-clause-answers g c =
    adds_nothing
    (RepliesAmong g.S.Site.answers g.S.Site.acts g.S.Site.version g.S.Site.waits c.args.desk.now.hosts c.args.turn.now.others c.args.turn.now.is_loopback)
    c.args.desk.now.site
    (calls_of c.args.self.now) (calls_of c.receive.new.self) c.receive.ensures.calls

pub returns-then-self-clause-moves : goal.returns-then-self-clause-moves
returns-then-self-clause-moves g c = λ goes_on.
    given_moves c.args.self.now.phase c.give.new.self.phase c.requires.phase (c.give.ensures.phase goes_on)

pub returns-then-self-clause-current : goal.returns-then-self-clause-current
returns-then-self-clause-current g c = λ goes_on.
    given_current c.args.turn.now.at c.args.turn.now.version c.give.new.self
    (c.give.ensures.phase goes_on) (c.give.ensures.time goes_on)

pub returns-then-self-clause-parks : goal.returns-then-self-clause-parks
returns-then-self-clause-parks g c = λ _ goes_on.
    given_awake c.give.new.self.phase (c.give.ensures.phase goes_on)

pub returns-then-self-clause-time : goal.returns-then-self-clause-time
returns-then-self-clause-time g c = λ goes_on.
    given_keeps c.args.turn.now.at c.args.self.now c.give.new.self
    (c.give.ensures.phase goes_on) (c.give.ensures.time goes_on)

pub returns-then-self-clause-stream : goal.returns-then-self-clause-stream
returns-then-self-clause-stream g c =
    goes_on_same c.args.self.now c.give.new.self c.give.ensures.stream

pub returns-then-self-clause-answers : goal.returns-then-self-clause-answers
returns-then-self-clause-answers g c = c.give.ensures.answers

pub returns-in-Partial-3-clause-moves : goal.returns-in-Partial-3-clause-moves
returns-in-Partial-3-clause-moves g c = λ goes_on.
    given_moves c.args.self.now.phase c.give-in-Partial-3.new.self.phase
    c.requires.phase (c.give-in-Partial-3.ensures.phase goes_on)

pub returns-in-Partial-3-clause-current : goal.returns-in-Partial-3-clause-current
returns-in-Partial-3-clause-current g c = λ goes_on.
    given_current c.args.turn.now.at c.args.turn.now.version c.give-in-Partial-3.new.self
    (c.give-in-Partial-3.ensures.phase goes_on) (c.give-in-Partial-3.ensures.time goes_on)

pub returns-in-Partial-3-clause-parks : goal.returns-in-Partial-3-clause-parks
returns-in-Partial-3-clause-parks g c = λ _ goes_on.
    given_awake c.give-in-Partial-3.new.self.phase (c.give-in-Partial-3.ensures.phase goes_on)

pub returns-in-Partial-3-clause-time : goal.returns-in-Partial-3-clause-time
returns-in-Partial-3-clause-time g c = λ goes_on.
    given_keeps c.args.turn.now.at c.args.self.now c.give-in-Partial-3.new.self
    (c.give-in-Partial-3.ensures.phase goes_on) (c.give-in-Partial-3.ensures.time goes_on)

pub returns-in-Partial-3-clause-stream : goal.returns-in-Partial-3-clause-stream
returns-in-Partial-3-clause-stream g c =
    goes_on_same c.args.self.now c.give-in-Partial-3.new.self c.give-in-Partial-3.ensures.stream

pub returns-in-Partial-3-clause-answers : goal.returns-in-Partial-3-clause-answers
returns-in-Partial-3-clause-answers g c = c.give-in-Partial-3.ensures.answers

pub returns-in-Request-clause-moves : goal.returns-in-Request-clause-moves
returns-in-Request-clause-moves g c = c.begin.ensures.moves

pub returns-in-Request-clause-current : goal.returns-in-Request-clause-current
returns-in-Request-clause-current g c = c.begin.ensures.current

pub returns-in-Request-clause-parks : goal.returns-in-Request-clause-parks
returns-in-Request-clause-parks g c = c.begin.ensures.parks

pub returns-in-Request-clause-time : goal.returns-in-Request-clause-time
returns-in-Request-clause-time g c = c.begin.ensures.time

pub returns-in-Request-clause-answers : goal.returns-in-Request-clause-answers
returns-in-Request-clause-answers g c = c.begin.ensures.answers

pub returns-in-Request-clause-stream : goal.returns-in-Request-clause-stream
returns-in-Request-clause-stream g c = goes_on_same c.args.self.now c.begin.new.self c.begin.ensures.stream

pub returns-in-Partial-clause-answers : goal.returns-in-Partial-clause-answers
returns-in-Partial-clause-answers g c =
    adds_nothing
    (RepliesAmong g.S.Site.answers g.S.Site.acts g.S.Site.version g.S.Site.waits c.args.desk.now.hosts c.args.turn.now.others c.args.turn.now.is_loopback)
    c.args.desk.now.site
    (calls_of c.args.self.now) (calls_of c.args.self.now) refl

pub returns-in-Partial-clause-stream : goal.returns-in-Partial-clause-stream
returns-in-Partial-clause-stream g c = goes_on_same c.args.self.now c.args.self.now refl

pub returns-in-Partial-2-clause-answers : goal.returns-in-Partial-2-clause-answers
returns-in-Partial-2-clause-answers g c =
    adds_nothing
    (RepliesAmong g.S.Site.answers g.S.Site.acts g.S.Site.version g.S.Site.waits c.args.desk.now.hosts c.args.turn.now.others c.args.turn.now.is_loopback)
    c.args.desk.now.site
    (calls_of c.args.self.now) (calls_of c.args.self.now) refl

pub returns-in-Partial-2-clause-stream : goal.returns-in-Partial-2-clause-stream
returns-in-Partial-2-clause-stream g c = goes_on_same c.args.self.now c.args.self.now refl
