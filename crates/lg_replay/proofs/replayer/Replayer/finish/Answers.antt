use Rattle.std.proofs.Common.{◌≡◌, arith}
use Rattle.lg_replay.proofs.EndLaws.{ends_done, ends_unchecked, faulty_by_file, faulty_by_reply}
use Rattle.lg_replay.proofs.replayer.Replayer.finish.Goals as goal
use Rattle.lg_replay.proofs.replayer.Replayer.finish.Goals.{then-self-gt0-via-then-self-gt0, then-self-gt0-via-else-self-gt0+then-self}

pub returns-then-self-gt0-clause-end : goal.returns-then-self-gt0-clause-end
returns-then-self-gt0-clause-end c = λ files is.
    elim c.then-self-gt0.branch [
      | then-self-gt0-via-then-self-gt0 w ↦ faulty_by_reply c.args.self.now files is w.if-self-gt0.true
      | then-self-gt0-via-else-self-gt0+then-self w ↦ faulty_by_file c.args.self.now files is w.if-self.true
    ]

pub returns-then-self-gt0-2-clause-end : goal.returns-then-self-gt0-2-clause-end
returns-then-self-gt0-2-clause-end c = λ files is.
    let none : c.args.self.now.counts.differing ≡ 0 = omega (arith, c.if-self-gt0.false) in
    ends_unchecked c.args.self.now files is none c.if-self.false c.if-self-gt0-2.true

pub returns-clause-end : goal.returns-clause-end
returns-clause-end c = λ files is.
    let none : c.args.self.now.counts.differing ≡ 0 = omega (arith, c.if-self-gt0.false) in
    let all : c.args.self.now.counts.unchecked ≡ 0 = omega (arith, c.if-self-gt0-2.false) in
    ends_done c.args.self.now files is none c.if-self.false all
