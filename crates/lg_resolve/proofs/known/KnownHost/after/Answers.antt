use Rattle.std.proofs.Common.{◌≡◌, ◌∙◌, sym, None, Some, [], false, rules}
use Rattle.lg_resolve.proofs.AnswerLaws.{latest-more, fails-more}
use Rattle.lg_resolve.proofs.known.KnownHost.after.Goals as goal

pub returns-in-Some-clause-after : goal.returns-in-Some-clause-after
returns-in-Some-clause-after c = λ answers was. rw c.in-Some.is (record {
  addrs_are = sym (latest-more [] answers (Some c.in-Some.addrs.items));
  fails_is = sym (fails-more false answers (Some c.in-Some.addrs.items));
})

pub returns-in-None-clause-after : goal.returns-in-None-clause-after
returns-in-None-clause-after c = λ answers was.
    let same : c.try_extend_from_slice.new.self.items ≡ c.args.self.now.addrs.items = search rules in
    rw c.in-None.is (record {
      addrs_are = same ∙ (was.addrs_are ∙ sym (latest-more [] answers None));
      fails_is = sym (fails-more false answers None);
    })
