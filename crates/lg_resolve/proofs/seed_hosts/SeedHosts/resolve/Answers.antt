use Rattle.std.proofs.Common.{◌≡◌, ◌∙◌, ◌<◌, ◌≤◌, List, [], ◌∷◌, ◌++◌, length, get_or, ap, sym, subst, arith, length-append, append_assoc, take}
use Rattle.std.proofs.lemmas.List.{length-map, map-append, take_all}
use Rattle.lg_config.specs.declared.host.Host.{Host}
use Rattle.lg_resolve.specs.declared.known.KnownHost.{KnownHost}
use Rattle.lg_resolve.specs.Meaning.Answers.{answers_by, found_of, HostAnswer, Found}
use Rattle.lg_resolve.specs.Meaning.Rounds.{hosts_in, longer, AreAfter, TellsEach}
use Rattle.lg_resolve.proofs.RoundLaws.{answered_more, hosts_more, news_more, round_more, same_count}
use Rattle.lg_resolve.proofs.seed_hosts.SeedHosts.resolve.Goals as goal

pub loop-known-preserved : goal.loop-known-preserved
loop-known-preserved g c =
    let rows = c.args.self.now.rows.items in
    let i = c.loop-known.known-index in
    let k = c.known-item.result in
    let l = c.after.result in
    let after = c.loop-known.rows.items in
    let f : Found = found_of c.resolve-found.result in
    let was = c.loop-known.invariant in
    let found : List Found = was.found.0 in
    let log = g.S.Resolver.log c.args.resolver.now in
    let reported = g.F.FaultStream.reported in
    let same = c.as_slice-known-items.ensures.value in
    let there : i < length rows = omega (arith, c.loop-known-test.true, ap length same) in
    let is : k ≡ get_or rows i k = c.known-item.is ∙ ap (λ (x : List KnownHost). get_or x i k) same in
    rw c.push.ensures.items (record {
      few = length-append after (l ∷ []) ∙ omega (arith, was.few);
      hosts = map-append (λ (known : KnownHost). known.host) after (l ∷ [])
          ∙ (ap (λ (x : List Host). x ++ l.host ∷ []) was.hosts ∙ (ap (λ (h : Host). hosts_in (take i rows) ++ h ∷ []) c.after.ensures.host ∙ sym (hosts_more rows i k there is)));
      found = (
        found ++ f ∷ [],
        length-append found (f ∷ []) ∙ omega (arith, was.found.1),
        λ histories all. round_more histories rows after found i k l f all there is was.found.1 (was.found.2 histories all) c.after.ensures.after,
        λ histories all. news_more histories rows found i k f c.news.result (reported c.args.faults.now) (reported c.loop-known.faults) (reported c.tell_news.new.faults)
            all there is was.found.1 (was.found.3 histories all) c.news.ensures c.tell_news.ensures,
        λ yes. c.resolve-found.ensures yes ∙ (ap (λ (x : List HostAnswer). x ++ record { host = k.host; found = f } ∷ []) (was.found.4 yes)
            ∙ (append_assoc log (answers_by (hosts_in (take i rows)) found) (record { host = k.host; found = f } ∷ [])
            ∙ ap (λ (x : List HostAnswer). log ++ x) (sym (answered_more rows found i k f there is was.found.1)))),
      );
    })

pub returns-clause-after : goal.returns-clause-after
returns-clause-after g c = λ histories all.
    let rows = c.args.self.now.rows.items in
    let i = c.loop-known.known-index in
    let was = c.loop-known.invariant in
    let found : List Found = was.found.0 in
    let log = g.S.Resolver.log c.args.resolver.now in
    let over : length rows ≤ i = omega (arith, c.loop-known-test.false, ap length c.as_slice-known-items.ensures.value) in
    let before = g.F.FaultStream.reported c.args.faults.now in
    let after = g.F.FaultStream.reported c.loop-known.faults in
    let all_of : take i histories ≡ histories = take_all i histories (omega (arith, over, same_count histories rows all)) in
    let host_of : KnownHost → Host = λ known. known.host in
    let now = c.loop-known.rows.items in
    let many : length found ≡ length rows = was.found.1 ∙ (sym was.few ∙ (sym (length-map now host_of)
    ∙ (ap length was.hosts ∙ (length-map (take i rows) host_of ∙ ap length (take_all i rows over))))) in (
      found,
      record {
        each = many;
        known = subst (λ (x : List (List Found)). AreAfter (longer x found) c.loop-known.rows.items) all_of (was.found.2 histories all);
        told = subst (λ (x : List (List Found)). TellsEach before after (hosts_in rows) x found) all_of
            (subst (λ (x : List KnownHost). TellsEach before after (hosts_in x) (take i histories) found) (take_all i rows over) (was.found.3 histories all));
      },
      λ yes. was.found.4 yes ∙ ap (λ (x : List KnownHost). log ++ answers_by (hosts_in x) found) (take_all i rows over),
    )
