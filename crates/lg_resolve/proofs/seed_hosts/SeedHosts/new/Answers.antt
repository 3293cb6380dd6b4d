use Rattle.std.proofs.Common.{◌≡◌, ◌<◌, ◌∙◌, List, [], ◌∷◌, ◌++◌, length, get_or, ap, sym, subst, arith, length-append, take}
use Rattle.std.proofs.lemmas.List.{map-append, take_more}
use Rattle.lg_config.specs.declared.host.Host.{Host}
use Rattle.lg_resolve.specs.declared.known.KnownHost.{KnownHost}
use Rattle.lg_resolve.specs.Meaning.Answers.{Found}
use Rattle.lg_resolve.specs.Meaning.Rounds.{are_fresh, AreAfter}
use Rattle.lg_resolve.proofs.RoundLaws.{after_more, fresh_more}
use Rattle.lg_resolve.proofs.seed_hosts.SeedHosts.new.Goals as goal

pub loop-host-preserved : goal.loop-host-preserved
loop-host-preserved c =
    let hosts = c.args.hosts.now.items in
    let i = c.loop-host.host-index in
    let was = c.loop-host.invariant in
    let rows = c.loop-host.rows.items in
    let k = c.new.result in
    let h = c.host-item.result in
    let same = c.as_slice-host-items.ensures.value in
    let there : i < length hosts = omega (arith, c.loop-host-test.true, ap length same) in
    let is : h ≡ get_or hosts i h = c.host-item.is ∙ ap (λ (l : List Host). get_or l i h) same in
    rw c.push.ensures.items (record {
      so_far = map-append (λ (known : KnownHost). known.host) rows (k ∷ [])
          ∙ (ap (λ (l : List Host). l ++ k.host ∷ []) was.so_far ∙ (ap (λ (x : Host). take i hosts ++ x ∷ []) (c.new.ensures.host ∙ is) ∙ sym (take_more hosts i h there)));
      fresh = subst (λ (histories : List (List Found)). AreAfter histories (rows ++ k ∷ [])) (sym (fresh_more hosts i h there)) (after_more (are_fresh (take i hosts)) rows [] k was.fresh c.new.ensures.after);
      few = length-append rows (k ∷ []) ∙ omega (arith, was.few);
    })
