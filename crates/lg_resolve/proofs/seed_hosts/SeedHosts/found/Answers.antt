use Rattle.std.proofs.Common.{◌≡◌, ◌<◌, List, ◌++◌, ◌∙◌, length, get_or, take, ap, sym, arith}
use Rattle.lg_rules.specs.declared.addr.Addr.{Addr}
use Rattle.lg_resolve.specs.declared.known.KnownHost.{KnownHost}
use Rattle.lg_resolve.specs.Meaning.Rounds.{found_in}
use Rattle.lg_resolve.proofs.RoundLaws.{cut_again, found_more}
use Rattle.lg_resolve.proofs.seed_hosts.SeedHosts.found.Goals as goal

pub loop-known-preserved : goal.loop-known-preserved
loop-known-preserved c =
    let rows = c.args.self.now.rows.items in
    let i = c.loop-known.known-index in
    let k = c.known-item.result in
    let addrs = k.addrs.items in
    let same = c.as_slice-known-items.ensures.value in
    let there : i < length rows = omega (arith, c.loop-known-test.true, ap length same) in
    let is : k ≡ get_or rows i k = c.known-item.is ∙ ap (λ (l : List KnownHost). get_or l i k) same in
    let pushed : c.push_each.new.found.items ≡ take 64 (c.loop-known.found.items ++ addrs) = c.push_each.ensures ∙ ap (λ (l : List Addr). take 64 (c.loop-known.found.items ++ l)) c.as_slice.ensures.value in
    pushed ∙ (ap (λ (l : List Addr). take 64 (l ++ addrs)) c.loop-known.invariant ∙ (cut_again 64 (found_in (take i rows)) addrs
    ∙ ap (λ (l : List Addr). take 64 l) (sym (found_more rows i k there is))))
