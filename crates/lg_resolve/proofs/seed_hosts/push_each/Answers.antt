use Rattle.std.proofs.Common.{◌≡◌, ◌+◌, ◌-◌, ◌++◌, ◌∙◌, ℕ, length, take, ap, arith, rules}
use Rattle.lg_resolve.proofs.RoundLaws.{room_for}
use Rattle.lg_resolve.proofs.seed_hosts.push_each.Goals as goal

pub returns : goal.returns
returns c =
    let old = c.args.found.now.items in
    let addrs = c.args.addrs.now in
    let added : c.try_extend_from_slice.new.self.items ≡ old ++ take c.min-count.result addrs = search rules in
    let room : length old + (64 - c.len-room.result) ≡ 64 = omega (arith, c.len-room.ensures.value, c.len-room.ensures.fits) in
    added ∙ (ap (λ (n : ℕ). old ++ take n addrs) c.min-count.ensures ∙ room_for 64 (64 - c.len-room.result) old addrs room)
