-- Worked rows: what the definitions give for some numbers.
use Rattle.std.specs.Prelude.{◌≡◌, ℕ, pos, negsuc, List, [], ◌∷◌, map, Option, Some, None, Result, Ok, Err, refl}
use Rattle.lg_rules.specs.declared.addr.Ip.TheVariants.{V4}
use Rattle.lg_timing.specs.declared.config.Config.{Config}
use Rattle.lg_timing.specs.declared.config.ConfigFault.{ConfigFault}
use Rattle.lg_timing.specs.declared.config.ConfigFault.TheVariants.{History, Interval, Seeds, Wire, Forget}
use Rattle.lg_timing.specs.declared.config.ConfigFault.TheVariants.{First, GossipMs, GossipTo, Group}
use Rattle.lg_timing.specs.Meaning.Config.{check_of, defaults}
use Rattle.lg_timing.specs.Meaning.Score.{score_of}
use Rattle.lg_timing.specs.Meaning.Tables.{log10_of, ratio_of}
use Rattle.lg_timing.specs.Meaning.Timeouts.{range_of, timeout_of, suspicion_of}

-- the member b with the default numbers, except for these
abbrev with_numbers : ℕ → ℕ → Config
with_numbers interval confirmations =
    record (defaults (98 ∷ []) (record { ip = V4 (127 ∷ 0 ∷ 0 ∷ 1 ∷ []); port = 7946 })) {
      interval_ms = interval;
      timeout_ms = 1;
      confirmations = confirmations;
    }

-- five members, three confirmations
five_members :
    map (λ c. suspicion_of 5 c (with_numbers 1000 3)) (0 ∷ 1 ∷ 2 ∷ 3 ∷ [])
    ≡ 30000 ∷ 17500 ∷ 10200 ∷ 5000 ∷ []
unfolding range_of timeout_of log10_of ratio_of
five_members = refl

-- four members are too few for three confirmations
four_members : range_of 4 (with_numbers 1000 3) ≡ record { min = 5000; max = 30000; confirmations = 0 }
unfolding range_of log10_of
four_members = refl

four_members_timeout : suspicion_of 4 0 (with_numbers 1000 3) ≡ 5000
unfolding range_of timeout_of log10_of ratio_of
four_members_timeout = refl

hundred_members :
    map (λ c. suspicion_of 100 c (with_numbers 1000 3)) (0 ∷ 1 ∷ 2 ∷ 3 ∷ [])
    ≡ 63210 ∷ 36873 ∷ 21492 ∷ 10535 ∷ []
unfolding range_of timeout_of log10_of ratio_of
hundred_members = refl

-- sixteen members, five confirmations, an interval of 200 ms
sixteen_members :
    map (λ c. suspicion_of 16 c (with_numbers 200 5)) (0 ∷ 1 ∷ 2 ∷ 3 ∷ 4 ∷ 5 ∷ [])
    ≡ 7224 ∷ 4901 ∷ 3534 ∷ 2571 ∷ 1819 ∷ 1204 ∷ []
unfolding range_of timeout_of log10_of ratio_of
sixteen_members = refl

-- a missed nack changes nothing at the greatest score, and an ack changes nothing at 0
greatest_score : score_of 8 (pos 2 ∷ pos 2 ∷ pos 2 ∷ pos 2 ∷ pos 1 ∷ []) ≡ 8
greatest_score = refl

least_score : score_of 8 (negsuc 0 ∷ negsuc 0 ∷ pos 1 ∷ []) ≡ 0
least_score = refl

-- the sum is held at every mark, and not only at the end
held_at_every_mark : score_of 2 (negsuc 0 ∷ pos 2 ∷ pos 2 ∷ []) ≡ 1
held_at_every_mark = refl

-- what a check returns for the member b with a version of packets, a limit of the history and a seed of this name
abbrev checked : ℕ → ℕ → List ℕ → Result (Unit {0}) ConfigFault
checked wire limit seed =
    let usual = defaults (98 ∷ []) (record { ip = V4 (127 ∷ 0 ∷ 0 ∷ 1 ∷ []); port = 7946 }) in
    check_of (record usual {
      wire = wire;
      history_limit = limit;
      seeds = record { items = record { name = seed; addr = usual.addr } ∷ [] };
    })

versions :
    map (λ wire. checked wire 20000 (99 ∷ [])) (0 ∷ 1 ∷ 2 ∷ 3 ∷ 4 ∷ [])
    ≡ Err Wire ∷ Ok tt ∷ Ok tt ∷ Ok tt ∷ Err Wire ∷ []
unfolding check_of
versions = refl

-- the seeds are judged before the version, and the limit before both
seeds_before_version : checked 0 20000 (98 ∷ []) ≡ Err Seeds
unfolding check_of
seeds_before_version = refl

limit_before_version : checked 0 1 (99 ∷ []) ≡ Err History
unfolding check_of
limit_before_version = refl

limit_before_seeds : checked 0 1 (98 ∷ []) ≡ Err History
unfolding check_of
limit_before_seeds = refl

-- what a check returns for the member b with a version of packets, a time before the first gossip, a number of members
-- that a gossip goes to, and a seed of this name
abbrev gossip_checked : ℕ → ℕ → ℕ → List ℕ → Result (Unit {0}) ConfigFault
gossip_checked wire wait members seed =
    let usual = defaults (98 ∷ []) (record { ip = V4 (127 ∷ 0 ∷ 0 ∷ 1 ∷ []); port = 7946 }) in
    check_of (record usual {
      wire = wire;
      gossip_ms = wait;
      gossip_to = members;
      seeds = record { items = record { name = seed; addr = usual.addr } ∷ [] };
    })

-- 0 turns gossip off, and the least other time is 10
gossip_times :
    map (λ wait. gossip_checked 1 wait 3 (99 ∷ [])) (0 ∷ 1 ∷ 9 ∷ 10 ∷ 60000 ∷ 60001 ∷ [])
    ≡ Ok tt ∷ Err GossipMs ∷ Err GossipMs ∷ Ok tt ∷ Ok tt ∷ Err GossipMs ∷ []
unfolding check_of
gossip_times = refl

-- a gossip goes to a member at least
gossip_members :
    map (λ members. gossip_checked 1 200 members (99 ∷ [])) (0 ∷ 1 ∷ 8 ∷ 9 ∷ [])
    ≡ Err GossipTo ∷ Ok tt ∷ Ok tt ∷ Err GossipTo ∷ []
unfolding check_of
gossip_members = refl

-- the seeds are judged before the version, the version before the time, and the time before the number of members
seeds_before_gossip : gossip_checked 1 1 0 (98 ∷ []) ≡ Err Seeds
unfolding check_of
seeds_before_gossip = refl

version_before_gossip : gossip_checked 0 1 0 (99 ∷ []) ≡ Err Wire
unfolding check_of
version_before_gossip = refl

time_before_members : gossip_checked 1 1 0 (99 ∷ []) ≡ Err GossipMs
unfolding check_of
time_before_members = refl

-- what a check returns for the member b with an interval, a version of packets, a time after which members that are
-- gone are forgotten, a time before the first gossip, and a number of members that a gossip goes to
abbrev forget_checked : ℕ → ℕ → ℕ → ℕ → ℕ → Result (Unit {0}) ConfigFault
forget_checked interval wire forget wait members =
    let usual = defaults (98 ∷ []) (record { ip = V4 (127 ∷ 0 ∷ 0 ∷ 1 ∷ []); port = 7946 }) in
    check_of (record usual {
      interval_ms = interval;
      wire = wire;
      forget_ms = forget;
      gossip_ms = wait;
      gossip_to = members;
    })

-- 0 is that nothing is forgotten, the least other time is a second, and the greatest is thirty days
forget_times :
    map (λ forget. forget_checked 1000 3 forget 200 3) (0 ∷ 1 ∷ 999 ∷ 1000 ∷ 2592000000 ∷ 2592000001 ∷ [])
    ≡ Ok tt ∷ Err Forget ∷ Err Forget ∷ Ok tt ∷ Ok tt ∷ Err Forget ∷ []
unfolding check_of
forget_times = refl

-- the interval and the version are judged before the time of forgetting, and the numbers of gossip behind it
interval_before_forget : forget_checked 9 3 1 200 3 ≡ Err Interval
unfolding check_of
interval_before_forget = refl

version_before_forget : forget_checked 1000 4 1 200 3 ≡ Err Wire
unfolding check_of
version_before_forget = refl

forget_before_gossip : forget_checked 1000 3 1 1 0 ≡ Err Forget
unfolding check_of
forget_before_gossip = refl

-- what a check returns for the member b with a version of packets, a number of members that a gossip goes to, a first
-- number and a group
abbrev named_checked : ℕ → ℕ → ℕ → Option (List ℕ) → Result (Unit {0}) ConfigFault
named_checked wire members number named =
    let usual = defaults (98 ∷ []) (record { ip = V4 (127 ∷ 0 ∷ 0 ∷ 1 ∷ []); port = 7946 }) in
    check_of (record usual { wire = wire; gossip_to = members; first = number; group = named })

-- the first number is 1 at least, and one that four bytes hold
first_numbers :
    map (λ number. named_checked 1 3 number None) (0 ∷ 1 ∷ 4294967295 ∷ 4294967296 ∷ [])
    ≡ Err First ∷ Ok tt ∷ Ok tt ∷ Err First ∷ []
unfolding check_of
first_numbers = refl

-- a member of a group sends packets of version 3
groups_by_version :
    map (λ wire. named_checked wire 3 1 (Some (103 ∷ []))) (1 ∷ 2 ∷ 3 ∷ []) ≡ Err Group ∷ Err Group ∷ Ok tt ∷ []
unfolding check_of
groups_by_version = refl

-- the version and the members of a gossip are judged before the first number, and this before the group
members_before_first : named_checked 3 0 0 None ≡ Err GossipTo
unfolding check_of
members_before_first = refl

first_before_group : named_checked 1 3 0 (Some (103 ∷ [])) ≡ Err First
unfolding check_of
first_before_group = refl

version_before_group : named_checked 4 3 1 (Some (103 ∷ [])) ≡ Err Wire
unfolding check_of
version_before_group = refl
