-- Worked stalls, waits and hosts.
use Rattle.std.specs.Prelude.{◌≡◌, [], ◌∷◌, Some, refl}
use Rattle.lg_rules.specs.declared.addr.Ip.TheVariants.{V4}
use Rattle.lg_http.specs.declared.hosts.Hosts.TheVariants.{Any, Local}
use Rattle.lg_node.specs.Meaning.Starts.{hosts_of, stall_of, turn_wait}

-- a `stall_ms` of 0 turns the stall off, and one below 25 counts as 25
none_at_zero : stall_of 0 ≡ 0
none_at_zero = refl

one_is_raised : stall_of 1 ≡ 25
one_is_raised = refl

below_the_least : stall_of 24 ≡ 25
below_the_least = refl

the_least : stall_of 25 ≡ 25
the_least = refl

the_default : stall_of 100 ≡ 100
the_default = refl

the_greatest : stall_of 60000 ≡ 60000
the_greatest = refl

-- a tenth of the timeout, from 5 to 50, if there is no stall
a_tenth : turn_wait 200 0 ≡ 20
a_tenth = refl

at_least_five : turn_wait 1 0 ≡ 5
at_least_five = refl

at_most_fifty : turn_wait 60000 0 ≡ 50
at_most_fifty = refl

-- and at most half the stall
half_a_stall : turn_wait 500 60 ≡ 30
half_a_stall = refl

half_the_least : turn_wait 200 25 ≡ 12
half_the_least = refl

a_long_stall : turn_wait 200 1000 ≡ 20
a_long_stall = refl

-- on loopback a page of another name is answered nothing
on_loopback : hosts_of (Some record { ip = V4 (127 ∷ 0 ∷ 0 ∷ 2 ∷ []); port = 8946 }) ≡ Local
on_loopback = refl

for_all : hosts_of (Some record { ip = V4 (0 ∷ 0 ∷ 0 ∷ 0 ∷ []); port = 8946 }) ≡ Any
for_all = refl
