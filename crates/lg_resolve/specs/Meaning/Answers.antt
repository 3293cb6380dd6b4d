-- What a resolver answers of a host, and what is known of the host by its answers (this project's choice).
use Rattle.std.specs.Prelude.{◌≡◌, Bool, true, false, List, [], ◌∷◌, Option, Some, None, if◌then◌else◌}
use Rattle.std.specs.Option.{option_map}
use Rattle.arrayvec.specs.ArrayVec.{ArrayVec}
use Rattle.lg_rules.specs.declared.addr.Addr.{Addr}
use Rattle.lg_rules.specs.declared.addr.Ip.{Ip}
use Rattle.lg_rules.specs.declared.addr.Ip.TheVariants as ip
use Rattle.lg_config.specs.declared.host.Host.{Host}
use Rattle.lg_resolve.specs.declared.known.KnownHost.{KnownHost}
use Rattle.lg_resolve.specs.declared.known.HostNews.{HostNews}
use Rattle.lg_resolve.specs.declared.known.HostNews.TheVariants.{Fails, Resolves}
use Rattle.lg_resolve.specs.declared.resolver.Families.{Families}
use Rattle.lg_resolve.specs.declared.resolver.Families.TheVariants.{Ipv4, Both}

-- the addresses that a host was found to have, or none if its name doesn't resolve
abbrev pub Found : Type 0
Found = Option (List Addr)

-- an answer of a resolver, by what a call of it returns, and the host that it is of
pub record HostAnswer : Type 0 where
  pub host : Host
  pub found : Found

abbrev pub found_of : Option (ArrayVec Addr) → Found
found_of found = option_map (λ addrs. addrs.items) found

abbrev pub answered : Host → Option (ArrayVec Addr) → HostAnswer
answered host found = record { host = host; found = found_of found }

-- those of some hosts, in order
abbrev pub answers_by : List Host → List Found → List HostAnswer
answers_by (host ∷ hosts) (found ∷ more) = record { host = host; found = found } ∷ answers_by hosts more
answers_by _ _ = []

-- The addresses of a host by some answers, the oldest first: those of the last answer that has any. So what was found
-- before counts as long as its name doesn't resolve.
abbrev pub latest : List Addr → List Found → List Addr
latest known [] = known
latest known (None ∷ answers) = latest known answers
latest known (Some addrs ∷ answers) = latest addrs answers

abbrev pub addrs_by : List Found → List Addr
addrs_by answers = latest [] answers

-- whether an answer says that a name doesn't resolve, and whether the last of some does
abbrev pub is_unresolved : Found → Bool
is_unresolved None = true
is_unresolved (Some addrs) = false

abbrev pub last_fails : Bool → List Found → Bool
last_fails before [] = before
last_fails before (found ∷ answers) = last_fails (is_unresolved found) answers

abbrev pub fails_by : List Found → Bool
fails_by answers = last_fails false answers

-- What is told of a host if this is answered after other answers: that its name doesn't resolve, if that is new, and
-- that it resolves again.
abbrev pub news_of : List Found → Found → Option HostNews
news_of answers None = if fails_by answers then None else Some Fails
news_of answers (Some addrs) = if fails_by answers then Some Resolves else None

-- what is known of a host is what these answers say of it
pub record IsAfter (answers : List Found) (known : KnownHost) : Type 0 where
  pub addrs_are : known.addrs.items ≡ addrs_by answers
  pub fails_is : known.fails ≡ fails_by answers

-- the families that a socket reaches that is bound at this address, and whether an address is of one of them
abbrev pub families_of : Ip → Families
families_of (ip.V4 octets) = Ipv4
families_of (ip.V6 octets) = Both

abbrev pub is_reached : Families → Ip → Bool
is_reached Ipv4 (ip.V6 octets) = false
is_reached _ _ = true
