-- Worked answers of a resolver.
use Rattle.std.specs.Prelude.{◌≡◌, ℕ, List, [], ◌∷◌, Some, None, true, false, codes, refl}
use Rattle.std.proofs.Common.{inl}
use Rattle.lg_rules.specs.declared.addr.Addr.{Addr}
use Rattle.lg_rules.specs.declared.addr.Ip.TheVariants as ip
use Rattle.lg_text.specs.Meaning.Reporting.{Reported, Reports}
use Rattle.lg_config.specs.declared.host.Host.{Host}
use Rattle.lg_resolve.specs.declared.known.HostNews.TheVariants.{Fails, Resolves}
use Rattle.lg_resolve.specs.declared.resolver.Families.TheVariants.{Ipv4, Both}
use Rattle.lg_resolve.specs.Meaning.Answers.{addrs_by, fails_by, is_reached, news_of, Found}
use Rattle.lg_resolve.specs.Meaning.Lines.{news_line}
use Rattle.lg_resolve.specs.Meaning.Rounds.{longer, next_wait, TellsEach}

abbrev at : ℕ → Addr
at last = record { ip = ip.V4 (10 ∷ 0 ∷ 0 ∷ last ∷ []); port = 7946 }

-- A host has no address at first, then one, then two others, and then its name doesn't resolve.
abbrev answers : List Found
answers = None ∷ Some (at 5 ∷ []) ∷ Some (at 6 ∷ at 7 ∷ []) ∷ None ∷ []

none_at_first : addrs_by [] ≡ []
none_at_first = refl

the_last_that_there_were : addrs_by answers ≡ at 6 ∷ at 7 ∷ []
the_last_that_there_were = refl

it_fails : fails_by answers ≡ true
it_fails = refl

but_not_before_it_was_asked : fails_by [] ≡ false
but_not_before_it_was_asked = refl

-- That it fails is told once, and that it resolves only if that was told.
told_at_first : news_of [] None ≡ Some Fails
told_at_first = refl

and_once : news_of (None ∷ []) None ≡ None
and_once = refl

told_again : news_of answers (Some (at 5 ∷ [])) ≡ Some Resolves
told_again = refl

not_if_it_resolved_before : news_of (Some (at 5 ∷ []) ∷ []) (Some (at 6 ∷ [])) ≡ None
not_if_it_resolved_before = refl

not_if_it_resolves_at_once : news_of [] (Some (at 5 ∷ [])) ≡ None
not_if_it_resolves_at_once = refl

the_line : news_line (codes "db.example") Fails ≡ codes "lg: the host db.example of the seeds doesn't resolve\n"
the_line = refl

the_other_line : news_line (codes "db.example") Resolves ≡ codes "lg: the host db.example of the seeds resolves\n"
the_other_line = refl

-- one more round of two hosts
a_round :
    longer ((None ∷ []) ∷ [] ∷ []) (Some (at 5 ∷ []) ∷ None ∷ [])
    ≡ (None ∷ Some (at 5 ∷ []) ∷ []) ∷ (None ∷ []) ∷ []
a_round = refl

-- In a round the name of the first host resolves again, and that of the second resolves as before: one line is told.
abbrev two_hosts : List Host
two_hosts = record { name = codes "db.example"; port = 7946 } ∷ record { name = codes "api.example"; port = 7946 } ∷ []

told_of_the_first :
    (before after : Reported) → Reports before after (codes "lg: the host db.example of the seeds resolves\n")
    → TellsEach before after two_hosts
    ((None ∷ []) ∷ (Some (at 5 ∷ []) ∷ []) ∷ [])
    (Some (at 6 ∷ []) ∷ Some (at 5 ∷ []) ∷ [])
told_of_the_first before after reports = (after, inl reports, (after, refl, refl))

-- the next round comes soon after a failure, and never later than each minute
soon : next_wait true 2000 60000 ≡ 2000
soon = refl

no_later : next_wait true 64000 60000 ≡ 60000
no_later = refl

each_minute : next_wait false 2000 60000 ≡ 60000
each_minute = refl

-- a socket that is bound at an IPv4 address reaches no IPv6 address
abbrev sixteen : List ℕ
sixteen = 32 ∷ 1 ∷ 13 ∷ 184 ∷ 0 ∷ 0 ∷ 0 ∷ 0 ∷ 0 ∷ 0 ∷ 0 ∷ 0 ∷ 0 ∷ 0 ∷ 0 ∷ 5 ∷ []

not_reached : is_reached Ipv4 (ip.V6 sixteen) ≡ false
not_reached = refl

reached : is_reached Both (ip.V6 sixteen) ≡ true
reached = refl
