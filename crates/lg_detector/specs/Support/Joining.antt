-- Joining, as functions of the state.
use Rattle.std.specs.Prelude.{ℕ, List, [], ◌∷◌, Option, Some, None}
use Rattle.lg_rules.specs.declared.addr.Addr.{Addr}
use Rattle.lg_rules.specs.declared.claim.Claim.{Claim}
use Rattle.lg_rules.specs.Meaning.Own.{own_record}
use Rattle.lg_packet.specs.declared.packet.Body.{Body}
use Rattle.lg_packet.specs.declared.packet.Body.TheVariants.{Pull, Page}
use Rattle.lg_membership.specs.Meaning.Gossip.{version_sent}
use Rattle.lg_membership.specs.Meaning.Pages.{page_of}
use Rattle.lg_membership.specs.Support.State.{shown}
use Rattle.lg_detector.specs.declared.reply.Outgoing.{Outgoing}
use Rattle.lg_detector.specs.Meaning.Groups.{own_group}
use Rattle.lg_detector.specs.Meaning.Joining.{own_told, with_claims}
use Rattle.lg_detector.specs.Support.State.{State, come_state}

abbrev pub own_packet_state : Addr → Body → State → Outgoing
own_packet_state to body s =
    let version = version_sent s.membership.config in
    let mine = own_group s.membership.config in
    with_claims to version mine s.membership.own.name body (own_told version (own_record s.membership.own))

abbrev pub pull_after_state : Addr → Option (List ℕ) → State → Outgoing
pull_after_state to after s = own_packet_state to (Pull after) s

abbrev pub page_behind_state : Addr → Option (List ℕ) → State → Outgoing
page_behind_state to after s =
    let version = version_sent s.membership.config in
    let mine = own_group s.membership.config in
    with_claims to version mine s.membership.own.name Page (page_of version after (shown s.membership))

abbrev pub next_pull_state : Addr → Option Claim → State → List Outgoing
next_pull_state to None s = []
next_pull_state to (Some last) s = pull_after_state to (Some last.name) s ∷ []

abbrev pub pull_state : ℕ → State → State
pull_state now s = come_state now s

abbrev pub pulls_state : ℕ → Addr → State → List Outgoing
pulls_state now peer s = pull_after_state peer None (come_state now s) ∷ []
