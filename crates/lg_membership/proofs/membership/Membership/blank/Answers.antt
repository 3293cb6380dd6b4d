use Rattle.std.proofs.Common.{◌≡◌, false, List, [], ◌∷◌, ℕ, None, sym, subst, ◌∙◌, ap}
use Rattle.lg_rules.specs.declared.addr.Addr.{Addr}
use Rattle.lg_rules.specs.declared.version.Version.TheVariants.{One}
use Rattle.lg_rules.specs.Meaning.Own.{own_of}
use Rattle.lg_rules.specs.Meaning.Table.{known_of}
use Rattle.lg_membership.specs.Support.Rows.{rows_by, AreKnownTo}
use Rattle.lg_membership.specs.Support.State.{GroupState, group_state_of}
use Rattle.lg_membership.proofs.QueueLaws.{queue-nil}
use Rattle.lg_membership.proofs.SuspicionLaws.{suspicions-nil}
use Rattle.lg_membership.proofs.membership.Membership.blank.Goals as goal
use Rattle.lg_membership.proofs.membership.Membership.blank.Goals.{After-new-4}

abbrev made : (c : After-new-4) → GroupState
made c = record {
  config = None;
  own = c.new.result;
  members = c.new-2.result;
  suspicions = rows_by c.new-2.result.names c.new-3.result;
  queue = c.new-4.result;
}

is_blank : (c : After-new-4) → made c ≡ group_state_of []
is_blank c =
    let own = c.new.ensures ∙ ap (λ (n : List ℕ). own_of n c.v4.result []) c.default-name.ensures
    ∙ ap (λ (a : Addr). own_of (97 ∷ []) a []) c.v4.ensures in
    let members = c.new-2.ensures ∙ ap (λ (n : List ℕ). known_of false n []) c.default-name.ensures in
    let suspicions = ap (rows_by c.new-2.result.names) c.new-3.ensures ∙ sym suspicions-nil in
    let queue = c.new-4.ensures ∙ (λ i. record { lambda = 1; version = One; rows = sym queue-nil i }) in
    λ i. record { config = None; own = own i; members = members i; suspicions = suspicions i; queue = queue i }

pub invariant_of-result : goal.invariant_of-result
invariant_of-result c = record {
  reached = record { log = []; is = is_blank c; good = tt };
  known = subst (AreKnownTo c.new-2.result.names) (sym c.new-3.ensures) tt;
}

pub returns : goal.returns
returns c = is_blank c
