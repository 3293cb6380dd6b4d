-- The ranges that the fields of a configuration have if it passes its check.
use Rattle.std.specs.Prelude.{◌≡◌, ◌≤◌, ◌<◌, true, false, length}
use Rattle.lg_timing.specs.declared.config.Config.{Config}
use Rattle.lg_rules.specs.declared.claim.TheConstants.{MAX_LAMBDA}
use Rattle.lg_timing.specs.declared.config.TheConstants.{
  MIN_INTERVAL_MS,
  MAX_INTERVAL_MS,
  MAX_INDIRECT,
  MAX_SCORE,
  MAX_FACTOR,
  MAX_CONFIRMATIONS,
  MIN_NACK_THOUSANDTHS,
  MAX_NACK_THOUSANDTHS,
  MIN_HISTORY_LIMIT,
  MAX_HISTORY_LIMIT,
  MIN_WIRE,
  MAX_WIRE,
  MAX_FORGET_MS,
  MAX_GOSSIP_MS,
  MAX_GOSSIP_TO,
  MIN_FIRST,
  MAX_FIRST,
  MAX_SEEDS,
}
use Rattle.lg_timing.specs.Meaning.Config.{can_name_group, is_seed, have_distinct_names}

pub record HasRanges (c : Config) : Type 0 where
  pub interval_least : MIN_INTERVAL_MS ≤ c.interval_ms
  pub interval_most : c.interval_ms ≤ MAX_INTERVAL_MS
  pub timeout_least : 1 ≤ c.timeout_ms
  pub timeout_below : c.timeout_ms < c.interval_ms
  pub indirect_most : c.indirect ≤ MAX_INDIRECT
  pub max_score_most : c.max_score ≤ MAX_SCORE
  pub alpha_least : 1 ≤ c.alpha
  pub alpha_most : c.alpha ≤ MAX_FACTOR
  pub beta_least : 1 ≤ c.beta
  pub beta_most : c.beta ≤ MAX_FACTOR
  pub confirmations_most : c.confirmations ≤ MAX_CONFIRMATIONS
  pub lambda_least : 1 ≤ c.lambda
  pub lambda_most : c.lambda ≤ MAX_LAMBDA
  pub nack_least : MIN_NACK_THOUSANDTHS ≤ c.nack_thousandths
  pub nack_most : c.nack_thousandths ≤ MAX_NACK_THOUSANDTHS
  pub history_least : MIN_HISTORY_LIMIT ≤ c.history_limit
  pub history_most : c.history_limit ≤ MAX_HISTORY_LIMIT
  pub wire_least : MIN_WIRE ≤ c.wire
  pub wire_most : c.wire ≤ MAX_WIRE
  pub forget_most : c.forget_ms ≤ MAX_FORGET_MS
  pub gossip_most : c.gossip_ms ≤ MAX_GOSSIP_MS
  pub gossip_to_least : 1 ≤ c.gossip_to
  pub gossip_to_most : c.gossip_to ≤ MAX_GOSSIP_TO
  pub first_least : MIN_FIRST ≤ c.first
  pub first_most : c.first ≤ MAX_FIRST
  pub group_named : can_name_group c.group c.wire ≡ true
  pub seeds_most : length c.seeds.items ≤ MAX_SEEDS
  pub seeds_distinct : have_distinct_names c.seeds.items ≡ true
  pub seeds_others : is_seed c.name c.seeds.items ≡ false
