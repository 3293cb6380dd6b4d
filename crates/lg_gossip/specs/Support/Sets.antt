-- The rows of the queue by how often they were sent.
use Rattle.std.specs.Prelude.{ℕ, ◌≡◌, ◌<◌, Bool, List, map, length, nat_eq, slice_index_or}
use Rattle.lg_bit_set.specs.Meaning.Flags.{numbers_of, flags_by}
use Rattle.lg_gossip.specs.declared.choice.TakenRow.{TakenRow}
use Rattle.lg_gossip.specs.declared.queued.Queued.{Queued}
use Rattle.lg_gossip.specs.declared.sets.TheConstants.{SETS}

-- whether a row was sent exactly so often
abbrev pub was_sent : ℕ → Queued → Bool
was_sent sends q = nat_eq q.sends sends

-- each set has the indexes of the rows that were sent exactly as often as its own index says
pub record AreSets (sent : List (List Bool)) (rows : List Queued) : Type 0 where
  pub long : length sent ≡ SETS
  pub each : (sends : ℕ) (d : List Bool) → sends < SETS
      → slice_index_or sent sends d ≡ flags_by (was_sent sends) rows

-- the places of the rows of a set, which were sent so often
abbrev pub places_of : ℕ → List Bool → List TakenRow
places_of sends flags = map (λ n. record { index = n; sends = sends }) (numbers_of flags)
