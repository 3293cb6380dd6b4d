-- The keys of a configuration's numbers: their names, ranges, defaults and faults, and the default configuration (this
-- project's choice).
use Rattle.std.specs.Prelude.{ℕ, ◌-◌, Bool, true, false, ◌&&◌, ◌||◌, ◌==◌, nat_le, nat_lt}
use Rattle.std.specs.Prelude.{List, [], ◌∷◌, codes, Option, None, find}
use Rattle.std.specs.Str.{bytes_eq}
use Rattle.lg_rules.specs.declared.addr.Addr.{Addr}
use Rattle.lg_timing.specs.declared.config.Config.{Config}
use Rattle.lg_timing.specs.declared.config.ConfigFault.{ConfigFault}
use Rattle.lg_timing.specs.declared.config.ConfigFault.TheVariants as fault
use Rattle.lg_timing.specs.declared.keys.Key.{Key}
use Rattle.lg_timing.specs.declared.keys.Key.TheVariants.{IntervalMs, TimeoutMs, Indirect, MaxScore, Alpha}
use Rattle.lg_timing.specs.declared.keys.Key.TheVariants.{Beta, Confirmations, Lambda, NackThousandths, HistoryLimit}
use Rattle.lg_timing.specs.declared.keys.Key.TheVariants.{Wire, ForgetMs, GossipMs, GossipTo, First}
use Rattle.lg_timing.specs.declared.keys.KeyRow.{KeyRow}
use Rattle.lg_timing.specs.Meaning.Bounds.{least_interval_ms, most_interval_ms, most_confirmations, most_factor}

-- whether a number is at least one number and at most another
abbrev pub is_within : ℕ → ℕ → ℕ → Bool
is_within least most n = nat_le least n && nat_le n most

-- the keys, in the order in which a check judges their numbers; it judges the seeds before `wire`
abbrev pub keys : List Key
keys =
    IntervalMs ∷ TimeoutMs ∷ Indirect ∷ MaxScore ∷ Alpha
    ∷ Beta ∷ Confirmations ∷ Lambda ∷ NackThousandths ∷ HistoryLimit
    ∷ Wire ∷ ForgetMs ∷ GossipMs ∷ GossipTo ∷ First ∷ []

-- a key's name
abbrev pub key_name : Key → List ℕ
key_name IntervalMs = codes "interval_ms"
key_name TimeoutMs = codes "timeout_ms"
key_name Indirect = codes "indirect"
key_name MaxScore = codes "max_score"
key_name Alpha = codes "alpha"
key_name Beta = codes "beta"
key_name Confirmations = codes "confirmations"
key_name Lambda = codes "lambda"
key_name NackThousandths = codes "nack_thousandths"
key_name HistoryLimit = codes "history_limit"
key_name Wire = codes "wire"
key_name ForgetMs = codes "forget_ms"
key_name GossipMs = codes "gossip_ms"
key_name GossipTo = codes "gossip_to"
key_name First = codes "first"

-- a fault's number; a check looks for the faults in the order of their numbers
abbrev pub config_fault_number : ConfigFault → ℕ
config_fault_number fault.Interval = 1
config_fault_number fault.Timeout = 2
config_fault_number fault.Indirect = 3
config_fault_number fault.MaxScore = 4
config_fault_number fault.Alpha = 5
config_fault_number fault.Beta = 6
config_fault_number fault.Confirmations = 7
config_fault_number fault.Lambda = 8
config_fault_number fault.Nack = 9
config_fault_number fault.History = 10
config_fault_number fault.Seeds = 11
config_fault_number fault.Wire = 15
config_fault_number fault.Forget = 22
config_fault_number fault.GossipMs = 23
config_fault_number fault.GossipTo = 24
config_fault_number fault.First = 25
config_fault_number fault.Group = 26

-- a least and a greatest number, a default, and the fault of a number out of its range; 0 turns nothing off
abbrev pub row : ℕ → ℕ → ℕ → ConfigFault → KeyRow
row least most usual broken = record { least = least; most = most; default = usual; fault = broken; off = false }

-- the same, but 0 is allowed too, and turns off what the key is about
abbrev pub row_or_off : ℕ → ℕ → ℕ → ConfigFault → KeyRow
row_or_off least most usual broken = record (row least most usual broken) { off = true }

-- a key's row
abbrev pub row_of : Key → KeyRow
row_of IntervalMs = row least_interval_ms most_interval_ms 1000 fault.Interval
row_of TimeoutMs = row 1 (most_interval_ms - 1) 500 fault.Timeout
row_of Indirect = row 0 8 3 fault.Indirect
row_of MaxScore = row 0 20 8 fault.MaxScore
row_of Alpha = row 1 most_factor 5 fault.Alpha
row_of Beta = row 1 most_factor 6 fault.Beta
row_of Confirmations = row 0 most_confirmations 3 fault.Confirmations
row_of Lambda = row 1 10 4 fault.Lambda
row_of NackThousandths = row 1 999 800 fault.Nack
row_of HistoryLimit = row 2 1000000 20000 fault.History
row_of Wire = row 1 3 1 fault.Wire
row_of ForgetMs = row_or_off 1000 2592000000 0 fault.Forget
row_of GossipMs = row_or_off 10 60000 200 fault.GossipMs
row_of GossipTo = row 1 8 3 fault.GossipTo
row_of First = row 1 4294967295 1 fault.First

-- the number of a key
abbrev pub number_of_key : Key → Config → ℕ
number_of_key IntervalMs c = c.interval_ms
number_of_key TimeoutMs c = c.timeout_ms
number_of_key Indirect c = c.indirect
number_of_key MaxScore c = c.max_score
number_of_key Alpha c = c.alpha
number_of_key Beta c = c.beta
number_of_key Confirmations c = c.confirmations
number_of_key Lambda c = c.lambda
number_of_key NackThousandths c = c.nack_thousandths
number_of_key HistoryLimit c = c.history_limit
number_of_key Wire c = c.wire
number_of_key ForgetMs c = c.forget_ms
number_of_key GossipMs c = c.gossip_ms
number_of_key GossipTo c = c.gossip_to
number_of_key First c = c.first

-- a configuration with the number of one key changed
abbrev pub with_number : Key → ℕ → Config → Config
with_number IntervalMs n c = record c { interval_ms = n }
with_number TimeoutMs n c = record c { timeout_ms = n }
with_number Indirect n c = record c { indirect = n }
with_number MaxScore n c = record c { max_score = n }
with_number Alpha n c = record c { alpha = n }
with_number Beta n c = record c { beta = n }
with_number Confirmations n c = record c { confirmations = n }
with_number Lambda n c = record c { lambda = n }
with_number NackThousandths n c = record c { nack_thousandths = n }
with_number HistoryLimit n c = record c { history_limit = n }
with_number Wire n c = record c { wire = n }
with_number ForgetMs n c = record c { forget_ms = n }
with_number GossipMs n c = record c { gossip_ms = n }
with_number GossipTo n c = record c { gossip_to = n }
with_number First n c = record c { first = n }

-- the default configuration of a member, which knows no other member from the start
abbrev pub defaults : List ℕ → Addr → Config
defaults name addr =
    record {
      interval_ms = (row_of IntervalMs).default;
      timeout_ms = (row_of TimeoutMs).default;
      indirect = (row_of Indirect).default;
      max_score = (row_of MaxScore).default;
      alpha = (row_of Alpha).default;
      beta = (row_of Beta).default;
      confirmations = (row_of Confirmations).default;
      lambda = (row_of Lambda).default;
      nack_thousandths = (row_of NackThousandths).default;
      history_limit = (row_of HistoryLimit).default;
      wire = (row_of Wire).default;
      forget_ms = (row_of ForgetMs).default;
      gossip_ms = (row_of GossipMs).default;
      gossip_to = (row_of GossipTo).default;
      first = (row_of First).default;
      group = None;
      seeds = record { items = [] };
      name = name;
      addr = addr;
    }

-- whether a row allows a number, if the greatest is the one that is given here
abbrev pub is_allowed_by : KeyRow → ℕ → ℕ → Bool
is_allowed_by row most n = (row.off && (n == 0)) || is_within row.least most n

-- whether a number is in a key's range, or is the 0 that turns off what the key is about, whatever the other numbers
-- are
abbrev pub allows_number : Key → ℕ → Bool
allows_number key n = is_allowed_by (row_of key) (row_of key).most n

-- the greatest number of a key in a configuration: a timeout is shorter than the interval
abbrev pub greatest : Config → Key → ℕ
greatest c TimeoutMs = c.interval_ms - 1
greatest c key = (row_of key).most

-- whether the number of a key is in its range, or is the 0 that turns off what the key is about
abbrev pub is_in_range : Config → Key → Bool
is_in_range c key = is_allowed_by (row_of key) (greatest c key) (number_of_key key c)

-- whether the number of a key is judged before the seeds: whether its fault has a lesser number than theirs
abbrev pub is_before_seeds : Key → Bool
is_before_seeds key = nat_lt (config_fault_number (row_of key).fault) (config_fault_number fault.Seeds)

-- the key with a name, if there is one
abbrev pub has_key_name : List ℕ → Key → Bool
has_key_name word key = bytes_eq word (key_name key)

abbrev pub key_named : List ℕ → Option Key
key_named word = find (has_key_name word) keys
