-- The reasons of numbers that are out of their ranges, in words.
use Rattle.std.specs.Prelude.{ℕ, ℤ, ◌-◌, Bool, true, false, List, [], ◌++◌, codes, decimal, Option, Some, None}
use Rattle.std.specs.Fmt.{signed_decimal}
use Rattle.toml.specs.Data.{Members}
use Rattle.lg_text.specs.Meaning.Lines.{newline}
use Rattle.lg_text.specs.Meaning.Ranges.{least_port, most_port}
use Rattle.lg_timing.specs.Meaning.Keys.{key_name, row_of}
use Rattle.lg_timing.specs.declared.keys.Key.{Key}
use Rattle.lg_timing.specs.declared.keys.Key.TheVariants.{IntervalMs, TimeoutMs}
use Rattle.lg_config.specs.declared.node_keys.NodeKey.{NodeKey}
use Rattle.lg_config.specs.declared.ranges.Allowed.{Allowed}
use Rattle.lg_config.specs.Meaning.Bounds.{default_port, most_dice}
use Rattle.lg_config.specs.Meaning.NodeKeys.{node_key_name, node_row_of}
use Rattle.lg_config.specs.Meaning.Settings.{integer_at, number_at_key}

-- a number as its file gives it, or else its default, of which it is said that it is one
abbrev pub given_text : Option ℤ → ℕ → List ℕ
given_text (Some number) usual = signed_decimal number
given_text None usual = decimal usual ++ codes " by default"

-- the words before a range: they say that 0 is allowed too, if it turns off what the key is about
abbrev pub zero_words : Bool → List ℕ
zero_words true = codes "0 or "
zero_words false = []

-- KEY is NUMBER, and has to be from LEAST to MOST; if 0 is allowed too, it has to be 0 or from LEAST to MOST
abbrev pub range_reason : List ℕ → Allowed → Members → List ℕ
range_reason key allowed members =
    let given = given_text (integer_at key members) allowed.default in
    let range = decimal allowed.least ++ (codes " to " ++ (decimal allowed.most ++ newline)) in
    let wanted = zero_words allowed.off ++ (codes "from " ++ range) in
    key ++ (codes " is " ++ (given ++ (codes ", and has to be " ++ wanted)))

-- the greatest number that a document allows for a key of the member's: a timeout is shorter than the interval
abbrev pub most_allowed : Key → Members → ℕ
most_allowed TimeoutMs members = number_at_key (key_name IntervalMs) (row_of IntervalMs).default members - 1
most_allowed key _ = (row_of key).most

-- the reasons of a number of the member's, of one of the node's own, of the port and of the dice
abbrev pub member_reason : Key → Members → List ℕ
member_reason key members =
    let row = row_of key in
    let most = most_allowed key members in
    range_reason (key_name key) record { least = row.least; most = most; default = row.default; off = row.off } members

abbrev pub own_reason : NodeKey → Members → List ℕ
own_reason key members =
    let row = node_row_of key in
    let allowed : Allowed = record { least = row.least; most = row.most; default = row.default; off = false } in
    range_reason (node_key_name key) allowed members

abbrev pub port_reason : Members → List ℕ
port_reason members =
    let allowed : Allowed = record { least = least_port; most = most_port; default = default_port; off = false } in
    range_reason (codes "port") allowed members

-- of dice that are negative, so they are given, and there is no default
abbrev pub dice_reason : Members → List ℕ
dice_reason members =
    let allowed : Allowed = record { least = 0; most = most_dice; default = 0; off = false } in
    range_reason (codes "dice") allowed members
