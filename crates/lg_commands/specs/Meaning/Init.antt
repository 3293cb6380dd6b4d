-- What the command `init` writes: a configuration file of a node (this project's choice). It sets the keys that a node
-- is best run with. Each other key stands in a comment: behind `# `, with its default, or with an example if by default
-- there is none, or if the default is made of other keys.
use Rattle.std.specs.Prelude.{ℕ, List, [], ◌∷◌, ◌++◌, codes}
use Rattle.std.specs.List.{flat_map}
use Rattle.lg_text.specs.Meaning.Lines.{newline}

-- the lines of the file
abbrev pub init_lines : List (List ℕ)
init_lines =
    codes "# The configuration of a node, which is one member of a group. Save it to a file, and edit it."
    ∷ codes "# This writes what the file means: lg check --config FILE"
    ∷ codes "# This runs the node: lg node --config FILE"
    ∷ codes "# A key behind a # has its default here, or an example if that is said. To set it, take the # away."
    ∷ []
    ∷ codes "# The name by which all others know this member. Each member needs a name of its own."
    ∷ codes "# It has 1 to 32 bytes of A-Z a-z 0-9 . _ -"
    ∷ codes "name = \"a\""
    ∷ codes "# The address of this member, and its UDP port. The others are told both, and send to them."
    ∷ codes "# With \"auto\" the address is found when the node starts, by its seeds."
    ∷ codes "# address = \"127.0.0.1\""
    ∷ codes "# port = 7946"
    ∷ codes "# Where the socket is bound, if that isn't the address that the others are told. An example:"
    ∷ codes "# bind = \"0.0.0.0\""
    ∷ codes "# The members that this one asks when it starts, at most 16, each as \"10.0.0.8\" or \"b@10.0.0.8:7946\"."
    ∷ codes "# The name of a host may stand in place of the address, as \"b.example\"."
    ∷ codes "# seeds = []"
    ∷ codes "# In which version packets are written. Members that don't read version 3 drop those of version 3."
    ∷ codes "wire = 3"
    ∷ codes "# How long a member that failed or left is kept, in milliseconds: a day here. 0 is for good."
    ∷ codes "forget_ms = 86400000"
    ∷ codes "# The most entries that the history of the node stores."
    ∷ codes "history_limit = 1000"
    ∷ []
    ∷ codes "# The name of the group, if there are several on one network. There is none by default. An example:"
    ∷ codes "# group = \"blue\""
    ∷ codes "# The file that has the key of the group. The group has no key by default. An example:"
    ∷ codes "# key_file = \"group.key\""
    ∷ []
    ∷ codes "# Where the node answers over HTTP who is alive."
    ∷ codes "status = \"127.0.0.1:8946\""
    ∷ codes "# Whether that may be an address which isn't loopback. Whoever reaches it gets the answers."
    ∷ codes "# status_open = false"
    ∷ codes "# Whether the command \"lg leave\" may end the node: \"on\" or \"off\"."
    ∷ codes "# leave = \"on\""
    ∷ []
    ∷ codes "# The time from one round to the next, in milliseconds. Each round probes one member."
    ∷ codes "# interval_ms = 1000"
    ∷ codes "# How many milliseconds a probe waits for its Ack before other members are asked to probe too."
    ∷ codes "# timeout_ms = 500"
    ∷ codes "# How many other members are asked then."
    ∷ codes "# indirect = 3"
    ∷ codes "# When one that was asked says that it has no Ack, in thousandths of timeout_ms."
    ∷ codes "# nack_thousandths = 800"
    ∷ codes "# The greatest health score. A member that is slow has a greater score, and waits longer for others."
    ∷ codes "# max_score = 8"
    ∷ codes "# The factor of the least time that a suspicion lasts."
    ∷ codes "# alpha = 5"
    ∷ codes "# The greatest time that a suspicion lasts, as a multiple of the least."
    ∷ codes "# beta = 6"
    ∷ codes "# How many members have to confirm a suspicion until it lasts the least time."
    ∷ codes "# confirmations = 3"
    ∷ codes "# How often a member sends a claim, for each decimal digit of the number of live members."
    ∷ codes "# lambda = 4"
    ∷ codes "# For how many milliseconds news waits until the node gossips it in packets of its own. 0 is never."
    ∷ codes "# gossip_ms = 200"
    ∷ codes "# To how many members it then goes at most."
    ∷ codes "# gossip_to = 3"
    ∷ []
    ∷ codes "# How many milliseconds pass from one question for a table to the next. 0 is never."
    ∷ codes "# pull_ms = 30000"
    ∷ codes "# By how many milliseconds the clock may pass the last turn of either loop. 0 turns this off."
    ∷ codes "# stall_ms = 100"
    ∷ codes "# How many milliseconds pass from one resolving of the hosts among the seeds to the next."
    ∷ codes "# resolve_ms = 60000"
    ∷ codes "# The folder in which the node records what happens to it. It records nothing by default. An example:"
    ∷ codes "# record = \"/var/lib/lg\""
    ∷ codes "# The most that a recording takes, in units of 1000000 bytes."
    ∷ codes "# record_mb = 64"
    ∷ codes "# Where the random choices start. By default it is made of name, address and port. An example:"
    ∷ codes "# dice = 7"
    ∷ []

-- the file
unfoldable pub init_text : List ℕ
init_text = flat_map (λ line. line ++ newline) init_lines
