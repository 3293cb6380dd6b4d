-- Worked lines.
use Rattle.std.specs.Prelude.{◌≡◌, ℕ, List, [], ◌∷◌, ◌++◌, replicate}
use Rattle.std.specs.Prelude.{Option, Some, None, Result, Ok, Err, codes, refl}
use Rattle.std.specs.List.{flat_map}
use Rattle.lg_rules.specs.declared.addr.Ip.TheVariants.{V4}
use Rattle.lg_timing.specs.declared.config.Seed.{Seed}
use Rattle.lg_script.specs.declared.command.Command.{Command}
use Rattle.lg_script.specs.declared.command.Command.TheVariants.{Set, SetGroup, Open, Tick, Deliver}
use Rattle.lg_script.specs.declared.command.Command.TheVariants.{Ask, Health, Pull, Leave, Table}
use Rattle.lg_timing.specs.declared.keys.Key.TheVariants.{IntervalMs, Lambda, HistoryLimit, Wire, ForgetMs, First}
use Rattle.lg_script.specs.declared.fault.ScriptFault.{ScriptFault}
use Rattle.lg_script.specs.declared.fault.ScriptFault.TheVariants as fault
use Rattle.lg_text.specs.Meaning.Cutting.{before, behind}
use Rattle.lg_script.specs.Meaning.Commands.{set_command, open_command, tick_command, deliver_command}
use Rattle.lg_script.specs.Meaning.Commands.{ask_command, health_command, pull_command, leave_command, table_command}
use Rattle.lg_script.specs.Meaning.Lines.{command_of}
use Rattle.lg_script.specs.Meaning.Values.{local}
use Rattle.lg_script.specs.Meaning.Words.{verb_of}

-- a line that gives a command
abbrev gives : Command → Result (Option Command) ScriptFault
gives command = Ok (Some command)

-- ---- each command

set-lambda : command_of (codes "set lambda 99999") ≡ gives (Set Lambda 99999)
unfolding command_of verb_of set_command
set-lambda = refl

set-interval : command_of (codes "set interval_ms 0000000000000007") ≡ gives (Set IntervalMs 7)
unfolding command_of verb_of set_command
set-interval = refl

set-history : command_of (codes "set history_limit 9999999999999999") ≡ gives (Set HistoryLimit 9999999999999999)
unfolding command_of verb_of set_command
set-history = refl

set-forget : command_of (codes "set forget_ms 86400000") ≡ gives (Set ForgetMs 86400000)
unfolding command_of verb_of set_command
set-forget = refl

set-wire : command_of (codes "set wire 2") ≡ gives (Set Wire 2)
unfolding command_of verb_of set_command
set-wire = refl

-- its range is judged when a member is opened
set-first : command_of (codes "set first 4294967296") ≡ gives (Set First 4294967296)
unfolding command_of verb_of set_command
set-first = refl

set-group : command_of (codes "set group grn") ≡ gives (SetGroup (codes "grn"))
unfolding command_of verb_of set_command
set-group = refl

-- a name may be a number
set-group-of-digits : command_of (codes "set group 1") ≡ gives (SetGroup (codes "1"))
unfolding command_of verb_of set_command
set-group-of-digits = refl

set-group-of-32 : command_of (codes "set group " ++ replicate 32 110) ≡ gives (SetGroup (replicate 32 110))
unfolding command_of verb_of set_command
set-group-of-32 = refl

opens-alone : command_of (codes "open a 7001 0") ≡ gives (Open (97 ∷ []) 7001 0 record { items = [] })
unfolding command_of verb_of open_command
opens-alone = refl

b-at-7002 : Seed
b-at-7002 = record { name = 98 ∷ []; addr = record { ip = V4 (127 ∷ 0 ∷ 0 ∷ 1 ∷ []); port = 7002 } }

opens-with-seed : command_of (codes "open a 65535 1000 b:7002")
    ≡ gives (Open (97 ∷ []) 65535 1000 record { items = b-at-7002 ∷ [] })
unfolding command_of verb_of open_command before behind b-at-7002
opens-with-seed = refl

ticks : command_of (codes "tick z 1000000000000000")
    ≡ gives (Tick (122 ∷ []) 1000000000000000 (0 ∷ 0 ∷ 0 ∷ 0 ∷ 0 ∷ 0 ∷ 0 ∷ 0 ∷ []))
unfolding command_of verb_of tick_command
ticks = refl

ticks-with-words : command_of (codes "tick z 5 4294967295 2")
    ≡ gives (Tick (122 ∷ []) 5 (4294967295 ∷ 2 ∷ 0 ∷ 0 ∷ 0 ∷ 0 ∷ 0 ∷ 0 ∷ []))
unfolding command_of verb_of tick_command
ticks-with-words = refl

ticks-with-all : command_of (codes "tick z 5 1 2 3 4 5 6 7 8")
    ≡ gives (Tick (122 ∷ []) 5 (1 ∷ 2 ∷ 3 ∷ 4 ∷ 5 ∷ 6 ∷ 7 ∷ 8 ∷ []))
unfolding command_of verb_of tick_command
ticks-with-all = refl

delivers : command_of (codes "deliver 12 500") ≡ gives (Deliver 12 500)
unfolding command_of verb_of deliver_command
delivers = refl

-- whether a packet of this number was sent is judged elsewhere
delivers-none : command_of (codes "deliver 0 0") ≡ gives (Deliver 0 0)
unfolding command_of verb_of deliver_command
delivers-none = refl

asks : command_of (codes "ask a 7 b") ≡ gives (Ask (97 ∷ []) 7 (98 ∷ []))
unfolding command_of verb_of ask_command
asks = refl

health-asked : command_of (codes "health a 7") ≡ gives (Health (97 ∷ []) 7)
unfolding command_of verb_of health_command
health-asked = refl

pulls : command_of (codes "pull a 7 1") ≡ gives (Pull (97 ∷ []) 7 1)
unfolding command_of verb_of pull_command
pulls = refl

-- whether a member of this name is open is judged elsewhere
leaves : command_of (codes "leave z 1000000000000000")
    ≡ gives (Leave (122 ∷ []) 1000000000000000 (0 ∷ 0 ∷ 0 ∷ 0 ∷ 0 ∷ 0 ∷ 0 ∷ 0 ∷ []))
unfolding command_of verb_of leave_command
leaves = refl

leaves-with-words : command_of (codes "leave b 10 1 4294967295")
    ≡ gives (Leave (98 ∷ []) 10 (1 ∷ 4294967295 ∷ 0 ∷ 0 ∷ 0 ∷ 0 ∷ 0 ∷ 0 ∷ []))
unfolding command_of verb_of leave_command
leaves-with-words = refl

leaves-with-all : command_of (codes "leave b 10 1 2 3 4 5 6 7 8")
    ≡ gives (Leave (98 ∷ []) 10 (1 ∷ 2 ∷ 3 ∷ 4 ∷ 5 ∷ 6 ∷ 7 ∷ 8 ∷ []))
unfolding command_of verb_of leave_command
leaves-with-all = refl

shows-table : command_of (codes "table a") ≡ gives (Table (97 ∷ []))
unfolding command_of verb_of table_command
shows-table = refl

-- ---- lines that are passed over

empty-line : command_of [] ≡ Ok None
unfolding command_of
empty-line = refl

comment : command_of (codes "#x") ≡ Ok None
unfolding command_of
comment = refl

-- a comment may have any bytes
comment-of-bytes : command_of (35 ∷ 0 ∷ 255 ∷ 9 ∷ 13 ∷ []) ≡ Ok None
unfolding command_of
comment-of-bytes = refl

-- ---- the first word names no command

spaces-alone : command_of (codes "  ") ≡ Err fault.Command
unfolding command_of verb_of
spaces-alone = refl

unknown : command_of (codes " tock") ≡ Err fault.Command
unfolding command_of verb_of
unknown = refl

spaced-comment : command_of (codes " #x") ≡ Err fault.Command
unfolding command_of verb_of
spaced-comment = refl

capital : command_of (codes "Table a") ≡ Err fault.Command
unfolding command_of verb_of
capital = refl

capital-of-leave : command_of (codes "Leave a 0") ≡ Err fault.Command
unfolding command_of verb_of
capital-of-leave = refl

tab-in-name-of-command : command_of (codes "tick" ++ 9 ∷ codes "a 0") ≡ Err fault.Command
unfolding command_of verb_of
tab-in-name-of-command = refl

-- ---- another number of words, or spaces that don't separate two words

leading-space : command_of (codes " tick a 0") ≡ Err fault.Words
unfolding command_of verb_of
leading-space = refl

doubled-space : command_of (codes "tick  a 0") ≡ Err fault.Words
unfolding command_of verb_of
doubled-space = refl

trailing-space : command_of (codes "table a ") ≡ Err fault.Words
unfolding command_of verb_of
trailing-space = refl

table-of-nothing : command_of (codes "table ") ≡ Err fault.Words
unfolding command_of verb_of
table-of-nothing = refl

lone-table : command_of (codes "table") ≡ Err fault.Words
unfolding command_of verb_of
lone-table = refl

ninth-word : command_of (codes "tick a 0 1 2 3 4 5 6 7 8 9") ≡ Err fault.Words
unfolding command_of verb_of
ninth-word = refl

leave-without-moment : command_of (codes "leave a") ≡ Err fault.Words
unfolding command_of verb_of
leave-without-moment = refl

ninth-word-of-leave : command_of (codes "leave a 0 1 2 3 4 5 6 7 8 9") ≡ Err fault.Words
unfolding command_of verb_of
ninth-word-of-leave = refl

space-before-leave : command_of (codes " leave a 0") ≡ Err fault.Words
unfolding command_of verb_of
space-before-leave = refl

set-without-group : command_of (codes "set group") ≡ Err fault.Words
unfolding command_of verb_of
set-without-group = refl

set-of-two-groups : command_of (codes "set group g h") ≡ Err fault.Words
unfolding command_of verb_of
set-of-two-groups = refl

open-without-moment : command_of (codes "open a 7001") ≡ Err fault.Words
unfolding command_of verb_of
open-without-moment = refl

-- a bad number doesn't matter if the words are too few
words-before-values : command_of (codes "deliver x") ≡ Err fault.Words
unfolding command_of verb_of
words-before-values = refl

-- ---- a word that is out of its form or range

digits-17 : command_of (codes "deliver 00000000000000001 0") ≡ Err fault.Value
unfolding command_of verb_of deliver_command
digits-17 = refl

signed : command_of (codes "deliver +1 0") ≡ Err fault.Value
unfolding command_of verb_of deliver_command
signed = refl

moment-past-last : command_of (codes "health a 1000000000000001") ≡ Err fault.Value
unfolding command_of verb_of health_command
moment-past-last = refl

port-0 : command_of (codes "open a 0 0") ≡ Err fault.Value
unfolding command_of verb_of open_command
port-0 = refl

port-65536 : command_of (codes "pull a 0 65536") ≡ Err fault.Value
unfolding command_of verb_of pull_command
port-65536 = refl

great-random-word : command_of (codes "tick a 0 4294967296") ≡ Err fault.Value
unfolding command_of verb_of tick_command
great-random-word = refl

leave-at-no-moment : command_of (codes "leave a x") ≡ Err fault.Value
unfolding command_of verb_of leave_command
leave-at-no-moment = refl

great-random-word-of-leave : command_of (codes "leave a 0 4294967296") ≡ Err fault.Value
unfolding command_of verb_of leave_command
great-random-word-of-leave = refl

comma-between-random-words : command_of (codes "leave a 0 1,2") ≡ Err fault.Value
unfolding command_of verb_of leave_command
comma-between-random-words = refl

no-name-leaves : command_of (codes "leave z! 0") ≡ Err fault.Value
unfolding command_of verb_of leave_command
no-name-leaves = refl

seed-without-port : command_of (codes "open a 7001 0 b") ≡ Err fault.Value
unfolding command_of verb_of open_command before behind
seed-without-port = refl

seed-with-two-colons : command_of (codes "open a 7001 0 b:1:2") ≡ Err fault.Value
unfolding command_of verb_of open_command before behind
seed-with-two-colons = refl

-- some seeds, all alike
abbrev seeds : ℕ → List ℕ
seeds count = flat_map (λ seed. seed) (replicate count (codes " b:1"))

seeds-17 : command_of (codes "open a 7001 0" ++ seeds 17) ≡ Err fault.Value
unfolding command_of verb_of open_command
seeds-17 = refl

b-at-1 : Seed
b-at-1 = record { name = 98 ∷ []; addr = local 1 }

-- whether their names differ is judged elsewhere
seeds-16 : command_of (codes "open a 7001 0" ++ seeds 16)
    ≡ gives (Open (97 ∷ []) 7001 0 record { items = replicate 16 b-at-1 })
unfolding command_of verb_of open_command before behind b-at-1
seeds-16 = refl

unknown-key : command_of (codes "set seeds 1") ≡ Err fault.Value
unfolding command_of verb_of set_command
unknown-key = refl

signed-first : command_of (codes "set first -1") ≡ Err fault.Value
unfolding command_of verb_of set_command
signed-first = refl

bad-byte-in-group : command_of (codes "set group g!") ≡ Err fault.Value
unfolding command_of verb_of set_command
bad-byte-in-group = refl

group-of-33 : command_of (codes "set group " ++ replicate 33 110) ≡ Err fault.Value
unfolding command_of verb_of set_command
group-of-33 = refl

capital-of-group : command_of (codes "set Group g") ≡ Err fault.Value
unfolding command_of verb_of set_command
capital-of-group = refl

tab-in-word : command_of (codes "table a" ++ 9 ∷ []) ≡ Err fault.Value
unfolding command_of verb_of table_command
tab-in-word = refl

carriage-return : command_of (codes "health a 0" ++ 13 ∷ []) ≡ Err fault.Value
unfolding command_of verb_of health_command
carriage-return = refl

bad-bytes : command_of (codes "table " ++ 0 ∷ 255 ∷ []) ≡ Err fault.Value
unfolding command_of verb_of table_command
bad-bytes = refl

long-name : command_of (codes "table " ++ replicate 33 97) ≡ Err fault.Value
unfolding command_of verb_of table_command
long-name = refl
