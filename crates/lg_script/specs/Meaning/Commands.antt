-- What the words after the name of a command say. It is None if one of them is out of its form or range.
use Rattle.std.specs.Prelude.{ℕ, List, [], Option, Some, codes, slice_index_or, drop, if◌then◌else◌}
use Rattle.std.specs.Str.{bytes_eq}
use Rattle.lg_timing.specs.Meaning.Keys.{key_named}
use Rattle.lg_text.specs.Meaning.Names.{member_name_of}
use Rattle.lg_text.specs.Meaning.Numbers.{number_of, port_of}
use Rattle.lg_text.specs.Meaning.Steps.{◌>>=◌}
use Rattle.lg_script.specs.Meaning.Values.{moment_of, random_words_of, seeds_of}
use Rattle.lg_script.specs.declared.command.Command.{Command}
use Rattle.lg_script.specs.declared.command.Command.TheVariants.{Set, SetGroup, Open, Tick, Deliver}
use Rattle.lg_script.specs.declared.command.Command.TheVariants.{Ask, Health, Pull, Leave, Table}
use Rattle.lg_script.specs.declared.verb.Verb.{Verb}
use Rattle.lg_script.specs.declared.verb.Verb.TheVariants as verb

-- the word at a place, counted from 0; past the end an empty word, which is no value
abbrev pub word_at : List (List ℕ) → ℕ → List ℕ
word_at words place = slice_index_or words place []

-- set KEY NUMBER, by its words
abbrev pub number_setting : List ℕ → List ℕ → Option Command
number_setting key_word number_word = do
  key ← key_named key_word
  number ← number_of number_word
  Some (Set key number)

-- set group NAME, by its name
abbrev pub group_setting : List ℕ → Option Command
group_setting word = do
  group ← member_name_of word
  Some (SetGroup group)

-- set KEY NUMBER, or set group NAME
unfoldable pub set_command : List (List ℕ) → Option Command
set_command words =
    if bytes_eq (word_at words 0) (codes "group") then group_setting (word_at words 1)
    else number_setting (word_at words 0) (word_at words 1)

-- open NAME PORT MOMENT SEED..
unfoldable pub open_command : List (List ℕ) → Option Command
open_command words = do
  name ← member_name_of (word_at words 0)
  port ← port_of (word_at words 1)
  now ← moment_of (word_at words 2)
  seeds ← seeds_of (drop 3 words)
  Some (Open name port now record { items = seeds })

-- tick NAME MOMENT WORD..
unfoldable pub tick_command : List (List ℕ) → Option Command
tick_command words = do
  name ← member_name_of (word_at words 0)
  now ← moment_of (word_at words 1)
  random ← random_words_of (drop 2 words)
  Some (Tick name now random)

-- deliver PACKET MOMENT
unfoldable pub deliver_command : List (List ℕ) → Option Command
deliver_command words = do
  packet ← number_of (word_at words 0)
  now ← moment_of (word_at words 1)
  Some (Deliver packet now)

-- ask NAME MOMENT OTHER
unfoldable pub ask_command : List (List ℕ) → Option Command
ask_command words = do
  name ← member_name_of (word_at words 0)
  now ← moment_of (word_at words 1)
  other ← member_name_of (word_at words 2)
  Some (Ask name now other)

-- health NAME MOMENT
unfoldable pub health_command : List (List ℕ) → Option Command
health_command words = do
  name ← member_name_of (word_at words 0)
  now ← moment_of (word_at words 1)
  Some (Health name now)

-- pull NAME MOMENT PORT
unfoldable pub pull_command : List (List ℕ) → Option Command
pull_command words = do
  name ← member_name_of (word_at words 0)
  now ← moment_of (word_at words 1)
  port ← port_of (word_at words 2)
  Some (Pull name now port)

-- leave NAME MOMENT WORD..
unfoldable pub leave_command : List (List ℕ) → Option Command
leave_command words = do
  name ← member_name_of (word_at words 0)
  now ← moment_of (word_at words 1)
  random ← random_words_of (drop 2 words)
  Some (Leave name now random)

-- table NAME
unfoldable pub table_command : List (List ℕ) → Option Command
table_command words = do
  name ← member_name_of (word_at words 0)
  Some (Table name)

-- the command with this name and these words
abbrev pub command_named : Verb → List (List ℕ) → Option Command
command_named verb.Set words = set_command words
command_named verb.Open words = open_command words
command_named verb.Tick words = tick_command words
command_named verb.Deliver words = deliver_command words
command_named verb.Ask words = ask_command words
command_named verb.Health words = health_command words
command_named verb.Pull words = pull_command words
command_named verb.Leave words = leave_command words
command_named verb.Table words = table_command words
