-- Worked command lines.
use Rattle.std.specs.Prelude.{◌≡◌, [], ◌∷◌, None, Some, codes, false, map, refl, true}
use Rattle.std.specs.Fmt.{digits}
use Rattle.clap.proofs.OnLiterals.{clap_on_literals}
use Rattle.clap.specs.declared.error.kind.ErrorKind.TheVariants as kind
use Rattle.lg_timing.specs.declared.keys.Key.TheVariants.{Alpha, Beta, Confirmations, IntervalMs}
use Rattle.lg_timing.specs.Meaning.Keys.{row_of}
use Rattle.clap.specs.Walk.{Text}
use Rattle.lg_config.specs.Meaning.Options.{SourceValue}
use Rattle.lg_command_line.specs.Meaning.Commands.{answer, ask, check, init, leave, node, order, timeouts}
use Rattle.lg_command_line.specs.Meaning.Commands.{replay, version}
use Rattle.lg_command_line.specs.Meaning.Commands.{asked, line_faults}
use Rattle.lg_command_line.specs.declared.asked.Question.TheVariants.{Members, Status, Watch}

-- a configuration of a file alone
abbrev at-file : Text → SourceValue
at-file file = record { file = Some file; options = [] }

taken : line_faults (codes "lg" ∷ codes "answer" ∷ codes "--name" ∷ codes "b" ∷ []) ≡ []
unfolding line_faults asked clap_on_literals
taken = refl

named : asked (codes "lg" ∷ codes "answer" ∷ codes "--name" ∷ codes "b" ∷ []) ≡ answer (codes "b")
unfolding asked clap_on_literals
named = refl

no-command : line_faults (codes "lg" ∷ []) ≡ kind.MissingSubcommand ∷ []
unfolding line_faults asked clap_on_literals
no-command = refl

no-name : line_faults (codes "lg" ∷ codes "answer" ∷ []) ≡ kind.MissingRequiredArgument ∷ []
unfolding line_faults asked clap_on_literals
no-name = refl

two-names : line_faults (codes "lg" ∷ codes "answer" ∷ codes "--name=b" ∷ codes "--name=b" ∷ [])
    ≡ kind.ArgumentConflict ∷ []
unfolding line_faults asked clap_on_literals
two-names = refl

stray : line_faults (codes "lg" ∷ codes "answer" ∷ codes "--name=b" ∷ codes "c" ∷ [])
    ≡ kind.UnknownArgument ∷ []
unfolding line_faults asked clap_on_literals
stray = refl

help : line_faults (codes "lg" ∷ codes "--help" ∷ []) ≡ kind.DisplayHelp ∷ []
unfolding line_faults asked clap_on_literals
help = refl

timed : asked (codes "lg" ∷ codes "timeouts" ∷ codes "--members" ∷ codes "16"
    ∷ codes "--confirmations=5" ∷ codes "--interval-ms" ∷ codes "200" ∷ [])
    ≡ timeouts record { members = 16; confirmations = 5; alpha = 5; beta = 6; interval_ms = 200 }
unfolding asked clap_on_literals digits
timed = refl

-- the defaults of the other numbers
default-numbers : asked (codes "lg" ∷ codes "timeouts" ∷ codes "--members=4" ∷ [])
    ≡ timeouts record { members = 4; confirmations = 3; alpha = 5; beta = 6; interval_ms = 1000 }
unfolding asked clap_on_literals digits
default-numbers = refl

most-members : line_faults (codes "lg" ∷ codes "timeouts" ∷ codes "--members=256" ∷ []) ≡ []
unfolding line_faults asked clap_on_literals digits
most-members = refl

too-many-members :
    line_faults (codes "lg" ∷ codes "timeouts" ∷ codes "--members=257" ∷ []) ≡ kind.ValueValidation ∷ []
unfolding line_faults asked clap_on_literals digits
too-many-members = refl

no-members :
    line_faults (codes "lg" ∷ codes "timeouts" ∷ codes "--alpha=5" ∷ []) ≡ kind.MissingRequiredArgument ∷ []
unfolding line_faults asked clap_on_literals digits
no-members = refl

two-alphas : line_faults (codes "lg" ∷ codes "timeouts" ∷ codes "--members=4"
    ∷ codes "--alpha=5" ∷ codes "--alpha=5" ∷ [])
    ≡ kind.ArgumentConflict ∷ []
unfolding line_faults asked clap_on_literals digits
two-alphas = refl

-- no option is of a key whose 0 turns something off
keys-of-options :
    map (λ key. (row_of key).off) (Confirmations ∷ Alpha ∷ Beta ∷ IntervalMs ∷ [])
    ≡ false ∷ false ∷ false ∷ false ∷ []
keys-of-options = refl

-- no timeout depends on gossip, so there is no option of its numbers
no-gossip-option : line_faults (codes "lg" ∷ codes "timeouts" ∷ codes "--members=4" ∷ codes "--gossip-ms=0" ∷ [])
    ≡ kind.UnknownArgument ∷ []
unfolding line_faults asked clap_on_literals digits
no-gossip-option = refl

run-of-a-day :
    asked (codes "lg" ∷ codes "node" ∷ codes "--for-ms=86400000" ∷ codes "--config" ∷ codes "a.toml" ∷ [])
    ≡ node (at-file (codes "a.toml")) (Some 86400000) false false
unfolding asked clap_on_literals
run-of-a-day = refl

shortest-run :
    line_faults (codes "lg" ∷ codes "node" ∷ codes "--config=a.toml" ∷ codes "--for-ms=1" ∷ []) ≡ []
unfolding line_faults asked clap_on_literals
shortest-run = refl

run-of-no-time : line_faults (codes "lg" ∷ codes "node" ∷ codes "--config=a.toml" ∷ codes "--for-ms=0" ∷ [])
    ≡ kind.ValueValidation ∷ []
unfolding line_faults asked clap_on_literals
run-of-no-time = refl

longer-than-a-day :
    line_faults (codes "lg" ∷ codes "node" ∷ codes "--config=a.toml" ∷ codes "--for-ms=86400001" ∷ [])
    ≡ kind.ValueValidation ∷ []
unfolding line_faults asked clap_on_literals
longer-than-a-day = refl

no-end-given : line_faults (codes "lg" ∷ codes "node" ∷ codes "--config=a.toml" ∷ []) ≡ []
unfolding line_faults asked clap_on_literals
no-end-given = refl

run-without-end :
    asked (codes "lg" ∷ codes "node" ∷ codes "--config=a.toml" ∷ []) ≡ node (at-file (codes "a.toml")) None false false
unfolding asked clap_on_literals
run-without-end = refl

followed : asked (codes "lg" ∷ codes "node" ∷ codes "--follow" ∷ codes "--config=a.toml" ∷ codes "--for-ms=5" ∷ [])
    ≡ node (at-file (codes "a.toml")) (Some 5) true false
unfolding asked clap_on_literals
followed = refl

run-with-its-input :
    asked (codes "lg" ∷ codes "node" ∷ codes "--config=a.toml" ∷ codes "--until-input-ends" ∷ [])
    ≡ node (at-file (codes "a.toml")) None false true
unfolding asked clap_on_literals
run-with-its-input = refl

followed-twice :
    line_faults (codes "lg" ∷ codes "node" ∷ codes "--config=a.toml" ∷ codes "--follow" ∷ codes "--follow" ∷ [])
    ≡ kind.ArgumentConflict ∷ []
unfolding line_faults asked clap_on_literals
followed-twice = refl

flag-with-a-value : line_faults (codes "lg" ∷ codes "node" ∷ codes "--config=a.toml" ∷ codes "--follow=true" ∷ [])
    ≡ kind.TooManyValues ∷ []
unfolding line_faults asked clap_on_literals
flag-with-a-value = refl

checked-file :
    asked (codes "lg" ∷ codes "check" ∷ codes "--config" ∷ codes "a.toml" ∷ []) ≡ check (at-file (codes "a.toml"))
unfolding asked clap_on_literals
checked-file = refl

-- no option has to be given: a missing name is a fault of the configuration
nothing-to-check :
    asked (codes "lg" ∷ codes "check" ∷ []) ≡ check record { file = None; options = [] }
unfolding asked clap_on_literals
nothing-to-check = refl

version-option : line_faults (codes "lg" ∷ codes "--version" ∷ []) ≡ kind.DisplayVersion ∷ []
unfolding line_faults asked clap_on_literals
version-option = refl

no-file : line_faults (codes "lg" ∷ codes "node" ∷ codes "--for-ms=1" ∷ []) ≡ []
unfolding line_faults asked clap_on_literals
no-file = refl

listed : asked (codes "lg" ∷ codes "order" ∷ codes "--names" ∷ codes "a,b" ∷ codes "--words=0,0,1,0" ∷ [])
    ≡ order (codes "a,b") (codes "0,0,1,0")
unfolding asked clap_on_literals
listed = refl

-- lists are judged after the command line is taken
any-lists : line_faults (codes "lg" ∷ codes "order" ∷ codes "--words=" ∷ codes "--names=a,a" ∷ []) ≡ []
unfolding line_faults asked clap_on_literals
any-lists = refl

missing-words :
    line_faults (codes "lg" ∷ codes "order" ∷ codes "--names=a" ∷ []) ≡ kind.MissingRequiredArgument ∷ []
unfolding line_faults asked clap_on_literals
missing-words = refl

names-twice :
    line_faults (codes "lg" ∷ codes "order" ∷ codes "--names=a" ∷ codes "--names=a" ∷ codes "--words=1" ∷ [])
    ≡ kind.ArgumentConflict ∷ []
unfolding line_faults asked clap_on_literals
names-twice = refl

-- the address has a default, and without `--json` the answer is written in lines
default-address : asked (codes "lg" ∷ codes "members" ∷ []) ≡ ask Members (codes "127.0.0.1:8946") false
unfolding asked clap_on_literals
default-address = refl

health-as-it-comes :
    asked (codes "lg" ∷ codes "status" ∷ codes "--json" ∷ []) ≡ ask Status (codes "127.0.0.1:8946") true
unfolding asked clap_on_literals
health-as-it-comes = refl

watched-elsewhere : asked (codes "lg" ∷ codes "watch" ∷ codes "--json" ∷ codes "--at" ∷ codes "10.0.0.7:80" ∷ [])
    ≡ ask Watch (codes "10.0.0.7:80") true
unfolding asked clap_on_literals
watched-elsewhere = refl

nothing-given : line_faults (codes "lg" ∷ codes "watch" ∷ []) ≡ []
unfolding line_faults asked clap_on_literals
nothing-given = refl

-- the address is judged after the command line is taken
any-address : line_faults (codes "lg" ∷ codes "members" ∷ codes "--at=x" ∷ []) ≡ []
unfolding line_faults asked clap_on_literals
any-address = refl

-- an empty text isn't the default
empty-address : asked (codes "lg" ∷ codes "members" ∷ codes "--at=" ∷ []) ≡ ask Members [] false
unfolding asked clap_on_literals
empty-address = refl

two-addresses : line_faults (codes "lg" ∷ codes "status" ∷ codes "--at=x" ∷ codes "--at=x" ∷ [])
    ≡ kind.ArgumentConflict ∷ []
unfolding line_faults asked clap_on_literals
two-addresses = refl

json-with-a-value : line_faults (codes "lg" ∷ codes "members" ∷ codes "--json=1" ∷ []) ≡ kind.TooManyValues ∷ []
unfolding line_faults asked clap_on_literals
json-with-a-value = refl

no-such-question : line_faults (codes "lg" ∷ codes "watch" ∷ codes "b" ∷ []) ≡ kind.UnknownArgument ∷ []
unfolding line_faults asked clap_on_literals
no-such-question = refl

first-file : asked (codes "lg" ∷ codes "init" ∷ []) ≡ init
unfolding asked clap_on_literals
first-file = refl

first-file-taken : line_faults (codes "lg" ∷ codes "init" ∷ []) ≡ []
unfolding line_faults asked clap_on_literals
first-file-taken = refl

first-file-named : line_faults (codes "lg" ∷ codes "init" ∷ codes "a.toml" ∷ []) ≡ kind.UnknownArgument ∷ []
unfolding line_faults asked clap_on_literals
first-file-named = refl

-- an empty text stands for a name that wasn't given
unnamed-node : asked (codes "lg" ∷ codes "leave" ∷ []) ≡ leave (codes "127.0.0.1:8946") []
unfolding asked clap_on_literals
unnamed-node = refl

named-node : asked (codes "lg" ∷ codes "leave" ∷ codes "--name=b" ∷ codes "--at" ∷ codes "127.0.0.1:80" ∷ [])
    ≡ leave (codes "127.0.0.1:80") (codes "b")
unfolding asked clap_on_literals
named-node = refl

nothing-given-to-leave : line_faults (codes "lg" ∷ codes "leave" ∷ []) ≡ []
unfolding line_faults asked clap_on_literals
nothing-given-to-leave = refl

-- the name is judged after the command line is taken
any-name : line_faults (codes "lg" ∷ codes "leave" ∷ codes "--name=a/b" ∷ []) ≡ []
unfolding line_faults asked clap_on_literals
any-name = refl

two-nodes : line_faults (codes "lg" ∷ codes "leave" ∷ codes "--name=a" ∷ codes "--name=b" ∷ [])
    ≡ kind.ArgumentConflict ∷ []
unfolding line_faults asked clap_on_literals
two-nodes = refl

no-json-of-a-leave : line_faults (codes "lg" ∷ codes "leave" ∷ codes "--json" ∷ []) ≡ kind.UnknownArgument ∷ []
unfolding line_faults asked clap_on_literals
no-json-of-a-leave = refl

-- without options all of a recording is told
whole-recording :
    asked (codes "lg" ∷ codes "replay" ∷ codes "/var/lib/lg" ∷ [])
    ≡ replay (codes "/var/lib/lg") 0 1000000000000000 None
unfolding asked clap_on_literals
whole-recording = refl

whole-recording-taken : line_faults (codes "lg" ∷ codes "replay" ∷ codes "/var/lib/lg" ∷ []) ≡ []
unfolding line_faults asked clap_on_literals
whole-recording-taken = refl

part-of-recording :
    asked (codes "lg" ∷ codes "replay" ∷ codes "--from=5" ∷ codes "a" ∷ codes "--to" ∷ codes "70"
    ∷ codes "--only=b" ∷ [])
    ≡ replay (codes "a") 5 70 (Some (codes "b"))
unfolding asked clap_on_literals
part-of-recording = refl

-- moments the wrong way round are no fault: nothing is told then
moments-turned : line_faults (codes "lg" ∷ codes "replay" ∷ codes "a" ∷ codes "--from=2" ∷ codes "--to=1" ∷ []) ≡ []
unfolding line_faults asked clap_on_literals
moments-turned = refl

greatest-moment :
    line_faults (codes "lg" ∷ codes "replay" ∷ codes "a" ∷ codes "--from=1000000000000000" ∷ []) ≡ []
unfolding line_faults asked clap_on_literals
greatest-moment = refl

beyond-all-moments :
    line_faults (codes "lg" ∷ codes "replay" ∷ codes "a" ∷ codes "--to=1000000000000001" ∷ [])
    ≡ kind.ValueValidation ∷ []
unfolding line_faults asked clap_on_literals
beyond-all-moments = refl

no-moment : line_faults (codes "lg" ∷ codes "replay" ∷ codes "a" ∷ codes "--from=1s" ∷ []) ≡ kind.ValueValidation ∷ []
unfolding line_faults asked clap_on_literals
no-moment = refl

no-folder : line_faults (codes "lg" ∷ codes "replay" ∷ []) ≡ kind.MissingRequiredArgument ∷ []
unfolding line_faults asked clap_on_literals
no-folder = refl

two-folders : line_faults (codes "lg" ∷ codes "replay" ∷ codes "a" ∷ codes "b" ∷ []) ≡ kind.UnknownArgument ∷ []
unfolding line_faults asked clap_on_literals
two-folders = refl

-- the folder and the name are judged after the command line is taken
any-folder : line_faults (codes "lg" ∷ codes "replay" ∷ [] ∷ codes "--only=a/b" ∷ []) ≡ []
unfolding line_faults asked clap_on_literals
any-folder = refl

told-twice : line_faults (codes "lg" ∷ codes "replay" ∷ codes "a" ∷ codes "--only=b" ∷ codes "--only=b" ∷ [])
    ≡ kind.ArgumentConflict ∷ []
unfolding line_faults asked clap_on_literals
told-twice = refl

the-version : asked (codes "lg" ∷ codes "version" ∷ []) ≡ version
unfolding asked clap_on_literals
the-version = refl

nothing-given-to-version : line_faults (codes "lg" ∷ codes "version" ∷ []) ≡ []
unfolding line_faults asked clap_on_literals
nothing-given-to-version = refl
