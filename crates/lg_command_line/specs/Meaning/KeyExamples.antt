-- Worked command lines with options of keys.
use Rattle.std.specs.Prelude.{◌≡◌, [], ◌∷◌, None, Some, codes, map, refl, false}
use Rattle.clap.proofs.OnLiterals.{clap_on_literals}
use Rattle.clap.specs.declared.error.kind.ErrorKind.TheVariants as kind
use Rattle.lg_config.specs.Meaning.NearestKeys.{known_keys}
use Rattle.lg_command_line.specs.Meaning.Commands.{asked, check, line_faults, node}
use Rattle.lg_command_line.specs.Meaning.KeyOptions.{option_name}

-- the option of each key that a file may have
names :
    map option_name known_keys
    ≡ codes "name" ∷ codes "address" ∷ codes "port" ∷ codes "dice" ∷ codes "pull-ms" ∷ codes "stall-ms"
    ∷ codes "resolve-ms" ∷ codes "record-mb" ∷ codes "record" ∷ codes "status" ∷ codes "status-open" ∷ codes "leave"
    ∷ codes "bind" ∷ codes "key-file" ∷ codes "group" ∷ codes "seed" ∷ codes "interval-ms" ∷ codes "timeout-ms"
    ∷ codes "indirect" ∷ codes "max-score" ∷ codes "alpha" ∷ codes "beta" ∷ codes "confirmations" ∷ codes "lambda"
    ∷ codes "nack-thousandths" ∷ codes "history-limit" ∷ codes "wire" ∷ codes "forget-ms" ∷ codes "gossip-ms"
    ∷ codes "gossip-to" ∷ []
names = refl

-- a node of one line
first-node :
    asked (codes "lg" ∷ codes "node" ∷ codes "--name" ∷ codes "web-1" ∷ codes "--address" ∷ codes "10.0.0.7"
    ∷ codes "--seed" ∷ codes "10.0.0.5" ∷ codes "--status=127.0.0.1:8946" ∷ [])
    ≡ node record {
      file = None;
      options =
          (codes "name", codes "web-1") ∷ (codes "address", codes "10.0.0.7")
          ∷ (codes "status", codes "127.0.0.1:8946") ∷ (codes "seeds", codes "10.0.0.5") ∷ [];
    } None false false
unfolding asked clap_on_literals
first-node = refl

-- options over a file; the texts are taken as they are, and judged with the configuration
over-a-file :
    asked (codes "lg" ∷ codes "check" ∷ codes "--interval-ms=abc" ∷ codes "--config=a.toml" ∷ [])
    ≡ check record { file = Some (codes "a.toml"); options = (codes "interval_ms", codes "abc") ∷ [] }
unfolding asked clap_on_literals
over-a-file = refl

two-seeds :
    asked (codes "lg" ∷ codes "check" ∷ codes "--seed=a@1.2.3.4:5" ∷ codes "--seed" ∷ codes "1.2.3.5" ∷ [])
    ≡ check record {
      file = None;
      options = (codes "seeds", codes "a@1.2.3.4:5") ∷ (codes "seeds", codes "1.2.3.5") ∷ [];
    }
unfolding asked clap_on_literals
two-seeds = refl

-- any other key has one option
two-ports : line_faults (codes "lg" ∷ codes "node" ∷ codes "--port=1" ∷ codes "--port=1" ∷ [])
    ≡ kind.ArgumentConflict ∷ []
unfolding line_faults asked clap_on_literals
two-ports = refl

-- an option is named by `-`, and that of the seeds by one of them
by-a-key : line_faults (codes "lg" ∷ codes "node" ∷ codes "--interval_ms=1000" ∷ []) ≡ kind.UnknownArgument ∷ []
unfolding line_faults asked clap_on_literals
by-a-key = refl

all-seeds : line_faults (codes "lg" ∷ codes "node" ∷ codes "--seeds=10.0.0.5" ∷ []) ≡ kind.UnknownArgument ∷ []
unfolding line_faults asked clap_on_literals
all-seeds = refl

-- an option that has no text
no-text : line_faults (codes "lg" ∷ codes "check" ∷ codes "--name" ∷ []) ≡ kind.InvalidValue ∷ []
unfolding line_faults asked clap_on_literals
no-text = refl

-- the first number of a probe is no key of a file
no-first : line_faults (codes "lg" ∷ codes "node" ∷ codes "--first=1" ∷ []) ≡ kind.UnknownArgument ∷ []
unfolding line_faults asked clap_on_literals
no-first = refl
