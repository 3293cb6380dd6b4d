-- Worked options: what they mean without a file, and over what a file says.
use Rattle.std.specs.Prelude.{◌≡◌, ℕ, List, [], ◌∷◌, codes, pos, refl, true, Some, None, Ok, Err}
use Rattle.lg_rules.specs.declared.addr.Addr.{Addr}
use Rattle.lg_rules.specs.declared.addr.Ip.TheVariants.{V4}
use Rattle.lg_timing.specs.Meaning.Config.{defaults}
use Rattle.lg_timing.specs.declared.config.ConfigFault.TheVariants.{Interval, Seeds}
use Rattle.toml.specs.Data.{Data, integer, string, Members, no_members, member}
use Rattle.lg_config.specs.declared.fault.FileFault.TheVariants as fault
use Rattle.lg_config.specs.declared.host.Place.TheVariants as place
use Rattle.lg_config.specs.declared.seeds.SeedPlace.{SeedPlace}
use Rattle.lg_config.specs.Meaning.Answer.{answer_with}
use Rattle.lg_config.specs.Meaning.Examples.{b-by-default, b-with, local, means, on_files, usual-with}
use Rattle.lg_config.specs.Meaning.Options.{given_value, put_member, Options}
use Rattle.lg_config.specs.Meaning.Texts.{address_with_port}

-- the option of the name b, and others
abbrev b-and : Options → Options
b-and others = (codes "name", codes "b") ∷ others

-- one option
abbrev one : List ℕ → List ℕ → Options
one key text = (key, text) ∷ []

-- ---- options without a file

name-alone : answer_with (b-and []) [] ≡ means b-by-default
unfolding on_files address_with_port
name-alone = refl

-- an address of 10.0.0.0/8 with a port
abbrev ten : ℕ → ℕ → Addr
ten last port = record { ip = V4 (10 ∷ 0 ∷ 0 ∷ last ∷ []); port = port }

-- a seed without a name
abbrev nameless : Addr → SeedPlace
nameless addr = record { name = None; place = place.Addr addr }

-- a node of one line
first-node :
    answer_with
    ((codes "name", codes "web-1") ∷ (codes "address", codes "10.0.0.7") ∷ (codes "status", codes "127.0.0.1:8946")
    ∷ one (codes "seeds") (codes "10.0.0.5")) []
    ≡ Ok (record (usual-with (defaults (codes "web-1") (ten 7 7946))) {
      status = Some (local 8946);
      seeds = record { items = nameless (ten 5 7946) ∷ [] };
    })
unfolding on_files address_with_port
first-node = refl

-- each seed has an option of its own
two-seeds :
    answer_with (b-and ((codes "seeds", codes "10.0.0.5") ∷ one (codes "seeds") (codes "10.0.0.6:1"))) []
    ≡ Ok (record (usual-with b-by-default) {
      seeds = record { items = nameless (ten 5 7946) ∷ nameless (ten 6 1) ∷ [] };
    })
unfolding on_files address_with_port
two-seeds = refl

no-name : answer_with (one (codes "port") (codes "1")) [] ≡ Err fault.Key
unfolding on_files address_with_port
no-name = refl

-- ---- options over what a file says

port-over-file :
    answer_with (one (codes "port") (codes "2")) (b-with (codes "port = 1"))
    ≡ means (record b-by-default { addr = local 2 })
unfolding on_files address_with_port
port-over-file = refl

-- the seeds that are given stand in place of the file's
seeds-over-file :
    answer_with (one (codes "seeds") (codes "10.0.0.5")) (b-with (codes "seeds = [\"c@127.0.0.1:7001\"]"))
    ≡ Ok (record (usual-with b-by-default) {
      seeds = record { items = nameless (ten 5 7946) ∷ [] };
    })
unfolding on_files address_with_port
seeds-over-file = refl

-- a wrong value of the file counts no more
mended : answer_with (one (codes "interval_ms") (codes "1000")) (b-with (codes "interval_ms = 5")) ≡ means b-by-default
unfolding on_files address_with_port
mended = refl

-- a file that is no document stays one
unended-text : answer_with (b-and []) (codes "name = \"b") ≡ Err fault.Syntax
unfolding on_files address_with_port
unended-text = refl

-- ---- faults of options are those of a file

short-interval : answer_with (b-and (one (codes "interval_ms") (codes "5"))) [] ≡ Err (fault.Config Interval)
unfolding on_files address_with_port
short-interval = refl

negative-interval : answer_with (b-and (one (codes "interval_ms") (codes "-1"))) [] ≡ Err (fault.Config Interval)
unfolding on_files address_with_port
negative-interval = refl

no-number : answer_with (b-and (one (codes "interval_ms") (codes "abc"))) [] ≡ Err fault.Key
unfolding on_files address_with_port
no-number = refl

no-whole-number : answer_with (b-and (one (codes "interval_ms") (codes "1.5"))) [] ≡ Err fault.Key
unfolding on_files address_with_port
no-whole-number = refl

unknown-key : answer_with (b-and (one (codes "colour") (codes "1"))) [] ≡ Err fault.Key
unfolding on_files address_with_port
unknown-key = refl

own-name-among-seeds : answer_with (b-and (one (codes "seeds") (codes "b@127.0.0.1:1"))) [] ≡ Err (fault.Config Seeds)
unfolding on_files address_with_port
own-name-among-seeds = refl

-- a text has no quotes
quoted-name : answer_with (one (codes "name") (codes "\"b\"")) [] ≡ Err fault.Value
unfolding on_files address_with_port
quoted-name = refl

opened :
    answer_with (b-and (one (codes "status_open") (codes "true"))) []
    ≡ Ok (record (usual-with b-by-default) { status_open = true })
unfolding on_files address_with_port
opened = refl

neither-true-nor-false : answer_with (b-and (one (codes "status_open") (codes "yes"))) [] ≡ Err fault.StatusOpen
unfolding on_files address_with_port
neither-true-nor-false = refl

neither-on-nor-off : answer_with (b-and (one (codes "leave") (codes "no"))) [] ≡ Err fault.Leave
unfolding on_files address_with_port
neither-on-nor-off = refl

-- ---- values and members

number-as-in-file : given_value (codes "port") (codes "0x10") ≡ integer (pos 16)
unfolding on_files address_with_port
number-as-in-file = refl

number-as-text : given_value (codes "name") (codes "16") ≡ string (codes "16")
unfolding on_files address_with_port
number-as-text = refl

-- members with the keys b and d
abbrev b-d : Data → Data → Members
b-d b d = member (codes "b") b (member (codes "d") d no_members)

in-place : (x y z : Data) → put_member (codes "b") z (b-d x y) ≡ b-d z y
in-place x y z = refl

between :
    (x y z : Data)
    → put_member (codes "c") z (b-d x y)
    ≡ member (codes "b") x (member (codes "c") z (member (codes "d") y no_members))
between x y z = refl
