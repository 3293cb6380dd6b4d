-- The numbers and flags of a command line, by what reading them gives, and the command as it is built.
use Rattle.std.proofs.Common.{◌≡◌, ℕ, ◌<◌, ◌^◌, Bool, true, false, ◌||◌, cond, [], ◌∷◌, Option, Some, None, Result, Ok, Err, inl, inr, refl, sym, ap, ap₂, ◌∙◌, arith, codes, ◌+◌, ◌≤◌, List, length, get_or, take, subst, fold}
use Rattle.std.specs.Prelude.{unwrap_or}
use Rattle.std.specs.Option.{option_map_or}
use Rattle.std.specs.Str.{bytes_eq}
use Rattle.std.specs.Str.Parse.{IsNumeral, ParsesBool, ParsesUnsigned, digits_value, true_text, without_leading_plus}
use Rattle.std.proofs.lemmas.Slice.Eq.{bytes_eq-Decides}
use Rattle.std.proofs.lemmas.List.{take_all}
use Rattle.std.proofs.lemmas.List.Sums.{fold_more}
use Rattle.clap.specs.Built.{AddsArg}
use Rattle.clap.specs.Kinds.{Kinds, HasKind, IsAmong, or_else}
use Rattle.clap.specs.Matches.{ReadsOne}
use Rattle.clap.specs.Simple.{App, app_of, with_rule, with_subcommand}
use Rattle.clap.specs.ValueTests.{accepts}
use Rattle.clap.specs.Walk.{Rule, Text, rule_of}
use Rattle.clap.specs.declared.builder.arg.Arg.{Arg}
use Rattle.clap.specs.declared.builder.command.Command.{Command}
use Rattle.clap.specs.declared.builder.command.Command.TheViews.{out-Command}
use Rattle.clap.specs.declared.error.Error.{Error}
use Rattle.clap.specs.declared.error.kind.ErrorKind.{ErrorKind}
use Rattle.clap.specs.declared.builder.value_parser.ValueParser.{ValueParser}
use Rattle.clap.specs.declared.builder.value_parser.ValueParser.TheVariants.{Unsigned}
use Rattle.clap.proofs.ValueTestLemmas.{accepts-Accepts, Accepts-accepts}
use Rattle.lg_command_line.specs.declared.command.CommandRow.{CommandRow}
use Rattle.lg_command_line.specs.declared.key_options.KeyRow.{KeyRow}
use Rattle.lg_command_line.specs.declared.options.OptionRow.{OptionRow}
use Rattle.lg_command_line.specs.Meaning.Commands.{option_number}
use Rattle.lg_command_line.specs.Support.Options.{app_of_row, rule_of_key, rule_of_row, with_key_rule, with_option, with_row, with_rows}

abbrev any_number : ValueParser
any_number = Unsigned 0 18446744073709551615

abbrev value_of : Text → ℕ
value_of text = digits_value 10 (without_leading_plus text)

spells : (text : Text) → IsNumeral 10 (without_leading_plus text) × (value_of text < 2 ^ 64) → option_number text ≡ value_of text
spells text is = ap (λ (b : Bool). cond b (value_of text) 0) (Accepts-accepts false any_number text (is.0, is.1, omega arith, omega arith))

spells_none : (text : Text) → (IsNumeral 10 (without_leading_plus text) × (value_of text < 2 ^ 64) → ⊥) → option_number text ≡ 0
spells_none text isnt = go (accepts false any_number text) refl
  where
    go : (b : Bool) → accepts false any_number text ≡ b → option_number text ≡ 0
    go true it = let is = accepts-Accepts false any_number text it in absurd (isnt (is.0, is.1))
    go false it = ap (λ (b : Bool). cond b (value_of text) 0) it

-- the number that is read of a text, if there is one
pub number_read : {E : Type 0} (G : Text → Result ℕ E → Type 0) (one : Option Text) (r : Option ℕ)
    → (one ≡ None → r ≡ None) → ((text : Text) → one ≡ Some text → ReadsOne G text r) → ((text : Text) (x : Result ℕ E) → G text x → ParsesUnsigned 64 10 text x)
    → unwrap_or r 0 ≡ option_map_or option_number one 0
number_read G None r none some only = ap (λ (o : Option ℕ). unwrap_or o 0) (none refl)
number_read G (Some text) r none some only = go r (some text refl)
  where
    go : (o : Option ℕ) → ReadsOne G text o → unwrap_or o 0 ≡ option_number text
    go (Some n) h = let parsed = only text (Ok n) h in parsed.1 ∙ sym (spells text parsed.0)
    go None h = sym (spells_none text (only text (Err h.0) h.1))

-- ---- the flag of a command line, by what reading it gives

abbrev pub is_true_text : Text → Bool
is_true_text text = bytes_eq text (codes "true")

-- the flag that is read of a text, if there is one
pub flag_read : (E : Type 0) (one : Option Text) (r : Option Bool)
    → (one ≡ None → r ≡ None) → ((text : Text) → one ≡ Some text → ReadsOne {E = E} ParsesBool text r)
    → unwrap_or r false ≡ option_map_or is_true_text one false
flag_read E None r none some = ap (λ (o : Option Bool). unwrap_or o false) (none refl)
flag_read E (Some text) r none some = go r (some text refl)
  where
    go : (o : Option Bool) → ReadsOne {E = E} ParsesBool text o → unwrap_or o false ≡ is_true_text text
    go (Some true) is = ap is_true_text (sym is)
    go (Some false) is = ap is_true_text (sym is)
    go None h = other (is_true_text text) refl
      where
        other : (b : Bool) → is_true_text text ≡ b → false ≡ is_true_text text
        other true it = absurd (h.1.0 ((bytes_eq-Decides text true_text).0 it))
        other false it = sym it

-- ---- the command as it is built

-- A command has these options, and none of them is global.
pub record MakesApp (command : Command) (app : App) : Type 0 where
  pub is : app_of command ≡ app
  pub local : (out-Command command).has_globals ≡ false

-- one option more
pub adds_rule : (old new : Command) (arg : Arg) (app : App) (rule : Rule) → AddsArg old arg new → arg.global ≡ false → rule_of arg ≡ rule → MakesApp old app
    → MakesApp new (with_rule app rule)
adds_rule old new arg app rule adds local is made = record {
  is = adds.shape local ∙ ap₂ with_rule made.is is;
  local = adds.globals ∙ ap₂ (λ (a b : Bool). a || b) made.local local;
}

-- one row more of a command's options
pub adds_row : (old new : Command) (arg : Arg) (start : App) (rows : List OptionRow) (i : ℕ) (d : OptionRow) → i < length rows
    → AddsArg old arg new → arg.global ≡ false → rule_of arg ≡ rule_of_row (get_or rows i d)
    → MakesApp old (fold with_option start (take i rows)) → MakesApp new (fold with_option start (take (i + 1) rows))
adds_row old new arg start rows i d within adds local is made =
    subst (MakesApp new) (sym (fold_more with_option start rows i d within)) (adds_rule old new arg _ _ adds local is made)

-- all rows of a command's options
pub has_rows : (command : Command) (start : App) (rows : List OptionRow) (n : ℕ) → length rows ≤ n
    → MakesApp command (fold with_option start (take n rows)) → MakesApp command (fold with_option start rows)
has_rows command start rows n all made =
    subst (λ (some : List OptionRow). MakesApp command (fold with_option start some)) (take_all n rows all) made

-- one key more of a command's options
pub adds_key : (old new : Command) (arg : Arg) (start : App) (rows : List KeyRow) (i : ℕ) (d : KeyRow) → i < length rows
    → AddsArg old arg new → arg.global ≡ false → rule_of arg ≡ rule_of_key (get_or rows i d)
    → MakesApp old (fold with_key_rule start (take i rows)) → MakesApp new (fold with_key_rule start (take (i + 1) rows))
adds_key old new arg start rows i d within adds local is made =
    subst (MakesApp new) (sym (fold_more with_key_rule start rows i d within)) (adds_rule old new arg _ _ adds local is made)

-- all keys of a command's options
pub has_keys : (command : Command) (start : App) (rows : List KeyRow) (n : ℕ) → length rows ≤ n
    → MakesApp command (fold with_key_rule start (take n rows)) → MakesApp command (fold with_key_rule start rows)
has_keys command start rows n all made =
    subst (λ (some : List KeyRow). MakesApp command (fold with_key_rule start some)) (take_all n rows all) made

-- one command more
pub one_row_more : (old new : Command) (start : App) (rows : List CommandRow) (i : ℕ) (d : CommandRow) → i < length rows
    → app_of new ≡ with_subcommand (app_of old) (app_of_row (get_or rows i d)).top
    → app_of old ≡ with_rows start (take i rows) → app_of new ≡ with_rows start (take (i + 1) rows)
unfolding with_rows
one_row_more old new start rows i d within adds made =
    adds ∙ ap (λ (lg : App). with_row lg (get_or rows i d)) made ∙ sym (fold_more with_row start rows i d within)

-- all commands
pub all_rows : (command : Command) (start : App) (rows : List CommandRow) (n : ℕ) → length rows ≤ n
    → app_of command ≡ with_rows start (take n rows) → app_of command ≡ with_rows start rows
all_rows command start rows n all made = made ∙ ap (with_rows start) (take_all n rows all)

-- the program with its commands is this
pub program_is : (command : Command) (lg bare whole : App) (rows : List CommandRow) → app_of command ≡ with_rows lg rows → lg ≡ bare
    → fold with_row bare rows ≡ whole → app_of command ≡ whole
unfolding with_rows
program_is command lg bare whole rows made same is = made ∙ ap (λ (a : App). fold with_row a rows) same ∙ is

-- ---- why a command line is refused

among_more : (kind : ErrorKind) (first next : Kinds) → IsAmong kind first → IsAmong kind (or_else first next)
among_more kind [] next among = absurd among
among_more kind (k ∷ ks) next among = among

-- an error for a first reason has one of all reasons
pub kind_of_first : (error : Error) (first next : Kinds) → HasKind first error → HasKind (or_else first next) error
kind_of_first error first next (inl memory) = inl memory
kind_of_first error first next (inr among) = inr (among_more _ first next among)
