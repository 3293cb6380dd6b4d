use Rattle.std.proofs.Common.{◌≡◌, ℕ, true, List, Result, Ok, Err, IfOk, Some, None, ap, refl, subst, sym, ◌∙◌}
use Rattle.std.specs.Result.{IsErrAnd}
use Rattle.toml.specs.Data.{Members}
use Rattle.toml.specs.View.{table_view}
use Rattle.lg_timing.specs.Meaning.Config.{IsChecked}
use Rattle.lg_config.specs.declared.document.Unread.{Unread}
use Rattle.lg_config.specs.declared.document.Unread.TheVariants as unread
use Rattle.lg_config.specs.declared.fault.FileFault.{FileFault}
use Rattle.lg_config.specs.declared.fault.ReadFault.{ReadFault}
use Rattle.lg_config.specs.declared.fault.ReadFault.TheVariants.{File}
use Rattle.lg_config.specs.declared.node.NodeConfig.{NodeConfig}
use Rattle.lg_config.specs.Meaning.Answer.{IsAnswer, TakesMemory, answer_with, document_with, meaning_of, unless_syntax}
use Rattle.lg_config.specs.Meaning.NodeKeys.{own_broken}
use Rattle.lg_config.specs.Meaning.Options.{Options, options_of}
use Rattle.lg_config.specs.Support.Reading.{IsUnread, SaysUnread}
use Rattle.lg_config.specs.Meaning.Status.{may_listen}
use Rattle.lg_config.proofs.MeaningLaws.{guarded-meaning, passed-meaning, within-meaning}
use Rattle.lg_config.proofs.node.NodeConfig.read.Goals as goal

-- the error that a `?` passes on
passed-on : {T E : Type 0} (P : Result T E → Type 0) (Q : E → Type 0) (r : Result T E) → IsErrAnd r Q → ((y : E) → Q y → P (Err y)) → P r
passed-on P Q (Ok x) is h = absurd is
passed-on P Q (Err y) is h = h y is

not-parsed : (options : Options) (bytes : List ℕ) (why : Unread) (told : ReadFault) → IsUnread (TakesMemory options bytes) bytes why → SaysUnread why told → IsAnswer options bytes (Err told)
unfolding answer_with
not-parsed options bytes unread.NoMemory told is says = rw says is
not-parsed options bytes unread.TooLong told is says = rw (says, is) refl
not-parsed options bytes unread.NoUtf8 told is says = rw (says, is.0, is.1) refl
not-parsed options bytes (unread.NoToml error) told is says = rw (says, is.0, is.1, is.2) refl

read-as : (options : Options) (bytes : List ℕ) (m : Members) (r : Result NodeConfig FileFault) → document_with options bytes ≡ Some m → r ≡ meaning_of m
    → answer_with options bytes ≡ r
unfolding answer_with
read-as options bytes m r is means = ap unless_syntax is ∙ sym means

pub returns-in_err-table-clause-answer : goal.returns-in_err-table-clause-answer
returns-in_err-table-clause-answer c =
    passed-on (IsAnswer (options_of c.args.given.now) c.args.bytes.now) (SaysUnread c.in_err-table.field-0.0) c.from_residual.result c.from_residual.ensures.1
    (λ told says. not-parsed (options_of c.args.given.now) c.args.bytes.now c.in_err-table.field-0.0 told c.in_err-table.ensures says)

pub returns-in_err-meaning_in-clause-answer : goal.returns-in_err-meaning_in-clause-answer
returns-in_err-meaning_in-clause-answer c =
    passed-on (IsAnswer (options_of c.args.given.now) c.args.bytes.now) (λ told. told ≡ File c.in_err-meaning_in.field-0.0) c.from_residual-in_err-meaning_in.result c.from_residual-in_err-meaning_in.ensures.1
    (λ told says. subst (λ y. IsAnswer (options_of c.args.given.now) c.args.bytes.now (Err y)) (sym says) (read-as (options_of c.args.given.now) c.args.bytes.now _ _ c.in_ok-table.ensures c.in_err-meaning_in.ensures))

pub returns-clause-answer : goal.returns-clause-answer
returns-clause-answer c = read-as (options_of c.args.given.now) c.args.bytes.now _ _ c.in_ok-table.ensures c.in_ok-meaning_in.ensures

pub returns-clause-checked : goal.returns-clause-checked
returns-clause-checked c =
    subst (λ r. IfOk r (λ node. IsChecked node.config)) (sym c.in_ok-meaning_in.ensures)
    (passed-meaning (table_view c.in_ok-table.table))

pub returns-clause-within : goal.returns-clause-within
returns-clause-within c =
    subst (λ r. IfOk r (λ node. own_broken node ≡ None)) (sym c.in_ok-meaning_in.ensures)
    (within-meaning (table_view c.in_ok-table.table))

pub returns-clause-guarded : goal.returns-clause-guarded
returns-clause-guarded c =
    subst (λ r. IfOk r (λ node. may_listen node.status node.status_open ≡ true)) (sym c.in_ok-meaning_in.ensures)
    (guarded-meaning (table_view c.in_ok-table.table))
