-- What becomes of a command line that reading gave an error for.
use Rattle.std.proofs.Common.{◌≡◌, ◌≢◌, ℕ, ◌⊎◌, List, inl, inr, subst, sym}
use Rattle.std.proofs.lemmas.Bool.{cases_eq}
use Rattle.clap.specs.Kinds.{IsAmong, Kinds}
use Rattle.clap.specs.Walk.{Text}
use Rattle.clap.specs.declared.error.kind.ErrorKind.{ErrorKind}
use Rattle.clap.specs.declared.error.kind.ErrorKind.TheVariants.{OutOfMemory}
use Rattle.lg_text.specs.Meaning.Reporting.{Reported}
use Rattle.lg_command_line.specs.Meaning.Commands.{line_faults, status_of_kind, RefusesLine}
use Rattle.lg_command_line.specs.Meaning.Leaving.{IsLeft, LacksMemory, LeavesLine, ReportsUnwritten}

-- How an error of this kind is reported.
pub record TellsError
    {W : Type 0} (before after : W) (reported reports : Reported) (kind : ErrorKind) (status : ℕ)
    : Type 0 where
  pub is : status ≢ 1 → status ≡ status_of_kind kind
  pub failed : status ≡ 1 → (kind ≡ OutOfMemory) ⊎ (status_of_kind kind ≡ 0)
  pub memory : kind ≡ OutOfMemory → LacksMemory before after reported reports status
  pub write_told : status ≡ 1 → status_of_kind kind ≡ 0 → ReportsUnwritten reported reports
  pub unreported : status ≡ 0 → reports ≡ reported
  pub unwritten : status ≡ 2 → after ≡ before

module _
    {W : Type 0} (before after : W) (reported reports : Reported) (kind : ErrorKind) (status : ℕ)
    (told : TellsError before after reported reports kind status) where
  -- an error of one of the faults of a command line
  leaves : (faults : Kinds) → IsAmong kind faults
      → LeavesLine before after reported reports faults status ⊎ LacksMemory before after reported reports status
  leaves faults among = go (cases_eq status 1)
    where
      refuses : (code : ℕ) → code ≡ status_of_kind kind → RefusesLine faults code
      refuses code is = record { kind = kind; among = among; is = is }

      helped : status ≡ 1 → status_of_kind kind ≡ 0 → LeavesLine before after reported reports faults status
      helped one zero = record {
        refused = λ other. absurd (other one);
        unwritten = told.unwritten;
        unreported = told.unreported;
        helped = λ _. refuses 0 (sym zero);
        told = λ _. told.write_told one zero;
      }

      go : (status ≡ 1) ⊎ (status ≡ 1 → ⊥)
          → LeavesLine before after reported reports faults status ⊎ LacksMemory before after reported reports status
      go (inl one) = elim (told.failed one) [
        | inl memory ↦ inr (told.memory memory)
        | inr zero ↦ inl (helped one zero)
      ]
      go (inr other) = inl (record {
        refused = λ _. refuses status (told.is other);
        unwritten = told.unwritten;
        unreported = told.unreported;
        helped = λ one. absurd (other one);
        told = λ one. absurd (other one);
      })

  -- a command line that isn't taken, or for which memory was refused
  pub is_left : (line : List Text) → (kind ≡ OutOfMemory) ⊎ IsAmong kind (line_faults line)
      → IsLeft before after reported reports line status
  is_left line (inl memory) = inr (told.memory memory)
  is_left line (inr among) = elim (leaves (line_faults line) among) [
    | inl left ↦ inl ((λ none. absurd (subst (IsAmong kind) none among)), left)
    | inr lacks ↦ inr lacks
  ]
