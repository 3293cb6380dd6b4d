-- Worked rows of what is written if there is nothing to tell.
use Rattle.std.specs.Prelude.{◌≡◌, [], codes, refl}
use Rattle.lg_accounts.specs.Meaning.Accounts.{accounts_text}
use Rattle.lg_accounts.specs.Meaning.Json.{accounts_json, member_front}
use Rattle.lg_explain_run.specs.declared.form.AccountForm.TheVariants.{Json, Lines, NumberedLines}
use Rattle.lg_explain_run.specs.Meaning.Running.{accounts_status, written_accounts}

nothing-in-lines :
    written_accounts Lines (codes "c") [] ≡ codes "c has not been suspected, and has neither failed nor left.\n"
unfolding accounts_text
nothing-in-lines = refl

nothing-with-numbers :
    written_accounts NumberedLines (codes "c") [] ≡ codes "c has not been suspected, and has neither failed nor left.\n"
unfolding accounts_text
nothing-with-numbers = refl

nothing-as-json : written_accounts Json (codes "c") [] ≡ codes "{\"member\":\"c\",\"accounts\":[]}\n"
unfolding accounts_json member_front
nothing-as-json = refl

nothing-to-tell : accounts_status [] ≡ 1
nothing-to-tell = refl
