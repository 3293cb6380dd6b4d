-- What the steps of reading a body give.
use Rattle.std.specs.Prelude.{◌≡◌, ℕ, List, [], ◌∷◌, ◌++◌, true, false, ⊤, Option, Some, None, Result, Ok, Err}
use Rattle.std.specs.Borrow.{Bor}
use Rattle.std.specs.Str.{is_utf8}
use Rattle.lg_client.specs.declared.changes.News.{News}
use Rattle.lg_client.specs.declared.fault.AskFault.{AskFault}
use Rattle.lg_client.specs.declared.fault.AskFault.TheVariants.{Address, Bad, Busy, Memory, Unanswered, Write}
use Rattle.lg_client.specs.declared.told.Told.{Told}
use Rattle.lg_client.specs.declared.told.ToldNews.{ToldNews}
use Rattle.lg_client.specs.Meaning.Changes.{NewsSaid}
use Rattle.lg_client.specs.Meaning.Told.{AnswerText, NewsText}

-- What was read is this, or there is nothing to be read; or memory was refused.
abbrev pub IsReadAs : {A B : Type 0} → (B → A) → Option A → Result B AskFault → Type 0
IsReadAs shown said (Ok read) = said ≡ Some (shown read)
IsReadAs shown said (Err Address) = ⊥
IsReadAs shown said (Err Unanswered) = ⊥
IsReadAs shown said (Err Bad) = said ≡ None
IsReadAs shown said (Err Busy) = ⊥
IsReadAs shown said (Err Memory) = ⊤
IsReadAs shown said (Err (Write fault)) = ⊥

-- the text that bytes spell, or the fault that they aren't UTF-8
abbrev pub IsTextOf : List ℕ → Result (Bor (List ℕ)) AskFault → Type 0
IsTextOf bytes (Ok text) = (text.now ≡ bytes) × (is_utf8 bytes ≡ true)
IsTextOf bytes (Err fault) = (fault ≡ Bad) × (is_utf8 bytes ≡ false)

-- what values of the code stand for
abbrev pub news_shown : News → NewsSaid
news_shown news = record { version = news.version; missed = news.missed; changes = news.changes.items }

abbrev pub told_shown : Told → AnswerText
told_shown told = record { text = told.text.items; ousted = told.is_ousted }

abbrev pub told_news_shown : ToldNews → NewsText
told_news_shown told = record { text = told.text.items; version = told.version }

-- Rows grow by one, or memory is refused for it.
abbrev pub PutsRow : {A : Type 0} → (old new : List A) → A → Result (Unit {0}) AskFault → Type 0
PutsRow old new row (Ok done) = new ≡ old ++ row ∷ []
PutsRow old new row (Err fault) = fault ≡ Memory
