-- What is told of an answer, by the steps to it.
use Rattle.std.proofs.Common.{◌≡◌, ℕ, List, [], Option, Result, Ok, Err, inl, inr, refl, subst, sym}
use Rattle.lg_client.specs.declared.fault.AskFault.{AskFault}
use Rattle.lg_client.specs.declared.fault.AskFault.TheVariants.{Address, Bad, Busy, Memory, Unanswered, Write}
use Rattle.lg_client.specs.Meaning.Addresses.{HasNodeAddress}
use Rattle.lg_client.specs.Meaning.Answers.{IsAnswerBody}
use Rattle.lg_client.specs.Meaning.Telling.{IsWhyUntold}
use Rattle.lg_client.specs.Support.Asking.{AnswersQuestion, IsToldAt, IsWhyUnheard}
use Rattle.lg_client.specs.Support.Reading.{IsReadAs}
use Rattle.lg_client.specs.Support.Receiving.{IsFetched, IsHeard}
use Rattle.lg_client.specs.Meaning.Waiting.{ask_fault_of, told_of}
use Rattle.lg_client.specs.declared.receiving.Answer.{Answer}
use Rattle.lg_client.specs.declared.unheard.Delay.TheVariants.{Closed, Told}
use Rattle.lg_client.specs.declared.unheard.Unheard.{Unheard}
use Rattle.lg_client.specs.declared.unheard.Unheard.TheVariants.{Lacking, Later, NoMemory, Wrong}

-- a question that isn't asked again
pub fetched_from : (allowed : List ℕ) (why : Unheard) → IsHeard allowed (Err why) → IsFetched allowed (Err (ask_fault_of why))
fetched_from allowed (Later (Told seconds)) heard = (heard.0, inr (seconds, heard.1, heard.2))
fetched_from allowed (Later Closed) heard = ([], inl refl)
fetched_from allowed Lacking heard = heard
fetched_from allowed Wrong heard = heard
fetched_from allowed NoMemory heard = tt

pub fetched_by : (allowed : List ℕ) (outcome : Result Answer Unheard) (result : Result Answer AskFault) → IsHeard allowed outcome → result ≡ told_of outcome → IsFetched allowed result
fetched_by allowed (Ok answer) result heard is = subst (IsFetched allowed) (sym is) heard
fetched_by allowed (Err why) result heard is = subst (IsFetched allowed) (sym is) (fetched_from allowed why heard)

-- no answer came
pub unheard_from : {A : Type 0} (allowed : List ℕ) (told : List ℕ → Option A) (fault : AskFault) → IsFetched allowed (Err fault) → IsWhyUnheard allowed told fault
unheard_from allowed told Address why = absurd why
unheard_from allowed told Unanswered why = why
unheard_from allowed told Bad why = inl why
unheard_from allowed told Busy why = why
unheard_from allowed told Memory why = tt
unheard_from allowed told (Write fault) why = absurd why

-- an answer came
pub answers_from : {A B : Type 0} (allowed : List ℕ) (shown : B → A) (told : List ℕ → Option A) (body : List ℕ) (result : Result B AskFault) → IsAnswerBody allowed body
    → IsReadAs shown (told body) result → AnswersQuestion allowed shown told result
answers_from allowed shown told body (Ok it) answered read = (body, answered, read)
answers_from allowed shown told body (Err Address) answered read = absurd read
answers_from allowed shown told body (Err Unanswered) answered read = absurd read
answers_from allowed shown told body (Err Bad) answered read = inr (body, answered, read)
answers_from allowed shown told body (Err Busy) answered read = absurd read
answers_from allowed shown told body (Err Memory) answered read = tt
answers_from allowed shown told body (Err (Write fault)) answered read = absurd read

-- at an address
pub untold_at : {A : Type 0} (at allowed : List ℕ) (told : List ℕ → Option A) (fault : AskFault) → HasNodeAddress at → IsWhyUnheard allowed told fault
    → IsWhyUntold at allowed told fault
untold_at at allowed told Address address why = absurd why
untold_at at allowed told Unanswered address why = (address, why)
untold_at at allowed told Bad address why = (address, why)
untold_at at allowed told Busy address why = (address, why)
untold_at at allowed told Memory address why = address
untold_at at allowed told (Write fault) address why = absurd why

pub told_at : {A B : Type 0} (at allowed : List ℕ) (shown : B → A) (told : List ℕ → Option A) (result : Result B AskFault) → HasNodeAddress at
    → AnswersQuestion allowed shown told result → IsToldAt at allowed shown told result
told_at at allowed shown told (Ok it) address answers = (address, answers)
told_at at allowed shown told (Err fault) address why = untold_at at allowed told fault address why

-- no address
pub unasked_at : {A B : Type 0} (at allowed : List ℕ) (shown : B → A) (told : List ℕ → Option A) (fault : AskFault) → fault ≡ Address → ¬ (HasNodeAddress at)
    → IsToldAt {B = B} at allowed shown told (Err fault)
unasked_at at allowed shown told fault is none = subst (λ (f : AskFault). IsWhyUntold at allowed told f) (sym is) none
