-- A node that is asked to leave, and its end that is waited for.
use Rattle.std.proofs.Common.{◌≡◌, ℕ, ◌+◌, ◌≤◌, Bool, true, false, List, [], ◌∷◌, ◌++◌, Some, None, Result, Ok, Err, codes, inl, inr, refl, sym, ap, subst, ◌∙◌, add-one, append_assoc, append-nil, arith}
use Rattle.lg_client.specs.declared.fault.AskFault.{AskFault}
use Rattle.lg_client.specs.declared.fault.AskFault.TheVariants.{Address, Bad, Busy, Memory, Unanswered, Write}
use Rattle.lg_client.specs.declared.leave_fault.LeaveFault.{LeaveFault}
use Rattle.lg_client.specs.declared.leave_fault.LeaveFault.TheVariants.{Asking, Name, Staying}
use Rattle.lg_client.specs.declared.receiving.Answer.{Answer}
use Rattle.lg_client.specs.declared.resource.Resource.TheVariants.{Health}
use Rattle.lg_client.specs.declared.unheard.Unheard.{Unheard}
use Rattle.lg_client.specs.Meaning.Addresses.{HasNodeAddress}
use Rattle.lg_client.specs.Meaning.Leaving.{AsksToLeave, AwaitsEnd, FindsName, IsAskedAs, LeavesInOrder, TellsLeaving, body_of_answer, connected_again, end_told, leaving_told, most_connections, name_told, pause_ms}
use Rattle.lg_client.specs.Meaning.Questions.{codes_of, leave_codes}
use Rattle.lg_client.specs.Meaning.Waiting.{AskEvent, told_of}
use Rattle.lg_client.specs.Meaning.Waiting.AskEvent.{AskedToLeave, Connected, Paused}
use Rattle.lg_client.specs.Support.Leaving.{IsLeftAs, IsLeftAt}
use Rattle.lg_client.specs.Support.Reading.{IsReadAs}
use Rattle.lg_client.proofs.AskLaws.{answers_from, unheard_from, untold_at}

-- once
pub asks_to_leave : (name : List ℕ) (log log' : List AskEvent) (last : Result Answer Unheard) (result : Result Answer AskFault) → log' ≡ log ++ AskedToLeave name last ∷ []
    → result ≡ told_of last → AsksToLeave name log log' result
asks_to_leave name log log' last result is told = record { last = last; is = is; told = told }

-- no connection yet
pub awaits_begin : (log : List AskEvent) → log ≡ log ++ connected_again 0
awaits_begin log = sym (append-nil log)

-- one connection more, and a pause
pub awaits_more : (log before connected after : List AskEvent) (count : ℕ) (could : Bool) → before ≡ log ++ connected_again count → connected ≡ before ++ Connected could ∷ []
    → could ≡ true → after ≡ connected ++ Paused pause_ms ∷ [] → after ≡ log ++ connected_again (count + 1)
awaits_more log before connected after count could so_far made can paused =
    rw add-one
    (paused
    ∙ ap (λ (l : List AskEvent). l ++ Paused pause_ms ∷ []) (made ∙ ap (λ (b : Bool). before ++ Connected b ∷ []) can ∙ ap (λ (l : List AskEvent). l ++ Connected true ∷ []) so_far)
    ∙ simp append_assoc)

-- the last connection can't be made
pub awaits_ended : (log before after : List AskEvent) (count : ℕ) (could : Bool) → before ≡ log ++ connected_again count → count ≤ most_connections
    → after ≡ before ++ Connected could ∷ [] → could ≡ false → AwaitsEnd log after true
awaits_ended log before after count could so_far few failed can = record {
  count = count;
  few = few;
  is = failed ∙ ap (λ (b : Bool). before ++ Connected b ∷ []) can ∙ ap (λ (l : List AskEvent). l ++ Connected false ∷ []) so_far ∙ append_assoc log (connected_again count) (Connected false ∷ []);
  all = λ e. absurd cc;
}

-- all connections were made
pub awaits_in_vain : (log after : List AskEvent) (count : ℕ) → after ≡ log ++ connected_again count → count ≡ most_connections → AwaitsEnd log after false
awaits_in_vain log after count so_far all = record {
  count = count;
  few = omega arith;
  is = so_far ∙ ap (λ (l : List AskEvent). log ++ l) (sym (append-nil (connected_again count)));
  all = λ _. all;
}

-- what an answer tells
pub tells_leaving : (name body : List ℕ) (answer : Answer) (result : Result (List ℕ) AskFault) → body ≡ body_of_answer answer → IsReadAs (λ (said : List ℕ). said) (leaving_told name body) result
    → TellsLeaving name (Ok answer) result
tells_leaving name body answer (Ok said) is read = subst (λ (b : List ℕ). leaving_told name b ≡ Some said) is read
tells_leaving name body answer (Err Address) is read = absurd read
tells_leaving name body answer (Err Unanswered) is read = absurd read
tells_leaving name body answer (Err Bad) is read = inr (refl, subst (λ (b : List ℕ). leaving_told name b ≡ None) is read)
tells_leaving name body answer (Err Busy) is read = absurd read
tells_leaving name body answer (Err Memory) is read = inl refl
tells_leaving name body answer (Err (Write fault)) is read = absurd read

-- with what is told of any answer, for the code
pub ruleset leaving_told_from = (answers_from, unheard_from, tells_leaving)

-- it says that it leaves, and its end is waited for
pub leaves_awaited : (given name said : List ℕ) (log known asked log' : List AskEvent) (fetched : Result Answer AskFault) (ended : Bool) (result : Result (Unit {0}) LeaveFault)
    → FindsName given log known → IsAskedAs given name → AsksToLeave name known asked fetched → TellsLeaving name fetched (Ok said) → AwaitsEnd asked log' ended
    → result ≡ end_told ended → LeavesInOrder given log log' result
leaves_awaited given name said log known asked log' fetched ended result finds named asks tells awaits is = record {
  known = known;
  finds = finds;
  goes_on =
      inr (inr record {
        name = name;
        named = named;
        fetched = fetched;
        asked = asked;
        asks = asks;
        said = said;
        tells = tells;
        ended = ended;
        awaits = awaits;
        is = is;
      });
}

-- at an address
pub left_at : (at given : List ℕ) (result : Result (Unit {0}) LeaveFault) → HasNodeAddress at → IsLeftAs given result → IsLeftAt at given result
left_at at given (Ok done) address left = (address, left)
left_at at given (Err Name) address left = left
left_at at given (Err (Asking fault)) address (inl (none, why)) = inr (inl (none, untold_at {A = List ℕ} at (codes_of Health) (name_told (codes "name")) fault address why))
left_at at given (Err (Asking fault)) address (inr (name, named, why)) = inr (inr (name, named, untold_at {A = List ℕ} at leave_codes (leaving_told name) fault address why))
left_at at given (Err Staying) address left = (address, left)
