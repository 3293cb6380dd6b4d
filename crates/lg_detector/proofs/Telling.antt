-- News is gossiped: the packets are sent one after another, as long as there is news.
use Rattle.std.proofs.Common.{◌≡◌, ℕ, ◌≤◌, false, List, [], ◌∷◌, ◌++◌, append-nil, cond, length, drop, take, refl, sym, ap, ◌∙◌}
use Rattle.std.proofs.lemmas.List.{drop_all}
use Rattle.lg_rules.specs.declared.claim.Claim.{Claim}
use Rattle.lg_detector.specs.declared.message.Message.{Message}
use Rattle.lg_detector.specs.declared.reply.Outgoing.{Outgoing}
use Rattle.lg_detector.specs.Meaning.Tick.{gossips_for}
use Rattle.lg_detector.specs.Support.Send.{packets_state, send_all_state, send_state}
use Rattle.lg_detector.specs.Support.State.{State, has_news_in}
use Rattle.lg_detector.specs.Support.Step.{view_state}
use Rattle.lg_detector.specs.Support.Tick.{while_news_state}

-- the Gossips to the names from an index on, for each that has a record
abbrev pub gossips_from : ℕ → List Claim → List (List ℕ) → List Message
gossips_from i rows names = gossips_for rows (drop i names)

-- after the first so many names, to so many of which a packet was sent
pub record HaveTold (first now : State) (names : List (List ℕ)) (i count : ℕ) (sends : List Outgoing) : Type 0 where
  pub state : send_all_state (while_news_state (gossips_from i (view_state first) names) now) now ≡ send_all_state (while_news_state (gossips_from 0 (view_state first) names) first) first
  pub sent : take count sends ++ packets_state (while_news_state (gossips_from i (view_state first) names) now) now ≡ packets_state (while_news_state (gossips_from 0 (view_state first) names) first) first
  pub rows : view_state now ≡ view_state first
  pub few : count ≤ i
  pub places : length names ≤ length sends

-- after the last name nothing is left to tell, nor is it without news
pub after_the_last : (rows : List Claim) (names : List (List ℕ)) (s : State) (i : ℕ) → length names ≤ i
    → while_news_state (gossips_from i rows names) s ≡ []
after_the_last rows names s i le = ap (λ left. while_news_state (gossips_for rows left) s) (drop_all i names le)

pub without_news : (ms : List Message) (s : State) → has_news_in s.membership ≡ false → while_news_state ms s ≡ []
without_news [] s none = refl
without_news (m ∷ ms) s none = ap (λ b. cond b (m ∷ while_news_state ms (send_state m.body s)) []) none

-- so all is told
pub all-state : (first now : State) (names : List (List ℕ)) (i count : ℕ) (sends : List Outgoing) → HaveTold first now names i count sends
    → while_news_state (gossips_from i (view_state first) names) now ≡ []
    → now ≡ send_all_state (while_news_state (gossips_for (view_state first) names) first) first
all-state first now names i count sends told none = sym (ap (λ ms. send_all_state ms now) none) ∙ told.state

pub all-sent : (first now : State) (names : List (List ℕ)) (i count : ℕ) (sends : List Outgoing) → HaveTold first now names i count sends
    → while_news_state (gossips_from i (view_state first) names) now ≡ []
    → take count sends ≡ packets_state (while_news_state (gossips_for (view_state first) names) first) first
all-sent first now names i count sends told none =
    sym (append-nil (take count sends)) ∙ sym (ap (λ ms. take count sends ++ packets_state ms now) none) ∙ told.sent
