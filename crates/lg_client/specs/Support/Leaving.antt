-- What the steps of a leave give.
use Rattle.std.specs.Prelude.{◌≡◌, ◌⊎◌, ℕ, List, [], codes, None, Result, Ok, Err}
use Rattle.lg_text.specs.Meaning.Names.{member_name_of}
use Rattle.lg_client.specs.declared.leave_fault.LeaveFault.{LeaveFault}
use Rattle.lg_client.specs.declared.leave_fault.LeaveFault.TheVariants.{Asking, Name, Staying}
use Rattle.lg_client.specs.declared.resource.Resource.TheVariants.{Health}
use Rattle.lg_client.specs.Meaning.Addresses.{HasNodeAddress}
use Rattle.lg_client.specs.Meaning.Leaving.{IsAskedAs, IsLeaving, IsWhyNotLeft, leaving_told, name_told}
use Rattle.lg_client.specs.Meaning.Questions.{codes_of, leave_codes}
use Rattle.lg_client.specs.Support.Asking.{IsWhyUnheard}

-- The name to ask by, or why there is none.
abbrev pub IsNameFound : List ℕ → Result (List ℕ) LeaveFault → Type 0
IsNameFound given (Ok name) = IsAskedAs given name
IsNameFound given (Err Name) = ¬ (given ≡ []) × (member_name_of given ≡ None)
IsNameFound given (Err (Asking fault)) =
    (given ≡ []) × IsWhyUnheard (codes_of Health) (name_told (codes "name")) fault
IsNameFound given (Err Staying) = ⊥

-- The node has left, or why that isn't known, once there is an address.
abbrev pub IsLeftAs : List ℕ → Result (Unit {0}) LeaveFault → Type 0
IsLeftAs given (Ok done) = IsLeaving given
IsLeftAs given (Err Name) = ¬ (given ≡ []) × (member_name_of given ≡ None)
IsLeftAs given (Err (Asking fault)) =
    ((given ≡ []) × IsWhyUnheard (codes_of Health) (name_told (codes "name")) fault)
    ⊎ ((name : List ℕ) × IsAskedAs given name × IsWhyUnheard leave_codes (leaving_told name) fault)
IsLeftAs given (Err Staying) = IsLeaving given

-- the same of the node at an address
abbrev pub IsLeftAt : List ℕ → List ℕ → Result (Unit {0}) LeaveFault → Type 0
IsLeftAt at given (Ok done) = HasNodeAddress at × IsLeaving given
IsLeftAt at given (Err fault) = IsWhyNotLeft at given fault
