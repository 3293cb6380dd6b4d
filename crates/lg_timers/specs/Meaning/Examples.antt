-- Worked rows: what the definitions give for some timers.
use Rattle.std.specs.Prelude.{◌≡◌, ℕ, true, false, List, [], ◌∷◌, Some, None, refl}
use Rattle.lg_timers.specs.declared.timer.Timer.{Timer}
use Rattle.lg_timers.specs.declared.timer.TimerId.{TimerId}
use Rattle.lg_timers.specs.declared.timer.TimerId.TheVariants.{
  RoundEnd,
  Suspicion,
  Direct,
  RelayNack,
  RelayEnd,
  RoundStart,
  Forget,
  Gossip,
}
use Rattle.lg_timers.specs.Meaning.Timers.{is_set, in_turn, due_of, without_timer, timers_left}

abbrev at : ℕ → TimerId → Timer
at deadline id = record { deadline = deadline; id = id }

-- they fire by deadline, then by kind, then by name or number
in_their_order :
    in_turn
    (at 9 Gossip ∷ at 9 (Forget (99 ∷ [])) ∷ at 9 (Forget (98 ∷ [])) ∷ at 9 RoundStart ∷ at 9 (RelayEnd 7)
    ∷ at 9 (RelayEnd 6) ∷ at 9 (RelayNack 8)
    ∷ at 9 (Suspicion (98 ∷ 97 ∷ [])) ∷ at 9 (Suspicion (98 ∷ [])) ∷ at 9 RoundEnd ∷ at 8 Direct ∷ [])
    ≡ at 8 Direct ∷ at 9 RoundEnd ∷ at 9 (Suspicion (98 ∷ [])) ∷ at 9 (Suspicion (98 ∷ 97 ∷ []))
    ∷ at 9 (RelayNack 8) ∷ at 9 (RelayEnd 6) ∷ at 9 (RelayEnd 7) ∷ at 9 RoundStart ∷ at 9 (Forget (98 ∷ []))
    ∷ at 9 (Forget (99 ∷ [])) ∷ at 9 Gossip ∷ []
unfolding in_turn
in_their_order = refl

direct_in_its_place :
    in_turn (at 9 (RelayNack 1) ∷ at 9 Direct ∷ at 9 (Suspicion (98 ∷ [])) ∷ [])
    ≡ at 9 (Suspicion (98 ∷ [])) ∷ at 9 Direct ∷ at 9 (RelayNack 1) ∷ []
unfolding in_turn
direct_in_its_place = refl

none_due : due_of 7 (at 8 Direct ∷ at 9 RoundEnd ∷ []) ≡ None
none_due = refl

first_due : due_of 9 (at 8 Direct ∷ at 9 RoundEnd ∷ []) ≡ Some (at 8 Direct)
first_due = refl

one_cancelled :
    without_timer (RelayNack 2) (at 8 (RelayNack 1) ∷ at 9 (RelayNack 2) ∷ at 9 (RelayEnd 2) ∷ [])
    ≡ at 8 (RelayNack 1) ∷ at 9 (RelayEnd 2) ∷ []
one_cancelled = refl

-- A relay has two timers with its number.
abbrev of_a_relay : List Timer
of_a_relay = at 8 (RelayNack 1) ∷ at 9 (RelayEnd 1) ∷ []

end_is_set : is_set (RelayEnd 1) of_a_relay ≡ true
end_is_set = refl

another_number_is_not_set : is_set (RelayNack 2) of_a_relay ≡ false
another_number_is_not_set = refl

another_kind_is_not_set : is_set Direct of_a_relay ≡ false
another_kind_is_not_set = refl

gossip_is_not_a_round_start : is_set Gossip (at 9 RoundStart ∷ []) ≡ false
gossip_is_not_a_round_start = refl

-- a suspicion of a member and the forgetting of it are two timers, and so are the forgettings of two members
a_suspicion_is_not_a_forgetting : is_set (Suspicion (98 ∷ [])) (at 9 (Forget (98 ∷ [])) ∷ []) ≡ false
a_suspicion_is_not_a_forgetting = refl

another_name_is_not_forgotten :
    timers_left (due_of 9 (at 9 (Forget (98 ∷ [])) ∷ at 9 (Forget (99 ∷ [])) ∷ []))
    (at 9 (Forget (98 ∷ [])) ∷ at 9 (Forget (99 ∷ [])) ∷ [])
    ≡ at 9 (Forget (99 ∷ [])) ∷ []
another_name_is_not_forgotten = refl

no_end_left : is_set (RelayEnd 1) (timers_left (Some (at 9 (RelayEnd 1))) of_a_relay) ≡ false
no_end_left = refl

-- what is set once the first of the timers that are due was taken out, or none was due
end_is_left : timers_left (due_of 9 of_a_relay) of_a_relay ≡ at 9 (RelayEnd 1) ∷ []
end_is_left = refl

all_left : timers_left (due_of 7 of_a_relay) of_a_relay ≡ of_a_relay
all_left = refl
