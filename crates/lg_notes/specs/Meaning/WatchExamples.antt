-- Worked watches of c by b: what is known of c behind one more entry.
use Rattle.std.specs.Prelude.{◌≡◌, true, false, [], ◌∷◌, None, map, refl}
use Rattle.lg_rules.specs.declared.claim.Status.TheVariants.{Alive, Suspect, Failed}
use Rattle.lg_timers.specs.declared.timer.TimerId.TheVariants.{Direct}
use Rattle.lg_packet.specs.declared.packet.Body.TheVariants.{Gossip}
use Rattle.lg_detector.specs.declared.event.Event.TheVariants.{Leave}
use Rattle.lg_detector.specs.declared.reply.Reply.{Reply}
use Rattle.lg_detector.specs.Meaning.Examples.{b, c, d, nothing, opening, ticks}
use Rattle.lg_notes.specs.declared.watch.Watch.{Watch}
use Rattle.lg_notes.specs.Meaning.About.{record_changed}
use Rattle.lg_notes.specs.Meaning.Examples.{changes, ends, fires, hears, of_c, probe_7, probed, starts, unwatched}
use Rattle.lg_notes.specs.Meaning.Watching.{is_calm, ping_of_start, probe_behind, suspected_behind, watch_behind}

abbrev suspected : Watch
suspected = record { is_suspected = true; probe = None }

-- the name of c is forgotten
abbrev forgets : Reply
forgets = record (nothing 0) { forgotten = record { items = (c ∷ []) ∷ [] } }

-- a probe begins at the greatest moment that was handed in so far
begins : watch_behind of_c 1020 unwatched (ticks 1000) starts ≡ probed
unfolding watch_behind probe_behind ping_of_start suspected_behind record_changed
begins = refl

-- a probe of another ends that of c
begins_another : probe_behind (d ∷ []) 1020 probe_7 (ticks 1020) starts ≡ None
unfolding probe_behind ping_of_start
begins_another = refl

-- the end of a round, an opening and a Leave end it
end : map (λ r. probe_behind (c ∷ []) 2020 probe_7 (ticks 2020) r) (ends ∷ fires 2020 Direct ∷ nothing 0 ∷ [])
    ≡ None ∷ probe_7 ∷ probe_7 ∷ []
unfolding probe_behind ping_of_start
end = refl

end_by_event : map (λ e. probe_behind (c ∷ []) 2020 probe_7 e (nothing 0))
    (opening 2020 ∷ Leave 2020 [] ∷ hears None d Gossip [] ∷ [])
    ≡ None ∷ None ∷ probe_7 ∷ []
unfolding probe_behind ping_of_start
end_by_event = refl

-- c is suspected by its record, and until it has another, or is forgotten
by_record : map (λ status. suspected_behind (c ∷ []) true (changes status (nothing 0)))
    (Suspect (b ∷ []) ∷ Alive ∷ Failed ∷ [])
    ≡ true ∷ false ∷ false ∷ []
unfolding suspected_behind record_changed
by_record = refl

stays : map (λ before. suspected_behind (c ∷ []) before (nothing 0)) (true ∷ false ∷ []) ≡ true ∷ false ∷ []
unfolding suspected_behind record_changed
stays = refl

forgotten : map (λ before. suspected_behind (c ∷ []) before forgets) (true ∷ false ∷ []) ≡ false ∷ false ∷ []
unfolding suspected_behind record_changed
forgotten = refl

another_forgotten : suspected_behind (d ∷ []) true forgets ≡ true
unfolding suspected_behind record_changed
another_forgotten = refl

-- calm is who is neither suspected nor probed
calm : map is_calm (unwatched ∷ probed ∷ suspected ∷ record probed { is_suspected = true } ∷ [])
    ≡ true ∷ false ∷ false ∷ false ∷ []
calm = refl
