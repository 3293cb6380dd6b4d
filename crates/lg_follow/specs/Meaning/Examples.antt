-- Worked texts of a watcher. b is opened at 0, hears of c, then that a suspects it, and then that it has failed. Or it
-- forgets c, one second after it heard that c has failed.
use Rattle.std.specs.Prelude.{⊤, ◌≡◌, List, [], ◌∷◌, ◌++◌, None, codes, refl}
use Rattle.std.specs.Fmt.{digits}
use Rattle.lg_rules.specs.declared.version.Version.TheVariants.{Three}
use Rattle.lg_timing.specs.Meaning.Config.{defaults}
use Rattle.lg_packet.specs.declared.packet.Body.TheVariants.{Gossip}
use Rattle.lg_changes.specs.Meaning.Changes.{changes_after}
use Rattle.lg_detector.specs.declared.event.Event.{Event}
use Rattle.lg_detector.specs.declared.event.Event.TheVariants.{Open}
use Rattle.lg_detector.specs.Meaning.Examples.{by_computing, a, b, c, d, at, alive, failed, suspect}
use Rattle.lg_detector.specs.Meaning.Examples.{opening, pings, says_in, seeded, ticks}
use Rattle.lg_detector.specs.Meaning.Step.{view_after}
use Rattle.lg_view.specs.Meaning.Changes.{changed_at, changes_at, changes_behind, forgotten_in}
use Rattle.lg_follow.specs.Meaning.Lines.{told_lines, forgotten_line, changed_lines, missed_line, stood_line}
use Rattle.lg_follow.specs.Meaning.Sights.{alter_each, behind_text, changes_between, later_text, sights_text}

-- what the rows have to unfold
unfoldable by_telling : ⊤
unfolding by_computing changed_at changes_at changes_behind changes_after told_lines changed_lines later_text
    sights_text forgotten_in
by_telling = tt

-- the events up to each of these packets
abbrev known : List Event
known = opening 0 ∷ pings 5 1 b (alive c 0 ∷ []) ∷ []

abbrev accused : List Event
accused = known ++ pings 20 2 b (suspect c 0 a ∷ []) ∷ []

abbrev gone : List Event
gone = accused ++ pings 30 3 b (failed c 0 ∷ []) ∷ []

it_is_alone : sights_text ((opening 0 ∷ []) ∷ []) ≡ codes "0 record b alive 0 127.0.0.1:7000\n"
unfolding by_telling
it_is_alone = refl

-- the first sight tells each member, and the later ones each change behind the one before
suspected_and_then_failed :
    sights_text (known ∷ accused ∷ gone ∷ [])
    ≡ codes "5 record b alive 0 127.0.0.1:7000\n5 record c alive 0 127.0.0.1:7000\n"
    ++ codes "20 record c suspect 0 127.0.0.1:7000 by a\n30 record c failed 0 127.0.0.1:7000\n"
unfolding by_telling
suspected_and_then_failed = refl

-- so it makes no difference how many looks there were
one_look_fewer : sights_text (known ∷ gone ∷ []) ≡ sights_text (known ∷ accused ∷ gone ∷ [])
unfolding by_telling
one_look_fewer = refl

-- b has the seed c. Between two looks c is suspected, and refutes it 10 ms later: both are told.
came_and_went :
    sights_text
    ((seeded ∷ [])
    ∷ (seeded ∷ pings 400 1 b (suspect c 0 d ∷ []) ∷ pings 410 2 b (alive c 1 ∷ []) ∷ [])
    ∷ [])
    ≡ codes "0 record b alive 0 127.0.0.1:7000\n0 record c alive 0 127.0.0.1:7000\n"
    ++ codes "400 record c suspect 0 127.0.0.1:7000 by d\n410 record c alive 1 127.0.0.1:7000\n"
unfolding by_telling
came_and_went = refl

-- a look behind which nothing changed tells nothing
nothing_changed : sights_text (known ∷ known ∷ []) ≡ sights_text (known ∷ [])
unfolding by_telling
nothing_changed = refl

-- b has the seed c and forgets who is gone after one second. c fails at 10, and the second tick at 1010 forgets it: the
-- first starts a round.
abbrev opened_to_forget : Event
opened_to_forget =
    Open 0
    (record (defaults (b ∷ []) (at 7000)) {
      wire = 3;
      gossip_ms = 0;
      forget_ms = 1000;
      seeds = record { items = record { name = c ∷ []; addr = at 7000 } ∷ [] };
    })

abbrev without_a_word : List Event
without_a_word = opened_to_forget ∷ []

abbrev dead : List Event
dead = without_a_word ++ says_in Three 10 Gossip (failed c 0 ∷ []) ∷ ticks 10 ∷ []

abbrev forgetful : List Event
forgetful = dead ++ ticks 1010 ∷ ticks 1010 ∷ []

abbrev reminded : List Event
reminded = forgetful ++ says_in Three 1020 Gossip (alive c 0 ∷ []) ∷ []

failed_and_then_forgotten :
    sights_text (without_a_word ∷ dead ∷ forgetful ∷ [])
    ≡ codes "0 record b alive 0 127.0.0.1:7000\n0 record c alive 0 127.0.0.1:7000\n"
    ++ codes "10 record c failed 0 127.0.0.1:7000\n1010 forgotten c\n"
unfolding by_telling
failed_and_then_forgotten = refl

-- its record is taken out of the table
its_record_is_gone : alter_each (changes_between dead forgetful) (failed c 0 ∷ []) ≡ []
unfolding by_telling
its_record_is_gone = refl

-- Between two looks c is forgotten, and known again 10 ms later: both are told, and lead to its new record.
forgotten_and_known_again :
    sights_text (without_a_word ∷ dead ∷ reminded ∷ [])
    ≡ codes "0 record b alive 0 127.0.0.1:7000\n0 record c alive 0 127.0.0.1:7000\n"
    ++ codes "10 record c failed 0 127.0.0.1:7000\n1010 forgotten c\n1020 record c alive 0 127.0.0.1:7000\n"
unfolding by_telling
forgotten_and_known_again = refl

leads_to_both : alter_each (changes_between dead reminded) (view_after dead) ≡ alive b 0 ∷ alive c 0 ∷ []
unfolding by_telling
leads_to_both = refl

-- if changes are no longer kept, the line before the members says so
told_anew :
    behind_text gone None
    ≡ codes "30 missed\n30 record b alive 0 127.0.0.1:7000\n30 record c failed 0 127.0.0.1:7000\n"
unfolding by_telling
told_anew = refl

missed_by_then : missed_line 30 ≡ codes "30 missed\n"
unfolding digits
missed_by_then = refl

forgotten_by_then : forgotten_line 90000 (c ∷ []) ≡ codes "90000 forgotten c\n"
unfolding digits
forgotten_by_then = refl

last_line : stood_line 1207 150 ≡ codes "1207 stood-still 150\n"
unfolding digits
last_line = refl
