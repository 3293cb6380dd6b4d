-- What the status server of a node shows: a list of events of the agent, its changes, and the answers made of them.
use Rattle.std.specs.Prelude.{◌≡◌, ◌≤◌, ℕ, Bool, true, List, length, Option, Some, None, option_map}
use mathlib.Core.List.{IsPrefix}
use Rattle.lg_changes.specs.declared.ring.Changes.{Changes}
use Rattle.lg_changes.specs.Meaning.Changes.{last_version}
use Rattle.lg_changes.specs.Meaning.Kept.{KeepsNewest}
use Rattle.lg_detector.specs.declared.event.Event.{Event}
use Rattle.lg_detector.specs.Meaning.Step.{view_after, own_standing_after, is_accepted}
use Rattle.lg_view.specs.Meaning.Changes.{changes_of}
use Rattle.lg_agent.specs.Meaning.Values.{PassValue}
use Rattle.lg_follow.specs.Meaning.Sights.{OnlyLooked}
use Rattle.lg_http.specs.declared.site.HttpAnswer.{HttpAnswer}
use Rattle.lg_http.specs.Meaning.Asked.{AskedValue}
use Rattle.lg_answers.specs.declared.snapshot.ShownConfig.{ShownConfig}
use Rattle.lg_answers.specs.declared.snapshot.Snapshot.{Snapshot}
use Rattle.lg_answers.specs.Meaning.Answers.{answer_to, answer_value}
use Rattle.lg_answers.specs.Meaning.Leaving.{act_answer}
use Rattle.lg_status_server.specs.Meaning.Explaining.{Explains, asked_of}
use Rattle.lg_status_server.specs.declared.looked.Looked.{Looked}
use Rattle.lg_status_server.specs.declared.looked.Looked.TheVariants.{Same, Taken, Refused}
use Rattle.lg_status_server.specs.declared.reading.Reading.{Reading}
use Rattle.lg_status_server.specs.Meaning.Readings.{HasRead}

-- A snapshot shows the members and this member after a list of events, and its version is the length of the list.
pub record ShowsEvents (s : Snapshot) (events : List Event) : Type 0 where
  pub version_is : s.version ≡ length events
  pub records_are : s.records.items ≡ view_after events
  pub score_is : s.score ≡ (own_standing_after events).score
  pub incarnation_is : s.incarnation ≡ (own_standing_after events).number
  pub ousted_is : s.ousted ≡ (own_standing_after events).ousted

-- A snapshot shows all that it has: the name of the member, the members after a list of events, and what was read of
-- the clock and of the counters.
pub record IsShown (s : Snapshot) (name : List ℕ) (events : List Event) : Type 0 where
  pub name_is : s.name ≡ name
  pub shows : ShowsEvents s events
  pub reading : Reading
  pub read : HasRead s reading

-- What contracts see of a site: its pass, the name of its member, what it shows, the changes that it keeps, the
-- configuration, whether its node may be asked to leave, the folder of the node's recording if it has one, the version
-- of the newest change, and what came of its last look.
pub record SiteValue : Type 0 where
  pub pass : PassValue
  pub name : List ℕ
  pub snapshot : Snapshot
  pub changes : Changes
  pub config : ShownConfig
  pub leave : Bool
  pub folder : Option (List ℕ)
  pub changed : ℕ
  pub looked : Looked

-- What is shown, by what came of the last look: all that the pass has seen, unless the look was refused.
abbrev pub IsNewest : Looked → List Event → List Event → Type 0
IsNewest Same shown seen = shown ≡ seen
IsNewest Taken shown seen = shown ≡ seen
IsNewest Refused shown seen = Unit {0}

-- A site shows this list of events, which is accepted and begins what its pass has seen. It keeps the newest of all
-- changes of these events, each with the version and the moment of its own event, and `changed` is the version of the
-- newest change.
pub record SiteShows (site : SiteValue) (shown : List Event) : Type 0 where
  pub accepted : is_accepted shown ≡ true
  pub begins : IsPrefix shown site.pass.seen
  pub is_shown : IsShown site.snapshot site.name shown
  pub newest : IsNewest site.looked shown site.pass.seen
  pub kept : KeepsNewest site.changes (changes_of shown)
  pub changed_is : site.changed ≡ last_version (changes_of shown)

-- A site after its first look: it has this name and this configuration, its node may be asked to leave or may not, its
-- recording is in this folder if it has one, and it shows all that its pass has seen.
pub record IsFirst
    (site : SiteValue) (name : List ℕ) (config : ShownConfig) (leave : Bool) (folder : Option (List ℕ))
    : Type 0 where
  pub name_is : site.name ≡ name
  pub config_is : site.config ≡ config
  pub leave_is : site.leave ≡ leave
  pub folder_is : site.folder ≡ folder
  pub shows : SiteShows site site.pass.seen

-- What a site answers of what it shows: the text of that, of all changes of the events that it shows, and of the
-- configuration.
pub record IsShownAnswer
    (site : SiteValue) (path : List ℕ) (query : Option (List ℕ)) (answer : HttpAnswer)
    : Type 0 where
  pub shown : List Event
  pub shows : SiteShows site shown
  pub is : (events : List Event) → SiteShows site events
      → answer_value answer ≡ answer_to site.snapshot (changes_of events) site.config path query

-- the same by the member that is asked for, if the node's recording is asked for one
abbrev pub IsAnswerFor :
    Option (List ℕ) → SiteValue → List ℕ → Option (List ℕ) → HttpAnswer → Type 0
IsAnswerFor None site path query answer = IsShownAnswer site path query answer
IsAnswerFor (Some name) site path query answer = Explains name answer

-- What a site answers to a path and a query: what its recording tells of a member, if it has one and that is asked for,
-- and otherwise the text of what it shows.
abbrev pub IsAnswerOf : SiteValue → List ℕ → Option (List ℕ) → HttpAnswer → Type 0
IsAnswerOf site path query answer = IsAnswerFor (asked_of site.folder path query) site path query answer

-- What a site answers to a request whose method is neither GET nor HEAD: only one to leave has an answer.
abbrev pub IsActOf : SiteValue → AskedValue → Option HttpAnswer → Type 0
IsActOf site asked answer = option_map answer_value answer ≡ act_answer site.name site.leave asked

-- A later state of a site. Its pass made nothing but looks. The events that it shows begin with those that it showed
-- before, so their changes begin with the changes from before: none is lost, and none comes a second time. Its version
-- never falls, and its name, its configuration, whether its node may be asked to leave, and the folder of the recording
-- are as they were.
pub record IsLater (before after : SiteValue) : Type 0 where
  pub looked : OnlyLooked before.pass after.pass
  pub shows : (shown : List Event) → SiteShows before shown
      → (events : List Event) × IsPrefix shown events × SiteShows after events
  pub version_rises : before.snapshot.version ≤ after.snapshot.version
  pub name_is : after.name ≡ before.name
  pub config_is : after.config ≡ before.config
  pub leave_is : after.leave ≡ before.leave
  pub folder_is : after.folder ≡ before.folder
