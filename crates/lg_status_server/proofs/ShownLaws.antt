-- What a site shows after its first look, after a later look, and after a reading.
use Rattle.std.proofs.Common.{◌≡◌, ℕ, Bool, ◌≤◌, List, [], ◌++◌, length, refl, sym, ap, ◌∙◌, subst, inr, arith, true, length-append}
use Rattle.std.specs.Prelude.{filter, IfOk, Option, Result, Ok, Err}
use Rattle.std.specs.declared.alloc.AllocError.{AllocError}
use mathlib.Core.List.{IsPrefix}
use Rattle.std.proofs.lemmas.List.{length-map}
use Rattle.lg_changes.specs.declared.behind.Behind.{Behind}
use Rattle.lg_changes.specs.declared.change.Change.{Change}
use Rattle.lg_changes.specs.declared.ring.Changes.{Changes}
use Rattle.lg_changes.specs.Meaning.Changes.{is_after, last_version}
use Rattle.lg_changes.specs.Meaning.Kept.{HasBehind, KeepsNewest}
use Rattle.lg_counters.specs.declared.counts.Drops.{Drops}
use Rattle.lg_counters.specs.Meaning.Faults.{AreOfFaults}
use Rattle.lg_detector.specs.declared.event.Event.{Event}
use Rattle.lg_detector.specs.Meaning.Step.{is_accepted}
use Rattle.lg_view.specs.Meaning.Changes.{changes_behind, changes_of}
use Rattle.lg_view.proofs.ChangeLaws.{changes_grow}
use Rattle.lg_view.proofs.Fronts.{prefix_whole}
use Rattle.lg_agent.specs.Meaning.Values.{PassValue}
use Rattle.lg_agent.specs.Meaning.Calls.{IsLook}
use Rattle.lg_follow.specs.Meaning.Sights.{OnlyLooked}
use Rattle.lg_follow.proofs.SightLaws.{prefix_itself, prefix_through, look_through, looked_prefix, looked_through}
use Rattle.lg_http.specs.declared.site.HttpAnswer.{HttpAnswer}
use Rattle.lg_answers.specs.declared.snapshot.ShownConfig.{ShownConfig}
use Rattle.lg_answers.specs.declared.snapshot.Snapshot.{Snapshot}
use Rattle.lg_answers.specs.Meaning.Answers.{answer_to, answer_value}
use Rattle.lg_status_server.specs.declared.looked.Looked.{Looked}
use Rattle.lg_status_server.specs.declared.looked.Looked.TheVariants.{Same, Taken, Refused}
use Rattle.lg_status_server.specs.declared.reading.Reading.{Reading}
use Rattle.lg_status_server.specs.Meaning.Readings.{HasRead}
use Rattle.lg_status_server.specs.Meaning.Shown.{IsNewest, ShowsEvents, IsShown, SiteShows, SiteValue, IsShownAnswer, IsLater}
use Rattle.lg_status_server.specs.Support.Showing.{IsSite, SameLook, SameReading, KeepsOn, TakesLook, LeavesLook, LooksAs}

prefix_short : (xs ys : List Event) → IsPrefix xs ys → length xs ≤ length ys
prefix_short xs ys p = omega (arith, length-append xs p.0, ap length p.1)

version_short : (site : SiteValue) (shown : List Event) → SiteShows site shown → site.snapshot.version ≤ length site.pass.seen
version_short site shown shows =
    omega (arith, shows.is_shown.shows.version_is, prefix_short shown site.pass.seen shows.begins)

-- What `catch_up` says of a ring.
abbrev CatchesUp : Changes → Changes → Behind → Type 0
CatchesUp old new found =
    (all more : List Change) → (version : ℕ) → KeepsNewest old all → filter (is_after version) (all ++ more) ≡ more
    → HasBehind found version (all ++ more) → KeepsNewest new (all ++ more)

-- A ring that kept the changes of a beginning of some events, and caught up with those behind its length.
pub kept_on : (old new : Changes) (found : Behind) (shown events : List Event) → CatchesUp old new found
    → HasBehind found (length shown) (changes_of events) → KeepsOn old new shown events
kept_on old new found shown events catches has grows kept =
    let more : List Change = filter (is_after (length shown)) (changes_of events) in
    let grow : changes_of events ≡ changes_of shown ++ more = changes_grow shown events grows in
    subst (λ (all : List Change). KeepsNewest new all) (sym grow)
    (catches (changes_of shown) more (length shown) kept
    (ap (filter (is_after (length shown))) (sym grow))
    (subst (λ (all : List Change). HasBehind found (length shown) all) grow has))

-- A ring with no changes, which keeps those of no events.
pub kept_first : (old new : Changes) (events : List Event) → KeepsNewest old [] → KeepsOn old new [] events → KeepsNewest new (changes_of events)
unfolding changes_behind
kept_first old new events none on = on (events, refl) none

-- a snapshot that shows a reading has a row for each fault
rows_of : (rows : List Drops) → AreOfFaults rows → length rows ≡ 13
rows_of rows are = sym (length-map rows (λ row. row.fault.now)) ∙ ap length are

rows_read : (s : Snapshot) (reading : Reading) → HasRead s reading → length s.dropped.items ≡ 13
rows_read s reading read = rows_of s.dropped.items read.faults_are

leaves_through : (p q p' : PassValue) (s s' : Snapshot) (c c' : Changes) → IsLook p q → LeavesLook q p' s s' c c' → LeavesLook p p' s s' c c'
leaves_through p q p' s s' c c' look went = record {
  looked = looked_through p q p' (inr look) went.looked;
  snapshot = went.snapshot;
  changes = went.changes;
}

-- a look behind another one that only told how many events there are
pub looks_through : (r : Looked) (p q p' : PassValue) (s s' : Snapshot) (c c' : Changes)
    → IsLook p q → LooksAs r q p' s s' c c' → LooksAs r p p' s s' c c'
looks_through Same p q p' s s' c c' look went = (leaves_through p q p' s s' c c' look went.0, went.1)
looks_through Taken p q p' s s' c c' look went = record {
  look = look_through p q p' look went.look;
  shows = went.shows;
  same = went.same;
  kept = went.kept;
}
looks_through Refused p q p' s s' c c' look went = leaves_through p q p' s s' c c' look went

-- the version that a site tells is that of the newest change of a ring
abbrev TellsLast : Changes → ℕ → Type 0
TellsLast ring changed = (all : List Change) → KeepsNewest ring all → changed ≡ last_version all

-- What a site shows after its first look.
pub shows_first : (pass : PassValue) (name : List ℕ) (config : ShownConfig) (leave : Bool) (folder : Option (List ℕ)) (snapshot : Snapshot) (changes : Changes) (changed : ℕ)
    → is_accepted pass.seen ≡ true → IsShown snapshot name pass.seen → KeepsNewest changes (changes_of pass.seen) → TellsLast changes changed
    → SiteShows (record { pass = pass; name = name; snapshot = snapshot; changes = changes; config = config; leave = leave; folder = folder; changed = changed; looked = Taken }) pass.seen
shows_first pass name config leave folder snapshot changes changed accepted shown kept tells = record {
  accepted = accepted;
  begins = prefix_itself pass.seen;
  is_shown = shown;
  newest = refl;
  kept = kept;
  changed_is = tells (changes_of pass.seen) kept;
}

-- what a site shows is all that its pass has seen, if that is as many events
shown_all : (site : SiteValue) (p' : PassValue) (shown : List Event) → SiteShows site shown
    → IsPrefix site.pass.seen p'.seen → site.snapshot.version ≡ length p'.seen → shown ≡ p'.seen
shown_all site p' shown shows more e =
    prefix_whole shown p'.seen (prefix_through shown site.pass.seen p'.seen shows.begins more)
    (omega (arith, shows.is_shown.shows.version_is, e))

-- A look that showed nothing, whatever is said of it.
shows_left : (r : Looked) (site : SiteValue) (p' : PassValue) (s' : Snapshot) (c' : Changes) (changed' : ℕ)
    → LeavesLook site.pass p' site.snapshot s' site.changes c' → TellsLast c' changed'
    → (shown : List Event) → SiteShows site shown → IsNewest r shown p'.seen
    → SiteShows (record site { pass = p'; snapshot = s'; changes = c'; changed = changed'; looked = r }) shown
shows_left r site p' s' c' changed' left tells shown shows newest =
    let kept : KeepsNewest c' (changes_of shown) = subst (λ (c : Changes). KeepsNewest c (changes_of shown)) (sym left.changes) shows.kept in
    record {
      accepted = shows.accepted;
      begins = prefix_through shown site.pass.seen p'.seen shows.begins (looked_prefix site.pass p' left.looked);
      is_shown = subst (λ (s : Snapshot). IsShown s site.name shown) (sym left.snapshot) shows.is_shown;
      newest = newest;
      kept = kept;
      changed_is = tells (changes_of shown) kept;
    }

-- A look that showed what it found.
shows_taken : (site : SiteValue) (p' : PassValue) (s' : Snapshot) (c' : Changes) (changed' : ℕ)
    → TakesLook site.pass p' site.snapshot s' site.changes c' → TellsLast c' changed'
    → (shown : List Event) → SiteShows site shown
    → IsPrefix shown p'.seen × SiteShows (record site { pass = p'; snapshot = s'; changes = c'; changed = changed'; looked = Taken }) p'.seen
shows_taken site p' s' c' changed' takes tells shown shows =
    let grows : IsPrefix shown p'.seen = prefix_through shown site.pass.seen p'.seen shows.begins takes.look.begins in
    let kept : KeepsNewest c' (changes_of p'.seen) = takes.kept shown shows.is_shown.shows.version_is grows shows.kept in (
      grows,
      record {
        accepted = takes.look.accepted;
        begins = prefix_itself p'.seen;
        is_shown = record {
          name_is = takes.same.name ∙ shows.is_shown.name_is;
          shows = takes.shows;
          reading = shows.is_shown.reading;
          read = takes.same.read shows.is_shown.reading shows.is_shown.read;
        };
        newest = refl;
        kept = kept;
        changed_is = tells (changes_of p'.seen) kept;
      },
    )

-- a site shows events that begin with these
abbrev ShowsOn : SiteValue → List Event → Type 0
ShowsOn site shown = (events : List Event) × IsPrefix shown events × SiteShows site events

-- what a site shows after a look
shows_on : (r : Looked) (site : SiteValue) (p' : PassValue) (s' : Snapshot) (c' : Changes) (changed' : ℕ)
    → LooksAs r site.pass p' site.snapshot s' site.changes c' → TellsLast c' changed'
    → (shown : List Event) → SiteShows site shown
    → ShowsOn (record site { pass = p'; snapshot = s'; changes = c'; changed = changed'; looked = r }) shown
shows_on Same site p' s' c' changed' went tells shown shows =
    let newest = shown_all site p' shown shows (looked_prefix site.pass p' went.0.looked) went.1 in
    (shown, prefix_itself shown, shows_left Same site p' s' c' changed' went.0 tells shown shows newest)
shows_on Taken site p' s' c' changed' went tells shown shows =
    let taken = shows_taken site p' s' c' changed' went tells shown shows in
    (p'.seen, taken.0, taken.1)
shows_on Refused site p' s' c' changed' went tells shown shows =
    (shown, prefix_itself shown, shows_left Refused site p' s' c' changed' went tells shown shows tt)

-- the same members, and a new reading
shows_same : (old new : Snapshot) (events : List Event) → SameLook old new → ShowsEvents old events → ShowsEvents new events
shows_same old new events same is = record {
  version_is = same.version ∙ is.version_is;
  records_are = ap (λ rs. rs.items) same.records ∙ is.records_are;
  score_is = same.score ∙ is.score_is;
  incarnation_is = same.incarnation ∙ is.incarnation_is;
  ousted_is = same.ousted ∙ is.ousted_is;
}

shows_read : (site : SiteValue) (new : Snapshot) (reading : Reading) → SameLook site.snapshot new → HasRead new reading
    → (shown : List Event) → SiteShows site shown → SiteShows (record site { snapshot = new }) shown
shows_read site new reading same read shown shows = record {
  accepted = shows.accepted;
  begins = shows.begins;
  is_shown = record {
    name_is = same.name ∙ shows.is_shown.name_is;
    shows = shows_same site.snapshot new shown same shows.is_shown.shows;
    reading = reading;
    read = read;
  };
  newest = shows.newest;
  kept = shows.kept;
  changed_is = shows.changed_is;
}

-- a look only looked, and the version that is shown doesn't fall
looks_only : (r : Looked) (p p' : PassValue) (s s' : Snapshot) (c c' : Changes) → LooksAs r p p' s s' c c' → OnlyLooked p p'
looks_only Same p p' s s' c c' went = went.0.looked
looks_only Taken p p' s s' c c' went = inr went.look
looks_only Refused p p' s s' c c' went = went.looked

left_version : (p p' : PassValue) (s s' : Snapshot) (c c' : Changes) → LeavesLook p p' s s' c c' → s.version ≤ s'.version
left_version p p' s s' c c' left = omega (arith, ap (λ (x : Snapshot). x.version) left.snapshot)

rises_on : (r : Looked) (site : SiteValue) (p' : PassValue) (s' : Snapshot) (c' : Changes) → IsSite site
    → LooksAs r site.pass p' site.snapshot s' site.changes c' → site.snapshot.version ≤ s'.version
rises_on Same site p' s' c' is went = left_version site.pass p' site.snapshot s' site.changes c' went.0
rises_on Taken site p' s' c' is went =
    omega (arith, went.shows.version_is, version_short site is.0 is.1, prefix_short site.pass.seen p'.seen went.look.begins)
rises_on Refused site p' s' c' is went = left_version site.pass p' site.snapshot s' site.changes c' went

-- a site after a look and a reading
abbrev pub after_look : Looked → SiteValue → PassValue → Snapshot → Changes → ℕ → SiteValue
after_look r site p' new c' changed' = record site { pass = p'; snapshot = new; changes = c'; changed = changed'; looked = r }

shows_both : (r : Looked) (site : SiteValue) (p' : PassValue) (s' new : Snapshot) (c' : Changes) (changed' : ℕ) (reading : Reading)
    → LooksAs r site.pass p' site.snapshot s' site.changes c' → TellsLast c' changed' → SameLook s' new → HasRead new reading
    → (shown : List Event) → SiteShows site shown → ShowsOn (after_look r site p' new c' changed') shown
shows_both r site p' s' new c' changed' reading went tells same read shown shows =
    let on = shows_on r site p' s' c' changed' went tells shown shows in
    (on.0, on.1, shows_read (after_look r site p' s' c' changed') new reading same read on.0 on.2)

pub later_look : (r : Looked) (site : SiteValue) (p' : PassValue) (s' new : Snapshot) (c' : Changes) (changed' : ℕ) (reading : Reading)
    → IsSite site → LooksAs r site.pass p' site.snapshot s' site.changes c' → TellsLast c' changed' → SameLook s' new → HasRead new reading
    → IsLater site (after_look r site p' new c' changed')
later_look r site p' s' new c' changed' reading is went tells same read = record {
  looked = looks_only r site.pass p' site.snapshot s' site.changes c' went;
  shows = shows_both r site p' s' new c' changed' reading went tells same read;
  version_rises = omega (arith, rises_on r site p' s' c' is went, same.version);
  name_is = refl;
  config_is = refl;
  leave_is = refl;
  folder_is = refl;
}

pub site_look : (r : Looked) (site : SiteValue) (p' : PassValue) (s' new : Snapshot) (c' : Changes) (changed' : ℕ) (reading : Reading)
    → IsSite site → LooksAs r site.pass p' site.snapshot s' site.changes c' → TellsLast c' changed' → SameLook s' new → HasRead new reading
    → IsSite (after_look r site p' new c' changed')
site_look r site p' s' new c' changed' reading is went tells same read =
    let both = shows_both r site p' s' new c' changed' reading went tells same read is.0 is.1 in
    (both.0, both.2)

rows_left : (site : SiteValue) (s' : Snapshot) → IsSite site → s' ≡ site.snapshot → length s'.dropped.items ≡ 13
rows_left site s' is same = ap (λ (s : Snapshot). length s.dropped.items) same ∙ rows_read site.snapshot is.1.is_shown.reading is.1.is_shown.read

-- a site has a row for each fault, also after a look
rows_look : (r : Looked) (site : SiteValue) (p' : PassValue) (s' : Snapshot) (c' : Changes) → IsSite site
    → LooksAs r site.pass p' site.snapshot s' site.changes c' → length s'.dropped.items ≡ 13
rows_look Same site p' s' c' is went = rows_left site s' is went.0.snapshot
rows_look Taken site p' s' c' is went = rows_read s' is.1.is_shown.reading (went.same.read is.1.is_shown.reading is.1.is_shown.read)
rows_look Refused site p' s' c' is went = rows_left site s' is went.snapshot

-- a snapshot that had no members, and what a first look put into it
pub shown_first : (blank new : Snapshot) (name : List ℕ) (reading : Reading) (events : List Event)
    → blank.name ≡ name → HasRead blank reading → SameReading blank new → ShowsEvents new events → IsShown new name events
shown_first blank new name reading events named read same shows = record {
  name_is = same.name ∙ named;
  shows = shows;
  reading = reading;
  read = same.read reading read;
}

-- so these rows are as many as those of any snapshot of the site
pub rows_fit : (rows : List Drops) (r : Looked) (site : SiteValue) (p' : PassValue) (s' : Snapshot) (c' : Changes) → AreOfFaults rows → IsSite site
    → LooksAs r site.pass p' site.snapshot s' site.changes c' → length rows ≡ length s'.dropped.items
rows_fit rows r site p' s' c' are is went = rows_of rows are ∙ sym (rows_look r site p' s' c' is went)

-- an answer made of what a site has, whatever events it shows
pub answered : (site : SiteValue) (path : List ℕ) (query : Option (List ℕ)) (result : Result HttpAnswer AllocError) → IsSite site
    → ((all : List Change) → KeepsNewest site.changes all → IfOk result (λ answer. answer_value answer ≡ answer_to site.snapshot all site.config path query))
    → IfOk result (λ answer. IsShownAnswer site path query answer)
answered site path query (Ok answer) is makes = record {
  shown = is.0;
  shows = is.1;
  is = λ events shows. makes (changes_of events) shows.kept;
}
answered site path query (Err fault) is makes = tt
