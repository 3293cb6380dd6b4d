-- A node that wasn't followed.
use Rattle.std.proofs.Common.{◌≡◌, ℕ, Bool, true, false, List, Option, Some, None}
use Rattle.lg_timing.specs.declared.config.Config.{Config}
use Rattle.lg_agent.specs.Meaning.Values.{PassValue}
use Rattle.lg_follow.specs.declared.watched.Watched.{Watched}
use Rattle.lg_node.specs.declared.node.NodeEnd.{NodeEnd}
use Rattle.lg_node.specs.declared.node.Settings.{Settings}
use Rattle.lg_node.specs.Meaning.Nodes.{IsRun, WatchesIf}

unwatched : (followed : Bool) (before after : PassValue) (held holds held' holds' : Option (List ℕ)) (end : Option Watched) → followed ≡ false → WatchesIf followed before after held holds end → WatchesIf followed before after held' holds' end
unwatched true before after held holds held' holds' end is watched = cc
unwatched false before after held holds held' holds' (Some end) is watched = watched
unwatched false before after held holds held' holds' None is watched = watched

-- nothing is said of the bytes of a writer
pub unfollowed : (config : Config) (settings : Settings) (until : ℕ) (held holds held' holds' : Option (List ℕ)) (records : Bool) (e : NodeEnd) → settings.follow ≡ false
    → IsRun config settings until held holds records e → IsRun config settings until held' holds' records e
unfollowed config settings until held holds held' holds' records e is run = record {
  start = run.start;
  receiver = run.receiver;
  ticker = run.ticker;
  reader = run.reader;
  status = run.status;
  recorder = run.recorder;
  recorded = run.recorded;
  worked =
      record {
        hears = run.worked.hears;
        hears' = run.worked.hears';
        sends = run.worked.sends;
        sends' = run.worked.sends';
        asker = run.worked.asker;
        watcher = run.worked.watcher;
        links = run.worked.links;
        looped = run.worked.looped;
        told = unwatched settings.follow run.worked.asker run.worked.watcher held holds held' holds' e.watched is run.worked.told;
        shown = run.worked.shown;
        read = run.worked.read;
      };
  closed = run.closed;
}
