-- What a node has done before its threads.
use Rattle.std.specs.Prelude.{◌≡◌, ℕ, false}
use Rattle.lg_timing.specs.declared.config.Config.{Config}
use Rattle.lg_agent.specs.Meaning.Values.{PassValue}
use Rattle.lg_turns.specs.Meaning.Asking.{Asked}
use Rattle.lg_turns.specs.Meaning.Turns.{LinkValue}
use Rattle.lg_node.specs.declared.node.Settings.{Settings}
use Rattle.lg_node.specs.Meaning.Nodes.{fresh_own, AreLinks}

-- A node has handed out the passes of an agent that was opened at a moment, made its links, and asked the seeds: one
-- pass asked them, over the link of the ticking loop.
pub record HasBegun
    (config : Config) (settings : Settings) (start : ℕ) (hears between : LinkValue)
    (receiver ticker asker status recorder : PassValue) (unsent : ℕ)
    : Type 0 where
  pub sends : LinkValue
  pub links : AreLinks settings hears sends
  pub asked : Asked false settings.seeds.items sends between (fresh_own config start 3) asker unsent
  pub receiver_is : receiver ≡ fresh_own config start 1
  pub ticker_is : ticker ≡ fresh_own config start 2
  pub status_is : status ≡ fresh_own config start 4
  pub recorder_is : recorder ≡ fresh_own config start 5
