-- What a status server did beside the loops of a node.
use Rattle.std.proofs.Common.{◌≡◌, List, Option, ℕ, subst}
use Rattle.lg_timing.specs.declared.config.Config.{Config}
use Rattle.lg_agent.specs.Meaning.Values.{PassValue}
use Rattle.lg_http.specs.declared.hosts.Hosts.{Hosts}
use Rattle.lg_http.specs.declared.server.Server.{Server}
use Rattle.lg_answers.specs.declared.snapshot.ShownConfig.{ShownConfig}
use Rattle.lg_status_server.specs.declared.serving.Served.{Served}
use Rattle.lg_status_server.specs.declared.serving.Served.TheVariants as served
use Rattle.lg_status_server.specs.Meaning.Served.{ServedAs}
use Rattle.lg_node.specs.declared.node.Settings.{Settings}
use Rattle.lg_node.specs.Meaning.Starts.{hosts_of, Shows}
use Rattle.lg_node.specs.Meaning.Nodes.{DidServe}

-- a server that shows the configuration and the settings of a node serves the node
pub did_serve : (config : Config) (settings : Settings) (before after : PassValue) (end : Served) (name : List ℕ) (shown : ShownConfig) (folder : Option (List ℕ)) (hosts : Hosts) (server server' : Server)
    → name ≡ config.name → folder ≡ settings.record_folder → hosts ≡ hosts_of settings.status → Shows config settings shown
    → ServedAs end name shown settings.leave folder hosts before after server server'
    → DidServe config settings before after server server' end
did_serve config settings before after (served.Refused refusal) name shown folder hosts server server' named held are shows did = (did.1, did.2)
did_serve config settings before after (served.Ended end counts) name shown folder hosts server server' named held are shows did = (
  shown,
  shows,
  subst (λ (h : Hosts). ServedAs (served.Ended end counts) config.name shown settings.leave settings.record_folder h before after server server') are
      (subst (λ (f : Option (List ℕ)). ServedAs (served.Ended end counts) config.name shown settings.leave f hosts before after server server') held
      (subst (λ (n : List ℕ). ServedAs (served.Ended end counts) n shown settings.leave folder hosts before after server server') named did)),
)
