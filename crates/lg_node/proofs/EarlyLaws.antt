-- What a node is refused for before its loops.
use Rattle.std.proofs.Common.{ℕ, List, [], ◌∷◌, refl, ◌∙◌, inl, inr}
use mathlib.Core.List.{IsPrefix}
use Rattle.lg_timing.specs.declared.config.Config.{Config}
use Rattle.lg_detector.specs.declared.event.Event.{Event}
use Rattle.lg_detector.specs.declared.event.Event.TheVariants.{Open}
use Rattle.lg_agent.specs.declared.refusal.Refusal.{Refusal}
use Rattle.lg_agent.specs.declared.refusal.Refusal.TheVariants.{BadPacket, NoMemory, HistoryFull, Behind, NoPlace, NoView}
use Rattle.lg_agent.specs.Meaning.Calls.{IsRefusal}
use Rattle.lg_agent.proofs.LedgerLaws.{limit-front}
use Rattle.lg_node.specs.Meaning.Nodes.{IsRefusedEarly}

-- a call of a pass that has seen the opening is refused by the limit of its configuration
pub refused_early : (config : Config) (start : ℕ) (seen : List Event) (e : Refusal) → IsPrefix (Open start config ∷ []) seen → IsRefusal seen e → IsRefusedEarly config e
refused_early config start seen (BadPacket fault) begins is = is
refused_early config start seen NoMemory begins is = tt
refused_early config start seen (HistoryFull limit) begins (inl is) = inl (is ∙ limit-front (Open start config ∷ []) seen refl begins)
refused_early config start seen (HistoryFull limit) begins (inr is) = inr is
refused_early config start seen (Behind before here) begins is = is.1
refused_early config start seen NoPlace begins is = tt
refused_early config start seen NoView begins is = is
