-- What a keyed link does with what came over the link inside it.
use Rattle.std.specs.Prelude.{◌≡◌, ℕ, ◌+◌, ◌-◌, ◌^◌, min}
use Rattle.lg_seal.specs.declared.fault.SealFault.{SealFault}
use Rattle.lg_seal.specs.declared.fault.SealFault.TheVariants.{Unsigned, Forged}
use Rattle.lg_seal.specs.declared.key.Keys.{Keys}
use Rattle.lg_seal.specs.Meaning.Sealing.{IsRefused, IsSealed}
use Rattle.lg_turns.specs.declared.keyed.Counted.{Counted}
use Rattle.lg_turns.specs.Meaning.Links.{LinkEvent}
use Rattle.lg_turns.specs.Meaning.Links.LinkEvent.{Received, Silent, Failed}

-- one more, up to the greatest number of 64 bits
abbrev pub one_more : ℕ → ℕ
one_more count = min (count + 1) (2 ^ 64 - 1)

-- the counts when a datagram with this fault was dropped
abbrev pub counted_with : SealFault → Counted → Counted
counted_with Unsigned counted = record counted { unsigned = one_more counted.unsigned }
counted_with Forged counted = record counted { forged = one_more counted.forged }

-- What came over a keyed link in a call, by what came over the link inside it, and the counts before and after. A
-- datagram that is sealed with one of the keys comes as its packet. Any other is dropped and counted by its fault, and
-- nothing comes. If nothing came inside, or receiving failed, it is so for the keyed link too.
abbrev pub Opens : Keys → (inside came : LinkEvent) → (before after : Counted) → Type 0
Opens keys (Received source datagram) (Received from packet) before after =
    (from ≡ source) × IsSealed keys datagram packet × (after ≡ before)
Opens keys (Received source datagram) (Silent limit) before after =
    (fault : SealFault) × IsRefused keys datagram fault × (after ≡ counted_with fault before)
Opens keys (Silent waited) (Silent limit) before after = (limit ≡ waited) × (after ≡ before)
Opens keys Failed Failed before after = after ≡ before
Opens keys _ _ before after = ⊥
