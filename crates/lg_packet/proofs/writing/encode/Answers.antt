use Rattle.std.proofs.Common.{rules, arith, ◌≡◌, ◌∙◌, sym, take}
use Rattle.std.specs.List.{AllByRecursion}
use Rattle.std.proofs.lemmas.Grind.{common_steps}
use Rattle.lg_rules.specs.Meaning.Version.{most_claims_of}
use Rattle.lg_packet.specs.Meaning.Spelling.{spelling, IsClaim, IsPacket, Spells, spellable, spellable_claim}
use Rattle.lg_packet.proofs.Packets.{whole_again}
use Rattle.lg_packet.proofs.Spellable.{spellable-spelling, spellable_fit}
use Rattle.lg_packet.proofs.writing.encode.Goals as goal

pub returns : goal.returns
unfolding spelling
returns c =
    let p = c.args.packet.now in
    let v = p.version in
    let each : AllByRecursion (λ c. IsClaim v (spellable_claim v c)) (take (most_claims_of v) p.claims.items) = search rules in
    let packet : IsPacket (spellable p) = record { group = c.put_group.ensures.group; sender = c.put_name.ensures.name; body = c.put_body.ensures.body; claims = spellable_fit v p.claims.items each } in
    let same : c.put_claims.new.out.items ≡ spelling p = grind (arith, common_steps) in
    let spells : Spells c.put_claims.new.out.items (spellable p) = (packet, same ∙ sym (spellable-spelling p)) in
    record { exact = same; spells = spells; read_back = whole_again c.put_claims.new.out.items (spellable p) spells }
