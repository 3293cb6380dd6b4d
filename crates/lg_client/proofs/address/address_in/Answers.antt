use Rattle.std.proofs.Common.{refl}
use Rattle.lg_client.proofs.AddressLaws.{unspelled}
use Rattle.lg_client.proofs.address.address_in.Goals as goal

pub returns-in-None : goal.returns-in-None
returns-in-None c = (refl, unspelled _ _ c.as_bytes.ensures.value c.in-None.ensures)
