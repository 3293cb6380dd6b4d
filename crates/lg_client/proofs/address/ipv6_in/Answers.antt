use Rattle.std.proofs.Common.{◌∙◌, ap, Some}
use Rattle.lg_text.proofs.IpLaws.{spelled-read, unspelled-unread}
use Rattle.lg_client.proofs.address.ipv6_in.Goals as goal

pub returns-in-Ok : goal.returns-in-Ok
returns-in-Ok c = ap Some c.octets.ensures ∙ spelled-read c.args.text.now c.in-Ok.ip c.in-Ok.ensures

pub returns-in-Err : goal.returns-in-Err
returns-in-Err c = unspelled-unread c.args.text.now c.in-Err.ensures
