use Rattle.std.proofs.Common.{◌∙◌, ap, Some}
use Rattle.std.specs.Net.Addr.{ipv6_segments}
use Rattle.lg_text.proofs.IpLaws.{spelled-read, unspelled-unread}
use Rattle.lg_text.proofs.ip.ipv6_in.Goals as goal

pub returns-in-Ok-clause-is : goal.returns-in-Ok-clause-is
returns-in-Ok-clause-is c = ap Some c.octets.ensures ∙ spelled-read c.args.text.now c.in-Ok.ip c.in-Ok.ensures.value

pub returns-in-Ok-clause-spelled : goal.returns-in-Ok-clause-spelled
returns-in-Ok-clause-spelled c = (ipv6_segments c.in-Ok.ip, c.in-Ok.ensures.value, c.octets.ensures)

pub returns-in-Err-clause-is : goal.returns-in-Err-clause-is
returns-in-Err-clause-is c = unspelled-unread c.args.text.now c.in-Err.ensures.value

pub returns-in-Err-clause-spelled : goal.returns-in-Err-clause-spelled
returns-in-Err-clause-spelled c = λ groups spelled. c.in-Err.ensures.value (record { segments = groups }) spelled
