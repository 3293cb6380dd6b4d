use Rattle.std.proofs.Common.{refl}
use Rattle.lg_http.proofs.own.OwnRefusal.text.Goals as goal

pub returns-in-BadRequest : goal.returns-in-BadRequest
returns-in-BadRequest c = rw c.in-BadRequest.is refl

pub returns-in-BodyTooLarge : goal.returns-in-BodyTooLarge
returns-in-BodyTooLarge c = rw c.in-BodyTooLarge.is refl

pub returns-in-TargetTooLong : goal.returns-in-TargetTooLong
returns-in-TargetTooLong c = rw c.in-TargetTooLong.is refl

pub returns-in-FieldsTooLarge : goal.returns-in-FieldsTooLarge
returns-in-FieldsTooLarge c = rw c.in-FieldsTooLarge.is refl

pub returns-in-UnknownCoding : goal.returns-in-UnknownCoding
returns-in-UnknownCoding c = rw c.in-UnknownCoding.is refl

pub returns-in-Internal : goal.returns-in-Internal
returns-in-Internal c = rw c.in-Internal.is refl
