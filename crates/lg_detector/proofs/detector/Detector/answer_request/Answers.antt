use Rattle.std.proofs.Common.{◌≡◌, false, rules}
use Rattle.lg_rules.specs.Meaning.Rows.{name_cmp, is_same}
use Rattle.lg_detector.specs.Meaning.Relaying.{is_full}
use Rattle.lg_detector.proofs.detector.Detector.answer_request.Goals as goal

pub returns-else-len-eq-MAX_RELAYS-clause-sends : goal.returns-else-len-eq-MAX_RELAYS-clause-sends
returns-else-len-eq-MAX_RELAYS-clause-sends c =
    let s = c.args.self.now in
    let other : is_same name_cmp c.args.target.now s.membership.own.name ≡ false = search rules in
    let room : is_full s.relays ≡ false = search rules in
    rw (other, room) c.relay_ping.ensures.sends
