use Rattle.std.proofs.Common.{◌≡◌, true, false, is_err, drop, refl, sym, ◌∙◌, arith}
use Rattle.std.proofs.lemmas.Grind.{common_steps}
use Rattle.lg_view.proofs.UpdateLaws.{room_kept, none_kept, ok_arm, err_arm}
use Rattle.lg_view.proofs.feed.Feed.append.Goals as goal

pub invariant_of-self : goal.invariant_of-self
invariant_of-self g c =
    let before = c.self.inside.writer in
    let after = c.append.new.self in
    let shown : after.desk.shown.value ≡ before.desk.shown.value = rw c.append.ensures.desk refl in
    let is : is_err c.append.result ≡ true = sym c.is_err.ensures.value ∙ c.if-is_err.true in (
      c.self.invariant.0 ∙ sym shown,
      c.self.invariant.1,
      none_kept before.desk.shown.value after.desk.shown.value (drop before.behind before.log.items) (drop after.behind after.log.items) shown (err_arm _ _ _ _ is c.append.ensures.pending) c.self.invariant.2,
    )

pub invariant_of-self-in_default : goal.invariant_of-self-in_default
invariant_of-self-in_default g c =
    let before = c.self.inside.writer in
    let after = c.append.new.self in
    let shown : after.desk.shown.value ≡ before.desk.shown.value = rw c.append.ensures.desk refl in
    let is : is_err c.append.result ≡ false = sym c.is_err.ensures.value ∙ c.if-is_err.false in (
      c.self.invariant.0 ∙ sym shown,
      c.self.invariant.1,
      room_kept before.desk.shown.value after.desk.shown.value (drop before.behind before.log.items) (drop after.behind after.log.items) shown (ok_arm _ _ _ is c.append.ensures.pending) c.self.invariant.2,
    )

pub invariant_of-self-2 : goal.invariant_of-self-2
invariant_of-self-2 g c =
    let before = c.self.inside.writer in
    let after = c.append.new.self in
    let shown : after.desk.shown.value ≡ before.desk.shown.value = rw c.append.ensures.desk refl in
    let is : is_err c.append.result ≡ false = sym c.is_err.ensures.value ∙ c.if-is_err.false in (
      c.self.invariant.0 ∙ sym shown,
      grind (arith, common_steps),
      room_kept before.desk.shown.value after.desk.shown.value (drop before.behind before.log.items) (drop after.behind after.log.items) shown (ok_arm _ _ _ is c.append.ensures.pending) c.self.invariant.2,
    )
