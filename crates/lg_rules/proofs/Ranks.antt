-- The claims about one member are ranked by which overrides which.
use Rattle.std.proofs.Common.{◌≡◌, ℕ, ◌<◌, true, false, refl, arith}
use Rattle.std.proofs.lemmas.Bool.{lt-ltb}
use Rattle.std.proofs.lemmas.Bool.Decides.{nat_tests}
use Rattle.lg_rules.specs.declared.claim.Status.{Status}
use Rattle.lg_rules.specs.declared.claim.Status.TheVariants.{Alive, Suspect, Failed, Left}
use Rattle.lg_rules.specs.Meaning.Beats.{overrides, beats_of}
use Rattle.lg_rules.proofs.PastLaws.{IsRanked}

-- a greater number overrides, whatever the statuses are
pub greater_overrides : (s t : Status) (i j : ℕ) → j < i → overrides s i t j ≡ true
greater_overrides s t i j l = rw (lt-ltb j i l) refl

not_itself : (s : Status) (i : ℕ) → overrides s i s i ≡ false
not_itself Alive i = grind (arith, nat_tests)
not_itself (Suspect a) i = grind (arith, nat_tests)
not_itself Failed i = grind (arith, nat_tests)
not_itself Left i = grind (arith, nat_tests)

above : (s t u : Status) (i j k : ℕ) → overrides s i t j ≡ true → overrides u k t j ≡ false → overrides s i u k ≡ true
above Alive Alive Alive i j k p q = grind (arith, nat_tests)
above _ _ _ i j k p q = grind (arith, nat_tests)

not_below : (s t u : Status) (i j k : ℕ) → overrides s i t j ≡ true → overrides u k t j ≡ false → overrides u k s i ≡ false
not_below Alive Alive Alive i j k p q = grind (arith, nat_tests)
not_below _ _ _ i j k p q = grind (arith, nat_tests)

pub ranked : IsRanked beats_of
ranked = record {
  not_itself = λ c. not_itself c.status c.incarnation;
  above = λ c r d p q. above c.status r.status d.status c.incarnation r.incarnation d.incarnation p q;
  not_below = λ c r d p q. not_below c.status r.status d.status c.incarnation r.incarnation d.incarnation p q;
}
