use Rattle.std.proofs.Common.{◌≡◌, ℕ, ◌-◌, ◌≤◌, List, length, Option, ◌++◌, Result, Ok, Err, IfErr, subst, sym, arith, length-append, vec_len}
use Rattle.std.specs.Result.{IsErrAnd}
use Rattle.std.proofs.KnownBytes.{Consumes-trans}
use Rattle.std.specs.Io.KnownBytes.{Consumes}
use Rattle.lg_text.specs.Meaning.Running.{TakesAtMost, TakesMore}
use Rattle.lg_text.specs.declared.fault.RunFault.{RunFault}
use Rattle.lg_text.proofs.input.read_input.Goals as goal

takes_more : (a b c : Option (List ℕ)) (xs : List ℕ) (len n : ℕ) → Consumes a b xs → len ≡ length xs → len ≤ n → TakesAtMost (n - len) b c → TakesAtMost n a c
takes_more a b c xs len n first same fits more = record {
  bytes = xs ++ more.bytes;
  few = omega (arith, length-append xs more.bytes, more.few);
  taken = Consumes-trans a b c xs more.bytes first more.taken;
}

takes_past : (a b c : Option (List ℕ)) (xs : List ℕ) (len n : ℕ) → Consumes a b xs → len ≡ length xs → len ≤ n → TakesMore (n - len) b c → TakesMore n a c
takes_past a b c xs len n first same fits more = record {
  bytes = xs ++ more.bytes;
  many = omega (arith, length-append xs more.bytes, more.many);
  taken = Consumes-trans a b c xs more.bytes first more.taken;
}

pub returns-in_err-read_more-clause-taken : goal.returns-in_err-read_more-clause-taken
returns-in_err-read_more-clause-taken g c =
    takes_more _ _ _ c.loop.input.items (vec_len c.loop.input) 1048577 c.loop.invariant.bytes
    (omega (arith, c.loop.input.ok.0)) (omega (arith, c.loop.invariant.within)) c.read_more.ensures.taken

-- what holds of a fault holds of the answer that is made of it
of_fault : {V : Type 0} (r : Result V RunFault) (e : RunFault) (Q : RunFault → Type 0) → IsErrAnd r (λ y. y ≡ e) → Q e → IfErr r Q
of_fault (Ok x) e Q is q = tt
of_fault (Err y) e Q is q = subst Q (sym is) q

pub returns-in_err-read_more-clause-few : goal.returns-in_err-read_more-clause-few
returns-in_err-read_more-clause-few g c =
    of_fault _ c.in_err-read_more.field-0.0 _ c.from_residual.ensures.1
    (λ short. takes_more _ _ _ c.loop.input.items (vec_len c.loop.input) 1048576 c.loop.invariant.bytes
    (omega (arith, c.loop.input.ok.0)) c.loop.invariant.within (c.in_err-read_more.ensures.few short))

pub returns-in_err-read_more-clause-many : goal.returns-in_err-read_more-clause-many
returns-in_err-read_more-clause-many g c =
    of_fault _ c.in_err-read_more.field-0.0 _ c.from_residual.ensures.1
    (λ long. takes_past _ _ _ c.loop.input.items (vec_len c.loop.input) 1048576 c.loop.invariant.bytes
    (omega (arith, c.loop.input.ok.0)) c.loop.invariant.within (c.in_err-read_more.ensures.many long))
