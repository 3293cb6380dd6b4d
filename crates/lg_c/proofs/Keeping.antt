-- The machine values of a `Kept`, and the ways in and out of it. Assumes `Logic`.
use Rattle.std.proofs.Common.{◌≡◌, ℕ, List, [], ◌∷◌, ◌++◌, refl, subst}
use mathlib.Core.Bool.{true}
use seplogic.Ra.Ura.{Ura}
use mir.Raw.{raw as bare}
use mir.Val.{Val, vptr, vstruct, vcons, vnil, of_list}
use base.Logic.{never, fst∗}
use base.Fml.{ftrue}
use types.Logic.{Logic, sem}
use types.Kit.{Item, Goal, Seq, Step, step, ‵, ◌$◌, drop, fsplit, fjoin, fpick, fpack, feq_i, feq_l}
use denote.RattleType.{Valss}
use denote.Builtin.{RawPtr}
use denote.Memory.{lone}
use denote.RawPtr.{Ptr, block_ptr, null_ptr, ptr_val, in_a_block}
use denote.Steps.{nothing}
use denote.Struct.Struct.{within}
use denote.Struct.Owning.{shape}
use Rattle.core.specs.declared.option.Option.{Option}
use Rattle.core.specs.declared.option.Option.TheVariants.{None, Some}
use Rattle.std.specs.Prelude.{is_some}
use Rattle.std.specs.contracts.impls.GlobalAllocator.TheImpl.{ghosts}
use Rattle.std_alloc.specs.Box.Ownership.{box_owns}
use Rattle.lg_detector.specs.Support.State.{State}
use Rattle.lg_detector.specs.contracts.detector.Detector.{the_row as R}
use Rattle.lg_c.specs.Support.Owning.{heap, kept_owns}
use Rattle.lg_c.specs.contracts.kept.Kept as kept

abbrev pub word : Val → Val
word v = vstruct (vcons v vnil)

abbrev pub held : ℕ → ℕ → State → base.Fml.Fml
held b o x = box_owns (ghosts.dealloc_token heap) R (block_ptr b o) x

module _ {M : Type 1} {𝓤 : Ura M} {𝓛 : Logic 𝓤} {K : Type 0} {Γ : List (Item 𝓤)} {G : Goal 𝓤 𝓛.H} where
  pub kept_in : K → (b o : ℕ) (x : State)
      → Step K 𝓛 (‵ (kept.the_row.own_val (record { at = block_ptr b o; value = Some x }) (word (vptr b o) ∷ [])) ∷ Γ) G (‵ (held b o x) ∷ Γ) G
  kept_in t b o x = step (λ s. let v : Val = word (vptr b o) in
      nothing t $ feq_i t (List Val) (vptr b o ∷ []) (vptr b o ∷ []) refl $ fjoin t $ feq_i t (List Val) (v ∷ []) (v ∷ []) refl $ fjoin t $
      fpack t (Valss (RawPtr ∷ [])) (within (shape kept.the_type) (block_ptr b o, tt) (v ∷ [])) (vptr b o ∷ [], tt) $ fjoin t $ s)

  pub none_in : K → Step K 𝓛 (‵ (kept.the_row.own_val (record { at = null_ptr; value = None }) (word (ptr_val null_ptr) ∷ [])) ∷ Γ) G Γ G
  none_in t = step (λ s. let v : Val = word (ptr_val null_ptr) in
      nothing t $ nothing t $ feq_i t (List Val) (ptr_val null_ptr ∷ []) (ptr_val null_ptr ∷ []) refl $ fjoin t $ feq_i t (List Val) (v ∷ []) (v ∷ []) refl $ fjoin t $
      fpack t (Valss (RawPtr ∷ [])) (within (shape kept.the_type) (null_ptr, tt) (v ∷ [])) (ptr_val null_ptr ∷ [], tt) $ fjoin t $ s)

  some_out : K → (p : Ptr) (value : Option State) → is_some value ≡ true
      → ((x : State) → value ≡ Some x → Seq K 𝓛 (‵ (box_owns (ghosts.dealloc_token heap) R p x) ∷ Γ) G) → Seq K 𝓛 (‵ (kept_owns p value) ∷ Γ) G
  some_out t p (Some x) is k = k x refl
  some_out t p None is k = absurd (subst lib.Dec.T (mathlib.Core.Path.sym is) tt)

  pub kept_out : K → (d : kept.the_row.Denot) (vs : List Val) → is_some d.value ≡ true
      → ((b o : ℕ) (x : State) → d.at ≡ block_ptr b o → d.value ≡ Some x → vs ≡ word (vptr b o) ∷ [] → Seq K 𝓛 (‵ (held b o x) ∷ Γ) G)
      → Seq K 𝓛 (‵ (kept.the_row.own_val d vs) ∷ Γ) G
  kept_out t d vs is k =
      fsplit t $ fpick t (λ vss. fsplit t $ feq_l t (λ ev. fsplit t $ feq_l t (λ ep. drop t $ some_out t d.at d.value is (λ x so.
      in_a_block t d.at (λ p. box_owns (ghosts.dealloc_token heap) R p x) (fst∗ 𝓤 (never 𝓤) (sem 𝓛 (ghosts.dealloc_token heap (bare (lone R.mir)) null_ptr))) (λ b o e. k b o x e so
      (subst (λ (p : Ptr). vs ≡ vstruct (of_list (ptr_val p ∷ [])) ∷ []) e (subst (λ (ps : List Val). vs ≡ vstruct (of_list (ps ++ [])) ∷ []) ep ev)))))))
