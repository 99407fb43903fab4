-- Definitions for proofs at machine level: the machine values of a handle that C code keeps (`CSeat`), and of a box.
-- The proofs assume `Logic`, the program logic of the toolchain.
pub use Rattle.std.proofs.Common.{◌≡◌, List, [], ◌∷◌, ◌++◌, refl, sym, ap, ◌∙◌, subst, ℕ, zero, suc, lit<}
pub use mathlib.Core.Bool.{Bool, true, false, ◌&&◌}
pub use mir.Syntax.{Fn, a_type, dcons, dnil, Ty, ty_ptr, ty_bool, ty_struct, impl, tcons, tnil}
pub use mir.Val.{Val, vptr, vcons, vnil, vbool, vstruct, of_list, has_ty, WT}
pub use mir.MapTy.{inst_fn}
pub use base.Logic.{SProp, ent, emp, id⊢, never, fst∗}
pub use base.Fml.{ftrue, flft, Fml}
pub use prog.Wp.{WpFn}
pub use contract.Monad.{fact, fact_i}
pub use contract.Running.{tables}
pub use types.Kit.{‵, raw, ◌⊛◌, some, later, prop, at_ret, ◌$◌, ◌∵◌, !, qed, by, move, keep, drop, use0, use1, split, split3, join, regoal, rewrite, fsplit, fjoin, fpick, pick, suffices, await, feq_i, feq_l, Item, Goal, Seq, Step, step, fpack}
pub use types.Part.{whole, sub, agg}
pub use types.Run.{stop, fld, lit, of_opd, true_lit, false_lit, no_more, and_then, first, blocks, branches, exec, returns, enter}
pub use types.ByLocal.{alloc_all, pass_all, free_all, look_at, get, get_in, sets, sets_last, lands_as, lands_last, env}
pub use denote.Exit.{no}
pub use denote.RattleType.{RattleType, owns, Valss}
pub use denote.RawPtr.{Ptr, block_ptr, null_ptr, ptr_val, in_a_block}
pub use denote.Param.{param, layout, bounded}
pub use denote.Param.Laws.{param_laws, Laws}
pub use denote.Signature.{types_at, plain, Slot}
pub use denote.Steps.{nothing, only, heard}
pub use denote.Triple.Entry.{alive}
pub use denote.Triple.Spec.{triple_of}
pub use denote.Triple.Walked.{Stays, stay_dropped, walk_of}
pub use Rattle.core.proofs.alloc.Calls.{Goes-blank, Al, handle_tells}
pub use Rattle.core.proofs.alloc.Shapes.{after}
pub use Rattle.core.proofs.atomic.Steps.{fm}
pub use Rattle.core.proofs.cell.Inside.{Good}
pub use Rattle.std_alloc.proofs.BoxSteps.Steps.{box_out, box_in}
pub use Rattle.std.proofs.raw_atomic.Walks.{proved_at, leaves}
use lib.Dec.{T}
use seplogic.Ra.Ura.{Ura}
use mir.Raw.{raw as bare}
use types.Logic.{Logic, sem}
use denote.Builtin.{RawPtr, bool, unit}
use denote.Memory.{lone}
use denote.Shadow.{shadow, makes_shadow}
use denote.Struct.Struct.{Struct, within}
use denote.Struct.Owning.{shape}
use Rattle.core.specs.declared.alloc.Allocator.{Ghosts}
use Rattle.std_alloc.specs.Box.Ownership.{box_owns}
use Rattle.std_alloc.proofs.ResultValues.{and_tt}
use Rattle.std_heap.specs.contracts.Global as HP
use Rattle.std_heap.specs.contracts.GlobalAllocator.TheImpl as GI
use Rattle.std_heap.proofs.Global.TheLaws as HL
use Rattle.std_heap.proofs.Handle.{heap_val, heap_Tells}
use Rattle.ffi_sets.specs.contracts.held.Held as held
use Rattle.ffi_sets.specs.contracts.loose.Loose as loose

abbrev pub both : Val → Val → Val
both v w = vstruct (vcons v (vcons w vnil))

module _ (R Z : RattleType) (L : Laws Z) (g : Ghosts Z.Denot) where
  abbrev pub Loose : RattleType
  Loose = loose.the_row R Z g

  abbrev al : Al
  al = record { row = Z; laws = L; g = g; d = impl [] tnil dnil; drops = impl [] tnil dnil }

  pub loose_good : (b o : ℕ) (h : Val) → Good (layout Z) h → T (has_ty (layout Z) h && true) × WT (both (vptr b o) h)
  loose_good b o h fits = (and_tt (has_ty (layout Z) h) fits.0, (tt, (fits.1, tt)))

  module _ {M : Type 1} {𝓤 : Ura M} {𝓛 : Logic 𝓤} {K : Type 0} {Γ : List (Item 𝓤)} {G : Goal 𝓤 𝓛.H} where
    pub loose_out : K → (d : Loose.Denot) (vs : List Val)
        → ((b o : ℕ) (h : Val) → d.at ≡ block_ptr b o → vs ≡ both (vptr b o) h ∷ [] → Good (layout Z) h → Seq K 𝓛 (‵ (box_owns (g.dealloc_token d.alloc) R (block_ptr b o) d.value) ∷ ‵ (Z.own_val d.alloc (h ∷ [])) ∷ Γ) G)
        → Seq K 𝓛 (‵ (Loose.own_val d vs) ∷ Γ) G
    loose_out t d vs k =
        fsplit t $ fpick t (λ vss. fsplit t $ feq_l t (λ ev. fsplit t $ feq_l t (λ ep. fsplit t $ handle_tells al t d.alloc vss.1.0 (λ h ea fits. move t (1 ∷ []) $ drop t $ move t (1 ∷ []) $
        in_a_block t d.at (λ p. box_owns (g.dealloc_token d.alloc) R p d.value) (fst∗ 𝓤 (never 𝓤) (sem 𝓛 (g.dealloc_token d.alloc (bare (lone R.mir)) null_ptr))) (λ b o e. k b o h e
        (subst (λ (p : Ptr). vs ≡ vstruct (of_list (ptr_val p ∷ h ∷ [])) ∷ []) e
        (subst (λ (ws : List Val). vs ≡ vstruct (of_list (ptr_val d.at ∷ (ws ++ []))) ∷ []) ea (subst (λ (ps : List Val). vs ≡ vstruct (of_list (ps ++ (vss.1.0 ++ []))) ∷ []) ep ev))) fits)))))

    pub loose_in : K → (p : Ptr) (h : Val) (a : Z.Denot) (x : R.Denot)
        → Step K 𝓛 (‵ (Loose.own_val (record { at = p; alloc = a; value = x }) (both (ptr_val p) h ∷ [])) ∷ Γ) G (‵ (box_owns (g.dealloc_token a) R p x) ∷ ‵ (Z.own_val a (h ∷ [])) ∷ Γ) G
    loose_in t p h a x = step (λ s. let v : Val = both (ptr_val p) h in
        nothing t $ move t (2 ∷ 0 ∷ []) $ fjoin t $ feq_i t (List Val) (ptr_val p ∷ []) (ptr_val p ∷ []) refl $ fjoin t $ feq_i t (List Val) (v ∷ []) (v ∷ []) refl $ fjoin t $
        fpack t (Valss (RawPtr ∷ Z ∷ [])) (within (shape (loose.the_type R Z g)) (p, (a, tt)) (v ∷ [])) (ptr_val p ∷ [], (h ∷ [], tt)) $ fjoin t $ s)

abbrev pub slot_at : {n : ℕ} → ℕ → List (Slot n) → Slot n
slot_at k [] = plain (λ _. unit)
slot_at zero (s ∷ ss) = s
slot_at (suc k) (s ∷ ss) = slot_at k ss

-- Returns the struct type that has the given fields and no name. The name of a struct does not affect which memory a
-- value owns.
abbrev pub plainly : List RattleType → RattleType
plainly Rs = Struct (record { name = []; args = []; types = []; fields = Rs })

pub ptr_typed : (p : Ptr) → Good ty_ptr (ptr_val p)
ptr_typed (block_ptr b o) = (tt, tt)
ptr_typed null_ptr = (tt, record { fits = lit< tt })

abbrev pub seat_val : Bool → Ptr → Val
seat_val t p = both (vbool t) (ptr_val p)

abbrev pub seat_own : Bool → Ptr → List Val → Fml
seat_own t p = (plainly (bool ∷ RawPtr ∷ [])).own_val (t, (p, tt))

pub seat_told : (t : Bool) (p : Ptr) (vs : List Val) → shadow (seat_own t p vs) → vs ≡ seat_val t p ∷ []
seat_told t p vs s = s.1.0 ∙ (λ i. vstruct (of_list (s.1.1.0 i ++ (s.1.1.1.0 i ++ []))) ∷ [])

pub seat_made : {M : Type 1} {𝓤 : Ura M} (𝓛 : Logic 𝓤) (t : Bool) (p : Ptr) → ent 𝓤 (emp 𝓤) (sem 𝓛 (seat_own t p (seat_val t p ∷ [])))
seat_made 𝓛 t p = makes_shadow 𝓛 (seat_own t p (seat_val t p ∷ [])) (λ _. (tt, (tt, (tt, tt)))) ((vbool t ∷ [], (ptr_val p ∷ [], tt)), (refl, (refl, (refl, tt))))

abbrev pub seat_ty : Ty
seat_ty = ty_struct [] (tcons ty_bool (tcons ty_ptr tnil))

pub seat_typed : (t : Bool) (p : Ptr) → Good seat_ty (seat_val t p)
seat_typed t (block_ptr b o) = (tt, (tt, (tt, tt)))
seat_typed t null_ptr = (tt, (tt, (record { fits = lit< tt }, tt)))

-- The type of a box that was split into its pointer and its allocator.
abbrev pub Freed : RattleType
Freed = Loose held.the_row HP.the_row HL.the_row_laws GI.ghosts

abbrev pub freed_val : Ptr → Val
freed_val p = both (ptr_val p) heap_val

abbrev pub freed_own : Ptr → (HP.the_row).Denot → List Val → Fml
freed_own p h = (plainly (RawPtr ∷ HP.the_row ∷ [])).own_val (p, (h, tt))

pub freed_told : (p : Ptr) (h : (HP.the_row).Denot) (vs : List Val) → shadow (freed_own p h vs) → vs ≡ freed_val p ∷ []
freed_told p h vs s = s.1.0 ∙ (λ i. vstruct (of_list (s.1.1.0 i ++ (heap_Tells h s.0.1.0 s.1.1.1.0 i ++ []))) ∷ [])

pub freed_typed : (p : Ptr) → Good (ty_struct [] (tcons ty_ptr (tcons HL.mir tnil))) (freed_val p)
freed_typed (block_ptr b o) = (tt, (tt, (((tt, tt), tt), tt)))
freed_typed null_ptr = (tt, (record { fits = lit< tt }, (((tt, tt), tt), tt)))
