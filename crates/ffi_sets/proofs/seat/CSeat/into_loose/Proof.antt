-- Proof that `into_loose` satisfies its contract: it moves the pointer of a full handle into a box. Assumes `Logic`,
-- the program logic of the toolchain.
use lib.Ieee.Bits.{is_true, is_false}
use types.Match.{live}
use denote.Signature.{type_at}
use Rattle.core.specs.declared.option.Option.TheVariants.{None, Some}
use Rattle.core.proofs.option.Made.{Some-of, none_of}
use Rattle.std_alloc.proofs.ResultValues.{and_tt}
use Rattle.std_heap.specs.contracts.Global as HP
use Rattle.std_heap.specs.contracts.GlobalAllocator.TheImpl as GI
use Rattle.std_heap.proofs.Global.TheLaws as HL
use Rattle.std_heap.proofs.Handle.{heap_val, heap_Tells}
use Rattle.ffi_sets.proofs.MachineValues.{◌≡◌, List, [], ◌∷◌, ◌++◌, refl, Bool, true, false, Fn, Val, vcons, vnil, SProp, emp, ftrue, WpFn, fact, fact_i, tables, ‵, raw, ◌⊛◌, prop, at_ret, ◌$◌, ◌∵◌, !, qed, by, move, drop, use0, use1, split, regoal, rewrite, fsplit, fjoin, whole, sub, agg, stop, fld, lit, of_opd, no_more, and_then, first, branches, exec, returns, enter, alloc_all, pass_all, free_all, look_at, get, get_in, sets, sets_last, env, RattleType, owns, layout, types_at, nothing, alive, Stays, stay_dropped, walk_of, Goes-blank, after, Good, proved_at, leaves, slot_at, ptr_typed, seat_val, seat_told, seat_typed, loose_in, Freed, freed_val, freed_typed, lit<}
use Rattle.ffi_sets.specs.Owned.{seat_owns}
use Rattle.ffi_sets.specs.contracts.held.Held as held
use Rattle.ffi_sets.specs.contracts.seat.CSeat.into_loose.{ended, clauses}
use Rattle.ffi_sets.specs.contracts.seat.CSeat.into_loose.Key.{name as #self}
use Rattle.ffi_sets.proofs.seat.CSeat.into_loose.Statement.{statement}
use Rattle.ffi_sets.proofs.seat.CSeat.into_loose.Code as compiled

pub into_loose_spec : {M : Type 1} → statement M
into_loose_spec 𝓤 𝓛 𝓜 𝓡 wired =
    let fn : Fn = compiled.function in
    let seat = slot_at 0 ended.signature.params in
    let heap = slot_at 1 ended.signature.params in
    let stays : Stays ended.signature.params ended.kept = (stay_dropped seat ended.kept.0, (stay_dropped heap ended.kept.1.0, tt)) in
    let c = clauses 𝓛 𝓜.mem 𝓡.returns in
    let 𝓣 = tables 𝓤 𝓛.H 𝓜 𝓡 𝓡.env in
    proved_at 𝓛 ended stays c 𝓜 𝓡 (Goes-blank 𝓛 0 seat ended.kept.0 (λ κs x f. tt), (Goes-blank 𝓛 0 heap ended.kept.1.0 (λ κs x f. tt), tt)) #self fn (compiled.unfolded 𝓤 𝓛.H 𝓜 𝓡 wired) (λ z are.
    let Post : Val → SProp 𝓤 = (walk_of 𝓛 ended stays c).post z in
    let Out : RattleType = type_at ended.signature.result z.0.0 in
    let x = z.0.3.0 in
    let t = x.full in
    let p = x.at in
    let told = seat_told t p z.0.4.0 are.0.0 in
    let alloc = z.0.3.1.0 in
    let fits = heap_Tells alloc z.0.4.1.0 are.1.0 in
    let d : Freed.Denot = record { at = p; alloc = alloc; value = x.held } in
    let made : Val = live 1 (vcons (freed_val p) vnil) in
    let typed : Good (layout Out) made = (and_tt _ (freed_typed p).0, (record { fits = lit< tt }, ((freed_typed p).1, tt))) in
    qed 𝓛 ((raw (alive 𝓛 ended.signature z.0.0 z.0.1) ⊛ ‵ (owns (types_at ended.signature.params z.0.0) z.0.3 z.0.4)) ∷ ‵ ftrue ∷ []) ∵ move ! (1 ∷ []) $ drop ! $ split ! $ move ! (1 ∷ []) $
    fsplit ! $ fsplit ! $ drop ! $ move ! (1 ∷ []) $ fsplit ! $ move ! (1 ∷ []) $ drop ! $ move ! (1 ∷ []) $
    rewrite ! 1 (λ (us : List Val). ‵ ((HP.the_row).own_val alloc us)) fits refl $
    regoal ! (λ (us : List Val). prop (WpFn 𝓤 𝓛.H 𝓣.C 𝓣.Λ fn us Post)) (λ i. told i ++ (fits i ++ [])) refl $
    enter ! 𝓣.C 𝓣.Λ fn (seat_val t p ∷ heap_val ∷ []) Post $
    alloc_all ! (λ l. pass_all ! refl (seat_typed t p, ((tt, ((tt, tt), tt)), tt)) $ let En = env fn.locals l in
    sets ! (of_opd ! (get_in ! (fld ! refl (stop !)) (sub ! 0 refl (whole !)))) refl (tt, tt) $
    sets ! (of_opd ! (get_in ! (fld ! refl (stop !)) (sub ! 1 refl (whole !)))) refl (ptr_typed p) $
    sets ! (of_opd ! (get ! refl)) refl (tt, tt) $ first ! $ branches ! (get ! refl)
    (λ full. sets ! (of_opd ! (get ! refl)) refl (ptr_typed p) $
    sets ! (agg ! (and_then ! (get ! refl) (and_then ! (get ! refl) (no_more !)))) refl (freed_typed p) $
    sets_last ! (agg ! (and_then ! (lit ! tt) (and_then ! (get ! refl) (no_more !)))) refl typed $
    exec ! 𝓣.C 𝓣.Λ En (after 4 fn.body) (at_ret En Post) $ sets ! (of_opd ! (get ! refl)) refl typed $
    returns ! (look_at ! 0 refl) $ free_all ! refl $
    rewrite ! 0 (λ (u : Bool). ‵ (seat_owns u p x.held)) (is_true t full) refl $ loose_in held.the_row HP.the_row HL.the_row_laws GI.ghosts ! p heap_val alloc x.held $
    use1 𝓛 (‵ (Out.own_val (Some d) (made ∷ []))) (Some-of 𝓛 Freed d (freed_val p)) $
    use0 𝓛 (raw (fact 𝓤 ((t ≡ true) × (x.held ≡ x.held)))) (fact_i 𝓤 ((t ≡ true) × (x.held ≡ x.held)) (emp 𝓤) (is_true t full, refl)) $ nothing ! $ nothing ! $ fjoin ! $ nothing ! $ fjoin ! $ move ! (3 ∷ 0 ∷ 2 ∷ 1 ∷ []) $
    by ! (leaves 𝓛 ended stays c z made (Some d) (tt, (tt, tt)) (tt, (tt, tt))))
    (λ empty. sets_last ! (agg ! (and_then ! (lit ! tt) (no_more !))) refl (tt, (record { fits = lit< tt }, tt)) $
    exec ! 𝓣.C 𝓣.Λ En (after 4 fn.body) (at_ret En Post) $ sets ! (of_opd ! (get ! refl)) refl (tt, (record { fits = lit< tt }, tt)) $
    returns ! (look_at ! 0 refl) $ free_all ! refl $ drop ! $ drop ! $
    use0 𝓛 (‵ (Out.own_val None (live 0 vnil ∷ []))) (none_of 𝓛 Freed) $
    use0 𝓛 (raw (fact 𝓤 (t ≡ false))) (fact_i 𝓤 (t ≡ false) (emp 𝓤) (is_false t empty)) $ nothing ! $ nothing ! $ fjoin ! $ nothing ! $ fjoin ! $ move ! (3 ∷ 0 ∷ 2 ∷ 1 ∷ []) $
    by ! (leaves 𝓛 ended stays c z (live 0 vnil) None (tt, (tt, tt)) (tt, (tt, tt))))))
