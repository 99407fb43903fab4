-- Proof that `of_loose` satisfies its contract: it moves the pointer of a box into a full handle. Assumes `Logic`, the
-- program logic of the toolchain.
use Rattle.ffi_sets.proofs.MachineValues.{◌≡◌, List, [], ◌∷◌, ◌++◌, refl, true, Fn, Val, SProp, emp, ftrue, WpFn, fact, fact_i, tables, ‵, raw, ◌⊛◌, prop, ◌$◌, ◌∵◌, !, qed, by, move, drop, use0, split, regoal, fsplit, fjoin, whole, sub, agg, stop, fld, of_opd, true_lit, no_more, and_then, returns, enter, alloc_all, pass_all, free_all, look_at, get, get_in, sets, owns, types_at, nothing, alive, Stays, stay_dropped, walk_of, Goes-blank, proved_at, leaves, slot_at, ptr_typed, seat_val, seat_own, seat_made, seat_typed, freed_val, freed_told, freed_typed}
use Rattle.ffi_sets.specs.contracts.seat.CSeat as seat
use Rattle.ffi_sets.specs.contracts.seat.CSeat.of_loose.{ended, clauses}
use Rattle.ffi_sets.specs.contracts.seat.CSeat.of_loose.Key.{name as #self}
use Rattle.ffi_sets.proofs.seat.CSeat.of_loose.Statement.{statement}
use Rattle.ffi_sets.proofs.seat.CSeat.of_loose.Code as compiled

pub of_loose_spec : {M : Type 1} → statement M
of_loose_spec 𝓤 𝓛 𝓜 𝓡 wired =
    let fn : Fn = compiled.function in
    let slot = slot_at 0 ended.signature.params in
    let stays : Stays ended.signature.params ended.kept = (stay_dropped slot ended.kept.0, tt) in
    let c = clauses 𝓛 𝓜.mem 𝓡.returns in
    let 𝓣 = tables 𝓤 𝓛.H 𝓜 𝓡 𝓡.env in
    proved_at 𝓛 ended stays c 𝓜 𝓡 (Goes-blank 𝓛 0 slot ended.kept.0 (λ κs x f. tt), tt) #self fn (compiled.unfolded 𝓤 𝓛.H 𝓜 𝓡 wired) (λ z are.
    let Post : Val → SProp 𝓤 = (walk_of 𝓛 ended stays c).post z in
    let x = z.0.3.0 in
    let p = x.at in
    let told = freed_told p x.alloc z.0.4.0 are.0.0 in
    let y : (seat.the_row).Denot = record { full = true; at = p; held = x.value } in
    qed 𝓛 ((raw (alive 𝓛 ended.signature z.0.0 z.0.1) ⊛ ‵ (owns (types_at ended.signature.params z.0.0) z.0.3 z.0.4)) ∷ ‵ ftrue ∷ []) ∵ move ! (1 ∷ []) $ drop ! $ split ! $ move ! (1 ∷ []) $
    fsplit ! $ fsplit ! $ drop ! $ move ! (1 ∷ []) $ drop ! $
    regoal ! (λ (us : List Val). prop (WpFn 𝓤 𝓛.H 𝓣.C 𝓣.Λ fn us Post)) (λ i. told i ++ []) refl $
    enter ! 𝓣.C 𝓣.Λ fn (freed_val p ∷ []) Post $
    alloc_all ! (λ l. pass_all ! refl (freed_typed p, tt) $
    sets ! (of_opd ! (get_in ! (fld ! refl (stop !)) (sub ! 0 refl (whole !)))) refl (ptr_typed p) $
    sets ! (of_opd ! (get ! refl)) refl (ptr_typed p) $
    sets ! (agg ! (and_then ! (true_lit !) (and_then ! (get ! refl) (no_more !)))) refl (seat_typed true p) $
    returns ! (look_at ! 0 refl) $ free_all ! refl $
    use0 𝓛 (‵ (seat_own true p (seat_val true p ∷ []))) (seat_made 𝓛 true p) $ fjoin ! $
    use0 𝓛 (raw (fact 𝓤 ((true ≡ true) × (x.value ≡ x.value)))) (fact_i 𝓤 ((true ≡ true) × (x.value ≡ x.value)) (emp 𝓤) (refl, refl)) $ nothing ! $ nothing ! $ fjoin ! $ move ! (3 ∷ 0 ∷ 2 ∷ 1 ∷ []) $
    by ! (leaves 𝓛 ended stays c z (seat_val true p) y (tt, tt) (tt, tt))))
