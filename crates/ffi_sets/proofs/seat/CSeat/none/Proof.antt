-- Proof that `none` satisfies its contract: it returns an empty handle. Assumes `Logic`, the program logic of the
-- toolchain.
use Rattle.ffi_sets.proofs.MachineValues.{◌≡◌, [], ◌∷◌, refl, false, Fn, Val, SProp, emp, ftrue, fact, fact_i, tables, ‵, raw, ◌⊛◌, ◌$◌, ◌∵◌, !, qed, by, move, drop, use0, split, fjoin, agg, lit, false_lit, no_more, and_then, returns, enter, alloc_all, pass_all, free_all, look_at, sets, null_ptr, nothing, alive, Stays, walk_of, proved_at, leaves, seat_val, seat_own, seat_made, seat_typed}
use Rattle.ffi_sets.specs.declared.held.Held.TheVariants.{Nothing}
use Rattle.ffi_sets.specs.contracts.seat.CSeat as seat
use Rattle.ffi_sets.specs.contracts.seat.CSeat.none.{ended, clauses}
use Rattle.ffi_sets.specs.contracts.seat.CSeat.none.Key.{name as #self}
use Rattle.ffi_sets.proofs.seat.CSeat.none.Statement.{statement}
use Rattle.ffi_sets.proofs.seat.CSeat.none.Code as compiled

pub none_spec : {M : Type 1} → statement M
none_spec 𝓤 𝓛 𝓜 𝓡 wired =
    let fn : Fn = compiled.function in
    let stays : Stays ended.signature.params ended.kept = tt in
    let c = clauses 𝓛 𝓜.mem 𝓡.returns in
    let 𝓣 = tables 𝓤 𝓛.H 𝓜 𝓡 𝓡.env in
    proved_at 𝓛 ended stays c 𝓜 𝓡 tt #self fn (compiled.unfolded 𝓤 𝓛.H 𝓜 𝓡 wired) (λ z are.
    let Post : Val → SProp 𝓤 = (walk_of 𝓛 ended stays c).post z in
    let x : (seat.the_row).Denot = record { full = false; at = null_ptr; held = Nothing } in
    qed 𝓛 ((raw (alive 𝓛 ended.signature z.0.0 z.0.1) ⊛ ‵ ftrue) ∷ ‵ ftrue ∷ []) ∵ move ! (1 ∷ []) $ drop ! $ split ! $ move ! (1 ∷ []) $ drop ! $
    enter ! 𝓣.C 𝓣.Λ fn [] Post $
    alloc_all ! (λ l. pass_all ! refl tt $
    sets ! (agg ! (and_then ! (false_lit !) (and_then ! (lit ! tt) (no_more !)))) refl (seat_typed false null_ptr) $
    returns ! (look_at ! 0 refl) $ free_all ! refl $
    nothing ! $ use0 𝓛 (‵ (seat_own false null_ptr (seat_val false null_ptr ∷ []))) (seat_made 𝓛 false null_ptr) $ fjoin ! $
    use0 𝓛 (raw (fact 𝓤 (false ≡ false))) (fact_i 𝓤 (false ≡ false) (emp 𝓤) refl) $ nothing ! $ move ! (3 ∷ 0 ∷ 2 ∷ 1 ∷ []) $
    by ! (leaves 𝓛 ended stays c z (seat_val false null_ptr) x tt tt)))
