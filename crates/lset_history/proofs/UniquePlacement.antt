-- Proof: every run with an account (a record of the effect of each event on the set) has exactly one placement, the
-- order of its calls by their linearization points.
use Rattle.std.proofs.Common.{◌≡◌, ℕ, zero, suc, ◌+◌, ◌<◌, ◌≤◌, ◌⊎◌, inl, inr, List, [], ◌∷◌, length, map, sym, refl, subst, ap}
use Rattle.std.proofs.Common.{◌∙◌, arith}
use Rattle.std.specs.Prelude.{Option, Some, None}
use Rattle.std.specs.List.{AllByRecursion}
use Rattle.std.proofs.lemmas.List.{ext_get_or}
use Rattle.lset_words.specs.declared.Reply.{Reply}
use Rattle.lset_words.specs.declared.history.Placed.{Placed}
use Rattle.lset_words.specs.Log.{Log, TracedCall, calls_at}
use Rattle.lset_words.specs.Account.{Contents, Counts, Fits, FitsSometime, Account}
use Rattle.lset_history.specs.Placement.{IsSmallestFit, StandsBy, StandsAt, IsPlacement, Standing, ComesBefore, placed_of, standing, traced_at}
use Rattle.lset_history.specs.Placement.{place_at}
use Rattle.std.specs.List.Sorted.{IsPermutation}
use Rattle.lset_history.proofs.Lists.{Pairs, all_imply, pairs_imply, pairs_rec, pairs_std}
use Rattle.lset_history.proofs.PlacementOrder.{in_order, one_order, before_chain, before_once, before_or_after}
use Rattle.lset_history.proofs.Standings.{Follows, follow}
use Rattle.std.proofs.lemmas.List.Elements.{recursion_from_All}
use Rattle.lset_history.proofs.Calls.{Run, Traced, Calls, run_of, calls_of}
use Rattle.lset_history.proofs.SetStates.{Shows, set_at, shows_at}
use Rattle.lset_history.proofs.SetFitting.{fits_or_not}
use Rattle.lset_words.specs.Words.{Opening}

-- The smallest moment from `first` to `last` with the property `P`.
pub record Smallest (P : ℕ → Type 0) (first last : ℕ) : Type 0 where
  pub moment : ℕ
  pub from : first ≤ moment
  pub upto : moment ≤ last
  pub holds : P moment
  pub smallest : (m : ℕ) → first ≤ m → m < moment → P m → ⊥

pub smallest_by : (P : ℕ → Type 0) (d first last : ℕ) → last ≡ first + d → ((m : ℕ) → m ≤ last → P m ⊎ (P m → ⊥)) → P last
    → Smallest P first last
smallest_by P zero first last e f p = let g : last ≡ first = omega arith in
    record { moment = last; from = omega arith; upto = omega arith; holds = p; smallest = λ m a b h. absurd (omega arith) }
smallest_by P (suc d) first last e f p = elim (f first (omega arith)) [
  | inl h ↦ record { moment = first; from = omega arith; upto = omega arith; holds = h; smallest = λ m a b i. absurd (omega arith) }
  | inr n ↦ (let r : Smallest P (suc first) last = smallest_by P d (suc first) last (omega arith) f p in
      let a : suc first ≤ r.moment = r.from in
      record { moment = r.moment; from = omega arith; upto = r.upto; holds = r.holds; smallest = λ m b c h. below r n m b c h })
]
  where
    below : (r : Smallest P (suc first) last) → (P first → ⊥) → (m : ℕ) → first ≤ m → m < r.moment → P m → ⊥
    below r n m b c h = grind arith

-- ---- Lemmas about calls that have a linearization point
place_of : (r : Run) (last : ℕ) (x : TracedCall) (changed : Option ℕ) (ended : Option (ℕ × Reply)) → Traced r last x
    → ((m : ℕ) → m ≤ last → (reply : Reply) → Fits r.quota (r.contents m) (r.counts m x.thread) x.call reply
    ⊎ (Fits r.quota (r.contents m) (r.counts m x.thread) x.call reply → ⊥))
    → x.changed ≡ changed → x.ended ≡ ended → (place : Option ℕ) × StandsBy r.quota r.contents r.counts x changed ended place
place_of r last x (Some c) ended t f c_is e_is = (Some c, refl)
place_of r last x None None t f c_is e_is = (None, refl)
place_of r last x None (Some end) t f c_is e_is =
    let ends = t.ends end.0 end.1 e_is in
    let right : FitsSometime r.quota r.contents r.counts x.begun end.0 x.thread x.call end.1 = rw c_is at ends.1.right in
    let o : Smallest Fit x.begun right.moment = upwards x.begun right.moment right.from
    (λ m l. f m (omega (arith, right.upto, ends.0)) end.1) right.fits in
    (Some o.moment, (o.moment, refl, record { from = o.from; upto = omega (arith, o.upto, right.upto); fits = o.holds; smallest = o.smallest }))
  where
    Fit : ℕ → Type 0
    Fit m = Fits r.quota (r.contents m) (r.counts m x.thread) x.call end.1

    upwards : (first last : ℕ) → first ≤ last → ((m : ℕ) → m ≤ last → Fit m ⊎ (Fit m → ⊥)) → Fit last → Smallest Fit first last
    upwards first last l g p = let h : (d : ℕ) × (last ≡ first + d) = between first last l in smallest_by Fit h.0 first last h.1 g p
      where
        between : (a b : ℕ) → a ≤ b → (d : ℕ) × (b ≡ a + d)
        between zero b l = (b, omega arith)
        between (suc a) zero l = absurd (omega arith)
        between (suc a) (suc b) l = let i : (d : ℕ) × (b ≡ a + d) = between a b (omega arith) in
            let j : b ≡ a + i.0 = i.1 in (i.0, omega arith)

-- Lemma: the linearization points of all calls can be collected in one list, with one item for each call.
chosen : (P : TracedCall → Option ℕ → Type 0) (xs : List TracedCall) → AllByRecursion (λ x. (place : Option ℕ) × P x place) xs
    → (ps : List (Option ℕ)) × (length ps ≡ length xs) × ((i : ℕ) → i < length xs → P (traced_at xs i) (place_at ps i))
chosen P [] h = ([], refl, λ i l. absurd (omega arith))
chosen P (x ∷ xs) h =
    let r : (ps : List (Option ℕ)) × (length ps ≡ length xs)
    × ((i : ℕ) → i < length xs → P (traced_at xs i) (place_at ps i)) = chosen P xs h.1 in
    (h.0.0 ∷ r.0, ap suc r.1, at r.0 r.2)
  where
    at : (ps : List (Option ℕ)) → ((i : ℕ) → i < length xs → P (traced_at xs i) (place_at ps i))
        → (i : ℕ) → i < length (x ∷ xs) → P (traced_at (x ∷ xs) i) (place_at (h.0.0 ∷ ps) i)
    at ps f zero l = h.0.1
    at ps f (suc i) l = f i (omega arith)

pub has_placement : (op : Opening) (last : ℕ) (log : Log) (contents : Contents) (counts : Counts)
    → Account op last log contents counts
    → (order : List Placed) × IsPlacement op.quota (calls_at log last) contents counts order
has_placement op last log contents counts a =
    let r : Run = run_of op.threads op.quota log contents counts in
    let c : Calls r last (calls_at log last) = calls_of op last log contents counts a last (omega arith) in
    let p : (ps : List (Option ℕ)) × (length ps ≡ length (calls_at log last))
    × ((i : ℕ) → i < length (calls_at log last) → StandsAt op.quota contents counts (traced_at (calls_at log last) i)
    (place_at ps i)) =
    chosen (StandsAt op.quota contents counts) (calls_at log last)
    (all_imply (Traced r last) (λ x. (place : Option ℕ) × StandsAt op.quota contents counts x place) each
    (calls_at log last) (recursion_from_All (Traced r last) (calls_at log last) c.each)) in
    let ss : List Standing = standing 0 (calls_at log last) p.0 in
    let o : (ys : List Standing) × IsPermutation ss ys × Pairs ComesBefore ys = in_order ComesBefore before_chain before_once ss
    (pairs_imply (λ s. Unit {0}) Follows (λ s q. ComesBefore s q ⊎ ComesBefore q s) (λ s q u v f. before_or_after s q f.0) ss
    (all_of ss) (follow r last (calls_at log last) p.0 c p.2)) in (
      map placed_of o.0,
      record {
        places = p.0;
        one_each = p.1;
        stands = p.2;
        sorted = o.0;
        moved = o.1;
        rises = pairs_std ComesBefore o.0 o.2;
        in_order = refl;
      },
    )
  where
    all_of : (ss : List Standing) → AllByRecursion (λ s. Unit {0}) ss
    all_of [] = tt
    all_of (s ∷ ss) = (tt, all_of ss)

    each : (x : TracedCall) → Traced (run_of op.threads op.quota log contents counts) last x
        → (place : Option ℕ) × StandsAt op.quota contents counts x place
    each x t = place_of (run_of op.threads op.quota log contents counts) last x x.changed x.ended t
        (λ m l reply. let w : Shows op.threads (contents m) (counts m) (set_at op log m) = shows_at op last log
        contents counts a m l in
        fits_or_not op.quota (contents m) (set_at op log m) w.keys w.increasing (counts m x.thread) x.call reply) refl refl

-- ---- The linearization point is unique
smallest_once : (quota : ℕ) (contents : Contents) (counts : Counts) (x : TracedCall) (end : ℕ) (reply : Reply) (m n : ℕ)
    → IsSmallestFit quota contents counts x end reply m → IsSmallestFit quota contents counts x end reply n → m ≡ n
smallest_once quota contents counts x end reply m n a b = grind arith

stands_once : (quota : ℕ) (contents : Contents) (counts : Counts) (x : TracedCall) (changed : Option ℕ)
    (ended : Option (ℕ × Reply))
    (p q : Option ℕ) → StandsBy quota contents counts x changed ended p → StandsBy quota contents counts x changed ended q → p ≡ q
stands_once quota contents counts x (Some c) ended p q a b = a ∙ sym b
stands_once quota contents counts x None None p q a b = a ∙ sym b
stands_once quota contents counts x None (Some end) p q a b =
    a.1 ∙ ap Some (smallest_once quota contents counts x end.0 end.1 a.0 b.0 a.2 b.2) ∙ sym b.1

pub placement_once : (quota : ℕ) (calls : List TracedCall) (contents : Contents) (counts : Counts)
    (order other : List Placed)
    → IsPlacement quota calls contents counts order → IsPlacement quota calls contents counts other → order ≡ other
placement_once quota calls contents counts order other a b =
    let e : a.places ≡ b.places = ext_get_or None a.places b.places (a.one_each ∙ sym b.one_each)
    (λ i l. let m : i < length calls = subst (λ z. i < z) a.one_each l in
    stands_once quota contents counts (traced_at calls i) (traced_at calls i).changed (traced_at calls i).ended
    (place_at a.places i) (place_at b.places i) (a.stands i m) (b.stands i m)) in
    let same : a.sorted ≡ b.sorted = one_order ComesBefore before_chain before_once (standing 0 calls a.places) a.sorted b.sorted a.moved
    (rw e b.moved) (pairs_rec ComesBefore a.sorted a.rises) (pairs_rec ComesBefore b.sorted b.rises) in
    a.in_order ∙ ap (map placed_of) same ∙ sym b.in_order
