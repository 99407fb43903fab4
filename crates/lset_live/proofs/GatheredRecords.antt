-- Lemmas about the record that results from merging (gathering) a list of records.
use Rattle.std.proofs.Common.{◌≡◌, ℕ, inl, inr, ⊎_elim, List, [], ◌∷◌, ◌++◌, Option, Some, None, IfSome, All, refl, subst, sym}
use Rattle.std.proofs.lemmas.List.Elements.{All-head, All-cons, All-nil}
use Rattle.lset_words.specs.SequentialSet.{Answered}
use Rattle.lset_words.specs.Records.{Record, gathered, Names, Keeps}
use Rattle.lset_live.specs.Seats.{gather_onto}
use Rattle.lset_steps.specs.declared.Event.{Event}
use Rattle.lset_steps.specs.Steps.{Table}
use Rattle.lset_live.specs.Explained.{NamedIn, IsOneLegalOrder, IsOneOrderInTime}
use Rattle.lset_words.specs.Words.{Opening}

pub gather_more : (o : Option Record) (rs : List Record) (q : Record) →
    gather_onto o (rs ++ q ∷ []) ≡ gather_onto (gather_onto o rs) (q ∷ [])
gather_more o [] q = refl
gather_more None (p ∷ ps) q = gather_more (Some p) ps q
gather_more (Some r) (p ∷ ps) q = gather_more (Some (gathered r p)) ps q

keeps_each : (order : List Answered) (o : Option Record) (rs : List Record) → IfSome (gather_onto o rs) (Keeps order) →
    IfSome o (Keeps order) × All (Keeps order) rs
keeps_each order o [] k = (k, All-nil (Keeps order))
keeps_each order None (q ∷ qs) k = let both = keeps_each order (Some q) qs k in (tt, All-cons (Keeps order) q qs both.0 both.1)
keeps_each order (Some p) (q ∷ qs) k =
    let both = keeps_each order (Some (gathered p q)) qs k in
    ((both.0.0, both.0.1.0), All-cons (Keeps order) q qs (both.0.1.1, both.0.1.2) both.1)

unnamed : (u : ℕ) (o : Option Record) (rs : List Record) → IfSome o (λ r. ¬ (Names u r)) → ¬ (NamedIn u rs) →
    IfSome (gather_onto o rs) (λ r. ¬ (Names u r))
unnamed u o [] h n = h
unnamed u None (q ∷ qs) h n = unnamed u (Some q) qs (λ x. n (inl x)) (λ x. n (inr x))
unnamed u (Some p) (q ∷ qs) h n = unnamed u (Some (gathered p q)) qs (λ x. ⊎_elim h (λ y. n (inl y)) x) (λ x. n (inr x))

pub gathered_explains : (k : Opening) (r : Record) (rs : List Record) (keys : List ℕ) → Some r ≡ gather_onto None rs →
    IsOneLegalOrder k (r ∷ []) keys → IsOneLegalOrder k rs keys
gathered_explains k r rs keys e x = record {
  order = x.order;
  legal = x.legal;
  keeps = (keeps_each x.order None rs (subst (λ o. IfSome o (Keeps x.order)) e (All-head (Keeps x.order) r [] x.keeps))).1;
  threads = x.threads;
  no_other = λ u lt out. x.no_other u lt (λ n.
      ⊎_elim (subst (λ o. IfSome o (λ q. ¬ (Names u q))) (sym e) (unnamed u None rs tt out)) (λ y. y) n);
  leaves = x.leaves;
}

pub gathered_in_time : (T : Table) (k : Opening) (events : List Event) (r : Record) (rs : List Record) (keys : List ℕ) →
    Some r ≡ gather_onto None rs → IsOneOrderInTime T k events (r ∷ []) keys → IsOneOrderInTime T k events rs keys
unfolding gathered_explains
gathered_in_time T k events r rs keys e x = record {
  run = x.run;
  placed = x.placed;
  linearizes = x.linearizes;
  one = gathered_explains k r rs keys e x.one;
  is = x.is;
}
