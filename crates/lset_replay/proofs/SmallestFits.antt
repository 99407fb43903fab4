-- Proof: for a call that changes nothing, the first moment (number of events) when its reply is correct is the first
-- moment that passes the test in `fit`.
use Rattle.std.proofs.Common.{◌≡◌, ℕ, List, true, false, ◌<◌, ◌≤◌, sym, refl, subst, ◌∙◌, arith}
use Rattle.std.specs.Prelude.{Option, Some, None}
use Rattle.lset_words.specs.declared.Call.{Call}
use Rattle.lset_words.specs.declared.Call.TheVariants as call
use Rattle.lset_words.specs.declared.Reply.{Reply}
use Rattle.lset_words.specs.declared.Reply.TheVariants as reply
use Rattle.lset_words.specs.Words.{key_of}
use Rattle.lset_words.specs.Log.{TracedCall}
use Rattle.lset_words.specs.Account.{Contents, Counts, Fits, FitsSometime, IsCeiling}
use Rattle.lset_history.specs.Placement.{IsSmallestFit}
use Rattle.lset_history.specs.Changes.{IsFirst, has_ceiling, is_present, IsBounded}
use Rattle.lset_history.proofs.CeilingTests.{tested, passes_test, ceiling_by}
use Rattle.lset_words.specs.declared.Key.{Key}
use Rattle.lset_replay.specs.Trace.{needs_key, shows}
use Rattle.lset_replay.proofs.KeyChanges.{Tells, told_yes, told_no}

-- Holds if `moment` is the first number from `first` to `last` that satisfies `F`.
pub record SmallestAt (F : ℕ → Type 0) (first last moment : ℕ) : Type 0 where
  pub from : first ≤ moment
  pub upto : moment ≤ last
  pub holds : F moment
  pub smallest : (m : ℕ) → first ≤ m → m < moment → F m → ⊥

pub plain_shows : (changes : ℕ → List ℕ) (c : Call) (r : Reply) → ((k : Key) → c ≡ call.Ceiling k → ⊥)
    → shows changes c r ≡ (λ m. is_present changes (key_of c).0 m)
plain_shows changes (call.Ceiling k) r n = absurd (n k refl)
plain_shows changes c r n = refl

module _ (P F : ℕ → Type 0) (first last : ℕ) (to : (m : ℕ) → first ≤ m → m ≤ last → F m → P m) (back :
    (m : ℕ) → first ≤ m → m ≤ last → P m → F m) where
  smallest_first : (o : Option ℕ) → IsFirst P first last o → (m : ℕ) → first ≤ m → m ≤ last → F m
      → (k : ℕ) × (o ≡ Some k) × SmallestAt F first last k
  smallest_first None h m a b f = absurd (h m a b (to m a b f))
  smallest_first (Some k) h m a b f = (
    k,
    refl,
    record {
      from = h.0;
      upto = h.1;
      holds = back k h.0 h.1 h.2;
      smallest = λ j x y g. h.3 j x y (to j x (let l : k ≤ last = h.1 in omega arith) g);
    },
  )

module _ (q : ℕ) (contents : Contents) (counts : Counts) (first last t : ℕ) where
  abbrev pub FitsAt : Call → Reply → ℕ → Type 0
  FitsAt c r m = Fits q (contents m) (counts m t) c r

  -- Holds if the reply `r` of a call `c` that changes nothing is correct at moment `m` (after `m` events), according to
  -- the test in `fit`.
  abbrev pub Passes : (ℕ → List ℕ) → Call → Reply → ℕ → Type 0
  Passes changes c r m = shows changes c r m ≡ needs_key c r

  ceiling_smallest : (changes : ℕ → List ℕ) (k : Key) (found : Option ℕ) (r : Reply) (o : Option ℕ)
      → ((m : ℕ) → FitsAt (call.Ceiling k) r m → IsCeiling (contents m) k.0 found)
      → ((m : ℕ) → IsCeiling (contents m) k.0 found → FitsAt (call.Ceiling k) r m) → IsBounded changes
      → ((j m : ℕ) → m ≤ last → Tells (is_present changes j m) (contents m j))
      → IsFirst (λ m. has_ceiling changes k.0 found m ≡ true) first last o
      → (m : ℕ) → first ≤ m → m ≤ last → FitsAt (call.Ceiling k) r m
      → (i : ℕ) × (o ≡ Some i) × SmallestAt (FitsAt (call.Ceiling k) r) first last i
  ceiling_smallest changes k found r o to back bounded keys h =
      smallest_first (λ m. has_ceiling changes k.0 found m ≡ true) (FitsAt (call.Ceiling k) r) first last
      (λ m x y g. passes_test changes bounded k.0 found m (ceiling_by (contents m) (λ j. is_present changes j m ≡ true) k.0 found
      (λ j c. told_yes (is_present changes j m) (keys j m y) c) (λ j p. (keys j m y).0 p) (to m g)))
      (λ m x y g. back m (ceiling_by (λ j. is_present changes j m ≡ true) (contents m) k.0 found
      (λ j p. (keys j m y).0 p) (λ j c. told_yes (is_present changes j m) (keys j m y) c) (tested changes bounded k.0 found m g)))
      o h

  pub fit_smallest : (changes : ℕ → List ℕ) (c : Call) (r : Reply) (o : Option ℕ) → IsBounded changes
      → ((j m : ℕ) → m ≤ last → Tells (is_present changes j m) (contents m j))
      → IsFirst (λ m. Passes changes c r m) first last o
      → ((m : ℕ) → first ≤ m → m ≤ last → counts m t ≡ counts last t)
      → FitsSometime q contents counts first last t c r → (k : ℕ) × (o ≡ Some k) × SmallestAt (FitsAt c r) first last k
  fit_smallest changes (call.Add k) reply.False o bounded keys h steady f =
      smallest_first (λ m. is_present changes k.0 m ≡ true) (FitsAt (call.Add k) reply.False) first last
      (λ m x y g. told_yes (is_present changes k.0 m) (keys k.0 m y) g)
      (λ m x y g. (keys k.0 m y).0 g) o h f.moment f.from f.upto f.fits
  fit_smallest changes (call.Add k) reply.Full o bounded keys h steady f =
      smallest_first (λ m. is_present changes k.0 m ≡ false) (FitsAt (call.Add k) reply.Full) first last
      (λ m x y g. told_no (is_present changes k.0 m) (keys k.0 m y) g.0)
      (λ m x y g. ((keys k.0 m y).1 g, steady m x y ∙ sym (steady f.moment f.from f.upto) ∙ f.fits.1)) o h f.moment f.from f.upto
      f.fits
  fit_smallest changes (call.Remove k) reply.False o bounded keys h steady f =
      smallest_first (λ m. is_present changes k.0 m ≡ false) (FitsAt (call.Remove k) reply.False) first last
      (λ m x y g. told_no (is_present changes k.0 m) (keys k.0 m y) g)
      (λ m x y g. (keys k.0 m y).1 g) o h f.moment f.from f.upto f.fits
  fit_smallest changes (call.Contains k) reply.True o bounded keys h steady f =
      smallest_first (λ m. is_present changes k.0 m ≡ true) (FitsAt (call.Contains k) reply.True) first last
      (λ m x y g. told_yes (is_present changes k.0 m) (keys k.0 m y) g)
      (λ m x y g. (keys k.0 m y).0 g) o h f.moment f.from f.upto f.fits
  fit_smallest changes (call.Contains k) reply.False o bounded keys h steady f =
      smallest_first (λ m. is_present changes k.0 m ≡ false) (FitsAt (call.Contains k) reply.False) first last
      (λ m x y g. told_no (is_present changes k.0 m) (keys k.0 m y) g)
      (λ m x y g. (keys k.0 m y).1 g) o h f.moment f.from f.upto f.fits
  fit_smallest changes (call.Ceiling k) (reply.At x) o bounded keys h steady f = ceiling_smallest changes k (Some x.0) (reply.At x) o
      (λ m e. e) (λ m e. e) bounded keys h f.moment f.from f.upto f.fits
  fit_smallest changes (call.Ceiling k) reply.Nothing o bounded keys h steady f = ceiling_smallest changes k None reply.Nothing o
      (λ m e. e) (λ m e. e) bounded keys h f.moment f.from f.upto f.fits
  fit_smallest changes c r o bounded keys h steady f = absurd (f.fits)

pub smallest_of : (q : ℕ) (contents : Contents) (counts : Counts) (x : TracedCall) (first last t : ℕ) (c : Call) (r : Reply) (k : ℕ)
    → x.begun ≡ first → x.thread ≡ t → x.call ≡ c → SmallestAt (FitsAt q contents counts first last t c r) first last k
    → IsSmallestFit q contents counts x last r k
smallest_of q contents counts x first last t c r k e f g l = record {
  from = subst (λ z. z ≤ k) (sym e) l.from;
  upto = l.upto;
  fits = subst (λ z. Fits q (contents k) (counts k z) x.call r) (sym f) (rw g l.holds);
  smallest = λ m a b h. l.smallest m (subst (λ z. z ≤ m) e a) b
      (subst (λ z. Fits q (contents m) (counts m t) z r) g (subst (λ z. Fits q (contents m) (counts m z) x.call r) f h));
}
