-- Assertions about the two nodes that a walk without locks has reached: both are published (have been in the chain, but
-- can have left it), and the first has a smaller key than the call's key.
use Rattle.std.specs.Prelude.{◌≡◌, ◌≢◌, ℕ, ◌+◌, ◌*◌, ◌/◌, ◌<◌, ◌≤◌, Bool, true, None, List, slice_set}
use Rattle.std.proofs.Common.{arith, ◌∙◌, ap}
use Rattle.lset_words.specs.Words.{lock_index, tail_word, node_count, Sizes}
use Rattle.lset_steps.specs.declared.Action.TheVariants.{Exchange}
use Rattle.lset_steps.specs.Chain.{View, view, node_key, node_link, node_lock}
use Rattle.lset_steps.proofs.Moves.{KeepsNodes}
use Rattle.lset_steps.proofs.Memory.{Memory, inner, inside, next_published, goes_on}
use Rattle.lset_steps.proofs.Held.{Behind, locks_free}

-- Holds if the key of `pred` is smaller than `key`, and `pred` and `curr` are published (have been in the chain).
pub record Spot (v : View) (key pred curr : ℕ) : Type 0 where
  pub pred_published : v.published pred
  pub below : v.key pred < key
  pub curr_published : v.published curr

-- Extends `Spot`: `ckey`, the key word of `curr` that the walk read, is not smaller than the call's key word.
pub record Found (v : View) (key pred curr ckey : ℕ) : Type 0 where
  pub spot : Spot v key pred curr
  pub is : v.key curr ≡ ckey
  pub above : key ≤ ckey

pub found_apart : {v : View} {key pred curr ckey : ℕ} → Found v key pred curr ckey → curr ≢ pred
found_apart {v} {key} {pred} {curr} {ckey} f e =
    let same : v.key curr ≡ v.key pred = ap v.key e in
    let below : v.key pred < key = f.spot.below in
    let is : v.key curr ≡ ckey = f.is in
    let above : key ≤ ckey = f.above in
    omega arith

module _ {v w : View} (g : KeepsNodes v w) where
  pub same_key_kept : (a : ℕ) {x : ℕ} → v.published a → v.key a ≡ x → w.key a ≡ x
  same_key_kept a p e = g.keys a p ∙ e

  pub spot_kept : {key pred curr : ℕ} → Spot v key pred curr → Spot w key pred curr
  spot_kept {key} {pred} {curr} s = record {
    pred_published = g.grows pred s.pred_published;
    below = rw (g.keys pred s.pred_published) s.below;
    curr_published = g.grows curr s.curr_published;
  }

  pub found_kept : {key pred curr ckey : ℕ} → Found v key pred curr ckey → Found w key pred curr ckey
  found_kept {key} {pred} {curr} f = record {
    spot = spot_kept f.spot;
    is = same_key_kept curr f.spot.curr_published f.is;
    above = f.above;
  }

module _ {marks : Bool} {sz : Sizes} {ws : List ℕ} {used : ℕ → ℕ} (m : Memory marks sz ws used) where
  pub spot_behind : {key : ℕ} (a : ℕ) → (view sz ws used).published a → node_key ws a < key
      → Spot (view sz ws used) key a (node_link ws a / 2)
  spot_behind a p below = record { pred_published = p; below = below; curr_published = next_published marks sz ws used m a p }

  pub spot_behind_head : {key : ℕ} → 0 < key → Spot (view sz ws used) key 0 (node_link ws 0 / 2)
  spot_behind_head low = let head : node_key ws 0 ≡ 0 = m.head_key in spot_behind 0 m.ordered.head_published (omega arith)

  pub next_inside : (a : ℕ) → (view sz ws used).published a → node_link ws a / 2 < node_count sz
  next_inside a p = inside marks sz ws used m (node_link ws a / 2) (next_published marks sz ws used m a p)

  pub small_key : (a : ℕ) → (view sz ws used).published a → node_key ws a ≤ tail_word
  small_key a p =
      let top : node_key ws a ≤ node_key ws 1 = m.ordered.top a p in let tail : node_key ws 1 ≡ tail_word = m.tail_key in
      omega arith

  pub keeps_locked : {t : ℕ} → t < sz.threads → (a : ℕ) → a < node_count sz → node_lock ws a ≡ 0
      → KeepsNodes (view sz ws used) (view sz (slice_set ws (lock_index a) (t + 1)) used)
  keeps_locked {t} tn a inn free =
      goes_on marks sz ws used m t tn (Exchange (lock_index a) 0 (t + 1)) (slice_set ws (lock_index a) (t + 1)) used None
      (locks_free a inn free).0

pub behind_of_load : {sz : Sizes} {ws : List ℕ} {used : ℕ → ℕ} (m : Memory true sz ws used) {t key pred curr : ℕ} → key < tail_word
    → Spot (view sz ws used) key pred curr → node_lock ws pred ≡ t + 1 → node_link ws pred ≡ 2 * curr
    → Behind (view sz ws used) t key pred curr
behind_of_load {sz} {ws} {used} m {t} {key} {pred} low s mine follows = record {
  held = record { mine = mine; at = m.marked pred s.pred_published (omega arith); published = s.pred_published };
  inner = inner true sz ws used m pred key s.below low;
  follows = follows;
  below = s.below;
  next = s.curr_published;
}
