-- Assertions about nodes that a thread has locked, and the steps that can change locked nodes. They apply to every list
-- in which a thread writes links only while it holds node locks.
use Rattle.std.specs.Prelude.{◌≡◌, ◌≢◌, ℕ, ◌+◌, ◌*◌, ◌/◌, ◌%◌, ◌<◌, Bool, true, false, Option, Some, None, List, [], slice_set, refl}
use Rattle.std.proofs.Common.{arith, inl, inr, sym, ◌∙◌, ap}
use Rattle.lset_words.specs.Words.{key_index, link_index, lock_index, tail_word, node_count, word_count, slot_node, target, key_of, Sizes}
use Rattle.lset_words.specs.declared.Call.{Call}
use Rattle.lset_words.specs.declared.Key.{Key}
use Rattle.lset_steps.specs.declared.Action.{Action}
use Rattle.lset_steps.specs.declared.Action.TheVariants.{Load, Store, Exchange}
use Rattle.lset_steps.specs.Chain.{View, view, InChain, node_key, node_link, node_lock}
use Rattle.lset_steps.specs.Laws.{IsLockWord}
use Rattle.lset_steps.proofs.Memory.{WordStep, Memory, reads, fails, takes, gives, own_key, own_link, puts, sets_mark, cuts}
use Rattle.lset_steps.proofs.Memory.{drops, own_of, one_more, no_own, inner, apart, at_lock, at_mark, at_own_key, at_own_link}
use Rattle.lset_steps.proofs.AfterWrite.{lock_after_link, link_after_link, key_after_link, lock_after_key, link_after_key}
use Rattle.lset_steps.proofs.AfterWrite.{key_after_key, lock_after_lock, link_after_lock, key_after_lock}
use Rattle.lset_steps.proofs.QuietMove.{in_chain_published, quiet_keeps, chain_before, chain_on}
use Rattle.lset_steps.proofs.MarkMove.{mark_keeps}
use Rattle.lset_steps.proofs.Rely.{Rely, Guarded}
use Rattle.lset_steps.proofs.Replies.{Adding, Removing}

-- Holds if thread t holds the lock of node a, and a is in the chain.
pub record Held (v : View) (t a : ℕ) : Type 0 where
  pub mine : v.lock a ≡ t + 1
  pub at : InChain v a
  pub published : v.published a

pub head_held : {v : View} {t : ℕ} → v.published 0 → v.lock 0 ≡ t + 1 → Held v t 0
head_held published mine = record { mine = mine; at = ([], refl); published = published }

-- Holds if thread `t` holds the lock of `pred`, pred's key is smaller than `key`, and `curr` is the node after `pred`.
pub record Behind (v : View) (t key pred curr : ℕ) : Type 0 where
  pub held : Held v t pred
  pub inner : pred ≢ 1
  pub follows : v.link pred ≡ 2 * curr
  pub below : v.key pred < key
  pub next : v.published curr

-- Holds if thread `t` holds the locks of `pred` and of `curr`, the node after `pred`, and pred's key is smaller than
-- `key`.
pub record Between (v : View) (t key pred curr : ℕ) : Type 0 where
  pub walk : Behind v t key pred curr
  pub mine : v.lock curr ≡ t + 1

-- Holds if thread t holds the locks of two different nodes, pred and curr.
pub record Both (v : View) (t pred curr : ℕ) : Type 0 where
  pub pred_mine : v.lock pred ≡ t + 1
  pub curr_mine : v.lock curr ≡ t + 1
  pub distinct : curr ≢ pred

pub both_of : {v : View} {t key pred curr : ℕ} → curr ≢ pred → Between v t key pred curr → Both v t pred curr
both_of d b = record { pred_mine = b.walk.held.mine; curr_mine = b.mine; distinct = d }

pub in_chain : {v : View} {t key pred curr : ℕ} → Behind v t key pred curr → InChain v curr
in_chain {v} {t} {key} {pred} {curr} b =
    let follows : v.link pred ≡ 2 * curr = b.follows in
    let half : v.link pred / 2 ≡ curr = omega arith in
    chain_on v pred curr curr [] b.held.at b.inner half refl

-- The properties that a step preserves for thread `t`. The step is taken by another thread, or by `t` itself without
-- writing a link of the chain or releasing a lock.
pub record Leaves (v w : View) (t : ℕ) : Type 0 where
  pub used : w.used t ≡ v.used t
  pub grows : (a : ℕ) → v.published a → w.published a
  pub keys : (a : ℕ) → v.published a → w.key a ≡ v.key a
  pub locks : (a : ℕ) → v.lock a ≡ t + 1 → w.lock a ≡ t + 1
  pub links : (a : ℕ) → v.published a → v.lock a ≡ t + 1 → w.link a ≡ v.link a
  pub chain : (a : ℕ) → v.lock a ≡ t + 1 → InChain v a → InChain w a

pub leaves_of : {v w : View} {q t : ℕ} → Rely v w q t → Leaves v w t
leaves_of r = record { used = r.used; grows = r.goes.grows; keys = r.goes.keys; locks = r.lock; links = r.link; chain = r.chain }

pub rely_same : (v : View) (q t : ℕ) → Rely v v q t
rely_same v q t = record {
  goes = record { keys = λ i p. refl; grows = λ i p. p; kept = λ i p. inl refl; back = λ i p c. c };
  used = refl;
  list_lock = λ z. z;
  lock = λ a z. z;
  link = λ a p z. refl;
  chain = λ a z c. c;
  own_key = λ r. refl;
  own_link = λ r. refl;
}

module _ {v w : View} {t : ℕ} (s : Leaves v w t) where
  pub held_on : {a : ℕ} → Held v t a → Held w t a
  held_on {a} h = record { mine = s.locks a h.mine; at = s.chain a h.mine h.at; published = s.grows a h.published }

  pub below_on : (a key : ℕ) → v.published a → v.key a < key → w.key a < key
  below_on a key p h = rw (s.keys a p) h

  pub behind_on : {key pred curr : ℕ} → Behind v t key pred curr → Behind w t key pred curr
  behind_on {key} {pred} {curr} b = record {
    held = held_on b.held;
    inner = b.inner;
    follows = s.links pred b.held.published b.held.mine ∙ b.follows;
    below = below_on pred key b.held.published b.below;
    next = s.grows curr b.next;
  }

  pub between_on : {key pred curr : ℕ} → Between v t key pred curr → Between w t key pred curr
  between_on {key} {pred} {curr} b = record { walk = behind_on b.walk; mine = s.locks curr b.mine }

  pub both_on : {pred curr : ℕ} → Both v t pred curr → Both w t pred curr
  both_on {pred} {curr} b =
      record { pred_mine = s.locks pred b.pred_mine; curr_mine = s.locks curr b.curr_mine; distinct = b.distinct }

  pub adding_on : {q curr : ℕ} {op : Call} → v.published curr → Adding v t q curr op → Adding w t q curr op
  adding_on {q} {curr} p a = record { call = a.call; room = rw s.used a.room; above = rw (s.keys curr p) a.above }

  pub removing_on : {curr : ℕ} {op : Call} → v.published curr → Removing v curr op → Removing w curr op
  removing_on {curr} p a = record { call = a.call; found = s.keys curr p ∙ a.found }

module _ {v w : View} {q t : ℕ} (r : Rely v w q t) where
  pub own_key_on : (x : ℕ) → v.used t < q → v.key (slot_node q t (v.used t)) ≡ x → w.key (slot_node q t (w.used t)) ≡ x
  own_key_on x room e = rw r.used (r.own_key room ∙ e)

  pub own_link_on : (x : ℕ) → v.used t < q → v.link (slot_node q t (v.used t)) ≡ x → w.link (slot_node q t (w.used t)) ≡ x
  own_link_on x room e = rw r.used (r.own_link room ∙ e)

-- Holds if a step is allowed, and writes the link of a node in the chain only if the thread that takes the step holds
-- the node's lock.
abbrev pub LockedStep : (marks : Bool) (sz : Sizes) (t : ℕ) (ws : List ℕ) (used : ℕ → ℕ) (a : Action) (ws' : List ℕ) (used' : ℕ →
    ℕ)
    (change : Option (Key × Bool)) → Type 0
LockedStep marks sz t ws used a ws' used' change =
    (c : WordStep marks sz t ws used a ws' used' change) × Guarded marks sz t ws used a ws' used' change c

module _ {marks : Bool} {sz : Sizes} {t : ℕ} {ws : List ℕ} {used : ℕ → ℕ} where
  pub reads_word : (x : ℕ) → x < word_count sz → LockedStep marks sz t ws used (Load x) ws used None
  reads_word x l = (reads x l, tt)

  pub frees : (a : ℕ) → a < node_count sz → node_lock ws a ≡ t + 1
      → LockedStep marks sz t ws used (Store (lock_index a) 0) (slice_set ws (lock_index a) 0) used None
  frees a l mine = (gives (lock_index a) (omega arith) (inr (a, refl)) mine, tt)

  pub locks_free : (a : ℕ) → a < node_count sz → node_lock ws a ≡ 0
      → LockedStep marks sz t ws used (Exchange (lock_index a) 0 (t + 1)) (slice_set ws (lock_index a) (t + 1)) used None
  locks_free a l free = (takes (lock_index a) (omega arith) (inr (a, refl)) free, tt)

  pub finds_locked : (a : ℕ) → a < node_count sz → node_lock ws a ≢ 0
      → LockedStep marks sz t ws used (Exchange (lock_index a) 0 (t + 1)) ws used None
  finds_locked a l taken = (fails (lock_index a) 0 (t + 1) (omega arith) taken (λ k. (refl, refl)), tt)

  pub writes_own_key : (x : ℕ) → used t < sz.quota
      → LockedStep marks sz t ws used (Store (key_index (own_of sz.quota t used)) x)
      (slice_set ws (key_index (own_of sz.quota t used)) x) used None
  writes_own_key x room = (own_key x room, tt)

  pub writes_own_link : (c : ℕ) → used t < sz.quota
      → LockedStep marks sz t ws used (Store (link_index (own_of sz.quota t used)) (2 * c))
      (slice_set ws (link_index (own_of sz.quota t used)) (2 * c)) used None
  writes_own_link c room = (own_link c room, tt)

  pub puts_behind : {pred curr : ℕ} {op : Call} → Behind (view sz ws used) t (target op) pred curr
      → Adding (view sz ws used) t sz.quota curr op
      → node_key ws (own_of sz.quota t used) ≡ target op → node_link ws (own_of sz.quota t used) ≡ 2 * curr
      → LockedStep marks sz t ws used (Store (link_index pred) (2 * own_of sz.quota t used))
      (slice_set ws (link_index pred) (2 * own_of sz.quota t used)) (one_more used t) (Some (key_of op, true))
  puts_behind {pred} {curr} {op} b a key link =
      let x : ℕ = 2 * own_of sz.quota t used in (
        puts (Store (link_index pred) x) pred curr (key_of op) (inl refl) b.held.at b.inner b.follows a.room link key b.below
            a.above,
        b.held.mine,
      )

pub found_no_tail : {marks : Bool} {sz : Sizes} {ws : List ℕ} {used : ℕ → ℕ} (m : Memory marks sz ws used) {curr : ℕ} {op : Call}
    → Removing (view sz ws used) curr op → target op < tail_word → curr ≢ 1
found_no_tail {ws = ws} m {curr} {op} a low e =
    let same : node_key ws curr ≡ node_key ws 1 = ap (node_key ws) e in
    let tail : node_key ws 1 ≡ tail_word = m.tail_key in
    let found : node_key ws curr ≡ target op = a.found in
    omega arith

pub stays_behind : {marks : Bool} {sz : Sizes} {ws : List ℕ} {used : ℕ → ℕ} (m : Memory marks sz ws used) {a : ℕ} (x : ℕ)
    (used' : ℕ → ℕ) → InChain (view sz ws used) a → InChain (view sz (slice_set ws (link_index a) x) used') a
stays_behind {marks} {sz} {ws} {used} m {a} x used' i =
    chain_before (view sz ws used) (view sz (slice_set ws (link_index a) x) used') m.ordered a a
    (λ b p less. ap (λ y. y / 2) (link_after_link ws a x b (apart marks sz ws used m b a less))) (omega arith) i

module _ {marks : Bool} {sz : Sizes} {ws : List ℕ} {used : ℕ → ℕ} (m : Memory marks sz ws used) {t : ℕ} where
  pub held_from : {a : ℕ} → node_lock ws a ≡ t + 1 → InChain (view sz ws used) a → Held (view sz ws used) t a
  held_from {a} mine i = record { mine = mine; at = i; published = in_chain_published (view sz ws used) m.ordered a i }

  pub behind_from : {pred key : ℕ} → Held (view sz ws used) t pred → node_link ws pred % 2 ≡ 0 → node_key ws pred < key
      → key < tail_word
      → Behind (view sz ws used) t key pred (node_link ws pred / 2)
  behind_from {pred} {key} h even below low =
      let inn : pred ≢ 1 = inner marks sz ws used m pred key below low in
      record { held = h; inner = inn; follows = omega arith; below = below; next = m.ordered.next_published pred h.published inn }

  pub curr_is_not_pred : {key pred curr : ℕ} → Behind (view sz ws used) t key pred curr → curr ≢ pred
  curr_is_not_pred {key} {pred} {curr} b e =
      let increases : node_key ws pred < node_key ws (node_link ws pred / 2) = m.ordered.increases pred b.held.published b.inner in
      let follows : node_link ws pred ≡ 2 * curr = b.follows in
      let half : node_link ws pred / 2 ≡ pred = omega arith in
      let same : node_key ws (node_link ws pred / 2) ≡ node_key ws pred = ap (node_key ws) half in
      omega arith

  pub both_after : {key pred curr : ℕ} (p x : ℕ) (used' : ℕ → ℕ) → Between (view sz ws used) t key pred curr
      → Both (view sz (slice_set ws (link_index p) x) used') t pred curr
  both_after {key} {pred} {curr} p x used' b = record {
    pred_mine = lock_after_link ws p x pred ∙ b.walk.held.mine;
    curr_mine = lock_after_link ws p x curr ∙ b.mine;
    distinct = curr_is_not_pred b.walk;
  }

  pub found_next : {key pred curr : ℕ} {op : Call} → Behind (view sz ws used) t key pred curr
      → Removing (view sz ws used) curr op
      → target op < tail_word → (view sz ws used).published (node_link ws curr / 2)
  found_next {key} {pred} {curr} b a low = m.ordered.next_published curr b.next (found_no_tail m a low)

  pub drops_between : {pred curr : ℕ} {op : Call} (next : ℕ) → marks ≡ false
      → Between (view sz ws used) t (target op) pred curr
      → Removing (view sz ws used) curr op → node_link ws curr / 2 ≡ next → target op < tail_word
      → LockedStep marks sz t ws used (Store (link_index pred) (2 * next)) (slice_set ws (link_index pred) (2 * next)) used
      (Some (key_of op, false))
  drops_between {pred} {curr} {op} next plain b a leads low = (
    drops (Store (link_index pred) (2 * next)) pred curr next (key_of op) plain (inl refl) b.walk.held.at b.walk.inner
        (found_no_tail m a low)
        b.walk.follows leads a.found,
    (b.walk.held.mine, b.mine),
  )

  -- ---- Lemmas about marking `curr` and then unlinking it
  pub marks_between : {pred curr : ℕ} {op : Call} (x : ℕ) → marks ≡ true → Between (view sz ws used) t (target op) pred curr
      → Removing (view sz ws used) curr op → node_link ws curr % 2 ≡ 0 → x ≡ node_link ws curr + 1 → target op < tail_word
      → LockedStep marks sz t ws used (Store (link_index curr) x) (slice_set ws (link_index curr) x) used
      (Some (key_of op, false))
  marks_between {pred} {curr} {op} x lists b a even is low = (
    sets_mark (Store (link_index curr) x) curr x (key_of op) lists (inl refl) (in_chain b.walk) (found_no_tail m a low) even is
        a.found,
    b.mine,
  )

  pub cuts_between : {pred curr : ℕ} {op : Call} (next : ℕ) → Between (view sz ws used) t (target op) pred curr
      → Removing (view sz ws used) curr op → node_link ws curr ≡ 2 * next + 1 → target op < tail_word
      → LockedStep marks sz t ws used (Store (link_index pred) (2 * next)) (slice_set ws (link_index pred) (2 * next)) used None
  cuts_between {pred} {curr} {op} next b a leads low = (
    cuts (Store (link_index pred) (2 * next)) pred curr next (inl refl) b.walk.held.at b.walk.inner (found_no_tail m a low)
        b.walk.follows leads,
    (b.walk.held.mine, b.mine),
  )

module _ {marks : Bool} {sz : Sizes} {ws : List ℕ} {used : ℕ → ℕ} (m : Memory marks sz ws used) {t : ℕ} (tn : t < sz.threads) where
  pub leaves_locked : (a : ℕ) → node_lock ws a ≡ 0
      → Leaves (view sz ws used) (view sz (slice_set ws (lock_index a) (t + 1)) used) t
  leaves_locked a free =
      let k : IsLockWord (lock_index a) = inr (a, refl) in
      record {
        used = refl;
        grows = λ b p. p;
        keys = λ b p. key_after_lock ws (lock_index a) (t + 1) b k;
        locks = λ b z. lock_after_lock ws a (t + 1) b
            (λ e. let f : node_lock ws b ≡ node_lock ws a = ap (node_lock ws) e in omega arith) ∙ z;
        links = λ b p z. link_after_lock ws (lock_index a) (t + 1) b k;
        chain = λ b z i. quiet_keeps _ _ m.ordered (at_lock marks sz ws used m t tn (lock_index a) (t + 1) k) b i;
      }

  pub held_past : {a : ℕ} (b : ℕ) → a ≢ b → Held (view sz ws used) t a
      → Held (view sz (slice_set ws (lock_index b) 0) used) t a
  held_past {a} b d h = record {
    mine = lock_after_lock ws b 0 a d ∙ h.mine;
    at = quiet_keeps _ _ m.ordered (at_lock marks sz ws used m t tn (lock_index b) 0 (inr (b, refl))) a h.at;
    published = h.published;
  }

  pub between_marked : {pred curr : ℕ} {op : Call} (x : ℕ) → Between (view sz ws used) t (target op) pred curr
      → Removing (view sz ws used) curr op → node_link ws curr % 2 ≡ 0 → x ≡ node_link ws curr + 1 → target op < tail_word
      → Between (view sz (slice_set ws (link_index curr) x) used) t (target op) pred curr
  between_marked {pred} {curr} {op} x b a even is low =
      let w : View = view sz (slice_set ws (link_index curr) x) used in
      let apart : curr ≢ pred = curr_is_not_pred m b.walk in
      record {
        walk = record {
          held = record {
            mine = lock_after_link ws curr x pred ∙ b.walk.held.mine;
            at = mark_keeps (view sz ws used) w m.ordered curr (key_of op).0 (at_mark marks sz ws used m t tn curr x (key_of op).0
                (in_chain b.walk) (found_no_tail m a low) even is a.found) pred b.walk.held.at;
            published = b.walk.held.published;
          };
          inner = b.walk.inner;
          follows = link_after_link ws curr x pred (λ f. apart (sym f)) ∙ b.walk.follows;
          below = rw (key_after_link ws curr x pred) b.walk.below;
          next = b.walk.next;
        };
        mine = lock_after_link ws curr x curr ∙ b.mine;
      }

  pub leaves_own_key : (x : ℕ) → used t < sz.quota
      → Leaves (view sz ws used) (view sz (slice_set ws (key_index (own_of sz.quota t used)) x) used) t
  leaves_own_key x r = record {
    used = refl;
    grows = λ a p. p;
    keys = λ a p. key_after_key ws (own_of sz.quota t used) x a (no_own marks sz ws used m t a tn r p);
    locks = λ a z. lock_after_key ws (own_of sz.quota t used) x a ∙ z;
    links = λ a p z. link_after_key ws (own_of sz.quota t used) x a;
    chain = λ a z i. quiet_keeps _ _ m.ordered (at_own_key marks sz ws used m t tn x r) a i;
  }

  pub leaves_own_link : (x : ℕ) → used t < sz.quota
      → Leaves (view sz ws used) (view sz (slice_set ws (link_index (own_of sz.quota t used)) x) used) t
  leaves_own_link x r = record {
    used = refl;
    grows = λ a p. p;
    keys = λ a p. key_after_link ws (own_of sz.quota t used) x a;
    locks = λ a z. lock_after_link ws (own_of sz.quota t used) x a ∙ z;
    links = λ a p z. link_after_link ws (own_of sz.quota t used) x a (no_own marks sz ws used m t a tn r p);
    chain = λ a z i. quiet_keeps _ _ m.ordered (at_own_link marks sz ws used m t tn x r) a i;
  }
