-- Proof that a `contains` takes a bounded number of steps: the keys that it reads increase, so it visits no node twice,
-- and the number of nodes is limited.
use Rattle.std.specs.Prelude.{◌≡◌, ◌≢◌, ℕ, ◌+◌, ◌*◌, ◌/◌, ◌%◌, ◌<◌, ◌≤◌, ◌⊎◌, Bool, true, false, if◌then◌else◌, ◌==◌, slice_set}
use Rattle.std.specs.Prelude.{slice_index_or, length, refl}
use Rattle.std.proofs.Common.{arith, inl, inr, sym, ◌∙◌, ap, subst, zero, suc, get_or-set_other, get_or-set_same}
use Rattle.std.proofs.lemmas.List.FromFn.{get_or-map-range_with_len}
use Rattle.lset_words.proofs.Numbers.{same_or_not, below_or_not, if_same, if_other, if_below, if_not_below}
use Rattle.lset_words.specs.Words.{key_index, link_index, node_count, tail_word, target, Opening, sizes}
use Rattle.lset_words.specs.declared.Call.{Call}
use Rattle.lset_words.specs.declared.Call.TheVariants.{Add, Remove, Contains, Ceiling}
use Rattle.lset_words.specs.declared.Reply.TheVariants.{True, False, Nothing}
use Rattle.lset_steps.specs.declared.Local.{Local}
use Rattle.lset_steps.specs.declared.Fed.{Fed}
use Rattle.lset_steps.specs.declared.Action.TheVariants.{Load}
use Rattle.lset_steps.specs.declared.Event.{Event}
use Rattle.lset_steps.specs.declared.Event.TheVariants.{Begin, Go}
use Rattle.lset_steps.specs.Steps.{Table, State, Run, Enabled, state_at, after, local_of, seen_by, seen_next, idle}
use Rattle.lset_steps.specs.Chain.{View, node_key, node_link}
use Rattle.lset_steps.specs.Laws.{Lawful, StateLaws, view_of, views}
use Rattle.lset_steps.specs.Promises.{IsContains, IsRead}
use Rattle.lset_steps.specs.ReadRows.{read_key, read_mark, ceiling_key, ceiling_mark, continued, leaves_with}
use Rattle.lset_steps.specs.Rows.{ceiling_at}
use Rattle.lset_steps.proofs.ReadTables.{HasReadRows, IsReadRow}
use Rattle.lset_steps.specs.BoundedReads.{BoundedReads, ReadsNext, steps_after, steps_since}

-- Returns how many of the numbers below `n` satisfy `f`.
abbrev count : (ℕ → Bool) → ℕ → ℕ
count f zero = 0
count f (suc n) = (if f n then 1 else 0) + count f n

one_at_most : (b : Bool) → (if b then 1 else 0) ≤ 1
one_at_most true = omega arith
one_at_most false = omega arith

count_upto : (f : ℕ → Bool) (n : ℕ) → count f n ≤ n
count_upto f zero = omega arith
count_upto f (suc n) =
    let i : count f n ≤ n = count_upto f n in let b : (if f n then 1 else 0) ≤ 1 = one_at_most (f n) in omega arith

abbrev none : ℕ → Bool
none i = false

count_none : (n : ℕ) → count none n ≡ 0
count_none zero = refl
count_none (suc n) = rw (count_none n) refl

abbrev with_one : ℕ → (ℕ → Bool) → ℕ → Bool
with_one c f i = if i == c then true else f i

count_past : (f : ℕ → Bool) (c n : ℕ) → n ≤ c → count (with_one c f) n ≡ count f n
count_past f c zero l = refl
count_past f c (suc n) l =
    let i : count (with_one c f) n ≡ count f n = count_past f c n (omega arith) in
    let e : with_one c f n ≡ f n = if_other n c (omega arith) true (f n) in
    rw (e, i) refl

count_more : (f : ℕ → Bool) (c n : ℕ) → c < n → f c ≡ false → count (with_one c f) n ≡ suc (count f n)
count_more f c zero l no_c = absurd (omega arith)
count_more f c (suc n) l no_c = elim (same_or_not n c) [
  | inl y ↦
      (let i : count (with_one c f) n ≡ count f n = count_past f c n (omega arith) in
      let e : with_one c f n ≡ true = if_same n c y true (f n) in
      let z : f n ≡ false = ap f y ∙ no_c in
      rw (e, i, z) (omega arith))
  | inr y ↦
      (let i : count (with_one c f) n ≡ suc (count f n) = count_more f c n (omega arith) no_c in
      let e : with_one c f n ≡ f n = if_other n c y true (f n) in
      rw (e, i) (omega arith))
]

true_or_false : (b : Bool) → (b ≡ true) ⊎ (b ≡ false)
true_or_false true = inl refl
true_or_false false = inr refl

-- The nodes that a call has visited: `amount` published nodes (nodes that have been in the chain), with numbers below
-- `size` and key words below `below`.
record Tally (v : View) (size below amount : ℕ) : Type 0 where
  met : ℕ → Bool
  are : (i : ℕ) → met i ≡ true → v.published i × (v.key i < below)
  amount_is : count met size ≡ amount

tally_none : (v : View) (size below : ℕ) → Tally v size below 0
tally_none v size below = record { met = none; are = λ i e. absurd (let z : false ≡ true = e in cc); amount_is = count_none size }

tally_below : {v : View} {size below amount : ℕ} (more : ℕ) → below ≤ more → Tally v size below amount → Tally v size more amount
tally_below {v} {size} {below} more le a = record {
  met = a.met;
  are = λ i e. let z : v.key i < below = (a.are i e).1 in ((a.are i e).0, omega arith);
  amount_is = a.amount_is;
}

tally_more : {v : View} {size amount : ℕ} (c : ℕ) → v.published c → c < size → Tally v size (v.key c) amount
    → Tally v size (v.key c + 1) (suc amount)
tally_more {v} {size} {amount} c p l a = record {
  met = with_one c a.met;
  are = λ i e. elim (same_or_not i c) [
    | inl y ↦ (subst (λ x. v.published x) (sym y) p, (let z : v.key i ≡ v.key c = ap v.key y in omega arith))
    | inr y ↦ (let f : a.met i ≡ true = sym (if_other i c y true (a.met i)) ∙ e in
        let z : v.key i < v.key c = (a.are i f).1 in ((a.are i f).0, omega arith))
  ];
  amount_is = count_more a.met c size l (elim (true_or_false (a.met c)) [
    | inl y ↦ absurd (let z : v.key c < v.key c = (a.are c y).1 in omega arith)
    | inr y ↦ y
  ]) ∙ ap (λ k. suc k) a.amount_is;
}

tally_few : {v : View} {size below amount : ℕ} → v.published 1 → 1 < size → below ≤ v.key 1 → Tally v size below amount
    → amount < size
tally_few {v} {size} {below} {amount} p l le a =
    let b : Tally v size (v.key 1 + 1) (suc amount) = tally_more 1 p l (tally_below (v.key 1) le a) in
    let c : count b.met size ≤ size = count_upto b.met size in
    let e : count b.met size ≡ suc amount = b.amount_is in
    omega arith

-- Holds if every node that is published (has been in the chain) at one moment is still published at a later moment,
-- with the same key.
abbrev Later : View → View → Type 0
Later v w = (i : ℕ) → v.published i → w.published i × (w.key i ≡ v.key i)

tally_on : {v w : View} {size below amount : ℕ} → Later v w → Tally v size below amount → Tally w size below amount
tally_on {v} {w} {size} {below} g a = record {
  met = a.met;
  are = λ i e.
      let p = a.are i e in let z : v.key i < below = p.1 in let y : w.key i ≡ v.key i = (g i p.0).1 in
      ((g i p.0).0, omega arith);
  amount_is = a.amount_is;
}

-- Holds if `pc` is one of the rows of the step table for a `ceiling` that takes no lock.
abbrev IsCeilingRow : ℕ → Type 0
IsCeilingRow pc = (pc ≡ 23) ⊎ (pc ≡ 24) ⊎ (pc ≡ 25)

-- The progress of a thread's call after `steps` steps. At rows 20 to 22 of the step table (the rows of `contains`), the
-- number of visited nodes determines the number of steps.
data Walked (v : View) (size steps : ℕ) (l : Local) : Type 0 where
  resting : l.pc ≡ 0 → Walked v size steps l
  writing : (IsRead l.call → ⊥) → Walked v size steps l
  searching : (IsContains l.call → ⊥) → IsCeilingRow l.pc → Walked v size steps l
  before_link : l.pc ≡ 20 → v.published l.curr → v.key l.curr < target l.call → (met : ℕ)
      → Tally v size (v.key l.curr + 1) met → steps + 2 ≡ 2 * met → Walked v size steps l
  before_key : l.pc ≡ 21 → v.published l.curr → (met : ℕ)
      → Tally v size (v.key l.curr) met → steps + 1 ≡ 2 * met → Walked v size steps l
  before_mark : l.pc ≡ 22 → v.published l.curr → v.key l.curr ≡ target l.call → (met : ℕ)
      → Tally v size (v.key l.curr) met → steps ≡ 2 * met → Walked v size steps l

walked_on : {v w : View} {size steps : ℕ} {l : Local} → Later v w → Walked v size steps l → Walked w size steps l
walked_on g (resting e) = resting e
walked_on g (writing c) = writing c
walked_on g (searching c r) = searching c r
walked_on {v} {w} {size} {steps} {l} g (before_link e p lt met a s) =
    let z : w.key l.curr ≡ v.key l.curr = (g l.curr p).1 in
    before_link e (g l.curr p).0 (omega arith) met (tally_below (w.key l.curr + 1) (omega arith) (tally_on g a)) s
walked_on {v} {w} {size} {steps} {l} g (before_key e p met a s) =
    let z : w.key l.curr ≡ v.key l.curr = (g l.curr p).1 in
    before_key e (g l.curr p).0 met (tally_below (w.key l.curr) (omega arith) (tally_on g a)) s
walked_on {v} {w} {size} {steps} {l} g (before_mark e p f met a s) =
    let z : w.key l.curr ≡ v.key l.curr = (g l.curr p).1 in
    before_mark e (g l.curr p).0 (z ∙ f) met (tally_below (w.key l.curr) (omega arith) (tally_on g a)) s

no_read : (c : Call) → (IsRead c → ⊥) → IsContains c → ⊥
no_read (Contains k) h r = h tt
no_read c h r = r

module _ (T : Table) (law : Lawful T) (rows : HasReadRows T) (op : Opening) where
  abbrev size : ℕ
  size = node_count (sizes op)

  -- Lemmas about a step of thread `t` in state `s`.
  module _ (s : State) (o : StateLaws T.marks (sizes op) s) (t : ℕ) (th : t < op.threads) (steps : ℕ) where
    abbrev V : View
    V = view_of (sizes op) s

    abbrev L : Local
    L = local_of s t

    abbrev Next : Type 0
    Next = Walked V size (suc steps) (T.feed L (seen_next T s t)).local

    goes_to : (f : Fed) → T.feed L (seen_next T s t) ≡ f → Walked V size (suc steps) f.local → Next
    goes_to f e w = subst (λ x. Walked V size (suc steps) x.local) (sym e) w

    not_tail : V.key L.curr < target L.call → L.curr ≢ 1
    not_tail lt e =
        let low : target L.call < tail_word = (o.threads t th).low in
        let k : V.key L.curr ≡ V.key 1 = ap V.key e in
        let top : V.key 1 ≡ tail_word = o.tail_key in
        omega arith

    own_step : L.pc ≢ 0 → (T.feed L (seen_next T s t)).local.call ≡ L.call → Walked V size steps L → Next
    own_step busy same (resting e) = absurd (busy e)
    own_step busy same (writing c) = writing (λ r. c (subst IsRead same r))
    own_step busy same (searching c (inl e)) =
        let feeds : T.feed L (seen_next T s t) ≡ continued (record L { pc = 24; curr = seen_next T s t / 2 }) =
        rows.feeds L (seen_next T s t) (inr (inr (inr (inl e)))) ∙ (rw e refl) in
        goes_to (continued (record L { pc = 24; curr = seen_next T s t / 2 })) feeds (searching c (inr (inl refl)))
    own_step busy same (searching c (inr (inl e))) =
        let x : ℕ = seen_next T s t in let k : ℕ = target L.call in
        let feeds : T.feed L (seen_next T s t) ≡ ceiling_key L (seen_next T s t) =
        rows.feeds L (seen_next T s t) (inr (inr (inr (inr (inl e))))) ∙ (rw e refl) in
        let on : Fed = continued (record L { pc = 23; ckey = x }) in
        let none : Fed = leaves_with Nothing (record L { ckey = x }) in
        let stop : Fed = continued (record L { pc = 25; ckey = x }) in
        elim (below_or_not x k) [
          | inl lt ↦ goes_to on (feeds ∙ if_below x k lt on (if x == tail_word then none else stop)) (searching c (inl refl))
          | inr ge ↦
              (let skip = feeds ∙ if_not_below x k ge on (if x == tail_word then none else stop) in
              elim (same_or_not x tail_word) [
                | inl y ↦ goes_to none (skip ∙ if_same x tail_word y none stop) (resting refl)
                | inr y ↦ goes_to stop (skip ∙ if_other x tail_word y none stop) (searching c (inr (inr refl)))
              ])
        ]
    own_step busy same (searching c (inr (inr e))) =
        let x : ℕ = seen_next T s t in
        let feeds : T.feed L (seen_next T s t) ≡ ceiling_mark L (seen_next T s t) =
        rows.feeds L (seen_next T s t) (inr (inr (inr (inr (inr e))))) ∙ (rw e refl) in
        let found : Fed = leaves_with (ceiling_at L.ckey) L in
        let again : Fed = continued (record L { pc = 23; curr = 0 }) in
        elim (same_or_not (x % 2) 0) [
          | inl y ↦ goes_to found (feeds ∙ if_same (x % 2) 0 y found again) (resting refl)
          | inr y ↦ goes_to again (feeds ∙ if_other (x % 2) 0 y found again) (searching c (inl refl))
        ]
    own_step busy same (before_link e p lt met a m) =
        let acts : T.next L ≡ Load (link_index L.curr) = rows.acts L (inl e) ∙ (rw e refl) in
        let seen : seen_next T s t ≡ node_link s.words L.curr = ap (seen_by s.words) acts in
        let feeds : T.feed L (seen_next T s t) ≡ continued (record L { pc = 21; curr = seen_next T s t / 2 }) =
        rows.feeds L (seen_next T s t) (inl e) ∙ (rw e refl) in
        let user : L.curr ≢ 1 = not_tail lt in
        let half : seen_next T s t / 2 ≡ V.link L.curr / 2 = ap (λ x. x / 2) seen in
        let increases : V.key L.curr < V.key (V.link L.curr / 2) = o.ordered.increases L.curr p user in
        let next : V.key (seen_next T s t / 2) ≡ V.key (V.link L.curr / 2) = ap V.key half in
        goes_to (continued (record L { pc = 21; curr = seen_next T s t / 2 })) feeds
        (before_key refl (subst (λ x. V.published x) (sym half) (o.ordered.next_published L.curr p user)) met
        (tally_below (V.key (seen_next T s t / 2)) (omega arith) a) (omega arith))
    own_step busy same (before_key e p met a m) =
        let acts : T.next L ≡ Load (key_index L.curr) = rows.acts L (inr (inl e)) ∙ (rw e refl) in
        let seen : seen_next T s t ≡ node_key s.words L.curr = ap (seen_by s.words) acts in
        let feeds : T.feed L (seen_next T s t) ≡ read_key L (seen_next T s t) =
        rows.feeds L (seen_next T s t) (inr (inl e)) ∙ (rw e refl) in
        let on : Fed = continued (record L { pc = 20 }) in let found : Fed = continued (record L { pc = 22 }) in
        let x : ℕ = seen_next T s t in let k : ℕ = target L.call in
        let is : seen_next T s t ≡ V.key L.curr = seen in
        let inn : L.curr < size = o.inside L.curr p in
        elim (below_or_not x k) [
          | inl lt ↦ goes_to on (feeds ∙ if_below x k lt on (if x == k then found else leaves_with False L))
              (before_link refl p (omega arith) (suc met) (tally_more L.curr p inn a) (omega arith))
          | inr ge ↦
              (let skip = feeds ∙ if_not_below x k ge on (if x == k then found else leaves_with False L) in
              elim (same_or_not x k) [
                | inl y ↦ goes_to found (skip ∙ if_same x k y found (leaves_with False L))
                    (before_mark refl p (sym seen ∙ y) met a (omega arith))
                | inr y ↦ goes_to (leaves_with False L) (skip ∙ if_other x k y found (leaves_with False L)) (resting refl)
              ])
        ]
    own_step busy same (before_mark e p f met a m) =
        let feeds : T.feed L (seen_next T s t) ≡ read_mark L (seen_next T s t) =
        rows.feeds L (seen_next T s t) (inr (inr (inl e))) ∙ (rw e refl) in
        let x : ℕ = seen_next T s t in
        elim (same_or_not (x % 2) 0) [
          | inl y ↦ goes_to (leaves_with True L) (feeds ∙ if_same (x % 2) 0 y (leaves_with True L) (leaves_with False L))
              (resting refl)
          | inr y ↦ goes_to (leaves_with False L) (feeds ∙ if_other (x % 2) 0 y (leaves_with True L) (leaves_with False L))
              (resting refl)
        ]

  starts : (s : State) (o : StateLaws T.marks (sizes op) s) (call : Call) (l : Local) →
      Walked (view_of (sizes op) s) size 0 (T.begin call l)
  starts s o (Add k) l = writing (λ r. subst IsRead (law.begins (Add k) l).called r)
  starts s o (Remove k) l = writing (λ r. subst IsRead (law.begins (Remove k) l).called r)
  starts s o (Contains k) l =
      let v : View = view_of (sizes op) s in
      let head : (view_of (sizes op) s).key 0 ≡ 0 = o.head_key in
      subst (λ (x : Local). Walked (view_of (sizes op) s) size 0 x) (sym (rows.begins (Contains k) l))
      (before_link refl o.ordered.head_published (omega arith) 1
      (tally_more 0 o.ordered.head_published (omega arith)
      (tally_none (view_of (sizes op) s) size ((view_of (sizes op) s).key 0))) refl)
  starts s o (Ceiling k) l =
      subst (λ (x : Local). Walked (view_of (sizes op) s) size 0 x) (sym (rows.begins (Ceiling k) l))
      (searching (λ r. r) (inl refl))

  module _ (es : ℕ → Event) (last : ℕ) (r : Run T op es last) (t : ℕ) (th : t < op.threads) where
    laws : (k : ℕ) → k ≤ last → StateLaws T.marks (sizes op) (state_at T op es k)
    laws k l = law.states op last k es r l

    later : (k : ℕ) → k < last → Later (views T op es k) (views T op es (suc k))
    later k l i p =
        let u = law.unlinked_stays op last k (suc k) i es r (omega arith) (omega arith) p in (u.published, u.key)

    local_same : (s : State) (l : Local) → t < length s.locals → slice_index_or (slice_set s.locals t l) t (idle 0 0) ≡ l
    local_same s l h = get_or-set_same s.locals t l (idle 0 0) h

    local_other : (s : State) (u : ℕ) (l : Local) → t ≢ u → slice_index_or (slice_set s.locals u l) t (idle 0 0) ≡ local_of s t
    local_other s u l d = get_or-set_other s.locals u t l (idle 0 0) d

    opening_local : local_of (state_at T op es 0) t ≡ idle op.quota t
    opening_local = get_or-map-range_with_len (idle op.quota) 0 op.threads t t (idle 0 0) th (omega arith)

    -- Lemma: each event preserves `Walked`, the progress of the thread's call. Proof by cases: the event is the start
    -- of the thread's own call, the thread's own step, or an event of another thread.
    walked_after : (k : ℕ) → k < last → (e : Event) → es k ≡ e → Enabled (state_at T op es k) e
        → Walked (views T op es k) size (steps_since es t k) (local_of (state_at T op es k) t)
        → Walked (views T op es k) size (steps_after e t (steps_since es t k)) (local_of (after T (state_at T op es k) e) t)
    walked_after k l (Begin u call) ee en w = elim (same_or_not u t) [
      | inl y ↦ subst (λ m. Walked (views T op es k) size m (local_of (after T (state_at T op es k) (Begin u call)) t))
          (sym (if_same u t y 0 (steps_since es t k)))
          (subst (λ (x : Local). Walked (views T op es k) size 0 x)
          (sym (ap (λ z. local_of (after T (state_at T op es k) (Begin z call)) t) y
          ∙ local_same (state_at T op es k) (T.begin call (local_of (state_at T op es k) t))
          (subst (λ z. z < length (state_at T op es k).locals) y en.0)))
          (starts (state_at T op es k) (laws k (omega arith)) call (local_of (state_at T op es k) t)))
      | inr y ↦ subst (λ m. Walked (views T op es k) size m (local_of (after T (state_at T op es k) (Begin u call)) t))
          (sym (if_other u t y 0 (steps_since es t k)))
          (subst (λ (x : Local). Walked (views T op es k) size (steps_since es t k) x)
          (sym (local_other (state_at T op es k) u (T.begin call (local_of (state_at T op es k) u)) (λ z. y (sym z)))) w)
    ]
    walked_after k l (Go u) ee en w = elim (same_or_not u t) [
      | inl y ↦
          (let en' : Enabled (state_at T op es k) (Go t) = subst (λ z. Enabled (state_at T op es k) (Go z)) y en in
          let st = law.steps op last k t es r l (ee ∙ ap (λ z. Go z) y) in
          let more : (if u == t then steps_since es t k + 1 else steps_since es t k) ≡ suc (steps_since es t k) =
          if_same u t y (steps_since es t k + 1) (steps_since es t k) ∙ (omega arith) in
          subst (λ m. Walked (views T op es k) size m (local_of (after T (state_at T op es k) (Go u)) t)) (sym more)
          (subst (λ (x : Local). Walked (views T op es k) size (suc (steps_since es t k)) x)
          (sym (ap (λ z. local_of (after T (state_at T op es k) (Go z)) t) y
          ∙ local_same (state_at T op es k)
          (T.feed (local_of (state_at T op es k) t) (seen_next T (state_at T op es k) t)).local en'.0))
          (own_step (state_at T op es k) (laws k (omega arith)) t th (steps_since es t k) en'.1 st.same_call w)))
      | inr y ↦ subst (λ m. Walked (views T op es k) size m (local_of (after T (state_at T op es k) (Go u)) t))
          (sym (if_other u t y (steps_since es t k + 1) (steps_since es t k)))
          (subst (λ (x : Local). Walked (views T op es k) size (steps_since es t k) x)
          (sym (local_other (state_at T op es k) u
          (T.feed (local_of (state_at T op es k) u) (seen_next T (state_at T op es k) u)).local (λ z. y (sym z)))) w)
    ]

    walked_at : (k : ℕ) → k ≤ last
        → Walked (views T op es k) size (steps_since es t k) (local_of (state_at T op es k) t)
    walked_at zero l = resting (ap (λ (x : Local). x.pc) opening_local)
    walked_at (suc k) l =
        walked_on (later k (omega arith)) (walked_after k (omega arith) (es k) refl (r.enabled k (omega arith))
        (walked_at k (omega arith)))

    reads_next : (k : ℕ) (l : k ≤ last) → (local_of (state_at T op es k) t).pc ≢ 0
        → IsContains (local_of (state_at T op es k) t).call
        → Walked (views T op es k) size (steps_since es t k) (local_of (state_at T op es k) t) → ReadsNext T op es k t
    reads_next k l busy reads (resting e) = absurd (busy e)
    reads_next k l busy reads (writing c) = absurd (no_read (local_of (state_at T op es k) t).call c reads)
    reads_next k l busy reads (searching c r) = absurd (c reads)
    reads_next k l busy reads (before_link e p lt met a m) =
        let o : StateLaws T.marks (sizes op) (state_at T op es k) = laws k l in
        let low : target (local_of (state_at T op es k) t).call < tail_word = (o.threads t th).low in
        let top : (views T op es k).key 1 ≡ tail_word = o.tail_key in
        let few : met < node_count (sizes op) = tally_few o.ordered.tail_published (omega arith) (omega arith) a in
        record {
          loads = (
            link_index (local_of (state_at T op es k) t).curr,
            rows.acts (local_of (state_at T op es k) t) (inl e) ∙ (rw e refl),
          );
          few = omega arith;
        }
    reads_next k l busy reads (before_key e p met a m) =
        let o : StateLaws T.marks (sizes op) (state_at T op es k) = laws k l in
        let top : (views T op es k).key (local_of (state_at T op es k) t).curr ≤ (views T op es k).key 1 =
        o.ordered.top (local_of (state_at T op es k) t).curr p in
        let few : met < node_count (sizes op) = tally_few o.ordered.tail_published (omega arith) top a in
        record {
          loads = (
            key_index (local_of (state_at T op es k) t).curr,
            rows.acts (local_of (state_at T op es k) t) (inr (inl e)) ∙ (rw e refl),
          );
          few = omega arith;
        }
    reads_next k l busy reads (before_mark e p f met a m) =
        let o : StateLaws T.marks (sizes op) (state_at T op es k) = laws k l in
        let low : target (local_of (state_at T op es k) t).call < tail_word = (o.threads t th).low in
        let top : (views T op es k).key 1 ≡ tail_word = o.tail_key in
        let few : suc met < node_count (sizes op) = tally_few o.ordered.tail_published (omega arith) (omega arith)
        (tally_more (local_of (state_at T op es k) t).curr p (o.inside (local_of (state_at T op es k) t).curr p) a) in
        record {
          loads = (
            link_index (local_of (state_at T op es k) t).curr,
            rows.acts (local_of (state_at T op es k) t) (inr (inr (inl e))) ∙ (rw e refl),
          );
          few = omega arith;
        }

pub bounded_reads : (T : Table) → Lawful T → HasReadRows T → BoundedReads T
bounded_reads T law rows op last k t es r l th busy reads =
    reads_next T law rows op es last r t th k l busy reads (walked_at T law rows op es last r t th k l)

row_of : {v : View} {size steps : ℕ} {l : Local} → l.pc ≢ 0 → IsRead l.call → Walked v size steps l → IsReadRow l.pc
row_of busy reads (resting e) = absurd (busy e)
row_of busy reads (writing c) = absurd (c reads)
row_of busy reads (searching c (inl e)) = inr (inr (inr (inl e)))
row_of busy reads (searching c (inr (inl e))) = inr (inr (inr (inr (inl e))))
row_of busy reads (searching c (inr (inr e))) = inr (inr (inr (inr (inr e))))
row_of busy reads (before_link e p lt met a m) = inl e
row_of busy reads (before_key e p met a m) = inr (inl e)
row_of busy reads (before_mark e p f met a m) = inr (inr (inl e))

pub read_row : (T : Table) → Lawful T → HasReadRows T → (op : Opening) (last k t : ℕ) (es : ℕ → Event) → Run T op es last →
    k ≤ last → t < op.threads
    → (local_of (state_at T op es k) t).pc ≢ 0 → IsRead (local_of (state_at T op es k) t).call
    → IsReadRow (local_of (state_at T op es k) t).pc
read_row T law rows op last k t es r l th busy reads = row_of busy reads (walked_at T law rows op es last r t th k l)
