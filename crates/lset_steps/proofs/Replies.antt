-- Lemmas, used by the proofs of all step tables, about the correct replies at the end of a walk along the chain.
use Rattle.std.specs.Prelude.{◌≡◌, ◌≢◌, ℕ, ◌+◌, ◌-◌, ◌/◌, ◌%◌, ◌<◌, ◌≤◌, ◌⊎◌, Bool, true, false, Option, Some, None, [], ◌||◌, refl}
use Rattle.std.proofs.Common.{arith, inl, inr, sym, ap, subst, ◌∙◌}
use Rattle.lset_words.specs.declared.Call.{Call}
use Rattle.lset_words.specs.declared.Call.TheVariants.{Add, Remove, Contains, Ceiling}
use Rattle.lset_words.specs.declared.Reply.{Reply}
use Rattle.lset_words.specs.declared.Reply.TheVariants.{True, False, Full, At, Nothing}
use Rattle.lset_words.specs.Words.{key_of, target, tail_word, node_count, Sizes}
use Rattle.lset_steps.specs.declared.Local.{Local}
use Rattle.lset_steps.specs.declared.Fed.{Fed}
use Rattle.lset_steps.specs.Chain.{View, InChain, InContent, IsOrdered, FitsIn, contents_of, counts_of}
use Rattle.lset_words.specs.Account.{FitsSometime}
use Rattle.lset_steps.proofs.Moves.{KeepsNodes}
use Rattle.lset_steps.specs.Laws.{Registers}
use Rattle.lset_steps.specs.Rows.{begun, ceiling_at, decided, goes_to}
use Rattle.lset_steps.proofs.Segments.{gap}
use Rattle.lset_steps.proofs.QuietMove.{in_chain_published, chain_on}
use Rattle.lset_words.proofs.Numbers.{below_or_not, if_below, if_not_below}
use Rattle.lset_words.specs.declared.Key.{Key}

-- The assertion about a call that will add its key: the call is an `add`, its thread has not used up its quota of adds,
-- and the key is smaller than curr's key. `Removing` is the assertion about a call that will remove its key.
pub record Adding (v : View) (t q curr : ℕ) (op : Call) : Type 0 where
  pub call : op ≡ Add (key_of op)
  pub room : v.used t < q
  pub above : target op < v.key curr

pub record Removing (v : View) (curr : ℕ) (op : Call) : Type 0 where
  pub call : op ≡ Remove (key_of op)
  pub found : v.key curr ≡ target op

-- Lemmas: every step preserves `Adding` and `Removing`, the assertions about a call that will add or remove its key.
module _ {v w : View} (g : KeepsNodes v w) where
  pub removing_kept : {curr : ℕ} {op : Call} → v.published curr → Removing v curr op → Removing w curr op
  removing_kept {curr} p a = record { call = a.call; found = g.keys curr p ∙ a.found }

  pub adding_kept : {t q curr : ℕ} {op : Call} → w.used t ≡ v.used t → v.published curr → Adding v t q curr op
      → Adding w t q curr op
  adding_kept {t} {q} {curr} u p a = record { call = a.call; room = rw u a.room; above = rw (g.keys curr p) a.above }

pub decided_cases : (a d u q t : ℕ) (v : View) (cl : Call) (found room : Bool) (c : ℕ) (l : Local)
    → (found ≡ true → InContent v (key_of cl).0) → (found ≡ false → InContent v (key_of cl).0 → ⊥) → (room ≡ false → v.used t ≡ q)
    → FitsIn q v t (Ceiling (key_of cl)) (ceiling_at c)
    → ((r : Reply) × (decided a d u cl found room c l ≡ goes_to u (Some r) l) × FitsIn q v t cl r)
    ⊎ ((decided a d u cl found room c l ≡ goes_to a None l) × (cl ≡ Add (key_of cl)) × (found ≡ false) × (room ≡ true))
    ⊎ ((decided a d u cl found room c l ≡ goes_to d None l) × (cl ≡ Remove (key_of cl)) × (found ≡ true))
decided_cases a d u q t v (Add k) true room c l hit miss full over = inl (False, refl, hit refl)
decided_cases a d u q t v (Add k) false true c l hit miss full over = inr (inl (refl, refl, refl, refl))
decided_cases a d u q t v (Add k) false false c l hit miss full over = inl (Full, refl, (miss refl, full refl))
decided_cases a d u q t v (Remove k) true room c l hit miss full over = inr (inr (refl, refl, refl))
decided_cases a d u q t v (Remove k) false room c l hit miss full over = inl (False, refl, miss refl)
decided_cases a d u q t v (Contains k) true room c l hit miss full over = inl (True, refl, hit refl)
decided_cases a d u q t v (Contains k) false room c l hit miss full over = inl (False, refl, miss refl)
decided_cases a d u q t v (Ceiling k) found room c l hit miss full over = inl (ceiling_at c, refl, over)

pub absent_between : (v : View) → IsOrdered v → (p k : ℕ) → InChain v p → p ≢ 1 → v.key p < k + 1
    → k + 1 < v.key (v.link p / 2) → InContent v k → ⊥
absent_between v ord p k i d lo hi c = let e : v.key c.0 ≡ k + 1 = c.3 in gap v ord p c.0 i c.1 d (omega arith) (omega arith)

pub ceiling_fits : (q t : ℕ) (v : View) (p c : ℕ) (k : Key) → IsOrdered v → v.key 0 ≡ 0 → v.key 1 ≡ tail_word → InChain v p
    → p ≢ 1 → v.key p < k.0 + 1 → c ≡ v.key (v.link p / 2) → k.0 + 1 ≤ c → (c < tail_word → v.link (v.link p / 2) % 2 ≡ 0)
    → FitsIn q v t (Ceiling k) (ceiling_at c)
ceiling_fits q t v p c k ord head tail i d below is above unmarked = elim (below_or_not c tail_word) [
  | inl lt ↦ subst (FitsIn q v t (Ceiling k)) (sym (if_below c tail_word lt (At (record { 0 = c - 1 })) Nothing)) (
    omega arith,
    (v.link p / 2, chain_on v p (v.link p / 2) (v.link p / 2) [] i d refl refl, user lt, omega arith, unmarked lt),
    λ j lo hi. absent_between v ord p j i d (omega arith) (omega arith),
  )
  | inr ge ↦ subst (FitsIn q v t (Ceiling k)) (sym (if_not_below c tail_word ge (At (record { 0 = c - 1 })) Nothing))
      (λ j lo h. absent_between v ord p j i d (omega arith) (high j h ge) h)
]
  where
    user : c < tail_word → 1 < v.link p / 2
    user lt =
        let c0 : v.link p / 2 ≢ 0 = λ f. (let g : v.key (v.link p / 2) ≡ v.key 0 = ap v.key f in omega arith) in
        let c1 : v.link p / 2 ≢ 1 = λ f. (let g : v.key (v.link p / 2) ≡ v.key 1 = ap v.key f in omega arith) in
        omega arith

    high : (j : ℕ) → InContent v j → tail_word ≤ c → j + 1 < v.key (v.link p / 2)
    high j h ge =
        let user : 1 < h.0 = h.2 in
        let here : v.key h.0 ≡ j + 1 = h.3 in
        let published : v.published h.0 = in_chain_published v ord h.0 h.1 in
        let increases : v.key h.0 < v.key (v.link h.0 / 2) = ord.increases h.0 published (omega arith) in
        let top : v.key (v.link h.0 / 2) ≤ v.key 1 = ord.top (v.link h.0 / 2) (ord.next_published h.0 published (omega arith)) in
        omega arith

pub fitted_on : (q : ℕ) (vs : ℕ → View) (first now later t : ℕ) (call : Call) (r : Reply) → now ≤ later
    → FitsSometime q (contents_of vs) (counts_of vs) first now t call r
    → FitsSometime q (contents_of vs) (counts_of vs) first later t call r
fitted_on q vs first now later t call r l f = record {
  moment = f.moment;
  from = f.from;
  upto = (let u : f.moment ≤ now = f.upto in omega arith);
  fits = f.fits;
}

pub or_false : (b : Bool) → (b || false) ≡ b
or_false true = refl
or_false false = refl

abbrev pub fed : Local → Option Reply → Fed
fed l a = record { local = l; answer = a }

pub registers_begun : (sz : Sizes) (t pc : ℕ) (call : Call) (l : Local) → target call < tail_word → Registers sz t l
    → Registers sz t (begun pc call l)
registers_begun sz t pc call l low r =
    let inside : 0 < node_count sz = omega arith in
    let smallest : 0 ≤ tail_word = omega arith in
    assumption

pub keep_more : (sz : Sizes) (t p : ℕ) (l : Local) → l.used < sz.quota → Registers sz t l
    → Registers sz t (record l { pc = p; reply = Some True; used = l.used + 1 })
keep_more sz t p l room r = let most : l.used + 1 ≤ sz.quota = omega (arith, room) in assumption

pub keep_used : (sz : Sizes) (t p : ℕ) (l : Local) → l.used < sz.quota → Registers sz t l
    → Registers sz t (record l { pc = p; used = l.used + 1 })
keep_used sz t p l room r = let most : l.used + 1 ≤ sz.quota = omega (arith, room) in assumption

pub keep_curr : (sz : Sizes) (t p c : ℕ) (l : Local) → c < node_count sz → Registers sz t l
    → Registers sz t (record l { pc = p; curr = c })
keep_curr sz t p c l inn r = assumption

pub keep : (sz : Sizes) (t p : ℕ) (y : Option Reply) (l : Local) → Registers sz t l →
    Registers sz t (record l { pc = p; reply = y })
keep sz t p y l r = assumption

pub keep_ckey : (sz : Sizes) (t p c : ℕ) (y : Option Reply) (l : Local) → c ≤ tail_word → Registers sz t l
    → Registers sz t (record l { pc = p; reply = y; ckey = c })
keep_ckey sz t p c y l le r = assumption

pub keep_succ : (sz : Sizes) (t p c : ℕ) (y : Option Reply) (l : Local) → c < node_count sz → Registers sz t l
    → Registers sz t (record l { pc = p; reply = y; succ = c })
keep_succ sz t p c y l le r = assumption

pub keep_walk : (sz : Sizes) (t p a b : ℕ) (l : Local) → a < node_count sz → b < node_count sz → Registers sz t l
    → Registers sz t (record l { pc = p; pred = a; curr = b })
keep_walk sz t p a b l le ge r = assumption

pub keep_passed : (sz : Sizes) (t p a b c : ℕ) (l : Local) → a < node_count sz → b ≤ tail_word → c < node_count sz →
    Registers sz t l
    → Registers sz t (record l { pc = p; pred = a; pkey = b; curr = c })
keep_passed sz t p a b c l le small ge r = assumption

pub keep_node : (sz : Sizes) (t p a : ℕ) (l : Local) → a < node_count sz → Registers sz t l
    → Registers sz t (record l { pc = p; node = a })
keep_node sz t p a l le r = assumption
