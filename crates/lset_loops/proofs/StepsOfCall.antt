-- Lemmas about one step of a pending call: a condition before the step implies a condition after the step.
use Rattle.std.proofs.Common.{◌≡◌, ◌≢◌, ℕ, ◌+◌, ◌<◌, ◌≤◌, List, ◌∷◌, Option, None, refl, sym, ap, ◌∙◌, subst, arith}
use Rattle.atomic_table.specs.Seated.{TableId}
use Rattle.lset_words.specs.declared.Call.{Call}
use Rattle.lset_words.specs.declared.Reply.{Reply}
use Rattle.lset_words.specs.declared.TheConstants.{MOST_NODES, MOST_WORDS}
use Rattle.lset_words.specs.Words.{word_count, node_count, sizes, Opening}
use Rattle.lset_words.proofs.Bounds.{nodes_within}
use Rattle.lset_steps.specs.declared.Local.{Local}
use Rattle.lset_steps.specs.declared.Action.{Action}
use Rattle.lset_steps.specs.declared.Action.TheVariants.{Exchange}
use Rattle.lset_steps.specs.declared.Fed.{Fed}
use Rattle.lset_steps.specs.Steps.{Table}
use Rattle.lset_steps.specs.Laws.{Lawful, word_named}
use Rattle.lset_steps.specs.ReadRows.{continued}
use Rattle.lset_rule.specs.Seats.{TableSeat, IsOf, IsSeat, MayCall, HasCalled}
use Rattle.lset_rule.specs.declared.slots.OwnSlots.{OwnSlots}
use Rattle.lset_rule.specs.OwnSlots.{slots_of, resting}
use Rattle.lset_rule.specs.Views.{IsOpen, Stands}
use Rattle.lset_rule.specs.Calls.{Goes, Starts}
use Rattle.lset_rule.proofs.CallKnows.{comes_first, comes_next, is_mid, mid_open}
use Rattle.lset_rule.proofs.MovesKeepRule.{stands_at, in_words}
use Rattle.lset_loops.specs.Begun.{Begun, begun_at, IsCall}
use Rattle.lset_loops.specs.Calling.{Holds, MayStep, HasStepped, MayLock, MayAnswer, MayBegin, first, Rest, row}
use Rattle.lset_loops.specs.Calling.{HasAnswered, MayStore, Stores}

module _ (m : Table) (b : Begun) where
  pub of_table : (c : Call) (z : TableId) (k : Opening) → IsCall b c z k → (l : Local) (s : TableSeat) → Holds m b l s → IsOf z k s
  of_table c z k is l s h = let P : TableId × Opening → Type 0 = λ q. q.0.words ≡ word_count (sizes q.1) in
      (h.seat.0 ∙ is.1, h.mid.same.1 ∙ is.2, subst P (λ i. (is.1 i, is.2 i)) h.words)

  pub open_now : (l : Local) (s : TableSeat) → Holds m b l s → IsOpen s.me.0 × Stands m s.me.0
  open_now l s h = (mid_open b.call b.me.0 s.me.0 h.used h.mid, h.stands)

  pub onward : (l : Local) (s : TableSeat) (n : ℕ) (s' : TableSeat) → IsSeat s s' → Goes m s.me.0 n s'.me.0 → (m.feed l n).answer ≡ None
      → Holds m b l s → Holds m b (m.feed l n).local s'
  onward l s n s' seat g none h =
      let come = comes_next m b.call b.me.0 s.me.0 (continued l) n s'.me.0 (m.feed l n) (h.local, (h.mid, h.stands)) refl g refl
      in
      let now = is_mid m b.call b.me.0 s'.me.0 (m.feed l n) come none in record {
        words = h.words;
        used = h.used;
        seat = (seat.0 ∙ h.seat.0, seat.1 ∙ h.seat.1, seat.2 ∙ h.seat.2);
        mid = now.0;
        stands = now.1;
        local = come.0;
      }

  pub leads : (a : Action) (s : TableSeat) (n : ℕ) (s' : TableSeat) → MayStep m b a s → IsSeat s s' → Goes m s.me.0 n s'.me.0 →
      HasStepped m b s n s'
  leads a s n s' h seat g = record {
    leads = λ l holds.
        let same : h.held ≡ l = sym h.holds.local ∙ holds.local in
        onward l s n s' seat g (subst (λ x. (m.feed x n).answer ≡ None) same (h.goes_on n)) holds;
  }

  pub few_held : Lawful m → (l : Local) (a : Action) (s : TableSeat) → Holds m b l s → a ≡ m.next l → word_named a < MOST_WORDS
  few_held law l a s h acts =
      let o = open_now l s h in
      let w : word_named a < b.table_id.words = in_words m law s.me.0.shape _ _ s.me.0.local (stands_at m law s.me.0 o.1 o.0) a
      (acts ∙ ap m.next (sym h.local)) b.me.0.shape h.mid.same.1 b.table_id.words h.words in
      let n : b.table_id.words ≡ word_count (sizes b.me.0.shape) = h.words in
      let few : node_count (sizes s.me.0.shape) ≤ MOST_NODES = nodes_within (sizes s.me.0.shape) o.1.ran.opens.within in
      let few' : node_count (sizes b.me.0.shape) ≤ MOST_NODES = subst (λ (q : Opening). node_count (sizes q) ≤ MOST_NODES)
      h.mid.same.1 few in
      omega arith

  pub few_words : Lawful m → (a : Action) (s : TableSeat) → MayStep m b a s → word_named a < MOST_WORDS
  few_words law a s h = few_held law h.held a s h.holds h.acts

  pub few_locks : Lawful m → (word thread : ℕ) (s : TableSeat) → MayLock m b word thread s → word < MOST_WORDS
  few_locks law word thread s h = few_held law h.held (Exchange word 0 (thread + 1)) s h.holds h.acts

  pub few_asks : Lawful m → (a : Action) (s : TableSeat) → MayAnswer m b a s → word_named a < MOST_WORDS
  few_asks law a s h = few_held law h.held a s h.holds h.acts

  pub itself : (l : Local) (s : TableSeat) → Holds m b l s → Holds m b s.me.0.local s
  itself l s h = record { words = h.words; used = h.used; seat = h.seat; mid = h.mid; stands = h.stands; local = refl }

  pub same_held : (l l' : Local) (s : TableSeat) → Holds m b l s → Holds m b l' s → l ≡ l'
  same_held l l' s h h' = sym h.local ∙ h'.local

  pub now_holds : (l l' : Local) (s : TableSeat) → l ≡ l' → Holds m b l s → Holds m b l' s
  now_holds l l' s same h = record {
    words = h.words;
    used = h.used;
    seat = h.seat;
    mid = h.mid;
    stands = h.stands;
    local = h.local ∙ same;
  }

  pub tried : (word thread : ℕ) (s0 s : TableSeat) (n : ℕ) (s' : TableSeat) → MayLock m b word thread s0 → n ≢ 0 →
      Holds m b s0.me.0.local s
      → IsSeat s s' → Goes m s.me.0 n s'.me.0 → Holds m b s0.me.0.local s'
  tried word thread s0 s n s' lk ne h seat g =
      let at : Holds m b lk.held s = now_holds s0.me.0.local lk.held s lk.holds.local h in
      now_holds (m.feed lk.held n).local s0.me.0.local s' (ap (λ (f : Fed). f.local) (lk.again n ne) ∙ sym lk.holds.local)
      (onward lk.held s n s' seat g (ap (λ (f : Fed). f.answer) (lk.again n ne)) at)

  pub still : (word thread : ℕ) (s0 : TableSeat) (n : ℕ) (s' : TableSeat) → MayLock m b word thread s0 → n ≢ 0 → IsSeat s0 s' →
      Goes m s0.me.0 n s'.me.0 → MayLock m b word thread s'
  still word thread s0 n s' lk ne seat g = record {
    held = lk.held;
    holds = now_holds s0.me.0.local lk.held s' lk.holds.local (tried word thread s0 s0 n s' lk ne (itself lk.held s0 lk.holds)
        seat g);
    acts = lk.acts;
    again = lk.again;
    goes_on = lk.goes_on;
  }

  pub leads_still : (word thread : ℕ) (s0 : TableSeat) (n : ℕ) (s s' : TableSeat) → MayLock m b word thread s0 → n ≢ 0 → IsSeat s0 s →
      Goes m s0.me.0 n s.me.0 → HasStepped m b s 0 s' → HasStepped m b s0 0 s'
  leads_still word thread s0 n s s' lk ne seat g on =
      let at = tried word thread s0 s0 n s lk ne (itself lk.held s0 lk.holds) seat g in
      record { leads = λ l h. on.leads l (now_holds s0.me.0.local l s h.local at) }

  pub leads_then : (word thread : ℕ) (s0 s : TableSeat) (n : ℕ) (s' : TableSeat) → MayLock m b word thread s0 → n ≡ 0 →
      Holds m b s0.me.0.local s → IsSeat s s' → Goes m s.me.0 n s'.me.0 → HasStepped m b s0 0 s'
  leads_then word thread s0 s n s' lk zero here seat g =
      let g0 : Goes m s.me.0 0 s'.me.0 = subst (λ i. Goes m s.me.0 i s'.me.0) zero g in
      let at : Holds m b lk.held s = now_holds s0.me.0.local lk.held s lk.holds.local here in
      let on : Holds m b (m.feed lk.held 0).local s' = onward lk.held s 0 s' seat g0 lk.goes_on at in
      record {
        leads = λ l h. now_holds (m.feed lk.held 0).local (m.feed l 0).local s'
            (ap (λ x. (m.feed x 0).local) (same_held lk.held l s0 lk.holds h)) on;
      }

  pub leads_had : (word thread : ℕ) (s0 : TableSeat) (n : ℕ) (s' : TableSeat) → MayLock m b word thread s0 → n ≡ 0 → IsSeat s0 s' →
      Goes m s0.me.0 n s'.me.0 → HasStepped m b s0 0 s'
  leads_had word thread s0 n s' lk zero seat g =
      leads_then word thread s0 s0 n s' lk zero (itself lk.held s0 lk.holds) seat g

-- ---- Lemmas about the first step of a call
begun_is : (m : Table) → Lawful m → (b : Begun) (own : OwnSlots) (l : Local) → own ≡ slots_of l → m.begin b.call l ≡ first m b own
begun_is m law b own l same = (law.begins b.call l).alike ∙ ap (λ s. m.begin b.call (resting s)) (sym same)

pub of_table_first : (m : Table) (b : Begun) (c : Call) (z : TableId) (k : Opening) (own : OwnSlots) (s : TableSeat) → IsCall b c z k →
    MayBegin m b own s → IsOf z k s
of_table_first m b c z k own s is may = let P : TableId × Opening → Type 0 = λ q. IsOf q.0 q.1 s in
    subst P (λ i. (is.1 i, is.2 i)) may.may.place

pub acts_first : (m : Table) → Lawful m → (b : Begun) (own : OwnSlots) (s : TableSeat) (c : Call) (a : Action) → b.call ≡ c →
    MayBegin m b own s
    → a ≡ m.next (first m b own) → a ≡ m.next (m.begin c s.me.0.local)
acts_first m law b own s c a same may is =
    is ∙ (ap m.next (sym (begun_is m law b own s.me.0.local may.may.slots)) ∙ ap (λ x. m.next (m.begin x s.me.0.local)) same)

pub begins_holding : (m : Table) → Lawful m → (b : Begun) (own : OwnSlots) (s : TableSeat) (n : ℕ) (s' : TableSeat) (c : Call) → b.call ≡ c →
    MayBegin m b own s
    → IsSeat s s' → Starts m c s.me.0 n s'.me.0 → (m.feed (first m b own) n).answer ≡ None →
    Holds m b (m.feed (first m b own) n).local s'
begins_holding m law b own s n s' c same may seat starts none =
    let f : Fed = m.feed (first m b own) n in
    let is : f ≡ m.feed (m.begin b.call s.me.0.local) n =
    ap (λ l. m.feed l n) (sym (begun_is m law b own s.me.0.local may.may.slots)) in
    let come = comes_first m b.call s.me.0 n s'.me.0 f (subst (λ x. Starts m x s.me.0 n s'.me.0) (sym same) starts) is in
    let now = is_mid m b.call s.me.0 s'.me.0 f come none in
    let here : Holds m (begun_at b.call s) f.local s' = record {
      words = ap (λ (t : TableId). t.words) may.may.place.0
          ∙ (may.may.place.2 ∙ ap (λ k. word_count (sizes k)) (sym may.may.place.1));
      used = may.may.idle.0;
      seat = seat;
      mid = now.0;
      stands = now.1;
      local = come.0;
    } in subst (λ x. Holds m x f.local s') (sym may.now) here

pub first_tried : (m : Table) → Lawful m → (b : Begun) (own : OwnSlots) (s : TableSeat) (n : ℕ) (s' : TableSeat) (c : Call) → b.call ≡ c →
    MayBegin m b own s
    → IsSeat s s' → Starts m c s.me.0 n s'.me.0 → ((i : ℕ) → i ≢ 0 → m.feed (first m b own) i ≡ continued (first m b own)) → n ≢ 0
    → Holds m b (first m b own) s'
first_tried m law b own s n s' c same may seat starts again ne =
    now_holds m b (m.feed (first m b own) n).local (first m b own) s' (ap (λ (f : Fed). f.local) (again n ne))
    (begins_holding m law b own s n s' c same may seat starts (ap (λ (f : Fed). f.answer) (again n ne)))

-- If a condition holds for the private state `l` of a thread, it holds for an equal private state `l'`.
pub moved : {m : Table} {b : Begun} {l l' : Local} {s : TableSeat} → Holds m b l s → l ≡ l' → Holds m b l' s
moved h same = record { words = h.words; used = h.used; seat = h.seat; mid = h.mid; stands = h.stands; local = h.local ∙ same }

-- If a condition holds with the current node `x`, it holds with an equal number `x'`. `to_pred` states the analogous
-- fact for the previous node.
pub to_curr : {m : Table} {b : Begun} {d : Call} {own : OwnSlots} {pc p x x' : ℕ} {r : Option Reply} {j : Rest} {s : TableSeat}
    → x' ≡ x → Holds m b (row own d pc r p x j) s → Holds m b (row own d pc r p x' j) s
to_curr {d = d} {own = own} {pc = pc} {p = p} {r = r} {j = j} is h = moved h (ap (λ i. row own d pc r p i j) (sym is))

pub to_pred : {m : Table} {b : Begun} {d : Call} {own : OwnSlots} {pc p p' x : ℕ} {r : Option Reply} {j : Rest} {s : TableSeat}
    → p' ≡ p → Holds m b (row own d pc r p x j) s → Holds m b (row own d pc r p' x j) s
to_pred {d = d} {own = own} {pc = pc} {x = x} {r = r} {j = j} is h = moved h (ap (λ i. row own d pc r i x j) (sym is))

pub to_succ : {m : Table} {b : Begun} {d : Call} {own : OwnSlots} {pc p x n : ℕ} {r : Option Reply} {j : Rest} {s : TableSeat}
    → n ≡ j.succ → Holds m b (row own d pc r p x j) s → Holds m b (row own d pc r p x (record j { succ = n })) s
to_succ {d = d} {own = own} {pc = pc} {p = p} {x = x} {r = r} {j = j} is h =
    moved h (ap (λ i. row own d pc r p x (record j { succ = i })) (sym is))

pub to_slots : {m : Table} {b : Begun} {d : Call} {own own' : OwnSlots} {pc p x : ℕ} {r : Option Reply} {j : Rest} {s : TableSeat}
    → own' ≡ own → Holds m b (row own d pc r p x j) s → Holds m b (row own' d pc r p x j) s
to_slots {d = d} {pc = pc} {p = p} {x = x} {r = r} {j = j} is h = moved h (ap (λ o. row o d pc r p x j) (sym is))

pub step : {m : Table} {b : Begun} {l : Local} {a : Action} {s : TableSeat} → Holds m b l s → a ≡ m.next l
    → ((n : ℕ) → (m.feed l n).answer ≡ None) → MayStep m b a s
step h acts on = record { held = _; holds = h; acts = acts; goes_on = on }

pub asks : {m : Table} {b : Begun} {l : Local} {a : Action} {s : TableSeat} → Holds m b l s → a ≡ m.next l → MayAnswer m b a s
asks h acts = record { held = _; holds = h; acts = acts }

pub stores : {m : Table} {b : Begun} {l : Local} {s : TableSeat} {word key key' : ℕ} {more : List (ℕ × ℕ)} → Holds m b l s
    → key ≡ key' → Stores m l ((word, key') ∷ more) → MayStore m b ((word, key) ∷ more) s
stores {m = m} {b = b} {s = s} {word = word} {more = more} h is all =
    subst (λ k. MayStore m b ((word, k) ∷ more) s) (sym is) (record { held = _; holds = h; stores = all })

abbrev pub no_rest : Rest
no_rest = record { succ = 0; node = 0; pkey = 0; ckey = 0 }

-- ---- Lemmas about a whole call `c` from the seat `s` (a per-thread handle)
module _ (c : Call) (b : Begun) (s : TableSeat) (began : b ≡ begun_at c s) where
  pub may_begin : {m : Table} {z : TableId} {k : Opening} {own : OwnSlots} → MayCall m z k own s → MayBegin m b own s
  may_begin may = rw began record {
    now = refl;
    may = record {
      place = (
        refl,
        refl,
        ap (λ (t : TableId). t.words) may.place.0
            ∙ (may.place.2 ∙ ap (λ k. word_count (sizes k)) (sym may.place.1)),
      );
      idle = may.idle;
      stands = may.stands;
      slots = may.slots;
    };
  }

  pub called : {m : Table} {s' : TableSeat} {answer : OwnSlots × Reply} → HasAnswered m b answer s' → HasCalled m c s answer s'
  called {m = m} {s' = s'} {answer = answer} answered =
      let e : HasAnswered m (begun_at c s) answer s' = rw began at answered in
      record { place = e.1.seat; slots = e.2 ∙ ap slots_of (sym e.1.local); made = e.1.makes }
