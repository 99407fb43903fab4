-- The proof outline for a `contains` or a `ceiling` without locks: an assertion for each row of the step table, and the
-- proofs that each row preserves the assertions and that the reply is correct at some moment of the call. The reply can
-- become correct by a step of another thread (after O'Hearn and others).
use Rattle.std.specs.Prelude.{◌≡◌, ◌≢◌, ℕ, suc, ◌-◌, ◌==◌, if◌then◌else◌, ◌/◌, ◌%◌, ◌<◌, ◌≤◌, ◌⊎◌, Bool, false, None, List, [], refl}
use Rattle.std.proofs.Common.{arith, inl, inr, sym, ◌∙◌, ap, subst}
use Rattle.lset_words.proofs.Numbers.{same_or_not, below_or_not, if_below, if_not_below, if_same, if_other}
use Rattle.lset_words.specs.declared.Call.{Call}
use Rattle.lset_words.specs.declared.Call.TheVariants.{Add, Remove, Contains, Ceiling}
use Rattle.lset_words.specs.declared.Reply.TheVariants.{True, False}
use Rattle.lset_words.specs.declared.Reply.TheVariants as reply
use Rattle.lset_words.specs.Words.{key_index, link_index, tail_word, node_count, target, key_of, Sizes}
use Rattle.lset_words.specs.Account.{FitsSometime}
use Rattle.lset_steps.specs.declared.Local.{Local}
use Rattle.lset_steps.specs.declared.Fed.{Fed}
use Rattle.lset_steps.specs.declared.Action.TheVariants.{Load}
use Rattle.lset_steps.specs.Steps.{Table}
use Rattle.lset_steps.specs.Chain.{View, view, FitsIn, node_key, node_link, contents_of, counts_of}
use Rattle.lset_steps.proofs.Moves.{InPast, Had, Lacked, At20, At21, At22, At25}
use Rattle.lset_steps.proofs.Hindsight.{later_published, key_stays, unmarked_before}
use Rattle.lset_steps.proofs.QuietMove.{in_chain_published}
use Rattle.lset_steps.proofs.Walk.{at20_on, at21_on, at22_on, at25_on, no_tail, from20, from21_on, from21_less, from21_same}
use Rattle.lset_steps.proofs.Walk.{from21_more, behind_published, from24_more, from22_true, from22_false}
use Rattle.lset_steps.specs.Laws.{BeginLaws, Registers}
use Rattle.lset_steps.proofs.Memory.{Memory, inside, inner}
use Rattle.lset_steps.proofs.Discipline.{Outline, Here, Thread}
use Rattle.lset_steps.proofs.Replies.{keep_walk, keep, keep_ckey, ceiling_fits}
use Rattle.lset_steps.specs.ReadRows.{begun_reading, read_key, read_mark, ceiling_key, ceiling_mark, continued, leaves_with}
use Rattle.lset_steps.specs.Rows.{ceiling_at}
use Rattle.lset_steps.proofs.ReadTables.{HasReadRows}
use Rattle.lset_steps.proofs.Turns.{Turn, Protocol, due_of}
use Rattle.lset_steps.proofs.Turns.Turn.{passes, answers}

pub data Reading (vs : ℕ → View) (first now : ℕ) (done : Bool) (l : Local) : Type 0 where
  reads20 : l.pc ≡ 20 → done ≡ false → l.call ≡ Contains (key_of l.call) → At20 vs first now (key_of l.call).0 l.curr
      → Reading vs first now done l
  reads21 : l.pc ≡ 21 → done ≡ false → l.call ≡ Contains (key_of l.call) → At21 vs first now (key_of l.call).0 l.curr
      → Reading vs first now done l
  reads22 : l.pc ≡ 22 → done ≡ false → l.call ≡ Contains (key_of l.call) → At22 vs first now (key_of l.call).0 l.curr
      → Reading vs first now done l
  reads23 : l.pc ≡ 23 → done ≡ false → l.call ≡ Ceiling (key_of l.call) → At20 vs first now (key_of l.call).0 l.curr
      → Reading vs first now done l
  reads24 : l.pc ≡ 24 → done ≡ false → l.call ≡ Ceiling (key_of l.call) → At21 vs first now (key_of l.call).0 l.curr
      → Reading vs first now done l
  reads25 : l.pc ≡ 25 → done ≡ false → l.call ≡ Ceiling (key_of l.call) → At25 vs first now (key_of l.call).0 l.curr l.ckey
      → Reading vs first now done l

-- Lemma: the assertions for a `contains` or a `ceiling` are about the past, so they still hold at the next moment.
pub reading_on : {vs : ℕ → View} {first now : ℕ} {done : Bool} {l : Local} → Reading vs first now done l
    → Reading vs first (suc now) done l
reading_on {vs} {first} {now} {done} {l} (reads20 e d c a) =
    reads20 e d c (at20_on vs first now (suc now) (key_of l.call).0 l.curr (omega arith) a)
reading_on {vs} {first} {now} {done} {l} (reads21 e d c a) =
    reads21 e d c (at21_on vs first now (suc now) (key_of l.call).0 l.curr (omega arith) a)
reading_on {vs} {first} {now} {done} {l} (reads22 e d c a) =
    reads22 e d c (at22_on vs first now (suc now) (key_of l.call).0 l.curr (omega arith) a)
reading_on {vs} {first} {now} {done} {l} (reads23 e d c a) =
    reads23 e d c (at20_on vs first now (suc now) (key_of l.call).0 l.curr (omega arith) a)
reading_on {vs} {first} {now} {done} {l} (reads24 e d c a) =
    reads24 e d c (at21_on vs first now (suc now) (key_of l.call).0 l.curr (omega arith) a)
reading_on {vs} {first} {now} {done} {l} (reads25 e d c a) =
    reads25 e d c (at25_on vs first now (suc now) (key_of l.call).0 l.curr l.ckey (omega arith) a)

pub begun_reading_is : (call : Call) (l : Local) → BeginLaws begun_reading call l
begun_reading_is (Add k) l = record { called = refl; used = refl; opened = λ e. omega arith; alike = refl }
begun_reading_is call l = record { called = refl; used = refl; opened = λ e. omega arith; alike = refl }

at_head : (vs : ℕ → View) (first now : ℕ) (v : View) (k : ℕ) → first ≤ now → vs now ≡ v → v.key 0 ≡ 0 → At20 vs first now k 0
at_head vs first now v k from present head =
    let low : (vs now).key 0 ≡ 0 = ap (λ x. x.key 0) present ∙ head in
    record { past = record { at = now; from = from; upto = omega arith; in_chain = ([], refl) }; low = omega arith }

-- Lemma: the proof outline's assertion holds when a call begins, if the outline has a true assertion for row 1 (where
-- `add` and `remove` begin) and `Reading` implies its assertions for rows 20 and 23 (`contains` and `ceiling`).
pub call_begins : (At : Outline) (q t : ℕ) (vs : ℕ → View) (now : ℕ) (v : View) (call : Call) (l : Local) → vs now ≡ v →
    v.key 0 ≡ 0
    → ((l' : Local) → l'.pc ≡ 1 → At q t vs now now v false l')
    → ((l' : Local) → Reading vs now now false l' → At q t vs now now v false l')
    → At q t vs now now v false (begun_reading call l)
call_begins At q t vs now v (Add k) l e z walks reads = walks (begun_reading (Add k) l) refl
call_begins At q t vs now v (Remove k) l e z walks reads = walks (begun_reading (Remove k) l) refl
call_begins At q t vs now v (Contains k) l e z walks reads =
    reads (begun_reading (Contains k) l) (reads20 refl refl refl (at_head vs now now v k.0 (omega arith) e z))
call_begins At q t vs now v (Ceiling k) l e z walks reads =
    reads (begun_reading (Ceiling k) l) (reads23 refl refl refl (at_head vs now now v k.0 (omega arith) e z))

fits_had : (q : ℕ) (vs : ℕ → View) (first now t : ℕ) (call : Call) → call ≡ Contains (key_of call)
    → Had vs first now (key_of call).0
    → FitsSometime q (contents_of vs) (counts_of vs) first now t call True
fits_had q vs first now t call c a = record {
  moment = a.at;
  from = a.from;
  upto = a.upto;
  fits = subst (λ x. FitsIn q (vs a.at) t x True) (sym c) a.has;
}

fits_lacked : (q : ℕ) (vs : ℕ → View) (first now t : ℕ) (call : Call) → call ≡ Contains (key_of call)
    → Lacked vs first now (key_of call).0
    → FitsSometime q (contents_of vs) (counts_of vs) first now t call False
fits_lacked q vs first now t call c a = record {
  moment = a.at;
  from = a.from;
  upto = a.upto;
  fits = subst (λ x. FitsIn q (vs a.at) t x False) (sym c) a.lacks;
}

pub even_or_odd : (x : ℕ) → (x % 2 ≡ 0) ⊎ (x % 2 ≡ 1)
even_or_odd x = grind arith

-- Lemmas about rows 20 to 25 of the step table (the rows of `contains` and `ceiling`), for every protocol by which
-- threads share the words.
module _ (T : Table) (P : Protocol T.marks) (At : Outline) (sz : Sizes) (t : ℕ) (vs : ℕ → View) (first now : ℕ) (ws : List ℕ)
    (used : ℕ → ℕ) (done : Bool) (l : Local)
    (h : Here T.marks sz vs now ws used) (th : Thread At sz t vs first now ws used done l)
    (rows : HasReadRows T)
    (reading : (l' : Local) → Reading vs first (suc now) done l' → At sz.quota t vs first (suc now) (view sz ws used) done l')
    (idle : (l' : Local) → l'.pc ≡ 0 → At sz.quota t vs first (suc now) (view sz ws used) done l') where
  abbrev Goal : Type 0
  Goal = Turn T P At sz t vs first now ws used done l

  abbrev V : View
  V = view sz ws used

  M : Memory T.marks sz ws used
  M = h.memory

  regs : Registers sz t l
  regs = th.registers

  key_now : (a : ℕ) → (vs now).key a ≡ node_key ws a
  key_now a = ap (λ v. v.key a) h.present

  link_now : (a : ℕ) → (vs now).link a ≡ node_link ws a
  link_now a = ap (λ v. v.link a) h.present

  past_published : (a : ℕ) → InPast vs first now a → V.published a
  past_published a p =
      let upto : p.at ≤ now = p.upto in
      let c : (vs p.at).published a = in_chain_published (vs p.at) (h.course.ordered p.at upto) a p.in_chain in
      subst (λ v. v.published a) h.present (later_published vs now a (now - p.at) p.at now h.course (omega arith) (omega arith)
      c).0

  top : (m : ℕ) → m ≤ now → target l.call < (vs m).key 1
  top m le =
      let e : (vs now).key 1 ≡ (vs m).key 1 =
      key_stays vs now 1 m now h.course le (omega arith) (h.course.ordered m le).tail_published in
      let f : (vs now).key 1 ≡ node_key ws 1 = key_now 1 in
      let g : node_key ws 1 ≡ tail_word = M.tail_key in
      let low : target l.call < tail_word = regs.low in
      omega arith

  behind : At20 vs first now (key_of l.call).0 l.curr
      → (node_link ws l.curr / 2 < node_count sz) × At21 vs first (suc now) (key_of l.call).0 (node_link ws l.curr / 2)
  behind a =
      let s : ℕ = node_link ws l.curr in
      let upto : a.past.at ≤ now = a.past.upto in
      let published : V.published l.curr = past_published l.curr a.past in
      let kp : (vs now).key l.curr ≡ (vs a.past.at).key l.curr = key_stays vs now l.curr a.past.at now h.course upto
      (omega arith) (in_chain_published (vs a.past.at) (h.course.ordered a.past.at upto) l.curr a.past.in_chain) in
      let kn : (vs now).key l.curr ≡ node_key ws l.curr = key_now l.curr in
      let low : (vs a.past.at).key l.curr < target l.call = a.low in
      let user : l.curr ≢ 1 = inner T.marks sz ws used M l.curr (target l.call) (omega arith) regs.low in
      let inn : s / 2 < node_count sz = inside T.marks sz ws used M (s / 2) (M.ordered.next_published l.curr published user) in
      let on : At21 vs first now (key_of l.call).0 (s / 2) = subst (λ x. At21 vs first now (key_of l.call).0 (x / 2))
      (link_now l.curr) (from20 vs now first now (key_of l.call).0 l.curr h.course (omega arith) a) in
      (inn, at21_on vs first now (suc now) (key_of l.call).0 (s / 2) (omega arith) on)

  from_20 : l.pc ≡ 20 → done ≡ false → l.call ≡ Contains (key_of l.call) → At20 vs first now (key_of l.call).0 l.curr → Goal
  from_20 e d c a =
      let s : ℕ = node_link ws l.curr in
      let curr : l.curr < node_count sz = regs.curr in
      let next = behind a in
      passes (Load (link_index l.curr)) ws (record l { pc = 21; curr = s / 2 })
      (rows.acts l (inl e) ∙ (rw e refl)) (rows.feeds l s (inl e) ∙ (rw e refl)) (rows.tells l s (inl e))
      (P.loads sz t ws used (link_index l.curr) (omega arith))
      (keep_walk sz t 21 l.pred (s / 2) l regs.pred next.0 regs, refl, refl, λ x. omega arith)
      (reading (record l { pc = 21; curr = s / 2 }) (reads21 refl d c next.1))

  from_21 : l.pc ≡ 21 → done ≡ false → l.call ≡ Contains (key_of l.call) → At21 vs first now (key_of l.call).0 l.curr → Goal
  from_21 e d c a =
      let s : ℕ = node_key ws l.curr in
      let k : ℕ = target l.call in
      let kn : (vs now).key l.curr ≡ node_key ws l.curr = key_now l.curr in
      let curr : l.curr < node_count sz = regs.curr in
      let loads = P.loads sz t ws used (key_index l.curr) (omega arith) in
      let acts' : T.next l ≡ Load (key_index l.curr) = rows.acts l (inr (inl e)) ∙ (rw e refl) in
      let feeds' : T.feed l s ≡ read_key l s = rows.feeds l s (inr (inl e)) ∙ (rw e refl) in
      elim (below_or_not s k) [
        | inl lt ↦ passes (Load (key_index l.curr)) ws (record l { pc = 20 }) acts'
            (feeds' ∙ if_below s k lt (continued (record l { pc = 20 })) (if s == k then continued (record l { pc = 22 })
            else leaves_with False l))
            (rows.tells l s (inr (inl e))) loads (keep sz t 20 l.reply l regs, refl, refl, λ x. omega arith)
            (reading (record l { pc = 20 })
            (reads20 refl d c (at20_on vs first now (suc now) (key_of l.call).0 l.curr (omega arith)
            (from21_less vs now first now (key_of l.call).0 l.curr h.course (omega arith) a top (omega arith)))))
        | inr ge ↦
            (let skip = if_not_below s k ge (continued (record l { pc = 20 })) (if s == k then continued (record l { pc = 22 })
            else leaves_with False l) in
            elim (same_or_not s k) [
              | inl y ↦ passes (Load (key_index l.curr)) ws (record l { pc = 22 }) acts'
                  (feeds' ∙ skip ∙ if_same s k y (continued (record l { pc = 22 })) (leaves_with False l))
                  (rows.tells l s (inr (inl e))) loads (keep sz t 22 l.reply l regs, refl, refl, λ x. omega arith)
                  (reading (record l { pc = 22 })
                  (reads22 refl d c (at22_on vs first now (suc now) (key_of l.call).0 l.curr (omega arith)
                  (from21_same vs now first now (key_of l.call).0 l.curr h.course (omega arith) a top (omega arith)))))
              | inr y ↦ answers (Load (key_index l.curr)) ws (record l { pc = 0 }) False acts'
                  (feeds' ∙ skip ∙ if_other s k y (continued (record l { pc = 22 })) (leaves_with False l))
                  (rows.tells l s (inr (inl e))) loads
                  (due_of done sz.quota vs first now t l.call False d (fits_lacked sz.quota vs first now t l.call c
                  (from21_more vs now first now (key_of l.call).0 l.curr h.course (omega arith) a top (omega arith))))
                  (keep sz t 0 l.reply l regs) refl refl refl (idle (record l { pc = 0 }) refl)
            ])
      ]

  from_22 : l.pc ≡ 22 → done ≡ false → l.call ≡ Contains (key_of l.call) → At22 vs first now (key_of l.call).0 l.curr → Goal
  from_22 e d c a =
      let s : ℕ = node_link ws l.curr in
      let upto : a.past.at ≤ now = a.past.upto in
      let kp : (vs now).key l.curr ≡ (vs a.past.at).key l.curr = key_stays vs now l.curr a.past.at now h.course upto
      (omega arith) (in_chain_published (vs a.past.at) (h.course.ordered a.past.at upto) l.curr a.past.in_chain) in
      let kn : (vs now).key l.curr ≡ node_key ws l.curr = key_now l.curr in
      let found : (vs a.past.at).key l.curr ≡ target l.call = a.found in
      let head : node_key ws 0 ≡ 0 = M.head_key in let tail : node_key ws 1 ≡ tail_word = M.tail_key in
      let low : target l.call < tail_word = regs.low in
      let c0 : l.curr ≢ 0 = λ f. (let g : node_key ws l.curr ≡ node_key ws 0 = ap (node_key ws) f in omega arith) in
      let c1 : l.curr ≢ 1 = λ f. (let g : node_key ws l.curr ≡ node_key ws 1 = ap (node_key ws) f in omega arith) in
      let curr : l.curr < node_count sz = regs.curr in
      let ln : (vs now).link l.curr ≡ node_link ws l.curr = link_now l.curr in
      let loads = P.loads sz t ws used (link_index l.curr) (omega arith) in
      let acts' : T.next l ≡ Load (link_index l.curr) = rows.acts l (inr (inr (inl e))) ∙ (rw e refl) in
      let feeds' : T.feed l s ≡ read_mark l s = rows.feeds l s (inr (inr (inl e))) ∙ (rw e refl) in
      elim (even_or_odd s) [
        | inl y ↦ answers (Load (link_index l.curr)) ws (record l { pc = 0 }) True acts'
            (feeds' ∙ if_same (s % 2) 0 y (leaves_with True l) (leaves_with False l)) (rows.tells l s (inr (inr (inl e)))) loads
            (due_of done sz.quota vs first now t l.call True d (fits_had sz.quota vs first now t l.call c
            (from22_true vs now first now (key_of l.call).0 l.curr h.course (omega arith) a (omega arith) (omega arith))))
            (keep sz t 0 l.reply l regs) refl refl refl (idle (record l { pc = 0 }) refl)
        | inr y ↦ answers (Load (link_index l.curr)) ws (record l { pc = 0 }) False acts'
            (feeds' ∙ if_other (s % 2) 0 (omega arith) (leaves_with True l) (leaves_with False l))
            (rows.tells l s (inr (inr (inl e)))) loads
            (due_of done sz.quota vs first now t l.call False d (fits_lacked sz.quota vs first now t l.call c
            (from22_false vs now first now (key_of l.call).0 l.curr h.course (omega arith) a (omega arith))))
            (keep sz t 0 l.reply l regs) refl refl refl (idle (record l { pc = 0 }) refl)
      ]

  from_23 : l.pc ≡ 23 → done ≡ false → l.call ≡ Ceiling (key_of l.call) → At20 vs first now (key_of l.call).0 l.curr → Goal
  from_23 e d c a =
      let s : ℕ = node_link ws l.curr in
      let curr : l.curr < node_count sz = regs.curr in
      let next = behind a in
      passes (Load (link_index l.curr)) ws (record l { pc = 24; curr = s / 2 })
      (rows.acts l (inr (inr (inr (inl e)))) ∙ (rw e refl)) (rows.feeds l s (inr (inr (inr (inl e)))) ∙ (rw e refl))
      (rows.tells l s (inr (inr (inr (inl e))))) (P.loads sz t ws used (link_index l.curr) (omega arith))
      (keep_walk sz t 24 l.pred (s / 2) l regs.pred next.0 regs, refl, refl, λ x. omega arith)
      (reading (record l { pc = 24; curr = s / 2 }) (reads24 refl d c next.1))

  found_then : (a : At21 vs first now (key_of l.call).0 l.curr) (c : ℕ) → l.call ≡ Ceiling (key_of l.call)
      → (vs a.seen.at).key l.curr ≡ c → target l.call ≤ c → (c < tail_word → (vs now).link l.curr % 2 ≡ 0)
      → FitsSometime sz.quota (contents_of vs) (counts_of vs) first now t l.call (ceiling_at c)
  found_then a c is key above unmarked =
      let upto : a.seen.at ≤ now = a.seen.upto in
      let ord = h.course.ordered a.seen.at upto in
      let curr : (vs a.seen.at).link a.from / 2 ≡ l.curr = ap (λ x. x / 2) a.seen.link ∙ a.next in
      let published : (vs a.seen.at).published l.curr = behind_published vs now first now (key_of l.call).0 l.curr h.course
      (omega arith) a top in
      let head : (vs a.seen.at).key 0 ≡ 0 = sym (key_stays vs now 0 a.seen.at now h.course upto (omega arith) ord.head_published)
      ∙ key_now 0 ∙ M.head_key in
      let tail : (vs a.seen.at).key 1 ≡ tail_word =
      sym (key_stays vs now 1 a.seen.at now h.course upto (omega arith) ord.tail_published)
      ∙ key_now 1 ∙ M.tail_key in
      record {
        moment = a.seen.at;
        from = a.seen.from;
        upto = upto;
        fits = subst (λ x. FitsIn sz.quota (vs a.seen.at) t x (ceiling_at c)) (sym is)
            (ceiling_fits sz.quota t (vs a.seen.at) a.from c (key_of l.call) ord head tail a.seen.in_chain
            (no_tail (vs a.seen.at) ord a.from (key_of l.call).0 (top a.seen.at upto) a.low) a.low
            (sym key ∙ ap (vs a.seen.at).key (sym curr)) above
            (λ lt. ap (λ x. (vs a.seen.at).link x % 2) curr
            ∙ unmarked_before vs now l.curr a.seen.at now h.course upto (omega arith) published (unmarked lt)));
      }

  from_24 : l.pc ≡ 24 → done ≡ false → l.call ≡ Ceiling (key_of l.call) → At21 vs first now (key_of l.call).0 l.curr → Goal
  from_24 e d c a =
      let s : ℕ = node_key ws l.curr in
      let k : ℕ = target l.call in
      let kn : (vs now).key l.curr ≡ node_key ws l.curr = key_now l.curr in
      let curr : l.curr < node_count sz = regs.curr in
      let past : InPast vs first now l.curr = from21_on vs now first now (key_of l.call).0 l.curr h.course (omega arith) a top in
      let most : node_key ws l.curr ≤ node_key ws 1 = M.ordered.top l.curr (past_published l.curr past) in
      let tail : node_key ws 1 ≡ tail_word = M.tail_key in
      let small : s ≤ tail_word = omega arith in
      let loads = P.loads sz t ws used (key_index l.curr) (omega arith) in
      let acts' : T.next l ≡ Load (key_index l.curr) = rows.acts l (inr (inr (inr (inr (inl e))))) ∙ (rw e refl) in
      let feeds' : T.feed l s ≡ ceiling_key l s = rows.feeds l s (inr (inr (inr (inr (inl e))))) ∙ (rw e refl) in
      let tells' : T.effect l s ≡ None = rows.tells l s (inr (inr (inr (inr (inl e))))) in
      let on : Fed = continued (record l { pc = 23; ckey = s }) in
      let none : Fed = leaves_with reply.Nothing (record l { ckey = s }) in
      let stop : Fed = continued (record l { pc = 25; ckey = s }) in
      elim (below_or_not s k) [
        | inl lt ↦ passes (Load (key_index l.curr)) ws (record l { pc = 23; ckey = s }) acts'
            (feeds' ∙ if_below s k lt on (if s == tail_word then none else stop)) tells' loads
            (keep_ckey sz t 23 s l.reply l small regs, refl, refl, λ x. omega arith)
            (reading (record l { pc = 23; ckey = s }) (reads23 refl d c (at20_on vs first now (suc now) (key_of l.call).0 l.curr
            (omega arith) (from21_less vs now first now (key_of l.call).0 l.curr h.course (omega arith) a top (omega arith)))))
        | inr ge ↦
            (let skip = if_not_below s k ge on (if s == tail_word then none else stop) in
            let at : At25 vs first now (key_of l.call).0 l.curr s = subst (λ x. At25 vs first now (key_of l.call).0 l.curr x) kn
            (from24_more vs now first now (key_of l.call).0 l.curr h.course (omega arith) a top (omega arith)) in
            elim (same_or_not s tail_word) [
              | inl y ↦ answers (Load (key_index l.curr)) ws (record l { pc = 0; ckey = s }) reply.Nothing acts'
                  (feeds' ∙ skip ∙ if_same s tail_word y none stop) tells' loads
                  (due_of done sz.quota vs first now t l.call reply.Nothing d
                  (subst (FitsSometime sz.quota (contents_of vs) (counts_of vs) first now t l.call) (none_at s y)
                  (found_then at.walk s c at.found ge (λ lt. absurd (omega arith)))))
                  (keep_ckey sz t 0 s l.reply l small regs) refl refl refl (idle (record l { pc = 0; ckey = s }) refl)
              | inr y ↦ passes (Load (key_index l.curr)) ws (record l { pc = 25; ckey = s }) acts'
                  (feeds' ∙ skip ∙ if_other s tail_word y none stop) tells' loads
                  (keep_ckey sz t 25 s l.reply l small regs, refl, refl, λ x. omega arith)
                  (reading (record l { pc = 25; ckey = s }) (reads25 refl d c
                  (at25_on vs first now (suc now) (key_of l.call).0 l.curr s (omega arith) at)))
            ])
      ]
    where
      none_at : (c : ℕ) → c ≡ tail_word → ceiling_at c ≡ reply.Nothing
      none_at c e = if_not_below c tail_word (omega arith) (reply.At (record { 0 = c - 1 })) reply.Nothing

  from_25 : l.pc ≡ 25 → done ≡ false → l.call ≡ Ceiling (key_of l.call)
      → At25 vs first now (key_of l.call).0 l.curr l.ckey → Goal
  from_25 e d c a =
      let s : ℕ = node_link ws l.curr in
      let curr : l.curr < node_count sz = regs.curr in
      let ln : (vs now).link l.curr ≡ node_link ws l.curr = link_now l.curr in
      let from : first ≤ now = th.begun in
      let loads = P.loads sz t ws used (link_index l.curr) (omega arith) in
      let acts' : T.next l ≡ Load (link_index l.curr) = rows.acts l (inr (inr (inr (inr (inr e))))) ∙ (rw e refl) in
      let feeds' : T.feed l s ≡ ceiling_mark l s = rows.feeds l s (inr (inr (inr (inr (inr e))))) ∙ (rw e refl) in
      let tells' : T.effect l s ≡ None = rows.tells l s (inr (inr (inr (inr (inr e))))) in
      let found : Fed = leaves_with (ceiling_at l.ckey) l in
      let again : Fed = continued (record l { pc = 23; curr = 0 }) in
      elim (even_or_odd s) [
        | inl y ↦ answers (Load (link_index l.curr)) ws (record l { pc = 0 }) (ceiling_at l.ckey) acts'
            (feeds' ∙ if_same (s % 2) 0 y found again) tells' loads
            (due_of done sz.quota vs first now t l.call (ceiling_at l.ckey) d
            (found_then a.walk l.ckey c a.found a.above (λ lt. ap (λ x. x % 2) ln ∙ y)))
            (keep sz t 0 l.reply l regs) refl refl refl (idle (record l { pc = 0 }) refl)
        | inr y ↦ passes (Load (link_index l.curr)) ws (record l { pc = 23; curr = 0 }) acts'
            (feeds' ∙ if_other (s % 2) 0 (omega arith) found again) tells' loads
            (keep_walk sz t 23 l.pred 0 l regs.pred (omega arith) regs, refl, refl, λ x. omega arith)
            (reading (record l { pc = 23; curr = 0 }) (reads23 refl d c (at20_on vs first now (suc now) (key_of l.call).0 0
            (omega arith) (at_head vs first now V (key_of l.call).0 from h.present M.head_key))))
      ]

  pub reads_on : Reading vs first now done l → Goal
  reads_on (reads20 e d c a) = from_20 e d c a
  reads_on (reads21 e d c a) = from_21 e d c a
  reads_on (reads22 e d c a) = from_22 e d c a
  reads_on (reads23 e d c a) = from_23 e d c a
  reads_on (reads24 e d c a) = from_24 e d c a
  reads_on (reads25 e d c a) = from_25 e d c a
