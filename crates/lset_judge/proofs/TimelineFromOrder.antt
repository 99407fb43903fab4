-- Proof: if an order explains a history, each key has a correct timeline (a choice of when each change of the key takes
-- effect).
use Rattle.std.proofs.Common.{◌≡◌, ◌≢◌, ℕ, zero, suc, ◌+◌, ◌<◌, ◌≤◌, List, [], ◌∷◌, Bool, true, false, inl, inr, refl, sym, ap, ◌∙◌, arith}
use Rattle.std.proofs.Common.{subst, length, get_or, map}
use Rattle.std.specs.Prelude.{◌==◌, if◌then◌else◌, Option, Some, None, All, AllPairs, Contains, IfSome, IsSomeAnd}
use Rattle.std.specs.List.{AllByRecursion}
use Rattle.std.proofs.lemmas.Bool.{cases_Bool, cases_order, true≢false}
use Rattle.std.proofs.lemmas.List.{get_or_default}
use Rattle.std.proofs.lemmas.List.Elements.{All-map, recursion_from_All}
use Rattle.lset_words.specs.declared.Call.{Call}
use Rattle.lset_words.specs.declared.Call.TheVariants.{Add, Remove, Contains as IsIn}
use Rattle.lset_words.specs.declared.Reply.{Reply}
use Rattle.lset_words.specs.declared.Reply.TheVariants.{True, False, Full}
use Rattle.lset_words.specs.declared.history.CallRecord.{CallRecord}
use Rattle.lset_words.specs.declared.history.Placed.{Placed}
use Rattle.lset_words.specs.Words.{key_of}
use Rattle.lset_words.specs.SequentialSet.{SetState, has_key, opening_set, reply_to, after_call, IsLegal, set_left, count_of}
use Rattle.lset_words.specs.History.{IsCall, Follows, IsHistory, call_numbered, no_call, answered, Precedes, Linearizes}
use Rattle.lset_words.proofs.Numbers.{same_number, equal_test, below_or_not, same_or_not}
use Rattle.lset_history.specs.History.{HistoryValue, latest_moment}
use Rattle.lset_history.specs.Faults.{Explains, set_left_by}
use Rattle.lset_history.proofs.Lists.{Pairs}
use Rattle.lset_history.proofs.Pairs.{pairs_head, pairs_tail}
use Rattle.lset_judge.specs.Rule.{Event, begins, looks, leaves, idle, opened, changes_to}
use Rattle.lset_judge.specs.Events.{Kind, changes, sees, nothing, kind_of, open_kind, kind_if, until_if, begin_event, end_event, event_at}
use Rattle.lset_judge.specs.Events.{RulePasses}
use Rattle.lset_judge.proofs.EventLemmas.{kind, until, begun_below, end_below, Begins, Ends, Told, of_nothing, of_begin, of_end, told, begins_at, if_some, for_some, none_or_some}
use Rattle.lset_history.proofs.Keys.{has_with, has_with_other, has_without, has_without_other}
use Rattle.lset_judge.proofs.TimelineOfKey.{In, Act, act, suits, becomes, TakeTurns, Apart, IsAct, AreEvents, Lists, Ready, succeeds, one_of}

-- ---- The effect of a completed call on a key

abbrev pub does : ℕ → Call → Reply → Kind
does k c r = if (key_of c).0 == k then kind_of c r else nothing

pub does_own : (quota thread : ℕ) (s : SetState) (c : Call) (r : Reply) → reply_to quota s thread c ≡ r
    → suits (has_key (key_of c).0 s.keys) (kind_of c r)
    × (has_key (key_of c).0 (after_call s thread c r).keys ≡ becomes (has_key (key_of c).0 s.keys) (kind_of c r))
does_own quota thread s c r e = by c r (has_key (key_of c).0 s.keys) refl e
  where
    is_at : Reply → Bool
    is_at r = true

    by : (c : Call) (r : Reply) (b : Bool) → has_key (key_of c).0 s.keys ≡ b → reply_to quota s thread c ≡ r
        → suits (has_key (key_of c).0 s.keys) (kind_of c r)
        × (has_key (key_of c).0 (after_call s thread c r).keys ≡ becomes (has_key (key_of c).0 s.keys) (kind_of c r))
    by (Add k) True true h e = absurd (let f : False ≡ True = rw h at e in cc)
    by (Add k) True false h e = (h, has_with k.0 s.keys)
    by (Add k) False true h e = (h, refl)
    by (Add k) False false h e = absurd (let f : (if count_of s thread == quota then Full else True) ≡ False = rw h at e in
        elim (cases_Bool (count_of s thread == quota)) [ inl t ↦ (let g : Full ≡ False = rw t at f in cc) | inr t ↦ (let g : True ≡ False = rw t at f in cc) ])
    by (Add k) Full true h e = absurd (let f : False ≡ Full = rw h at e in cc)
    by (Add k) Full false h e = (h, refl)
    by (Remove k) True true h e = (h, has_without k.0 s.keys)
    by (Remove k) True false h e = absurd (let f : False ≡ True = rw h at e in cc)
    by (Remove k) False true h e = absurd (let f : True ≡ False = rw h at e in cc)
    by (Remove k) False false h e = (h, refl)
    by (IsIn k) True true h e = (h, refl)
    by (IsIn k) True false h e = absurd (let f : False ≡ True = rw h at e in cc)
    by (IsIn k) False true h e = absurd (let f : True ≡ False = rw h at e in cc)
    by (IsIn k) False false h e = (h, refl)
    by c r b h e = (tt, refl)

pub other_stays : (k thread : ℕ) (s : SetState) (c : Call) (r : Reply) → (key_of c).0 ≢ k
    → has_key k (after_call s thread c r).keys ≡ has_key k s.keys
other_stays k thread s (Add j) True n = has_with_other k j.0 s.keys n
other_stays k thread s (Remove j) True n = has_without_other k j.0 s.keys n
other_stays k thread s c r n = refl

does_one : (k quota thread : ℕ) (s : SetState) (c : Call) (r : Reply) → reply_to quota s thread c ≡ r
    → suits (has_key k s.keys) (does k c r)
    × (has_key k (after_call s thread c r).keys ≡ becomes (has_key k s.keys) (does k c r))
does_one k quota thread s c r e = elim (cases_Bool ((key_of c).0 == k)) [
  | inl t ↦ rw t (subst (λ j. suits (has_key j s.keys) (kind_of c r)
      × (has_key j (after_call s thread c r).keys ≡ becomes (has_key j s.keys) (kind_of c r)))
      (same_number (key_of c).0 k t) (does_own quota thread s c r e))
  | inr f ↦ rw f (tt, other_stays k thread s c r (λ q. true≢false (sym (equal_test (key_of c).0 k q) ∙ f)))
]

open_change : (c : Call) (r : Reply) (w : Bool) → kind_of c r ≡ changes w → open_kind c ≡ changes w
open_change (Add k) True w e = e
open_change (Remove k) True w e = e
open_change (IsIn k) True w e = absurd (cc)
open_change c r w e = absurd (cc)

-- ---- Lemmas about two calls of a history

module _ (threads : ℕ) (calls : List CallRecord) (history : IsHistory threads calls) (last : ℕ) (upto : latest_moment calls ≤ last) where
  abbrev x_ : ℕ → CallRecord
  x_ n = get_or calls n no_call

  follows : (i j : ℕ) → i < j → j < length calls → Follows (x_ i) (x_ j)
  follows i j l h = history.pairs i j no_call l h

  pub is_call : (n : ℕ) → n < length calls → IsCall threads (x_ n)
  is_call n h = history.each n no_call h

  late_end : (o : Option (ℕ × Reply)) (begun : ℕ) → 0 < begun → begun ≤ last → IfSome o (λ (e : ℕ × Reply). begun < e.0)
      → begun < until_if last begun o
  late_end None begun c b h = omega (arith, c, b)
  late_end (Some e) begun c b h = h

  pub begins_differ : (i j : ℕ) → i < length calls → j < length calls → i ≢ j → (x_ i).begun ≢ (x_ j).begun
  begins_differ i j a b n same = elim (cases_order i j) [
    | inl e ↦ n e
    | inr (inl l) ↦ (let r = (follows i j l b).increasing in omega (arith, r, same))
    | inr (inr l) ↦ (let r = (follows j i l a).increasing in omega (arith, r, same))
  ]

  pub end_apart : (i j : ℕ) (e : ℕ × Reply) → i < length calls → j < length calls → i ≢ j → (x_ j).ended ≡ Some e → e.0 ≢ (x_ i).begun
  end_apart i j e a b n s = elim (cases_order i j) [
    | inl q ↦ absurd (n q)
    | inr (inl l) ↦ (if_some (λ f. (f.0 ≢ (x_ i).begun) × IfSome (x_ i).ended (λ (d : ℕ × Reply). f.0 ≢ d.0)) (x_ j).ended e s (follows i j l b).ends_alone).0
    | inr (inr l) ↦ if_some (λ f. f.0 ≢ (x_ i).begun) (x_ j).ended e s (follows j i l a).begins_alone
  ]

  ends_differ : (i j : ℕ) (d e : ℕ × Reply) → i < length calls → j < length calls → i ≢ j → (x_ i).ended ≡ Some d
      → (x_ j).ended ≡ Some e → d.0 ≢ e.0
  ends_differ i j d e a b n r s = elim (cases_order i j) [
    | inl q ↦ absurd (n q)
    | inr (inl l) ↦ (λ q. if_some (λ f. e.0 ≢ f.0) (x_ i).ended d r
        (if_some (λ f. (f.0 ≢ (x_ i).begun) × IfSome (x_ i).ended (λ (g : ℕ × Reply). f.0 ≢ g.0)) (x_ j).ended e s (follows i j l b).ends_alone).1 (sym q))
    | inr (inr l) ↦ if_some (λ f. d.0 ≢ f.0) (x_ j).ended e s
        (if_some (λ f. (f.0 ≢ (x_ j).begun) × IfSome (x_ j).ended (λ (g : ℕ × Reply). f.0 ≢ g.0)) (x_ i).ended d r (follows j i l a).ends_alone).1
  ]

  until_open : (n : ℕ) → (x_ n).ended ≡ None → until last (x_ n) ≡ last + (x_ n).begun
  until_open n e = rw e refl

  until_ended : (n : ℕ) (e : ℕ × Reply) → (x_ n).ended ≡ Some e → until last (x_ n) ≡ e.0
  until_ended n e s = rw s refl

  begun_low : (n : ℕ) → n < length calls → (x_ n).begun ≤ last
  begun_low n h = let a = begun_below calls n no_call h in omega (arith, a, upto)

  end_low : (n : ℕ) (e : ℕ × Reply) → n < length calls → (x_ n).ended ≡ Some e → e.0 ≤ last
  end_low n e h s = let a = end_below calls n no_call e h s in omega (arith, a, upto)

  pub untils_differ : (i j : ℕ) → i < length calls → j < length calls → i ≢ j → until last (x_ i) ≢ until last (x_ j)
  untils_differ i j a b n same = elim (none_or_some (x_ i).ended) [
    | inl r ↦ elim (none_or_some (x_ j).ended) [
      | inl s ↦ (let u = until_open i r in let v = until_open j s in begins_differ i j a b n (omega (arith, u, v, same)))
      | inr s ↦ (let u = until_open i r in let v = until_ended j s.0 s.1 in let low = end_low j s.0 b s.1 in
          let c = (is_call i a).counted in omega (arith, u, v, low, c, same))
    ]
    | inr r ↦ elim (none_or_some (x_ j).ended) [
      | inl s ↦ (let u = until_ended i r.0 r.1 in let v = until_open j s in let low = end_low i r.0 a r.1 in
          let c = (is_call j b).counted in omega (arith, u, v, low, c, same))
      | inr s ↦ (let u = until_ended i r.0 r.1 in let v = until_ended j s.0 s.1 in
          ends_differ i j r.0 s.0 a b n r.1 s.1 (omega (arith, u, v, same)))
    ]
  ]

  in_time : (i j : ℕ) → i < length calls → j < length calls → i ≢ j → (Precedes (x_ j) (x_ i) → ⊥)
      → (x_ i).begun < until last (x_ j)
  in_time i j a b n not_before = elim (none_or_some (x_ j).ended) [
    | inl s ↦ (let u = until_open j s in let low = begun_low i a in let c = (is_call j b).counted in omega (arith, u, low, c))
    | inr s ↦ (let u = until_ended j s.0 s.1 in let apart = end_apart i j s.0 a b n s.1 in
        elim (below_or_not s.0.0 (x_ i).begun) [
          | inl early ↦ absurd (not_before (subst (λ o. IsSomeAnd o (λ (e : ℕ × Reply). e.0 < (x_ i).begun)) (sym s.1) early))
          | inr late ↦ omega (arith, u, late, apart)
        ])
  ]

  -- ---- Lemmas about one key and an order that linearizes the history
  module _ (k : ℕ) where
    abbrev ev : ℕ → Event
    ev m = event_at last k calls m

    abbrev act_of : Placed → Act
    act_of p = act (x_ p.call).begun (until last (x_ p.call)) (does k (x_ p.call).call p.reply)

    -- ---- Lemmas about the events of the key
    pub begins_told : (v : Event) (m : ℕ) (w : Bool) (u : ℕ) → v ≡ begins w u → Told last k m calls v
        → (b : Begins last k m calls v) × (kind (x_ b.number) ≡ changes w) × (until last (x_ b.number) ≡ u)
    begins_told v m w u e (of_nothing f) = absurd (let g : begins w u ≡ idle = sym e ∙ f in cc)
    begins_told v m w u e (of_begin b) = let g = by (kind (x_ b.number)) (until last (x_ b.number)) (sym e ∙ b.is) in (b, g.0, g.1)
      where
        by : (d : Kind) (y : ℕ) → begins w u ≡ begin_event d y → (d ≡ changes w) × (y ≡ u)
        by (changes v) y h = (cc, cc)
        by d y h = absurd cc
    begins_told v m w u e (of_end b) = absurd (by (kind (x_ b.number)) (x_ b.number).begun (sym e ∙ b.is))
      where
        by : (d : Kind) (y : ℕ) → begins w u ≡ end_event d y → ⊥
        by (changes v) y h = cc
        by d y h = cc

    looks_told : (v : Event) (m : ℕ) (w : Bool) (i : ℕ) → v ≡ looks w i → Told last k m calls v
        → (b : Ends last k m calls v) × (kind (x_ b.number) ≡ sees w) × ((x_ b.number).begun ≡ i)
    looks_told v m w i e (of_nothing f) = absurd (let g : looks w i ≡ idle = sym e ∙ f in cc)
    looks_told v m w i e (of_end b) = let g = by (kind (x_ b.number)) (x_ b.number).begun (sym e ∙ b.is) in (b, g.0, g.1)
      where
        by : (d : Kind) (y : ℕ) → looks w i ≡ end_event d y → (d ≡ sees w) × (y ≡ i)
        by (sees v) y h = (cc, cc)
        by d y h = absurd cc
    looks_told v m w i e (of_begin b) = absurd (by (kind (x_ b.number)) (until last (x_ b.number)) (sym e ∙ b.is))
      where
        by : (d : Kind) (y : ℕ) → looks w i ≡ begin_event d y → ⊥
        by (changes v) y h = cc
        by d y h = cc

    pub never_left : (v : Event) (m : ℕ) (w : Bool) → v ≡ leaves w → Told last k m calls v → ⊥
    never_left v m w e (of_nothing f) = (let g : leaves w ≡ idle = sym e ∙ f in cc)
    never_left v m w e (of_begin b) = by (kind (x_ b.number)) (until last (x_ b.number)) (sym e ∙ b.is)
      where
        by : (d : Kind) (y : ℕ) → leaves w ≡ begin_event d y → ⊥
        by (changes v) y h = cc
        by d y h = cc
    never_left v m w e (of_end b) = by (kind (x_ b.number)) (x_ b.number).begun (sym e ∙ b.is)
      where
        by : (d : Kind) (y : ℕ) → leaves w ≡ end_event d y → ⊥
        by (changes v) y h = cc
        by d y h = cc

    pub are_events : AreEvents ev
    are_events = record {
      once = λ i j v w u e f.
          let a = begins_told (ev i) i v u e (told last k i calls) in
          let b = begins_told (ev j) j w u f (told last k j calls) in
          elim (same_or_not a.0.number b.0.number) [
            | inl s ↦ sym a.0.begun ∙ ap (λ n. (x_ n).begun) s ∙ b.0.begun
            | inr n ↦ absurd (untils_differ a.0.number b.0.number a.0.known b.0.known n (a.2 ∙ sym b.2))
          ];
      not_left = λ i w e. never_left (ev i) i w e (told last k i calls);
    }

    -- ---- Lemmas about the acts (effects of calls on the key) in an order of the calls
    all_map : (Q : Act → Type 0) (ps : List Placed) → All (λ p. Q (act_of p)) ps → AllByRecursion Q (map act_of ps)
    all_map Q ps h = recursion_from_All Q (map act_of ps) (All-map Q act_of ps h)

    in_map : (ps : List Placed) (n : ℕ) (p : Placed) → n < length ps → get_or ps n p ≡ p → In (act_of p) (map act_of ps)
    in_map [] n p l e = absurd (omega arith)
    in_map (q ∷ ps) zero p l e = inl (ap act_of e)
    in_map (q ∷ ps) (suc n) p l e = inr (in_map ps n p (omega arith) e)

    pub pairs_map : (ps : List Placed) → All (λ (p : Placed). p.call < length calls) ps → AllPairs (λ (p r : Placed). p.call ≢ r.call) ps
        → AllPairs (λ (p r : Placed). Precedes (call_numbered calls r.call) (call_numbered calls p.call) → ⊥) ps
        → Pairs Apart (map act_of ps)
    pairs_map [] known once time = tt
    pairs_map (p ∷ ps) known once time =
        let apart = pairs_head (λ (p r : Placed). p.call ≢ r.call) p ps once in
        let early = pairs_head (λ (p r : Placed). Precedes (call_numbered calls r.call) (call_numbered calls p.call) → ⊥) p ps time in (
          all_map (Apart (act_of p)) ps (λ n d l.
              let r : Placed = get_or ps n d in
              let a : p.call < length calls = known 0 p (omega arith) in
              let b : r.call < length calls = known (suc n) d (omega arith) in
              record {
                in_time = in_time p.call r.call a b (apart n d l) (early n d l);
                other = untils_differ p.call r.call a b (apart n d l);
              }),
          pairs_map ps (λ n d l. known (suc n) d (omega arith))
              (pairs_tail (λ (p r : Placed). p.call ≢ r.call) p ps once)
              (pairs_tail (λ (p r : Placed). Precedes (call_numbered calls r.call) (call_numbered calls p.call) → ⊥) p ps time),
        )

    pub turns_map : (quota : ℕ) (left : Bool) (ps : List Placed) (s : SetState) → IsLegal quota s (map (answered calls) ps)
        → has_key k (set_left s (map (answered calls) ps)).keys ≡ left → TakeTurns left (has_key k s.keys) (map act_of ps)
    turns_map quota left [] s l e = e
    turns_map quota left (p ∷ ps) s l e =
        let one = does_one k quota (x_ p.call).thread s (x_ p.call).call p.reply l.0 in
        let next : SetState = after_call s (x_ p.call).thread (x_ p.call).call p.reply in
        (one.0, subst (λ b. TakeTurns left b (map act_of ps)) one.1 (turns_map quota left ps next l.1 e))

    abbrev pub SameReplies : List Placed → Type 0
    SameReplies order = All (λ (p : Placed). IfSome (x_ p.call).ended (λ (e : ℕ × Reply). e.1 ≡ p.reply)) order

    own_if : (c : Call) (r : Reply) (w : Bool) → does k c r ≡ changes w → ((key_of c).0 ≡ k) × (kind_of c r ≡ changes w)
    own_if c r w e = elim (cases_Bool ((key_of c).0 == k)) [
      | inl t ↦ (same_number _ _ t, rw t at e)
      | inr f ↦ absurd (let g : nothing ≡ changes w = rw f at e in cc)
    ]

    kind_there : (x : CallRecord) (r : Reply) (w : Bool) → IfSome x.ended (λ (e : ℕ × Reply). e.1 ≡ r) → kind_of x.call r ≡ changes w → kind x ≡ changes w
    kind_there x r w same e = elim (none_or_some x.ended) [
      | inl s ↦ subst (λ o. kind_if x.call o ≡ changes w) (sym s) (open_change x.call r w e)
      | inr s ↦ subst (λ o. kind_if x.call o ≡ changes w) (sym s.1)
          (subst (λ q. kind_of x.call q ≡ changes w) (sym (if_some (λ (e : ℕ × Reply). e.1 ≡ r) x.ended s.0 s.1 same)) e)
    ]

    pub acts_are : (order : List Placed) → All (λ (p : Placed). p.call < length calls) order → SameReplies order → AllByRecursion (IsAct ev last) (map act_of order)
    acts_are order known replies = all_map (IsAct ev last) order (λ i d low.
        let p : Placed = get_or order i d in
        let is : p.call < length calls = known i d low in
        let c = is_call p.call is in record {
          counted = c.counted;
          inside = begun_low p.call is;
          ends_later = late_end (x_ p.call).ended (x_ p.call).begun c.counted (begun_low p.call is) c.ends_later;
          told = λ w e.
              let own = own_if (x_ p.call).call p.reply w e in
              let at = begins_at last k p.call calls is history.pairs own.0 in
              let kd = kind_there (x_ p.call) p.reply w (replies i d low) own.1 in
              at ∙ ap (λ q. begin_event q (until last (x_ p.call))) kd;
        })

    pub stands_if : (order : List Placed) (n : ℕ) (e : ℕ × Reply) → Contains order (record { call = n; reply = e.1 }) → (x_ n).ended ≡ Some e
        → (key_of (x_ n).call).0 ≡ k → In (act (x_ n).begun e.0 (kind (x_ n))) (map act_of order)
    stands_if order n e c s own =
        let i = in_map order c.0 (record { call = n; reply = e.1 }) c.1 c.2 in
        let a : until last (x_ n) ≡ e.0 = until_ended n e s in
        let b : does k (x_ n).call e.1 ≡ kind (x_ n) = rw (equal_test (key_of (x_ n).call).0 k own) (rw s refl) in
        subst (λ u. In (act (x_ n).begun u (kind (x_ n))) (map act_of order)) a
        (subst (λ q. In (act (x_ n).begun (until last (x_ n)) q) (map act_of order)) b i)

    module _ (quota : ℕ) (start : SetState) (order : List Placed) (l : Linearizes quota start calls order) where
      same_reply : (i : ℕ) (d : Placed) (e : ℕ × Reply) → i < length order → (x_ (get_or order i d).call).ended ≡ Some e
          → (get_or order i d).reply ≡ e.1
      same_reply i d e low s =
          let p : Placed = get_or order i d in
          let c : Contains order (record { call = p.call; reply = e.1 }) = l.ended p.call e.0 e.1 (l.known i d low) s in
          let is : get_or order c.0 d ≡ record { call = p.call; reply = e.1 } = get_or_default order c.0 _ _ c.1 ∙ c.2 in
          elim (cases_order i c.0) [
            | inl q ↦ ap (λ (r : Placed). r.reply) (ap (λ n. get_or order n d) q ∙ is)
            | inr (inl a) ↦ absurd (l.once i c.0 d a c.1 (sym (ap (λ (r : Placed). r.call) is)))
            | inr (inr a) ↦ absurd (l.once c.0 i d a low (ap (λ (r : Placed). r.call) is))
          ]

      pub stands : (n : ℕ) (e : ℕ × Reply) → n < length calls → (x_ n).ended ≡ Some e → (key_of (x_ n).call).0 ≡ k
          → In (act (x_ n).begun e.0 (kind (x_ n))) (map act_of order)
      stands n e known s own = stands_if order n e (l.ended n e.0 e.1 known s) s own

      replies : SameReplies order
      replies i d low = for_some (λ (e : ℕ × Reply). e.1 ≡ (get_or order i d).reply) (x_ (get_or order i d).call).ended (λ e s. sym (same_reply i d e low s))

      pub ready : (left : Bool) → has_key k (set_left_by start calls order).keys ≡ left
          → Ready ev last left are_events 0 (opened (has_key k start.keys)) (map act_of order)
      ready left e = record {
        take_turns = turns_map quota left order start l.legal e;
        acts = acts_are order l.known replies;
        pairs = pairs_map order l.known l.once l.in_time;
        lists = none;
        begins_to_come = λ i w u f late low.
            let b = begins_told (ev i) i w u f (told last k i calls) in
            let n : ℕ = b.0.number in
            elim (none_or_some (x_ n).ended) [
              | inl s ↦ (let o = until_open n s in let q = b.2 in let c = (is_call n b.0.known).counted in absurd (omega (arith, o, q, low, c)))
              | inr s ↦ (let at = stands n s.0 b.0.known s.1 b.0.own in
                  let u_is : s.0.0 ≡ u = sym (until_ended n s.0 s.1) ∙ b.2 in
                  subst (λ j. In (act j u (changes w)) (map act_of order)) b.0.begun
                  (subst (λ y. In (act (x_ n).begun y (changes w)) (map act_of order)) u_is
                  (subst (λ q. In (act (x_ n).begun s.0.0 q) (map act_of order)) b.1 at)))
            ];
        looks_to_come = λ j w i f late low.
            let b = looks_told (ev j) j w i f (told last k j calls) in
            let n : ℕ = b.0.number in
            let at = stands n b.0.end b.0.known b.0.ended b.0.own in
            inl (subst (λ y. In (act y j (sees w)) (map act_of order)) b.2
            (subst (λ y. In (act (x_ n).begun y (sees w)) (map act_of order)) b.0.at
            (subst (λ q. In (act (x_ n).begun b.0.end.0 q) (map act_of order)) b.1 at)));
      }
        where
          nothing_open : (w : Bool) → [] ≡ changes_to w (opened (has_key k start.keys))
          nothing_open true = refl
          nothing_open false = refl

          none : (w : Bool) → Lists ev last left are_events w 0 (changes_to w (opened (has_key k start.keys))) (map act_of order)
          none w = subst (λ xs. Lists ev last left are_events w 0 xs (map act_of order)) (nothing_open w) (record {
            from_event = λ u h. absurd (true≢false (sym h));
            needed = λ u h low. absurd (true≢false (sym h));
            holds = λ a i d low. let c = (one_of (IsAct ev last) a (map act_of order) (acts_are order l.known replies) i).counted in absurd (omega (arith, c, low));
            once = tt;
          })

-- Lemma: if an order explains the history, each key passes the judge's test.
pub rule_refutes : (last : ℕ) (h : HistoryValue) (keys : List ℕ) (order : List Placed) → latest_moment h.calls ≤ last
    → IsHistory h.opening.threads h.calls → Explains h order keys → RulePasses last h keys
rule_refutes last h keys order upto history e k =
    let left : has_key k (set_left_by (opening_set h.opening) h.calls order).keys ≡ has_key k keys = ap (has_key k) (sym e.keys_left) in
    let ev = event_at last k h.calls in let are = are_events h.opening.threads h.calls history last upto k in
    succeeds ev last (has_key k keys) are (has_key k h.opening.keys) _
    (ready h.opening.threads h.calls history last upto k h.opening.quota (opening_set h.opening) order e.linearizes (has_key k keys) left)
