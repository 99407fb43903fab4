-- Proof: if two calls on a key contradict each other, no order explains the calls.
use Rattle.std.proofs.Common.{◌≡◌, ℕ, ◌<◌, ◌≤◌, ◌⊎◌, List, [], ◌∷◌, Bool, true, false, inl, inr, refl, sym, ap, ◌∙◌, arith, subst, length, get_or, map}
use Rattle.std.specs.Prelude.{not, ◌||◌, Option, Some, None, IfSome, IsSomeAnd, All, Contains as Has, ◌==◌}
use Rattle.std.specs.List.{AllByRecursion}
use Rattle.std.proofs.lemmas.Bool.{true≢false}
use Rattle.std.proofs.lemmas.Bool.Decides.{nat_tests}
use Rattle.std.proofs.lemmas.List.{get_or_default, get_or-map, length-map}
use Rattle.lset_words.specs.declared.Call.{Call}
use Rattle.lset_words.specs.declared.Reply.{Reply}
use Rattle.lset_words.specs.declared.effect.Presence.{Presence}
use Rattle.lset_words.specs.declared.effect.Presence.TheVariants.{Present, Absent}
use Rattle.lset_words.specs.declared.effect.Effect.{Effect}
use Rattle.lset_words.specs.declared.effect.Effect.TheVariants.{Changes, Sees, Other}
use Rattle.lset_words.specs.declared.history.CallRecord.{CallRecord}
use Rattle.lset_words.specs.declared.history.Placed.{Placed}
use Rattle.lset_words.specs.Effects.{effect_of, is_there}
use Rattle.lset_words.specs.Words.{key_of}
use Rattle.lset_words.specs.History.{IsHistory, no_call}
use Rattle.lset_words.specs.SequentialSet.{has_key, opening_set}
use Rattle.lset_words.proofs.Numbers.{same_number}
use Rattle.lset_history.specs.History.{HistoryValue, latest_moment}
use Rattle.lset_history.specs.Faults.{set_left_by}
use Rattle.lset_history.proofs.Lists.{Pairs}
use Rattle.std.proofs.lemmas.List.Elements.{All-map}
use Rattle.lset_judge.specs.declared.clash.Clash.{Clash}
use Rattle.lset_judge.specs.declared.stream.StreamCall.{StreamCall}
use Rattle.lset_judge.specs.Stream.{record_of}
use Rattle.lset_judge.specs.Events.{Kind, changes, sees, nothing, kind_as, kind_if, event_at}
use Rattle.lset_judge.specs.Rest.{alone, has_ended, key_if, turns_to}
use Rattle.lset_judge.specs.Verdict.{IsUnexplained}
use Rattle.lset_judge.specs.Clash.{records, HaveNone, record_if, is_apart, other, left_so, needed_by, leaves_if, needs_if, IsOf, is_before, NothingTurns, Clashes, IsClash}
use Rattle.lset_judge.proofs.EventLemmas.{kind, until, told, end_below, opens_so}
use Rattle.lset_judge.proofs.PlacedCalls.{below_test}
use Rattle.lset_judge.proofs.TimelineOfKey.{In, one_of, Act, act, suits, becomes, TakeTurns, Apart, IsAct}
use Rattle.lset_judge.proofs.TimelineFromOrder.{does, begins_told, stands, ready}

-- ---- Lemmas about the acts (effects of calls on the key) in an order

abbrev Before : Act → Act → List Act → Type 0
Before x t [] = ⊥
Before x t (p ∷ ys) = ((p ≡ x) × In t ys) ⊎ Before x t ys

two : (x t : Act) (ys : List Act) → In x ys → In t ys → (x ≡ t → ⊥) → Before x t ys ⊎ Before t x ys
two x t [] i j n = absurd i
two x t (p ∷ ys) (inl e) (inl f) n = absurd (n (sym e ∙ f))
two x t (p ∷ ys) (inl e) (inr j) n = inl (inl (e, j))
two x t (p ∷ ys) (inr i) (inl f) n = inr (inl (f, i))
two x t (p ∷ ys) (inr i) (inr j) n = elim (two x t ys i j n) [ inl b ↦ inl (inr b) | inr b ↦ inr (inr b) ]

early : (x t : Act) (ys : List Act) → Pairs Apart ys → Before x t ys → x.begun < t.until
early x t [] pairs b = absurd b
early x t (p ∷ ys) pairs (inl h) = subst (λ (q : Act). q.begun < t.until) h.0 (one_of (Apart p) t ys pairs.0 h.1).in_time
early x t (p ∷ ys) pairs (inr b) = early x t ys pairs.1 b

goes_on : (s b : Bool) (k : Kind) → s ≡ b → (k ≡ changes (not b) → ⊥) → becomes s k ≡ b
goes_on s true (changes true) e n = refl
goes_on s false (changes false) e n = refl
goes_on s true (changes false) e n = absurd (n refl)
goes_on s false (changes true) e n = absurd (n refl)
goes_on s b (sees w) e n = e
goes_on s b nothing e n = e

stays : (left s b : Bool) (t : Act) (ys : List Act) → s ≡ b → TakeTurns left s ys → Pairs Apart ys → In t ys
    → ((a : Act) → In a ys → a.does ≡ changes (not b) → a.begun < t.until → ⊥) → suits b t.does
stays left s b t [] e turns pairs i n = absurd i
stays left s b t (p ∷ ys) e turns pairs (inl q) n = subst (λ (a : Act). suits b a.does) q (subst (λ c. suits c p.does) e turns.0)
stays left s b t (p ∷ ys) e turns pairs (inr i) n = stays left (becomes s p.does) b t ys
    (goes_on s b p.does e (λ d. n p (inl refl) d (one_of (Apart p) t ys pairs.0 i).in_time)) turns.1 pairs.1 i (λ a j. n a (inr j))

stays_left : (left s b : Bool) (ys : List Act) → s ≡ b → TakeTurns left s ys → ((a : Act) → In a ys → a.does ≡ changes (not b) → ⊥) → b ≡ left
stays_left left s b [] e turns n = sym e ∙ turns
stays_left left s b (p ∷ ys) e turns n = stays_left left (becomes s p.does) b ys (goes_on s b p.does e (n p (inl refl))) turns.1 (λ a j. n a (inr j))

abbrev pub Leaves : Bool → Kind → Type 0
Leaves b k = (s : Bool) → suits s k → becomes s k ≡ b

after : (left s b : Bool) (x t : Act) (ys : List Act) → TakeTurns left s ys → Pairs Apart ys → Before x t ys → Leaves b x.does
    → ((a : Act) → In a ys → a.does ≡ changes (not b) → x.begun < a.until → a.begun < t.until → ⊥) → suits b t.does
after left s b x t [] turns pairs i l n = absurd i
after left s b x t (p ∷ ys) turns pairs (inl h) l n = stays left (becomes s p.does) b t ys
    (subst (λ (q : Act). Leaves b q.does) (sym h.0) l s turns.0) turns.1 pairs.1 h.1
    (λ a j d. n a (inr j) d (subst (λ (q : Act). q.begun < a.until) h.0 (one_of (Apart p) a ys pairs.0 j).in_time))
after left s b x t (p ∷ ys) turns pairs (inr i) l n = after left (becomes s p.does) b x t ys turns.1 pairs.1 i l (λ a j. n a (inr j))

after_left : (left s b : Bool) (x : Act) (ys : List Act) → TakeTurns left s ys → Pairs Apart ys → In x ys → Leaves b x.does
    → ((a : Act) → In a ys → a.does ≡ changes (not b) → x.begun < a.until → ⊥) → b ≡ left
after_left left s b x [] turns pairs i l n = absurd i
after_left left s b x (p ∷ ys) turns pairs (inl e) l n = stays_left left (becomes s p.does) b ys
    (subst (λ (q : Act). Leaves b q.does) (sym e) l s turns.0) turns.1
    (λ a j d. n a (inr j) d (subst (λ (q : Act). q.begun < a.until) e (one_of (Apart p) a ys pairs.0 j).in_time))
after_left left s b x (p ∷ ys) turns pairs (inr i) l n = after_left left (becomes s p.does) b x ys turns.1 pairs.1 i l (λ a j. n a (inr j))

-- ---- Lemmas about the state that a call leaves, and the state that a call needs

pub some_same : (p q : Presence) → Some p ≡ Some q → p ≡ q
some_same p q e = cc

leaves_so : (f : Effect) (p : Presence) → left_so f ≡ Some p → Leaves (is_there p) (kind_as f)
leaves_so (Changes q) p e s h = ap is_there (some_same q p e)
leaves_so (Sees q) p e s h = h ∙ ap is_there (some_same q p e)
leaves_so Other p e s h = absurd cc

needs_so : (f : Effect) (p : Presence) → needed_by f ≡ Some (other p) → suits (is_there p) (kind_as f) → ⊥
needs_so (Changes Present) Present e h = true≢false h
needs_so (Changes Present) Absent e h = cc
needs_so (Changes Absent) Present e h = cc
needs_so (Changes Absent) Absent e h = true≢false (sym h)
needs_so (Sees Present) Present e h = cc
needs_so (Sees Present) Absent e h = true≢false (sym h)
needs_so (Sees Absent) Present e h = true≢false h
needs_so (Sees Absent) Absent e h = cc
needs_so Other p e h = cc

pub left_end : (c : Call) (o : Option (ℕ × Reply)) (p : Presence) → leaves_if c o ≡ Some p
    → (e : ℕ × Reply) × (o ≡ Some e) × Leaves (is_there p) (kind_if c o)
left_end c None p h = absurd cc
left_end c (Some e) p h = (e, refl, leaves_so (effect_of c e.1) p h)

pub need_end : (c : Call) (o : Option (ℕ × Reply)) (p : Presence) → needs_if c o ≡ Some (other p)
    → (e : ℕ × Reply) × (o ≡ Some e) × (suits (is_there p) (kind_if c o) → ⊥)
need_end c None p h = absurd cc
need_end c (Some e) p h = (e, refl, needs_so (effect_of c e.1) p h)

pub turned_so : (p : Presence) (k : Kind) → k ≡ changes (not (is_there p)) → turns_to (other p) k ≡ true
turned_so Present k e = rw e refl
turned_so Absent k e = rw e refl

other_left : (p : Presence) (b : Bool) → is_there p ≡ b → b ≡ is_there (other p) → ⊥
other_left Present b e f = true≢false (e ∙ f)
other_left Absent b e f = true≢false (sym (e ∙ f))

pub ended_by_then : (since u last : ℕ) (x : CallRecord) (o : Option (ℕ × Reply)) → x.ended ≡ o → until last x ≡ u → has_ended since o ≡ true → u ≤ since
ended_by_then since u last x None e is h = absurd (true≢false (sym h))
ended_by_then since u last x (Some d) e is h =
    let same : until last x ≡ d.0 = rw e refl in let low : d.0 ≤ since = grind (arith, nat_tests) in omega (arith, same, is, low)

pub before_end : (begun : ℕ) (e : ℕ × Reply) (y : CallRecord) → y.ended ≡ Some e → begun < e.0 → is_before begun (Some y) ≡ true
before_end begun e y is l = rw is (below_test begun e.0 l)

-- ---- Lemmas about the acts (effects of calls on the key) in an order of the calls

module _ (threads : ℕ) (calls : List CallRecord) (history : IsHistory threads calls) (last : ℕ) (upto : latest_moment calls ≤ last) (k : ℕ)
    (there : Presence) (left : Option Presence) (finally : Bool) (leaves : IfSome left (λ (l : Presence). finally ≡ is_there l))
    (ys : List Act) (turns : TakeTurns finally (is_there there) ys) (pairs : Pairs Apart ys)
    (acts : AllByRecursion (IsAct (λ m. event_at last k calls m) last) ys)
    (now : ℕ)
    (stand : (n : ℕ) (e : ℕ × Reply) → n < length calls → (get_or calls n no_call).ended ≡ Some e → (key_of (get_or calls n no_call).call).0 ≡ k → e.0 ≤ now
    → In (act (get_or calls n no_call).begun e.0 (kind (get_or calls n no_call))) ys) where
  abbrev act_for : CallRecord → ℕ × Reply → Act
  act_for x e = act x.begun e.0 (kind x)

  is_act : (a : Act) → In a ys → IsAct (λ m. event_at last k calls m) last a
  is_act a i = one_of (IsAct (λ m. event_at last k calls m) last) a ys acts i

  stands_for : (x : CallRecord) (e : ℕ × Reply) → IsOf calls k x → x.ended ≡ Some e → e.0 ≤ now → In (act_for x e) ys
  stands_for x e is ended by =
      let at : get_or calls is.known.0 no_call ≡ x = get_or_default calls is.known.0 no_call x is.known.1 ∙ is.known.2 in
      subst (λ (z : CallRecord). z.ended ≡ Some e → (key_of z.call).0 ≡ k → e.0 ≤ now → In (act z.begun e.0 (kind z)) ys) at
      (stand is.known.0 e is.known.1) ended is.own by

  positive : (a : Act) → In a ys → 0 < a.until
  positive a i = let l = (is_act a i).ends_later in omega (arith, l)

  none : (p : Presence) (since : ℕ) (second : Option CallRecord) → NothingTurns calls k (other p) since second
      → (a : Act) → In a ys → a.does ≡ changes (not (is_there p)) → since < a.until → is_before a.begun second ≡ true → ⊥
  none p since second n a i d s b =
      let t = (is_act a i).told (not (is_there p)) d in
      let g = begins_told threads calls history last upto k (event_at last k calls a.begun) a.begun (not (is_there p)) a.until t (told last k a.begun calls) in
      let x : CallRecord = get_or calls g.0.number no_call in
      let over : has_ended since x.ended ≡ true = n g.0.number no_call g.0.known g.0.own (turned_so p (kind x) g.1)
      (subst (λ q. is_before q second ≡ true) (sym g.0.begun) b) in
      let low = ended_by_then since a.until last x x.ended refl g.2 over in omega (arith, low, s)

  otherwise : (was : Presence) → left ≡ Some (other was) → finally ≡ is_there (other was)
  otherwise was e = subst (λ o. IfSome o (λ (l : Presence). finally ≡ is_there l)) e leaves

  in_turn : (v : Presence) (x y : CallRecord) (d e : ℕ × Reply) → Clashes calls k there left v (Some x) (Some y) → y.ended ≡ Some e
      → Before (act_for x d) (act_for y e) ys → ⊥
  in_turn v x y d e c ended b =
      (need_end y.call y.ended v c.needed.1).2 (after finally (is_there there) (is_there v) (act_for x d) (act_for y e) ys turns pairs b
      (left_end x.call x.ended v c.was_so.1).2
      (λ a i q s t. none v x.begun (Some y) c.nothing a i q s (before_end a.begun e y ended t)))

  abbrev IsBy : Option CallRecord → Type 0
  IsBy o = (x : CallRecord) (e : ℕ × Reply) → IsOf calls k x → o ≡ Some x → x.ended ≡ Some e → e.0 ≤ now

  pub clash : (was : Presence) (first second : Option CallRecord) → IsBy first → IsBy second → IsClash calls k there left was first second → ⊥
  clash was None None by also c = other_left was finally
      (stays_left finally (is_there there) (is_there was) ys (ap is_there c.0.was_so) turns
      (λ a i d. none was 0 None c.0.nothing a i d (positive a i) refl)) (otherwise was c.0.needed)
  clash was None (Some y) by also c =
      let e = need_end y.call y.ended was c.0.needed.1 in
      e.2 (stays finally (is_there there) (is_there was) (act_for y e.0) ys (ap is_there c.0.was_so) turns pairs (stands_for y e.0 c.0.needed.0 e.1 (also y e.0 c.0.needed.0 refl e.1))
      (λ a i d b. none was 0 (Some y) c.0.nothing a i d (positive a i) (before_end a.begun e.0 y e.1 b)))
  clash was (Some x) None by also c =
      let d = left_end x.call x.ended was c.0.was_so.1 in
      other_left was finally
      (after_left finally (is_there there) (is_there was) (act_for x d.0) ys turns pairs (stands_for x d.0 c.0.was_so.0 d.1 (by x d.0 c.0.was_so.0 refl d.1)) d.2
      (λ a i q s. none was x.begun None c.0.nothing a i q s refl)) (otherwise was c.0.needed)
  clash was (Some x) (Some y) by also c =
      let d = left_end x.call x.ended was c.0.was_so.1 in
      let e = need_end y.call y.ended was c.0.needed.1 in
      let i = stands_for x d.0 c.0.was_so.0 d.1 (by x d.0 c.0.was_so.0 refl d.1) in
      let j = stands_for y e.0 c.0.needed.0 e.1 (also y e.0 c.0.needed.0 refl e.1) in
      elim c.1 [
        | inl p ↦ (let first : d.0.0 < y.begun = subst (λ o. IsSomeAnd o (λ (f : ℕ × Reply). f.0 < y.begun)) d.1 p in
            let long = (is_act (act_for x d.0) i).ends_later in
            elim (two (act_for x d.0) (act_for y e.0) ys i j (λ q. let same : x.begun ≡ y.begun = ap (λ (a : Act). a.begun) q in omega (arith, same, first, long))) [
              | inl b ↦ in_turn was x y d.0 e.0 c.0 e.1 b
              | inr b ↦ (let low = early (act_for y e.0) (act_for x d.0) ys pairs b in omega (arith, low, first))
            ])
        | inr q ↦ elim (two (act_for x d.0) (act_for y e.0) ys i j (λ s. q.0 (ap (λ (a : Act). a.begun) s))) [
          | inl b ↦ in_turn was x y d.0 e.0 c.0 e.1 b
          | inr b ↦ in_turn q.1.0 y x e.0 d.0 q.1.1 d.1 b
        ]
      ]

pub clash_refutes : (h : HistoryValue) (keys : List ℕ) (k : ℕ) (there : Presence) (left : Option Presence) (was : Presence) (first second : Option CallRecord)
    → IsHistory h.opening.threads h.calls → has_key k h.opening.keys ≡ is_there there → IfSome left (λ (l : Presence). has_key k keys ≡ is_there l)
    → IsClash h.calls k there left was first second → IsUnexplained h keys
clash_refutes h keys k there left was first second history opens leaves c order ex =
    let last : ℕ = latest_moment h.calls in
    let upto : latest_moment h.calls ≤ last = omega arith in
    let l : has_key k (set_left_by (opening_set h.opening) h.calls order).keys ≡ has_key k keys = ap (has_key k) (sym ex.keys_left) in
    let r = ready h.opening.threads h.calls history last upto k h.opening.quota (opening_set h.opening) order ex.linearizes (has_key k keys) l in
    let acts : List Act = map (λ (p : Placed). act (get_or h.calls p.call no_call).begun (until last (get_or h.calls p.call no_call)) (does k (get_or h.calls p.call no_call).call p.reply)) order in
    clash h.opening.threads h.calls history last upto k there left (has_key k keys) leaves acts
    (subst (λ b. TakeTurns (has_key k keys) b acts) opens r.take_turns) r.pairs r.acts last
    (λ n e low is own by. stands h.opening.threads h.calls history last upto k h.opening.quota (opening_set h.opening) order ex.linearizes n e low is own)
    was first second (by_last first) (by_last second) c
  where
    by_last : (o : Option CallRecord) (x : CallRecord) (e : ℕ × Reply) → IsOf h.calls k x → o ≡ Some x → x.ended ≡ Some e → e.0 ≤ latest_moment h.calls
    by_last o x e is same ended = end_below h.calls is.known.0 x e is.known.1 (ap (λ (z : CallRecord). z.ended) is.known.2 ∙ ended)

-- Lemma: if two calls on a key contradict each other, no order explains the key's calls, with any quota (the number of
-- successful `add`s that one thread can make).
pub clash_has_none : (threads key : ℕ) (there : Presence) (left : Option Presence) (was : Presence) (first second : Option CallRecord) (calls : List CallRecord)
    → IsHistory threads calls → IsClash calls key there left was first second → HaveNone threads key there left calls
clash_has_none threads key there left was first second calls history c quota keys leaves =
    clash_refutes (alone threads quota (is_there there) key calls) keys key there left was first second history (opens_so (is_there there) key)
    (left_as left leaves) c
  where
    left_as : (o : Option Presence) → IfSome o (λ (l : Presence). keys ≡ key_if (is_there l) key) → IfSome o (λ (l : Presence). has_key key keys ≡ is_there l)
    left_as None e = tt
    left_as (Some l) e = ap (has_key key) e ∙ opens_so (is_there l) key

-- ---- Lemmas about the Boolean tests in the Rust code

ends : (a b c : Bool) → a ≡ true → b ≡ true → (not a || (not b || c)) ≡ true → c ≡ true
ends true true c e f h = h
ends true false c e f h = absurd (true≢false (sym f))
ends false b c e f h = absurd (true≢false (sym e))

pub nothing_in : (calls : List StreamCall) (key : ℕ) (there : Presence) (since : ℕ) (second : Option CallRecord)
    → All (λ (x : StreamCall). is_apart there since second (record_of x) ≡ true) calls → NothingTurns (records calls) key there since second
nothing_in calls key there since second a =
    All-map (λ (x : CallRecord). (key_of x.call).0 ≡ key → turns_to there (kind_if x.call x.ended) ≡ true → is_before x.begun second ≡ true
    → has_ended since x.ended ≡ true) record_of calls (λ i d low own turns before.
    let x : CallRecord = record_of (get_or calls i d) in
    ends (turns_to there (kind_if x.call x.ended)) (is_before x.begun second) (has_ended since x.ended) turns before (a i d low))

pub is_known : (calls : List StreamCall) (key : ℕ) (x : StreamCall) → Has calls x → ((key_of x.call).0 == key) ≡ true → IsOf (records calls) key (record_of x)
is_known calls key x has own = record {
  known = (
    has.0,
    (let long = length-map calls record_of in let low = has.1 in omega (arith, long, low)),
    get_or-map record_of calls has.0 x (record_of x) has.1 ∙ ap record_of has.2,
  );
  own = same_number (key_of x.call).0 key own;
}

pub none_if : (calls : List StreamCall) (key : ℕ) (there : Presence) (left : Option Presence) (found : Option Clash)
    → IfSome found (λ (c : Clash). IsClash (records calls) key there left c.was (record_if c.first) (record_if c.second))
    → IfSome found (λ (c : Clash). (threads : ℕ) → IsHistory threads (records calls) → HaveNone threads key there left (records calls))
none_if calls key there left None h = tt
none_if calls key there left (Some c) h = λ threads history. clash_has_none threads key there left c.was (record_if c.first) (record_if c.second) (records calls) history h
