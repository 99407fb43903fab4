-- Proof: the judge converts each completed call to a call that returns true or false. If an order explains the calls,
-- the order also explains the converted calls.
use Rattle.std.proofs.Common.{◌≡◌, ◌≢◌, ℕ, ◌<◌, ◌≤◌, true, List, [], ◌∷◌, ◌++◌, refl, sym, arith, subst, length, get_or, ap, ◌∙◌, map, take, drop}
use Rattle.std.proofs.Common.{◌+◌, inl, inr, ◌⊎◌, Bool, false}
use Rattle.std.specs.Prelude.{Option, Some, None, IfSome, IsSomeAnd, ◌==◌, nat_lt, if◌then◌else◌, All, Contains as Has}
use Rattle.std.specs.List.{AllByRecursion}
use Rattle.std.proofs.lemmas.List.{get_or-map, get_or_default, length-map, map-append, take_more, take-append-drop}
use Rattle.std.proofs.lemmas.List.Elements.{All-map, recursion_from_All}
use Rattle.std.proofs.lemmas.Bool.{cases_Bool, true≢false}
use Rattle.std.proofs.lemmas.Bool.Decides.{nat_tests}
use Rattle.lset_words.specs.declared.Reply.{Reply}
use Rattle.lset_words.specs.declared.history.CallRecord.{CallRecord}
use Rattle.lset_words.specs.History.{IsCall, Follows, IsHistory, call_numbered, no_call, Linearizes, Precedes, answered}
use Rattle.lset_words.specs.declared.Call.{Call}
use Rattle.lset_words.specs.declared.Call.TheVariants.{Add, Remove, Contains, Ceiling}
use Rattle.lset_words.specs.declared.Reply.TheVariants.{Full, True, False, At, Nothing}
use Rattle.lset_words.specs.declared.Key.{Key}
use Rattle.lset_words.specs.SequentialSet.{SetState, has_key, ceiling_in, count_of, reply_to, after_call, opening_set, IsLegal, set_left}
use Rattle.lset_words.proofs.Numbers.{equal_test, same_or_not, below_or_not}
use Rattle.lset_words.specs.declared.history.Placed.{Placed}
use Rattle.lset_words.specs.Words.{Opening}
use Rattle.lset_history.proofs.CallByCall.{may_follow_at, history_front}
use Rattle.lset_history.specs.Faults.{Explains}
use Rattle.lset_judge.specs.declared.stream.Pending.{Pending}
use Rattle.lset_judge.specs.declared.stream.Stream.{Stream}
use Rattle.lset_judge.specs.Events.{until_if}
use Rattle.lset_judge.specs.Stream.{behind_all, ArePending, IsBefore, IsStreamOf, MayCome}
use Rattle.lset_judge.specs.Verdict.{is_plain}
use Rattle.lset_judge.proofs.EventLemmas.{if_some, for_some, none_or_some}
use Rattle.lset_judge.specs.Reading.{call_as, reply_as, call_if, end_as, read_as}

-- ---- The judge accepts the next call of a history

apart_of : (y x : CallRecord) → IsBefore x → IfSome y.ended (λ (d : ℕ × Reply). d.0 ≢ x.begun) → (o : Option (ℕ × Reply)) → y.ended ≡ o
    → (until_if behind_all y.begun o ≢ x.begun)
apart_of y x before alone None is q = let b = before.0 in omega (arith, b, q)
apart_of y x before alone (Some d) is q = if_some (λ (d : ℕ × Reply). d.0 ≢ x.begun) y.ended d is alone q

apart_end : (y x : CallRecord) (e : ℕ × Reply) → e.0 < behind_all → IfSome y.ended (λ (d : ℕ × Reply). e.0 ≢ d.0) → (o : Option (ℕ × Reply)) → y.ended ≡ o
    → (until_if behind_all y.begun o ≢ e.0)
apart_end y x e low alone None is q = omega (arith, low, q)
apart_end y x e low alone (Some d) is q = if_some (λ (d : ℕ × Reply). e.0 ≢ d.0) y.ended d is alone (sym q)

free_of : (y x : CallRecord) → (o : Option (ℕ × Reply)) → y.ended ≡ o → IsSomeAnd y.ended (λ (e : ℕ × Reply). e.0 < x.begun) → until_if behind_all y.begun o ≤ x.begun
free_of y x None is h = absurd (subst (λ o. IsSomeAnd o (λ (e : ℕ × Reply). e.0 < x.begun)) is h)
free_of y x (Some d) is h = let l : d.0 < x.begun = subst (λ o. IsSomeAnd o (λ (e : ℕ × Reply). e.0 < x.begun)) is h in omega (arith, l)

pub comes : (calls : List CallRecord) (moment : ℕ) (pending : List Pending) (x : CallRecord) → ArePending calls moment pending → moment < x.begun
    → IfSome x.ended (λ (e : ℕ × Reply). x.begun < e.0) → IsBefore x → IfSome x.ended (λ (e : ℕ × Reply). is_plain x.call e.1 ≡ true)
    → ((n : ℕ) → n < length calls → Follows (call_numbered calls n) x) → MayCome pending moment x
comes calls moment pending x are begins ends before plain follows = record {
  begins = begins;
  ends = ends;
  before = before;
  plain = plain;
  apart = λ i d low. let k = are.known i d low in let y : CallRecord = call_numbered calls k.0 in let f = follows k.0 k.1 in
      subst (λ (p : Pending). (p.end ≢ x.begun) × IfSome x.ended (λ (e : ℕ × Reply). p.end ≢ e.0)) (sym k.2) (
        apart_of y x before f.begins_alone y.ended refl,
        for_some (λ (e : ℕ × Reply). until_if behind_all y.begun y.ended ≢ e.0) x.ended (λ e at.
            apart_end y x e (if_some (λ (e : ℕ × Reply). e.0 < behind_all) x.ended e at before.1)
            (if_some (λ (e : ℕ × Reply). (e.0 ≢ y.begun) × IfSome y.ended (λ (d : ℕ × Reply). e.0 ≢ d.0)) x.ended e at f.ends_alone).1 y.ended refl),
      );
  free = λ i d low. let k = are.known i d low in let y : CallRecord = call_numbered calls k.0 in let f = follows k.0 k.1 in
      subst (λ (p : Pending). p.call.thread ≡ x.thread → p.end ≤ x.begun) (sym k.2) (λ same. free_of y x y.ended refl (f.none_open same));
}

pub may_come : (threads : ℕ) (opening : List ℕ) (calls : List CallRecord) (s : Stream) (x : CallRecord) → IsStreamOf threads opening calls s
    → IsHistory threads (calls ++ x ∷ []) → s.moment < x.begun → IsBefore x → IfSome x.ended (λ (e : ℕ × Reply). is_plain x.call e.1 ≡ true)
    → MayCome s.pending s.moment x
may_come threads opening calls s x is history begins before plain =
    let may = may_follow_at threads calls [] x history in
    comes calls s.moment s.pending x is.pending begins may.call.ends_later before plain (λ n low. may.follows n no_call low)

-- ---- Lemmas about calls that `read_as` has converted

end_if : (P : ℕ → Type 0) (c : Call) (o : Option (ℕ × Reply)) → IfSome o (λ (e : ℕ × Reply). P e.0) → IfSome (end_as c o) (λ (e : ℕ × Reply). P e.0)
end_if P c None h = tt
end_if P c (Some e) h = h

end_and : (P : ℕ → Type 0) (c : Call) (o : Option (ℕ × Reply)) → IsSomeAnd o (λ (e : ℕ × Reply). P e.0) → IsSomeAnd (end_as c o) (λ (e : ℕ × Reply). P e.0)
end_and P c None h = h
end_and P c (Some e) h = h

both_ends : (c : Call) (o : Option (ℕ × Reply)) (b : ℕ) (d : Call) (q : Option (ℕ × Reply))
    → IfSome o (λ (e : ℕ × Reply). (e.0 ≢ b) × IfSome q (λ (f : ℕ × Reply). e.0 ≢ f.0))
    → IfSome (end_as c o) (λ (e : ℕ × Reply). (e.0 ≢ b) × IfSome (end_as d q) (λ (f : ℕ × Reply). e.0 ≢ f.0))
both_ends c None b d q h = tt
both_ends c (Some e) b d q h = (h.0, end_if (λ n. e.0 ≢ n) d q h.1)

read_call : (threads : ℕ) (x : CallRecord) → IsCall threads x → IsCall threads (read_as x)
read_call threads x c = record {
  of_a_thread = c.of_a_thread;
  counted = c.counted;
  ends_later = end_if (λ n. x.begun < n) x.call x.ended c.ends_later;
}

read_follows : (y x : CallRecord) → Follows y x → Follows (read_as y) (read_as x)
read_follows y x f = record {
  increasing = f.increasing;
  begins_alone = end_if (λ n. n ≢ x.begun) y.call y.ended f.begins_alone;
  ends_alone = both_ends x.call x.ended y.begun y.call y.ended f.ends_alone;
  none_open = λ same. end_and (λ n. n < x.begun) y.call y.ended (f.none_open same);
}

pub read_history : (threads : ℕ) (calls : List CallRecord) → IsHistory threads calls → IsHistory threads (map read_as calls)
read_history threads calls history =
    let long = length-map calls read_as in
    record {
      each = All-map (IsCall threads) read_as calls (λ i d low. read_call threads (get_or calls i d) (history.each i d low));
      pairs = λ i j d low high.
          let under : j < length calls = omega (arith, long, high) in
          subst (λ (y : CallRecord). Follows y (get_or (map read_as calls) j d)) (sym (get_or-map read_as calls i no_call d (omega (arith, long, low, high))))
          (subst (Follows (read_as (get_or calls i no_call))) (sym (get_or-map read_as calls j no_call d under))
          (read_follows (get_or calls i no_call) (get_or calls j no_call) (history.pairs i j no_call low under)));
    }

pub history_upto : (threads n : ℕ) (calls : List CallRecord) → IsHistory threads calls → IsHistory threads (take n calls)
history_upto threads n calls history =
    history_front threads (take n calls) (drop n calls) (subst (IsHistory threads) (sym (take-append-drop n calls)) history)

plain_as : (c : Call) (r : Reply) → is_plain (call_as c r) (reply_as c r) ≡ true
plain_as (Add k) Full = refl
plain_as (Remove k) Full = refl
plain_as (Contains k) Full = refl
plain_as (Ceiling k) Full = refl
plain_as c r = refl

pub read_plain : (x : CallRecord) → IfSome (read_as x).ended (λ (e : ℕ × Reply). is_plain (read_as x).call e.1 ≡ true)
read_plain x = of x.call x.ended
  where
    of : (c : Call) (o : Option (ℕ × Reply)) → IfSome (end_as c o) (λ (e : ℕ × Reply). is_plain (call_if c o) e.1 ≡ true)
    of c None = tt
    of c (Some e) = plain_as c e.1

-- ---- The judge accepts the converted calls of a history in the order of their starts

pub next_may : (threads : ℕ) (opening : List ℕ) (xs : List CallRecord) (i : ℕ) (d : CallRecord) (s : Stream) (x : CallRecord) → IsHistory threads xs
    → i < length xs → x ≡ read_as (get_or xs i d) → IsStreamOf threads opening (map read_as (take i xs)) s
    → s.moment < (get_or xs i no_call).begun → IsBefore x → MayCome s.pending s.moment x
next_may threads opening xs i d s x history low so is early before =
    let more : take (i + 1) xs ≡ take i xs ++ get_or xs i d ∷ [] = take_more xs i d low in
    let one : map read_as (take (i + 1) xs) ≡ map read_as (take i xs) ++ x ∷ [] =
    ap (map read_as) more ∙ map-append read_as (take i xs) (get_or xs i d ∷ []) ∙ ap (λ (y : CallRecord). map read_as (take i xs) ++ y ∷ []) (sym so) in
    let begun : x.begun ≡ (get_or xs i no_call).begun = ap (λ (y : CallRecord). y.begun) so ∙ ap (λ (y : CallRecord). y.begun) (get_or_default xs i d no_call low) in
    may_come threads opening (map read_as (take i xs)) s x is
    (subst (IsHistory threads) one (read_history threads (take (i + 1) xs) (history_upto threads (i + 1) xs history))) (omega (arith, early, begun)) before
    (subst (λ (y : CallRecord). IfSome y.ended (λ (e : ℕ × Reply). is_plain y.call e.1 ≡ true)) (sym so) (read_plain (get_or xs i d)))

pub first_early : (threads m n : ℕ) (xs : List CallRecord) → IsHistory threads xs → m ≡ 0 → n < length xs → m < (get_or xs n no_call).begun
first_early threads m n xs history zero inside = let b = (history.each n no_call inside).counted in omega (arith, b, zero)

pub next_early : (threads m i n : ℕ) (d x : CallRecord) (xs : List CallRecord) → IsHistory threads xs → m ≡ x.begun → x ≡ read_as (get_or xs i d)
    → i < n → n < length xs → m < (get_or xs n no_call).begun
next_early threads m i n d x xs history at so low inside =
    let up = (history.pairs i n no_call low inside).increasing in
    let begun : x.begun ≡ (get_or xs i no_call).begun = ap (λ (y : CallRecord). y.begun) so
    ∙ ap (λ (y : CallRecord). y.begun) (get_or_default xs i d no_call (omega (arith, low, inside))) in omega (arith, at, begun, up)

pub next_thread : (threads i : ℕ) (d x : CallRecord) (xs : List CallRecord) → IsHistory threads xs → i < length xs → x ≡ read_as (get_or xs i d) → x.thread < threads
next_thread threads i d x xs history low so =
    let a = (history.each i d low).of_a_thread in let e = ap (λ (y : CallRecord). y.thread) so in omega (arith, a, e)

-- ---- If no order explains the converted calls, no order explains the calls

ceiling_found : (k : ℕ) (x : Key) (keys : List ℕ) → ceiling_in k keys ≡ At x → has_key x.0 keys ≡ true
ceiling_found k x [] e = absurd (let f : Nothing ≡ At x = e in cc)
ceiling_found k x (y ∷ ys) e = elim (cases_Bool (nat_lt y k)) [
  | inl t ↦ (let rest = ceiling_found k x ys (rw t at e) in elim (cases_Bool (y == x.0)) [ inl u ↦ rw u refl | inr u ↦ rw u rest ])
  | inr t ↦ (let f : At (record { 0 = y }) ≡ At x = rw t at e in
      let is : record { 0 = y } ≡ x = cc in rw (equal_test y x.0 (ap (λ (q : Key). q.0) is)) refl)
]

ceiling_none : (k : ℕ) (keys : List ℕ) → ceiling_in k keys ≡ Nothing → has_key k keys ≡ false
ceiling_none k [] e = refl
ceiling_none k (y ∷ ys) e = elim (cases_Bool (nat_lt y k)) [
  | inl t ↦ (let u : (y == k) ≡ false = grind (arith, nat_tests) in rw u (ceiling_none k ys (rw t at e)))
  | inr t ↦ absurd (let f : At (record { 0 = y }) ≡ Nothing = rw t at e in cc)
]

ceiling_other : (k : ℕ) (keys : List ℕ) → (ceiling_in k keys ≡ True) ⊎ (ceiling_in k keys ≡ False) ⊎ (ceiling_in k keys ≡ Full) → ⊥
ceiling_other k [] (inl e) = let f : Nothing ≡ True = e in cc
ceiling_other k [] (inr (inl e)) = let f : Nothing ≡ False = e in cc
ceiling_other k [] (inr (inr e)) = let f : Nothing ≡ Full = e in cc
ceiling_other k (y ∷ ys) e = elim (cases_Bool (nat_lt y k)) [
  | inl t ↦ ceiling_other k ys (rw t at e)
  | inr t ↦ none (rw t at e)
]
  where
    none : (At (record { 0 = y }) ≡ True) ⊎ (At (record { 0 = y }) ≡ False) ⊎ (At (record { 0 = y }) ≡ Full) → ⊥
    none (inl e) = cc
    none (inr (inl e)) = cc
    none (inr (inr e)) = cc

abbrev Fits : ℕ → SetState → ℕ → Call → Reply → Type 0
Fits quota s t c r = (reply_to quota s t (call_as c r) ≡ reply_as c r) × (after_call s t (call_as c r) (reply_as c r) ≡ after_call s t c r)

add_fits : (quota : ℕ) (s : SetState) (t : ℕ) (k : Key) (b c : Bool) → has_key k.0 s.keys ≡ b → (count_of s t == quota) ≡ c
    → Fits quota s t (Add k) (reply_to quota s t (Add k))
add_fits quota s t k true c h f = rw h (rw h refl, refl)
add_fits quota s t k false true h f = rw (h, f) (rw h refl, refl)
add_fits quota s t k false false h f = rw (h, f) (rw (h, f) refl, refl)

remove_fits : (quota : ℕ) (s : SetState) (t : ℕ) (k : Key) (b : Bool) → has_key k.0 s.keys ≡ b → Fits quota s t (Remove k) (reply_to quota s t (Remove k))
remove_fits quota s t k true h = rw h (refl, refl)
remove_fits quota s t k false h = rw h (refl, refl)

look_fits : (quota : ℕ) (s : SetState) (t : ℕ) (k : Key) (b : Bool) → has_key k.0 s.keys ≡ b → Fits quota s t (Contains k) (reply_to quota s t (Contains k))
look_fits quota s t k true h = rw h (refl, refl)
look_fits quota s t k false h = rw h (refl, refl)

pub fits : (quota : ℕ) (s : SetState) (t : ℕ) (c : Call) (r : Reply) → reply_to quota s t c ≡ r → Fits quota s t c r
fits quota s t (Add k) r e = subst (Fits quota s t (Add k)) e (add_fits quota s t k (has_key k.0 s.keys) (count_of s t == quota) refl refl)
fits quota s t (Remove k) r e = subst (Fits quota s t (Remove k)) e (remove_fits quota s t k (has_key k.0 s.keys) refl)
fits quota s t (Contains k) r e = subst (Fits quota s t (Contains k)) e (look_fits quota s t k (has_key k.0 s.keys) refl)
fits quota s t (Ceiling k) (At x) e = (ap (λ (b : Bool). if b then True else False) (ceiling_found k.0 x s.keys e), refl)
fits quota s t (Ceiling k) Nothing e = (ap (λ (b : Bool). if b then True else False) (ceiling_none k.0 s.keys e), refl)
fits quota s t (Ceiling k) True e = absurd (ceiling_other k.0 s.keys (inl e))
fits quota s t (Ceiling k) False e = absurd (ceiling_other k.0 s.keys (inr (inl e)))
fits quota s t (Ceiling k) Full e = absurd (ceiling_other k.0 s.keys (inr (inr e)))

placed_as : Call → Option (ℕ × Reply) → Reply → Reply
placed_as c None r = r
placed_as c (Some e) r = reply_as c r

step : (quota : ℕ) (s : SetState) (t : ℕ) (c : Call) (o : Option (ℕ × Reply)) (r : Reply) → ((e : ℕ × Reply) → o ≡ Some e → e.1 ≡ r)
    → reply_to quota s t c ≡ r
    → (reply_to quota s t (call_if c o) ≡ placed_as c o r) × (after_call s t (call_if c o) (placed_as c o r) ≡ after_call s t c r)
unfolding placed_as
step quota s t c None r same e = (e, refl)
step quota s t c (Some d) r same e =
    subst (λ (z : Reply). (reply_to quota s t (call_as c z) ≡ reply_as c r) × (after_call s t (call_as c z) (reply_as c r) ≡ after_call s t c r))
    (sym (same d refl)) (fits quota s t c r e)

no_end : (c : Call) (o : Option (ℕ × Reply)) (q : ℕ × Reply) → o ≡ None → end_as c o ≡ Some q → ⊥
no_end c None q e f = cc
no_end c (Some d) q e f = cc

still_precedes : (c : Call) (o : Option (ℕ × Reply)) (b : ℕ) → IsSomeAnd (end_as c o) (λ (e : ℕ × Reply). e.0 < b) → IsSomeAnd o (λ (e : ℕ × Reply). e.0 < b)
still_precedes c None b h = h
still_precedes c (Some e) b h = h

module _ (cs : List CallRecord) where
  pub reread : Placed → Placed
  reread p = record { call = p.call; reply = placed_as (call_numbered cs p.call).call (call_numbered cs p.call).ended p.reply }

  abbrev read : List CallRecord
  read = map read_as cs

  numbered : (n : ℕ) → n < length cs → call_numbered read n ≡ read_as (call_numbered cs n)
  numbered n low = get_or-map read_as cs n no_call no_call low

  abbrev Good : Placed → Type 0
  Good p = (p.call < length cs) × ((e : ℕ × Reply) → (call_numbered cs p.call).ended ≡ Some e → e.1 ≡ p.reply)

  legal : (quota : ℕ) (s : SetState) (ps : List Placed) → AllByRecursion Good ps → IsLegal quota s (map (answered cs) ps)
      → IsLegal quota s (map (answered read) (map reread ps)) × (set_left s (map (answered read) (map reread ps)) ≡ set_left s (map (answered cs) ps))
  unfolding reread
  legal quota s [] good l = (tt, refl)
  legal quota s (p ∷ ps) good l =
      let x : CallRecord = call_numbered cs p.call in
      let r : Reply = placed_as x.call x.ended p.reply in
      let st = step quota s x.thread x.call x.ended p.reply good.0.1 l.0 in
      let rest = legal quota (after_call s x.thread x.call p.reply) ps good.1 l.1 in
      let Goes : CallRecord → Type 0 = λ y. (reply_to quota s y.thread y.call ≡ r)
      × IsLegal quota (after_call s y.thread y.call r) (map (answered read) (map reread ps))
      × (set_left (after_call s y.thread y.call r) (map (answered read) (map reread ps)) ≡ set_left (after_call s x.thread x.call p.reply) (map (answered cs) ps)) in
      let goes : Goes (call_numbered read p.call) = subst Goes (sym (numbered p.call good.0.0)) (
        st.0,
        subst (λ (z : SetState). IsLegal quota z (map (answered read) (map reread ps))) (sym st.1) rest.0,
        subst (λ (z : SetState). set_left z (map (answered read) (map reread ps)) ≡ set_left (after_call s x.thread x.call p.reply) (map (answered cs) ps)) (sym st.1) rest.1,
      ) in ((goes.0, goes.1), goes.2)

  read_of : (n : ℕ) (e : ℕ × Reply) (reply : Reply) → (call_numbered cs n).ended ≡ Some e → reply_as (call_numbered cs n).call e.1 ≡ reply
      → reread (record { call = n; reply = e.1 }) ≡ record { call = n; reply = reply }
  unfolding reread placed_as
  read_of n e reply is so = ap (λ (r : Reply). record { call = n; reply = r })
      (ap (λ (o : Option (ℕ × Reply)). placed_as (call_numbered cs n).call o e.1) is ∙ so)

  module _ (quota : ℕ) (s : SetState) (order : List Placed) (l : Linearizes quota s cs order) where
    good : All Good order
    good i d low = (
      l.known i d low,
      λ e is. same e (l.ended (get_or order i d).call e.0 e.1 (l.known i d low) is),
    )
      where
        same : (e : ℕ × Reply) → Has order (record { call = (get_or order i d).call; reply = e.1 }) → e.1 ≡ (get_or order i d).reply
        same e has =
            let q : Placed = record { call = (get_or order i d).call; reply = e.1 } in
            let at : get_or order has.0 d ≡ q = get_or_default order has.0 d q has.1 ∙ has.2 in
            let call : (get_or order has.0 d).call ≡ (get_or order i d).call = ap (λ (p : Placed). p.call) at in
            elim (below_or_not has.0 i) [
              | inl b ↦ absurd (l.once has.0 i d b low call)
              | inr f ↦ elim (same_or_not has.0 i) [
                | inl e' ↦ sym (ap (λ (p : Placed). p.reply) (ap (λ n. get_or order n d) (sym e') ∙ at))
                | inr n ↦ absurd (l.once i has.0 d (omega (arith, f, n)) has.1 (sym call))
              ]
            ]

    at_place : (i : ℕ) (d : Placed) → i < length (map reread order) → get_or (map reread order) i d ≡ reread (get_or order i d)
    at_place i d low = let long = length-map order reread in get_or-map reread order i d d (omega (arith, low, long))

    lower : (i : ℕ) → i < length (map reread order) → i < length order
    lower i low = let long = length-map order reread in omega (arith, low, long)

    same_call : (p : Placed) → (reread p).call ≡ p.call
    unfolding reread
    same_call p = refl

    call_at : (i : ℕ) (d : Placed) → i < length (map reread order) → (get_or (map reread order) i d).call ≡ (get_or order i d).call
    call_at i d low = ap (λ (p : Placed). p.call) (at_place i d low) ∙ same_call (get_or order i d)

    ended_so : (n end : ℕ) (reply : Reply) → n < length cs → end_as (call_numbered cs n).call (call_numbered cs n).ended ≡ Some (end, reply)
        → Has (map reread order) (record { call = n; reply = reply })
    ended_so n end reply low is = elim (none_or_some (call_numbered cs n).ended) [
      | inl none ↦ absurd (let b : ℕ × Reply = (end, reply) in no_end (call_numbered cs n).call (call_numbered cs n).ended b none is)
      | inr e ↦ (let has = l.ended n e.0.0 e.0.1 low e.1 in
          let q : Placed = record { call = n; reply = e.0.1 } in
          let reply_is : reply_as (call_numbered cs n).call e.0.1 ≡ reply =
          (let a : ℕ × Reply = (e.0.0, reply_as (call_numbered cs n).call e.0.1) in let b : ℕ × Reply = (end, reply) in
          second a b (subst (λ o. end_as (call_numbered cs n).call o ≡ Some b) e.1 is)) in
          let r : Placed = record { call = n; reply = reply } in
          let inside : has.0 < length (map reread order) = (let long = length-map order reread in let h = has.1 in omega (arith, long, h)) in
          let here : get_or (map reread order) has.0 r ≡ r =
          at_place has.0 r inside ∙ ap reread (get_or_default order has.0 r q has.1 ∙ has.2) ∙ read_of n e.0 reply e.1 reply_is in
          let found : Has (map reread order) r = (has.0, inside, here) in found)
    ]
      where
        second : (p q : ℕ × Reply) → Some p ≡ Some q → p.1 ≡ q.1
        second p q e = (let f : p ≡ q = cc in ap (λ (z : ℕ × Reply). z.1) f)

    pub linearizes : Linearizes quota s read (map reread order)
    linearizes = record {
      known = λ i d low. subst (λ n. n < length read) (sym (call_at i d low))
          (let long = length-map cs read_as in let k = l.known i d (lower i low) in omega (arith, long, k));
      once = λ i j d low high e. l.once i j d low (lower j high) (sym (call_at i d (omega (arith, low, high))) ∙ e ∙ call_at j d high);
      ended = λ n end reply low is.
          let under : n < length cs = (let long = length-map cs read_as in omega (arith, low, long)) in
          ended_so n end reply under (subst (λ (x : CallRecord). x.ended ≡ Some (end, reply)) (numbered n under) is);
      legal = (legal quota s order (recursion_from_All Good order good) l.legal).0;
      in_time = λ i j d low high h.
          let a = call_at i d (omega (arith, low, high)) in let b = call_at j d high in
          let p : Placed = get_or order i d in let r : Placed = get_or order j d in
          let now : Precedes (read_as (call_numbered cs r.call)) (read_as (call_numbered cs p.call)) =
          subst (λ (y : CallRecord). Precedes y (read_as (call_numbered cs p.call))) (ap (call_numbered read) b ∙ numbered r.call (l.known j d (lower j high)))
          (subst (λ (y : CallRecord). Precedes (call_numbered read (get_or (map reread order) j d).call) y)
          (ap (call_numbered read) a ∙ numbered p.call (l.known i d (lower i (omega (arith, low, high))))) h) in
          l.in_time i j d low (lower j high) (still_precedes (call_numbered cs r.call).call (call_numbered cs r.call).ended (call_numbered cs p.call).begun now);
    }

    pub leaves : set_left s (map (answered read) (map reread order)) ≡ set_left s (map (answered cs) order)
    leaves = (legal quota s order (recursion_from_All Good order good) l.legal).1

pub read_explains : (o : Opening) (cs : List CallRecord) (order : List Placed) (keys : List ℕ) → Explains (record { opening = o; calls = cs }) order keys
    → Explains (record { opening = o; calls = map read_as cs }) (map (reread cs) order) keys
read_explains o cs order keys e = record {
  linearizes = linearizes cs o.quota (opening_set o) order e.linearizes;
  keys_left = e.keys_left ∙ sym (ap (λ (z : SetState). z.keys) (leaves cs o.quota (opening_set o) order e.linearizes));
  increasing = e.increasing;
}

-- ---- The conversion does not change a call that the judge can decide

plain_call : (c : Call) (r : Reply) → is_plain c r ≡ true → (call_as c r ≡ c) × (reply_as c r ≡ r)
plain_call (Add k) True e = (refl, refl)
plain_call (Add k) False e = (refl, refl)
plain_call (Remove k) True e = (refl, refl)
plain_call (Remove k) False e = (refl, refl)
plain_call (Contains k) True e = (refl, refl)
plain_call (Contains k) False e = (refl, refl)
plain_call c r e = absurd (true≢false (sym e))

plain_if : (c : Call) (o : Option (ℕ × Reply)) → IfSome o (λ (e : ℕ × Reply). is_plain c e.1 ≡ true) → (call_if c o ≡ c) × (end_as c o ≡ o)
plain_if c None h = (refl, refl)
plain_if c (Some e) h = let p = plain_call c e.1 h in (p.0, ap (λ (r : Reply). Some (e.0, r)) p.1)

pub plain_read : (xs : List CallRecord) → AllByRecursion (λ (x : CallRecord). IfSome x.ended (λ (e : ℕ × Reply). is_plain x.call e.1 ≡ true)) xs → map read_as xs ≡ xs
plain_read [] a = refl
plain_read (x ∷ xs) a =
    let p = plain_if x.call x.ended a.0 in
    let same : read_as x ≡ x = ap (λ (c : Call). record { thread = x.thread; call = c; begun = x.begun; ended = end_as x.call x.ended }) p.0
    ∙ ap (λ (o : Option (ℕ × Reply)). record { thread = x.thread; call = x.call; begun = x.begun; ended = o }) p.1 in
    ap (λ (y : CallRecord). y ∷ map read_as xs) same ∙ ap (λ ys. x ∷ ys) (plain_read xs a.1)
