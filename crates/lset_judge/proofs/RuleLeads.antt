-- Proof: the judge's test is at least as good as any correct timeline of the key (a choice of when each change takes
-- effect). At each moment, at least as many changes have not taken effect in the test as in the timeline, and they end
-- at least as late.
use Rattle.std.proofs.Common.{◌≡◌, ℕ, suc, ◌+◌, ◌<◌, ◌≤◌, List, [], ◌∷◌, true, inl, inr, refl, arith, length, zero, sym, ap, ◌⊎◌, Bool, false, ◌∙◌, subst}
use Rattle.std.specs.Prelude.{◌==◌, nat_lt, if◌then◌else◌, Option, Some, None, is_some, not}
use Rattle.std.proofs.lemmas.Bool.{cases_Bool, true≢false, not-true, not-false, or_cases, or_parts}
use Rattle.std.proofs.lemmas.Bool.Decides.{nat_tests}
use Rattle.lset_words.specs.SequentialSet.{has_key}
use Rattle.lset_words.proofs.Numbers.{same_number, below_or_not, if_below, if_not_below, other_number, lower_number, not_lower_number}
use Rattle.lset_judge.specs.Rule.{not_before, put_in, take_out, nearest, Event, State, settled, begins, ends, looks, leaves, same, changes_to, options, fits}
use Rattle.lset_judge.specs.Rule.{entering, enters, turned_by, turned_if, open_changes, opened}

-- ---- Lemmas about counting the moments of a list that are d or later

abbrev pub counts : ℕ → ℕ → ℕ
counts d x = if nat_lt x d then 0 else 1

pub counts_not : (d x : ℕ) → x < d → counts d x ≡ 0
counts_not d x l = if_below x d l 0 1

pub counts_one : (d x : ℕ) → d ≤ x → counts d x ≡ 1
counts_one d x l = if_not_below x d l 0 1

pub counts_most : (d x : ℕ) → counts d x ≤ 1
counts_most d x = elim (below_or_not x d) [
  | inl l ↦ (let e = counts_not d x l in omega (arith, e))
  | inr l ↦ (let e = counts_one d x l in omega (arith, e))
]

pub all_from_zero : (xs : List ℕ) → not_before 0 xs ≡ length xs
all_from_zero [] = refl
all_from_zero (x ∷ xs) = let e = counts_one 0 x (omega arith) in let rest = all_from_zero xs in omega (arith, e, rest)

pub at_most_all : (d : ℕ) (xs : List ℕ) → not_before d xs ≤ length xs
at_most_all d [] = omega arith
at_most_all d (x ∷ xs) = let e = counts_most d x in let rest = at_most_all d xs in omega (arith, e, rest)

pub counted_in : (d e : ℕ) (xs : List ℕ) → not_before d (put_in e xs) ≡ counts d e + not_before d xs
counted_in d e [] = refl
counted_in d e (x ∷ xs) = elim (cases_Bool (nat_lt e x)) [
  | inl t ↦ rw t refl
  | inr f ↦ (let rest = counted_in d e xs in rw f (omega (arith, rest)))
]

pub length_in : (e : ℕ) (xs : List ℕ) → length (put_in e xs) ≡ suc (length xs)
length_in e xs =
    let a = counted_in 0 e xs in let b = all_from_zero (put_in e xs) in let c = all_from_zero xs in let o = counts_one 0 e (omega arith) in
    omega (arith, a, b, c, o)

pub taken : (d e : ℕ) (xs : List ℕ) → has_key e xs ≡ true → not_before d xs ≡ not_before d (take_out e xs) + counts d e
taken d e [] h = grind arith
taken d e (x ∷ xs) h = elim (cases_Bool (x == e)) [
  | inl t ↦ (let s : x ≡ e = same_number x e t in rw (t, s) (omega arith))
  | inr f ↦ (let h' : has_key e xs ≡ true = rw f at h in let rest = taken d e xs h' in rw f (omega (arith, rest)))
]

pub taken_length : (e : ℕ) (xs : List ℕ) → has_key e xs ≡ true → length xs ≡ length (take_out e xs) + 1
taken_length e xs h =
    let a = taken 0 e xs h in let b = all_from_zero xs in let c = all_from_zero (take_out e xs) in
    let o = counts_one 0 e (omega arith) in omega (arith, a, b, c, o)

pub nearest_stands : (x : ℕ) (xs : List ℕ) → has_key (nearest x xs) (x ∷ xs) ≡ true
nearest_stands x [] = grind (arith, nat_tests)
nearest_stands x (y ∷ ys) = let rest = nearest_stands y ys in grind (arith, nat_tests)

pub none_nearer : (d x : ℕ) (xs : List ℕ) → d ≤ nearest x xs → not_before d (x ∷ xs) ≡ length (x ∷ xs)
none_nearer d x [] l = let o = counts_one d x l in omega (arith, o)
none_nearer d x (y ∷ ys) l =
    let o = counts_one d x (omega (arith, l)) in
    let rest = none_nearer d y ys (omega (arith, l)) in omega (arith, o, rest)

pub still_no_fewer : (ss : List ℕ) (x : ℕ) (xs : List ℕ) → ((d : ℕ) → not_before d ss ≤ not_before d (x ∷ xs))
    → length ss < length (x ∷ xs) → (d : ℕ) → not_before d ss ≤ not_before d (take_out (nearest x xs) (x ∷ xs))
still_no_fewer ss x xs less longer d =
    let e : ℕ = nearest x xs in
    let t = taken d e (x ∷ xs) (nearest_stands x xs) in
    elim (below_or_not e d) [
      | inl l ↦ (let o = counts_not d e l in let h = less d in omega (arith, t, o, h))
      | inr l ↦ (let o = counts_one d e l in let all = none_nearer d x xs l in let most = at_most_all d ss in
          omega (arith, t, o, all, most, longer))
    ]

-- ---- Lemmas about a key that has failed the judge's test

pub settled_none : (n m : ℕ) (v : Event) → settled n m v None ≡ None
settled_none zero m v = refl
settled_none (suc n) m v = refl

pub no_state : (s : State) → None ≡ Some s → (A : Type 0) → A
no_state s e A = absurd (true≢false (sym (ap is_some e)))

pub some_or_none : (o : Option State) → (o ≡ None) ⊎ ((s : State) × (o ≡ Some s))
some_or_none None = inl refl
some_or_none (Some s) = inr (s, refl)

abbrev pub once : Bool → ℕ
once b = if b then 1 else 0

abbrev pub at : Bool → ℕ → List ℕ → List ℕ → State
at b t ps ks = record { there = b; turned = t; puts = ps; takes = ks }

-- Holds if the timeline (state s) has fewer changes that have not taken effect than the judge's test (state g). Only
-- changes to the opposite of the key's state in g count.
abbrev pub IsFurther : State → State → Type 0
IsFurther g s = length (changes_to (not g.there) s) < length (options g)

abbrev NoFewer : List ℕ → List ℕ → Type 0
NoFewer ss gs = (d : ℕ) → not_before d ss ≤ not_before d gs

-- Holds if state g has at least as many changes that have not taken effect as state s, and they end at least as late.
-- After the event at moment m, g is the key's state in the judge's test, and s is the key's state in a correct timeline
-- (a choice of when each change takes effect).
pub record Leads (m : ℕ) (g s : State) : Type 0 where
  pub lists : (w : Bool) → NoFewer (changes_to w s) (changes_to w g)
  pub balance : length g.puts + once g.there + length s.takes ≡ length s.puts + once s.there + length g.takes
  pub further : g.turned < s.turned → IsFurther g s
  pub now : s.turned ≤ m

fewer : (ss gs : List ℕ) → NoFewer ss gs → length ss ≤ length gs
fewer ss gs h = let a = h 0 in let b = all_from_zero ss in let c = all_from_zero gs in omega (arith, a, b, c)

less_taken : (e : ℕ) (ss gs : List ℕ) → has_key e ss ≡ true → NoFewer ss gs → NoFewer (take_out e ss) gs
less_taken e ss gs h f d = let t = taken d e ss h in let a = f d in omega (arith, t, a)

-- ---- Lemmas about a change that takes effect in a timeline
pub timeline_turns : (b c : Bool) (m gt st e : ℕ) (gp gk sp sk : List ℕ) → Leads m (at b gt gp gk) (at c st sp sk)
    → has_key e (options (at c st sp sk)) ≡ true → Leads m (at b gt gp gk) (turned_by m e (at c st sp sk))
timeline_turns b true m gt st e gp gk sp sk l h =
    let t = taken_length e sk h in let y = l.balance in let f = fewer sk gk (l.lists false) in record {
      lists = λ w. lists w;
      balance = omega (arith, t, y);
      further = λ _. further b y;
      now = omega arith;
    }
  where
    lists : (w : Bool) → NoFewer (changes_to w (turned_by m e (at true st sp sk))) (changes_to w (at b gt gp gk))
    lists true = l.lists true
    lists false = less_taken e sk gk h (l.lists false)

    further : (b : Bool) → length gp + once b + length sk ≡ length sp + 1 + length gk → IsFurther (at b gt gp gk) (turned_by m e (at true st sp sk))
    further true y = let t = taken_length e sk h in let f = fewer sk gk (l.lists false) in omega (arith, t, f)
    further false y = let f = fewer sk gk (l.lists false) in omega (arith, y, f)
timeline_turns b false m gt st e gp gk sp sk l h =
    let t = taken_length e sp h in let y = l.balance in let f = fewer sp gp (l.lists true) in record {
      lists = λ w. lists w;
      balance = omega (arith, t, y);
      further = λ _. further b y;
      now = omega arith;
    }
  where
    lists : (w : Bool) → NoFewer (changes_to w (turned_by m e (at false st sp sk))) (changes_to w (at b gt gp gk))
    lists true = less_taken e sp gp h (l.lists true)
    lists false = l.lists false

    further : (b : Bool) → length gp + once b + length sk ≡ length sp + 0 + length gk → IsFurther (at b gt gp gk) (turned_by m e (at false st sp sk))
    further true y = let f = fewer sp gp (l.lists true) in omega (arith, y, f)
    further false y = let t = taken_length e sp h in let f = fewer sp gp (l.lists true) in omega (arith, t, f)

pub record Turns (m : ℕ) (g s : State) : Type 0 where
  pub state : State
  pub is : turned_if m g (options g) ≡ Some state
  pub leads : Leads m state s
  pub fewer : open_changes g ≡ suc (open_changes state)

rule_turns : (b : Bool) (m t : ℕ) (gp gk : List ℕ) (s : State) → Leads m (at b t gp gk) s → IsFurther (at b t gp gk) s → Turns m (at b t gp gk) s
rule_turns true m t gp (x ∷ xs) s l f =
    let less = taken_length (nearest x xs) (x ∷ xs) (nearest_stands x xs) in let y = l.balance in let n = l.now in record {
      state = turned_by m (nearest x xs) (at true t gp (x ∷ xs));
      is = refl;
      leads = record { lists = λ w. lists w; balance = omega (arith, less, y); further = λ q. absurd (omega (arith, q, n)); now = n };
      fewer = omega (arith, less);
    }
  where
    lists : (w : Bool) → NoFewer (changes_to w s) (changes_to w (turned_by m (nearest x xs) (at true t gp (x ∷ xs))))
    lists true = l.lists true
    lists false = still_no_fewer s.takes x xs (l.lists false) f
rule_turns false m t (x ∷ xs) gk s l f =
    let less = taken_length (nearest x xs) (x ∷ xs) (nearest_stands x xs) in let y = l.balance in let n = l.now in record {
      state = turned_by m (nearest x xs) (at false t (x ∷ xs) gk);
      is = refl;
      leads = record { lists = λ w. lists w; balance = omega (arith, less, y); further = λ q. absurd (omega (arith, q, n)); now = n };
      fewer = omega (arith, less);
    }
  where
    lists : (w : Bool) → NoFewer (changes_to w s) (changes_to w (turned_by m (nearest x xs) (at false t (x ∷ xs) gk)))
    lists true = still_no_fewer s.puts x xs (l.lists true) f
    lists false = l.lists false
rule_turns b m t gp gk s l f = absurd (omega (arith, f))

apart : (b c : Bool) (m gt st : ℕ) (gp gk sp sk : List ℕ) → Leads m (at b gt gp gk) (at c st sp sk) → (b ≡ c → ⊥)
    → IsFurther (at b gt gp gk) (at c st sp sk)
apart true false m gt st gp gk sp sk l n = let y = l.balance in let f = fewer sp gp (l.lists true) in omega (arith, y, f)
apart false true m gt st gp gk sp sk l n = let y = l.balance in let f = fewer sk gk (l.lists false) in omega (arith, y, f)
apart b c m gt st gp gk sp sk l n = absurd (n refl)

due : (w b c : Bool) (m gt st : ℕ) (gp gk sp sk : List ℕ) → Leads m (at b gt gp gk) (at c st sp sk)
    → length (changes_to w (at c st sp sk)) < length (changes_to w (at b gt gp gk)) → IsFurther (at b gt gp gk) (at c st sp sk)
due true true true m gt st gp gk sp sk l f = let y = l.balance in omega (arith, y, f)
due true true false m gt st gp gk sp sk l f = let y = l.balance in omega (arith, y, f)
due false false true m gt st gp gk sp sk l f = let y = l.balance in omega (arith, y, f)
due false false false m gt st gp gk sp sk l f = let y = l.balance in omega (arith, y, f)
due w b c m gt st gp gk sp sk l f = f

same_not : (w b c : Bool) → same w c ≡ true → same w b ≡ false → b ≡ c → ⊥
same_not w b c t f e = true≢false (sym t ∙ sym (subst (λ x. same w b ≡ same w x) e refl) ∙ f)

asked : (m : ℕ) (v : Event) (g s : State) → Leads m g s → fits (suc m) v s ≡ true → fits (suc m) v g ≡ false → IsFurther g s
asked m (leaves w) g s l t f =
    apart g.there s.there m g.turned s.turned g.puts g.takes s.puts s.takes l (same_not w g.there s.there t f)
asked m (ends w) g s l t f =
    let d : ℕ = suc (suc m) in
    let a : not_before d (changes_to w s) ≡ length (changes_to w s) = same_number _ _ t in
    let b : not_before d (changes_to w g) ≡ length (changes_to w g) → ⊥ = other_number _ _ f in
    let c = at_most_all d (changes_to w g) in
    let h = l.lists w d in
    due w g.there s.there m g.turned s.turned g.puts g.takes s.puts s.takes l (omega (arith, a, b, c, h))
asked m (looks w since) g s l t f =
    let no = or_parts (same w g.there) (not (nat_lt g.turned since)) f in
    elim (or_cases (same w s.there) (not (nat_lt s.turned since)) t) [
      | inl e ↦ apart g.there s.there m g.turned s.turned g.puts g.takes s.puts s.takes l (same_not w g.there s.there e no.0)
      | inr e ↦ (let low : g.turned < since = lower_number g.turned since (not-false _ no.1) in
          let high : since ≤ s.turned = not_lower_number s.turned since (not-true _ e) in
          l.further (omega (arith, low, high)))
    ]
asked m v g s l t f = absurd (true≢false f)

pub record Settles (n m : ℕ) (v : Event) (g s : State) : Type 0 where
  pub state : State
  pub is : settled n m v (Some g) ≡ Some state
  pub leads : Leads m state s

pub at_once : (n m : ℕ) (v : Event) (g : State) → fits (suc m) v g ≡ true → settled n m v (Some g) ≡ Some g
at_once zero m v g e = rw e refl
at_once (suc n) m v g e = rw e refl

pub later : (n m : ℕ) (v : Event) (g : State) → fits (suc m) v g ≡ false
    → settled (suc n) m v (Some g) ≡ settled n m v (turned_if m g (options g))
later n m v g e = rw e refl

pub settles : (n m : ℕ) (v : Event) (g s : State) → Leads m g s → fits (suc m) v s ≡ true → open_changes g ≤ n → Settles n m v g s
settles zero m v g s l h low = elim (cases_Bool (fits (suc m) v g)) [
  | inl e ↦ record { state = g; is = at_once zero m v g e; leads = l }
  | inr e ↦ absurd (let t = rule_turns g.there m g.turned g.puts g.takes s l (asked m v g s l h e) in let f = t.fewer in omega (arith, f, low))
]
settles (suc n) m v g s l h low = elim (cases_Bool (fits (suc m) v g)) [
  | inl e ↦ record { state = g; is = at_once (suc n) m v g e; leads = l }
  | inr e ↦ (let t = rule_turns g.there m g.turned g.puts g.takes s l (asked m v g s l h e) in let f = t.fewer in
      let rest = settles n m v t.state s t.leads h (omega (arith, f, low)) in
      record { state = rest.state; is = later n m v g e ∙ ap (settled n m v) t.is ∙ rest.is; leads = rest.leads })
]

-- ---- Lemmas about a single event
more : (w : Bool) (v : Event) (ss gs : List ℕ) → NoFewer ss gs → NoFewer (entering w v ss) (entering w v gs)
more w (begins u end) ss gs h = elim (cases_Bool (same w u)) [
  | inl t ↦ rw t (λ d. let a = h d in let b = counted_in d end ss in let c = counted_in d end gs in omega (arith, a, b, c))
  | inr f ↦ rw f h
]
more w v ss gs h = h

alike : (w : Bool) (v : Event) (ss gs : List ℕ) → length (entering w v gs) + length ss ≡ length (entering w v ss) + length gs
alike w (begins u end) ss gs = elim (cases_Bool (same w u)) [
  | inl t ↦ rw t (let a = length_in end ss in let b = length_in end gs in omega (arith, a, b))
  | inr f ↦ rw f (omega arith)
]
alike w v ss gs = omega arith

pub leads_past : (m : ℕ) (v : Event) (g s : State) → Leads m g s → Leads (suc m) (enters v g) (enters v s)
leads_past m v g s l =
    let n = l.now in let y = l.balance in let p = alike true v s.puts g.puts in let k = alike false v s.takes g.takes in record {
      lists = λ w. lists w;
      balance = omega (arith, y, p, k);
      further = λ q. further g.there (l.further q);
      now = omega (arith, n);
    }
  where
    lists : (w : Bool) → NoFewer (changes_to w (enters v s)) (changes_to w (enters v g))
    lists true = more true v s.puts g.puts (l.lists true)
    lists false = more false v s.takes g.takes (l.lists false)

    further : (b : Bool) → length (changes_to (not b) s) < length (changes_to (not b) g)
        → length (changes_to (not b) (enters v s)) < length (changes_to (not b) (enters v g))
    further true f = let k = alike false v s.takes g.takes in omega (arith, f, k)
    further false f = let p = alike true v s.puts g.puts in omega (arith, f, p)

pub leads_at_first : (b : Bool) → Leads 0 (opened b) (opened b)
leads_at_first b = record {
  lists = λ w d. omega arith;
  balance = refl;
  further = λ q. absurd (omega (arith, q));
  now = omega arith;
}
