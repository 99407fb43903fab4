-- Lemmas about the calls in the record of a seat (one thread's access to the set), and about the calls that the seat's
-- threads have made in the run.
use Rattle.std.proofs.Common.{◌≡◌, ◌≢◌, inl, inr, ℕ, zero, suc, ◌<◌, ◌≤◌, Bool, true, false, if◌then◌else◌, cond, List, [], ◌∷◌}
use Rattle.std.proofs.Common.{◌++◌, Option, Some, None, refl, sym, ap, ◌∙◌, subst, arith, eq-eqb, ne_eqb, append-nil, append_assoc}
use Rattle.lset_words.specs.declared.Reply.{Reply}
use Rattle.lset_words.specs.Log.{Log, Entry, LastCall, maker, last_after, last_at, begun_at}
use Rattle.lset_words.specs.Log.Entry.{began, stepped}
use Rattle.lset_words.proofs.Numbers.{same_or_not}
use Rattle.lset_words.proofs.LastCalls.{last_own, last_other}
use Rattle.lset_steps.specs.declared.Event.{Event}
use Rattle.lset_rule.specs.declared.view.OwnCall.{OwnCall}
use Rattle.lset_rule.specs.declared.view.PendingCall.{PendingCall}
use Rattle.lset_rule.specs.declared.view.SpareThread.{SpareThread}
use Rattle.lset_rule.specs.declared.view.Past.{Past, Fresh, Called', Gathered'}
use Rattle.lset_rule.specs.declared.view.View.{View}
use Rattle.lset_steps.specs.Steps.{Table}
use Rattle.lset_words.specs.Records.{NamesGathered}
use Rattle.lset_rule.specs.Dated.{record_of}
use Rattle.lset_rule.specs.Pasts.{root, calls_of, Before, GatheredBefore, InOrder, Apart, IsIn}
use Rattle.lset_steps.specs.Worlds.{thread_of}
use Rattle.lset_rule.specs.Runs.{Here, here, at_end, own, under_after, under_at, ending, StartsWith}
use Rattle.lset_rule.proofs.OneMoreEvent.{end_other}
use Rattle.lset_rule.specs.Views.{HasThread, HasAside, AreIdle, InTime}
use Rattle.lset_rule.specs.Rule.{IsQuiet}
use Rattle.lset_rule.specs.Calls.{record_after}
use Rattle.lset_words.specs.Words.{Opening}

module _ (T : Table) (k : Opening) where
  pub still_quiet : (v : View) (es rest : List Event) (t : ℕ) → HasThread v t → IsQuiet v rest →
      at_end T k (es ++ rest) t ≡ at_end T k es t
  still_quiet v es [] t h quiet = ap (λ l. at_end T k l t) (append-nil es)
  still_quiet v es (e ∷ rest) t h quiet = ap (λ l. at_end T k l t) (sym (append_assoc es (e ∷ []) rest))
      ∙ (still_quiet v (es ++ e ∷ []) rest t h quiet.1 ∙ end_other T k es e t (λ same. quiet.0 (subst (HasThread v) same h)))

pub quiet_append : (v : View) (es : List Event) (e : Event) → IsQuiet v es → ¬ (HasThread v (thread_of e)) →
    IsQuiet v (es ++ e ∷ [])
quiet_append v [] e q n = (n, tt)
quiet_append v (x ∷ xs) e q n = (q.0, quiet_append v xs e q.1 n)

pub starts_more : (log seen : List Event) (e : Event) → StartsWith log seen → StartsWith (log ++ e ∷ []) seen
starts_more log seen e (rest, is) = (rest ++ e ∷ [], ap (λ l. l ++ e ∷ []) is ∙ append_assoc seen rest (e ∷ []))

pub asides_stay : (w w' : ℕ → Here) (t : ℕ) (r r' : Past) (os : List SpareThread) → ((u : ℕ) → HasAside os u → u ≢ t → w' u ≡ w u) →
    ((u : ℕ) → u ≢ t → calls_of u r' ≡ calls_of u r)
    → AreIdle w t r os → AreIdle w' t r' os
asides_stay w w' t r r' [] same calls a = tt
asides_stay w w' t r r' (o ∷ os) same calls a = (
  a.0,
  same o.thread (inl refl) a.0 ∙ (a.1 ∙ ap (here o.local None) (sym (calls o.thread a.0))),
  a.2,
  asides_stay w w' t r r' os (λ u is. same u (inr is)) calls a.3,
)

pub before_more : (n k : ℕ) (r : Past) → n ≤ k → Before n r → Before k r
before_more n k (Fresh t) le b = tt
before_more n k (Called' p r c) le b = let x = b.1 in let y = b.2 in (before_more n k r le b.0, omega arith, omega arith)
before_more n k (Gathered' p r q g) le b = (before_more n k r le b.0, before_more n k g le b.1)

pub before_gathered : (n : ℕ) (r : Past) → Before n r → GatheredBefore n r
before_gathered n (Fresh t) b = tt
before_gathered n (Called' p r c) b = before_gathered n r b.0
before_gathered n (Gathered' p r q g) b = (before_gathered n r b.0, b.1)

abbrev pub BegunBy : Option PendingCall → ℕ → Type 0
BegunBy None n = Unit {0}
BegunBy (Some u) n = u.begun ≤ n

begun_low : (log : Log) (t n : ℕ) → begun_at log t n ≤ n
begun_low log t zero = omega arith
begun_low log t (suc n) = elim (same_or_not (maker (log n)) t) [
  | inl y ↦ subst (λ (x : LastCall). x.begun ≤ suc n) (sym (last_own log t n refl y)) (own (log n) (begun_low log t n))
  | inr y ↦ subst (λ (x : LastCall). x.begun ≤ suc n) (sym (last_other log t n refl y))
      (let first : begun_at log t n ≤ n = begun_low log t n in omega arith)
]
  where
    own : (e : Entry) → begun_at log t n ≤ n → (last_after (suc n) e (last_at log t n)).begun ≤ suc n
    own (began u c) first = omega arith
    own (stepped u change answer) first = omega arith

pub begun_by : (log : Log) (t n : ℕ) → BegunBy (under_at log t n) n
begun_by log t n = known (last_at log t n).pending
  where
    known : (b : Bool) → BegunBy (if b then Some (record {
      call = (last_at log t n).call;
      begun = begun_at log t n;
      steps = (last_at log t n).steps;
    }) else None) n
    known true = begun_low log t n
    known false = tt

-- Returns the calls by a record's own thread, without the calls in records that were merged into the record.
abbrev pub own_calls : Past → List OwnCall
own_calls (Fresh t) = []
own_calls (Called' p r c) = own_calls r ++ c ∷ []
own_calls (Gathered' p r q g) = own_calls r

-- Holds if a record of thread u was merged into the record r.
abbrev pub HasGathered : ℕ → Past → Type 0
HasGathered u r = NamesGathered u (record_of r)

pub root_in : (r : Past) → IsIn (root r) r
root_in (Fresh t) = refl
root_in (Called' p r c) = root_in r
root_in (Gathered' p r q g) = inl (root_in r)

pub none_in : (u : ℕ) (r : Past) → ¬ (IsIn u r) → calls_of u r ≡ []
none_in u (Fresh t) out = refl
none_in u (Called' p r c) out =
    ap (λ b. calls_of u r ++ cond b (c ∷ []) []) (ne_eqb u (root r) (λ e. out (subst (λ z. IsIn z r) (sym e) (root_in r))))
    ∙ (append-nil (calls_of u r) ∙ none_in u r out)
none_in u (Gathered' p r q g) out = λ i. none_in u r (λ h. out (inl h)) i
    ++ none_in u g (λ h. out (inr h)) i

pub after_calls : (t : ℕ) (r : Past) (a : Option Reply) (u : Option PendingCall) (n : ℕ) → root r ≡ t → calls_of t r
    ++ ending a u n ≡ calls_of t (record_after r a u n)
after_calls t r (Some x) (Some u) n is = ap (λ b. calls_of t r ++ cond b (own u x n ∷ []) []) (sym (eq-eqb t (root r) (sym is)))
after_calls t r (Some x) None n is = append-nil (calls_of t r)
after_calls t r None u n is = append-nil (calls_of t r)

pub after_calls_other : (t : ℕ) (r : Past) (a : Option Reply) (u : Option PendingCall) (n : ℕ) → t ≢ root r →
    calls_of t (record_after r a u n) ≡ calls_of t r
after_calls_other t r (Some x) (Some u) n ne = ap (λ b. calls_of t r ++ cond b (own u x n ∷ []) []) (ne_eqb t (root r) ne)
    ∙ append-nil (calls_of t r)
after_calls_other t r (Some x) None n ne = refl
after_calls_other t r None u n ne = refl

pub after_root : (r : Past) (a : Option Reply) (u : Option PendingCall) (n : ℕ) → root (record_after r a u n) ≡ root r
after_root r (Some x) (Some u) n = refl
after_root r (Some x) None n = refl
after_root r None u n = refl

pub after_apart : (r : Past) (a : Option Reply) (u : Option PendingCall) (n : ℕ) → Apart r → Apart (record_after r a u n)
after_apart r (Some x) (Some u) n h = h
after_apart r (Some x) None n h = h
after_apart r None u n h = h

pub after_in : (r : Past) (a : Option Reply) (u : Option PendingCall) (n t : ℕ) → IsIn t (record_after r a u n) → IsIn t r
after_in r (Some x) (Some u) n t h = h
after_in r (Some x) None n t h = h
after_in r None u n t h = h

pub after_in_order : (r : Past) (a : Option Reply) (u : Option PendingCall) (n : ℕ) → InOrder r → InTime u r →
    InOrder (record_after r a u n)
after_in_order r (Some x) (Some u) n o b = (o, before_gathered u.begun r b)
after_in_order r (Some x) None n o b = o
after_in_order r None u n o b = o

pub after_before : (r : Past) (a : Option Reply) (u : Option PendingCall) (i n k : ℕ) → BegunBy u i → i < k → n < k → Before k r →
    Before k (record_after r a u n)
after_before r (Some x) (Some u) i n k begun low l b = let first : u.begun ≤ i = begun in (b, l, omega arith)
after_before r (Some x) None i n k begun low l b = b
after_before r None u i n k begun low l b = b

pub after_in_time : (r : Past) (a : Option Reply) (u : Option PendingCall) (n : ℕ) → InTime u r →
    InTime (under_after a u) (record_after r a u n)
after_in_time r (Some x) (Some u) n b = tt
after_in_time r (Some x) None n b = tt
after_in_time r None None n b = b
after_in_time r None (Some u) n b = b
