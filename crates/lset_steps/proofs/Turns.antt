-- Proof that a list satisfies the law of a machine (a list algorithm as a table of steps) if its threads follow a
-- protocol for sharing the words. `Turn` states the proof obligation for each row of the step table.
use Rattle.std.specs.Prelude.{◌≡◌, ◌≢◌, ℕ, suc, ◌+◌, ◌<◌, ◌≤◌, Bool, true, false, Option, Some, None, List, ◌||◌, if◌then◌else◌}
use Rattle.std.specs.Prelude.{◌==◌, slice_set, refl}
use Rattle.std.proofs.Common.{arith, inl, inr, sym, ◌∙◌, ap, subst}
use Rattle.lset_words.proofs.Numbers.{same_or_not, if_same, if_other}
use Rattle.lset_words.specs.declared.Call.{Call}
use Rattle.lset_words.specs.declared.Key.{Key}
use Rattle.lset_words.specs.declared.Reply.{Reply}
use Rattle.lset_words.specs.declared.Reply.TheVariants.{True}
use Rattle.lset_words.specs.Words.{lock_index, node_count, word_count, target, tail_word, Sizes, Opening, Opens, sizes}
use Rattle.lset_words.specs.Account.{MayChange, FitsSometime}
use Rattle.lset_steps.specs.declared.Local.{Local}
use Rattle.lset_steps.specs.declared.Action.{Action}
use Rattle.lset_steps.specs.declared.Action.TheVariants.{Load, Exchange}
use Rattle.lset_steps.specs.Steps.{Table, idle, opening, seen_by}
use Rattle.lset_steps.specs.Chain.{View, view, FitsIn, IsOrdered, contents_of, counts_of, node_lock}
use Rattle.lset_steps.specs.Laws.{BeginLaws, Registers, Due, view_of}
use Rattle.lset_steps.proofs.Memory.{WordStep, Memory, reads}
use Rattle.lset_steps.proofs.Rely.{Rely, rely_of}
use Rattle.lset_steps.proofs.Remains.{Remains, remains_of, remains_same}
use Rattle.lset_steps.proofs.Discipline.{Outline, Before, Discipline, StepOf, Here, Thread}
use Rattle.lset_steps.proofs.Replies.{fed, fitted_on, or_false}
use Rattle.lset_steps.proofs.Held.{LockedStep, rely_same, reads_word, locks_free, finds_locked}

pub due_of : (done : Bool) (q : ℕ) (vs : ℕ → View) (first now t : ℕ) (call : Call) (r : Reply) → done ≡ false
    → FitsSometime q (contents_of vs) (counts_of vs) first now t call r → Due done q vs first now t call r
due_of done q vs first now t call r unchanged fits = rw unchanged fits

pub due_now : (done : Bool) (q : ℕ) (vs : ℕ → View) (first now t : ℕ) (v : View) (call : Call) (r : Reply)
    → done ≡ false → first ≤ now → vs now ≡ v → FitsIn q v t call r → Due done q vs first (suc now) t call r
due_now done q vs first now t v call r unchanged from present fits = due_of done q vs first (suc now) t call r unchanged (record {
  moment = now;
  from = from;
  upto = omega arith;
  fits = subst (λ w. FitsIn q w t call r) (sym present) fits;
})

pub due_on : (done : Bool) (q : ℕ) (vs : ℕ → View) (first now t : ℕ) (call : Call) (r : Reply) → Due done q vs first now t call r
    → Due done q vs first (suc now) t call r
due_on true q vs first now t call r d = d
due_on false q vs first now t call r d = fitted_on q vs first now (suc now) t call r (omega arith) d

-- Holds for a call that is about to release its locks if its reply is correct, or if it has no reply yet (`None`), has
-- changed nothing, and will start again.
abbrev pub Outcome : Bool → ℕ → (ℕ → View) → ℕ → ℕ → ℕ → Call → Option Reply → Type 0
Outcome done q vs first now t call None = done ≡ false
Outcome done q vs first now t call (Some reply) = Due done q vs first now t call reply

pub outcome_on : (done : Bool) (q : ℕ) (vs : ℕ → View) (first now t : ℕ) (call : Call) (reply : Option Reply)
    → Outcome done q vs first now t call reply → Outcome done q vs first (suc now) t call reply
outcome_on done q vs first now t call None o = o
outcome_on done q vs first now t call (Some reply) o = due_on done q vs first now t call reply o

-- A protocol for sharing the words of a list: the steps that a thread may take (loads are always allowed), and `rely`,
-- the properties that a thread's step preserves for all other threads.
pub record Protocol (marks : Bool) : Type 1 where
  pub step : (sz : Sizes) (t : ℕ) (ws : List ℕ) (used : ℕ → ℕ) → Action → List ℕ → (ℕ → ℕ) → Option (Key × Bool) → Type 0
  pub rely : View → View → ℕ → ℕ → Type 0
  pub is_step : (sz : Sizes) (t : ℕ) (ws : List ℕ) (used : ℕ → ℕ) (a : Action) (ws' : List ℕ) (used' : ℕ → ℕ)
      (change : Option (Key × Bool))
      → step sz t ws used a ws' used' change → WordStep marks sz t ws used a ws' used' change
  pub loads : (sz : Sizes) (t : ℕ) (ws : List ℕ) (used : ℕ → ℕ) (x : ℕ) → x < word_count sz →
      step sz t ws used (Load x) ws used None
  pub leaves : (sz : Sizes) (ws : List ℕ) (used : ℕ → ℕ) → Memory marks sz ws used → (t : ℕ) → t < sz.threads → (u : ℕ) →
      u < sz.threads → u ≢ t
      → (a : Action) (ws' : List ℕ) (used' : ℕ → ℕ) (change : Option (Key × Bool))
      → step sz t ws used a ws' used' change → rely (view sz ws used) (view sz ws' used') sz.quota u
  pub still : (v : View) (q u : ℕ) → rely v v q u

-- The protocol of lists with locks: a thread writes the link of a node in the chain only while it holds the node's
-- lock.
abbrev pub node_locks : (marks : Bool) → Protocol marks
node_locks marks = record {
  step = LockedStep marks;
  rely = Rely;
  is_step = λ sz t ws used a ws' used' change c. c.0;
  loads = λ sz t ws used x h. reads_word x h;
  leaves = λ sz ws used m t tn u k d a ws' used' change c. rely_of marks sz ws used m t tn u k d a ws' used' change c.0 c.1;
  still = rely_same;
}

-- The protocol of lists without locks: a thread writes the link of a node in the chain only if the link has the value
-- that the thread expects.
abbrev pub no_locks : (marks : Bool) → Protocol marks
no_locks marks = record {
  step = WordStep marks;
  rely = Remains;
  is_step = λ sz t ws used a ws' used' change c. c;
  loads = λ sz t ws used x h. reads x h;
  leaves = λ sz ws used m t tn u k d a ws' used' change c. remains_of marks sz ws used m t tn u k d a ws' used' change c;
  still = remains_same;
}

-- Holds if steps of other threads preserve a thread's assertion (the one that the proof outline has for the thread's
-- row of the step table).
abbrev pub Stands : {marks : Bool} → Protocol marks → Outline → Type 1
Stands P At = (q t : ℕ) (vs : ℕ → View) (first now : ℕ) (v w : View) (done : Bool) (l : Local) → vs now ≡ v → P.rely v w q t
    → At q t vs first now v done l → At q t vs first (suc now) w done l

-- Holds if a step from state `l` to `l'` keeps the thread's call and its number of successful adds, does not end the
-- call, and keeps the registers (nodes and key words) in range.
abbrev pub Onward : Sizes → ℕ → Local → Local → Type 0
Onward sz t l l' = Registers sz t l' × (l'.call ≡ l.call) × (l'.used ≡ l.used) × (l'.pc ≢ 0)

-- The proof obligation for one row of the step table, when thread `t` in private state `l` takes its next step. The
-- step continues the call, changes the set, ends the call, or changes the set and ends the call. Each case has the
-- row's action, its effect on the words, the thread's next private state, and the outline's assertion after the step.
pub data Turn (T : Table) (P : Protocol T.marks) (At : Outline) (sz : Sizes) (t : ℕ) (vs : ℕ → View) (first now : ℕ) (ws : List ℕ)
    (used : ℕ → ℕ) (done : Bool) (l : Local) : Type 0 where
  passes : (a : Action) (ws' : List ℕ) (l' : Local)
      → T.next l ≡ a → T.feed l (seen_by ws a) ≡ fed l' None → T.effect l (seen_by ws a) ≡ None
      → P.step sz t ws used a ws' used None → Onward sz t l l'
      → At sz.quota t vs first (suc now) (view sz ws' used) done l' → Turn T P At sz t vs first now ws used done l
  changes : (a : Action) (ws' : List ℕ) (used' : ℕ → ℕ) (l' : Local) (k : Key) (b : Bool)
      → T.next l ≡ a → T.feed l (seen_by ws a) ≡ fed l' None → T.effect l (seen_by ws a) ≡ Some (k, b)
      → P.step sz t ws used a ws' used' (Some (k, b)) → MayChange sz.quota (used t) l.call done (Some (k, b))
      → Registers sz t l' → l'.call ≡ l.call → l'.used ≡ used' t → l'.pc ≢ 0
      → At sz.quota t vs first (suc now) (view sz ws' used') true l' → Turn T P At sz t vs first now ws used done l
  answers : (a : Action) (ws' : List ℕ) (l' : Local) (r : Reply)
      → T.next l ≡ a → T.feed l (seen_by ws a) ≡ fed l' (Some r) → T.effect l (seen_by ws a) ≡ None
      → P.step sz t ws used a ws' used None → Due done sz.quota vs first now t l.call r
      → Registers sz t l' → l'.call ≡ l.call → l'.used ≡ l.used → l'.pc ≡ 0
      → At sz.quota t vs first (suc now) (view sz ws' used) done l' → Turn T P At sz t vs first now ws used done l
  ends : (a : Action) (ws' : List ℕ) (used' : ℕ → ℕ) (l' : Local) (k : Key) (b : Bool)
      → T.next l ≡ a → T.feed l (seen_by ws a) ≡ fed l' (Some True) → T.effect l (seen_by ws a) ≡ Some (k, b)
      → P.step sz t ws used a ws' used' (Some (k, b)) → MayChange sz.quota (used t) l.call done (Some (k, b))
      → Registers sz t l' → l'.call ≡ l.call → l'.used ≡ used' t → l'.pc ≡ 0
      → At sz.quota t vs first (suc now) (view sz ws' used') true l' → Turn T P At sz t vs first now ws used done l

-- Holds if the protocol (the steps that a thread may take) lets each thread try to take the lock of any node.
abbrev pub Locks : {marks : Bool} → Protocol marks → Type 0
Locks P = (sz : Sizes) (t : ℕ) (ws : List ℕ) (used : ℕ → ℕ) (a : ℕ) → a < node_count sz
    → (node_lock ws a ≡ 0 → P.step sz t ws used (Exchange (lock_index a) 0 (t + 1)) (slice_set ws (lock_index a) (t + 1)) used None)
    × (node_lock ws a ≢ 0 → P.step sz t ws used (Exchange (lock_index a) 0 (t + 1)) ws used None)

pub locks_nodes : (marks : Bool) → Locks (node_locks marks)
locks_nodes marks sz t ws used a inn = (λ free. locks_free a inn free, λ taken. finds_locked a inn taken)

-- Lemma: the proof obligation `Turn` holds for a row that attempts to take the lock of node `a`, if the protocol allows
-- the attempt and the thread's assertion holds afterwards, both if the attempt succeeds and if it fails.
pub tries : {T : Table} {P : Protocol T.marks} {At : Outline} {sz : Sizes} {t : ℕ} {vs : ℕ → View} {first now : ℕ} {ws : List ℕ}
    {used : ℕ → ℕ} {done : Bool} {l : Local}
    → Locks P → (a : ℕ) (on same : Local) → a < node_count sz → T.next l ≡ Exchange (lock_index a) 0 (t + 1)
    → T.feed l (node_lock ws a) ≡ fed (if node_lock ws a == 0 then on else same) None → T.effect l (node_lock ws a) ≡ None
    → Onward sz t l on → Onward sz t l same
    → (node_lock ws a ≡ 0 → At sz.quota t vs first (suc now) (view sz (slice_set ws (lock_index a) (t + 1)) used) done on)
    → At sz.quota t vs first (suc now) (view sz ws used) done same → Turn T P At sz t vs first now ws used done l
tries {P = P} {sz = sz} {t = t} {ws = ws} {used = used} locks a on same inn acts feeds tells onward again taken stays = elim (same_or_not (node_lock ws a) 0) [
  | inl free ↦ passes (Exchange (lock_index a) 0 (t + 1)) (slice_set ws (lock_index a) (t + 1)) on acts
      (feeds ∙ ap (λ (x : Local). fed x None) (if_same (node_lock ws a) 0 free on same)) tells
      ((locks sz t ws used a inn).0 free) onward (taken free)
  | inr other ↦ passes (Exchange (lock_index a) 0 (t + 1)) ws same acts
      (feeds ∙ ap (λ (x : Local). fed x None) (if_other (node_lock ws a) 0 other on same)) tells
      ((locks sz t ws used a inn).1 other) again stays
]

-- The proof obligations for a list and its protocol. A thread's assertion (the one that the proof outline has for the
-- thread's row of the step table) holds when a call begins. Each row is a step of the protocol, and preserves its own
-- thread's assertion. Steps of other threads also preserve the assertion.
pub record Follows (T : Table) (P : Protocol T.marks) (At : Outline) : Type 1 where
  pub idle_at : (op : Opening) → Opens op → (t : ℕ) (vs : ℕ → View)
      → At op.quota t vs 0 0 (view_of (sizes op) (opening op)) false (idle op.quota t)
  pub begun : (call : Call) (l : Local) → BeginLaws T.begin call l
  pub begin_registers : (sz : Sizes) (t : ℕ) (call : Call) (l : Local) → target call < tail_word → Registers sz t l
      → Registers sz t (T.begin call l)
  pub begins : (q t : ℕ) (vs : ℕ → View) (now : ℕ) (v : View) (call : Call) (l : Local) → vs now ≡ v → IsOrdered v
      → v.key 0 ≡ 0 → Before At q t vs v l → At q t vs now now v false (T.begin call l)
  pub stands : Stands P At
  pub turn : (sz : Sizes) (t : ℕ) (vs : ℕ → View) (first now : ℕ) (ws : List ℕ) (used : ℕ → ℕ) (done : Bool) (l : Local)
      → Here T.marks sz vs now ws used → Thread At sz t vs first now ws used done l → t < sz.threads → l.pc ≢ 0
      → Turn T P At sz t vs first now ws used done l

-- Adds an invariant of the shared words to each assertion of a proof outline. Each step of the protocol must preserve
-- the invariant. The proof of each row of the step table can then use the invariant without proving it again.
abbrev pub Keeping : (View → Type 0) → Outline → Outline
Keeping Always At q t vs first now v done l = At q t vs first now v done l × Always v

pub keeping : {T : Table} {P : Protocol T.marks} {At : Outline} (Always : View → Type 0) {sz : Sizes} {t : ℕ} {vs : ℕ → View}
    {first now : ℕ} {ws : List ℕ} {used : ℕ → ℕ} {done : Bool} {l : Local}
    → ((a : Action) (ws' : List ℕ) (used' : ℕ → ℕ) (change : Option (Key × Bool))
    → P.step sz t ws used a ws' used' change → Always (view sz ws' used'))
    → Turn T P At sz t vs first now ws used done l → Turn T P (Keeping Always At) sz t vs first now ws used done l
keeping Always {used = used} kept (passes a ws' l' acts feeds tells c onward at) =
    passes a ws' l' acts feeds tells c onward (at, kept a ws' used None c)
keeping Always kept (changes a ws' used' l' k b acts feeds tells c may registers call count pc at) =
    changes a ws' used' l' k b acts feeds tells c may registers call count pc (at, kept a ws' used' (Some (k, b)) c)
keeping Always {used = used} kept (answers a ws' l' r acts feeds tells c due registers call count pc at) =
    answers a ws' l' r acts feeds tells c due registers call count pc (at, kept a ws' used None c)
keeping Always kept (ends a ws' used' l' k b acts feeds tells c may registers call count pc at) =
    ends a ws' used' l' k b acts feeds tells c may registers call count pc (at, kept a ws' used' (Some (k, b)) c)

or_true : (b : Bool) → (b || true) ≡ true
or_true true = refl
or_true false = refl

module _ (T : Table) (P : Protocol T.marks) (At : Outline) (stands : Stands P At) (sz : Sizes) (t : ℕ) (vs : ℕ → View) (first : ℕ
    → ℕ)
    (now : ℕ) (ws : List ℕ) (used : ℕ → ℕ) (done : ℕ → Bool) (locals : ℕ → Local) (h : Here T.marks sz vs now ws used)
    (ths : (u : ℕ) → u < sz.threads → Thread At sz u vs (first u) now ws used (done u) (locals u)) (tn : t < sz.threads) where
  others_on : (a : Action) (ws' : List ℕ) (used' : ℕ → ℕ) (change : Option (Key × Bool))
      → P.step sz t ws used a ws' used' change
      → (u : ℕ) → u < sz.threads → u ≢ t → At sz.quota u vs (first u) (suc now) (view sz ws' used') (done u) (locals u)
  others_on a ws' used' change c u k d = stands sz.quota u vs (first u) now (view sz ws used) (view sz ws' used') (done u)
      (locals u) h.present
      (P.leaves sz ws used h.memory t tn u k d a ws' used' change c) (ths u k).at

  step_of : Turn T P At sz t vs (first t) now ws used (done t) (locals t)
      → StepOf T T.marks At sz t vs first now ws used done locals
  step_of (passes a ws' l' acts feeds tells c (registers, call, count, pc) at) = record {
    action = a;
    words' = ws';
    used' = used;
    local' = l';
    answer = None;
    effect = None;
    acts = acts;
    feeds = feeds;
    tells = tells;
    change = P.is_step sz t ws used a ws' used None c;
    registers = registers;
    same_call = call;
    counts = count ∙ (ths t tn).counts;
    by_call = tt;
    answered = pc;
    own = subst (λ b. At sz.quota t vs (first t) (suc now) (view sz ws' used) b l') (sym (or_false (done t))) at;
    others = others_on a ws' used None c;
  }
  step_of (changes a ws' used' l' k b acts feeds tells c may registers call count pc at) = record {
    action = a;
    words' = ws';
    used' = used';
    local' = l';
    answer = None;
    effect = Some (k, b);
    acts = acts;
    feeds = feeds;
    tells = tells;
    change = P.is_step sz t ws used a ws' used' (Some (k, b)) c;
    registers = registers;
    same_call = call;
    counts = count;
    by_call = may;
    answered = pc;
    own = subst (λ b. At sz.quota t vs (first t) (suc now) (view sz ws' used') b l') (sym (or_true (done t))) at;
    others = others_on a ws' used' (Some (k, b)) c;
  }
  step_of (answers a ws' l' r acts feeds tells c due registers call count pc at) = record {
    action = a;
    words' = ws';
    used' = used;
    local' = l';
    answer = Some r;
    effect = None;
    acts = acts;
    feeds = feeds;
    tells = tells;
    change = P.is_step sz t ws used a ws' used None c;
    registers = registers;
    same_call = call;
    counts = count ∙ (ths t tn).counts;
    by_call = tt;
    answered = (pc, subst (λ b. Due b sz.quota vs (first t) now t (locals t).call r) (sym (or_false (done t))) due);
    own = subst (λ b. At sz.quota t vs (first t) (suc now) (view sz ws' used) b l') (sym (or_false (done t))) at;
    others = others_on a ws' used None c;
  }
  step_of (ends a ws' used' l' k b acts feeds tells c may registers call count pc at) = record {
    action = a;
    words' = ws';
    used' = used';
    local' = l';
    answer = Some True;
    effect = Some (k, b);
    acts = acts;
    feeds = feeds;
    tells = tells;
    change = P.is_step sz t ws used a ws' used' (Some (k, b)) c;
    registers = registers;
    same_call = call;
    counts = count;
    by_call = may;
    answered = (pc, subst (λ b. Due b sz.quota vs (first t) now t (locals t).call True) (sym (or_true (done t))) refl);
    own = subst (λ b. At sz.quota t vs (first t) (suc now) (view sz ws' used') b l') (sym (or_true (done t))) at;
    others = others_on a ws' used' (Some (k, b)) c;
  }

pub discipline_of : (T : Table) (P : Protocol T.marks) (At : Outline) → Follows T P At → Discipline T T.marks At
discipline_of T P At k = record {
  idle_at = k.idle_at;
  begun = k.begun;
  begin_registers = k.begin_registers;
  begins = k.begins;
  waits = λ q t vs first now v done l present. k.stands q t vs first now v v done l present (P.still v q t);
  goes = λ sz t vs first now ws used done locals h ths tn busy.
      let turn = k.turn sz t vs (first t) now ws used (done t) (locals t) h (ths t tn) tn busy in
      step_of T P At k.stands sz t vs first now ws used done locals h ths tn turn;
}
