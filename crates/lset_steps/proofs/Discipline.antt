-- Proof that a machine (a list algorithm as a table of steps) satisfies its law in every run if each step of the
-- machine makes only an allowed change to the words. Moment k of a run is the state after the first k events.
use Rattle.std.specs.Prelude.{◌≡◌, ◌≢◌, ℕ, ◌+◌, ◌%◌, ◌<◌, ◌≤◌, ◌⊎◌, ◌-◌, Bool, true, false, Option, Some, None, List}
use Rattle.std.specs.Prelude.{slice_set, slice_index_or, length, refl, if◌then◌else◌, ◌==◌, ◌||◌}
use Rattle.std.proofs.Common.{arith, inl, inr, sym, ◌∙◌, ap, subst, zero, suc, get_or-set_other, get_or-set_same, length-set}
use Rattle.std.proofs.lemmas.List.FromFn.{length-map-range_with_len}
use Rattle.lset_words.proofs.Numbers.{same_or_not, equal_test, unequal_test}
use Rattle.lset_words.specs.Words.{tail_word, IsWithin, Opens, target, Sizes, Opening, sizes}
use Rattle.lset_words.specs.declared.Call.{Call}
use Rattle.lset_words.specs.declared.Key.{Key}
use Rattle.lset_words.specs.declared.Reply.{Reply}
use Rattle.lset_steps.specs.declared.Local.{Local}
use Rattle.lset_steps.specs.declared.Action.{Action}
use Rattle.lset_steps.specs.declared.Event.{Event}
use Rattle.lset_steps.specs.declared.Event.TheVariants.{Begin, Go}
use Rattle.lset_steps.specs.Steps.{log_of, entry_of, Table, State, opening, idle, local_of, after, left_by, seen_by, seen_next, Enabled}
use Rattle.lset_steps.specs.Steps.{Run, state_at}
use Rattle.lset_words.specs.Log.{Log, LastCall, is_change, begun_at, has_changed, maker, last_after, last_at}
use Rattle.lset_words.specs.Log.Entry.{began}
use Rattle.lset_words.proofs.LastCalls.{last_own}
use Rattle.lset_steps.specs.Chain.{View, view, IsOrdered, Changed, UnlinkedStays, node_link, contents_of, counts_of}
use Rattle.lset_steps.proofs.Moves.{Move, KeepsNodes, KeepsMarked, Course}
use Rattle.lset_words.specs.Account.{FitsSometime, MayChange, count_after}
use Rattle.lset_steps.specs.Laws.{Lawful, BeginLaws, StateLaws, Registers, StepLaws, StepAt, Answered, used_in, view_of, views}
use Rattle.lset_steps.proofs.Memory.{WordStep, Memory, moved, left_is, named_in, lock_use, mine_counted, others_counted, goes_on}
use Rattle.lset_steps.proofs.Memory.{memory_after, inside}
use Rattle.lset_steps.proofs.MoveLaws.{move-changed, marked_stays, later_same, later_more}
use Rattle.lset_steps.proofs.Hindsight.{hindsight}
use Rattle.lset_steps.proofs.Openings.{opening_local, none_used, opening_ordered, opening_memory}

-- The type of a proof outline, which has an assertion for each row of a thread's step table (Owicki and Gries). The
-- arguments are the quota (the successful adds that a thread may make), the thread, the views (nodes and locks) at all
-- moments so far, the moment when the call began, the current moment, the current view, whether the call has changed
-- the set, and the thread's private state.
abbrev pub Outline : Type 1
Outline = ℕ → ℕ → (ℕ → View) → ℕ → ℕ → View → Bool → Local → Type 0

-- The facts about the list's words at moment `now`, for use in the proof of a thread's step.
pub record Here (marks : Bool) (sz : Sizes) (vs : ℕ → View) (now : ℕ) (ws : List ℕ) (used : ℕ → ℕ) : Type 1 where
  pub limits : IsWithin sz
  pub memory : Memory marks sz ws used
  pub course : Course vs now
  pub present : vs now ≡ view sz ws used

-- The facts about thread `t` and its private state `l` at moment `now`, including the proof outline's assertion for the
-- thread's next row of the step table.
pub record Thread (At : Outline) (sz : Sizes) (t : ℕ) (vs : ℕ → View) (first now : ℕ) (ws : List ℕ) (used : ℕ → ℕ)
    (done : Bool) (l : Local) : Type 0 where
  pub registers : Registers sz t l
  pub counts : l.used ≡ used t
  pub begun : first ≤ now
  pub at : At sz.quota t vs first now (view sz ws used) done l

-- A step of thread `t`, with proofs that the step preserves the invariant of the run.
pub record StepOf (T : Table) (marks : Bool) (At : Outline) (sz : Sizes) (t : ℕ) (vs : ℕ → View) (first : ℕ → ℕ) (now : ℕ)
    (ws : List ℕ) (used : ℕ → ℕ) (done : ℕ → Bool) (locals : ℕ → Local) : Type 0 where
  pub action : Action
  pub words' : List ℕ
  pub used' : ℕ → ℕ
  pub local' : Local
  pub answer : Option Reply
  pub effect : Option (Key × Bool)
  pub acts : T.next (locals t) ≡ action
  pub feeds : T.feed (locals t) (seen_by ws action) ≡ record { local = local'; answer = answer }
  pub tells : T.effect (locals t) (seen_by ws action) ≡ effect
  pub change : WordStep marks sz t ws used action words' used' effect
  pub registers : Registers sz t local'
  pub same_call : local'.call ≡ (locals t).call
  pub counts : local'.used ≡ used' t
  pub by_call : MayChange sz.quota (used t) (locals t).call (done t) effect
  pub answered : Answered (done t || is_change effect) sz.quota vs (first t) now t (locals t).call local'.pc answer
  pub own : At sz.quota t vs (first t) (suc now) (view sz words' used') (done t || is_change effect) local'
  pub others : (u : ℕ) → u < sz.threads → u ≢ t → At sz.quota u vs (first u) (suc now) (view sz words' used') (done u) (locals u)

-- Holds if the proof outline's assertion for the thread's row of the step table is true in view `v` (nodes and locks),
-- for some start of the call (`first`) and some current moment (`now`), whether or not the call has changed the set.
abbrev pub Before : Outline → ℕ → ℕ → (ℕ → View) → View → Local → Type 0
Before At q t vs v l = (first : ℕ) × (now : ℕ) × (done : Bool) × At q t vs first now v done l

-- The proof obligations for a list's proof outline: each thread's assertion holds when the list opens. After each
-- event, each thread's assertion holds for the row that the thread is then at.
pub record Discipline (T : Table) (marks : Bool) (At : Outline) : Type 1 where
  pub idle_at : (op : Opening) → Opens op → (t : ℕ) (vs : ℕ → View)
      → At op.quota t vs 0 0 (view_of (sizes op) (opening op)) false (idle op.quota t)
  pub begun : (call : Call) (l : Local) → BeginLaws T.begin call l
  pub begin_registers : (sz : Sizes) (t : ℕ) (call : Call) (l : Local) → target call < tail_word → Registers sz t l
      → Registers sz t (T.begin call l)
  pub begins : (q t : ℕ) (vs : ℕ → View) (now : ℕ) (v : View) (call : Call) (l : Local) → vs now ≡ v → IsOrdered v
      → v.key 0 ≡ 0 → Before At q t vs v l → At q t vs now now v false (T.begin call l)
  pub waits : (q t : ℕ) (vs : ℕ → View) (first now : ℕ) (v : View) (done : Bool) (l : Local) → vs now ≡ v
      → At q t vs first now v done l → At q t vs first (suc now) v done l
  pub goes : (sz : Sizes) (t : ℕ) (vs : ℕ → View) (first : ℕ → ℕ) (now : ℕ) (ws : List ℕ) (used : ℕ → ℕ) (done : ℕ → Bool)
      (locals : ℕ → Local)
      → Here marks sz vs now ws used
      → ((u : ℕ) → u < sz.threads → Thread At sz u vs (first u) now ws used (done u) (locals u)) → t < sz.threads →
      (locals t).pc ≢ 0
      → StepOf T marks At sz t vs first now ws used done locals

course_more : (vs : ℕ → View) (s : ℕ) → Course vs s → KeepsNodes (vs s) (vs (suc s)) → KeepsMarked (vs s) (vs (suc s))
    → IsOrdered (vs (suc s)) → Course vs (suc s)
course_more vs s r g m ord = record {
  ordered = λ t l. elim (upto t l) [ inl e ↦ subst (λ x. IsOrdered (vs x)) (sym e) ord | inr k ↦ r.ordered t k ];
  goes = λ t l. elim (below t l) [
    | inl e ↦ (let f : suc s ≡ s + 1 = omega arith in
        subst (λ x. KeepsNodes (vs x) (vs (x + 1))) (sym e) (subst (λ x. KeepsNodes (vs s) (vs x)) f g))
    | inr k ↦ r.goes t k
  ];
  marked = λ t l. elim (below t l) [
    | inl e ↦ (let f : suc s ≡ s + 1 = omega arith in
        subst (λ x. KeepsMarked (vs x) (vs (x + 1))) (sym e) (subst (λ x. KeepsMarked (vs s) (vs x)) f m))
    | inr k ↦ r.marked t k
  ];
}
  where
    upto : (t : ℕ) → t ≤ suc s → (t ≡ suc s) ⊎ (t ≤ s)
    upto t l = grind arith

    below : (t : ℕ) → t < suc s → (t ≡ s) ⊎ (t < s)
    below t l = grind arith

course_zero : (vs : ℕ → View) → IsOrdered (vs 0) → Course vs 0
course_zero vs ord = record {
  ordered = λ t l. (let e : 0 ≡ t = omega arith in subst (λ x. IsOrdered (vs x)) e ord);
  goes = λ t l. absurd (omega arith);
  marked = λ t l. absurd (omega arith);
}

goes_same : (v : View) → KeepsNodes v v
goes_same v = record { keys = λ i m. refl; grows = λ i m. m; kept = λ i m. inl refl; back = λ i m c. c }

answered_on : (done : Bool) (q : ℕ) (vs : ℕ → View) (first now t : ℕ) (call : Call) (pc : ℕ) (r : Option Reply)
    → Answered done q vs first now t call pc r → Answered done q vs first (suc now) t call pc r
answered_on done q vs first now t call pc None a = a
answered_on true q vs first now t call pc (Some r) a = a
answered_on false q vs first now t call pc (Some r) a = (
  a.0,
  (let f : FitsSometime q (contents_of vs) (counts_of vs) first now t call r = a.1 in
      record { moment = f.moment; from = f.from; upto = (let u : f.moment ≤ now = f.upto in omega arith); fits = f.fits }),
)

-- Lemmas about `if`, and about the list of all threads' states after the state of one thread is replaced.
pub pick_yes : {A : Type 0} (b : Bool) (x y : A) → b ≡ true → (if b then x else y) ≡ x
pick_yes b x y e = rw e refl

pub pick_not : {A : Type 0} (b : Bool) (x y : A) → b ≡ false → (if b then x else y) ≡ y
pick_not b x y e = rw e refl

pub put_same : (s : State) (t : ℕ) (l : Local) → t < length s.locals → slice_index_or (slice_set s.locals t l) t (idle 0 0) ≡ l
put_same s t l h = get_or-set_same s.locals t l (idle 0 0) h

pub put_other : (s : State) (t u : ℕ) (l : Local) → u ≢ t → slice_index_or (slice_set s.locals t l) u (idle 0 0) ≡ local_of s u
put_other s t u l h = get_or-set_other s.locals t u l (idle 0 0) h

-- The invariant of a run at moment `k`: properties of the words and, for each thread, the proof outline's assertion for
-- the thread's next row of the step table.
pub record Inv (marks : Bool) (At : Outline) (sz : Sizes) (vs : ℕ → View) (k : ℕ) (s : State) (calls : ℕ → LastCall) :
    Type 1 where
  pub memory : Memory marks sz s.words (used_in s)
  pub locals : length s.locals ≡ sz.threads
  pub course : Course vs k
  pub present : vs k ≡ view_of sz s
  pub threads : (u : ℕ) → u < sz.threads
      → Thread At sz u vs (calls u).begun k s.words (used_in s) (calls u).changed (local_of s u)

module _ (T : Table) (marks : Bool) (At : Outline) (d : Discipline T marks At) (op : Opening) (lim : Opens op) (vs : ℕ → View) where
  thread_to : (u k : ℕ) {ws ws' : List ℕ} {used used' : ℕ → ℕ} {f f' : ℕ} {b b' : Bool} {l l' : Local} → ws' ≡ ws
      → used' ≡ used → f' ≡ f → b' ≡ b → l' ≡ l
      → Thread At (sizes op) u vs f k ws used b l → Thread At (sizes op) u vs f' k ws' used' b' l'
  thread_to u k {ws} {ws'} {used} {used'} {f} {f'} {b} {b'} {l} {l'} e1 e2 e3 e4 e5 h =
      subst (λ x. Thread At (sizes op) u vs f' k x used' b' l') (sym e1)
      (subst (λ x. Thread At (sizes op) u vs f' k ws x b' l') (sym e2)
      (subst (λ x. Thread At (sizes op) u vs x k ws used b' l') (sym e3)
      (subst (λ x. Thread At (sizes op) u vs f k ws used x l') (sym e4)
      (subst (λ x. Thread At (sizes op) u vs f k ws used b x) (sym e5) h))))

  opens : (log : Log) → vs 0 ≡ view_of (sizes op) (opening op)
      → Inv marks At (sizes op) vs 0 (opening op) (λ u. last_at log u 0)
  opens log e = record {
    memory = opening_memory op lim marks;
    locals = length-map-range_with_len (idle op.quota) 0 op.threads;
    course = course_zero vs (rw e (opening_ordered op lim));
    present = e;
    threads = λ u h.
        let l : local_of (opening op) u ≡ idle op.quota u = opening_local op u h in
        let z : used_in (opening op) u ≡ 0 = none_used op u h in
        thread_to u 0 refl refl refl refl l (record {
          registers = record {
            thread = refl;
            quota = refl;
            used = omega arith;
            low = omega arith;
            pred = omega arith;
            curr = omega arith;
            succ = omega arith;
            node = omega arith;
            pkey = omega arith;
            ckey = omega arith;
          };
          counts = sym z;
          begun = omega arith;
          at = d.idle_at op lim u vs;
        });
  }

  begin_step : (k : ℕ) (s : State) (calls : ℕ → LastCall) (t : ℕ) (call : Call)
      → Inv marks At (sizes op) vs k s calls → Enabled s (Begin t call)
      → vs (suc k) ≡ view_of (sizes op) (after T s (Begin t call))
      → Inv marks At (sizes op) vs (suc k) (after T s (Begin t call))
      (λ u. if t == u then last_after (suc k) (began t call) (calls u) else calls u)
  begin_step k s calls t call i en e =
      let next : ℕ → LastCall = λ u. if t == u then last_after (suc k) (began t call) (calls u) else calls u in
      let l' : Local = T.begin call (local_of s t) in
      let s' : State = after T s (Begin t call) in
      let used_is : used_in s' ≡ used_in s = λ j u. same_used u j in
      let view_is : view_of (sizes op) s' ≡ view_of (sizes op) s = ap (λ f. view (sizes op) s.words f) used_is in
      let now_is : vs (suc k) ≡ vs k = e ∙ view_is ∙ sym i.present in
      let th : t < op.threads = rw i.locals at en.0 in
      record {
        memory = subst (λ f. Memory marks (sizes op) s.words f) (sym used_is) i.memory;
        locals = length-set s.locals t l' ∙ i.locals;
        course = course_more vs k i.course (subst (λ x. KeepsNodes (vs k) x) (sym now_is) (goes_same (vs k)))
            (λ b p o. ap (λ x. x.link b) now_is) (subst (λ x. IsOrdered x) (sym now_is) (i.course.ordered k (omega arith)));
        present = e;
        threads = λ u h. elim (same_or_not u t) [
          | inl y ↦ (let x = i.threads t th in
              let at_t : Thread At (sizes op) t vs (suc k) (suc k) s.words (used_in s) false l' = record {
                registers = d.begin_registers (sizes op) t call (local_of s t) en.2 x.registers;
                counts = (d.begun call (local_of s t)).used ∙ x.counts;
                begun = omega arith;
                at = d.begins op.quota t vs (suc k) (view (sizes op) s.words (used_in s)) call (local_of s t) (e ∙ view_is)
                    i.memory.ordered i.memory.head_key ((calls t).begun, k, (calls t).changed, x.at);
              } in
              let own : next t ≡ last_after (suc k) (began t call) (calls t) = pick_yes (t == t) _ _ (equal_test t t refl) in
              subst (λ z. Thread At (sizes op) z vs (next z).begun (suc k) s'.words (used_in s') (next z).changed
              (local_of s' z)) (sym y) (thread_to t (suc k) refl used_is (ap (λ (c : LastCall). c.begun) own)
              (ap (λ (c : LastCall). c.changed) own) (put_same s t l' en.0) at_t))
          | inr y ↦ (let x = i.threads u h in
              let same : next u ≡ calls u = pick_not (t == u) _ _ (unequal_test t u (λ z. y (sym z))) in
              thread_to u (suc k) refl used_is (ap (λ (c : LastCall). c.begun) same)
              (ap (λ (c : LastCall). c.changed) same) (put_other s t u l' y) (record {
                registers = x.registers;
                counts = x.counts;
                begun = (let b : (calls u).begun ≤ k = x.begun in omega arith);
                at = d.waits op.quota u vs (calls u).begun k (view (sizes op) s.words (used_in s)) (calls u).changed
                    (local_of s u) i.present x.at;
              }))
        ];
      }
    where
      same_used : (u : ℕ) → used_in (after T s (Begin t call)) u ≡ used_in s u
      same_used u = elim (same_or_not u t) [
        | inl y ↦ (subst (λ z. used_in (after T s (Begin t call)) z ≡ used_in s z) (sym y)
            (ap (λ (l : Local). l.used) (put_same s t (T.begin call (local_of s t)) en.0) ∙ (d.begun call (local_of s t)).used))
        | inr y ↦ ap (λ (l : Local). l.used) (put_other s t u (T.begin call (local_of s t)) y)
      ]

  moves : (k : ℕ) (s : State) (calls : ℕ → LastCall) (t : ℕ) → Inv marks At (sizes op) vs k s calls → Enabled s (Go t)
      → StepOf T marks At (sizes op) t vs (λ u. (calls u).begun) k s.words (used_in s) (λ u. (calls u).changed) (local_of s)
  moves k s calls t i en = d.goes (sizes op) t vs (λ u. (calls u).begun) k s.words (used_in s) (λ u. (calls u).changed)
      (local_of s)
      (record { limits = lim.within; memory = i.memory; course = i.course; present = i.present }) i.threads (rw i.locals at en.0)
      en.1

  -- Lemmas about the state after a step of thread `t`.
  module _ (k : ℕ) (s : State) (calls : ℕ → LastCall) (t : ℕ) (i : Inv marks At (sizes op) vs k s calls)
      (en : Enabled s (Go t))
      (m : StepOf T marks At (sizes op) t vs (λ u. (calls u).begun) k s.words (used_in s) (λ u. (calls u).changed)
      (local_of s)) where
    th : t < op.threads
    th = rw i.locals at en.0

    sees : seen_next T s t ≡ seen_by s.words m.action
    sees = ap (λ a. seen_by s.words a) m.acts

    fed : T.feed (local_of s t) (seen_next T s t) ≡ record { local = m.local'; answer = m.answer }
    fed = ap (λ x. T.feed (local_of s t) x) sees ∙ m.feeds

    told_is : T.effect (local_of s t) (seen_next T s t) ≡ m.effect
    told_is = ap (λ x. T.effect (local_of s t) x) sees ∙ m.tells

    words_are : (after T s (Go t)).words ≡ m.words'
    words_are = ap (λ a. left_by s.words a) m.acts
        ∙ left_is marks (sizes op) s.words (used_in s) i.memory t th m.action m.words' m.used' m.effect m.change

    local_is : local_of (after T s (Go t)) t ≡ m.local'
    local_is = put_same s t (T.feed (local_of s t) (seen_next T s t)).local en.0 ∙ ap (λ f. f.local) fed

    local_other : (u : ℕ) → u ≢ t → local_of (after T s (Go t)) u ≡ local_of s u
    local_other u y = put_other s t u (T.feed (local_of s t) (seen_next T s t)).local y

    used_at : (u : ℕ) → used_in (after T s (Go t)) u ≡ m.used' u
    used_at u = elim (same_or_not u t) [
      | inl y ↦ subst (λ z. used_in (after T s (Go t)) z ≡ m.used' z) (sym y) (ap (λ (l : Local). l.used) local_is ∙ m.counts)
      | inr y ↦ ap (λ (l : Local). l.used) (local_other u y)
          ∙ sym (others_counted marks _ s.words _ i.memory t th u y m.action m.words' m.used' m.effect m.change)
    ]

    used_is : used_in (after T s (Go t)) ≡ m.used'
    used_is = λ j u. used_at u j

    view_is : view_of (sizes op) (after T s (Go t)) ≡ view (sizes op) m.words' m.used'
    view_is = ap (λ x. view (sizes op) x (used_in (after T s (Go t)))) words_are ∙ ap (λ f. view (sizes op) m.words' f) used_is

    memory' : Memory marks (sizes op) m.words' m.used'
    memory' = memory_after marks (sizes op) s.words (used_in s) i.memory t th m.action m.words' m.used' m.effect m.change

    move' : Move marks (view_of (sizes op) s) (view (sizes op) m.words' m.used') m.effect
    move' = moved marks (sizes op) s.words (used_in s) i.memory t th m.action m.words' m.used' m.effect m.change

    go_step : vs (suc k) ≡ view_of (sizes op) (after T s (Go t))
        → Inv marks At (sizes op) vs (suc k) (after T s (Go t))
        (λ u. if t == u then last_after (suc k) (entry_of T s (Go t)) (calls u) else calls u)
    go_step e =
        let next : ℕ → LastCall = λ u. if t == u then last_after (suc k) (entry_of T s (Go t)) (calls u) else calls u in
        let now_is : vs (suc k) ≡ view (sizes op) m.words' m.used' = e ∙ view_is in
        let g : KeepsNodes (view_of (sizes op) s) (view (sizes op) m.words' m.used') =
        goes_on marks (sizes op) s.words (used_in s) i.memory t th m.action m.words' m.used' m.effect m.change in
        record {
          memory = subst (λ x. Memory marks (sizes op) x (used_in (after T s (Go t)))) (sym words_are)
              (subst (λ f. Memory marks (sizes op) m.words' f) (sym used_is) memory');
          locals = length-set s.locals t (T.feed (local_of s t) (seen_next T s t)).local ∙ i.locals;
          course = course_more vs k i.course (subst (λ x. KeepsNodes x (vs (suc k))) (sym i.present)
              (subst (λ x. KeepsNodes (view_of (sizes op) s) x) (sym now_is) g))
              (subst (λ x. KeepsMarked x (vs (suc k))) (sym i.present)
              (subst (λ x. KeepsMarked (view_of (sizes op) s) x) (sym now_is)
              (marked_stays marks (view_of (sizes op) s) (view (sizes op) m.words' m.used') i.memory.ordered m.effect move')))
              (subst (λ x. IsOrdered x) (sym now_is) memory'.ordered);
          present = e;
          threads = λ u h. elim (same_or_not u t) [
            | inl y ↦ (let x = i.threads t th in
                let at_t : Thread At (sizes op) t vs (calls t).begun (suc k) m.words' m.used'
                ((calls t).changed || is_change m.effect) m.local' = record {
                  registers = m.registers;
                  counts = m.counts;
                  begun = (let b : (calls t).begun ≤ k = x.begun in omega arith);
                  at = m.own;
                } in
                let own : next t ≡ last_after (suc k) (entry_of T s (Go t)) (calls t) =
                pick_yes (t == t) _ _ (equal_test t t refl) in
                subst (λ z. Thread At (sizes op) z vs (next z).begun (suc k) (after T s (Go t)).words
                (used_in (after T s (Go t))) (next z).changed (local_of (after T s (Go t)) z)) (sym y)
                (thread_to t (suc k) words_are used_is (ap (λ (c : LastCall). c.begun) own)
                (ap (λ (c : LastCall). c.changed) own ∙ ap (λ c. (calls t).changed || is_change c) told_is) local_is at_t))
            | inr y ↦ (let x = i.threads u h in
                let c : m.used' u ≡ used_in s u = others_counted marks (sizes op) s.words (used_in s) i.memory t th u y
                m.action m.words' m.used' m.effect m.change in
                let same : next u ≡ calls u = pick_not (t == u) _ _ (unequal_test t u (λ z. y (sym z))) in
                thread_to u (suc k) words_are used_is (ap (λ (c : LastCall). c.begun) same)
                (ap (λ (c : LastCall). c.changed) same) (local_other u y) (record {
                  registers = x.registers;
                  counts = x.counts ∙ sym c;
                  begun = (let b : (calls u).begun ≤ k = x.begun in omega arith);
                  at = m.others u h y;
                }))
          ];
        }

    pub stepped_by : (es : ℕ → Event) → vs ≡ views T op es → state_at T op es k ≡ s → es k ≡ Go t
        → calls t ≡ last_at (log_of T op es) t k
        → StepLaws T op es k t s (local_of s t) (T.effect (local_of s t) (seen_next T s t))
    stepped_by es ve se ee ce =
        let now_is : views T op es (suc k) ≡ view (sizes op) m.words' m.used' = ap (λ z. view_of (sizes op) (after T z (es k))) se
        ∙ ap (λ z. view_of (sizes op) (after T s z)) ee ∙ view_is in
        let was : views T op es k ≡ view_of (sizes op) s = ap (λ z. view_of (sizes op) z) se in
        let own : last_at (log_of T op es) t (suc k) ≡ last_after (suc k) (entry_of T s (Go t)) (calls t) =
        last_own (log_of T op es) t k (ap (λ z. entry_of T z (es k)) se ∙ ap (λ z. entry_of T s z) ee) refl
        ∙ ap (λ c. last_after (suc k) (entry_of T s (Go t)) c) (sym ce) in
        let first_is : begun_at (log_of T op es) t (suc k) ≡ (calls t).begun = ap (λ (c : LastCall). c.begun) own in
        let done_is : has_changed (log_of T op es) t (suc k) ≡ ((calls t).changed || is_change m.effect) =
        ap (λ (c : LastCall). c.changed) own ∙ ap (λ c. (calls t).changed || is_change c) told_is in
        record {
          in_table = rw m.acts (named_in marks _ s.words _ i.memory t th m.action m.words' m.used' m.effect m.change);
          lock_use = rw m.acts (lock_use marks _ s.words _ i.memory t th m.action m.words' m.used' m.effect m.change);
          same_call = ap (λ f. f.local.call) fed ∙ m.same_call;
          content = subst (λ c. Changed c (views T op es k) (views T op es (suc k))) (sym told_is)
              (subst (λ v. Changed m.effect v (views T op es (suc k))) (sym was)
              (subst (λ v. Changed m.effect (view_of (sizes op) s) v) (sym now_is)
              (move-changed marks _ _ i.memory.ordered m.effect move')));
          by_call = subst (λ c. MayChange op.quota (local_of s t).used (local_of s t).call
              (has_changed (log_of T op es) t k) c) (sym told_is)
              (subst (λ b. MayChange op.quota (local_of s t).used (local_of s t).call b m.effect)
              (ap (λ (c : LastCall). c.changed) ce) m.by_call);
          counts = ap (λ f. f.local.used) fed ∙ m.counts
              ∙ mine_counted marks _ s.words _ i.memory t th m.action m.words' m.used' m.effect m.change
              ∙ ap (λ c. count_after c (used_in s t)) (sym told_is);
          answered = subst (λ f. Answered (has_changed (log_of T op es) t (suc k)) op.quota (views T op es)
              (begun_at (log_of T op es) t (suc k)) (suc k) t (local_of s t).call f.local.pc f.answer) (sym fed)
              (subst (λ b. Answered b op.quota (views T op es) (begun_at (log_of T op es) t (suc k)) (suc k) t
              (local_of s t).call m.local'.pc m.answer) (sym done_is)
              (subst (λ b. Answered ((calls t).changed || is_change m.effect) op.quota (views T op es) b (suc k) t (local_of s t).call
              m.local'.pc m.answer) (sym first_is)
              (subst (λ w. Answered ((calls t).changed || is_change m.effect) op.quota w (calls t).begun (suc k) t (local_of s t).call
              m.local'.pc m.answer) ve
              (answered_on ((calls t).changed || is_change m.effect) op.quota vs (calls t).begun k t _ m.local'.pc m.answer m.answered))));
        }

-- Proof that the invariant of a run implies the law of the machine (the list algorithm as a table of steps).
module _ (T : Table) (marks : Bool) (At : Outline) (d : Discipline T marks At) (op : Opening) (es : ℕ → Event) (last : ℕ)
    (r : Run T op es last) where
  next_inv : (k : ℕ) (e : Event) → es k ≡ e → Enabled (state_at T op es k) e
      → Inv marks At (sizes op) (views T op es) k (state_at T op es k) (λ u. last_at (log_of T op es) u k)
      → Inv marks At (sizes op) (views T op es) (suc k) (after T (state_at T op es k) e)
      (λ u. if maker (entry_of T (state_at T op es k) e) == u
      then last_after (suc k) (entry_of T (state_at T op es k) e) (last_at (log_of T op es) u k)
      else last_at (log_of T op es) u k)
  next_inv k (Begin t call) ee en i = begin_step T marks At d op r.opens (views T op es) k (state_at T op es k)
      (λ u. last_at (log_of T op es) u k) t call i en
      (ap (λ z. view_of (sizes op) (after T (state_at T op es k) z)) ee)
  next_inv k (Go t) ee en i = go_step T marks At d op r.opens (views T op es) k (state_at T op es k)
      (λ u. last_at (log_of T op es) u k) t i en
      (moves T marks At d op r.opens (views T op es) k (state_at T op es k) (λ u. last_at (log_of T op es) u k) t i en)
      (ap (λ z. view_of (sizes op) (after T (state_at T op es k) z)) ee)

  pub inv_at : (k : ℕ) → k ≤ last
      → Inv marks At (sizes op) (views T op es) k (state_at T op es k) (λ u. last_at (log_of T op es) u k)
  inv_at zero l = opens T marks At d op r.opens (views T op es) (log_of T op es) refl
  inv_at (suc k) l = next_inv k (es k) refl (r.enabled k (omega arith)) (inv_at k (omega arith))

  in_order_at : (k : ℕ) → k ≤ last → StateLaws marks (sizes op) (state_at T op es k)
  in_order_at k l =
      let i : Inv marks At (sizes op) (views T op es) k (state_at T op es k) (λ u. last_at (log_of T op es) u k) = inv_at k l in
      record {
        words = i.memory.words;
        locals = i.locals;
        threads = λ t h. (i.threads t h).registers;
        ordered = i.memory.ordered;
        head_key = i.memory.head_key;
        tail_key = i.memory.tail_key;
        inside = λ j p. inside marks (sizes op) (state_at T op es k).words (used_in (state_at T op es k)) i.memory j p;
        marked = i.memory.marked;
        unmarked = i.memory.unmarked;
      }

  stepped_at : (k t : ℕ) → k < last → es k ≡ Go t → StepAt T op es k t
  stepped_at k t l ee =
      let i : Inv marks At (sizes op) (views T op es) k (state_at T op es k) (λ u. last_at (log_of T op es) u k) = inv_at k (omega arith) in
      let en : Enabled (state_at T op es k) (Go t) = subst (λ z. Enabled (state_at T op es k) z) ee (r.enabled k l) in
      stepped_by T marks At d op r.opens (views T op es) k (state_at T op es k)
      (λ u. last_at (log_of T op es) u k) t i en
      (moves T marks At d op r.opens (views T op es) k (state_at T op es k) (λ u. last_at (log_of T op es) u k) t i en) es refl refl ee refl

  keeps_marks : (k : ℕ) → k < last → (e : Event) → es k ≡ e → (b : ℕ) → (views T op es k).published b
      → (views T op es k).link b % 2 ≡ 1
      → (view_of (sizes op) (after T (state_at T op es k) e)).link b ≡ (views T op es k).link b
  keeps_marks k l (Begin t call) ee b p o = refl
  keeps_marks k l (Go t) ee b p o =
      let i : Inv marks At (sizes op) (views T op es) k (state_at T op es k) (λ u. last_at (log_of T op es) u k) = inv_at k (omega arith) in
      let en : Enabled (state_at T op es k) (Go t) = subst (λ z. Enabled (state_at T op es k) z) ee (r.enabled k l) in
      let m : StepOf T marks At (sizes op) t (views T op es) (λ u. begun_at (log_of T op es) u k) k
      (state_at T op es k).words (used_in (state_at T op es k)) (λ u. has_changed (log_of T op es) u k)
      (local_of (state_at T op es k)) = moves T marks At d op r.opens _ k _ (λ u. last_at (log_of T op es) u k) t i en in
      let w : (after T (state_at T op es k) (Go t)).words ≡ m.words' = words_are T marks At d op r.opens _ k _
      (λ u. last_at (log_of T op es) u k) t i en m in
      ap (λ x. node_link x b) w ∙ marked_stays marks _ _ i.memory.ordered m.effect
      (move' T marks At d op r.opens _ k _ (λ u. last_at (log_of T op es) u k) t i en m) b p o

  later_by : (j i c k : ℕ) → k ≡ j + c → k ≤ last → (views T op es j).published i
      → UnlinkedStays marks (views T op es j) (views T op es k) i
  later_by j i zero k e l m = let f : j ≡ k = omega arith in
      subst (λ z. UnlinkedStays marks (views T op es j) (views T op es z) i) f (later_same marks (views T op es j) i m)
  later_by j i (suc c) k e l m =
      let h : UnlinkedStays marks (views T op es j) (views T op es (j + c)) i = later_by j i c (j + c) refl (omega arith) m in
      let f : suc (j + c) ≡ k = omega arith in
      let g : j + c + 1 ≡ suc (j + c) = omega arith in
      let co : Course (views T op es) last = (inv_at last (omega arith)).course in
      subst (λ z. UnlinkedStays marks (views T op es j) (views T op es z) i) f (later_more marks _ _ _ i
      (subst (λ z. KeepsNodes (views T op es (j + c)) (views T op es z)) g (co.goes (j + c) (omega arith)))
      (λ b p o. keeps_marks (j + c) (omega arith) (es (j + c)) refl b p o) h)

pub lawful_of : (T : Table) (At : Outline) → Discipline T T.marks At → Lawful T
lawful_of T At d = record {
  begins = d.begun;
  states = λ op last k es r l. in_order_at T T.marks At d op es last r k l;
  steps = λ op last k t es r l e. stepped_at T T.marks At d op es last r k t l e;
  unlinked_stays = λ op last j k i es r a l m. later_by T T.marks At d op es last r j i (k - j) k (omega arith) l m;
  seen_before = λ op last j k b es r a l c. hindsight _ last j k b (inv_at T T.marks At d op es last r last (omega arith)).course l
      (record { at = j; from = omega arith; upto = a; in_chain = c });
}
