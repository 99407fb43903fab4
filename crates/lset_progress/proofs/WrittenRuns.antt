-- Proofs about explicit runs, which consist of some events from the opening state and then a loop of events that
-- repeats forever. Properties of explicit runs can be computed.
use Rattle.std.specs.Prelude.{◌≡◌, ℕ, ◌+◌, ◌*◌, ◌<◌, ◌≤◌, ◌==◌, ◌&&◌, nat_lt, not, is_some, Bool, true, false, Some, List}
use Rattle.std.specs.Prelude.{[], ◌∷◌, length, refl}
use Rattle.std.proofs.Common.{arith, inl, inr, sym, ◌∙◌, ap, subst, zero, suc}
use Rattle.lset_words.proofs.Numbers.{same_number, lower_number}
use Rattle.lset_words.proofs.Bounds.{opens_empty}
use Rattle.lset_words.specs.declared.Call.{Call}
use Rattle.lset_words.specs.declared.Reply.{Reply}
use Rattle.lset_words.specs.Words.{Opening, Sizes, empty, sizes, target, tail_word}
use Rattle.lset_steps.specs.declared.Event.{Event}
use Rattle.lset_steps.specs.declared.Event.TheVariants.{Begin, Go}
use Rattle.lset_steps.specs.Steps.{Table, State, Run, Enabled, opening, state_at, after, told, local_of}
use Rattle.lset_progress.specs.DeadlockFreedom.{IsFair, IsDeadlockFree, moves}
use Rattle.lset_progress.specs.Progress.{IsPending, SomeEnds, EndsAmong, EndsAlone, steps_among}

both : (a b : Bool) → (a && b) ≡ true → (a ≡ true) × (b ≡ true)
both true b e = (refl, e)
both false b e = absurd cc

-- The opening state of the explicit runs: no keys, and two threads with two slots each (nodes reserved for adds).
abbrev pub op : Opening
op = empty 2 2

-- A test of a state and the next event: for example, whether the event is enabled, ends no call, or is counted.
abbrev pub Test : Type 0
Test = State → Event → Bool

abbrev pub can : Test
can s (Begin t call) = nat_lt t (length s.locals) && (((local_of s t).pc == 0) && nat_lt (target call) tail_word)
can s (Go t) = nat_lt t (length s.locals) && nat_lt 0 (local_of s t).pc

abbrev pub is_silent : Table → Test
is_silent T s e = not (is_some (told T s e).answer)

abbrev pub is_one : (State → Event → ℕ) → Test
is_one count s e = count s e == 1

enabled : (s : State) (e : Event) → can s e ≡ true → Enabled s e
enabled s (Begin t call) h =
    let x = both (nat_lt t (length s.locals)) (((local_of s t).pc == 0) && nat_lt (target call) tail_word) h in
    let y = both ((local_of s t).pc == 0) (nat_lt (target call) tail_word) x.1 in
    (lower_number t (length s.locals) x.0, same_number (local_of s t).pc 0 y.0, lower_number (target call) tail_word y.1)
enabled s (Go t) h =
    let x = both (nat_lt t (length s.locals)) (nat_lt 0 (local_of s t).pc) h in
    let busy : 0 < (local_of s t).pc = lower_number 0 (local_of s t).pc x.1 in
    (lower_number t (length s.locals) x.0, λ z. omega arith)

replies : (T : Table) (s : State) (e : Event) (r : Reply) → is_silent T s e ≡ true → (told T s e).answer ≡ Some r → ⊥
replies T s e r h is = let z : false ≡ true = sym (ap (λ o. not (is_some o)) is) ∙ h in cc

abbrev pub state_after : Table → State → List Event → State
state_after T s [] = s
state_after T s (e ∷ es) = state_after T (after T s e) es

abbrev pub all_so : Test → Table → State → List Event → Bool
all_so test T s [] = true
all_so test T s (e ∷ es) = test s e && all_so test T (after T s e) es

-- Returns event number j of a run that begins with the events of the third argument, and then repeats the events `e`
-- and `es` forever.
abbrev pub turn : Event → List Event → List Event → ℕ → Event
turn e es [] zero = e
turn e es [] (suc j) = turn e es es j
turn e es (x ∷ r) zero = x
turn e es (x ∷ r) (suc j) = turn e es r j

abbrev state_in : Table → Event → List Event → State → List Event → ℕ → State
state_in T e es s r zero = s
state_in T e es s [] (suc j) = state_in T e es (after T s e) es j
state_in T e es s (x ∷ r) (suc j) = state_in T e es (after T s x) r j

module _ (T : Table) (e : Event) (es : List Event) where
  leads_on : (r : List Event) (s : State) (j : ℕ) → state_in T e es s r (suc j) ≡ after T (state_in T e es s r j) (turn e es r j)
  leads_on [] s zero = refl
  leads_on [] s (suc j) = leads_on es (after T s e) j
  leads_on (x ∷ r) s zero = refl
  leads_on (x ∷ r) s (suc j) = leads_on r (after T s x) j

  comes_to : (r : List Event) (s : State) → state_in T e es s r (length r) ≡ state_after T s r
  comes_to [] s = refl
  comes_to (x ∷ r) s = comes_to r (after T s x)

  at_first : (test : Test) (r : List Event) (s : State) → all_so test T s r ≡ true → (j : ℕ) → j < length r
      → test (state_in T e es s r j) (turn e es r j) ≡ true
  at_first test [] s so j l = absurd (omega arith)
  at_first test (x ∷ r) s so zero l = (both (test s x) (all_so test T (after T s x) r) so).0
  at_first test (x ∷ r) s so (suc j) l = at_first test r _ (both (test s x) (all_so test T _ r) so).1 j (omega arith)

  -- Lemmas: if the events that repeat forever lead back to the state before them, and the test succeeds once for each
  -- repeated event, then the test always succeeds.
  module _ (test : Test) (S0 : State) (round_so : all_so test T S0 (e ∷ es) ≡ true) (back : state_after T S0 (e ∷ es) ≡ S0) where
    split : (test S0 e ≡ true) × (all_so test T (after T S0 e) es ≡ true)
    split = both (test S0 e) (all_so test T (after T S0 e) es) round_so

    in_round : (r : List Event) (s : State) → all_so test T s r ≡ true → state_after T s r ≡ S0 → (j : ℕ)
        → test (state_in T e es s r j) (turn e es r j) ≡ true
    in_round [] s so is zero = subst (λ z. test z e ≡ true) (sym is) split.0
    in_round [] s so is (suc j) = in_round es (after T s e) (subst (λ z. all_so test T (after T z e) es ≡ true) (sym is) split.1)
        (subst (λ z. state_after T (after T z e) es ≡ S0) (sym is) back) j
    in_round (x ∷ r) s so is zero = (both (test s x) (all_so test T (after T s x) r) so).0
    in_round (x ∷ r) s so is (suc j) =
        in_round r (after T s x) (both (test s x) (all_so test T (after T s x) r) so).1 is j

    behind : (r : List Event) (s : State) → state_after T s r ≡ S0 → (j : ℕ) → length r ≤ j
        → test (state_in T e es s r j) (turn e es r j) ≡ true
    behind [] s is j l = in_round [] s refl is j
    behind (x ∷ r) s is zero l = absurd (omega arith)
    behind (x ∷ r) s is (suc j) l = behind r (after T s x) is j (omega arith)

  pass : (r : List Event) (j : ℕ) → turn e es r (length r + j) ≡ turn e es [] j
  pass [] j = ap (turn e es []) (omega arith)
  pass (x ∷ r) j =
      let far : length (x ∷ r) + j ≡ suc (length r + j) = omega arith in
      ap (turn e es (x ∷ r)) far ∙ pass r j

  comes_again : (i d : ℕ) → turn e es [] (i * suc (length es) + d) ≡ turn e es [] d
  comes_again zero d = ap (turn e es []) (omega arith)
  comes_again (suc i) d =
      let far : suc i * suc (length es) + d ≡ suc (length es + (i * suc (length es) + d)) = grind arith in
      ap (turn e es []) far ∙ pass es (i * suc (length es) + d) ∙ comes_again i d

module _ (T : Table) (events : List Event) (e : Event) (es : List Event) (led : all_so can T (opening op) events ≡ true) where
  abbrev m : ℕ
  m = length events

  abbrev S0 : State
  S0 = state_after T (opening op) events

  abbrev pub run : ℕ → Event
  run = turn e es events

  is_at : (k : ℕ) → state_at T op run k ≡ state_in T e es (opening op) events k
  is_at zero = refl
  is_at (suc k) = ap (λ s. after T s (run k)) (is_at k) ∙ sym (leads_on T e es events (opening op) k)

  pub is_after : state_at T op run m ≡ S0
  is_after = is_at m ∙ comes_to T e es events (opening op)

  run_by : (n : ℕ) → ((j : ℕ) → j < n → can (state_in T e es (opening op) events j) (run j) ≡ true) → Run T op run n
  run_by n so = record {
    opens = opens_empty 2 2 (record { some = omega arith; few = omega arith; small = omega arith; opens = omega arith });
    enabled = λ j l. enabled (state_at T op run j) (run j) (subst (λ s. can s (run j) ≡ true) (sym (is_at j)) (so j l));
  }

  pub is_run : Run T op run m
  is_run = run_by m (λ j l. at_first T e es can events (opening op) led j l)

  module _ (can_go : all_so can T S0 (e ∷ es) ≡ true) (silent : all_so (is_silent T) T S0 (e ∷ es) ≡ true)
      (back : state_after T S0 (e ∷ es) ≡ S0) where
    runs_on : (n : ℕ) → Run T op run n
    runs_on n = run_by n (λ j l. in_round T e es can S0 can_go back events (opening op) led refl j)

    no_reply : (j : ℕ) (r : Reply) → m ≤ j → (told T (state_at T op run j) (run j)).answer ≡ Some r → ⊥
    no_reply j r l = replies T (state_at T op run j) (run j) r (subst (λ s. is_silent T s (run j) ≡ true) (sym (is_at j))
        (behind T e es (is_silent T) S0 silent back events (opening op) refl j l))

    -- Lemmas: if each event that repeats forever is a counted step that ends no call, then no number of counted steps
    -- is enough for a call to end.
    module _ (count : State → Event → ℕ) (counts : all_so (is_one count) T S0 (e ∷ es) ≡ true) where
      all_count : (n k : ℕ) → m ≤ k → steps_among count T op run k n ≡ n
      all_count zero k l = refl
      all_count (suc n) k l =
          let here : count (state_at T op run k) (run k) ≡ 1 = same_number (count (state_at T op run k) (run k)) 1
          (subst (λ s. is_one count s (run k) ≡ true) (sym (is_at k))
          (behind T e es (is_one count) S0 counts back events (opening op) refl k l)) in
          let rest : steps_among count T op run (suc k) n ≡ n = all_count n (suc k) (omega arith) in
          omega arith

      pub rounds_never_end : (most : Sizes → ℕ) → EndsAmong count T most → ⊥
      rounds_never_end most law =
          let all : steps_among count T op run m (most (sizes op)) ≡ most (sizes op) = all_count (most _) m (omega arith) in
          let x : SomeEnds count T op run m (most (sizes op)) = law op m (most _) run (runs_on (m + most _)) (omega arith) in
          no_reply x.at x.ends.0 x.from (ap (λ z. (told T (state_at T op run x.at) z).answer) x.own ∙ x.ends.1)

    -- Lemmas: if each thread takes at least one of the steps that repeat forever, the run is fair, and the list is not
    -- free from deadlock.
    module _ (calls : Call → ℕ) (turns : (t : ℕ) → t < 2 → (d : ℕ) × (turn e es [] d ≡ Go t)) where
      is_fair : IsFair T op run
      is_fair = record {
        run = runs_on;
        goes_on = λ k t tn busy.
            let x = turns t tn in
            let far : k ≤ k * suc (length es) = grind arith in (
              m + (k * suc (length es) + x.0),
              omega arith,
              pass T e es events (k * suc (length es) + x.0) ∙ comes_again T e es k x.0 ∙ x.1,
            );
      }

      pub rounds_are_fair : IsPending S0 0 → calls (local_of S0 0).call ≡ 1 → IsDeadlockFree calls T → ⊥
      rounds_are_fair busy one law =
          let x = law op m 0 run is_fair (omega arith) (subst (λ s. IsPending s 0) (sym is_after) busy)
          (subst (λ s. calls (local_of s 0).call ≡ 1) (sym is_after) one) in
          let y : SomeEnds (moves calls T) T op run m x.0 = x.1 in
          no_reply y.at y.ends.0 y.from (ap (λ z. (told T (state_at T op run y.at) z).answer) y.own ∙ y.ends.1)

-- Returns the state after n steps by thread t alone.
abbrev pub alone : Table → ℕ → State → ℕ → State
alone T t s zero = s
alone T t s (suc n) = alone T t (after T s (Go t)) n

abbrev pub silent_alone : Table → ℕ → State → ℕ → Bool
silent_alone T t s zero = true
silent_alone T t s (suc n) = is_silent T s (Go t) && silent_alone T t (after T s (Go t)) n

-- Lemmas: if some steps by thread t alone end no call and lead back to the state before them, the call never ends.
module _ (T : Table) (t : ℕ) (S0 : State) (p : ℕ) (silent : silent_alone T t S0 (suc p) ≡ true)
    (back : alone T t S0 (suc p) ≡ S0) where
  never_by : (r : ℕ) (s : State) → silent_alone T t s r ≡ true → alone T t s r ≡ S0 → (n : ℕ) → EndsAlone T s t n → ⊥
  never_by r s so is zero e = e
  never_by zero s so is (suc n) e =
      let e' : EndsAlone T S0 t (suc n) = subst (λ z. EndsAlone T z t (suc n)) is e in
      let x = both (is_silent T S0 (Go t)) (silent_alone T t (after T S0 (Go t)) p) silent in
      elim e'.1 [
        | inl a ↦ replies T S0 (Go t) a.0 x.0 a.1
        | inr g ↦ never_by p (after T S0 (Go t)) x.1 back n g
      ]
  never_by (suc r) s so is (suc n) e =
      let x = both (is_silent T s (Go t)) (silent_alone T t (after T s (Go t)) r) so in
      elim e.1 [
        | inl a ↦ replies T s (Go t) a.0 x.0 a.1
        | inr g ↦ never_by r (after T s (Go t)) x.1 is n g
      ]

  pub never_ends_alone : (n : ℕ) → EndsAlone T S0 t n → ⊥
  never_ends_alone n = never_by 0 S0 refl refl n
