-- The proof obligations for each row of the step table of a list with locks: which locks the thread can hold after the
-- row, and how many steps of the call remain. `ProgressWithLocks` proves the laws of progress from the proof
-- obligations.
use Rattle.std.specs.Prelude.{◌≡◌, ◌≢◌, ℕ, ◌+◌, ◌-◌, ◌/◌, ◌<◌, ◌≤◌, ◌⊎◌, ◌&&◌, nat_le, nat_lt, Bool, true, false, MatchBool}
use Rattle.std.specs.Prelude.{Some, None, List, slice_index, slice_set}
use Rattle.std.proofs.Common.{arith, inl, inr, subst, sym, ap, suc, refl}
use Rattle.lset_words.proofs.Numbers.{lower_number}
use Rattle.lset_words.specs.declared.Reply.{Reply}
use Rattle.lset_words.specs.Words.{lock_index, word_count, Sizes}
use Rattle.lset_steps.specs.declared.Action.{Action}
use Rattle.lset_steps.specs.declared.Action.TheVariants.{Load, Store, Exchange}
use Rattle.lset_steps.specs.declared.Fed.{Fed}
use Rattle.lset_steps.specs.declared.Local.{Local}
use Rattle.lset_steps.specs.Steps.{Table}
use Rattle.lset_steps.specs.Chain.{node_key, node_link}
use Rattle.lset_steps.specs.Laws.{IsLockWord}
use Rattle.lset_progress.proofs.Rest.{rest}

pub at_row : (P : Local → Type 0) (l : Local) (n : ℕ) → l.pc ≡ n → P (record l { pc = n }) → P l
at_row P l n e x = subst (λ p. P (record l { pc = p })) (sym e) x

abbrev pub within : ℕ → ℕ → ℕ → Bool
within a b n = nat_le a n && nat_le n b

abbrev pub When : Bool → Type 0 → Type 0
When b A = MatchBool b A (Unit {0})

abbrev pub Only : Bool → Type 0
Only b = MatchBool b (Unit {0}) ⊥

-- Holds if x is a lock that a thread with the private state l can hold: the lock of `pred` at the rows of the step
-- table that satisfy P, or the lock of `curr` at the rows that satisfy C.
abbrev pub NodeLocks : (ℕ → Bool) → (ℕ → Bool) → Local → ℕ → Type 0
NodeLocks P C l x = ((x ≡ lock_index l.pred) × Only (P l.pc)) ⊎ ((x ≡ lock_index l.curr) × Only (C l.pc))

pub no_lock : {A B C : Type 0} → (A × ⊥) ⊎ (B × ⊥) → C
no_lock (inl p) = absurd p.1
no_lock (inr c) = absurd c.1

pub pred_only : {A B C : Type 0} → A ⊎ (B × ⊥) → A ⊎ C
pred_only (inl p) = inl p
pred_only (inr c) = absurd c.1

pub gave_pred : {A B C : Type 0} {x w : ℕ} → x ≢ w → ((x ≡ w) × A) ⊎ B → C ⊎ B
gave_pred d (inl p) = absurd (d p.0)
gave_pred d (inr c) = inr c

pub gave_curr : {A B C : Type 0} {x w : ℕ} → x ≢ w → A ⊎ ((x ≡ w) × B) → A ⊎ C
gave_curr d (inl p) = inl p
gave_curr d (inr c) = absurd (d c.0)

-- Returns the rank of a lock: the number of nodes with greater keys than the lock's node. Threads take locks in the
-- order of decreasing rank.
abbrev pub rank : ℕ → List ℕ → ℕ → ℕ
rank size ws w = rest size ws (w / 3 - 1)

ranked : (size : ℕ) (ws : List ℕ) (a b x : ℕ) → x ≡ lock_index b → rest size ws a < rest size ws b
    → rank size ws (lock_index a) < rank size ws x
ranked size ws a b x e less =
    let here : lock_index a / 3 - 1 ≡ a = omega arith in
    let there : x / 3 - 1 ≡ b = omega arith in
    subst (λ i. rest size ws i < rank size ws x) (sym here) (subst (λ i. rest size ws a < rest size ws i) (sym there) less)

pub after_pred : {A : Type 0} (size : ℕ) (ws : List ℕ) (curr pred x : ℕ) → rest size ws curr < rest size ws pred
    → ((x ≡ lock_index pred) × Unit {0}) ⊎ (A × ⊥) → rank size ws (lock_index curr) < rank size ws x
after_pred size ws curr pred x less (inl p) = ranked size ws curr pred x p.0 less
after_pred size ws curr pred x less (inr c) = absurd c.1

-- Describes a list for the proofs of progress that all lists share:
-- - `may`: the locks that a thread can hold;
-- - `late`: the call has decided what to change, and locks no more nodes;
-- - `calm`: a condition on the shared words for the thread's next step;
-- - `valid`: the links let the walk succeed;
-- - `left`: how many steps of a successful walk remain after the next step;
-- - `round`: the number of steps of an additional walk.
pub record Shape : Type 1 where
  pub may : Local → ℕ → Type 0
  pub late : Local → Type 0
  pub calm : List ℕ → Local → Type 0
  pub valid : (ℕ → ℕ) → Local → Type 0
  pub left : ℕ → (ℕ → ℕ) → Local → ℕ
  pub round : ℕ → ℕ

-- Holds if the call has decided what to change, and at most n of its steps remain, whatever the words are.
abbrev pub LateBy : Shape → ℕ → Local → Type 0
LateBy S n l = S.late l × (S.left 0 (λ a. 0) l < n)

abbrev pub Any : ℕ → Type 0
Any x = Unit {0}

module _ (S : Shape) (size : ℕ) where
  -- Holds if n steps are enough for the call to end: enough for the rest of a walk that will succeed, or for the rest
  -- of any walk plus one additional walk.
  abbrev pub TimedBy : (ℕ → ℕ) → (ℕ → ℕ) → ℕ → Local → Type 0
  TimedBy key link n l = (S.valid link l × (S.left size key l < n)) ⊎ (S.left size key l + S.round size < n)

  abbrev pub Timed : List ℕ → ℕ → Local → Type 0
  Timed ws n l = TimedBy (node_key ws) (node_link ws) n l

  pub timed_same : (ws ws' : List ℕ) (n : ℕ) (l : Local) → node_key ws' ≡ node_key ws → node_link ws' ≡ node_link ws
      → Timed ws n l → Timed ws' n l
  timed_same ws ws' n l keys links h = subst (λ k. TimedBy k (node_link ws') n l) (sym keys)
      (subst (λ f. TimedBy (node_key ws) f n l) (sym links) h)

  pub timed_more : (key link : ℕ → ℕ) (l : Local) (n m : ℕ) → n ≤ m → TimedBy key link n l → TimedBy key link m l
  timed_more key link l n m le (inl v) = let h : S.left size key l < n = v.1 in inl (v.0, omega arith)
  timed_more key link l n m le (inr h) = inr (omega arith)

  pub no_time : (key link : ℕ → ℕ) (l : Local) → TimedBy key link 0 l → ⊥
  no_time key link l (inl v) = let h : S.left size key l < 0 = v.1 in omega arith
  no_time key link l (inr h) = omega arith

  -- Holds if a step from the private state l to l' does not end its call, but leaves the call with fewer remaining
  -- steps: if n + 1 further steps were enough before the step, n further steps are enough after the step.
  pub record Goes (key : ℕ → ℕ) (ws : List ℕ) (l : Local) (key' : ℕ → ℕ) (ws' : List ℕ) (l' : Local) : Type 0 where
    pub busy : l'.pc ≢ 0
    pub late : S.late l → LateBy S (S.left 0 (λ a. 0) l) l'
    pub near : S.calm ws l → (n : ℕ) → TimedBy key (node_link ws) (suc n) l → TimedBy key' (node_link ws') n l'

  -- Holds if a step with the outcome f ends its call or leaves the call with fewer remaining steps (`Goes`), and `may`
  -- still allows the thread each lock in O that `may` allowed before the step.
  pub record Then (key : ℕ → ℕ) (ws : List ℕ) (l : Local) (O : ℕ → Type 0) (key' : ℕ → ℕ) (ws' : List ℕ) (f : Fed) : Type 0 where
    pub keeps : (x : ℕ) → O x → S.may l x → S.may f.local x
    pub then : ((r : Reply) × (f.answer ≡ Some r)) ⊎ Goes key ws l key' ws' f.local

  abbrev pub Loads : List ℕ → Local → Fed → Type 0
  Loads ws l f = Then (node_key ws) ws l Any (node_key ws) ws f

  abbrev pub Stores : List ℕ → Local → ℕ → List ℕ → Fed → Type 0
  Stores ws l w ws' f = Then (node_key ws) ws l (λ x. x ≢ w) (node_key ws') ws' f

  module _ (T : Table) (sz : Sizes) (ws : List ℕ) (t : ℕ) (l : Local) where
    -- Holds if the step is an attempt to take lock w, whose rank (number of nodes with greater keys) is lower than the
    -- ranks of all locks that the thread can hold. If the attempt fails, the thread repeats it.
    pub record Tries (w from to : ℕ) : Type 0 where
      pub is_lock : IsLockWord w
      pub inside : w < word_count sz
      pub free : from ≡ 0
      pub own : to ≡ t + 1
      pub early : S.late l → ⊥
      pub last : (x : ℕ) → S.may l x → rank size ws w < rank size ws x
      pub taken : slice_index ws w ≡ 0 → Loads ws l (T.feed l 0)
      pub mine : S.may (T.feed l 0).local w
      pub missed : (seen : ℕ) → seen ≢ 0 → (T.feed l seen).local ≡ l

    -- Holds if the step made by a row of the step table is allowed. For example, the thread writes a word other than a
    -- lock only after it has decided what to change.
    abbrev pub RowBy : Action → Type 0
    RowBy (Load w) = Loads ws l (T.feed l (slice_index ws w))
    RowBy (Store w v) = (Stores ws l w (slice_set ws w v) (T.feed l v) × LateBy S 5 l)
        ⊎ (IsLockWord w × Stores ws l w ws (T.feed l v))
    RowBy (Exchange w from to) = Tries w from to

only_true : (b : Bool) → Only b → b ≡ true
only_true true h = refl
only_true false h = absurd h

only_both : (a b : Bool) → Only (a && b) → Only a × Only b
only_both true b h = (tt, h)
only_both false b h = absurd h

some_row : (n : ℕ) → Only (nat_lt 0 n) → n ≢ 0
some_row n h = let low : 0 < n = lower_number 0 n (only_true (nat_lt 0 n) h) in λ z. omega arith

module _ {S : Shape} {size : ℕ} {key : ℕ → ℕ} {ws : List ℕ} {l : Local} {O : ℕ → Type 0} {key' : ℕ → ℕ} {ws' : List ℕ}
    {l' : Local}
    (keeps : (x : ℕ) → O x → S.may l x → S.may l' x) where
  -- Lemma: a step that leads to another row of the step table satisfies `Then`, which says that fewer steps of the call
  -- remain.
  pub goes : Only (nat_lt 0 l'.pc) → (S.late l → LateBy S (S.left 0 (λ a. 0) l) l')
      → (S.valid (node_link ws) l → S.valid (node_link ws') l') → S.left size key' l' < S.left size key l
      → Then S size key ws l O key' ws' (record { local = l'; answer = None })
  goes busy late valid less = record {
    keeps = keeps;
    then = inr (record {
      busy = some_row l'.pc busy;
      late = late;
      near = λ calm n time. elim time [
        | inl v ↦ inl (let h : S.left size key l < suc n = v.1 in (valid v.0, omega arith))
        | inr h ↦ inr (omega arith)
      ];
    });
  }

  pub on : Only (nat_lt 0 l'.pc) → (S.late l → ⊥) → (S.valid (node_link ws) l → S.valid (node_link ws') l')
      → S.left size key' l' < S.left size key l → Then S size key ws l O key' ws' (record { local = l'; answer = None })
  on busy early valid less = goes busy (λ h. absurd (early h)) valid less

  pub again : Only (nat_lt 0 l'.pc) → (S.late l → ⊥) → (S.valid (node_link ws) l → ⊥) → S.valid (node_link ws') l'
      → S.left size key' l' < S.left size key l + S.round size
      → Then S size key ws l O key' ws' (record { local = l'; answer = None })
  again busy early never valid less = record {
    keeps = keeps;
    then = inr (record {
      busy = some_row l'.pc busy;
      late = λ h. absurd (early h);
      near = λ calm n time. elim time [
        | inl v ↦ absurd (never v.0)
        | inr h ↦ inl (valid, omega arith)
      ];
    });
  }

  pub stops : {r : Reply} → Then S size key ws l O key' ws' (record { local = l'; answer = Some r })
  stops {r} = record { keeps = keeps; then = inl (r, refl) }

-- Builds the case of `RowBy` for a store that releases a lock.
pub unlocks : {A B C : Type 0} → B → C → A ⊎ (B × C)
unlocks is_lock stores = inr (is_lock, stores)

-- The proof obligations for one row of the step table: how many steps remain, and that the row makes an allowed step.
pub record RowOf (S : Shape) (size : ℕ) (T : Table) (sz : Sizes) (ws : List ℕ) (t most : ℕ) (l : Local) : Type 0 where
  pub time : Timed S size ws most l
  pub by : RowBy S size T sz ws t l (T.next l)

module _ {S : Shape} {size : ℕ} {T : Table} {sz : Sizes} {ws : List ℕ} {t most : ℕ} {l : Local} where
  pub timed : Timed S size ws most l → RowBy S size T sz ws t l (T.next l) → RowOf S size T sz ws t most l
  timed time by = record { time = time; by = by }

  pub takes : {w : ℕ} → T.next l ≡ Exchange w 0 (l.thread + 1) → IsLockWord w → w < word_count sz → l.thread ≡ t → (S.late l → ⊥)
      → ((x : ℕ) → S.may l x → rank size ws w < rank size ws x)
      → (slice_index ws w ≡ 0 → Loads S size ws l (T.feed l 0)) → S.may (T.feed l 0).local w
      → ((seen : ℕ) → seen ≢ 0 → (T.feed l seen).local ≡ l) → Timed S size ws most l → RowOf S size T sz ws t most l
  takes {w = w} acts is_lock inside thread early last taken mine missed time =
      timed time (subst (λ a. RowBy S size T sz ws t l a) (sym acts) (record {
        is_lock = is_lock;
        inside = inside;
        free = refl;
        own = ap (λ n. n + 1) thread;
        early = early;
        last = last;
        taken = taken;
        mine = mine;
        missed = missed;
      }))

  pub writes : {l' : Local} {w v : ℕ} → T.next l ≡ Store w v → T.feed l v ≡ record { local = l'; answer = None }
      → ((x : ℕ) → S.may l x → S.may l' x) → S.late l → S.late l'
      → Only (nat_lt 0 l'.pc && (nat_lt (S.left 0 (λ a. 0) l') (S.left 0 (λ a. 0) l) && (nat_lt (S.left 0 (λ a. 0) l) 5
      && nat_lt (S.left size (node_key (slice_set ws w v)) l') (S.left size (node_key ws) l))))
      → (S.valid (node_link ws) l → S.valid (node_link (slice_set ws w v)) l')
      → S.left size (node_key ws) l + S.round size < most → RowOf S size T sz ws t most l
  writes {l' = l'} {w = w} {v = v} acts feeds may late late' few valid time =
      let x = only_both (nat_lt 0 l'.pc) _ few in
      let y = only_both (nat_lt (S.left 0 (λ a. 0) l') (S.left 0 (λ a. 0) l)) _ x.1 in
      let z = only_both (nat_lt (S.left 0 (λ a. 0) l) 5) _ y.1 in
      timed (inr time) (subst (λ a. RowBy S size T sz ws t l a) (sym acts) (inl (
        subst (λ f. Stores S size ws l w (slice_set ws w v) f) (sym feeds) (goes (λ x o m. may x m) x.0
            (λ h. (late', lower_number _ _ (only_true _ y.0))) valid (lower_number _ _ (only_true _ z.1))),
        (late, lower_number _ _ (only_true _ z.0)),
      )))
