-- Proof: the events that a seat (per-thread handle) has seen have a linearization that agrees with the seat's record.
use Rattle.std.proofs.Common.{◌≡◌, ⊎_elim, inl, ℕ, suc, ◌+◌, ◌<◌, ◌==◌, Bool, true, false, cond, List, [], ◌∷◌, ◌++◌, map, length}
use Rattle.std.proofs.Common.{Option, Some, None, refl, sym, ap, ◌∙◌, subst, arith, append-nil, append_assoc}
use Rattle.std.proofs.lemmas.List.{map-append}
use mathlib.Core.Option.{some}
use lib.ListN.{get_elem?}
use Rattle.lset_words.proofs.Numbers.{equal_test}
use Rattle.lset_words.specs.declared.Call.{Call}
use Rattle.lset_words.specs.declared.Reply.{Reply}
use Rattle.lset_words.specs.declared.Reply.TheVariants as reply
use Rattle.lset_words.specs.declared.history.CallRecord.{CallRecord}
use Rattle.lset_words.specs.declared.history.Placed.{Placed}
use Rattle.lset_words.specs.History.{Precedes, answered, call_numbered, no_call}
use Rattle.lset_words.specs.SequentialSet.{opening_set}
use Rattle.lset_lists.specs.Headline.{ExplainsRun, RunsAreLinearizable}
use Rattle.lset_steps.specs.declared.Event.{Event}
use Rattle.lset_steps.specs.declared.Event.TheVariants.{Begin, Go}
use Rattle.lset_steps.specs.Steps.{Table, State, Enabled, state_at, event_at, local_of, log_of, entry_of}
use Rattle.lset_steps.specs.Laws.{Lawful}
use Rattle.lset_rule.specs.declared.view.OwnCall.{OwnCall}
use Rattle.lset_rule.specs.declared.view.PendingCall.{PendingCall}
use Rattle.lset_rule.specs.declared.view.SpareThread.{SpareThread}
use Rattle.lset_rule.specs.declared.view.Past.{Past}
use Rattle.lset_rule.specs.declared.view.View.{View}
use Rattle.lset_rule.specs.Pasts.{calls_of, root}
use Rattle.lset_rule.specs.Runs.{Here, at_end, IsRunOf, history_of}
use Rattle.lset_rule.specs.Views.{Stands, AreIdle, HasAside, HasThread}
use Rattle.lset_rule.specs.Calls.{Makes}
use Rattle.lset_rule.specs.Seats.{IsSeat, TableSeat}
use Rattle.lset_rule.proofs.OneMoreEvent.{Tied, tied}
use Rattle.lset_words.specs.Records.{Keeps, thread_of}
use Rattle.lset_rule.specs.Dated.{record_of}
use Rattle.lset_live.specs.Explained.{HasAnswered, IsAnswered, SeenIsLinearizable}
use Rattle.lset_live.specs.Seats.{SeatValue, SetValue}
use Rattle.lset_live.proofs.CallsOfThread.{of_thread, ended_record, thread_records, MayBegin, thread_calls}
use Rattle.lset_live.proofs.OrderKeepsRecord.{keeps}
use Rattle.lset_words.specs.Words.{Opening}

may_begin : (T : Table) (s : State) (e : Event) (u : ℕ) (o : Option PendingCall) → Tied o (local_of s u) → Enabled s e →
    MayBegin (entry_of T s e) u o
may_begin T s (Begin t c) u None ti en = λ is. refl
may_begin T s (Begin t c) u (Some x) ti en = λ is. absurd (ti.0 (ap (λ z. (local_of s z).pc) (sym is) ∙ en.1))
may_begin T s (Go t) u o ti en = tt

calls_of_thread : (T : Table) (law : Lawful T) (k : Opening) (es : List Event) → IsRunOf T k es → (u : ℕ) → u < k.threads
    → of_thread u (history_of T k es) ≡ thread_records u (at_end T k es u).done (at_end T k es u).under
calls_of_thread T law k es r u low = thread_calls (log_of T k (event_at es)) u (length es)
    (λ j l. may_begin T (state_at T k (event_at es) j) (event_at es j) u _
    (tied T law k (event_at es) (length es) r u j low (omega arith)) (r.enabled j l)) (length es) (omega arith)

aside_idle : (w : ℕ → Here) (t : ℕ) (r : Past) (os : List SpareThread) → AreIdle w t r os → (u : ℕ) → HasAside os u →
    ((w u).under ≡ None) × ((w u).done ≡ calls_of u r)
aside_idle w t r [] a u h = absurd h
aside_idle w t r (o ∷ os) a u h = ⊎_elim
    (λ (e : u ≡ o.thread). subst (λ z. ((w z).under ≡ None) × ((w z).done ≡ calls_of z r)) (sym e)
    (ap (λ (x : Here). x.under) a.1, ap (λ (x : Here). x.done) a.1))
    (λ x. aside_idle w t r os a.3 u x) h

module _ (T : Table) (law : Lawful T) (v : View) (st : Stands T v) (idle : v.under ≡ None) where
  at_rest : (u : ℕ) → HasThread v u → ((at_end T v.shape v.seen u).under ≡ None)
      × ((at_end T v.shape v.seen u).done ≡ calls_of u v.past)
  at_rest u h = ⊎_elim
      (λ (e : u ≡ v.thread). subst (λ z. ((at_end T v.shape v.seen z).under ≡ None)
      × ((at_end T v.shape v.seen z).done ≡ calls_of z v.past)) (sym e)
      (ap (λ (x : Here). x.under) st.own ∙ idle, ap (λ (x : Here). x.done) st.own))
      (λ x. aside_idle (at_end T v.shape v.seen) v.thread v.past v.others st.others u x) h

  pub own : (u : ℕ) → HasThread v u → of_thread u (history_of T v.shape v.seen) ≡ map (ended_record u) (calls_of u v.past)
  own u h = let a = at_rest u h in calls_of_thread T law v.shape v.seen st.ran u (st.in_range u h)
      ∙ ((λ i. thread_records u (a.1 i) (a.0 i)) ∙ append-nil (map (ended_record u) (calls_of u v.past)))

  module _ (linear : RunsAreLinearizable T) where
    abbrev pub order : List Placed
    order = (linear v.shape (length v.seen) (event_at v.seen) st.ran).0

    pub explains : ExplainsRun T v.shape (event_at v.seen) (length v.seen) order
    explains = (linear v.shape (length v.seen) (event_at v.seen) st.ran).1

    pub turns : (i j : ℕ) → i < j → j < length (history_of T v.shape v.seen)
        → (call_numbered (history_of T v.shape v.seen) i).thread ≡ (call_numbered (history_of T v.shape v.seen) j).thread
        → Precedes (call_numbered (history_of T v.shape v.seen) i) (call_numbered (history_of T v.shape v.seen) j)
    turns i j lt l same = (explains.history.pairs i j no_call lt l).none_open same

    pub kept : Keeps (map (answered (history_of T v.shape v.seen)) order) (record_of v.past)
    kept = keeps v.shape.quota (opening_set v.shape) (history_of T v.shape v.seen) order explains.linearizes turns
        (λ u. calls_of u v.past) v.past st.apart st.ordered (λ u h. own u (st.named u h)) (λ u. refl)

    pub explained : SeenIsLinearizable T v.shape v.seen (record_of v.past)
    explained = record { run = st.ran; order = order; linearizes = explains.linearizes; keeps = kept }

pub made_explained : (T : Table) (law : Lawful T) → RunsAreLinearizable T → (c : Call) (v : View) (r : Reply) (w : View) →
    Makes T c v r w
    → SeenIsLinearizable T w.shape w.seen (record_of w.past)
made_explained T law linear c v r w m = explained T law w m.stands m.idle linear

-- ---- Lemmas about the number of a call in the history
abbrev head_of : CallRecord → List CallRecord → CallRecord
head_of d [] = d
head_of d (x ∷ xs) = x

abbrev tail_of : List CallRecord → List CallRecord
tail_of [] = []
tail_of (x ∷ xs) = xs

last_numbered : (u : ℕ) (H xs : List CallRecord) (y : CallRecord) → of_thread u H ≡ xs ++ y ∷ [] → (n : ℕ)
    × (get_elem? H n ≡ some y)
last_numbered u [] [] y e = let l = ap length e in absurd (omega arith)
last_numbered u [] (x ∷ xs) y e = let l = ap length e in absurd (omega arith)
last_numbered u (h ∷ H) xs y e = by_test (h.thread == u) xs (λ ys e'. last_numbered u H ys y e') e
  where
    next : (n : ℕ) × (get_elem? H n ≡ some y) → (n : ℕ) × (get_elem? (h ∷ H) n ≡ some y)
    next (n, at) = (suc n, at)

    by_test : (b : Bool) (ys : List CallRecord) → ((zs : List CallRecord) → of_thread u H ≡ zs ++ y ∷ [] → (n : ℕ)
        × (get_elem? H n ≡ some y))
        → cond b (h ∷ of_thread u H) (of_thread u H) ≡ ys ++ y ∷ [] → (n : ℕ) × (get_elem? (h ∷ H) n ≡ some y)
    by_test false ys rest e = next (rest ys e)
    by_test true [] rest e = (0, ap some (ap (head_of h) e))
    by_test true (x ∷ ys) rest e = next (rest ys (ap tail_of e))

module _ (T : Table) (law : Lawful T) (c : Call) (v : View) (r : Reply) (w : View) (m : Makes T c v r w) where
  abbrev made : OwnCall
  made = record { call = c; reply = r; begun = length m.log + 1; ended = length w.seen }

  rooted : root v.past ≡ w.thread
  rooted = sym (ap root m.past) ∙ m.stands.of_thread

  calls_now : of_thread w.thread (history_of T w.shape w.seen) ≡ map (ended_record w.thread) (calls_of w.thread v.past)
      ++ ended_record w.thread made ∷ []
  calls_now = own T law w m.stands m.idle w.thread (inl refl)
      ∙ (ap (λ p. map (ended_record w.thread) (calls_of w.thread p)) m.past
      ∙ (ap (λ b. map (ended_record w.thread) (calls_of w.thread v.past ++ cond b (made ∷ []) []))
      (equal_test w.thread (root v.past) (sym rooted))
      ∙ map-append (ended_record w.thread) (calls_of w.thread v.past) (made ∷ [])))

  entry : (n : ℕ) × (get_elem? (history_of T w.shape w.seen) n ≡ some (ended_record w.thread made))
  entry = last_numbered w.thread (history_of T w.shape w.seen) (map (ended_record w.thread) (calls_of w.thread v.past))
      (ended_record w.thread made) calls_now

  pub made_answered : IsAnswered T w.shape (thread_of (record_of v.past)) c r v.seen w.seen
  made_answered = subst (λ t. IsAnswered T w.shape t c r v.seen w.seen) (sym rooted) record {
    others = m.before.0;
    since = m.between;
    is = m.seen ∙ (ap (λ l. l ++ Go v.thread ∷ []) (append_assoc m.log (Begin v.thread c ∷ []) m.between)
        ∙ (λ i. m.before.1 i ++ Begin (sym m.same.2 i) c ∷ m.between ++ Go (sym m.same.2 i) ∷ []));
    number = entry.0;
    call = entry.1 ∙ ap (λ l. some (record {
      thread = w.thread;
      call = c;
      begun = length l + 1;
      ended = Some (length w.seen, r);
    })) m.before.1;
  }

-- ---- Lemmas about the contract of a call
abbrev pub seat_at : TableSeat → SeatValue
seat_at s = record {
  set = record { table = s.table_id; shape = s.me.0.shape };
  past = record_of s.me.0.past;
  held = length s.me.0.others + 1;
  events = s.me.0.seen;
}

module _ (T : Table) (law : Lawful T) (linear : RunsAreLinearizable T) (c : Call) (s : TableSeat) (r : Reply) (s' : TableSeat)
    (seat : IsSeat s s') (made : Makes T c s.me.0 r s'.me.0) where
  at_seat : HasAnswered T (seat_at s').set (seat_at s) c r (seat_at s')
  at_seat = record {
    of_set = refl;
    held = ap (λ l. length l + 1) made.same.3;
    past = ap record_of made.past;
    answered = made_answered T law c s.me.0 r s'.me.0 made;
    explained = made_explained T law linear c s.me.0 r s'.me.0 made;
  }

  same_set : (seat_at s').set ≡ (seat_at s).set
  same_set i = record { table = seat.0 i; shape = made.same.1 i }

  pub has_answered : (set : SetValue) (old : SeatValue) → seat_at s ≡ old → old.set ≡ set → HasAnswered T set old c r (seat_at s')
  has_answered set old is of_set =
      let sets : (seat_at s').set ≡ set = same_set ∙ (ap (λ (z : SeatValue). z.set) is ∙ of_set) in
      subst (λ (z : SetValue × SeatValue). HasAnswered T z.0 z.1 c r (seat_at s')) (λ i. (sets i, is i)) at_seat
