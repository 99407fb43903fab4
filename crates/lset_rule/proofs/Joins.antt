-- Proof that splitting and joining seats, and issuing and using receipts, preserve the invariant of the shared words
-- and all seats. A seat is one thread's access to the set. A receipt contains the events that one seat has seen, and is
-- used by another seat.
use Rattle.std.proofs.Common.{◌≡◌, ◌≢◌, ◌⊎◌, inl, inr, ⊎_elim, ℕ, ◌+◌, ◌≤◌, ◌==◌, Bool, true, false, cond, List}
use Rattle.std.proofs.Common.{[], ◌∷◌, ◌++◌, length, set, nat_le, Option, None, refl, sym, ap, ◌∙◌, subst, arith, rules, tests}
use Rattle.std.proofs.Common.{append-nil, eq-eqb, ne_eqb}
use mathlib.Core.Option.{some, none}
use mathlib.Core.Logic.{dite}
use native.Mathlib.Decide.{ℕ_discrete}
use lib.ListN.{get_elem?}
use lib.Seq.{set-get_or}
use Rattle.std.proofs.lemmas.Bool.{false≢true}
use Rattle.atomic_table.specs.Table.{step, keeps, Allows, Splits, Joins}
use Rattle.atomic_table.proofs.Lists.{at_set, set_again}
use Rattle.lset_steps.specs.declared.Event.{Event}
use Rattle.lset_rule.specs.declared.view.SpareThread.{SpareThread}
use Rattle.lset_rule.specs.declared.view.Past.{Past, Fresh}
use Rattle.lset_rule.specs.declared.view.PendingCall.{PendingCall}
use Rattle.lset_rule.specs.declared.view.View.{View}
use Rattle.lset_steps.specs.Steps.{Table}
use Rattle.lset_rule.specs.Pasts.{gathered, calls_of}
use Rattle.lset_steps.specs.Worlds.{thread_of}
use Rattle.lset_rule.specs.Runs.{Here, here, at_end, IsRunOf, StartsWith}
use Rattle.lset_rule.specs.Rule.{Holds, MatchesLog, StandsIn, IsQuiet, left_view, right_view, longer, joined, nobody, learned}
use Rattle.lset_rule.specs.Rule.{without_thread, informed}
use Rattle.lset_rule.specs.Views.{Stands, HasThread, HasAside, AreIdle, InTime}
use Rattle.lset_rule.proofs.RecordsOfRuns.{still_quiet, before_more, none_in, asides_stay}
use Rattle.lset_rule.proofs.OneMoreEvent.{run_of_first}
use Rattle.lset_rule.proofs.ViewsFit.{Fits, St, each_set, each_more, each_fits, fits, spent_fits, holding}
use Rattle.lset_rule.proofs.ViewsFit.{is_in, set_there, stands_else, stands_still, stands_more, stands_last}
use Rattle.lset_rule.proofs.MovesKeepRule.{M}
use Rattle.lset_words.specs.Words.{Opening}

-- Converts a seat's own thread to a spare thread. `w` is the view of the seat (what the seat knows about the run).
abbrev aside : View → SpareThread
aside w = record { thread = w.thread; local = w.local }

quiet_less : (v w : View) → ((t : ℕ) → HasThread w t → HasThread v t) → (es : List Event) → IsQuiet v es → IsQuiet w es
quiet_less v w less [] q = tt
quiet_less v w less (e ∷ es) q = (λ h. q.0 (less (thread_of e) h), quiet_less v w less es q.1)

quiet_tail : (v : View) (xs ys : List Event) → IsQuiet v (xs ++ ys) → IsQuiet v xs × IsQuiet v ys
quiet_tail v [] ys q = (tt, q)
quiet_tail v (x ∷ xs) ys q = let t = quiet_tail v xs ys q.1 in ((q.0, t.0), t.1)

quiet_both : (v w j : View) → ((t : ℕ) → HasThread j t → HasThread v t ⊎ HasThread w t) → (es : List Event) → IsQuiet v es →
    IsQuiet w es → IsQuiet j es
quiet_both v w j split [] p q = tt
quiet_both v w j split (e ∷ es) p q = (λ h. ⊎_elim p.0 q.0 (split (thread_of e) h), quiet_both v w j split es p.1 q.1)

prefixes : (xs ys rx ry : List Event) → xs ++ rx ≡ ys ++ ry → length xs ≤ length ys → (d : List Event) × (ys ≡ xs ++ d)
    × (rx ≡ d ++ ry)
prefixes [] ys rx ry e le = (ys, refl, e)
prefixes (x ∷ xs) [] rx ry e le = absurd (omega arith)
prefixes (x ∷ xs) (y ∷ ys) rx ry e le =
    let same : (x ≡ y) × (xs ++ rx ≡ ys ++ ry) = (cc, cc) in
    let t = prefixes xs ys rx ry same.1 (omega arith) in
    (t.0, (λ i. sym same.0 i ∷ t.1 i), t.2)

record Longer (log xs ys l : List Event) : Type 0 where
  begins : StartsWith log l
  first : length xs ≤ length l
  second : length ys ≤ length l

longer_of : (log xs ys : List Event) → StartsWith log xs → StartsWith log ys → Longer log xs ys (longer xs ys)
longer_of log xs ys x y = by_test (nat_le (length xs) (length ys)) refl
  where
    by_test : (b : Bool) → nat_le (length xs) (length ys) ≡ b → Longer log xs ys (cond b ys xs)
    by_test true is = let le : length xs ≤ length ys = search (rules, tests) in
        record { begins = y; first = le; second = omega arith }
    by_test false is = let le : length ys ≤ length xs = search (rules, tests) in
        record { begins = x; first = omega arith; second = le }

-- ---- Lemmas about the spare threads of two seats (idle threads that a seat can still split off)
has_end : (os ps : List SpareThread) (t : ℕ) → HasAside (os ++ ps) t → HasAside os t ⊎ HasAside ps t
has_end [] ps t h = inr h
has_end (o ∷ os) ps t h = ⊎_elim (λ e. inl (inl e)) (λ x. ⊎_elim (λ y. inl (inr y)) (λ y. inr y) (has_end os ps t x)) h

end_has : (os ps : List SpareThread) (t : ℕ) → HasAside os t ⊎ HasAside ps t → HasAside (os ++ ps) t
end_has [] ps t h = ⊎_elim (λ x. absurd x) (λ x. x) h
end_has (o ∷ os) ps t h = ⊎_elim (λ x. ⊎_elim (λ e. inl e) (λ y. inr (end_has os ps t (inl y))) x)
    (λ x. inr (end_has os ps t (inr x))) h

asides_join : (ends : ℕ → Here) (t : ℕ) (r : Past) (os ps : List SpareThread) → ((u : ℕ) → HasAside os u → ¬ (HasAside ps u)) →
    AreIdle ends t r os → AreIdle ends t r ps → AreIdle ends t r (os ++ ps)
asides_join ends t r [] ps apart a b = b
asides_join ends t r (o ∷ os) ps apart a b = (
  a.0,
  a.1,
  (λ x. ⊎_elim a.2 (apart o.thread (inl refl)) (has_end os ps o.thread x)),
  asides_join ends t r os ps (λ u h. apart u (inr h)) a.3 b,
)

asides_in : (ends : ℕ → Here) (t t' : ℕ) (r r' : Past) (os : List SpareThread) →
    ((u : ℕ) → HasAside os u → (u ≢ t') × (calls_of u r' ≡ calls_of u r)) → AreIdle ends t r os → AreIdle ends t' r' os
asides_in ends t t' r r' [] same a = tt
asides_in ends t t' r r' (o ∷ os) same a = (
  (same o.thread (inl refl)).0,
  a.1 ∙ ap (here o.local None) (sym (same o.thread (inl refl)).1),
  a.2,
  asides_in ends t t' r r' os (λ u h. same u (inr h)) a.3,
)

pub not_own : (w : ℕ → Here) (t : ℕ) (r : Past) (os : List SpareThread) → AreIdle w t r os → ¬ (HasAside os t)
not_own w t r [] a h = h
not_own w t r (o ∷ os) a h = ⊎_elim (λ e. a.0 (sym e)) (λ x. not_own w t r os a.3 x) h

module _ (m : Table) where
  fits_less : (k : Opening) (log : List Event) (so so' : ℕ → ℕ) (i j : ℕ) (v w : View) (f : MatchesLog m k log so i v) →
      w.shape ≡ v.shape → w.seen ≡ v.seen → StartsWith log w.ours → StartsWith log w.theirs
      → ((t : ℕ) → HasThread w t → HasThread v t) → Stands m w → ((t : ℕ) → HasThread w t → so' t ≡ j) → MatchesLog m k log so' j w
  fits_less k log so so' i j v w f shape seen ours theirs less stands seat = record {
    shape = shape ∙ f.shape;
    rest = f.rest;
    is = f.is ∙ ap (λ l. l ++ f.rest) (sym seen);
    quiet = quiet_less v w less f.rest f.quiet;
    stands = stands;
    seat = seat;
    ours = ours;
    theirs = theirs;
  }

  fits_seat : (k : Opening) (log : List Event) (so so' : ℕ → ℕ) (j : ℕ) (v : View) →
      ((t : ℕ) → so t ≡ j → HasThread v t → so' t ≡ j) → MatchesLog m k log so j v → MatchesLog m k log so' j v
  fits_seat k log so so' j v same f =
      fits_less k log so so' j j v v f refl refl f.ours f.theirs (λ t h. h) f.stands (λ t h. same t (f.seat t h) h)

  -- ---- Lemmas about splitting a seat (one thread's access to the set) into two
  module _ (v0 : View) (o : SpareThread) (os : List SpareThread) where
    abbrev V : View
    V = record v0 { spent = false; under = None; past = Fresh v0.thread; others = o ∷ os }

    left_stands : Stands m V → Stands m (left_view V)
    left_stands st = record {
      ran = st.ran;
      own = st.own;
      others = st.others.3;
      in_range = λ t h. st.in_range t (⊎_elim inl (λ x. inr (inr x)) h);
      of_thread = refl;
      apart = tt;
      named = λ u e. inl e;
      ordered = tt;
      ended = tt;
      before = tt;
    }

    right_stands : Stands m V → Stands m (right_view V)
    right_stands st = record {
      ran = st.ran;
      own = st.others.1;
      others = tt;
      in_range = λ t h. st.in_range t (⊎_elim (λ x. inr (inl x)) (λ x. absurd x) h);
      of_thread = refl;
      apart = tt;
      named = λ u e. inl e;
      ordered = tt;
      ended = tt;
      before = tt;
    }

    splits_at : (k : Opening) (id : ℕ) → Splits (Holds m k) id V (left_view V) (right_view V)
    splits_at k id s h at =
        let L : View = left_view V in
        let R : View = right_view V in
        let vs : List View = set s.views id L in
        let n : ℕ = length vs in
        let f : MatchesLog m k h.log h.seat_of id V = h.each id V at refl in
        let so : ℕ → ℕ = λ u. cond (u == o.thread) n (h.seat_of u) in
        let other : (u : ℕ) → u ≢ o.thread → so u ≡ h.seat_of u = λ u ne. ap (λ b. cond b n (h.seat_of u)) (ne_eqb u o.thread ne)
        in
        let this : (u : ℕ) → u ≡ o.thread → so u ≡ n = λ u e. ap (λ b. cond b n (h.seat_of u)) (eq-eqb u o.thread e) in
        let a = f.stands.others in
        let left_has : (t : ℕ) → HasThread L t → HasThread V t = λ t x. ⊎_elim inl (λ y. inr (inr y)) x in
        let left_fits : MatchesLog m k h.log so id L = fits_less k h.log h.seat_of so id id V L f refl refl f.ours f.theirs left_has
        (left_stands f.stands)
        (λ t x. other t (⊎_elim (λ (is : t ≡ v0.thread). λ e. a.0 (sym e ∙ is))
        (λ (is : HasAside os t). λ (e : t ≡ o.thread). a.2 (subst (HasAside os) e is)) x) ∙ f.seat t (left_has t x)) in
        let right_fits : MatchesLog m k h.log so n R = fits_less k h.log h.seat_of so id n V R f refl refl (h.log, refl) (h.log, refl)
        (λ t x. ⊎_elim (λ y. inr (inl y)) (λ y. absurd y) x) (right_stands f.stands)
        (λ t x. this t (⊎_elim (λ y. y) (λ y. absurd y) x)) in
        holding m k _ h.log h.ran h.words so
        (each_more (Fits m k h.log so) vs R (fits right_fits) (each_set (Fits m k h.log so) s.views id L (fits left_fits)
        (λ j x ne is. (
          (λ alive. fits_seat k h.log h.seat_of so j x
              (λ u seat has. other u (λ e. ne (sym seat ∙ (ap h.seat_of e ∙ f.seat o.thread (inr (inl refl))))) ∙ seat)
              (h.each j x is alive)),
          h.known j x is,
        ))))
        (λ t lt. dite (ℕ_discrete t o.thread)
        (λ (e : t ≡ o.thread). subst (λ j. StandsIn (vs ++ R ∷ []) j t) (sym (this t e)) (stands_last vs t R refl (inl e)))
        (λ (ne : t ≢ o.thread). subst (λ j. StandsIn (vs ++ R ∷ []) j t) (sym (other t ne)) (stands_more vs (h.seat_of t) t R
        (stands_still s.views id (h.seat_of t) t V L at refl (⊎_elim inl (⊎_elim (λ e. absurd (ne e)) inr)) (h.placed t lt)))))

  pub splits : (k : Opening) (id : ℕ) (v : View) (o : SpareThread) (os : List SpareThread) → v.spent ≡ false → v.under ≡ None →
      v.past ≡ Fresh v.thread → v.others ≡ o ∷ os → Splits (Holds m k) id v (left_view v) (right_view v)
  splits k id v o os sp idle fresh there = subst (λ (z : View). Splits (Holds m k) id z (left_view z) (right_view z))
      (λ i. record v { spent = sym sp i; under = sym idle i; past = sym fresh i; others = sym there i }) (splits_at v o os k id)

  -- Lemmas about view v (what a seat knows about the run) after it has learned of more events, up to the end of the
  -- list `to`. The events that it has learned of belong to threads of other seats.
  module _ (k : Opening) (log : List Event) (so : ℕ → ℕ) (i : ℕ) (v : View) (f : MatchesLog m k log so i v) (ran : IsRunOf m k log) (to : List Event) (begins : StartsWith log to) (le : length v.seen ≤ length to) where
    more : (d : List Event) × (to ≡ v.seen ++ d) × (f.rest ≡ d ++ begins.0)
    more = prefixes v.seen to f.rest begins.0 (sym f.is ∙ begins.1) le

    quiet : IsQuiet v more.0 × IsQuiet v begins.0
    quiet = quiet_tail v more.0 begins.0 (subst (IsQuiet v) more.2 f.quiet)

    still_there : (t : ℕ) → HasThread v t → at_end m v.shape to t ≡ at_end m v.shape v.seen t
    still_there t h = ap (λ l. at_end m v.shape l t) more.1 ∙ still_quiet m v.shape v v.seen more.0 t h quiet.0

    sees : (mine theirs : List Event) → StartsWith log mine → StartsWith log theirs →
        MatchesLog m k log so i (record v { seen = to; ours = mine; theirs = theirs })
    sees mine theirs ours other = record {
      shape = f.shape;
      rest = begins.0;
      is = begins.1;
      quiet = quiet_less v (record v { seen = to; ours = mine; theirs = theirs }) (λ t h. h) begins.0 quiet.1;
      stands = record {
        ran = subst (λ z. IsRunOf m z to) (sym f.shape) (run_of_first m k to begins.0 (subst (IsRunOf m k) begins.1 ran));
        own = still_there v.thread (inl refl) ∙ f.stands.own;
        others = asides_stay (at_end m v.shape v.seen) (at_end m v.shape to) v.thread v.past v.past v.others
            (λ u has _. still_there u (inr has)) (λ u _. refl) f.stands.others;
        in_range = f.stands.in_range;
        of_thread = f.stands.of_thread;
        apart = f.stands.apart;
        named = f.stands.named;
        ordered = f.stands.ordered;
        ended = before_more (length v.seen + 1) (length to + 1) v.past (omega arith) f.stands.ended;
        before = f.stands.before;
      };
      seat = f.seat;
      ours = ours;
      theirs = other;
    }

  -- ---- Lemmas about joining two seats with the views v and w (what each seat knows about the run)
  module _ (k : Opening) (log : List Event) (so so' : ℕ → ℕ) (i j : ℕ) (apart : j ≢ i) (v w : View) (f : MatchesLog m k log so i v) (g : MatchesLog m k log so j w) (v_idle : v.under ≡ None) (w_idle : w.under ≡ None) (ran : IsRunOf m k log) where
    abbrev J : View
    J = joined v w

    abbrev G : Past
    G = gathered v.past w.past

    lo : Longer log v.seen w.seen J.seen
    lo = longer_of log v.seen w.seen (f.rest, f.is) (g.rest, g.is)

    abbrev F : Stands m (record v { seen = J.seen })
    F = (sees k log so i v f ran J.seen lo.begins lo.first v.ours v.theirs f.ours f.theirs).stands

    abbrev S : Stands m (record w { seen = J.seen; shape = v.shape })
    S = subst (λ z. Stands m (record w { seen = J.seen; shape = z })) (g.shape ∙ sym f.shape)
        (sees k log so j w g ran J.seen lo.begins lo.second w.ours w.theirs g.ours g.theirs).stands

    abbrev E : ℕ → Here
    E = at_end m v.shape J.seen

    not_both : (t : ℕ) → HasThread v t → HasThread w t → ⊥
    not_both t a b = apart (sym (g.seat t b) ∙ f.seat t a)

    splits_has : (t : ℕ) → HasThread J t → HasThread v t ⊎ HasThread w t
    splits_has t h = ⊎_elim (λ e. inl (inl e)) (λ x.
        ⊎_elim (λ y. inl (inr y)) (λ y. inr y) (has_end v.others (aside w ∷ w.others) t x)) h

    joins_has : (t : ℕ) → HasThread v t ⊎ HasThread w t → HasThread J t
    joins_has t h = ⊎_elim (λ x. ⊎_elim inl (λ y. inr (end_has v.others (aside w ∷ w.others) t (inl y))) x)
        (λ x. inr (end_has v.others (aside w ∷ w.others) t (inr x))) h

    v_calls : (t : ℕ) → HasThread v t → calls_of t G ≡ calls_of t v.past
    v_calls t h = ap (λ l. calls_of t v.past ++ l) (none_in t w.past (λ x. not_both t h (g.stands.named t x)))
        ∙ append-nil (calls_of t v.past)

    w_calls : (t : ℕ) → HasThread w t → calls_of t G ≡ calls_of t w.past
    w_calls t h = ap (λ l. l ++ calls_of t w.past) (none_in t v.past (λ x. not_both t (f.stands.named t x) h))

    joined_stands : Stands m J
    joined_stands = record {
      ran = F.ran;
      own = F.own ∙ ap (here v.local v.under) (sym (v_calls v.thread (inl refl)));
      others = asides_join E v.thread G v.others (aside w ∷ w.others) (λ u h x. not_both u (inr h) x)
          (asides_in E v.thread v.thread v.past G v.others
          (λ u h. ((λ e. not_own E v.thread v.past v.others F.others (subst (HasAside v.others) e h)), v_calls u (inr h))) F.others) (
            (λ e. not_both v.thread (inl refl) (inl (sym e))),
            S.own ∙ (λ n. here w.local (w_idle n) (sym (w_calls w.thread (inl refl)) n)),
            not_own E w.thread w.past w.others S.others,
            asides_in E w.thread v.thread w.past G w.others (λ u h. ((λ e. not_both u (inl e) (inr h)), w_calls u (inr h))) S.others,
          );
      in_range = λ t h. ⊎_elim (F.in_range t) (S.in_range t) (splits_has t h);
      of_thread = F.of_thread;
      apart = (F.apart, S.apart, λ u a b. not_both u (F.named u a) (S.named u b));
      named = λ u h. joins_has u (⊎_elim (λ x. inl (F.named u x)) (λ x. inr (S.named u x)) h);
      ordered = (F.ordered, S.ordered);
      ended = (F.ended, S.ended);
      before = subst (λ (z : Option PendingCall). InTime z G) (sym v_idle) tt;
    }

    joined_fits : ((t : ℕ) → so t ≡ i → so' t ≡ i) → ((t : ℕ) → so t ≡ j → so' t ≡ i) → MatchesLog m k log so' i J
    joined_fits a b = record {
      shape = f.shape;
      rest = lo.begins.0;
      is = lo.begins.1;
      quiet = quiet_both v w J splits_has lo.begins.0 (quiet k log so i v f ran J.seen lo.begins lo.first).1
          (quiet k log so j w g ran J.seen lo.begins lo.second).1;
      stands = joined_stands;
      seat = λ t h. ⊎_elim (λ x. a t (f.seat t x)) (λ x. b t (g.seat t x)) (splits_has t h);
      ours = (f.rest, f.is);
      theirs = (g.rest, g.is);
    }

  other_there : (s : St) (id other : ℕ) (v w : View) → other ≢ id → get_elem? (set s.views id v) other ≡ some w →
      get_elem? s.views other ≡ some w
  other_there s id other v w apart there = ⊎_elim (λ (t : (other ≡ id) × (v ≡ w)). absurd (apart t.0))
      (λ (t : (other ≢ id) × (get_elem? s.views other ≡ some w)). t.1) (at_set s.views id other v w there)

  takes_in : (k : Opening) (log : List Event) (so : ℕ → ℕ) (s : St) (id other : ℕ) (v : View) → MatchesLog m k log so id v →
      ((j : ℕ) (x : View) → j ≢ other → j ≢ id → get_elem? s.views j ≡ some x → Fits m k log so j x)
      → (j : ℕ) (x : View) → get_elem? (set (set s.views id v) other nobody) j ≡ some x → Fits m k log so j x
  takes_in k log so s id other v mine others = each_set (Fits m k log so) (set s.views id v) other nobody
      (spent_fits refl (log, refl)) (λ j x ne is. each_set (λ n z. n ≢ other → Fits m k log so n z) s.views id v (λ _. fits mine)
      (λ n z ne' is' ne. others n z ne ne' is') j x is ne)

  pub joins : (k : Opening) (id other : ℕ) (v w : View) → v.spent ≡ false → w.spent ≡ false → v.under ≡ None → w.under ≡ None →
      Joins (Holds m k) id v other w (joined v w) nobody
  joins k id other v w v_sp w_sp v_idle w_idle s h at apart there =
      let j : View = joined v w in
      let vs : List View = set (set s.views id j) other nobody in
      let there' = other_there s id other j w apart there in
      let f = h.each id v at v_sp in
      let g = h.each other w there' w_sp in
      let so : ℕ → ℕ = λ u. cond (h.seat_of u == other) id (h.seat_of u) in
      let moved : (u : ℕ) → h.seat_of u ≡ other → so u ≡ id =
      λ u e. ap (λ b. cond b id (h.seat_of u)) (eq-eqb (h.seat_of u) other e) in
      let same : (u : ℕ) → h.seat_of u ≢ other → so u ≡ h.seat_of u =
      λ u ne. ap (λ b. cond b id (h.seat_of u)) (ne_eqb (h.seat_of u) other ne) in
      let has = joins_has k h.log h.seat_of so id other apart v w f g v_idle w_idle h.ran in
      holding m k _ h.log h.ran h.words so
      (takes_in k h.log so s id other j
      (joined_fits k h.log h.seat_of so id other apart v w f g v_idle w_idle h.ran (λ t e. same t (λ e'. apart (sym e' ∙ e)) ∙ e) moved)
      (λ n x ne _ is. (
        (λ alive. fits_seat k h.log h.seat_of so n x (λ y seat _. same y (λ e. ne (sym seat ∙ e)) ∙ seat) (h.each n x is alive)),
        h.known n x is,
      )))
      (λ t lt. dite (ℕ_discrete (h.seat_of t) other)
      (λ (e : h.seat_of t ≡ other). subst (λ n. StandsIn vs n t) (sym (moved t e))
      (stands_else (set s.views id j) other id t nobody (λ e'. apart (sym e'))
      (j, set_there s.views id v j at, v_sp, has t (inr (is_in s.views other (h.seat_of t) t w there' e (h.placed t lt)).1))))
      (λ (ne : h.seat_of t ≢ other). subst (λ n. StandsIn vs n t) (sym (same t ne))
      (stands_else (set s.views id j) other (h.seat_of t) t nobody ne
      (stands_still s.views id (h.seat_of t) t v j at v_sp (λ x. has t (inl x)) (h.placed t lt)))))

  pub notes : (k : Opening) (id : ℕ) (v : View) → Splits (Holds m k) id v v (without_thread v)
  notes k id v s h at =
      let w : View = without_thread v in
      subst (λ (l : List View). Holds m k record { words = s.words; homes = s.homes; views = l ++ w ∷ [] })
      (sym (set_again s.views id v at)) (holding m k _ h.log h.ran h.words h.seat_of
      (each_more (Fits m k h.log h.seat_of) s.views w (spent_fits refl (h.known id v at)) (each_fits m k s h))
      (λ t lt. stands_more s.views (h.seat_of t) t w (h.placed t lt)))

  pub informs : (k : Opening) (id other : ℕ) (v w : View) → v.spent ≡ false → w.spent ≡ true →
      Joins (Holds m k) id v other w (informed v w) nobody
  informs k id other v w v_sp w_sp s h at apart there =
      let j : View = informed v w in
      let there' = other_there s id other j w apart there in
      let f = h.each id v at v_sp in
      let known = h.known other w there' in
      let lo = longer_of h.log v.seen w.seen (f.rest, f.is) known in
      holding m k _ h.log h.ran h.words h.seat_of
      (takes_in k h.log h.seat_of s id other j
      (sees k h.log h.seat_of id v f h.ran j.seen lo.begins lo.first v.seen w.seen (f.rest, f.is) known)
      (λ n x _ _ is. each_fits m k s h n x is))
      (λ t lt.
      let st = h.placed t lt in
      let ne : h.seat_of t ≢ other =
      λ e. false≢true (sym (is_in s.views other (h.seat_of t) t w there' e st).0 ∙ w_sp) in
      stands_else (set s.views id j) other (h.seat_of t) t nobody ne
      (stands_still s.views id (h.seat_of t) t v j at v_sp (λ x. x) st))

  pub learns : (slots id i : ℕ) (me : M) (k : Opening) → me.0.spent ≡ false →
      Allows (Holds m k) slots id me i (λ n. n) (learned m (step slots i 0 0 none) me)
  learns slots id i me k sp s h _ at _ =
      let v : View = me.0 in
      let w : View = record v { ours = []; theirs = [] } in
      let f = h.each id v at sp in
      let mine : MatchesLog m k h.log h.seat_of id w =
      sees k h.log h.seat_of id v f h.ran v.seen (f.rest, f.is) (omega arith) [] [] (h.log, refl) (h.log, refl) in
      let begins : (seen : List Event) → StartsWith h.log seen → length seen ≤ length v.seen → StartsWith v.seen seen =
      λ seen begun le. let d = prefixes seen v.seen begun.0 f.rest (sym begun.1 ∙ f.is) le in (d.0, d.1) in (
        w,
        keeps,
        tt,
        holding m k _ h.log h.ran (set-get_or s.words i 0 ∙ h.words) h.seat_of
            (each_set (Fits m k h.log h.seat_of) s.views id w (fits mine) (λ j x _ is. each_fits m k s h j x is))
            (λ t lt. stands_still s.views id (h.seat_of t) t v w at sp (λ x. x) (h.placed t lt)),
        (refl, mine.stands, begins v.ours f.ours, begins v.theirs f.theirs, refl),
      )
