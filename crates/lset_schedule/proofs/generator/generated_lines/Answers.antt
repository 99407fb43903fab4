use Rattle.std.proofs.Common.{◌≡◌, ℕ, zero, suc, ◌+◌, ◌-◌, ◌%◌, ◌<◌, ◌↔◌, IsTrue, true, inl, inr, Option, Some, None, List, [], ◌∷◌, ◌++◌, refl, sym, ap, subst, ◌∙◌}
use Rattle.std.proofs.Common.{arith, length}
use Rattle.lset_words.specs.Words.{empty}
use Rattle.rand_core.specs.Stream.{Stream, next_u32}
use Rattle.lset_steps.specs.declared.Event.{Event}
use Rattle.lset_steps.specs.Steps.{Table, State, after, opening}
use Rattle.lset_schedule.specs.declared.value.Line.{Line}
use Rattle.lset_schedule.specs.Drawing.{Progress, line_of_event, left_after, event_drawn, progressed, after_turn, before_turns, IsOver, IsEnd, AreDrawn}
use Rattle.lset_schedule.specs.declared.TheConstants.{MOST_TURNS}
use Rattle.lset_steps.specs.Worlds.{WorldState}
use Rattle.lset_schedule.proofs.Drafts.{draft_along, draft_opening, draft_idle, draft_event, goes_on}
use Rattle.lset_schedule.proofs.generator.generated_lines.Goals as goal
use Rattle.lset_schedule.proofs.generator.generated_lines.Goals.{in-Some+in_ok-push, in_default, else-loop-test, then-loop-test+then-is_over}

abbrev progress : State → ℕ → List Line → Stream → Progress
progress s left lines answers = record { state = s; left = left; lines = lines; answers = answers }

is_end : (s : State) (events m left : ℕ) → events ≡ m → (IsTrue true ↔ IsOver s events left) → IsOver s m left
is_end s events m left e test = subst (λ k. IsOver s k left) e (test.0 refl)

made_event : (T : Table) (p : Progress) (e : Event) (made : Option Event) (s : State) (left : ℕ) (lines : List Line)
    (answers : Stream) → made ≡ Some e → s ≡ after T p.state e → left ≡ left_after p.left e
    → lines ≡ p.lines ++ line_of_event e ∷ [] → progress s left lines answers ≡ progressed T p made answers
made_event T p e made s left lines answers is a b c = rw (is, a, b, c) refl

made_none : (T : Table) (p : Progress) (made : Option Event) (s : State) (left : ℕ) (lines : List Line)
    (answers : Stream) → made ≡ None → s ≡ p.state → left ≡ p.left → lines ≡ p.lines
    → progress s left lines answers ≡ progressed T p made answers
made_none T p made s left lines answers is a b c = rw (is, a, b, c) refl

module _ (T : Table) (threads keys : ℕ) where
  pub begun_drawn : (turns n q calls : ℕ) (s : State) (made lines : List Line) (answers : Stream) → s ≡ opening (empty n q) →
      made ≡ [] → AreDrawn T threads keys turns (progress s calls made answers) lines
      → AreDrawn T threads keys turns (before_turns n q calls answers) lines
  begun_drawn turns n q calls s made lines answers opens none h = rw (← opens) (subst (λ ls. AreDrawn T threads keys turns
      (progress s calls ls answers) lines) none h)

  turn_is : (p : Progress) (choice : ℕ) (first last : Stream) (e : Option Event) → (choice, first) ≡ next_u32 p.answers
      → (e, last) ≡ event_drawn p.state (choice % threads) p.left keys first
      → after_turn T threads keys p ≡ progressed T p e last
  turn_is p choice first last e chosen drawn =
      let turn : ℕ × Stream → Option Event × Stream = λ x. event_drawn p.state (x.0 % threads) p.left keys x.1 in
      let made : Option Event × Stream → Progress = λ x. progressed T p x.0 x.1 in
      sym (ap (λ (x : ℕ × Stream). made (turn x)) chosen) ∙ sym (ap made drawn)

  pub turn_drawn : (turns i choice divisor : ℕ) (p after : Progress) (first last : Stream) (e : Option Event) (lines : List Line)
      → divisor ≡ threads → i < turns → (IsEnd p → ⊥) → (choice, first) ≡ next_u32 p.answers
      → (e, last) ≡ event_drawn p.state (choice % divisor) p.left keys first → after ≡ progressed T p e last
      → AreDrawn T threads keys (turns - (i + 1)) after lines → AreDrawn T threads keys (turns - i) p lines
  unfolding AreDrawn
  turn_drawn turns i choice divisor p after first last e lines same lt more chosen drawn is rest =
      let k : turns - i ≡ suc (turns - (i + 1)) = omega arith in
      let whose = subst (λ n. (e, last) ≡ event_drawn p.state (choice % n) p.left keys first) same drawn in
      let next : after ≡ after_turn T threads keys p = is ∙ sym (turn_is p choice first last e chosen whose) in
      rw k (inr (more, subst (λ x. AreDrawn T threads keys (turns - (i + 1)) x lines) next rest))

  pub end_drawn : (turns : ℕ) (p : Progress) → IsEnd p → AreDrawn T threads keys turns p p.lines
  unfolding AreDrawn
  end_drawn zero p end = refl
  end_drawn (suc turns) p end = inl (end, refl)

  pub last_drawn : (turns i : ℕ) (p : Progress) → turns - i ≡ 0 → AreDrawn T threads keys (turns - i) p p.lines
  unfolding AreDrawn
  last_drawn turns i p none = subst (λ n. AreDrawn T threads keys n p p.lines) (sym none) refl

pub loop-init : goal.loop-init
loop-init g c = record {
  drawn = λ lines h.
      begun_drawn g.M.Machine.table c.args.layout.threads c.args.keys MOST_TURNS c.args.layout.threads c.args.layout.quota
      c.args.calls c.in_ok-world.world.state c.new-lines.result.items lines (g.R.Rng.stream c.args.rng.now)
      (ap (λ (w : WorldState). w.state) c.in_ok-world.ensures) c.new-lines.ensures.items h;
  draft =
      draft_along _ _ _ _ _ _ c.args.calls _ _ _ _ _ refl c.new-lines.ensures.items c.in_ok-world.ensures
      (draft_opening g.M.Machine.table c.args.layout c.args.calls c.args.keys c.threads-threads.ensures.within c.requires.empty);
}

pub loop-preserved : goal.loop-preserved
loop-preserved g c =
    let len : c.len.result ≡ length c.loop.lines.items = c.len.ensures ∙ c.loop.lines.ok.0 in
    let more = goes_on c.loop.world.state c.len.result (length c.loop.lines.items) c.loop.left len c.if-is_over.ensures in
    let lt : c.next_u32.result % c.threads-threads.result < c.args.layout.threads = omega arith in
    let now = progress c.loop.world.state c.loop.left c.loop.lines.items (g.R.Rng.stream c.loop.rng) in
    let answers = g.R.Rng.stream c.next_event.new.rng in
    record {
      drawn = λ lines h. c.loop.invariant.drawn lines
          (turn_drawn g.M.Machine.table c.args.layout.threads c.args.keys MOST_TURNS c.loop.counter c.next_u32.result
          c.threads-threads.result now
          (progress c.match-next_event.world.state c.match-next_event.left c.match-next_event.lines.items answers)
          _ answers c.next_event.result lines c.threads-threads.ensures.value c.loop-test.true more c.next_u32.ensures
          c.next_event.ensures.drawn
          (elim c.match-next_event.branch [
            | in-Some+in_ok-push w ↦
                made_event g.M.Machine.table now w.in-Some.event c.next_event.result _ _ _ answers w.in-Some.is
                (ap (λ (v : WorldState). v.state) (w.world-is ∙ w.make.ensures)) (w.left-is ∙ w.left_by-left.ensures)
                (ap (λ v. v.items) w.lines-is ∙ w.in_ok-push.ensures.items
                ∙ ap (λ l. c.loop.lines.items ++ l ∷ []) w.line_of.ensures)
            | in_default w ↦
                made_none g.M.Machine.table now c.next_event.result _ _ _ answers w.in_default.is
                (ap (λ (v : WorldState). v.state) w.world-is) w.left-is (ap (λ v. v.items) w.lines-is)
          ]) h);
      draft =
          elim c.match-next_event.branch [
            | in-Some+in_ok-push w ↦
                draft_along _ _ _ _ _ _ _ _ _ _ _ _ (w.left-is ∙ w.left_by-left.ensures)
                (ap (λ v. v.items) w.lines-is ∙ w.in_ok-push.ensures.items
                ∙ ap (λ l. c.loop.lines.items ++ l ∷ []) w.line_of.ensures)
                (w.world-is ∙ w.make.ensures)
                (draft_event g.M.Machine.table c.args.layout.threads c.args.layout.quota c.args.calls c.args.keys
                c.loop.counter c.loop.left (c.next_u32.result % c.threads-threads.result) c.loop.lines.items c.loop.world
                w.in-Some.event c.loop.invariant.draft more lt w.in-Some.ensures.event c.ranges.keys.fits)
            | in_default w ↦
                draft_along _ _ _ _ _ _ _ _ _ _ _ _ w.left-is (ap (λ v. v.items) w.lines-is) w.world-is
                (draft_idle g.M.Machine.table c.args.layout.threads c.args.layout.quota c.args.calls c.args.keys
                c.loop.counter c.loop.left (c.next_u32.result % c.threads-threads.result) c.loop.lines.items c.loop.world
                c.loop.invariant.draft more lt w.in_default.ensures.event)
          ];
    }

pub returns-clause-drawn : goal.returns-clause-drawn
returns-clause-drawn g c =
    let now = progress c.loop.world.state c.loop.left c.loop.lines.items (g.R.Rng.stream c.loop.rng) in
    c.loop.invariant.drawn c.loop.lines.items
    (elim c.loop-test.branch [
      | else-loop-test w ↦
          last_drawn g.M.Machine.table c.args.layout.threads c.args.keys MOST_TURNS c.loop.counter now
          (omega (arith, w.loop-test.false))
      | then-loop-test+then-is_over w ↦
          end_drawn g.M.Machine.table c.args.layout.threads c.args.keys (MOST_TURNS - c.loop.counter) now
          (is_end c.loop.world.state w.len.result _ c.loop.left (w.len.ensures ∙ c.loop.lines.ok.0) w.if-is_over.ensures)
    ])
