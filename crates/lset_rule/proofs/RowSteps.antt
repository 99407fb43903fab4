-- Lemmas for the loop of the interpreter: each step of a call leads to a state in which the next step is allowed, or
-- ends the call.
use Rattle.std.proofs.Common.{◌≡◌, Some, None, sym, ap, ◌∙◌}
use Rattle.atomic_table.specs.Seated.{TableId}
use Rattle.lset_words.specs.declared.Call.{Call}
use Rattle.lset_words.specs.declared.Reply.{Reply}
use Rattle.lset_words.specs.Words.{Opening}
use Rattle.lset_steps.specs.declared.Fed.{Fed}
use Rattle.lset_steps.specs.Steps.{Table}
use Rattle.lset_steps.specs.Laws.{Lawful}
use Rattle.lset_rule.specs.declared.slots.OwnSlots.{OwnSlots}
use Rattle.lset_rule.specs.OwnSlots.{slots_of}
use Rattle.lset_rule.specs.Seats.{TableSeat, IsSeat, MayCall, HasCalled}
use Rattle.lset_rule.specs.RowSteps.{MayStep, HasStepped}
use Rattle.lset_rule.proofs.CallKnows.{Comes, is_mid, mid_open, reached, comes_next, made}

-- Holds if call c started from the seat s (one thread's access to the set), its last step had the outcome f, and the
-- seat is now s'.
abbrev pub Reached : Table → Call → TableSeat → Fed → TableSeat → Type 0
Reached m c s f s' = Comes m c s.me.0 f s'.me.0 × IsSeat s s'

pub may_step : (m : Table) → Lawful m → (c : Call) (z : TableId) (k : Opening) (own : OwnSlots) (s s' : TableSeat) (f : Fed) →
    MayCall m z k own s → Reached m c s f s' → f.answer ≡ None → MayStep m z k f.local s'
may_step m law c z k own s s' f may (come, seat) none = let mid = is_mid m c s.me.0 s'.me.0 f come none in record {
  place = (seat.0 ∙ may.place.0, mid.0.same.1 ∙ may.place.1, may.place.2);
  under_way = mid_open c s.me.0 s'.me.0 may.idle.0 mid.0;
  stands = mid.1;
  held = sym come.0;
  occurs = reached m law c s.me.0 s'.me.0 f may.idle.0 come none;
}

pub stepped : (m : Table) (c : Call) (s s' s'' : TableSeat) (f f' : Fed) → Reached m c s f s' → f.answer ≡ None →
    HasStepped m f.local s' f' s'' → Reached m c s f' s''
stepped m c s s' s'' f f' (come, seat) none step = (
  comes_next m c s.me.0 s'.me.0 f step.seen s''.me.0 f' come none step.goes step.fed,
  (step.place.0 ∙ seat.0, step.place.1 ∙ seat.1, step.place.2 ∙ seat.2),
)

pub answered : (m : Table) (c : Call) (s s' : TableSeat) (f : Fed) (own : OwnSlots) (r : Reply) → Reached m c s f s' →
    f.answer ≡ Some r → own ≡ slots_of f.local → HasCalled m c s (own, r) s'
answered m c s s' f own r (come, seat) is slots = record {
  place = seat;
  slots = slots ∙ ap slots_of (sym come.0);
  made = made m c s.me.0 s'.me.0 f r come is;
}
