-- Lemmas about rows 20 to 22 of a step table (the numbered atomic steps of a list). These are the rows of a `contains`
-- that only reads.
use Rattle.std.proofs.Common.{◌≡◌, ℕ, ◌+◌, ◌-◌, ◌/◌, ◌%◌, ◌<◌, ◌==◌, Bool, true, false, if◌then◌else◌, None, refl, sym, ap}
use Rattle.std.proofs.Common.{◌∙◌, subst, arith}
use Rattle.lset_words.specs.declared.Key.{Key}
use Rattle.lset_words.specs.declared.Call.{Call}
use Rattle.lset_words.specs.declared.Call.TheVariants.{Contains}
use Rattle.lset_words.specs.declared.Reply.TheVariants.{True, False}
use Rattle.lset_words.specs.Words.{key_index, link_index, sizes, target}
use Rattle.lset_words.proofs.Numbers.{if_below, if_not_below, if_same, if_other}
use Rattle.lset_steps.specs.declared.Action.TheVariants.{Load}
use Rattle.lset_steps.specs.declared.Local.{Local}
use Rattle.lset_steps.specs.Steps.{Table}
use Rattle.lset_steps.specs.Laws.{Lawful}
use Rattle.lset_steps.specs.ReadRows.{continued, leaves_with, first_row}
use Rattle.lset_steps.specs.RowLaws.{HasReading}
use Rattle.lset_steps.specs.BoundedReads.{BoundedReads, most_reads}
use Rattle.lset_rule.specs.declared.slots.OwnSlots.{OwnSlots}
use Rattle.lset_rule.specs.OwnSlots.{resting}
use Rattle.lset_rule.specs.Seats.{TableSeat}
use Rattle.lset_rule.specs.Calls.{Goes, steps_of}
use Rattle.lset_rule.proofs.CallKnows.{Comes}
use Rattle.lset_rule.proofs.ContainsEnds.{not_yet, one_more}
use Rattle.lset_loops.specs.Begun.{Begun}
use Rattle.lset_loops.specs.Calling.{Holds, first, row}
use Rattle.lset_loops.proofs.StepsOfCall.{no_rest}

-- Returns the private state of a thread that executes a `contains`. The thread is at row `pc` of the list's step table
-- (its numbered atomic steps), and `x` is the current node.
abbrev pub reading : Begun → OwnSlots → ℕ → ℕ → Local
reading b own pc x = row own b.call pc None 0 x no_rest

leaves_by : (found : Bool) (l : Local) → (if found then leaves_with True l else leaves_with False l)
    ≡ leaves_with (if found then True else False) l
leaves_by true l = refl
leaves_by false l = refl

module _ (m : Table) (laws : HasReading m) (b : Begun) (own : OwnSlots) where
  pub begins : (k : Key) → b.call ≡ Contains k → first m b own ≡ reading b own 20 0
  begins k is = laws.begins b.call (resting own) ∙ ap (λ pc. reading b own pc 0) (ap first_row is)

  pub acts_20 : (x : ℕ) → Load (link_index x) ≡ m.next (reading b own 20 x)
  acts_20 x = sym (laws.row_20 (reading b own 20 x) refl).0

  pub acts_21 : (x : ℕ) → Load (key_index x) ≡ m.next (reading b own 21 x)
  acts_21 x = sym (laws.row_21 (reading b own 21 x) refl).0

  pub acts_22 : (x : ℕ) → Load (link_index x) ≡ m.next (reading b own 22 x)
  acts_22 x = sym (laws.row_22 (reading b own 22 x) refl).0

  pub fed_20 : (x n : ℕ) → m.feed (reading b own 20 x) n ≡ continued (reading b own 21 (n / 2))
  fed_20 x n = ((laws.row_20 (reading b own 20 x) refl).1 n).0

  pub below : (x n : ℕ) → n < target b.call → m.feed (reading b own 21 x) n ≡ continued (reading b own 20 x)
  below x n lt = ((laws.row_21 (reading b own 21 x) refl).1 n).0 ∙ if_below n (target b.call) lt _ _

  pub same : (x n : ℕ) → n ≡ target b.call → m.feed (reading b own 21 x) n ≡ continued (reading b own 22 x)
  same x n eq = ((laws.row_21 (reading b own 21 x) refl).1 n).0
      ∙ (if_not_below n (target b.call) (omega arith) _ _ ∙ if_same n (target b.call) eq _ _)

  pub above : (x n : ℕ) → target b.call < n → m.feed (reading b own 21 x) n ≡ leaves_with False (reading b own 21 x)
  above x n gt = ((laws.row_21 (reading b own 21 x) refl).1 n).0
      ∙ (if_not_below n (target b.call) (omega arith) _ _ ∙ if_other n (target b.call) (λ e. omega arith) _ _)

  pub marked : (x n : ℕ) → m.feed (reading b own 22 x) n
      ≡ leaves_with (if n % 2 == 0 then True else False) (reading b own 22 x)
  marked x n = ((laws.row_22 (reading b own 22 x) refl).1 n).0 ∙ leaves_by (n % 2 == 0) (reading b own 22 x)

-- Each round of the walk (two steps) decreases the number of steps that the `contains` can still make.
pub falls : (m : Table) → Lawful m → BoundedReads m → (b : Begun) (k : Key) → b.call ≡ Contains k → (l l' l'' : Local)
    (s s' s'' : TableSeat) (n n' : ℕ) → Holds m b l s → Goes m s.me.0 n s'.me.0 → Holds m b l' s' → Goes m s'.me.0 n' s''.me.0
    → Holds m b l'' s''
    → most_reads (sizes b.me.0.shape) - steps_of s''.me.0.under < most_reads (sizes b.me.0.shape) - steps_of s.me.0.under
falls m law reads b k is l l' l'' s s' s'' n n' h g h' g' h'' =
    let P : Call → Type 0 = λ c. Comes m c b.me.0 (continued l) s.me.0 in
    let low : steps_of s.me.0.under < most_reads (sizes b.me.0.shape) =
    not_yet m law reads k b.me.0 s.me.0 (continued l) h.used (subst P is (h.local, (h.mid, h.stands))) refl in
    let one : steps_of s'.me.0.under ≡ steps_of s.me.0.under + 1 = one_more m n b.me.0 s.me.0 s'.me.0 (continued l) (continued l')
    b.call (h.local, (h.mid, h.stands)) refl (h'.local, (h'.mid, h'.stands)) refl g in
    let two : steps_of s''.me.0.under ≡ steps_of s'.me.0.under + 1 = one_more m n' b.me.0 s'.me.0 s''.me.0 (continued l')
    (continued l'') b.call (h'.local, (h'.mid, h'.stands)) refl (h''.local, (h''.mid, h''.stands)) refl g' in
    omega arith
