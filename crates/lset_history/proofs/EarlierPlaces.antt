-- Lemmas about the first i items of an order of calls, and about the correctness of their replies.
use Rattle.std.proofs.Common.{◌≡◌, ◌≢◌, ℕ, zero, suc, ◌<◌, ◌≤◌, ◌+◌, ◌==◌, ◌||◌, Bool, true, false, List, [], ◌∷◌, length}
use Rattle.std.proofs.Common.{get_or, take, map, Option, Some, None, refl, sym, ap, ◌∙◌, subst, inl, inr, arith, add-one}
use Rattle.std.specs.Prelude.{set}
use Rattle.std.proofs.lemmas.List.{take-take, get_or-take, length-take, get_or-set_same, get_or-set_other}
use Rattle.std.proofs.lemmas.List.Folds.{list_any_more}
use Rattle.std.proofs.lemmas.Bool.{cases_eq, eqb-true, eq-eqb, ne_eqb, or_cases, or_parts, or_right, false≢true}
use Rattle.std.proofs.Math.Bool.{or-false}
use Rattle.std.specs.Option.{IfSome, IsSomeAnd}
use Rattle.std.proofs.lemmas.List.Elements.{All-more}
use Rattle.lset_words.specs.declared.Reply.{Reply}
use Rattle.lset_words.specs.declared.history.CallRecord.{CallRecord}
use Rattle.lset_words.specs.declared.history.Placed.{Placed}
use Rattle.lset_words.specs.SequentialSet.{SetState, reply_to, after_call, IsLegal}
use Rattle.lset_words.specs.History.{answered, call_numbered}
use Rattle.lset_history.specs.Faults.{HasWrongReply, Passes, place_at, placed_call, set_left_by}
use Rattle.lset_history.specs.Checks.{stands, MarksCalls, HasReply, HasOtherReply, HasReplies, after_order, after_reply}
use Rattle.lset_history.specs.Oracle.{OracleValue}

pub stands_earlier : (order : List Placed) (i n : ℕ) → stands (take i order) n ≡ true
    → (k : ℕ) × (k < i) × (k < length order) × ((place_at order k).call ≡ n)
stands_earlier [] zero n h = absurd (false≢true h)
stands_earlier (p ∷ ps) (suc i) n h =
    elim (or_cases (p.call == n) (stands (take i ps) n) h) [
      | inl e ↦ (zero, omega arith, omega arith, eqb-true p.call n e)
      | inr e ↦
          let rest : (k : ℕ) × (k < i) × (k < length ps) × ((place_at ps k).call ≡ n) = stands_earlier ps i n e in
          (suc rest.0, (let low = rest.1 in omega arith), (let low = rest.2 in omega arith), rest.3)
    ]
stands_earlier order i n h = absurd (false≢true h)

pub stands_nowhere : (order : List Placed) (i n : ℕ) → stands (take i order) n ≡ false → (k : ℕ) → k < i → k < length order
    → (place_at order k).call ≢ n
stands_nowhere [] i n h k low inside = absurd (omega arith)
stands_nowhere (p ∷ ps) zero n h k low inside = absurd (omega arith)
stands_nowhere (p ∷ ps) (suc i) n h zero low inside = λ e.
    let parts = or_parts (p.call == n) (stands (take i ps) n) h in false≢true (sym parts.0 ∙ eq-eqb p.call n e)
stands_nowhere (p ∷ ps) (suc i) n h (suc k) low inside =
    let parts = or_parts (p.call == n) (stands (take i ps) n) h in stands_nowhere ps i n parts.1 k (omega arith) (omega arith)

pub marks_more : (marks : List Bool) (order : List Placed) (i : ℕ) → i < length order
    → (place_at order i).call < length marks → MarksCalls marks (take i order)
    → MarksCalls (set marks (place_at order i).call true) (take (i + 1) order)
marks_more marks order i inside low holds q =
    let call = (place_at order i).call in
    let more = list_any_more (λ (p : Placed). p.call == q) order i (place_at [] 0) inside in
    elim (cases_eq call q) [
      | inl e ↦ subst (λ n. get_or (set marks call true) n false ≡ true) e (get_or-set_same marks call true false low)
          ∙ sym (more ∙ or_right _ _ (eq-eqb call q e))
      | inr ne ↦ get_or-set_other marks call q true false (λ e. ne (sym e))
          ∙ holds q ∙ sym (more ∙ ap (λ b. stands (take i order) q || b) (ne_eqb call q ne) ∙ or-false _)
    ]

-- Holds if the sequential set returns the reply at index `i` of the order after the preceding calls of the order.
abbrev GivesReply : ℕ → List CallRecord → List Placed → ℕ → SetState → Type 0
GivesReply quota calls order i s =
    reply_to quota (set_left_by s calls (take i order)) (placed_call calls order i).thread (placed_call calls order i).call
    ≡ (place_at order i).reply

-- Returns the state of the sequential set after the call at index `i` of the order. `s` is the state before the call at
-- index `i`.
abbrev after_place : List CallRecord → List Placed → ℕ → SetState → SetState
after_place calls order i s = after_call s (placed_call calls order i).thread (placed_call calls order i).call
    (place_at order i).reply

left_suc : (calls : List CallRecord) (order : List Placed) (i : ℕ) (s : SetState) → i < length order
    → set_left_by s calls (take (suc i) order) ≡ after_place calls order i (set_left_by s calls (take i order))
left_suc calls [] i s inside = absurd (omega arith)
left_suc calls (p ∷ ps) zero s inside = refl
left_suc calls (p ∷ ps) (suc i) s inside = left_suc calls ps i (after_place calls (p ∷ ps) 0 s) (omega arith)

pub left_more : (calls : List CallRecord) (order : List Placed) (i : ℕ) (s : SetState) → i < length order
    → set_left_by s calls (take (i + 1) order) ≡ after_place calls order i (set_left_by s calls (take i order))
left_more calls order i s inside = rw add-one (left_suc calls order i s inside)

legal_suc : (quota : ℕ) (calls : List CallRecord) (order : List Placed) (i : ℕ) (s : SetState) → i < length order
    → IsLegal quota s (map (answered calls) (take i order)) → GivesReply quota calls order i s
    → IsLegal quota s (map (answered calls) (take (suc i) order))
legal_suc quota calls [] i s inside h e = absurd (omega arith)
legal_suc quota calls (p ∷ ps) zero s inside h e = (e, tt)
legal_suc quota calls (p ∷ ps) (suc i) s inside h e =
    (h.0, legal_suc quota calls ps i (after_place calls (p ∷ ps) 0 s) (omega arith) h.1 e)

pub legal_more : (quota : ℕ) (calls : List CallRecord) (order : List Placed) (i : ℕ) (s : SetState) → i < length order
    → IsLegal quota s (map (answered calls) (take i order)) → GivesReply quota calls order i s
    → IsLegal quota s (map (answered calls) (take (i + 1) order))
legal_more quota calls order i s inside h e = rw add-one (legal_suc quota calls order i s inside h e)

pub legal_at : (quota : ℕ) (calls : List CallRecord) (order : List Placed) (i : ℕ) (s : SetState) → i < length order
    → IsLegal quota s (map (answered calls) order) → GivesReply quota calls order i s
legal_at quota calls [] i s inside h = absurd (omega arith)
legal_at quota calls (p ∷ ps) zero s inside h = h.0
legal_at quota calls (p ∷ ps) (suc i) s inside h = legal_at quota calls ps i (after_place calls (p ∷ ps) 0 s) (omega arith) h.1

pub replies_more : (o : OracleValue) (calls : List CallRecord) (order : List Placed) (i : ℕ) → i < length order
    → HasReplies o calls (take i order)
    → HasReply (after_order o calls (take i order)) (placed_call calls order i) (place_at order i).reply
    → HasReplies o calls (take (i + 1) order)
replies_more o calls order i inside h r = record {
  recorded = All-more (λ (p : Placed). IfSome (call_numbered calls p.call).ended (λ (end : ℕ × Reply). end.1 ≡ p.reply))
      order i (place_at [] 0) inside h.recorded r.recorded;
  legal = legal_more o.quota calls order i o.state inside h.legal r.given;
}

pub order_more : (o : OracleValue) (calls : List CallRecord) (order : List Placed) (i : ℕ) → i < length order
    → after_order o calls (take (i + 1) order)
    ≡ after_reply (after_order o calls (take i order)) (placed_call calls order i) (place_at order i).reply
order_more o calls order i inside =
    ap (λ (s : SetState). let v : OracleValue = record { threads = o.threads; quota = o.quota; state = s } in v)
    (left_more calls order i o.state inside)

pub reply_there : (o now : OracleValue) (calls : List CallRecord) (order : List Placed) (i : ℕ) (x : CallRecord)
    → now ≡ after_order o calls (take i order) → x ≡ placed_call calls order i → HasReply now x (place_at order i).reply
    → HasReply (after_order o calls (take i order)) (placed_call calls order i) (place_at order i).reply
reply_there o now calls order i x e f h = rw (e, f) at h

pub other_reply_there : (o now : OracleValue) (calls : List CallRecord) (order : List Placed) (i : ℕ) (x : CallRecord)
    → now ≡ after_order o calls (take i order) → x ≡ placed_call calls order i → HasOtherReply now x (place_at order i).reply
    → HasWrongReply o.quota o.state calls order i
other_reply_there o now calls order i x e f h = rw (e, f) at h

pub goes_on_there : (o now : OracleValue) (calls : List CallRecord) (order : List Placed) (i : ℕ) (x : CallRecord)
    → i < length order → now ≡ after_order o calls (take i order) → x ≡ placed_call calls order i
    → after_reply now x (place_at order i).reply ≡ after_order o calls (take (i + 1) order)
goes_on_there o now calls order i x inside e f = rw (e, f) (sym (order_more o calls order i inside))

other_end : (o : Option (ℕ × Reply)) (reply : Reply) → IfSome o (λ (end : ℕ × Reply). end.1 ≡ reply)
    → IsSomeAnd o (λ (end : ℕ × Reply). end.1 ≢ reply) → ⊥
other_end None reply h w = w
other_end (Some e) reply h w = w h

pub passes_replies : (o : OracleValue) (calls : List CallRecord) (order : List Placed) → HasReplies o calls order
    → Passes (HasWrongReply o.quota o.state calls order) order
passes_replies o calls order h place low (inl w) = other_end _ _ (h.recorded place (place_at [] 0) low) w
passes_replies o calls order h place low (inr w) = w (legal_at o.quota calls order place o.state low h.legal)

wrong_in_front : (quota : ℕ) (s : SetState) (calls : List CallRecord) (order : List Placed) (i k : ℕ) → k < i
    → HasWrongReply quota s calls order k → HasWrongReply quota s calls (take i order) k
wrong_in_front quota s calls order i k low w =
    rw (take-take k i order (omega arith), get_or-take i order k (place_at [] 0) low) w

pub right_before : (o : OracleValue) (calls : List CallRecord) (order : List Placed) (i : ℕ) → i ≤ length order
    → HasReplies o calls (take i order) → (k : ℕ) → k < i → HasWrongReply o.quota o.state calls order k → ⊥
right_before o calls order i inside h k low w =
    passes_replies o calls (take i order) h k (omega (arith, length-take i order))
    (wrong_in_front o.quota o.state calls order i k low w)
