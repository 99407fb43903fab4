-- Lemmas that compare two forms of a record of completed calls: one with the event numbers of the calls, and one
-- without event numbers.
use Rattle.std.proofs.Common.{◌≡◌, ℕ, List, [], ◌∷◌, ◌++◌, map, refl, sym, ap, ◌∙◌}
use Rattle.std.proofs.lemmas.List.{map-append}
use Rattle.lset_words.specs.SequentialSet.{Answered}
use Rattle.lset_rule.specs.declared.view.OwnCall.{OwnCall}
use Rattle.lset_rule.specs.declared.view.Past.{Past, Fresh, Called', Gathered'}
use Rattle.lset_rule.specs.Pasts.{root}
use Rattle.lset_rule.proofs.RecordsOfRuns as dated
use Rattle.lset_words.specs.Records.{HasOwnCalls, own_calls, calls_by, placed_by}
use Rattle.lset_rule.specs.Dated.{call_of, record_of}

-- Converts a completed call of thread `u` to an entry of an order (a list of calls with their replies).
abbrev pub said_by : ℕ → OwnCall → Answered
said_by u c = placed_by u (call_of c)

own_are : (u : ℕ) (r : Past) → map (placed_by u) (own_calls (record_of r)) ≡ map (said_by u) (dated.own_calls r)
own_are u (Fresh t) = refl
own_are u (Called' p r c) = map-append (placed_by u) (own_calls (record_of r)) (call_of c ∷ [])
    ∙ (ap (λ l. l ++ said_by u c ∷ []) (own_are u r) ∙ sym (map-append (said_by u) (dated.own_calls r) (c ∷ [])))
own_are u (Gathered' p r q g) = own_are u r

pub has_own : (order : List Answered) (r : Past) → calls_by (root r) order ≡ map (said_by (root r)) (dated.own_calls r) →
    HasOwnCalls order (record_of r)
has_own order r e = e ∙ sym (own_are (root r) r)
