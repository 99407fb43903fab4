-- Proof: if the seat passed to `close` (a per-thread handle) holds all seats of the set, the seat has seen all events
-- of the run. Therefore its events determine the final keys.
use Rattle.std.proofs.Common.{◌≡◌, inl, ℕ, zero, suc, ◌+◌, ◌/◌, ◌<◌, false, List, [], ◌∷◌, map, length, None, refl, sym, ap, ◌∙◌}
use Rattle.std.proofs.Common.{subst, arith}
use mathlib.Core.Option.{some, some-injective, some-ne-none}
use lib.ListN.{get_elem?}
use Rattle.std.specs.Prelude.{slice_index, if◌then◌else◌, nat_lt, ◌&&◌, ◌==◌, ◌%◌, ◌-◌}
use Rattle.std.specs.List.{AllByRecursion}
use Rattle.std.proofs.lemmas.List.Elements.{recursion_from_All, All-from_recursion, All-cons, All-nil}
use Rattle.lset_words.specs.Words.{word_count, node_count, Sizes, Opening, sizes, IsWithin}
use Rattle.lset_words.specs.declared.history.CallRecord.{CallRecord}
use Rattle.lset_words.specs.declared.history.Placed.{Placed}
use Rattle.lset_words.specs.History.{answered, no_call}
use Rattle.lset_words.specs.SequentialSet.{Answered, opening_set, set_left}
use Rattle.lset_words.proofs.Bounds.{nodes_within}
use Rattle.lset_lists.specs.Headline.{RunsAreLinearizable}
use Rattle.lset_steps.specs.Steps.{Table, State}
use Rattle.lset_steps.specs.Laws.{Lawful, StateLaws, used_in}
use Rattle.lset_steps.specs.Chain.{View as ChainView, Segment, view}
use Rattle.lset_steps.specs.Worlds.{IsContent, keys_in}
use Rattle.lset_rule.specs.declared.view.View.{View}
use Rattle.lset_rule.specs.Pasts.{calls_of}
use Rattle.lset_rule.specs.Runs.{end_of, history_of}
use Rattle.lset_rule.specs.Views.{Stands}
use Rattle.lset_rule.specs.Rule.{Holds}
use Rattle.atomic_table.specs.Table.{Final, Seen}
use Rattle.lset_rule.proofs.OneMoreEvent.{end_laws}
use Rattle.lset_rule.proofs.Counts.{has_all, closes}
use Rattle.lset_words.specs.Records.{Keeps}
use Rattle.lset_rule.specs.Dated.{record_of}
use Rattle.lset_live.specs.Explained.{IsOneLegalOrder, IsOneOrderInTime}
use Rattle.lset_live.specs.Closes.{LastWords, HasKeys, HasLaws, IsLast}
use Rattle.lset_live.proofs.DatedRecords.{said_by}
use Rattle.lset_live.proofs.OrderKeepsRecord.{calls_by_is}
use Rattle.lset_rule.proofs.RecordsOfRuns.{none_in}
use Rattle.lset_live.proofs.SeenExplained.{own, order, explains, turns, kept}

-- The nodes that can be reached from the head, and the keys of these nodes, do not depend on how many of the threads'
-- slots (nodes reserved for adds) are in use.
module _ (sz : Sizes) (ws : List ℕ) (used other : ℕ → ℕ) where
  same_segment : (i : ℕ) (ns : List ℕ) (j : ℕ) → Segment (view sz ws used) i ns j → Segment (view sz ws other) i ns j
  same_segment i [] j s = s
  same_segment i (a ∷ ns) j s = (s.0, s.1, same_segment ((view sz ws used).link i / 2) ns j s.2)

  same_keys : (ns : List ℕ) → keys_in (view sz ws used) ns ≡ keys_in (view sz ws other) ns
  same_keys [] = refl
  same_keys (b ∷ bs) = ap (λ (l : List ℕ). if nat_lt 1 b && (view sz ws used).link b % 2 == 0 then ((view sz ws used).key b - 1)
      ∷ l else l) (same_keys bs)

  pub same_content : (keys : List ℕ) → IsContent (view sz ws used) keys → IsContent (view sz ws other) keys
  same_content keys c = ((c.0.0, same_segment 0 c.0.0 1 c.0.1, c.0.2 ∙ same_keys c.0.0), c.1)

one_segment : (v : ChainView) (i : ℕ) (ns ms : List ℕ) → Segment v i ns 1 → Segment v i ms 1 → ns ≡ ms
one_segment v i [] [] s t = refl
one_segment v i [] (m ∷ ms) s t = absurd (t.1 s)
one_segment v i (n ∷ ns) [] s t = absurd (s.1 t)
one_segment v i (n ∷ ns) (m ∷ ms) s t = λ j. (s.0 ∙ sym t.0) j ∷ one_segment v (v.link i / 2) ns ms s.2 t.2 j

pub one_content : (v : ChainView) (keys others : List ℕ) → IsContent v keys → IsContent v others → keys ≡ others
one_content v keys others c d = c.0.2 ∙ (ap (keys_in v) (one_segment v 0 c.0.0 d.0.0 c.0.1 d.0.1) ∙ sym d.0.2)

-- ---- Lemmas about a seat (per-thread handle) that holds all seats of the set
module _ (T : Table) (law : Lawful T) (v : View) (st : Stands T v) (idle : v.under ≡ None) (linear : RunsAreLinearizable T)
    (full : length v.others + 1 ≡ v.shape.threads) where
  abbrev k : Opening
  k = v.shape

  abbrev H : List CallRecord
  H = history_of T v.shape v.seen

  of_threads : (ps : List Placed) → AllByRecursion (λ (p : Placed). p.call < length H) ps →
      AllByRecursion (λ (a : Answered). a.thread < k.threads) (map (answered H) ps)
  of_threads [] a = tt
  of_threads (p ∷ ps) a = (((explains T law v st idle linear).history.each p.call no_call a.0).of_a_thread, of_threads ps a.1)

  pub closed_explains : (ws : List ℕ) → ws ≡ (end_of T k v.seen).words → (keys : List ℕ) →
      HasKeys (record { sizes = sizes k; words = ws }) keys
      → IsOneLegalOrder k (record_of v.past ∷ []) keys
  closed_explains ws is keys has =
      let ex = explains T law v st idle linear in
      let P : List Placed = order T law v st idle linear in
      let known = recursion_from_All (λ (x : Placed). x.call < length H) P ex.linearizes.known in
      let now : IsContent (view (sizes k) (end_of T k v.seen).words (λ t. 0)) keys =
      subst (λ z. IsContent (view (sizes k) z (λ t. 0)) keys) is has in
      record {
        order = map (answered H) P;
        legal = ex.linearizes.legal;
        keeps = All-cons (Keeps (map (answered H) P)) (record_of v.past) [] (kept T law v st idle linear)
            (All-nil (Keeps (map (answered H) P)));
        threads = All-from_recursion (λ (a : Answered). a.thread < k.threads) (map (answered H) P) (of_threads P known);
        no_other = λ u low out. calls_by_is k.quota (opening_set k) H P ex.linearizes (turns T law v st idle linear) u
            (calls_of u v.past) (own T law v st idle u (has_all T v st full u low))
            ∙ ap (map (said_by u)) (none_in u v.past (λ n. out (inl n)));
        leaves = one_content (view (sizes k) (end_of T k v.seen).words (used_in (end_of T k v.seen)))
            (set_left (opening_set k) (map (answered H) P)).keys keys
            ex.content (same_content (sizes k) (end_of T k v.seen).words (λ t. 0) (used_in (end_of T k v.seen)) keys now);
      }

  pub closed_in_time : (ws : List ℕ) → ws ≡ (end_of T k v.seen).words → (keys : List ℕ) →
      HasKeys (record { sizes = sizes k; words = ws }) keys
      → IsOneOrderInTime T k v.seen (record_of v.past ∷ []) keys
  unfolding closed_explains
  closed_in_time ws is keys has = record {
    run = st.ran;
    placed = order T law v st idle linear;
    linearizes = (explains T law v st idle linear).linearizes;
    one = closed_explains ws is keys has;
    is = refl;
  }

module _ (T : Table) (law : Lawful T) (v : View) (st : Stands T v) (sp : v.spent ≡ false) (idle : v.under ≡ None) (k : Opening)
    (shape : v.shape ≡ k)
    (full : length v.others + 1 ≡ k.threads) (id : ℕ) (ws : List ℕ) (xs : List (Unit {0})) (final : Final (Seen (Holds T k) id v) ws xs) where
  last : ws ≡ (end_of T v.shape v.seen).words
  last = closes T law k id v ws xs shape sp full final ∙ ap (λ (z : Opening). (end_of T z v.seen).words) (sym shape)

  pub last_in_time : RunsAreLinearizable T → (keys : List ℕ) → HasKeys (record { sizes = sizes k; words = ws }) keys →
      IsOneOrderInTime T k v.seen (record_of v.past ∷ []) keys
  last_in_time linear = subst (λ (z : Opening). (keys : List ℕ) → HasKeys (record { sizes = sizes z; words = ws }) keys →
      IsOneOrderInTime T z v.seen (record_of v.past ∷ []) keys) shape
      (closed_in_time T law v st idle linear (full ∙ sym (ap (λ (z : Opening). z.threads) shape)) ws last)

pub laws_of : (c : LastWords) → IsLast c → HasLaws c
laws_of c l =
    let s : State = end_of l.machine l.opening l.events in
    let laws : StateLaws l.machine.marks c.sizes s = subst (λ (z : Sizes). StateLaws l.machine.marks z s) l.of_sizes
    (end_laws l.machine l.law l.opening l.events l.run) in
    let within : IsWithin c.sizes = subst (λ (z : Sizes). IsWithin z) l.of_sizes l.run.opens.within in
    let n : length c.words ≡ word_count c.sizes = ap length l.words ∙ laws.words in
    subst (λ ws. HasLaws (record { sizes = c.sizes; words = ws })) (sym l.words) record {
      few = let w = laws.words in let m = nodes_within c.sizes within in omega arith;
      count = laws.words;
      used = used_in s;
      ordered = laws.ordered;
      head_key = laws.head_key;
      tail_key = laws.tail_key;
      inside = λ i p. let low : i < node_count c.sizes = laws.inside i p in let w = laws.words in omega arith;
    }

pub at_word : (l : List ℕ) (i x : ℕ) → get_elem? l i ≡ some x → x ≡ slice_index l i
at_word [] i x e = absurd (some-ne-none x (sym e))
at_word (y ∷ l) zero x e = sym (some-injective y x e)
at_word (y ∷ l) (suc i) x e = at_word l i x e
