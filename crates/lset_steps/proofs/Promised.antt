-- Proof of the properties in `specs/Promises.antt` for every machine (a list algorithm as a table of steps) that
-- satisfies its law.
use Rattle.std.specs.Prelude.{◌≡◌, ◌≢◌, ℕ, suc, ◌+◌, ◌/◌, ◌<◌, ◌≤◌, ◌⊎◌, Bool, true, false, if◌then◌else◌, ◌==◌, List, [], ◌∷◌}
use Rattle.std.specs.Prelude.{◌++◌, map, Some, length, refl}
use Rattle.std.proofs.Common.{arith, inl, inr, sym, ap, subst}
use Rattle.lset_words.specs.declared.Call.{Call}
use Rattle.lset_words.specs.declared.Call.TheVariants as call
use Rattle.lset_words.specs.declared.Reply.TheVariants.{True}
use Rattle.lset_words.specs.Words.{word_count, Sizes, Opening, sizes}
use Rattle.lset_words.specs.Log.{Log, Entry, last_call, begun_at, has_changed}
use Rattle.lset_words.specs.Log.Entry.{began, stepped}
use Rattle.lset_words.specs.Account.{Enters, Contents, Counts, RightReply}
use Rattle.lset_steps.specs.declared.Event.{Event}
use Rattle.lset_steps.specs.declared.Event.TheVariants.{Go}
use Rattle.lset_steps.specs.Steps.{Table, State, Run, Enabled, state_at, local_of, log_of}
use Rattle.lset_steps.specs.Chain.{View, IsOrdered, IsChain, Segment, contents_of, counts_of}
use Rattle.lset_steps.specs.Laws.{Lawful, StateLaws, StepAt, word_named, views}
use Rattle.lset_steps.specs.Worlds.{keys_in}
use Rattle.lset_steps.proofs.MoreEvents.{state_agree}
use Rattle.lset_words.proofs.Numbers.{if_same, if_other}
use Rattle.lset_words.proofs.IncreasingLists.{IncreasesFrom, increases_less, increasing_from_increases}
use Rattle.lset_steps.proofs.ContentLists.{chain_is}
use Rattle.lset_steps.proofs.RunContents.{ContentList, content_at}
use Rattle.lset_steps.proofs.RunAccount.{account_of}
use Rattle.lset_steps.proofs.LockWords.{lock_word}
use Rattle.lset_steps.specs.Promises.{FrozenNodes, NoLinkIsMarked, InRange, ThreadInRange, SortedChain, ChainIsSorted, LockWords, LockUses}
use Rattle.lset_steps.specs.Promises.{UnlinkedNodesStay, SeenInThePast, UnmarkedNodesInChain, ChangeIsNamed, NamedChange, RepliesFit}
use Rattle.lset_steps.specs.Promises.{IsContains, TrueMeansChange, HasAccount, ContentIsListed, ListedContent}

-- Lemmas about a second run, which agrees with the given run up to moment `k`, and whose next event is a step of thread
-- `t`.
module _ (T : Table) (law : Lawful T) (op : Opening) (last k t : ℕ) (es : ℕ → Event) (r : Run T op es last) (l : k ≤ last)
    (below : t < op.threads) where
  abbrev more : ℕ → Event
  more j = if j == k then Go t else es j

  same_state : (j : ℕ) → j ≤ k → state_at T op more j ≡ state_at T op es j
  same_state j h = state_agree T op es more j (λ i g. if_other i k (omega arith) (Go t) (es i))

  goes_now : more k ≡ Go t
  goes_now = if_same k k refl (Go t) (es k)

  enabled_more : (local_of (state_at T op es k) t).pc ≢ 0 → (j : ℕ) → (j ≡ k) ⊎ (j < k)
      → Enabled (state_at T op more j) (more j)
  enabled_more h j (inl e) =
      let o : StateLaws T.marks (sizes op) (state_at T op es k) = law.states op last k es r l in
      let th : t < length (state_at T op es k).locals = rw o.locals below in
      subst (λ i. Enabled (state_at T op more i) (more i)) (sym e)
      (subst (λ z. Enabled (state_at T op more k) z) (sym goes_now)
      (subst (λ z. Enabled z (Go t)) (sym (same_state k (omega arith))) (th, h)))
  enabled_more h j (inr g) =
      subst (λ z. Enabled (state_at T op more j) z) (sym (if_other j k (omega arith) (Go t) (es j)))
      (subst (λ z. Enabled z (es j)) (sym (same_state j (omega arith))) (r.enabled j (omega arith)))

  last_or_before : (j : ℕ) → j < suc k → (j ≡ k) ⊎ (j < k)
  last_or_before j h = grind arith

  run_more : (local_of (state_at T op es k) t).pc ≢ 0 → Run T op more (suc k)
  run_more h = record { opens = r.opens; enabled = λ j g. enabled_more h j (last_or_before j g) }

  action_in_table : (local_of (state_at T op es k) t).pc ≢ 0
      → word_named (T.next (local_of (state_at T op es k) t)) < word_count (sizes op)
  action_in_table h =
      let st : StepAt T op more k t = law.steps op (suc k) k t more (run_more h) (omega arith) goes_now in
      subst (λ (s : State). word_named (T.next (local_of s t)) < word_count (sizes op)) (same_state k (omega arith)) st.in_table

  pub thread_in_range : ThreadInRange T (sizes op) t (local_of (state_at T op es k) t)
  thread_in_range = record {
    registers = (law.states op last k es r l).threads t below;
    action = action_in_table;
  }

pub in_range_of : (T : Table) → Lawful T → InRange T
in_range_of T law op last k t es r l below = thread_in_range T law op last k t es r l below

chain_increases : (v : View) → IsOrdered v → (i : ℕ) (ns : List ℕ) → v.published i → Segment v i ns 1
    → IncreasesFrom (v.key i) (map v.key (ns ++ 1 ∷ []))
chain_increases v ord i [] m s = let e : v.key i ≡ v.key 1 = ap v.key s in (omega arith, tt)
chain_increases v ord i (a ∷ ns) m s =
    let e : v.key a ≡ v.key i = ap v.key s.0 in
    let up : v.key i < v.key (v.link i / 2) = ord.increases i m s.1 in
    let rest : IncreasesFrom (v.key (v.link i / 2)) (map v.key (ns ++ 1 ∷ [])) =
    chain_increases v ord (v.link i / 2) ns (ord.next_published i m s.1) s.2 in
    (omega arith, increases_less (v.key a + 1) (v.key (v.link i / 2)) (map v.key (ns ++ 1 ∷ [])) (omega arith) rest)

sorted_of : (v : View) → IsOrdered v → (c : (ns : List ℕ) × IsChain v ns) → ChainIsSorted v
sorted_of v ord c = record {
  nodes = c.0;
  chain = c.1;
  increasing = λ k l. increasing_from_increases (v.key 0) (map v.key (c.0 ++ 1 ∷ [])) (chain_increases v ord 0 c.0 ord.head_published c.1) k
      l;
}

pub sorted_chain_of : (T : Table) → Lawful T → SortedChain T
sorted_chain_of T law op last k es r l =
    let o : StateLaws T.marks (sizes op) (state_at T op es k) = law.states op last k es r l in
    sorted_of (views T op es k) o.ordered (chain_is (views T op es k) o.ordered)

pub lock_words_of : (T : Table) → Lawful T → LockWords T
lock_words_of T law op last k x es r l i h = lock_word T law op es last x r i h k l

pub lock_uses_of : (T : Table) → Lawful T → LockUses T
lock_uses_of T law op last k t es r l e = (law.steps op last k t es r l e).lock_use

pub unlinked_stays_of : (T : Table) → Lawful T → UnlinkedNodesStay T
unlinked_stays_of T law op last j k i es r below l m = law.unlinked_stays op last j k i es r below l m

pub seen_before_of : (T : Table) → Lawful T → SeenInThePast T
seen_before_of T law op last j k b es r below l c = law.seen_before op last j k b es r below l c

pub unmarked_in_chain_of : (T : Table) → Lawful T → UnmarkedNodesInChain T
unmarked_in_chain_of T law op last k es r l = (law.states op last k es r l).marked

pub account_is : (T : Table) → Lawful T → HasAccount T
account_is T law op last es r = account_of T law op es last r

change_named : (sz : Sizes) (log : Log) (contents : Contents) (counts : Counts) (k : ℕ) (e : Entry)
    → Enters sz.threads sz.quota log contents counts k e
    → ChangeIsNamed sz.threads sz.quota log contents counts k e
change_named sz log contents counts k (began t call) a = (a.content, a.same_counts)
change_named sz log contents counts k (stepped t change reply) a = (a.content, a.may, a.own_count, a.other_counts)

pub named_change_of : (T : Table) → Lawful T → NamedChange T
named_change_of T law op last k es r l =
    change_named (sizes op) (log_of T op es) (contents_of (views T op es)) (counts_of (views T op es)) k (log_of T op es k)
    ((account_is T law op last es r).enters k l)

pub no_link_is_marked_of : (T : Table) → Lawful T → NoLinkIsMarked T
no_link_is_marked_of T law op last k i es r l bare inn = (law.states op last k es r l).unmarked bare i inn

pub frozen_nodes_of : (T : Table) → Lawful T → FrozenNodes T
frozen_nodes_of T law op last k i es r l p = record {
  unlinked = λ out later a b. ((law.unlinked_stays op last k later i es r a b p).unlinked out).0;
  marked = λ marks odd later a b. (law.unlinked_stays op last k later i es r a b p).marked marks odd;
}

pub replies_fit_of : (T : Table) → Lawful T → RepliesFit T
replies_fit_of T law op last k t es change reply r l e =
    (subst (λ z. Enters op.threads op.quota (log_of T op es) (contents_of (views T op es)) (counts_of (views T op es)) k z) e
    ((account_is T law op last es r).enters k l)).right

true_or_read : (done : Bool) (q : ℕ) (contents : Contents) (counts : Counts) (first now t : ℕ) (called : Call)
    → RightReply done q contents counts first now t called (Some True) → (done ≡ true) ⊎ IsContains called
true_or_read true q contents counts first now t called h = inl refl
true_or_read false q contents counts first now t (call.Contains k) h = inr tt
true_or_read false q contents counts first now t called h = absurd h.fits

pub true_means_change_of : (T : Table) → Lawful T → TrueMeansChange T
true_means_change_of T law op last k t es change r l e =
    true_or_read (has_changed (log_of T op es) t (suc k)) op.quota (contents_of (views T op es)) (counts_of (views T op es))
    (begun_at (log_of T op es) t k) (suc k) t (last_call (log_of T op es) t k)
    (replies_fit_of T law op last k t es change True r l e)

listed : (v : View) → ContentList v → ContentIsListed v
listed v c = record {
  keys = keys_in v c.nodes;
  increasing = ((c.nodes, c.chain, refl), λ k l. increasing_from_increases 0 (keys_in v c.nodes) c.increases k l);
  member = c.have;
  only = c.from;
  low = c.low;
}

pub listed_content_of : (T : Table) → Lawful T → ListedContent T
listed_content_of T law op last k es r l = listed (views T op es k) (content_at T op last k es law r l)
