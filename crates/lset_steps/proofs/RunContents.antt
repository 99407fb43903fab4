-- Proof that at each moment of a run, the keys of the set are the items of a strictly increasing list of numbers below
-- 2^32.
use Rattle.std.proofs.Common.{◌≡◌, ◌≢◌, ℕ, ◌+◌, ◌/◌, ◌<◌, ◌≤◌, List, arith}
use Rattle.std.specs.Prelude.{Contains}
use Rattle.lset_words.specs.Words.{tail_word, Opening, sizes}
use Rattle.lset_steps.specs.declared.Event.{Event}
use Rattle.lset_steps.specs.Steps.{Table, Run, state_at}
use Rattle.lset_steps.specs.Chain.{View, IsOrdered, IsChain, InContent, InChain}
use Rattle.lset_steps.specs.Laws.{Lawful, StateLaws, views}
use Rattle.lset_steps.proofs.QuietMove.{in_chain_published}
use Rattle.lset_steps.specs.Worlds.{keys_in}
use Rattle.lset_words.proofs.IncreasingLists.{IncreasesFrom}
use Rattle.lset_steps.proofs.ContentLists.{chain_is, content_increases, content_have, content_from}

pub record ContentList (v : View) : Type 0 where
  pub nodes : List ℕ
  pub chain : IsChain v nodes
  pub increases : IncreasesFrom 0 (keys_in v nodes)
  pub have : (k : ℕ) → InContent v k → Contains (keys_in v nodes) k
  pub from : (k : ℕ) → Contains (keys_in v nodes) k → InContent v k
  pub low : (k : ℕ) → InContent v k → k < 4294967296

key_low : (v : View) → IsOrdered v → v.key 1 ≡ tail_word → (b k : ℕ) → InChain v b → v.key b ≡ k + 1 → b ≢ 1 → k < 4294967296
key_low v ord e b k i f d =
    let m : v.published b = in_chain_published v ord b i in
    let r : v.key b < v.key (v.link b / 2) = ord.increases b m d in
    let t : v.key (v.link b / 2) ≤ v.key 1 = ord.top (v.link b / 2) (ord.next_published b m d) in
    omega arith

pub content_at : (T : Table) (op : Opening) (last k : ℕ) (es : ℕ → Event) → Lawful T → Run T op es last → k ≤ last
    → ContentList (views T op es k)
content_at T op last k es law r l =
    let o : StateLaws T.marks (sizes op) (state_at T op es k) = law.states op last k es r l in
    let v : View = views T op es k in
    let c = chain_is (views T op es k) o.ordered in
    record {
      nodes = c.0;
      chain = c.1;
      increases = content_increases (views T op es k) o.ordered c.0 c.1;
      have = λ j h. content_have (views T op es k) c.0 j c.1 h;
      from = λ j h. content_from (views T op es k) o.ordered c.0 j c.1 h;
      low = λ j h. (let u : 1 < h.0 = h.2 in key_low (views T op es k) o.ordered o.tail_key h.0 j h.1 h.3 (λ e. omega arith));
    }
