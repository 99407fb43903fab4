-- Proof that a list has at most MOST_NODES nodes, and that different slots (nodes reserved for adds) are different
-- nodes.
use Rattle.std.specs.Prelude.{◌≡◌, ℕ, ◌+◌, ◌*◌, ◌<◌, ◌≤◌}
use Rattle.std.proofs.Common.{arith, ap}
use Rattle.lset_words.specs.declared.TheConstants.{MOST_THREADS, MOST_QUOTA, MOST_OPENING, MOST_NODES}
use Rattle.lset_words.specs.Words.{Sizes, IsWithin, Opens, sizes, empty, node_count}

pub few_nodes : (threads quota opening : ℕ) → threads ≤ MOST_THREADS → quota ≤ MOST_QUOTA → opening ≤ MOST_OPENING
    → 2 + threads * quota + opening ≤ MOST_NODES
few_nodes threads quota opening few small opens =
    let most : threads * quota ≤ 64 * quota = grind arith in omega arith

pub nodes_within : (s : Sizes) → IsWithin s → node_count s ≤ MOST_NODES
nodes_within s w = few_nodes s.threads s.quota s.opening w.few w.small w.opens

pub row_once : (quota t u i j : ℕ) → i < quota → j < quota → t * quota + i ≡ u * quota + j → (t ≡ u) × (i ≡ j)
row_once quota t u i j a b e =
    let row : t ≡ u = grind arith in
    let same : t * quota ≡ u * quota = ap (λ x. x * quota) row in
    (row, omega arith)

pub opens_empty : (threads quota : ℕ) → IsWithin (sizes (empty threads quota)) → Opens (empty threads quota)
opens_empty threads quota within = record {
  within = within;
  increasing = λ k l. absurd (omega arith);
  low = λ k d l. absurd (omega arith);
}
