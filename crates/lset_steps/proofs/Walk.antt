-- Lemmas about the walk of a `contains` or a `ceiling` along the chain without locks, for rows 20 to 25 of the step
-- table. The result of the walk was correct at some moment of the call (after O'Hearn and others).
use Rattle.std.proofs.Common.{◌≡◌, ◌≢◌, ℕ, ◌+◌, ◌/◌, ◌%◌, ◌<◌, ◌≤◌, sym, refl, ap, subst, ◌∙◌, arith}
use Rattle.lset_steps.specs.Chain.{View, IsOrdered, Seen}
use Rattle.lset_steps.proofs.Moves.{Course, InPast, Had, Lacked, At20, At21, At22, At25}
use Rattle.lset_steps.proofs.QuietMove.{in_chain_published}
use Rattle.lset_steps.proofs.Hindsight.{hindsight, next_in_past, key_stays, in_past_on, seen_on, lacked_between, had_at, lacked_at}

-- Lemmas: the assertions about a walk are about the past, so they still hold at later moments.
pub at20_on : (vs : ℕ → View) (first now later k curr : ℕ) → now ≤ later → At20 vs first now k curr → At20 vs first later k curr
at20_on vs first now later k curr l a = record { past = in_past_on vs first now later curr l a.past; low = a.low }

pub at21_on : (vs : ℕ → View) (first now later k curr : ℕ) → now ≤ later → At21 vs first now k curr → At21 vs first later k curr
at21_on vs first now later k curr l a =
    record { from = a.from; word = a.word; seen = seen_on vs first now later a.from a.word l a.seen; next = a.next; low = a.low }

pub at22_on : (vs : ℕ → View) (first now later k curr : ℕ) → now ≤ later → At22 vs first now k curr → At22 vs first later k curr
at22_on vs first now later k curr l a = record { past = in_past_on vs first now later curr l a.past; found = a.found }

pub at25_on : (vs : ℕ → View) (first now later k curr ckey : ℕ) → now ≤ later → At25 vs first now k curr ckey
    → At25 vs first later k curr ckey
unfolding at21_on
at25_on vs first now later k curr ckey l a = record {
  past = in_past_on vs first now later curr l a.past;
  walk = at21_on vs first now later k curr l a.walk;
  found = a.found;
  above = a.above;
}

pub no_tail : (v : View) → IsOrdered v → (b k : ℕ) → k + 1 < v.key 1 → v.key b < k + 1 → b ≢ 1
no_tail v ord b k t l e = let f : v.key b ≡ v.key 1 = ap v.key e in omega arith

-- Lemma about row 20 of the step table: the walk loads the link of `curr`, and continues with the next node.
pub from20 : (vs : ℕ → View) (n first now k curr : ℕ) → Course vs n → now ≤ n → At20 vs first now k curr
    → At21 vs first now k ((vs now).link curr / 2)
from20 vs n first now k curr r l a =
    let s : Seen vs first now curr ((vs now).link curr) = hindsight vs n first now curr r l a.past in
    let lp : a.past.at ≤ now = a.past.upto in
    let ls : s.at ≤ now = s.upto in
    let low : (vs a.past.at).key curr < k + 1 = a.low in
    let kp : (vs now).key curr ≡ (vs a.past.at).key curr =
    key_stays vs n curr a.past.at now r lp l
    (in_chain_published (vs a.past.at) (r.ordered a.past.at (omega arith)) curr a.past.in_chain) in
    let ks : (vs now).key curr ≡ (vs s.at).key curr =
    key_stays vs n curr s.at now r ls l (in_chain_published (vs s.at) (r.ordered s.at (omega arith)) curr s.in_chain) in
    record { from = curr; word = (vs now).link curr; seen = s; next = refl; low = omega arith }

-- Lemmas about row 21 of the step table: the walk loads the key of `curr`, and compares it with the call's key.
pub from21_on : (vs : ℕ → View) (n first now k curr : ℕ) → Course vs n → now ≤ n → At21 vs first now k curr
    → ((t : ℕ) → t ≤ n → k + 1 < (vs t).key 1)
    → InPast vs first now curr
from21_on vs n first now k curr r l a top =
    let la : a.seen.at ≤ now = a.seen.upto in
    subst (InPast vs first now) a.next (next_in_past vs first now a.from a.word
    (no_tail (vs a.seen.at) (r.ordered a.seen.at (omega arith)) a.from k (top a.seen.at (omega arith)) a.low) a.seen)

key_then : (vs : ℕ → View) (n first now curr : ℕ) → Course vs n → now ≤ n → (p : InPast vs first now curr)
    → (vs now).key curr ≡ (vs p.at).key curr
key_then vs n first now curr r l p =
    let lp : p.at ≤ now = p.upto in
    key_stays vs n curr p.at now r lp l (in_chain_published (vs p.at) (r.ordered p.at (omega arith)) curr p.in_chain)

pub from21_less : (vs : ℕ → View) (n first now k curr : ℕ) → Course vs n → now ≤ n → At21 vs first now k curr
    → ((t : ℕ) → t ≤ n → k + 1 < (vs t).key 1) → (vs now).key curr < k + 1 → At20 vs first now k curr
from21_less vs n first now k curr r l a top s =
    let p : InPast vs first now curr = from21_on vs n first now k curr r l a top in
    let e : (vs now).key curr ≡ (vs p.at).key curr = key_then vs n first now curr r l p in
    record { past = p; low = omega arith }

pub from21_same : (vs : ℕ → View) (n first now k curr : ℕ) → Course vs n → now ≤ n → At21 vs first now k curr
    → ((t : ℕ) → t ≤ n → k + 1 < (vs t).key 1) → (vs now).key curr ≡ k + 1 → At22 vs first now k curr
from21_same vs n first now k curr r l a top s =
    let p : InPast vs first now curr = from21_on vs n first now k curr r l a top in
    let e : (vs now).key curr ≡ (vs p.at).key curr = key_then vs n first now curr r l p in
    record { past = p; found = omega arith }

pub from21_more : (vs : ℕ → View) (n first now k curr : ℕ) → Course vs n → now ≤ n → At21 vs first now k curr
    → ((t : ℕ) → t ≤ n → k + 1 < (vs t).key 1) → k + 1 < (vs now).key curr → Lacked vs first now k
from21_more vs n first now k curr r l a top s =
    let la : a.seen.at ≤ now = a.seen.upto in
    let low : (vs a.seen.at).key a.from < k + 1 = a.low in
    let ka : (vs now).key a.from ≡ (vs a.seen.at).key a.from =
    key_stays vs n a.from a.seen.at now r la l
    (in_chain_published (vs a.seen.at) (r.ordered a.seen.at (omega arith)) a.from a.seen.in_chain) in
    lacked_between vs n first now a.from a.word k r l
    (no_tail (vs a.seen.at) (r.ordered a.seen.at (omega arith)) a.from k (top a.seen.at (omega arith)) a.low) a.seen
    (omega arith) (subst (λ x. k + 1 < (vs now).key x) (sym a.next) s)

-- Lemmas about row 24 of the step table: a `ceiling` loads the key of `curr`, a node that was published (had been in
-- the chain) when the walk read a link to it.
pub behind_published : (vs : ℕ → View) (n first now k curr : ℕ) → Course vs n → now ≤ n → (a : At21 vs first now k curr)
    → ((t : ℕ) → t ≤ n → k + 1 < (vs t).key 1) → (vs a.seen.at).published curr
behind_published vs n first now k curr r l a top =
    let la : a.seen.at ≤ now = a.seen.upto in
    let ord : IsOrdered (vs a.seen.at) = r.ordered a.seen.at (omega arith) in
    let e : (vs a.seen.at).link a.from / 2 ≡ curr = ap (λ x. x / 2) a.seen.link ∙ a.next in
    subst (λ x. (vs a.seen.at).published x) e (ord.next_published a.from
    (in_chain_published (vs a.seen.at) ord a.from a.seen.in_chain)
    (no_tail (vs a.seen.at) ord a.from k (top a.seen.at (omega arith)) a.low))

pub from24_more : (vs : ℕ → View) (n first now k curr : ℕ) → Course vs n → now ≤ n → (a : At21 vs first now k curr)
    → ((t : ℕ) → t ≤ n → k + 1 < (vs t).key 1) → k + 1 ≤ (vs now).key curr → At25 vs first now k curr ((vs now).key curr)
from24_more vs n first now k curr r l a top above =
    let la : a.seen.at ≤ now = a.seen.upto in record {
      past = from21_on vs n first now k curr r l a top;
      walk = a;
      found = sym (key_stays vs n curr a.seen.at now r la l (behind_published vs n first now k curr r l a top));
      above = above;
    }

-- Lemmas about row 22 of the step table: a `contains` loads the mark of `curr`, the node with the call's key, and
-- replies.
pub from22_true : (vs : ℕ → View) (n first now k curr : ℕ) → Course vs n → now ≤ n → At22 vs first now k curr
    → 1 < curr → (vs now).link curr % 2 ≡ 0 → Had vs first now k
from22_true vs n first now k curr r l a u e =
    had_at vs n first now curr k r l a.past u (key_then vs n first now curr r l a.past ∙ a.found) e

pub from22_false : (vs : ℕ → View) (n first now k curr : ℕ) → Course vs n → now ≤ n → At22 vs first now k curr
    → (vs now).link curr % 2 ≡ 1 → Lacked vs first now k
from22_false vs n first now k curr r l a e =
    lacked_at vs n first now curr k r l a.past (key_then vs n first now curr r l a.past ∙ a.found) e
