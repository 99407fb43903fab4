-- Proof: the invariant of the channel is preserved when a message is sent or received, and when a pass (permission to
-- use the channel) is split or two passes are joined.
use Rattle.std.proofs.Common.{◌≡◌, ◌≢◌, ℕ, zero, suc, ◌+◌, ◌-◌, ◌<◌, ◌≤◌, List, [], ◌∷◌, ◌++◌, set, sym, refl, ap, ◌∙◌, subst}
use Rattle.std.proofs.Common.{⊎_elim, arith}
use Rattle.std.proofs.lemmas.List.{append-nil}
use Rattle.std.proofs.lemmas.List.Concat.{flat_map-append}
use mathlib.Core.Option.{some, some-ne-none}
use lib.ListN.{get_elem?}
use Rattle.crossbeam_channel.specs.Fifo.{Pushes, Pops, Forks, Merges, Learns}
use Rattle.atomic_table.proofs.Lists.{at_set, at_snoc}
use Rattle.lset_server.specs.declared.channel.TheConstants.{PARTS}
use Rattle.lset_server.specs.declared.channel.Message.{Message}
use Rattle.lset_server.specs.declared.channel.Tally.{Tally}
use Rattle.lset_server.specs.Tallies.{tally, number_of, numbers, weigh, total, IdleIsEmpty, IsBalanced}

some_is : {A : Type 0} (x y : A) → some x ≡ some y → x ≡ y
some_is x y e = cc

pub weigh-append : (h : ℕ → ℕ) (xs ys : List ℕ) → weigh h (xs ++ ys) ≡ weigh h xs + weigh h ys
weigh-append h [] ys = omega arith
weigh-append h (x ∷ xs) ys = omega (arith, weigh-append h xs ys)

total_set : (f : Tally → ℕ) (views : List Tally) (port : ℕ) (v w : Tally) → get_elem? views port ≡ some v →
    total f (set views port w) + f v ≡ total f views + f w
total_set f [] port v w at = absurd (some-ne-none v (sym at))
total_set f (x ∷ xs) zero v w at = let e : f x ≡ f v = ap f (some_is x v at) in omega (arith, e)
total_set f (x ∷ xs) (suc port) v w at = omega (arith, total_set f xs port v w at)

idle_set : (views : List Tally) (port : ℕ) (w : Tally) → (w.parts ≡ 0 → (w.sent ≡ []) × (w.received ≡ [])) → IdleIsEmpty views →
    IdleIsEmpty (set views port w)
idle_set views port w mine others j u e none =
    ⊎_elim (λ (x : (j ≡ port) × (w ≡ u)). subst (λ (y : Tally). y.parts ≡ 0 → (y.sent ≡ []) × (y.received ≡ [])) x.1 mine none)
    (λ (x : (j ≢ port) × (get_elem? views j ≡ some u)). others j u x.1 none) (at_set views port j w u e)

pub puts : {S : Type 0} (n port : ℕ) (v : Tally) (x : Message S) → 0 < v.parts →
    Pushes (λ items views. IsBalanced (numbers items) views) n port v x
    (λ w. w ≡ tally v.parts (v.sent ++ number_of x) v.received)
puts n port v x some_part items views room b at =
    let w : Tally = tally v.parts (v.sent ++ number_of x) v.received in
    let pushed : numbers (items ++ x ∷ []) ≡ numbers items ++ number_of x = flat_map-append number_of items (x ∷ [])
    ∙ ap (λ (t : List ℕ). numbers items ++ t) (append-nil (number_of x)) in (
      w,
      rw pushed (
        (let s = total_set (λ u. u.parts) views port v w at in omega (arith, s, b.0)),
        (λ h.
            let s = total_set (λ u. weigh h u.sent) views port v w at in
            let t = total_set (λ u. weigh h u.received) views port v w at in
            omega (arith, s, t, b.1 h, weigh-append h v.sent (number_of x), weigh-append h (numbers items) (number_of x))),
        idle_set views port w (λ none. absurd (omega (arith, some_part, none))) b.2,
      ),
      refl,
    )

pub takes : {S : Type 0} (port : ℕ) (v : Tally) → 0 < v.parts →
    Pops {T = Message S} (λ items views. IsBalanced (numbers items) views) port v
    (λ x w. w ≡ tally v.parts v.sent (v.received ++ number_of x))
takes port v some_part x items views b at =
    let w : Tally = tally v.parts v.sent (v.received ++ number_of x) in (
      w,
      (
        (let s = total_set (λ u. u.parts) views port v w at in omega (arith, s, b.0)),
        (λ h.
            let s = total_set (λ u. weigh h u.sent) views port v w at in
            let t = total_set (λ u. weigh h u.received) views port v w at in
            omega (arith, s, t, b.1 h, weigh-append h v.received (number_of x), weigh-append h (number_of x) (numbers items))),
        idle_set views port w (λ none. absurd (omega (arith, some_part, none))) b.2,
      ),
      refl,
    )

total_snoc : (f : Tally → ℕ) (views : List Tally) (w : Tally) → total f (views ++ w ∷ []) ≡ total f views + f w
total_snoc f [] w = omega arith
total_snoc f (x ∷ xs) w = omega (arith, total_snoc f xs w)

pub forks : {S : Type 0} (port : ℕ) (v : Tally) → 1 < v.parts →
    Forks {T = Message S} (λ items views. IsBalanced (numbers items) views) port v (tally (v.parts - 1) v.sent v.received)
    (tally 1 [] [])
forks port v parts items views b at =
    let l : Tally = tally (v.parts - 1) v.sent v.received in
    let r : Tally = tally 1 [] [] in
    let vs : List Tally = set views port l in (
      (let s = total_set (λ u. u.parts) views port v l at in omega (arith, s, b.0, parts, total_snoc (λ u. u.parts) vs r)),
      (λ h.
          let s = total_set (λ u. weigh h u.sent) views port v l at in
          let t = total_set (λ u. weigh h u.received) views port v l at in
          omega (arith, s, t, b.1 h, total_snoc (λ u. weigh h u.sent) vs r, total_snoc (λ u. weigh h u.received) vs r)),
      λ j u e none. ⊎_elim (λ x. idle_set views port l (λ zero. absurd (omega (arith, parts, zero))) b.2 j u x none)
          (λ (is : r ≡ u). absurd (let one : r.parts ≡ u.parts = ap (λ (y : Tally). y.parts) is in omega (arith, one, none)))
          (at_snoc vs r u j e),
    )

pub merges : {S : Type 0} (port : ℕ) (v : Tally) (other : ℕ) (u : Tally) → 0 < v.parts
    → Merges {T = Message S} (λ items views. IsBalanced (numbers items) views) port v other u
    (tally (v.parts + u.parts) (v.sent ++ u.sent) (v.received ++ u.received)) (tally 0 [] [])
merges port v other u some_part items views b at two at' =
    let both : Tally = tally (v.parts + u.parts) (v.sent ++ u.sent) (v.received ++ u.received) in
    let spent : Tally = tally 0 [] [] in
    let vs : List Tally = set views port both in (
      (let s = total_set (λ y. y.parts) views port v both at in let t = total_set (λ y. y.parts) vs other u spent at' in
          omega (arith, s, t, b.0)),
      (λ h.
          let s = total_set (λ y. weigh h y.sent) views port v both at in
          let t = total_set (λ y. weigh h y.sent) vs other u spent at' in
          let s' = total_set (λ y. weigh h y.received) views port v both at in
          let t' = total_set (λ y. weigh h y.received) vs other u spent at' in
          omega (arith, s, t, s', t', b.1 h, weigh-append h v.sent u.sent, weigh-append h v.received u.received)),
      idle_set vs other spent (λ _. (refl, refl)) (idle_set views port both (λ zero. absurd (omega (arith, some_part, zero)))
          b.2),
    )

no_parts : (f : Tally → ℕ) (views : List Tally) → ((j : ℕ) (u : Tally) → get_elem? views j ≡ some u → u.parts ≡ 0 → f u ≡ 0) →
    total (λ u. u.parts) views ≡ 0 → total f views ≡ 0
no_parts f [] h none = refl
no_parts f (x ∷ xs) h none = omega (
  arith,
  h 0 x refl (omega (arith, none)),
  no_parts f xs (λ j u e z. h (suc j) u e z) (omega (arith, none)),
)

only : (f : Tally → ℕ) (views : List Tally) (port : ℕ) (v : Tally) →
    ((j : ℕ) (u : Tally) → get_elem? views j ≡ some u → u.parts ≡ 0 → f u ≡ 0) → get_elem? views port ≡ some v →
    total (λ u. u.parts) views ≡ v.parts → total f views ≡ f v
only f [] port v h at all = absurd (some-ne-none v (sym at))
only f (x ∷ xs) zero v h at all =
    let e : x ≡ v = some_is x v at in
    let p : x.parts ≡ v.parts = ap (λ (y : Tally). y.parts) e in
    let same : f x ≡ f v = ap f e in
    omega (arith, same, no_parts f xs (λ j u e z. h (suc j) u e z) (omega (arith, all, p)))
only f (x ∷ xs) (suc port) v h at all =
    let le = part_le xs port v at in
    let none : x.parts ≡ 0 = omega (arith, all, le) in
    omega (arith, h 0 x refl none, only f xs port v (λ j u e z. h (suc j) u e z) at (omega (arith, all, none)))
  where
    part_le : (views : List Tally) (port : ℕ) (v : Tally) → get_elem? views port ≡ some v → v.parts ≤ total (λ u. u.parts) views
    part_le [] port v at = absurd (some-ne-none v (sym at))
    part_le (x ∷ xs) zero v at = let p : x.parts ≡ v.parts = ap (λ (y : Tally). y.parts) (some_is x v at) in omega (arith, p)
    part_le (x ∷ xs) (suc port) v at = omega (arith, part_le xs port v at)

pub learns : {S : Type 0} (port : ℕ) (v : Tally) → v.parts ≡ PARTS →
    Learns {T = Message S} (λ items views. IsBalanced (numbers items) views) port v (λ items. (h : ℕ → ℕ) →
    weigh h v.sent ≡ weigh h v.received + weigh h (numbers items))
learns port v all items views b at h =
    let put = only (λ u. weigh h u.sent) views port v (λ j u e z. ap (weigh h) (b.2 j u e z).0) at (omega (arith, b.0, all)) in
    let taken = only (λ u. weigh h u.received) views port v (λ j u e z. ap (weigh h) (b.2 j u e z).1) at (omega (arith, b.0, all))
    in
    omega (arith, put, taken, b.1 h)
