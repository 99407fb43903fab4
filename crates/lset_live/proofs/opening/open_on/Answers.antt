use Rattle.std.specs.Prelude.{All, ◌^◌}
use Rattle.std.specs.List.Sorted.{IsStrictlyIncreasing}
use Rattle.std.proofs.Common.{rules, ◌≡◌, ℕ, ◌+◌, ◌-◌, ◌<◌, ◌≤◌, List, [], ◌∷◌, ◌++◌, map, length, refl, sym, ap, ◌∙◌, subst}
use Rattle.std.proofs.Common.{arith}
use Rattle.lset_words.specs.Words.{Sizes, IsWithin, word_count, Opening, Opens, sizes}
use Rattle.lset_steps.specs.Steps.{opening, opening_of, idle}
use Rattle.lset_rule.specs.declared.view.View.{View}
use Rattle.lset_rule.specs.declared.view.Past.{Fresh}
use Rattle.atomic_table.specs.Table as T
use Rattle.lset_rule.specs.Rule.{Holds, opener, left_view, right_view}
use Rattle.lset_rule.specs.OwnSlots.{slots_of}
use Rattle.lset_rule.proofs.RuleAtOpening.{spare, IsNew}
use Rattle.lset_rule.proofs.RuleAtOpening.{opens, opening_length, spare_all, cut_left, cut_right, spare_some, spare_none, new_seat}
use Rattle.std.specs.List.{range_with_len}
use Rattle.lset_live.specs.Seats.{new_seat as seat_of_thread}
use Rattle.lset_live.proofs.NewSeats.{value_of, opened, seats_more}
use Rattle.lset_live.proofs.opening.open_on.Goals as goal

opens_so : (sz : Sizes) (keys : List ℕ) → length keys ≡ sz.opening → IsWithin sz → IsStrictlyIncreasing keys
    → All (λ (k : ℕ). k < 2 ^ 32) keys → Opens (opening_of sz keys)
opens_so sz keys many within increasing low = record {
  within = subst (λ (z : Sizes). IsWithin z) (λ i. record { threads = sz.threads; quota = sz.quota; opening = sym many i })
      within;
  increasing = increasing;
  low = low;
}

shape_so : (sz : Sizes) (keys : List ℕ) (n q : ℕ) (v : List ℕ) → n ≡ sz.threads → q ≡ sz.quota → v ≡ keys
    → record { threads = n; quota = q; keys = v } ≡ opening_of sz keys
shape_so sz keys n q v a b e = λ i. record { threads = a i; quota = b i; keys = e i }

sizes_so : (sz : Sizes) (keys : List ℕ) (n q m : ℕ) → n ≡ sz.threads → q ≡ sz.quota → m ≡ sz.opening → length keys ≡ sz.opening
    → sizes (opening_of sz keys) ≡ record { threads = n; quota = q; opening = m }
sizes_so sz keys n q m a b e many = λ i. record { threads = sym a i; quota = sym b i; opening = (many ∙ sym e) i }

pub of_words-requires : goal.of_words-requires
of_words-requires g c =
    let k : Opening = opening_of c.args.layout c.args.keys.now in
    let so : Opens k = opens_so c.args.layout c.args.keys.now c.requires.many c.threads-threads.ensures.within c.requires.increasing
    c.in_ok-words.ensures.low in
    let shape : c.new-shape.result ≡ k = c.new-shape.ensures ∙ shape_so c.args.layout c.args.keys.now c.threads-threads.result
    c.quota-quota.result _ c.threads-threads.ensures.value c.quota-quota.ensures.value c.in_ok-copied.ensures.items in
    let is : c.as_slice.result.now ≡ (opening k).words = c.as_slice.ensures.value ∙ c.in_ok-words.ensures.words in
    subst (λ (z : Opening × List ℕ). Holds g.M.Machine.table z.0 (T.opening z.1 [] (opener z.0))) (λ i. (sym shape i, sym is i))
    (opens g.M.Machine.table k so)

pub overflow_sub-last : goal.overflow_sub-last
overflow_sub-last g c =
    let a = c.threads-threads.ensures.value in
    let b = c.threads-threads.ensures.within.some in
    omega (arith, a, b)

pub loop-t-init : goal.loop-t-init
loop-t-init g c = let e = c.in_ok-table.ensures in (
  e.4 ∙ ((λ i. (opener (sym e.5 i), [])) ∙ ap (λ v. (v, [])) (spare_all c.in_ok-table.table.shared.key)),
  e.2,
  c.new-seats.ensures.items,
)

pub invariant_of-set-inside : goal.invariant_of-set-inside
invariant_of-set-inside g c =
    let k : Opening = opening_of c.args.layout c.args.keys.now in
    let so : Opens k = opens_so c.args.layout c.args.keys.now c.requires.many c.threads-threads.ensures.within c.requires.increasing
    c.in_ok-words.ensures.low in
    let shape : c.new-shape.result ≡ k = c.new-shape.ensures ∙ shape_so c.args.layout c.args.keys.now c.threads-threads.result
    c.quota-quota.result _ c.threads-threads.ensures.value c.quota-quota.ensures.value c.in_ok-copied.ensures.items in
    let is : c.as_slice.result.now ≡ (opening k).words = c.as_slice.ensures.value ∙ c.in_ok-words.ensures.words in
    let e = c.in_ok-table.ensures in
    let key = c.in_ok-table.table.shared.key in
    let key_is : c.in_ok-table.table.shared.key ≡ k = e.5 ∙ shape in
    let sz = sizes_so c.args.layout c.args.keys.now c.threads-threads.result c.quota-quota.result c.opening-opening.result
    c.threads-threads.ensures.value c.quota-quota.ensures.value c.opening-opening.ensures.value c.requires.many in
    let lim = subst (λ (z : Sizes). IsWithin z) sz so.within in (
      (e.0 ∙ (ap length is ∙ (opening_length k ∙ ap word_count sz)), e.1),
      (ap sizes key_is ∙ sz, ((lim.some, lim.few, lim.small), tt)),
    )

pub split_off-place-requires-clause-place : goal.split_off-place-requires-clause-place
split_off-place-requires-clause-place g c = let i = c.loop-t.invariant in
    let k : Opening = opening_of c.args.layout c.args.keys.now in
    let so : Opens k = opens_so c.args.layout c.args.keys.now c.requires.many c.threads-threads.ensures.within c.requires.increasing
    c.in_ok-words.ensures.low in
    let shape : c.new-shape.result ≡ k = c.new-shape.ensures ∙ shape_so c.args.layout c.args.keys.now c.threads-threads.result
    c.quota-quota.result _ c.threads-threads.ensures.value c.quota-quota.ensures.value c.in_ok-copied.ensures.items in
    let is : c.as_slice.result.now ≡ (opening k).words = c.as_slice.ensures.value ∙ c.in_ok-words.ensures.words in
    let e = c.in_ok-table.ensures in
    let key = c.in_ok-table.table.shared.key in
    let key_is : c.in_ok-table.table.shared.key ≡ k = e.5 ∙ shape in
    let n : c.in_ok-table.table.shared.table_id.words ≡ word_count (sizes k) = e.0 ∙ (ap length is ∙ opening_length k) in (
      (i.1, ap (λ z. z.0.shape) i.0, n ∙ ap (λ (z : Opening). word_count (sizes z)) (sym key_is)),
      (ap (λ z. z.0.spent) i.0, ap (λ z. z.0.under) i.0),
    )

pub split_off-place-requires-clause-fresh : goal.split_off-place-requires-clause-fresh
split_off-place-requires-clause-fresh g c =
    let i = c.loop-t.invariant in
    let e = c.in_ok-table.ensures in
    let key = c.in_ok-table.table.shared.key in
    let threads : key.threads ≡ c.threads-threads.result = ap (λ (z : Opening). z.threads) (e.5 ∙ c.new-shape.ensures) in
    let small : c.loop-t.t + 1 < key.threads = let lt = c.loop-t-test.true in omega (arith, threads, lt) in
    subst (λ (z : View). (z.past ≡ Fresh z.thread) × (0 < length z.others)) (ap (λ z. z.0) (sym i.0)) (
      refl,
      spare_some key c.loop-t.t small,
    )

pub invariant_of-push : goal.invariant_of-push
invariant_of-push g c =
    let i = c.loop-t.invariant in
    let k : Opening = opening_of c.args.layout c.args.keys.now in
    let so : Opens k = opens_so c.args.layout c.args.keys.now c.requires.many c.threads-threads.ensures.within c.requires.increasing
    c.in_ok-words.ensures.low in
    let shape : c.new-shape.result ≡ k = c.new-shape.ensures ∙ shape_so c.args.layout c.args.keys.now c.threads-threads.result
    c.quota-quota.result _ c.threads-threads.ensures.value c.quota-quota.ensures.value c.in_ok-copied.ensures.items in
    let is : c.as_slice.result.now ≡ (opening k).words = c.as_slice.ensures.value ∙ c.in_ok-words.ensures.words in
    let e = c.in_ok-table.ensures in
    let key = c.in_ok-table.table.shared.key in
    let key_is : c.in_ok-table.table.shared.key ≡ k = e.5 ∙ shape in
    let lim : Opens key = subst (λ (z : Opening). Opens z) (sym key_is) so in
    let threads : key.threads ≡ c.threads-threads.result = ap (λ (z : Opening). z.threads) (e.5 ∙ c.new-shape.ensures) in
    let small : c.loop-t.t + 1 < key.threads = let lt = c.loop-t-test.true in omega (arith, threads, lt) in
    new_seat g.M.Machine.table key c.loop-t.t c.split_off-place.result.me lim (omega (arith, small))
    (c.split_off-place.ensures.new.1 ∙ (ap (λ z. (right_view z.0, [])) i.0 ∙ ap (λ v. (v, [])) (cut_right key c.loop-t.t small)))
    c.unused-slots.result
    (c.unused-slots.ensures ∙ ap (λ q. slots_of (idle q c.loop-t.t))
    (sym (ap (λ (z : Opening). z.quota) (e.5 ∙ c.new-shape.ensures) ∙ c.quota-quota.ensures.value)))

pub loop-t-preserved : goal.loop-t-preserved
loop-t-preserved g c =
    let i = c.loop-t.invariant in
    let z = c.in_ok-table.table.shared.table_id in
    let e = c.in_ok-table.ensures in
    let key = c.in_ok-table.table.shared.key in
    let threads : key.threads ≡ c.threads-threads.result = ap (λ (z : Opening). z.threads) (e.5 ∙ c.new-shape.ensures) in
    let small : c.loop-t.t + 1 < key.threads = let lt = c.loop-t-test.true in omega (arith, threads, lt) in
    let more : c.push.new.self.items ≡ c.loop-t.seats.items ++ value_of c.split_off-place.result ∷ [] = search rules in
    let new : IsNew z key c.loop-t.t c.split_off-place.result = (
      c.split_off-place.ensures.new.0 ∙ i.1,
      c.split_off-place.ensures.new.1
          ∙ (ap (λ z. (right_view z.0, [])) i.0 ∙ ap (λ v. (v, [])) (cut_right key c.loop-t.t small)),
    ) in (
      c.split_off-place.ensures.old.2 ∙ (ap (λ z. (left_view z.0, z.1)) i.0 ∙ ap (λ v. (v, [])) (cut_left key c.loop-t.t small)),
      c.split_off-place.ensures.old.0 ∙ i.1,
      seats_more z key c.loop-t.t c.split_off-place.result c.loop-t.seats.items c.push.new.self.items i.2 new more,
    )

pub invariant_of-push-2 : goal.invariant_of-push-2
invariant_of-push-2 g c =
    let i = c.loop-t.invariant in
    let k : Opening = opening_of c.args.layout c.args.keys.now in
    let so : Opens k = opens_so c.args.layout c.args.keys.now c.requires.many c.threads-threads.ensures.within c.requires.increasing
    c.in_ok-words.ensures.low in
    let shape : c.new-shape.result ≡ k = c.new-shape.ensures ∙ shape_so c.args.layout c.args.keys.now c.threads-threads.result
    c.quota-quota.result _ c.threads-threads.ensures.value c.quota-quota.ensures.value c.in_ok-copied.ensures.items in
    let is : c.as_slice.result.now ≡ (opening k).words = c.as_slice.ensures.value ∙ c.in_ok-words.ensures.words in
    let e = c.in_ok-table.ensures in
    let key = c.in_ok-table.table.shared.key in
    let key_is : c.in_ok-table.table.shared.key ≡ k = e.5 ∙ shape in
    let lim : Opens key = subst (λ (z : Opening). Opens z) (sym key_is) so in
    let threads : key.threads ≡ c.threads-threads.result = ap (λ (z : Opening). z.threads) (e.5 ∙ c.new-shape.ensures) in
    let some : 1 ≤ key.threads = lim.within.some in
    let last : c.threads-threads.result - 1 + 1 ≡ key.threads = omega (arith, threads, some) in
    let end : c.loop-t.t ≡ c.threads-threads.result - 1 = search rules in
    new_seat g.M.Machine.table key (c.threads-threads.result - 1) c.loop-t.place.me lim (omega (arith, last))
    (i.0 ∙ (ap (λ n. (spare key n, [])) end ∙ ap (λ v. (v, [])) (spare_none key (c.threads-threads.result - 1) last)))
    c.unused-slots-2.result
    (c.unused-slots-2.ensures ∙ ap (λ q. slots_of (idle q (c.threads-threads.result - 1)))
    (sym (ap (λ (z : Opening). z.quota) (e.5 ∙ c.new-shape.ensures) ∙ c.quota-quota.ensures.value)))

pub invariant_of-set-inside-2 : goal.invariant_of-set-inside-2
invariant_of-set-inside-2 g c =
    let k : Opening = opening_of c.args.layout c.args.keys.now in
    let so : Opens k = opens_so c.args.layout c.args.keys.now c.requires.many c.threads-threads.ensures.within c.requires.increasing
    c.in_ok-words.ensures.low in
    let shape : c.new-shape.result ≡ k = c.new-shape.ensures ∙ shape_so c.args.layout c.args.keys.now c.threads-threads.result
    c.quota-quota.result _ c.threads-threads.ensures.value c.quota-quota.ensures.value c.in_ok-copied.ensures.items in
    let is : c.as_slice.result.now ≡ (opening k).words = c.as_slice.ensures.value ∙ c.in_ok-words.ensures.words in
    let e = c.in_ok-table.ensures in
    let key = c.in_ok-table.table.shared.key in
    let key_is : c.in_ok-table.table.shared.key ≡ k = e.5 ∙ shape in
    let sz = sizes_so c.args.layout c.args.keys.now c.threads-threads.result c.quota-quota.result c.opening-opening.result
    c.threads-threads.ensures.value c.quota-quota.ensures.value c.opening-opening.ensures.value c.requires.many in
    let lim = subst (λ (z : Sizes). IsWithin z) sz so.within in (
      (e.0 ∙ (ap length is ∙ (opening_length k ∙ ap word_count sz)), e.1),
      (ap sizes key_is ∙ sz, ((lim.some, lim.few, lim.small), tt)),
    )

pub returns : goal.returns
returns g c =
    let i = c.loop-t.invariant in
    let z = c.in_ok-table.table.shared.table_id in
    let k : Opening = opening_of c.args.layout c.args.keys.now in
    let so : Opens k = opens_so c.args.layout c.args.keys.now c.requires.many c.threads-threads.ensures.within c.requires.increasing
    c.in_ok-words.ensures.low in
    let shape : c.new-shape.result ≡ k = c.new-shape.ensures ∙ shape_so c.args.layout c.args.keys.now c.threads-threads.result
    c.quota-quota.result _ c.threads-threads.ensures.value c.quota-quota.ensures.value c.in_ok-copied.ensures.items in
    let is : c.as_slice.result.now ≡ (opening k).words = c.as_slice.ensures.value ∙ c.in_ok-words.ensures.words in
    let e = c.in_ok-table.ensures in
    let key = c.in_ok-table.table.shared.key in
    let key_is : c.in_ok-table.table.shared.key ≡ k = e.5 ∙ shape in
    let lim : Opens key = subst (λ (z : Opening). Opens z) (sym key_is) so in
    let threads : key.threads ≡ c.threads-threads.result = ap (λ (z : Opening). z.threads) (e.5 ∙ c.new-shape.ensures) in
    let some : 1 ≤ key.threads = lim.within.some in
    let last : c.threads-threads.result - 1 + 1 ≡ key.threads = omega (arith, threads, some) in
    let end : c.loop-t.t ≡ c.threads-threads.result - 1 = search rules in
    let more : c.push-2.new.self.items ≡ c.loop-t.seats.items ++ value_of c.loop-t.place ∷ [] = search rules in
    let new : IsNew z key (c.threads-threads.result - 1) c.loop-t.place =
    (i.1, i.0 ∙ (ap (λ n. (spare key n, [])) end ∙ ap (λ v. (v, [])) (spare_none key (c.threads-threads.result - 1) last))) in
    let all = seats_more z key (c.threads-threads.result - 1) c.loop-t.place c.loop-t.seats.items c.push-2.new.self.items
    (i.2 ∙ ap (λ n. map (seat_of_thread (opened z key)) (range_with_len 0 n)) end) new more in (
      key_is,
      all ∙ ap (λ n. map (seat_of_thread (opened z key)) (range_with_len 0 n)) (last
          ∙ (threads ∙ c.threads-threads.ensures.value)),
    )
