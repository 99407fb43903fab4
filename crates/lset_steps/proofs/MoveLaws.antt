-- Lemmas: after every move (a change of a list's nodes in one step), the keys are still in order, unlinked nodes are
-- still out of the chain, and marked nodes have the same links.
use Rattle.std.proofs.Common.{◌≡◌, ℕ, ◌%◌, ◌<◌, Bool, true, false, inl, inr, sym, refl, ap, subst, ◌∙◌, arith, Option, ◌*◌, ◌/◌}
use Rattle.lset_words.proofs.Numbers.{same_or_not}
use Rattle.lset_words.specs.declared.Key.{Key}
use Rattle.lset_steps.specs.Chain.{View, InChain, IsOrdered, Changed, UnmarkedInChain, UnlinkedStays}
use Rattle.lset_steps.proofs.Moves.{KeepsNodes, Move}
use Rattle.lset_steps.proofs.Moves.Move.{quiet, inserts, sets, clears, removes}
use Rattle.lset_steps.proofs.QuietMove.{quiet-ordered, quiet-goes, quiet_keeps, quiet_content, quiet_back}
use Rattle.lset_steps.proofs.InsertMove.{insert-ordered, insert-goes, insert_keeps, insert_own, insert_absent, insert_has}
use Rattle.lset_steps.proofs.InsertMove.{insert_adds, insert_only, insert_mark}
use Rattle.lset_steps.proofs.MarkMove.{mark-ordered, mark-goes, mark_keeps, mark_present, mark_absent, mark_others, mark_only}
use Rattle.lset_steps.proofs.UnlinkMove.{unlink-ordered, unlink-goes, unlink_keeps, unlink_curr, unlink_only, unlink_others}
use Rattle.lset_steps.proofs.UnlinkMove.{unlink_absent, unlink_mark}

module _ (marks : Bool) (v w : View) (ord : IsOrdered v) where
  pub move-ordered : (ch : Option (Key × Bool)) → Move marks v w ch → IsOrdered w
  move-ordered ch (quiet q) = quiet-ordered v w ord q
  move-ordered ch (inserts pred own k q) = insert-ordered v w ord pred own k.0 q
  move-ordered ch (sets b k y q) = mark-ordered v w ord b k.0 q
  move-ordered ch (clears pred curr q m) = unlink-ordered v w ord pred curr q
  move-ordered ch (removes pred curr k y q m u e) = unlink-ordered v w ord pred curr q

  pub move-goes : (ch : Option (Key × Bool)) → Move marks v w ch → KeepsNodes v w
  move-goes ch (quiet q) = quiet-goes v w ord q
  move-goes ch (inserts pred own k q) = insert-goes v w ord pred own k.0 q
  move-goes ch (sets b k y q) = mark-goes v w ord b k.0 q
  move-goes ch (clears pred curr q m) = unlink-goes v w ord pred curr q
  move-goes ch (removes pred curr k y q m u e) = unlink-goes v w ord pred curr q

  -- Lemma: a move (a change of a list's nodes in one step) changes the keys of the set exactly by its declared change
  -- `ch`.
  pub move-changed : (ch : Option (Key × Bool)) → Move marks v w ch → Changed ch v w
  move-changed ch (quiet q) = λ j. (quiet_content v w ord q j, quiet_content w v (quiet-ordered v w ord q) (quiet_back v w q) j)
  move-changed ch (inserts pred own k q) = (
    insert_absent v w ord pred own k.0 q,
    insert_has v w ord pred own k.0 q,
    λ j n. (
      insert_adds v w ord pred own k.0 q j,
      λ c. elim (insert_only v w ord pred own k.0 q j c) [ inl i ↦ i | inr e ↦ absurd (n e) ],
    ),
  )
  move-changed ch (sets b k y q) = (
    mark_present v w ord b k.0 q,
    mark_absent v w ord b k.0 q,
    λ j n. (mark_others v w ord b k.0 q j n, mark_only v w ord b k.0 q j),
  )
  move-changed ch (clears pred curr q m) =
      λ j. (unlink_others v w ord pred curr q j (inl m), unlink_only v w ord pred curr q j)
  move-changed ch (removes pred curr k y q m u e) = (
    (curr, unlink_curr v w ord pred curr q, u, e, m),
    unlink_absent v w ord pred curr k.0 q e,
    λ j n. (unlink_others v w ord pred curr q j (inr (λ f. n (omega arith))), unlink_only v w ord pred curr q j),
  )

  pub marked_stays : (ch : Option (Key × Bool)) → Move marks v w ch → (b : ℕ) → v.published b → v.link b % 2 ≡ 1
      → w.link b ≡ v.link b
  marked_stays ch (quiet q) b i o = q.links b i
  marked_stays ch (inserts pred own k q) b i o = q.links b i
      (λ e. let u : v.link pred % 2 ≡ 0 = q.unmarked in let f : v.link b ≡ v.link pred = ap v.link e in omega arith)
  marked_stays ch (sets c k y q) b i o = q.links b i
      (λ e. let u : v.link c % 2 ≡ 0 = q.unmarked in let f : v.link b ≡ v.link c = ap v.link e in omega arith)
  marked_stays ch (clears pred curr q m) b i o = q.links b i
      (λ e. let u : v.link pred % 2 ≡ 0 = q.unmarked in let f : v.link b ≡ v.link pred = ap v.link e in omega arith)
  marked_stays ch (removes pred curr k y q m u e) b i o = q.links b i
      (λ g. let u : v.link pred % 2 ≡ 0 = q.unmarked in let f : v.link b ≡ v.link pred = ap v.link g in omega arith)

pub tail_stays : (marks : Bool) (v w : View) → IsOrdered v → (ch : Option (Key × Bool)) → Move marks v w ch → w.link 1 ≡ v.link 1
tail_stays marks v w ord ch (quiet q) = q.links 1 ord.tail_published
tail_stays marks v w ord ch (inserts pred own k q) = q.links 1 ord.tail_published (λ e. q.no_tail (sym e))
tail_stays marks v w ord ch (sets b k y q) = q.links 1 ord.tail_published (λ e. let u : 1 < b = q.user in omega arith)
tail_stays marks v w ord ch (clears pred curr q m) = q.links 1 ord.tail_published (λ e. q.no_tail (sym e))
tail_stays marks v w ord ch (removes pred curr k y q m u e) = q.links 1 ord.tail_published (λ f. q.no_tail (sym f))

not_both : {A : Type 0} (b : Bool) → b ≡ true → b ≡ false → A
not_both b x y = absurd (let z : true ≡ false = sym x ∙ y in cc)

module _ (v w : View) (ord : IsOrdered v) where
  live_stays : (ch : Option (Key × Bool)) → Move true v w ch → UnmarkedInChain true v → UnmarkedInChain true w
  live_stays ch (quiet q) h b mb e =
      quiet_keeps v w ord q b (h b (q.published_from b mb) (ap (λ z. z % 2) (sym (q.links b (q.published_from b mb))) ∙ e))
  live_stays ch (inserts pred own k q) h b mb e = elim (q.published_from b mb) [
    | inl o ↦ insert_keeps v w ord pred own k.0 q b (h b o (sym (insert_mark v w ord pred own k.0 q b o) ∙ e))
    | inr f ↦ subst (λ z. InChain w z) (sym f) (insert_own v w ord pred own k.0 q)
  ]
  live_stays ch (sets c k y q) h b mb e = elim (same_or_not b c) [
    | inl f ↦ subst (λ z. InChain w z) (sym f) (mark_keeps v w ord c k.0 q c q.in_chain)
    | inr n ↦ mark_keeps v w ord c k.0 q b (h b (q.published_from b mb)
        (ap (λ z. z % 2) (sym (q.links b (q.published_from b mb) n)) ∙ e))
  ]
  live_stays ch (clears pred curr q m) h b mb e =
      let o : v.link b % 2 ≡ 0 = sym (unlink_mark v w pred curr q b (q.published_from b mb)) ∙ e in
      elim (unlink_keeps v w ord pred curr q b (h b (q.published_from b mb) o)) [
        | inl i ↦ i
        | inr f ↦ absurd (let g : v.link b % 2 ≡ v.link curr % 2 = ap (λ z. v.link z % 2) f in omega arith)
      ]
  live_stays ch (removes pred curr k y q m u e) h b mb f = not_both true refl y

  plain_stays : (ch : Option (Key × Bool)) → Move false v w ch → UnmarkedInChain false v → UnmarkedInChain false w
  plain_stays ch (quiet q) h b mb = ap (λ z. z % 2) (q.links b (q.published_from b mb)) ∙ h b (q.published_from b mb)
  plain_stays ch (inserts pred own k q) h b mb = elim (q.published_from b mb) [
    | inl o ↦ insert_mark v w ord pred own k.0 q b o ∙ h b o
    | inr f ↦ subst (λ z. w.link z % 2 ≡ 0) (sym f) (let e : w.link own ≡ 2 * (v.link pred / 2) = q.own_link in omega arith)
  ]
  plain_stays ch (sets c k y q) h b mb = not_both false y refl
  plain_stays ch (clears pred curr q m) h b mb = unlink_mark v w pred curr q b (q.published_from b mb)
      ∙ h b (q.published_from b mb)
  plain_stays ch (removes pred curr k y q m u e) h b mb = unlink_mark v w pred curr q b (q.published_from b mb)
      ∙ h b (q.published_from b mb)

pub marked_after : (marks : Bool) (v w : View) → IsOrdered v → (ch : Option (Key × Bool)) → Move marks v w ch
    → UnmarkedInChain marks v → UnmarkedInChain marks w
marked_after true v w ord ch m h = live_stays v w ord ch m h
marked_after false v w ord ch m h = plain_stays v w ord ch m h

-- Lemmas: `UnlinkedStays` (an unlinked node stays out of the chain) is reflexive, and is preserved by each move.
-- Therefore it holds after any number of moves.
pub later_same : (marks : Bool) (v : View) (i : ℕ) → v.published i → UnlinkedStays marks v v i
later_same marks v i m = record { published = m; key = refl; unlinked = λ c. (refl, c); marked = λ e o. refl }

pub later_more : (marks : Bool) (u v w : View) (i : ℕ) → KeepsNodes v w
    → ((b : ℕ) → v.published b → v.link b % 2 ≡ 1 → w.link b ≡ v.link b) → UnlinkedStays marks u v i
    → UnlinkedStays marks u w i
later_more marks u v w i g f x = record {
  published = g.grows i x.published;
  key = g.keys i x.published ∙ x.key;
  unlinked = λ c.
      let y : (v.link i ≡ u.link i) × (InChain v i → ⊥) = x.unlinked c in
      (elim (g.kept i x.published) [ inl e ↦ e ∙ y.0 | inr b ↦ absurd (y.1 b.0) ], λ d. y.1 (g.back i x.published d));
  marked = λ e o. let y : v.link i ≡ u.link i = x.marked e o in f i x.published (ap (λ z. z % 2) y ∙ o) ∙ y;
}
