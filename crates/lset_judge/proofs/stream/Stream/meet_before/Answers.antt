use Rattle.std.proofs.Common.{◌<◌, ◌∷◌, List, sym, subst, arith, length}
use Rattle.std.specs.Prelude.{All, Contains}
use Rattle.std.proofs.lemmas.List.Elements.{All-contains_itself, All-tail}
use Rattle.std.proofs.lemmas.List.Sorted.{All-permutation, length_permutation}
use Rattle.lset_judge.specs.declared.stream.Pending.{Pending}
use Rattle.lset_judge.specs.Facts.{IsStreamKept}
use Rattle.lset_judge.proofs.CallBegins.{end_met}
use Rattle.lset_judge.proofs.FactsGoOn.{end_known}
use Rattle.lset_judge.proofs.FactsSuffice.{complete_end}
use Rattle.lset_judge.proofs.stream.Stream.meet_before.Goals as goal

pub loop-next-init : goal.loop-next-init
loop-next-init c = record {
  kept = λ threads opening calls is. is;
  before = λ low. low;
  some = All-contains_itself c.args.self.now.pending;
}

pub loop-next-smaller : goal.loop-next-smaller
loop-next-smaller c =
    let s = c.loop-next.self in let rest = c.next_before.new.self in
    let long = length_permutation s.pending (c.in-Some.next ∷ rest) c.in-Some.ensures.is in
    subst (λ (ps : List Pending). length ps < length s.pending) (sym c.in_ok-end.ensures.met.pending) (omega (arith, long))

pub loop-next-preserved : goal.loop-next-preserved
loop-next-preserved c =
    let s = c.loop-next.self in let t = c.end.new.self in let p = c.in-Some.next in let rest = c.next_before.new.self in
    let next = c.in-Some.ensures in let met = c.in_ok-end.ensures.met in let was = c.args.self.now.pending in record {
      kept = λ threads opening calls is.
          let now = c.loop-next.invariant.kept threads opening calls is in
          let so = end_met threads opening calls s t c.args.moment p rest c.requires next met.pending met.at_moment met.by now.stream in record {
            stream = so;
            known = end_known threads opening calls s t c.args.moment p rest next met.at_moment now.stream c.in_ok-end.ensures.known met.by now.known;
            complete = complete_end threads opening calls s t c.args.moment p rest next met.at_moment now.stream so met.by c.in_ok-end.ensures.known
                c.in_ok-end.ensures.missed now.known now.complete;
          };
      before = λ low. let at = met.at_moment in let early = next.early in omega (arith, at, early);
      some = subst (All (Contains was)) (sym met.pending)
          (All-tail (Contains was) p rest (All-permutation (Contains was) s.pending (p ∷ rest) next.is c.loop-next.invariant.some));
    }

pub returns-clause-kept : goal.returns-clause-kept
returns-clause-kept c = λ threads opening calls is.
    subst (λ (ps : List Pending). IsStreamKept threads opening calls (record c.loop-next.self { pending = ps })) (sym c.in_default.ensures.0)
    (c.loop-next.invariant.kept threads opening calls is)

pub returns-clause-some : goal.returns-clause-some
returns-clause-some c = subst (All (Contains c.args.self.now.pending)) (sym c.in_default.ensures.0) c.loop-next.invariant.some
