use Rattle.std.proofs.Common.{rules, ◌≡◌, ◌<◌, None, sym, ap, ◌∙◌}
use Rattle.lset_words.specs.declared.Call.TheVariants.{Contains}
use Rattle.lset_words.specs.Words.{target, tail_word}
use Rattle.lset_rule.specs.OwnSlots.{slots_of}
use Rattle.lset_rule.proofs.CallKnows.{first_comes, first_reached, comes_next, made}
use Rattle.lset_rule.proofs.RowSteps.{may_step}
use Rattle.lset_rule.proofs.ContainsEnds.{falls}
use Rattle.lset_rule.proofs.interpreter.interpret_read.Goals as goal

pub next-requires : goal.next-requires
next-requires g c = let low : target (Contains c.args.key) < tail_word = search rules in
    first_reached _ g.met.M.Machine.lawful (Contains _) low _ _
    _ _ c.requires.stands c.requires.idle c.requires.slots c.resting.ensures c.begin-begun.ensures

pub loop-fed-init : goal.loop-fed-init
loop-fed-init g c = (
  first_comes _ g.met.M.Machine.lawful (Contains _) _ _ _ _ _ _ _
      c.start_on-seen.ensures.starts c.requires.slots c.resting.ensures c.begin-begun.ensures c.feed-fed.ensures,
  c.start_on-seen.ensures.place,
)

pub one_step-requires : goal.one_step-requires
one_step-requires g c = let none : c.loop-fed.fed.answer ≡ None = search rules in
    may_step _ g.met.M.Machine.lawful (Contains _) _ _ _ _ c.loop-fed.place c.loop-fed.fed c.requires c.loop-fed.invariant none

pub loop-fed-smaller : goal.loop-fed-smaller
loop-fed-smaller g c = let T = g.M.Machine.table in
    let none : c.loop-fed.fed.answer ≡ None = search rules in
    let v = c.args.place.now.me.0 in
    let w = c.loop-fed.place.me.0 in
    let w' = c.one_step.new.place.me.0 in
    let step = c.one_step.ensures in
    falls T g.met.M.Machine.lawful g.met.M.OpenReads.reads c.args.key step.seen v w w' c.loop-fed.fed c.one_step.result.fed
    c.requires.idle.0 c.loop-fed.invariant.0 none
    (comes_next T (Contains c.args.key) v w c.loop-fed.fed step.seen w' c.one_step.result.fed c.loop-fed.invariant.0 none
    step.goes step.fed) step.goes

pub returns-in-Some : goal.returns-in-Some
returns-in-Some g c = record {
  place = c.loop-fed.invariant.1;
  slots = c.of.ensures ∙ ap slots_of (sym c.loop-fed.invariant.0.0);
  made = made _ (Contains _) _ c.loop-fed.place.me.0 c.loop-fed.fed c.in-Some.reply c.loop-fed.invariant.0 c.in-Some.is;
}
