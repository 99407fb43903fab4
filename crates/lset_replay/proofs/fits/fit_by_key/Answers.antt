use Rattle.std.proofs.Common.{◌≡◌, ℕ, ◌-◌, arith, rules, sym, ap, ◌∙◌}
use Rattle.lset_words.specs.Words.{key_of}
use Rattle.lset_history.specs.Changes.{first_passing, is_present, moments_of}
use Rattle.lset_history.proofs.FirstMoments.{one_first, first_passing_is}
use Rattle.lset_replay.specs.Trace.{needs_key}
use Rattle.lset_replay.proofs.SmallestFits.{plain_shows}
use Rattle.lset_replay.proofs.fits.fit_by_key.Goals as goal

pub returns : goal.returns
returns c =
    let needed = needs_key c.args.made.call c.args.reply in
    let shown = λ (m : ℕ). is_present (moments_of c.args.changes.now) (key_of c.args.made.call).0 m in
    one_first (λ m. shown m ≡ needed) c.args.made.begun c.args.last _
    (first_passing needed shown c.args.made.begun (c.args.last - c.args.made.begun))
    (search rules)
    (first_passing_is needed shown c.args.made.begun (c.args.last - c.args.made.begun) c.args.last (omega arith))
    ∙ sym (ap (λ p. first_passing needed p c.args.made.begun (c.args.last - c.args.made.begun))
    (plain_shows (moments_of c.args.changes.now) c.args.made.call c.args.reply c.requires.own_key))
