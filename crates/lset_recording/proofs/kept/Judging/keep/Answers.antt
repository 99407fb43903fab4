use Rattle.std.proofs.Common.{◌≡◌, true, ◌++◌, ◌∷◌, [], ap, subst, ◌∙◌}
use Rattle.std.proofs.lemmas.Result.{on_ok_weaker}
use Rattle.lset_text.specs.Openings.{is_above}
use Rattle.lset_recording.specs.Reading.{Comes, IsFormed}
use Rattle.lset_recording.proofs.KeptByLine.{opening_parts, key_parts}
use Rattle.lset_recording.proofs.kept.Judging.keep.Goals as goal

pub returns-in-Opening-clause-kept : goal.returns-in-Opening-clause-kept
returns-in-Opening-clause-kept c = on_ok_weaker c.add_key.result
    (λ (added : (c.add_key.new.keys.items ≡ c.args.self.now.opening.items ++ c.in-Opening.key ∷ [])
    × (is_above c.args.self.now.opening.items c.in-Opening.key ≡ true)) s is comes.
    let k = c.in-Opening.key in
    let kept = is.kept in
    let parts = opening_parts s k c.args.self.now is (subst (Comes s.section) c.in-Opening.is comes)
    (subst IsFormed c.in-Opening.is c.requires) added.1 in
    rw c.in-Opening.is (
      parts.0,
      record {
        opening = added.0 ∙ ap (λ o. o ++ k ∷ []) kept.opening;
        opens = parts.1;
        judge = parts.2;
        calls = kept.calls;
        keys = kept.keys;
        left = kept.left;
        cut_off = kept.cut_off;
      },
      parts.3,
    )) c.add_key.ensures.added

pub returns-in-Key-clause-kept : goal.returns-in-Key-clause-kept
returns-in-Key-clause-kept c = on_ok_weaker c.add_key-in-Key.result
    (λ (added : (c.add_key-in-Key.new.keys.items ≡ c.args.self.now.keys.items ++ c.in-Key.key ∷ [])
    × (is_above c.args.self.now.keys.items c.in-Key.key ≡ true)) s is comes.
    let k = c.in-Key.key in
    let kept = is.kept in
    let parts = key_parts s.told k c.args.self.now kept (subst IsFormed c.in-Key.is c.requires) added.1 in
    rw c.in-Key.is (
      parts.0,
      record {
        opening = kept.opening;
        opens = kept.opens;
        judge = kept.judge;
        calls = kept.calls;
        keys = added.0 ∙ ap (λ o. o ++ k ∷ []) kept.keys;
        left = parts.1;
        cut_off = kept.cut_off;
      },
      tt,
    )) c.add_key-in-Key.ensures.added
