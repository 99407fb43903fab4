use Rattle.std.proofs.Common.{sym, ◌∙◌}
use Rattle.lset_rule.proofs.MovesKeepRule.{goes_first, begun_at, in_words}
use Rattle.lset_rule.proofs.word_steps.start_on.Goals as goal

pub load-requires : goal.load-requires
load-requires g c =
    let T = g.M.Machine.table in
    let law = g.met.M.Machine.lawful in
    let v = c.args.place.now.me.0 in
    let p = c.requires.place in
    let j = g.J.Asking.call in
    let row = sym c.in-Load.is ∙ c.requires.action in (
      p.0,
      in_words T law v.shape _ _ (T.begin j v.local) (begun_at T law v c.requires.idle.1 j c.requires.low c.requires.idle.0) _ row
          c.args.table.now.key p.1 _ p.2,
      goes_first T law _ _ c.args.place.now.me c.args.table.now.key j c.requires.low _ row p.1 c.requires.idle.0,
    )

pub store-requires : goal.store-requires
store-requires g c =
    let T = g.M.Machine.table in
    let law = g.met.M.Machine.lawful in
    let v = c.args.place.now.me.0 in
    let p = c.requires.place in
    let j = g.J.Asking.call in
    let row = sym c.in-Store.is ∙ c.requires.action in (
      p.0,
      in_words T law v.shape _ _ (T.begin j v.local) (begun_at T law v c.requires.idle.1 j c.requires.low c.requires.idle.0) _ row
          c.args.table.now.key p.1 _ p.2,
      goes_first T law _ _ c.args.place.now.me c.args.table.now.key j c.requires.low _ row p.1 c.requires.idle.0,
    )

pub compare_exchange-requires : goal.compare_exchange-requires
compare_exchange-requires g c =
    let T = g.M.Machine.table in
    let law = g.met.M.Machine.lawful in
    let v = c.args.place.now.me.0 in
    let p = c.requires.place in
    let j = g.J.Asking.call in
    let row = sym c.in-Exchange.is ∙ c.requires.action in (
      p.0,
      in_words T law v.shape _ _ (T.begin j v.local) (begun_at T law v c.requires.idle.1 j c.requires.low c.requires.idle.0) _ row
          c.args.table.now.key p.1 _ p.2,
      goes_first T law _ _ c.args.place.now.me c.args.table.now.key j c.requires.low _ row p.1 c.requires.idle.0,
    )
