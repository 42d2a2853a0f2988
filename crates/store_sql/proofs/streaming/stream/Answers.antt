use Rattle.std.proofs.Common.{arith}
use Rattle.sqlite.proofs.Callers.{never_commits}
use Rattle.sqlite.proofs.StateLemmas.{survives_then}
use Rattle.sqlite.specs.Held.{state}
use Rattle.sqlite.specs.State.{CommitsShowing, HasCleanDisk, IsUnchanged}
use Rattle.sqlite.specs.Values.{bound}
use Rattle.store_sql.proofs.StreamLemmas.{OnErr-so, OnOk-so, hands_first_after, hands_over_after, plain_after, showing_before}
use Rattle.store_sql.proofs.streaming.stream.Goals as goal

pub returns-clause-value : goal.returns-clause-value
returns-clause-value g c clean =
    let text = c.args.sql.now in
    let params = bound c.args.params.now in
    let old = state g.S.Store c.args.conn.now in
    let mid = state g.S.Store c.compile.new.conn in
    let new = state g.S.Store c.hand_over.new.conn in
    let late : HasCleanDisk mid = omega (arith, c.hand_over.ensures.survives.clean, clean) in
    let same : IsUnchanged old mid = c.in-Ok.ensures.same late in
    OnOk-so c.hand_over.result _ _ (hands_over_after text params old mid same g.T.TakesRow.takes new c.args.taker.now c.hand_over.new.taker) (c.hand_over.ensures.value clean)

pub returns-clause-begins : goal.returns-clause-begins
returns-clause-begins g c clean =
    let text = c.args.sql.now in
    let params = bound c.args.params.now in
    let old = state g.S.Store c.args.conn.now in
    let mid = state g.S.Store c.compile.new.conn in
    let late : HasCleanDisk mid = omega (arith, c.hand_over.ensures.survives.clean, clean) in
    let same : IsUnchanged old mid = c.in-Ok.ensures.same late in
    OnErr-so c.hand_over.result _ _ (hands_first_after text params old mid same g.T.TakesRow.takes g.T.TakesRow.gives_up c.args.taker.now c.hand_over.new.taker) (c.hand_over.ensures.begins clean same.0.is_open)

pub returns-clause-spares : goal.returns-clause-spares
returns-clause-spares g c layout held plain shows =
    let text = c.args.sql.now in
    let params = bound c.args.params.now in
    let old = state g.S.Store c.args.conn.now in
    let mid = state g.S.Store c.compile.new.conn in
    let new = state g.S.Store c.hand_over.new.conn in
    let first = c.in-Ok.ensures.survives in
    let second = c.hand_over.ensures.survives in
    survives_then old mid new (λ _. ⊥) (CommitsShowing text params mid) (λ _. ⊥) (λ _ _ none. none)
    (λ clean db may.
    let late : HasCleanDisk mid = omega (arith, second.clean, clean) in
    let same : IsUnchanged old mid = c.in-Ok.ensures.same late in
    never_commits text params mid db (plain_after layout text held old mid (omega (arith, first.clean, late)) same shows plain) may)
    first second

pub returns-clause-survives : goal.returns-clause-survives
returns-clause-survives g c =
    let text = c.args.sql.now in
    let params = bound c.args.params.now in
    let old = state g.S.Store c.args.conn.now in
    let mid = state g.S.Store c.compile.new.conn in
    let new = state g.S.Store c.hand_over.new.conn in
    let first = c.in-Ok.ensures.survives in
    let second = c.hand_over.ensures.survives in
    survives_then old mid new (λ _. ⊥) (CommitsShowing text params mid) (CommitsShowing text params old) (λ _ _ none. absurd none)
    (λ clean db may.
    let late : HasCleanDisk mid = omega (arith, second.clean, clean) in
    showing_before text params old mid (c.in-Ok.ensures.same late) first.limit db may)
    first second
