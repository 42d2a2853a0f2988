use Rattle.std.proofs.Common.{rules, ◌≡◌, true}
use Rattle.sqlite.specs.Held.{state}
use Rattle.desk_rules.specs.Shown.{rows_in}
use Rattle.store_decision_rows.specs.sizes.Sizes.{AreRight}
use Rattle.store_decision_rows.proofs.LearningLemmas.{is_lacking, learns_size, right_size}
use Rattle.store_reads.proofs.TellsLemmas.{tells_so}
use Rattle.store_decision_rows.proofs.sizing.learn_one.Goals as goal

pub returns-clause-value : goal.returns-clause-value
returns-clause-value g c clean inside =
    let before = c.args.sizes in
    let after = c.with_size.result in
    let counted = c.in_ok-counted.counted in
    tells_so (state g.S.Store c.args.tx.now.conn.now) (state g.S.Store c.count_of.new.tx.conn.now)
    (λ t. counted ≡ rows_in t c.args.table) (λ t. AreRight before t → AreRight after t)
    (λ t is right. right_size before after t counted c.args.table is c.with_size.ensures.told c.with_size.ensures.others right)
    (c.in_ok-counted.ensures.value clean inside)

pub returns-clause-learnt : goal.returns-clause-learnt
returns-clause-learnt g c =
    let lacking : is_lacking c.args.command.now c.args.table c.args.sizes ≡ true = search (rules, c.is_lacking.ensures, c.if-not-is_lacking.false) in
    learns_size c.args.command.now c.args.table c.args.sizes c.with_size.result c.in_ok-counted.counted lacking c.with_size.ensures.told c.with_size.ensures.others
