use Rattle.std.proofs.Common.{◌≡◌, false, true, sym, ◌∙◌}
use Rattle.store_desk.specs.Living.{and_refused}
use Rattle.store_desk.specs.Remains.{has_store}
use Rattle.store_desk.proofs.FilesLemmas.{had_store, left_holds, outlasts}
use Rattle.store_desk.proofs.RestartLemmas.{one_more_life}
use Rattle.store_desk.proofs.restarting.unopened.Goals as goal

pub returns-else-has_store-clause-unopened : goal.returns-else-has_store-clause-unopened
returns-else-has_store-clause-unopened g c files unharmed clean none owner lives seen hold =
    let unstored : has_store c.args.left ≡ false = sym c.has_store-has_store.ensures ∙ c.if-has_store.false in
    let given = c.into_files.result in
    outlasts g.D.Disk owner (and_refused lives) seen given c.after_stop-files.result c.after_stop-files.ensures.left
    (λ sure image may. one_more_life image owner lives seen
    (left_holds g.D.Disk g.met.D.Disk.seen_may_stay files clean none owner lives seen hold c.args.left unstored unharmed given c.into_files.ensures sure image may))

pub returns-then-has_store-clause-unchecked : goal.returns-then-has_store-clause-unchecked
returns-then-has_store-clause-unchecked g c =
    let stored : has_store c.args.left ≡ true = sym c.has_store-has_store.ensures ∙ c.if-has_store.true in
    had_store g.D.Disk c.args.left stored c.into_files.result c.into_files.ensures c.after_stop-files.result c.after_stop-files.ensures.left
