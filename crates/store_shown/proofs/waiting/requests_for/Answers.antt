use Rattle.std.proofs.Common.{◌≡◌, length, subst, arith}
use Rattle.sqlite.specs.Held.{state}
use Rattle.sqlite.specs.State.{HasCleanDisk}
use Rattle.store_reads.specs.Reads.{ReadsTables}
use Rattle.store_reads.proofs.TellsLemmas.{tells_so, tells_then}
use Rattle.store_shown.specs.Choosing.{ListsUpTo}
use Rattle.store_shown.specs.declared.choice.Choice.TheVariants as choices
use Rattle.store_shown.proofs.waiting.requests_for.Goals as goal

pub returns-clause-value : goal.returns-clause-value
returns-clause-value g c clean inside =
    let n = c.in_ok-count.count in
    let s0 = state g.S.Store c.args.tx.now.conn.now in
    let s1 = state g.S.Store c.count.new.tx.conn.now in
    let s2 = state g.S.Store c.list_after.new.tx.conn.now in
    let c1 : HasCleanDisk s1 = omega (arith, c.in_ok-list.ensures.survives.clean, clean) in
    let first : ReadsTables (λ t. n ≡ length t.requests) s0 s1 = c.in_ok-count.ensures.value c1 inside in
    let second : ReadsTables (λ t. ListsUpTo choices.Waiting c.args.reader.now t 0 n n (g.L.RequestList.holds c.in_ok-list.list)) s1 s2 = c.in_ok-list.ensures.value clean first.kept.inside in
    tells_so s0 s2 (λ t. (n ≡ length t.requests) × ListsUpTo choices.Waiting c.args.reader.now t 0 n n (g.L.RequestList.holds c.in_ok-list.list)) (λ t. ListsUpTo choices.Waiting c.args.reader.now t 0 (length t.requests) (length t.requests) (g.L.RequestList.holds c.in_ok-list.list))
    (λ t both. subst (λ m. ListsUpTo choices.Waiting c.args.reader.now t 0 m m (g.L.RequestList.holds c.in_ok-list.list)) both.0 both.1)
    (tells_then s0 s1 s2 (λ t. n ≡ length t.requests) (λ t. ListsUpTo choices.Waiting c.args.reader.now t 0 n n (g.L.RequestList.holds c.in_ok-list.list)) first second)
