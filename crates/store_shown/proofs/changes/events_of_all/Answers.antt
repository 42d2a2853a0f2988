use Rattle.std.proofs.Common.{◌≡◌, length, subst, arith}
use Rattle.sqlite.specs.Held.{state}
use Rattle.sqlite.specs.State.{HasCleanDisk}
use Rattle.store_reads.specs.Reads.{ReadsTables}
use Rattle.store_reads.proofs.TellsLemmas.{tells_so, tells_then}
use Rattle.store_shown.specs.Happening.{HappenedToFirst}
use Rattle.store_shown.proofs.changes.events_of_all.Goals as goal

pub returns-clause-value : goal.returns-clause-value
returns-clause-value g c clean inside =
    let n = c.in_ok-count.count in
    let s0 = state g.S.Store c.args.tx.now.conn.now in
    let s1 = state g.S.Store c.count.new.tx.conn.now in
    let s2 = state g.S.Store c.events_of_first.new.tx.conn.now in
    let c1 : HasCleanDisk s1 = omega (arith, c.in_ok-events.ensures.survives.clean, clean) in
    let first : ReadsTables (λ t. n ≡ length t.requests) s0 s1 = c.in_ok-count.ensures.value c1 inside in
    let second : ReadsTables (λ t. HappenedToFirst c.args.reader.now t n c.in_ok-events.events) s1 s2 = c.in_ok-events.ensures.value clean first.kept.inside in
    tells_so s0 s2 (λ t. (n ≡ length t.requests) × HappenedToFirst c.args.reader.now t n c.in_ok-events.events) (λ t. HappenedToFirst c.args.reader.now t (length t.requests) c.in_ok-events.events)
    (λ t both. subst (λ m. HappenedToFirst c.args.reader.now t m c.in_ok-events.events) both.0 both.1)
    (tells_then s0 s1 s2 (λ t. n ≡ length t.requests) (λ t. HappenedToFirst c.args.reader.now t n c.in_ok-events.events) first second)
