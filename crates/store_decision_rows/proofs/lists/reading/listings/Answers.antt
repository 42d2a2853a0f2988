use Rattle.std.proofs.Common.{arith}
use Rattle.sqlite.specs.Held.{state}
use Rattle.sqlite.specs.State.{HasCleanDisk}
use Rattle.desk_types.specs.declared.kind.ListedKind.TheVariants as kinds
use Rattle.store_decision_rows.specs.lists.Gathering.{Gathers, ShowsListed, entry_keys, listings_of}
use Rattle.store_decision_rows.proofs.ShownLemmas.{gathered_listed, only_listed}
use Rattle.store_reads.proofs.TellsLemmas.{tells_so, tells_then}
use Rattle.store_decision_rows.proofs.lists.reading.listings.Goals as goal

pub returns-clause-value : goal.returns-clause-value
returns-clause-value g c clean inside =
    let first = state g.S.Store c.args.tx.now.conn.now in
    let mid = state g.S.Store c.gather_listed.new.tx.conn.now in
    let new = state g.S.Store c.gather_listed-2.new.tx.conn.now in
    let k = entry_keys c.args.listed in
    let start = c.new-rows.result.items in
    let was = c.gather_listed.new.rows.items in
    let rows = c.gather_listed-2.new.rows.items in
    let one = c.in_ok-gather_listed.ensures in
    let two = c.in_ok-gather_listed-2.ensures in
    let late : HasCleanDisk mid = omega (arith, two.survives.clean, clean) in
    let a = one.value late inside in
    let b = two.value clean a.kept.inside in
    tells_so first new (λ t. Gathers (listings_of kinds.Digest) k.digests start was t × Gathers
    (listings_of kinds.Certificate) k.certificates was rows t) (ShowsListed rows k)
    (λ t h. gathered_listed k start was rows c.new-rows.ensures.items t h.0 h.1)
    (tells_then first mid new (Gathers (listings_of kinds.Digest) k.digests start was)
    (Gathers (listings_of kinds.Certificate) k.certificates was rows) a b)

pub returns-clause-only : goal.returns-clause-only
returns-clause-only g c =
    only_listed (entry_keys c.args.listed) c.new-rows.result.items c.gather_listed.new.rows.items c.gather_listed-2.new.rows.items c.new-rows.ensures.items c.in_ok-gather_listed.ensures.only c.in_ok-gather_listed-2.ensures.only

pub returns-clause-inside : goal.returns-clause-inside
returns-clause-inside g c some clean inside =
    let mid = state g.S.Store c.gather_listed.new.tx.conn.now in
    let one = c.in_ok-gather_listed.ensures in
    let two = c.in_ok-gather_listed-2.ensures in
    let late : HasCleanDisk mid = omega (arith, two.survives.clean, clean) in
    let a = one.inside some late inside in
    let b = two.value clean a.1 in
    (b.kept.is_open a.0, b.kept.inside)
