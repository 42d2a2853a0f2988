use Rattle.std.proofs.Common.{arith}
use Rattle.sqlite.specs.Held.{state}
use Rattle.sqlite.specs.State.{HasCleanDisk}
use Rattle.store_schema.specs.rows.Contents.{contents}
use Rattle.store_sql.proofs.StopLemmas.{changes_then}
use Rattle.store_schema.specs.Tables.{desk_layout}
use Rattle.store_counts.proofs.counting.count_revoked.Goals as goal

pub returns-clause-value : goal.returns-clause-value
returns-clause-value g c clean inside =
    let s0 = state g.S.Store c.args.tx.now.conn.now in
    let s1 = state g.S.Store c.count.new.tx.conn.now in
    let s2 = state g.S.Store c.count-2.new.tx.conn.now in
    let c1 : HasCleanDisk s1 = omega (arith, c.in_ok-certificates.ensures.survives.clean, clean) in
    let a = c.in_ok-images.ensures.value c1 inside in
    let b = c.in_ok-certificates.ensures.value clean a.kept.inside in
    record {
      kept = changes_then desk_layout contents s0 s1 s2 (λ t. t) (λ t. t) a.kept b.kept;
      tells = λ t sees.
          let sees1 = a.kept.value t sees in
          record { digests = a.tells t sees; certificates = b.tells t sees1 };
    }
