use Rattle.std.proofs.Common.{arith}
use Rattle.sqlite.specs.Held.{state}
use Rattle.sqlite.specs.State.{HasCleanDisk}
use Rattle.store_schema.specs.Tables.{desk_layout}
use Rattle.store_schema.specs.rows.Contents.{contents}
use Rattle.store_sql.proofs.StopLemmas.{changes_then}
use Rattle.store_first_rules.proofs.PastLemmas.{are_sizes}
use Rattle.store_first_rules.proofs.past.count_all.Goals as goal

pub returns-clause-value : goal.returns-clause-value
returns-clause-value g c clean inside =
    let s0 = state g.S.Store c.args.tx.now.conn.now in
    let s1 = state g.S.Store c.counts.new.tx.conn.now in
    let s2 = state g.S.Store c.count.new.tx.conn.now in
    let s3 = state g.S.Store c.count-2.new.tx.conn.now in
    let c2 : HasCleanDisk s2 = omega (arith, c.in_ok-proposals.ensures.survives.clean, clean) in
    let c1 : HasCleanDisk s1 = omega (arith, c.in_ok-listed.ensures.survives.clean, c2) in
    let a = c.in_ok-counted.ensures.value c1 inside in
    let b = c.in_ok-listed.ensures.value c2 a.kept.inside in
    let d = c.in_ok-proposals.ensures.value clean b.kept.inside in
    record {
      kept = changes_then desk_layout contents s0 s1 s3 (λ t. t) (λ t. t) a.kept (changes_then desk_layout contents s1 s2 s3 (λ t. t) (λ t. t) b.kept d.kept);
      tells = λ t sees.
          let sees1 = a.kept.value t sees in
          let n = a.tells t sees in
          let listed = b.tells t sees1 in
          let proposals = d.tells t (b.kept.value t sees1) in
          record {
            sizes = are_sizes _ t n.calls n.people n.requests.all listed n.lists.revoked.digests n.lists.revoked.certificates n.lists.components proposals;
            stamp = n.lists.stamp;
          };
    }
