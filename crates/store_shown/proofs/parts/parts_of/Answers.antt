use Rattle.std.proofs.Common.{arith}
use Rattle.sqlite.specs.Held.{state}
use Rattle.sqlite.specs.State.{HasCleanDisk}
use Rattle.store_schema.specs.rows.Contents.{contents}
use Rattle.store_sql.proofs.StopLemmas.{changes_then}
use Rattle.store_schema.specs.Tables.{desk_layout}
use Rattle.store_shown.proofs.parts.parts_of.Goals as goal

pub returns-clause-value : goal.returns-clause-value
returns-clause-value g c clean inside =
    let s0 = state g.S.Store c.args.tx.now.conn.now in
    let s1 = state g.S.Store c.certificates_of.new.tx.conn.now in
    let s2 = state g.S.Store c.components_of.new.tx.conn.now in
    let s3 = state g.S.Store c.votes_of.new.tx.conn.now in
    let s4 = state g.S.Store c.return_of.new.tx.conn.now in
    let c3 : HasCleanDisk s3 = omega (arith, c.in_ok-returned.ensures.survives.clean, clean) in
    let c2 : HasCleanDisk s2 = omega (arith, c.in_ok-votes.ensures.survives.clean, c3) in
    let c1 : HasCleanDisk s1 = omega (arith, c.in_ok-components.ensures.survives.clean, c2) in
    let a = c.in_ok-certificates.ensures.value c1 inside in
    let b = c.in_ok-components.ensures.value c2 a.kept.inside in
    let d = c.in_ok-votes.ensures.value c3 b.kept.inside in
    let e = c.in_ok-returned.ensures.value clean d.kept.inside in
    record {
      kept = changes_then desk_layout contents s0 s1 s4 (λ t. t) (λ t. t) a.kept
          (changes_then desk_layout contents s1 s2 s4 (λ t. t) (λ t. t) b.kept (changes_then desk_layout contents s2 s3 s4 (λ t. t) (λ t. t) d.kept e.kept));
      tells = λ t sees.
          let sees1 = a.kept.value t sees in
          let sees2 = b.kept.value t sees1 in
          let sees3 = d.kept.value t sees2 in
          record { certificates = (a.tells t sees).all; components = (b.tells t sees1).all; votes = (d.tells t sees2).all; returned = e.tells t sees3 };
    }
