use Rattle.std.proofs.Common.{arith}
use Rattle.sqlite.specs.Held.{state}
use Rattle.sqlite.specs.State.{HasCleanDisk}
use Rattle.store_schema.specs.rows.Contents.{contents}
use Rattle.store_sql.proofs.StopLemmas.{changes_then}
use Rattle.store_schema.specs.Tables.{desk_layout}
use Rattle.store_decision_rows.proofs.loading.rows_of_call.Goals as goal

pub returns-clause-value : goal.returns-clause-value
returns-clause-value g c clean inside =
    let s0 = state g.S.Store c.args.tx.now.conn.now in
    let s1 = state g.S.Store c.people_of.new.tx.conn.now in
    let s2 = state g.S.Store c.calls_of.new.tx.conn.now in
    let s3 = state g.S.Store c.requests_of.new.tx.conn.now in
    let s4 = state g.S.Store c.votes_of.new.tx.conn.now in
    let s5 = state g.S.Store c.proposals_of.new.tx.conn.now in
    let c4 : HasCleanDisk s4 = omega (arith, c.in_ok-proposals.ensures.survives.clean, clean) in
    let c3 : HasCleanDisk s3 = omega (arith, c.in_ok-votes.ensures.survives.clean, c4) in
    let c2 : HasCleanDisk s2 = omega (arith, c.in_ok-requests.ensures.survives.clean, c3) in
    let c1 : HasCleanDisk s1 = omega (arith, c.in_ok-calls.ensures.survives.clean, c2) in
    let a = c.in_ok-people.ensures.value c1 inside in
    let b = c.in_ok-calls.ensures.value c2 a.kept.inside in
    let d = c.in_ok-requests.ensures.value c3 b.kept.inside in
    let e = c.in_ok-votes.ensures.value c4 d.kept.inside in
    let f = c.in_ok-proposals.ensures.value clean e.kept.inside in
    record {
      kept = changes_then desk_layout contents s0 s1 s5 (λ t. t) (λ t. t) a.kept
          (changes_then desk_layout contents s1 s2 s5 (λ t. t) (λ t. t) b.kept
          (changes_then desk_layout contents s2 s3 s5 (λ t. t) (λ t. t) d.kept (changes_then desk_layout contents s3 s4 s5 (λ t. t) (λ t. t) e.kept f.kept)));
      tells = λ t sees back known.
          let sees1 = a.kept.value t sees in
          let sees2 = b.kept.value t sees1 in
          let sees3 = d.kept.value t sees2 in
          let sees4 = e.kept.value t sees3 in
          rw (← c.call.view_is) (record { people = a.tells t sees known; call = b.tells t sees1 back.calls; request = d.tells t sees2; votes = e.tells t sees3; proposal = f.tells t sees4 back.proposals });
    }

pub returns-clause-only : goal.returns-clause-only
returns-clause-only g c = rw (← c.call.view_is) (record {
  people = c.in_ok-people.ensures.only;
  calls = c.in_ok-calls.ensures.only;
  requests = c.in_ok-requests.ensures.only;
  votes = c.in_ok-votes.ensures.only;
  proposals = c.in_ok-proposals.ensures.only;
})
