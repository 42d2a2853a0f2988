use Rattle.std.proofs.Common.{◌≡◌, ◌==◌, Some, None, map, filter, rules, subst, arith}
use Rattle.sqlite.specs.Held.{state}
use Rattle.sqlite.specs.State.{HasCleanDisk}
use Rattle.store_schema.specs.rows.Contents.{contents}
use Rattle.store_sql.proofs.StopLemmas.{changes_then}
use Rattle.store_schema.specs.Tables.{desk_layout}
use Rattle.desk_history.specs.Items.{items_from, items_of}
use Rattle.store_reads.specs.ProposalColumns.{head_of}
use Rattle.store_reads.specs.Reads.{listed}
use Rattle.store_proposals.proofs.ReadLemmas.{read_none, read_one}
use Rattle.store_proposals.proofs.reading.proposal_of.Goals as goal

pub returns-in_default-clause-value : goal.returns-in_default-clause-value
returns-in_default-clause-value g c clean inside =
    let k = c.args.proposal in
    let a = c.in_ok-head.ensures.value clean inside in
    let none : c.in_ok-head.field-0 ≡ None = search (rules, c.in_default.is) in
    record {
      kept = a.kept;
      tells = λ t sees. read_none k t (subst (λ o. map head_of (filter (λ p. k == p.number) t.proposals) ≡ listed o) none (a.tells t sees));
    }

pub returns-clause-value : goal.returns-clause-value
returns-clause-value g c clean inside =
    let k = c.args.proposal in
    let s0 = state g.S.Store c.args.tx.now.conn.now in
    let s1 = state g.S.Store c.head_numbered.new.tx.conn.now in
    let s2 = state g.S.Store c.items_of.new.tx.conn.now in
    let c1 : HasCleanDisk s1 = omega (arith, c.in_ok-rows.ensures.survives.clean, clean) in
    let a = c.in_ok-head.ensures.value c1 inside in
    let b = c.in_ok-rows.ensures.value clean a.kept.inside in
    let head = c.in-Some.head in
    let named = c.in_ok-named.named in
    let rows = c.in_ok-rows.rows.items in
    let some : c.in_ok-head.field-0 ≡ Some head = search (rules, c.in-Some.is) in
    let compared : rows ≡ items_from k 0 (items_of named) = search (rules, c.if-not-are_items.ensures, c.if-not-are_items.false) in
    record {
      kept = changes_then desk_layout contents s0 s1 s2 (λ t. t) (λ t. t) a.kept b.kept;
      tells = λ t sees.
          read_one k t head named rows (subst (λ o. map head_of (filter (λ p. k == p.number) t.proposals) ≡ listed o) some (a.tells t sees)) (b.tells t (a.kept.value t sees)).all
          compared c.in_ok-named.ensures.stamp c.in_ok-named.ensures.passed;
    }
