use Rattle.std.proofs.Common.{[], ap, arith}
use Rattle.sqlite.specs.Held.{state}
use Rattle.sqlite.specs.State.{HasCleanDisk}
use Rattle.store_schema.proofs.SelectFacts as facts
use Rattle.store_schema.specs.declared.selecting.TheConstants.{SELECT_CALLS}
use Rattle.store_schema.specs.Tables.{desk_layout}
use Rattle.store_schema.specs.rows.Histories.{rows_of}
use Rattle.store_exports.proofs.AnsweredLemmas.{calls_are}
use Rattle.store_impacts.specs.Steps.{Seen}
use Rattle.store_impacts.specs.declared.passing.Pass.{Pass}
use Rattle.store_impacts.proofs.PassLemmas.{passed_rows}
use Rattle.store_impacts.proofs.QueryLemmas.{never_spares, reads_calls}
use Rattle.store_impacts.proofs.passing.touched_images.Goals as goal

pub returns-in-Ok-clause-ok : goal.returns-in-Ok-clause-ok
returns-in-Ok-clause-ok g c clean owner cs history was =
    let old = state g.S.Store c.args.conn.now in
    let new = state g.S.Store c.stream.new.conn in
    let it = c.in-Ok.ensures.value clean in
    let early : HasCleanDisk old = omega (arith, c.in-Ok.ensures.survives.clean, clean) in
    let rows = calls_are old new it.answer early (c.in-Ok.ensures.opened clean) it.exact owner cs was in
    let seen = passed_rows (λ (p : Pass _). p.entries.now) g.E.Standing.standing (λ (p : Pass _). record { requests = p.requests; kept = p.kept.items }) cs history.formed
    it.answer rows _ c.stream.new.taker it.handed (ap (λ l. record { requests = 0; kept = l }) c.new.ensures.items) in
    ap (λ (s : Seen). s.kept) seen

pub returns-in-Ok-clause-same : goal.returns-in-Ok-clause-same
returns-in-Ok-clause-same g c owner cs was = c.in-Ok.ensures.same desk_layout (rows_of owner cs) (λ schema fits. (facts.select_calls schema fits).plain) was

pub returns-in-Ok-clause-spares : goal.returns-in-Ok-clause-spares
returns-in-Ok-clause-spares g c = never_spares (state g.S.Store c.args.conn.now) (state g.S.Store c.stream.new.conn) SELECT_CALLS.now [] reads_calls c.in-Ok.ensures.survives

pub returns-in-Err-Store-clause-same : goal.returns-in-Err-Store-clause-same
returns-in-Err-Store-clause-same g c owner cs was = c.in-Err-Store.ensures.same desk_layout (rows_of owner cs) (λ schema fits. (facts.select_calls schema fits).plain) was

pub returns-in-Err-Store-clause-spares : goal.returns-in-Err-Store-clause-spares
returns-in-Err-Store-clause-spares g c = never_spares (state g.S.Store c.args.conn.now) (state g.S.Store c.stream.new.conn) SELECT_CALLS.now [] reads_calls c.in-Err-Store.ensures.survives

pub returns-clause-same : goal.returns-clause-same
returns-clause-same g c owner cs was = c.in-Err-Taker.ensures.same desk_layout (rows_of owner cs) (λ schema fits. (facts.select_calls schema fits).plain) was

pub returns-clause-spares : goal.returns-clause-spares
returns-clause-spares g c = never_spares (state g.S.Store c.args.conn.now) (state g.S.Store c.stream.new.conn) SELECT_CALLS.now [] reads_calls c.in-Err-Taker.ensures.survives
