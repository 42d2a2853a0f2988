use Rattle.std.proofs.Common.{[], arith}
use Rattle.sqlite.specs.Held.{state}
use Rattle.sqlite.specs.State.{HasCleanDisk}
use Rattle.desk_types.specs.declared.kind.ListedKind.TheVariants as kinds
use Rattle.desk_exports.specs.Exports.{revoked}
use Rattle.store_schema.proofs.SelectFacts as facts
use Rattle.store_schema.specs.Tables.{desk_layout}
use Rattle.store_schema.specs.rows.Histories.{rows_of}
use Rattle.store_exports.specs.declared.gathering.CertificateTaker.{CertificateTaker}
use Rattle.store_exports.proofs.AnsweredLemmas.{certificates_are}
use Rattle.store_exports.proofs.GatherLemmas.{found_rows}
use Rattle.store_exports.proofs.gathering.certificates.Goals as goal

pub returns-in-Ok : goal.returns-in-Ok
returns-in-Ok g c = record {
  told = λ clean owner cs all was.
      let old = state g.S.Store c.args.conn.now in
      let new = state g.S.Store c.stream.new.conn in
      let it = c.in-Ok.ensures.value clean in
      let early : HasCleanDisk old = omega (arith, c.in-Ok.ensures.survives.clean, clean) in
      let rows = certificates_are old new it.answer early (c.in-Ok.ensures.opened clean) it.exact owner cs was in
      found_rows (λ (t : CertificateTaker). t.gathered.items) (revoked kinds.Certificate cs) it.answer rows _ c.stream.new.taker c.new.ensures.items it.handed;
  same = λ owner cs was. c.in-Ok.ensures.same desk_layout (rows_of owner cs) (λ schema fits. (facts.select_revoked_certificates schema fits).plain) was;
  spares = λ owner cs was. c.in-Ok.ensures.spares desk_layout (rows_of owner cs) (λ schema fits. (facts.select_revoked_certificates schema fits).plain) was;
  clean = λ end. omega (arith, c.in-Ok.ensures.survives.clean, end);
}

pub returns-in-Err-Store : goal.returns-in-Err-Store
returns-in-Err-Store g c = record {
  told = λ clean. tt;
  same = λ owner cs was. c.in-Err-Store.ensures.same desk_layout (rows_of owner cs) (λ schema fits. (facts.select_revoked_certificates schema fits).plain) was;
  spares = λ owner cs was. c.in-Err-Store.ensures.spares desk_layout (rows_of owner cs) (λ schema fits. (facts.select_revoked_certificates schema fits).plain) was;
  clean = λ end. omega (arith, c.in-Err-Store.ensures.survives.clean, end);
}

pub returns : goal.returns
returns g c = record {
  told = λ clean. tt;
  same = λ owner cs was. c.in-Err-Taker.ensures.same desk_layout (rows_of owner cs) (λ schema fits. (facts.select_revoked_certificates schema fits).plain) was;
  spares = λ owner cs was. c.in-Err-Taker.ensures.spares desk_layout (rows_of owner cs) (λ schema fits. (facts.select_revoked_certificates schema fits).plain) was;
  clean = λ end. omega (arith, c.in-Err-Taker.ensures.survives.clean, end);
}
