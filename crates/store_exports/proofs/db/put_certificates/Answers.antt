use Rattle.std.proofs.Common.{[], ◌∷◌}
use Rattle.sqlite.specs.Held.{state}
use Rattle.sqlite.specs.declared.types.Value.TheVariants.{Text}
use Rattle.siglist.specs.SignatureLists.{spelling}
use Rattle.siglist.specs.Writing.{x509_row}
use Rattle.desk_types.specs.Words.{kind_text}
use Rattle.desk_types.specs.declared.kind.ListedKind.TheVariants as kinds
use Rattle.store_schema.specs.rows.Values.{entry_values}
use Rattle.desk_exports.specs.Exports.{entries_of}
use Rattle.store_schema.specs.declared.selecting.TheConstants.{SELECT_LISTED_OF}
use Rattle.store_schema.proofs.SelectFacts as facts
use Rattle.store_exports.proofs.ListedLemmas.{tells_listed_certificates}
use Rattle.store_exports.proofs.StepLemmas.{of_rows}
use Rattle.store_exports.proofs.db.put_certificates.Goals as goal

pub returns : goal.returns
returns g c =
    let old = c.args.conn.now in
    of_rows g.S.Store entry_values (λ e. spelling (x509_row c.args.owner e.body)) SELECT_LISTED_OF.now (Text (kind_text kinds.Certificate) ∷ []) (entries_of kinds.Certificate) old c.put_rows.new.conn
    (g.W.Write.contents c.args.writer.now) (g.W.Write.contents c.put_rows.new.writer) c.put_rows.result (λ schema fits. (facts.select_listed_of schema fits).plain)
    (λ clean. tells_listed_certificates (state g.S.Store old) clean c.args.owner) (rw (c.params-to_sql.ensures, c.text-kind.ensures) at c.put_rows.ensures)
