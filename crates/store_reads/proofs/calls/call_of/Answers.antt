use Rattle.std.proofs.Common.{ap, filter, ◌∙◌}
use Rattle.std.proofs.lemmas.List.Elements.{All-filter}
use Rattle.sqlite.specs.Held.{state}
use Rattle.desk_history.specs.Formed.{IsReadable}
use Rattle.desk_history.specs.Runs.{has_key}
use Rattle.store_reads.specs.CallColumns.{texts_of}
use Rattle.store_reads.specs.Reads.{listed}
use Rattle.store_reads.proofs.CallLemmas.{tells_call}
use Rattle.store_reads.proofs.FindLemmas.{none_told, one_told}
use Rattle.store_reads.proofs.calls.call_of.Goals as goal

-- there is none
pub returns-in_default-clause-value : goal.returns-in_default-clause-value
returns-in_default-clause-value g c clean inside =
    let asked = has_key c.args.caller.now c.args.key.now in
    let it = tells_call c.args.caller.now c.args.key.now (state g.S.Store c.args.tx.now.conn.now) (state g.S.Store c.row_of.new.tx.conn.now) c.in_ok-found.found
    (rw (c.params-to_sql.ensures, c.params-to_sql-2.ensures, c.as_str.ensures.value) at (c.in_ok-found.ensures.value clean inside)) in
    record { kept = it.kept; tells = λ t sees all. none_told texts_of (filter asked t.calls) (it.tells t sees ∙ ap listed c.in_default.is) }

-- there is one, which its texts determine
pub returns-clause-value : goal.returns-clause-value
returns-clause-value g c clean inside =
    let asked = has_key c.args.caller.now c.args.key.now in
    let it = tells_call c.args.caller.now c.args.key.now (state g.S.Store c.args.tx.now.conn.now) (state g.S.Store c.row_of.new.tx.conn.now) c.in_ok-found.found
    (rw (c.params-to_sql.ensures, c.params-to_sql-2.ensures, c.as_str.ensures.value) at (c.in_ok-found.ensures.value clean inside)) in
    record {
      kept = it.kept;
      tells = λ t sees all.
          one_told texts_of IsReadable (filter asked t.calls) (All-filter asked IsReadable t.calls all) c.in-Some.texts (it.tells t sees ∙ ap listed c.in-Some.is) c.in_ok-minute.minute c.in_ok-minute.ensures;
    }
