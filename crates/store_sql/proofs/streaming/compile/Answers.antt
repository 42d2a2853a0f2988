use Rattle.std.specs.Prelude.{[]}
use Rattle.sqlite.specs.Held.{state}
use Rattle.store_sql.proofs.StreamLemmas.{OnErr-fact, not_run_leaves}
use Rattle.store_sql.proofs.streaming.compile.Goals as goal

pub returns-in_err-_statement-clause-failed : goal.returns-in_err-_statement-clause-failed
returns-in_err-_statement-clause-failed g c clean =
    OnErr-fact _ _ (not_run_leaves (state g.S.Store c.args.conn.now) (state g.S.Store c.prepare.new.self) c.args.sql.now [] c.in_err-_statement.field-0.0 (c.in_err-_statement.ensures.err clean []))
