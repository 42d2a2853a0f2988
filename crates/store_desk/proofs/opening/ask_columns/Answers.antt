use Rattle.std.proofs.Common.{inr, [], rules, refl}
use Rattle.sqlite.specs.Held.{state}
use Rattle.store_schema.specs.declared.selecting.TheConstants.{SELECT_DESK}
use Rattle.store_desk.specs.Steps.{RefusesText}
use Rattle.store_desk.proofs.OpeningLemmas.{no_text_there, not_run_keeps}
use Rattle.store_desk.proofs.opening.ask_columns.Goals as goal

pub returns-then-refuses_text-clause-refused : goal.returns-then-refuses_text-clause-refused
returns-then-refuses_text-clause-refused g c clean =
    let text : RefusesText c.in-Err.error = search rules in
    let it = no_text_there (state g.S.Store c.args.tx.now.conn.now) (state g.S.Store c.prepare.new.self.conn.now) c.in-Err.error (c.in-Err.ensures.err clean []) text in
    inr (refl, it.0, it.1)

pub returns-then-refuses_text-clause-kept : goal.returns-then-refuses_text-clause-kept
returns-then-refuses_text-clause-kept g c clean inside =
    not_run_keeps (state g.S.Store c.args.tx.now.conn.now) (state g.S.Store c.prepare.new.self.conn.now) SELECT_DESK.now [] c.in-Err.error (c.in-Err.ensures.err clean [])

pub returns-clause-kept : goal.returns-clause-kept
returns-clause-kept g c clean inside =
    not_run_keeps (state g.S.Store c.args.tx.now.conn.now) (state g.S.Store c.prepare.new.self.conn.now) SELECT_DESK.now [] c.in-Err.error (c.in-Err.ensures.err clean [])
