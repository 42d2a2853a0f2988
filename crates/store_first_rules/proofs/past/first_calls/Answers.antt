use Rattle.std.proofs.Common.{◌≡◌, [], ◌∷◌, map, pos, subst}
use Rattle.sqlite.specs.Held.{state}
use Rattle.sqlite.specs.declared.types.Value.TheVariants.{Int}
use Rattle.store_sql.proofs.ReadLemmas.{failed_inside, shown_inside, shown_keeps}
use Rattle.store_first_rules.specs.Pasts.{second}
use Rattle.store_first_rules.specs.declared.past.TheConstants.{SELECT_MIGRATED}
use Rattle.store_first_rules.proofs.PastLemmas.{tells_first}
use Rattle.store_first_rules.proofs.past.first_calls.Goals as goal

pub returns-in_err-rows-clause-kept : goal.returns-in_err-rows-clause-kept
returns-in_err-rows-clause-kept g c clean inside =
    failed_inside SELECT_MIGRATED.now [] (state g.S.Store c.args.tx.now.conn.now) (state g.S.Store c.query_all.new.self.conn.now) _ (c.in_err-rows.ensures.err clean)

pub returns-in-Some-clause-value : goal.returns-in-Some-clause-value
returns-in-Some-clause-value g c clean inside =
    tells_first (state g.S.Store c.args.tx.now.conn.now) (state g.S.Store c.query_all.new.self.conn.now) c.in_ok-rows.rows.items c.in-Some.calls inside (c.in_ok-rows.ensures.ok clean)
    (subst (λ l. map second l ≡ Int (pos c.in-Some.calls) ∷ []) c.deref.ensures.value c.in-Some.ensures)

pub returns-in-Some-clause-inside : goal.returns-in-Some-clause-inside
returns-in-Some-clause-inside g c clean inside =
    let it = shown_inside SELECT_MIGRATED.now [] (state g.S.Store c.args.tx.now.conn.now) (state g.S.Store c.query_all.new.self.conn.now) c.in_ok-rows.rows.items inside (c.in_ok-rows.ensures.ok clean) in
    (it.is_open, it.mode)

pub returns-in-Some-clause-kept : goal.returns-in-Some-clause-kept
returns-in-Some-clause-kept g c clean inside =
    shown_keeps SELECT_MIGRATED.now [] (state g.S.Store c.args.tx.now.conn.now) (state g.S.Store c.query_all.new.self.conn.now) c.in_ok-rows.rows.items inside (c.in_ok-rows.ensures.ok clean)

pub returns-clause-kept : goal.returns-clause-kept
returns-clause-kept g c clean inside =
    shown_keeps SELECT_MIGRATED.now [] (state g.S.Store c.args.tx.now.conn.now) (state g.S.Store c.query_all.new.self.conn.now) c.in_ok-rows.rows.items inside (c.in_ok-rows.ensures.ok clean)
