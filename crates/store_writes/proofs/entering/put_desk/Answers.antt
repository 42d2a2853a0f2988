use Rattle.std.proofs.Common.{[], ◌∷◌, arith}
use Rattle.std.specs.Prelude.{⊤}
use Rattle.sqlite.specs.Held.{state}
use Rattle.sqlite.specs.State.{HasCleanDisk}
use Rattle.store_sql.specs.Contents.{Contents, change_at, no_rows}
use Rattle.store_sql.proofs.StopLemmas.{changes_then, turns_then}
use Rattle.store_schema.specs.Tables.{desk_layout, desk_schema}
use Rattle.desk_history.specs.Tables.{tables}
use Rattle.store_schema.specs.rows.Contents.{contents}
use Rattle.store_writes.specs.Steps.{unmigrated}
use Rattle.store_writes.proofs.entering.put_desk.Goals as goal

pub returns-clause-value : goal.returns-clause-value
returns-clause-value g c clean inside =
    let owner = c.args.owner.now in
    let first = state g.S.Store c.args.tx.now.conn.now in
    let mid = state g.S.Store c.put_own.new.tx.conn.now in
    let new = state g.S.Store c.put_migrated.new.tx.conn.now in
    let late : HasCleanDisk mid = omega (arith, c.in_ok-put_migrated.ensures.survives.clean, clean) in
    let own = c.in_ok-put_own.ensures.value late inside in
    let it = c.in_ok-put_migrated.ensures.value clean own.inside in
    turns_then desk_layout (λ (_ : ⊤). no_rows desk_schema.tables) (λ _. contents (unmigrated owner)) (λ _. contents (tables owner []))
    first mid new own (λ _ sees. it.value (unmigrated owner) sees) it.is_open it.inside it.kept

pub returns-clause-puts : goal.returns-clause-puts
returns-clause-puts g c clean inside layout both =
    let first = state g.S.Store c.args.tx.now.conn.now in
    let mid = state g.S.Store c.put_own.new.tx.conn.now in
    let new = state g.S.Store c.put_migrated.new.tx.conn.now in
    let late : HasCleanDisk mid = omega (arith, c.in_ok-put_migrated.ensures.survives.clean, clean) in
    let own = c.in_ok-put_own.ensures.puts late inside layout both.own.at both.own.table both.own.terms both.own.row both.own.means both.own.is in
    let it = c.in_ok-put_migrated.ensures.puts clean own.inside layout both.calls.at both.calls.table both.calls.terms both.calls.row both.calls.means both.calls.is in
    changes_then layout (λ (c : Contents). c) first mid new (change_at both.own.at (λ rows. both.own.row ∷ rows)) (change_at both.calls.at (λ rows. both.calls.row ∷ rows)) own it
