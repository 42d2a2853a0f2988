use Rattle.std.proofs.Common.{◌≡◌, [], Some, sym, subst}
use Rattle.sqlite.specs.Held.{state}
use Rattle.store_schema.specs.declared.selecting.TheConstants.{SELECT_DESK}
use Rattle.store_sql.proofs.ReadLemmas.{failed_inside, shown_inside, shown_keeps}
use Rattle.store_reads.specs.Own.{ReadsBy}
use Rattle.store_reads.specs.declared.desk_row.OwnRow.{OwnRow}
use Rattle.store_reads.proofs.OwnLemmas.{tells_own}
use Rattle.store_reads.proofs.own.own_row.Goals as goal

pub returns-in_err-rows-clause-kept : goal.returns-in_err-rows-clause-kept
returns-in_err-rows-clause-kept g c clean inside =
    failed_inside SELECT_DESK.now [] (state g.S.Store c.args.tx.now.conn.now) (state g.S.Store c.query_all.new.self.conn.now) _ (c.in_err-rows.ensures.err clean)

pub returns-in-Some-clause-value : goal.returns-in-Some-clause-value
returns-in-Some-clause-value g c clean inside =
    tells_own (state g.S.Store c.args.tx.now.conn.now) (state g.S.Store c.query_all.new.self.conn.now) c.in_ok-rows.rows.items c.in-Some.own inside (c.in_ok-rows.ensures.ok clean)
    (subst (λ l. ReadsBy l c.in-Some.own) c.deref.ensures.value c.in-Some.ensures.read)

pub returns-in-Some-clause-inside : goal.returns-in-Some-clause-inside
returns-in-Some-clause-inside g c clean inside =
    let it = shown_inside SELECT_DESK.now [] (state g.S.Store c.args.tx.now.conn.now) (state g.S.Store c.query_all.new.self.conn.now) c.in_ok-rows.rows.items inside (c.in_ok-rows.ensures.ok clean) in
    (it.is_open, it.mode)

pub returns-in-Some-clause-kept : goal.returns-in-Some-clause-kept
returns-in-Some-clause-kept g c clean inside =
    shown_keeps SELECT_DESK.now [] (state g.S.Store c.args.tx.now.conn.now) (state g.S.Store c.query_all.new.self.conn.now) c.in_ok-rows.rows.items inside (c.in_ok-rows.ensures.ok clean)

pub returns-in-Some-clause-told : goal.returns-in-Some-clause-told
returns-in-Some-clause-told g c clean = record {
  read = (c.in_ok-rows.rows.items, c.in_ok-rows.ensures.ok clean, subst (λ l. ReadsBy l c.in-Some.own) c.deref.ensures.value c.in-Some.ensures.read);
  unread = tt;
}

pub returns-clause-told : goal.returns-clause-told
returns-clause-told g c clean = record {
  read = tt;
  unread = λ is. (
    c.in_ok-rows.rows.items,
    c.in_ok-rows.ensures.ok clean,
    λ version other.
        let own : OwnRow = record { version = version; owner = other.0; stamp = other.1 } in
        let found : c.own_row_in.result ≡ Some own = c.own_row_in.ensures.found own (subst (λ l. ReadsBy l own) (sym c.deref.ensures.value) other.2) in
        let none = c.in-None.is in
        cc,
  );
}

pub returns-clause-kept : goal.returns-clause-kept
returns-clause-kept g c clean inside =
    shown_keeps SELECT_DESK.now [] (state g.S.Store c.args.tx.now.conn.now) (state g.S.Store c.query_all.new.self.conn.now) c.in_ok-rows.rows.items inside (c.in_ok-rows.ensures.ok clean)
