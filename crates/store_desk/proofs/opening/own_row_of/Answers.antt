use Rattle.std.proofs.Common.{inl, inr, rules, arith}
use Rattle.sqlite.specs.Held.{state}
use Rattle.sqlite.specs.State.{HasCleanDisk, IsUnchanged}
use Rattle.store_desk.proofs.OpeningLemmas.{lacks_there, open_there}
use Rattle.store_desk.proofs.opening.own_row_of.Goals as goal

pub returns-in-Ok-own_row-clause-told : goal.returns-in-Ok-own_row-clause-told
returns-in-Ok-own_row-clause-told g c clean =
    let old = state g.S.Store c.args.tx.now.conn.now in
    let mid = c.ask_columns.new.tx.conn.now in
    let late : HasCleanDisk (state g.S.Store mid) = omega (arith, c.in-Ok-own_row.ensures.survives.clean, clean) in
    let same : IsUnchanged old (state g.S.Store mid) = c.in-Ok.ensures.same late in
    record {
      is_open = same.0.was_open;
      read = (mid, c.own_row.new.tx.conn.now, same.0.now_is, (c.in-Ok-own_row.ensures.told clean).read);
      unread = tt;
    }

pub returns-in-Err-Row-clause-told : goal.returns-in-Err-Row-clause-told
returns-in-Err-Row-clause-told g c clean =
    let old = state g.S.Store c.args.tx.now.conn.now in
    let mid = c.ask_columns.new.tx.conn.now in
    let late : HasCleanDisk (state g.S.Store mid) = omega (arith, c.in-Err-Row.ensures.survives.clean, clean) in
    let same : IsUnchanged old (state g.S.Store mid) = c.in-Ok.ensures.same late in
    record {
      is_open = λ is. same.0.was_open;
      read = tt;
      unread = λ is. inr (mid, c.own_row.new.tx.conn.now, same.0.now_is, (c.in-Err-Row.ensures.told clean).unread (search rules));
    }

pub returns-in-Err-clause-told : goal.returns-in-Err-clause-told
returns-in-Err-clause-told g c clean =
    let old = state g.S.Store c.args.tx.now.conn.now in
    let refused = c.in-Err.ensures.refused clean in
    record {
      is_open = open_there old c.in-Err.refusal refused;
      read = tt;
      unread = λ is. inl (lacks_there old c.in-Err.refusal refused is);
    }
