use Rattle.std.proofs.Common.{◌≡◌, ◌≢◌, sym, ◌∙◌, arith}
use Rattle.sqlite.specs.Held.{state}
use Rattle.sqlite.specs.State.{HasCleanDisk}
use Rattle.store_schema.specs.Tables.{desk_layout}
use Rattle.store_schema.specs.rows.Contents.{contents}
use Rattle.store_sql.proofs.StopLemmas.{changes_then}
use Rattle.store_first_rules.proofs.past.tell_past.Goals as goal

pub returns-then-is_same-clause-value : goal.returns-then-is_same-clause-value
returns-then-is_same-clause-value g c clean inside =
    let s0 = state g.S.Store c.args.tx.now.conn.now in
    let s1 = state g.S.Store c.first_calls.new.tx.conn.now in
    let s2 = state g.S.Store c.count_all.new.tx.conn.now in
    let c1 : HasCleanDisk s1 = omega (arith, c.in_ok-counted.ensures.survives.clean, clean) in
    let a = c.in_ok-first.ensures.value c1 inside in
    let b = c.in_ok-counted.ensures.value clean a.kept.inside in
    let same = c.is_same.ensures.same c.if-is_same.true in
    record {
      kept = changes_then desk_layout contents s0 s1 s2 (λ t. t) (λ t. t) a.kept b.kept;
      tells = λ t sees.
          let sizes = (b.tells t (a.kept.value t sees)).sizes in (
            λ m is. a.tells t sees m is ∙ same ∙ sizes.calls,
            record { stamp = (b.tells t (a.kept.value t sees)).stamp; sizes = c.all.ensures.right t sizes; person = tt },
            c.all.ensures.known,
          );
    }

pub returns-clause-value : goal.returns-clause-value
returns-clause-value g c clean inside =
    let s0 = state g.S.Store c.args.tx.now.conn.now in
    let s1 = state g.S.Store c.first_calls.new.tx.conn.now in
    let s2 = state g.S.Store c.count_all.new.tx.conn.now in
    let c1 : HasCleanDisk s1 = omega (arith, c.in_ok-counted.ensures.survives.clean, clean) in
    let a = c.in_ok-first.ensures.value c1 inside in
    let b = c.in_ok-counted.ensures.value clean a.kept.inside in
    let differ = c.is_same.ensures.differ c.if-is_same.false in
    record {
      kept = changes_then desk_layout contents s0 s1 s2 (λ t. t) (λ t. t) a.kept b.kept;
      tells = λ t sees m is e. differ (sym (a.tells t sees m is) ∙ e ∙ sym (b.tells t (a.kept.value t sees)).sizes.calls);
    }
