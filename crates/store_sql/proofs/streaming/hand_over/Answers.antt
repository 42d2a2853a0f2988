use Rattle.std.proofs.Common.{◌≡◌, ◌++◌, ◌∷◌, [], Some, inl, inr, option_copied, refl, sym, subst, rules, arith}
use Rattle.sqlite.proofs.Callers.{IsPlain, begun_plain, unchanged_then}
use Rattle.sqlite.specs.Effect.{Database}
use Rattle.sqlite.specs.Given.{HasGiven}
use Rattle.sqlite.specs.Held.{state}
use Rattle.sqlite.specs.Listing.{understood}
use Rattle.sqlite.specs.State.{HasCleanDisk, IsUnchanged, Shown, Survives, CommitsShowing}
use Rattle.sqlite.specs.Values.{bound}
use Rattle.store_sql.proofs.ReadLemmas.{failed_same, shown_after, streams, takes_one_more}
use Rattle.store_sql.proofs.StreamLemmas.{given_begins}
use Rattle.store_sql.proofs.streaming.hand_over.Goals as goal

pub rows-init : goal.rows-init
rows-init g c =
    let made = c.in-Ok.ensures in
    (refl, made.survives, made.mode, ([], refl, λ clean plain. begun_plain g.S.Store c.args.sql.now (bound c.args.params.now) c.args.conn.now _ plain (made.begun clean)))

pub rows-preserved : goal.rows-preserved
rows-preserved g c =
    let text = c.args.sql.now in
    let params = bound c.args.params.now in
    let old = state g.S.Store c.args.conn.now in
    let moved = c.next.follows.holds-at-none in
    let held = c.next.follows.lender-at-none.conn.now in
    let now = state g.S.Store held in
    let before = c.rows.invariant.3 in
    let row = c.in-Some.row.now in
    let survived : Survives old now (CommitsShowing text params old) = search rules in
    let next : option_copied c.in-Ok-next.next ≡ Some row = search rules in (
      search rules,
      survived,
      (λ outside. moved.mode (c.rows.invariant.2 outside)),
      (
        before.0 ++ row ∷ [],
        takes_one_more g.T.TakesRow.takes c.args.taker.now c.rows.taker c.take.new.self before.0 row before.1 c.in-Ok-take.ensures.ok,
        λ clean plain.
            let was = before.2 (omega (arith, moved.survives.clean, clean)) plain in
            let gave : HasGiven g.S.Store text params held (before.0 ++ row ∷ []) = (rw (c.in-Ok-next.is, next) at (moved.ok clean)) text params before.0 was.0 in
            let same : IsUnchanged (state g.S.Store c.rows.rows.conn.now) now = rw c.in-Ok-next.is at (moved.same clean) in
            (gave, unchanged_then old (state g.S.Store c.rows.rows.conn.now) now was.1 same),
      ),
    )

pub returns-in_default-clause-value : goal.returns-in_default-clause-value
returns-in_default-clause-value g c clean =
    let text = c.args.sql.now in
    let params = bound c.args.params.now in
    let old = state g.S.Store c.args.conn.now in
    let moved = c.next.follows.holds-at-none in
    let now = c.next.follows.lender-at-none.conn.now in
    let late : HasCleanDisk (state g.S.Store now) = search rules in
    let before = c.rows.invariant.3 in
    let given = before.0 in
    let same : now ≡ c.conn-in_default-1.given.0 = search rules in
    record {
      answer = given;
      handed = before.1;
      exact = λ layout at table terms order rest names means fits.
          let plain : IsPlain (understood old.now.schema text) = (means old.now.schema fits).plain in
          let was = before.2 (omega (arith, moved.survives.clean)) plain in
          let shown = (rw (c.in-Ok-next.is, c.in_default.is) at (moved.ok late)) text params given was.0 in
          let later = subst (λ (d : Database). IsPlain (understood d.schema text)) (sym was.1.0.now_is) plain in
          let all : Shown text params old (state g.S.Store c.conn-in_default-1.given.0) given =
          subst (λ h. Shown text params old (state g.S.Store h) given) same (shown_after text params old (state g.S.Store c.rows.rows.conn.now) (state g.S.Store now) given later was.1 shown) in
          streams text params old (state g.S.Store c.conn-in_default-1.given.0) given all layout at table terms order rest names means fits;
    }

pub returns-in-Err-clause-same : goal.returns-in-Err-clause-same
returns-in-Err-clause-same g c clean plain =
    let refused = rw c.in-Err.is at c.query.follows.holds-at-none in
    failed_same c.args.sql.now (bound c.args.params.now) (state g.S.Store c.args.conn.now) (state g.S.Store c.query.follows.lender-at-none) c.in-Err.error (refused.err clean)

pub returns-in-Err-next-clause-begins : goal.returns-in-Err-next-clause-begins
returns-in-Err-next-clause-begins g c clean live =
    let text = c.args.sql.now in
    let params = bound c.args.params.now in
    let old = state g.S.Store c.args.conn.now in
    let moved = c.next.follows.holds-at-none in
    let now = c.next.follows.lender-at-none.conn.now in
    let late : HasCleanDisk (state g.S.Store now) = search rules in
    let before = c.rows.invariant.3 in
    record {
      taken = before.0;
      last = c.rows.taker;
      handed = before.1;
      begins = inr (given_begins g.S.Store text params old c.rows.rows.conn.now before.0 live (before.2 (omega (arith, moved.survives.clean, late))));
      ends = inl refl;
    }

pub returns-in-Err-take-clause-begins : goal.returns-in-Err-take-clause-begins
returns-in-Err-take-clause-begins g c clean live =
    let text = c.args.sql.now in
    let params = bound c.args.params.now in
    let old = state g.S.Store c.args.conn.now in
    let moved = c.next.follows.holds-at-none in
    let held = c.next.follows.lender-at-none.conn.now in
    let now = state g.S.Store held in
    let late : HasCleanDisk now = search rules in
    let early : HasCleanDisk (state g.S.Store c.rows.rows.conn.now) = omega (arith, moved.survives.clean, late) in
    let before = c.rows.invariant.3 in
    let row = c.in-Some.row.now in
    let next : option_copied c.in-Ok-next.next ≡ Some row = search rules in
    record {
      taken = before.0;
      last = c.rows.taker;
      handed = before.1;
      begins = inr (given_begins g.S.Store text params old c.rows.rows.conn.now before.0 live (before.2 early));
      ends = inr (record {
        row = row;
        refused = c.in-Err-take.ensures.err;
        begins = given_begins g.S.Store text params old held (before.0 ++ row ∷ []) live (λ plain.
            let was = before.2 early plain in
            let gave : HasGiven g.S.Store text params held (before.0 ++ row ∷ []) = (rw (c.in-Ok-next.is, next) at (moved.ok late)) text params before.0 was.0 in
            let same : IsUnchanged (state g.S.Store c.rows.rows.conn.now) now = rw c.in-Ok-next.is at (moved.same late) in
            (gave, unchanged_then old (state g.S.Store c.rows.rows.conn.now) now was.1 same));
      });
    }

pub returns-clause-begins : goal.returns-clause-begins
returns-clause-begins g c clean live =
    let text = c.args.sql.now in
    let params = bound c.args.params.now in
    let old = state g.S.Store c.args.conn.now in
    let late : HasCleanDisk (state g.S.Store c.rows.rows.conn.now) = search rules in
    let before = c.rows.invariant.3 in
    record {
      taken = before.0;
      last = c.rows.taker;
      handed = before.1;
      begins = inr (given_begins g.S.Store text params old c.rows.rows.conn.now before.0 live (before.2 late));
      ends = inl refl;
    }
