use Rattle.std.proofs.Common.{◌≡◌, ◌≢◌, true, false, inl, refl, rules, sym, subst, arith, length, ◌∙◌}
use Rattle.sqlite.specs.Held.{state}
use Rattle.sqlite.specs.State.{HasCleanDisk}
use Rattle.store_sql.proofs.CommitLemmas.{and_then}
use Rattle.base.specs.declared.refusal.Refusal.TheVariants as refusals
use Rattle.store_minutes.proofs.FollowingLemmas.{desk_failed, no_store}
use Rattle.store_minutes.proofs.LineLemmas.{no_refusal}
use Rattle.store_minutes.proofs.ComparingLemmas.{all_given, beginning_given, differs_at, more_given, no_items, none_given, one_more, same_calls, same_line, some_items}
use Rattle.store_minutes.specs.Comparing.{DiffersAt, HasAll}
use Rattle.store_minutes.proofs.comparing.compare.Goals as goal

pub loop-calls-init : goal.loop-calls-init
loop-calls-init g c = record {
  spares = search rules;
  same = λ clean owner cs shown. shown;
  given = λ clean s b. (none_given s (g.R.Read.remaining c.args.reader.now) b.left_is, omega arith);
  steady = refl;
}

-- the desk failed

pub returns-in-Err-clause-spares : goal.returns-in-Err-clause-spares
returns-in-Err-clause-spares g c =
    let at = c.loop-calls in
    and_then (λ _. ⊥) (state g.S.Store c.args.desk.now.conn) (state g.S.Store at.desk.conn) (state g.S.Store c.line.new.self.conn) at.invariant.spares c.in-Err.ensures.reads.spares

pub returns-in-Err-clause-named : goal.returns-in-Err-clause-named
returns-in-Err-clause-named g c = inl (
    desk_failed c.loop-calls.desk.needs_reopening c.in-Err.refusal c.in-Err.ensures.reads.named
    (λ closed. (let e = (c.in-Err.ensures.reads.closed closed).0 in let same : c.in-Err.refusal ≡ refusals.Reopen = cc in same))
    )

-- all lines of the desk are the reader's

pub returns-then-is_empty-clause-all : goal.returns-then-is_empty-clause-all
returns-then-is_empty-clause-all g c = λ clean calls is s b.
    let at = c.loop-calls in
    let mid : HasCleanDisk (state g.S.Store at.desk.conn) = omega (arith, c.in-Ok.ensures.reads.spares.clean, clean) in
    let it = at.invariant.given mid s b in
    let empty : length c.in-Ok.own.items ≡ 0 = (let e = c.is_empty.ensures in let h = c.if-is_empty.true in search (rules, e, h)) in
    let none = no_items c.in-Ok.own.items empty in
    let own = c.in-Ok.ensures.shown clean s.owner s.earlier (at.invariant.same mid s.owner s.earlier b.shows) at.calls refl in
    subst (λ n. HasAll s n (g.R.Read.remaining at.reader)) (same_calls _ _ is) (all_given s at.calls (g.R.Read.remaining at.reader) c.in-Ok.own.items it.0 it.1 own none)

pub returns-then-is_empty-clause-same : goal.returns-then-is_empty-clause-same
returns-then-is_empty-clause-same g c = λ clean.
    let at = c.loop-calls in
    let mid : HasCleanDisk (state g.S.Store at.desk.conn) = omega (arith, c.in-Ok.ensures.reads.spares.clean, clean) in
    λ owner cs shown. c.in-Ok.ensures.reads.same clean (no_store c.in-Ok.own) owner cs (at.invariant.same mid owner cs shown)

pub returns-then-is_empty-clause-spares : goal.returns-then-is_empty-clause-spares
returns-then-is_empty-clause-spares g c =
    let at = c.loop-calls in
    and_then (λ _. ⊥) (state g.S.Store c.args.desk.now.conn) (state g.S.Store at.desk.conn) (state g.S.Store c.line.new.self.conn) at.invariant.spares c.in-Ok.ensures.reads.spares

-- the reader is at its end, or failed

pub returns-in-Ok-false-clause-beginning : goal.returns-in-Ok-false-clause-beginning
returns-in-Ok-false-clause-beginning g c = λ clean _ s b.
    let at = c.loop-calls in
    let mid : HasCleanDisk (state g.S.Store at.desk.conn) = omega (arith, c.in-Ok.ensures.reads.spares.clean, clean) in
    beginning_given s at.calls (g.R.Read.remaining at.reader) (at.invariant.given mid s b).0 (c.in-Ok-false.ensures.end c.in-Ok-false.field-0-test)

pub returns-in-Ok-false-clause-same : goal.returns-in-Ok-false-clause-same
returns-in-Ok-false-clause-same g c = λ clean.
    let at = c.loop-calls in
    let mid : HasCleanDisk (state g.S.Store at.desk.conn) = omega (arith, c.in-Ok.ensures.reads.spares.clean, clean) in
    λ owner cs shown. c.in-Ok.ensures.reads.same clean (no_store c.in-Ok.own) owner cs (at.invariant.same mid owner cs shown)

pub returns-in-Ok-false-clause-spares : goal.returns-in-Ok-false-clause-spares
returns-in-Ok-false-clause-spares g c =
    let at = c.loop-calls in
    and_then (λ _. ⊥) (state g.S.Store c.args.desk.now.conn) (state g.S.Store at.desk.conn) (state g.S.Store c.line.new.self.conn) at.invariant.spares c.in-Ok.ensures.reads.spares

pub returns-in-Err-next_line-clause-spares : goal.returns-in-Err-next_line-clause-spares
returns-in-Err-next_line-clause-spares g c =
    let at = c.loop-calls in
    and_then (λ _. ⊥) (state g.S.Store c.args.desk.now.conn) (state g.S.Store at.desk.conn) (state g.S.Store c.line.new.self.conn) at.invariant.spares c.in-Ok.ensures.reads.spares

-- a line differs

pub returns-then-not-is_same-clause-differs : goal.returns-then-not-is_same-clause-differs
returns-then-not-is_same-clause-differs g c = λ clean n is s b.
    let at = c.loop-calls in
    let mid : HasCleanDisk (state g.S.Store at.desk.conn) = omega (arith, c.in-Ok.ensures.reads.spares.clean, clean) in
    let it = at.invariant.given mid s b in
    let full : length c.in-Ok.own.items ≢ 0 = (let e = c.is_empty.ensures in let h = c.if-is_empty.false in search (rules, e, h)) in
    let some = some_items c.in-Ok.own.items full in
    let own = c.in-Ok.ensures.shown clean s.owner s.earlier (at.invariant.same mid s.owner s.earlier b.shows) at.calls refl in
    let other : c.is_same.result ≡ false = search (rules, c.if-not-is_same.true) in
    let differs : c.next_line.new.line.items ≢ c.in-Ok.own.items = (let d = c.is_same.ensures.differ other in let a = c.as_slice.ensures.value in let o = c.as_slice-in-loop-calls.ensures.value in λ e. d (a ∙ e ∙ sym o)) in (
      subst (DiffersAt s) (same_line _ _ is) (differs_at s at.calls (g.R.Read.remaining at.reader) (g.R.Read.remaining c.next_line.new.reader)
          c.next_line.new.line.items c.in-Ok.own.items it.0 (c.in-Ok-true.ensures.some c.in-Ok-true.field-0-test) own some differs),
      λ owner cs shown. c.in-Ok.ensures.reads.same clean (no_store c.in-Ok.own) owner cs (at.invariant.same mid owner cs shown),
    )

pub returns-then-not-is_same-clause-spares : goal.returns-then-not-is_same-clause-spares
returns-then-not-is_same-clause-spares g c =
    let at = c.loop-calls in
    and_then (λ _. ⊥) (state g.S.Store c.args.desk.now.conn) (state g.S.Store at.desk.conn) (state g.S.Store c.line.new.self.conn) at.invariant.spares c.in-Ok.ensures.reads.spares

-- the next line

pub loop-calls-preserved : goal.loop-calls-preserved
loop-calls-preserved g c =
    let at = c.loop-calls in
    let new = state g.S.Store c.line.new.self.conn in
    let back : HasCleanDisk new → HasCleanDisk (state g.S.Store at.desk.conn) = λ clean. omega (arith, c.in-Ok.ensures.reads.spares.clean, clean) in
    record {
      spares = and_then (λ _. ⊥) (state g.S.Store c.args.desk.now.conn) (state g.S.Store at.desk.conn) new at.invariant.spares c.in-Ok.ensures.reads.spares;
      same = λ clean owner cs shown. c.in-Ok.ensures.reads.same clean (no_store c.in-Ok.own) owner cs (at.invariant.same (back clean) owner cs shown);
      given = λ clean s b.
          let it = at.invariant.given (back clean) s b in
          let full : length c.in-Ok.own.items ≢ 0 = (let e = c.is_empty.ensures in let h = c.if-is_empty.false in search (rules, e, h)) in
          let some = some_items c.in-Ok.own.items full in
          let own = c.in-Ok.ensures.shown clean s.owner s.earlier (at.invariant.same (back clean) s.owner s.earlier b.shows) at.calls refl in
          let one : c.is_same.result ≡ true = search (rules, c.if-not-is_same.false) in
          let same : c.next_line.new.line.items ≡ c.in-Ok.own.items = (let d = c.is_same.ensures.same one in let a = c.as_slice.ensures.value in let o = c.as_slice-in-loop-calls.ensures.value in sym a ∙ d ∙ o) in (
            more_given s at.calls (g.R.Read.remaining at.reader) (g.R.Read.remaining c.next_line.new.reader) c.next_line.new.line.items c.in-Ok.own.items it.0
                (c.in-Ok-true.ensures.some c.in-Ok-true.field-0-test) same own,
            one_more s.earlier at.calls (λ none. some (own ∙ none)),
          );
      steady = c.in-Ok-true.ensures.steady (no_refusal c.in-Ok-true.field-0) ∙ at.invariant.steady;
    }
