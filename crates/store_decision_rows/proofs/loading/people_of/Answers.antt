use Rattle.std.proofs.Common.{rules, ◌≡◌, ◌++◌, filter, subst, All, None, Some, IsTrue, arith}
use Rattle.std.specs.Prelude.{option_copied}
use Rattle.sqlite.specs.Held.{state}
use Rattle.sqlite.specs.State.{HasCleanDisk}
use Rattle.desk_types.specs.Callers.{caller_name}
use Rattle.desk_types.specs.Naming.{person_added}
use Rattle.store_schema.specs.rows.Contents.{contents}
use Rattle.desk_history.specs.People.{has_name}
use Rattle.store_sql.proofs.StopLemmas.{changes_then}
use Rattle.store_schema.specs.Tables.{desk_layout}
use Rattle.store_reads.specs.People.{IsOneOf}
use Rattle.store_reads.specs.Reads.{ReadsTables, listed}
use Rattle.store_decision_rows.specs.Steps.{ShowsPeople}
use Rattle.store_decision_rows.proofs.NamedLemmas.{people_asked, put_thrice, shows_caller, shows_people}
use Rattle.store_reads.proofs.TellsLemmas.{tells_so}
use Rattle.store_decision_rows.proofs.loading.people_of.Goals as goal

pub returns-in_default-clause-value : goal.returns-in_default-clause-value
returns-in_default-clause-value g c clean inside =
    let first = state g.S.Store c.args.tx.now.conn.now in
    let last = state g.S.Store c.caller.new.tx.conn.now in
    let caller = caller_name c.args.caller.now in
    let own = c.in_ok-own.own in
    let rows = c.push_some.new.rows.items in
    let is : rows ≡ listed own = subst (λ l. rows ≡ l ++ listed own) c.new-people.ensures.items c.in_ok-push_some.ensures in
    let none : person_added c.args.command.now ≡ None = search (rules, c.person_added.ensures, c.in_default.is) in
    let kept = option_copied c.args.remembered_person in
    tells_so first last (λ t. IsOneOf kept t.people → filter (has_name caller) t.people ≡ listed own) (λ t. IsOneOf kept t.people → ShowsPeople rows t caller c.args.command.now)
    (λ t read known. shows_caller t caller c.args.command.now own (read known) rows none is)
    (subst (λ n. ReadsTables (λ t. IsOneOf kept t.people → filter (has_name n) t.people ≡ listed own) first last) c.name.ensures (c.in_ok-own.ensures.value clean inside))

pub returns-clause-value : goal.returns-clause-value
returns-clause-value g c clean inside =
    let s0 = state g.S.Store c.args.tx.now.conn.now in
    let s1 = state g.S.Store c.caller.new.tx.conn.now in
    let s2 = state g.S.Store c.person.new.tx.conn.now in
    let s3 = state g.S.Store c.holder.new.tx.conn.now in
    let c2 : HasCleanDisk s2 = omega (arith, c.in_ok-holder.ensures.survives.clean, clean) in
    let c1 : HasCleanDisk s1 = omega (arith, c.in_ok-namesake.ensures.survives.clean, c2) in
    let command = c.args.command.now in
    let caller = caller_name c.args.caller.now in
    let person = c.in-Some.person.now in
    let own = c.in_ok-own.own in
    let namesake = c.in_ok-namesake.namesake in
    let holder = c.in_ok-holder.holder in
    let rows = c.push_some-3.new.rows.items in
    let a = subst (λ n. ReadsTables (λ t. IsOneOf (option_copied c.args.remembered_person) t.people → filter (has_name n) t.people ≡ listed own) s0 s1) c.name.ensures (c.in_ok-own.ensures.value c1 inside) in
    let b = subst (λ n. ReadsTables (λ t. filter (has_name n) t.people ≡ listed namesake) s1 s2) c.as_str.ensures.value (c.in_ok-namesake.ensures.value c2 a.kept.inside) in
    let d = c.in_ok-holder.ensures.value clean b.kept.inside in
    let some : person_added command ≡ Some person = search (rules, c.person_added.ensures, c.in-Some.is) in
    let all = put_thrice c.new-people.result.items c.push_some.new.rows.items c.push_some-2.new.rows.items rows (listed own) (listed namesake) (listed holder)
    c.new-people.ensures.items c.in_ok-push_some.ensures c.in_ok-push_some-2.ensures c.in_ok-push_some-3.ensures in
    record {
      kept = changes_then desk_layout contents s0 s1 s3 (λ t. t) (λ t. t) a.kept (changes_then desk_layout contents s1 s2 s3 (λ t. t) (λ t. t) b.kept d.kept);
      tells = λ t sees known.
          let sees1 = a.kept.value t sees in
          let sees2 = b.kept.value t sees1 in
          shows_people t caller command own (a.tells t sees known) rows person namesake holder some (b.tells t sees1) (d.tells t sees2) all;
    }

pub returns-clause-only : goal.returns-clause-only
returns-clause-only g c =
    let person = c.in-Some.person.now in
    let own = c.in_ok-own.own in
    let namesake = c.in_ok-namesake.namesake in
    let holder = c.in_ok-holder.holder in
    let some : person_added c.args.command.now ≡ Some person = search (rules, c.person_added.ensures, c.in-Some.is) in
    people_asked (caller_name c.args.caller.now) c.args.command.now c.push_some-3.new.rows.items person (listed own) (listed namesake) (listed holder) some
    (subst (λ n. All (λ p. IsTrue (has_name n p)) (listed own)) c.name.ensures c.in_ok-own.ensures.only)
    (subst (λ n. All (λ p. IsTrue (has_name n p)) (listed namesake)) c.as_str.ensures.value c.in_ok-namesake.ensures.only)
    c.in_ok-holder.ensures.only
    (put_thrice c.new-people.result.items c.push_some.new.rows.items c.push_some-2.new.rows.items c.push_some-3.new.rows.items (listed own) (listed namesake) (listed holder)
    c.new-people.ensures.items c.in_ok-push_some.ensures c.in_ok-push_some-2.ensures c.in_ok-push_some-3.ensures)
