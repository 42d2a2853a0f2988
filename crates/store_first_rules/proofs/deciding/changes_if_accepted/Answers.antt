use Rattle.std.proofs.Common.{◌≡◌, ◌≢◌, Ok, Err, length, rules, subst}
use Rattle.base.specs.declared.refusal.Refusal.TheVariants as refusals
use Rattle.desk_types.specs.declared.command.Call.{Call}
use Rattle.desk_rules.specs.First.{DecidesFirstCall}
use Rattle.store_first_rules.proofs.DecidingLemmas.{refused, repeated, taken}
use Rattle.store_first_rules.proofs.deciding.changes_if_accepted.Goals as goal

pub returns-then-is_empty-clause-other : goal.returns-then-is_empty-clause-other
returns-then-is_empty-clause-other c =
    let v = c.args.view.now in
    let call = c.args.call.now in
    let changes = c.in-Ok.changes in
    let exact : DecidesFirstCall v call (Ok changes) = subst (λ (d : Call). DecidesFirstCall v d (Ok changes)) c.call.view_is c.in-Ok.ensures.exact in
    let none : length changes.writes.items ≡ 0 = (let e = c.is_empty.ensures in let h = c.if-is_empty.true in search (rules, e, h)) in
    repeated v call changes none exact

pub returns-else-is_empty-clause-taken : goal.returns-else-is_empty-clause-taken
returns-else-is_empty-clause-taken c =
    let v = c.args.view.now in
    let call = c.args.call.now in
    let changes = c.in-Ok.changes in
    let exact : DecidesFirstCall v call (Ok changes) = subst (λ (d : Call). DecidesFirstCall v d (Ok changes)) c.call.view_is c.in-Ok.ensures.exact in
    let some : length changes.writes.items ≢ 0 = (let e = c.is_empty.ensures in let h = c.if-is_empty.false in search (rules, e, h)) in
    taken v call changes some exact

pub returns-else-eq-clause-other : goal.returns-else-eq-clause-other
returns-else-eq-clause-other c =
    let v = c.args.view.now in
    let call = c.args.call.now in
    let refusal = c.in-Err.refusal in
    let exact : DecidesFirstCall v call (Err refusal) = subst (λ (d : Call). DecidesFirstCall v d (Err refusal)) c.call.view_is c.in-Err.ensures.exact in
    let other : refusal ≢ refusals.NoMemory = (let e = c.eq.ensures in let h = c.if-eq.false in search (rules, e, h)) in
    refused v call refusal other exact
