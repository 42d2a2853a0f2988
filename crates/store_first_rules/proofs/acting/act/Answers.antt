use Rattle.std.proofs.Common.{◌≡◌, true, false, rules, subst, arith}
use Rattle.sqlite.specs.Held.{state}
use Rattle.sqlite.specs.State.{HasCleanDisk}
use Rattle.desk_types.specs.declared.command.Call.{Call}
use Rattle.store_schema.specs.Tables.{desk_layout}
use Rattle.store_schema.specs.rows.Contents.{contents}
use Rattle.store_sql.specs.States.{Changes}
use Rattle.desk_history.specs.Writes.{all_written}
use Rattle.desk_types.specs.declared.command.Command.TheVariants as command
use Rattle.store_decision_rows.specs.remembered.Current.{StaysCurrent}
use Rattle.store_decision_rows.proofs.SizeLemmas.{enough}
use Rattle.store_first_rules.specs.Acts.{FollowsInside}
use Rattle.store_first_rules.specs.Steps.{with_first_calls}
use Rattle.store_first_rules.proofs.ActingLemmas.{follows_inside, no_reply, other_reply}
use Rattle.store_first_rules.proofs.acting.act.Goals as goal

pub returns-in-Ok-None-clause-value : goal.returns-in-Ok-None-clause-value
returns-in-Ok-None-clause-value g c clean inside p sees =
    let none = rw c.in-Ok-None.field-0-is at c.in-Ok-None.ensures.other in
    no_reply _ c.args.told.now (none p.owner p.calls p.history.legal p.first (c.in-Ok.ensures.shown clean inside p sees))

-- accepted with another reply
pub returns-then-not-is_same_reply-clause-value : goal.returns-then-not-is_same_reply-clause-value
returns-then-not-is_same_reply-clause-value g c clean inside p sees =
    let accepts = rw c.in-Ok-Some.field-0-is at c.in-Ok-Some.ensures.taken in
    let differs : c.is_same_reply.result ≡ false = search (rules, c.if-not-is_same_reply.true) in
    other_reply _ c.in-Ok-Some.changes.reply c.args.told.now (accepts p.owner p.calls p.history.legal p.first (c.in-Ok.ensures.shown clean inside p sees)).accepted
    (c.is_same_reply.ensures.differ differs)

pub returns-in-Ok-write_first-clause-value : goal.returns-in-Ok-write_first-clause-value
returns-in-Ok-write_first-clause-value g c clean inside =
    let first = state g.S.Store c.args.tx.now.conn.now in
    let read = state g.S.Store c.first_view.new.tx.conn.now in
    let last = state g.S.Store c.write_first.new.tx.conn.now in
    let r = c.args.remembered.now in
    let call = c.args.call.now in
    let changes = c.in-Ok-Some.changes in
    let later = c.after-later.result in
    let seen = c.in-Ok.ensures in
    let wrote = c.in-Ok-write_first.ensures in
    let late : HasCleanDisk read = omega (arith, wrote.survives.clean, clean) in
    let viewed = seen.value late inside in
    let accepts = rw c.in-Ok-Some.field-0-is at c.in-Ok-Some.ensures.taken in
    let calls = c.sizes-sizes.result.calls in
    let change : Changes desk_layout contents read last (λ t. with_first_calls calls (all_written changes.writes.items t)) =
    subst (λ ws. Changes desk_layout contents read last (λ t. with_first_calls calls (all_written ws t))) c.deref-2.ensures.value (wrote.value clean viewed.inside) in
    let stays : StaysCurrent r call.command changes.writes.items later = subst (λ (d : Call). StaysCurrent r d.command changes.writes.items later) c.call.view_is
    (subst (λ ws. StaysCurrent r c.call.inside.command.now ws later) c.deref.ensures.value c.after-later.ensures) in
    let same : c.is_same_reply.result ≡ true = search (rules, c.if-not-is_same_reply.false) in
    subst (λ reply. FollowsInside r call reply later first last) (c.is_same_reply.ensures.same same)
    (follows_inside r call c.in-Ok.view first read last changes later calls viewed (seen.shown late inside) accepts stays
    (λ t right known. (c.sizes-sizes.ensures t (command.Confirm 0) right (enough later.sizes (command.Confirm 0) known)).calls) change)
