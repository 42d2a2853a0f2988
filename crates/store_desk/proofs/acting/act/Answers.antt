use Rattle.std.proofs.Common.{◌≡◌, ◌≢◌, None, Ok, Err, inl, inr, rules, refl, subst, arith, length}
use Rattle.sqlite.specs.Held.{state}
use Rattle.sqlite.specs.State.{HasCleanDisk}
use Rattle.base.specs.declared.refusal.Refusal.TheVariants as refusals
use Rattle.desk_types.specs.declared.command.Call.{Call}
use Rattle.store_schema.specs.rows.Contents.{contents}
use Rattle.desk_history.specs.Writes.{all_written}
use Rattle.desk_history.specs.declared.answer.Answer.TheVariants.{Refused, Repeated}
use Rattle.desk_rules.specs.Decisions.{DecidesCall}
use Rattle.store_decision_rows.specs.remembered.Current.{StaysCurrent}
use Rattle.store_decision_rows.specs.declared.remembered.Remembered.{Remembered}
use Rattle.store_sql.specs.States.{Changes}
use Rattle.store_schema.specs.Tables.{desk_layout}
use Rattle.store_desk.proofs.ActingLemmas.{Viewed, acts_accepted, acts_not, forgetting, repeats}
use Rattle.store_desk.proofs.acting.act.Goals as goal

pub returns-in-Err-decide-clause-value : goal.returns-in-Err-decide-clause-value
returns-in-Err-decide-clause-value g c clean inside =
    let first = state g.S.Store c.args.tx.now.conn.now in
    let read = state g.S.Store c.view.new.tx.conn.now in
    let call = c.args.call.now in
    let seen = c.in-Ok.ensures in
    let known : Remembered = record c.view.new.remembered { person = None } in
    let viewed : Viewed c.args.remembered call c.in-Ok.view known first read = forgetting c.args.remembered call c.in-Ok.view c.view.new.remembered first read
    (record { is_open = (seen.inside clean inside).0; changed = seen.value clean inside; shown = seen.shown clean inside }) in
    let exact : DecidesCall c.in-Ok.view call (Err c.in-Err-decide.refusal) = subst (λ (d : Call). DecidesCall c.in-Ok.view d (Err c.in-Err-decide.refusal)) c.call.view_is c.in-Err-decide.ensures.exact in
    let other : c.in-Err-decide.refusal ≢ refusals.NoMemory = (let e = c.eq.ensures in let h = c.if-eq.false in search (rules, e, h)) in
    acts_not c.args.remembered call c.in-Ok.view known first read (Refused c.in-Err-decide.refusal) viewed refl
    (λ owner cs legal shows. elim (exact owner cs legal shows) [ inl is ↦ is | inr memory ↦ absurd (other memory) ])

pub returns-then-is_empty-clause-value : goal.returns-then-is_empty-clause-value
returns-then-is_empty-clause-value g c clean inside =
    let first = state g.S.Store c.args.tx.now.conn.now in
    let read = state g.S.Store c.view.new.tx.conn.now in
    let call = c.args.call.now in
    let seen = c.in-Ok.ensures in
    let known : Remembered = record c.view.new.remembered { person = None } in
    let viewed : Viewed c.args.remembered call c.in-Ok.view known first read = forgetting c.args.remembered call c.in-Ok.view c.view.new.remembered first read
    (record { is_open = (seen.inside clean inside).0; changed = seen.value clean inside; shown = seen.shown clean inside }) in
    let exact : DecidesCall c.in-Ok.view call (Ok c.in-Ok-decide.changes) = subst (λ (d : Call). DecidesCall c.in-Ok.view d (Ok c.in-Ok-decide.changes)) c.call.view_is c.in-Ok-decide.ensures.exact in
    let none : length c.in-Ok-decide.changes.writes.items ≡ 0 = (let e = c.is_empty.ensures in let h = c.if-is_empty.true in search (rules, e, h)) in
    acts_not c.args.remembered call c.in-Ok.view known first read (Repeated c.in-Ok-decide.changes.reply) viewed refl
    (λ owner cs legal shows. repeats c.args.remembered call c.in-Ok-decide.changes owner cs none (exact owner cs legal shows))

pub returns-in-Ok-write_all-clause-value : goal.returns-in-Ok-write_all-clause-value
returns-in-Ok-write_all-clause-value g c clean inside =
    let first = state g.S.Store c.args.tx.now.conn.now in
    let read = state g.S.Store c.view.new.tx.conn.now in
    let last = state g.S.Store c.write_all.new.tx.conn.now in
    let call = c.args.call.now in
    let changes = c.in-Ok-decide.changes in
    let seen = c.in-Ok.ensures in
    let wrote = c.in-Ok-write_all.ensures in
    let late : HasCleanDisk read = omega (arith, wrote.survives.clean, clean) in
    let known : Remembered = record c.view.new.remembered { person = None } in
    let viewed : Viewed c.args.remembered call c.in-Ok.view known first read = forgetting c.args.remembered call c.in-Ok.view c.view.new.remembered first read
    (record { is_open = (seen.inside late inside).0; changed = seen.value late inside; shown = seen.shown late inside }) in
    let exact : DecidesCall c.in-Ok.view call (Ok changes) = subst (λ (d : Call). DecidesCall c.in-Ok.view d (Ok changes)) c.call.view_is c.in-Ok-decide.ensures.exact in
    let some : length changes.writes.items ≢ 0 = (let e = c.is_empty.ensures in let h = c.if-is_empty.false in search (rules, e, h)) in
    let change : Changes desk_layout contents read last (all_written changes.writes.items) =
    subst (λ ws. Changes desk_layout contents read last (all_written ws)) c.deref.ensures.value (wrote.value clean viewed.changed.inside) in
    acts_accepted c.args.remembered call c.in-Ok.view known c.after.result first read last changes viewed some exact change
    (subst (λ (d : Call). StaysCurrent known d.command changes.writes.items c.after.result) c.call.view_is
    (subst (λ ws. StaysCurrent known c.call.inside.command.now ws c.after.result) c.deref-in-Ok-write_all.ensures.value c.after.ensures))
