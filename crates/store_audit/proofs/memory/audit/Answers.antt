use Rattle.std.proofs.Common.{◌≡◌, ℕ, List, [], Err, Some, refl, ap, sym, subst, ◌∙◌}
use Rattle.std.specs.Prelude.{IfErr, IfOk, IfSome}
use Rattle.store_memory.proofs.CleanLemmas.{memory_is_clean}
use Rattle.store_memory.specs.Disks.{over_memory}
use Rattle.store_desk.specs.Desks.{ShowsDesk}
use Rattle.store_audit.specs.Audits.{HasFollowed, IsWrongAt}
use Rattle.store_minutes.specs.Faults.{IsCaused}
use Rattle.store_audit.specs.Rules.{HasFollowedFirst}
use Rattle.store_minutes.specs.Starts.{HasFollowedAfter, IsWrongAfter, Start}
use Rattle.store_minutes.specs.declared.auditing.AuditFault.TheVariants.{Device, Line}
use Rattle.store_audit.proofs.AuditLemmas.{audited, begins, known_so, none_wrong, same_fault, wrong_at}
use Rattle.store_audit.proofs.memory.audit.Goals as goal

-- without a desk

pub returns-in-Err-follow_from_first-clause-named : goal.returns-in-Err-follow_from_first-clause-named
returns-in-Err-follow_from_first-clause-named g c = c.fault_in_memory.ensures.named c.follow_from_first.new.watch c.in-Err-follow_from_first.ensures.named

pub returns-in-Err-follow_from_first-clause-steady : goal.returns-in-Err-follow_from_first-clause-steady
returns-in-Err-follow_from_first-clause-steady g c = λ other.
    c.in-Err-follow_from_first.ensures.kept (λ e. other (ap Err (c.fault_in_memory.ensures.read (ap Device e))))

-- all lines were followed
pub returns-in-Ok-result-clause-ok : goal.returns-in-Ok-result-clause-ok
returns-in-Ok-result-clause-ok g c =
    let owner = c.args.owner.now in
    let desk = c.in-Ok-follow_from_first.run'.desk in
    let calls = c.in-Ok-result.calls in
    known_so (g.R.Read.remaining c.args.reader.now) (λ bytes. HasFollowed over_memory desk owner calls (Some bytes) (Some [])) (λ bytes is.
    let start : Start = record { owner = owner; earlier = []; bytes = bytes } in
    let pre = subst (HasFollowedFirst over_memory c.in-Ok.first start 0) (sym is) (begins over_memory c.in-Ok.first owner bytes c.in-Ok.ensures.shown) in
    audited over_memory desk owner bytes calls (subst (λ r. IfOk r (λ n. HasFollowedAfter over_memory desk start n (Some []))) c.in-Ok-result.is
    (c.in-Ok-follow_from_first.ensures.ok (memory_is_clean desk.conn) start pre)))

-- a line was wrong, or memory was refused

pub returns-clause-wrong : goal.returns-clause-wrong
returns-clause-wrong g c = λ n is.
    let owner = c.args.owner.now in
    let desk = c.in-Ok-follow_from_first.run'.desk in
    known_so (g.R.Read.remaining c.args.reader.now) (λ bytes. IsWrongAt bytes n) (λ bytes known.
    let start : Start = record { owner = owner; earlier = []; bytes = bytes } in
    let pre = subst (HasFollowedFirst over_memory c.in-Ok.first start 0) (sym known) (begins over_memory c.in-Ok.first owner bytes c.in-Ok.ensures.shown) in
    wrong_at (ShowsDesk over_memory desk owner) start n refl
    ((subst (λ r. IfErr r (λ fault. (m : ℕ) → fault ≡ Line m → IsWrongAfter (ShowsDesk over_memory desk owner) start m)) c.in-Err-result.is
    (c.in-Ok-follow_from_first.ensures.wrong (memory_is_clean desk.conn) start pre)) n (c.fault_in_memory-in-Err-result.ensures.line n is)))

pub returns-clause-passes : goal.returns-clause-passes
returns-clause-passes g c = λ n is cs.
    let owner = c.args.owner.now in
    let desk = c.in-Ok-follow_from_first.run'.desk in
    none_wrong (g.R.Read.remaining c.args.reader.now) n cs
    (known_so (g.R.Read.remaining c.args.reader.now) (λ bytes. IsWrongAt bytes n) (λ bytes known.
    let start : Start = record { owner = owner; earlier = []; bytes = bytes } in
    let pre = subst (HasFollowedFirst over_memory c.in-Ok.first start 0) (sym known) (begins over_memory c.in-Ok.first owner bytes c.in-Ok.ensures.shown) in
    wrong_at (ShowsDesk over_memory desk owner) start n refl
    ((subst (λ r. IfErr r (λ fault. (m : ℕ) → fault ≡ Line m → IsWrongAfter (ShowsDesk over_memory desk owner) start m)) c.in-Err-result.is
    (c.in-Ok-follow_from_first.ensures.wrong (memory_is_clean desk.conn) start pre)) n (c.fault_in_memory-in-Err-result.ensures.line n is))))

pub returns-clause-named : goal.returns-clause-named
returns-clause-named g c =
    c.fault_in_memory-in-Err-result.ensures.named c.follow_from_first.new.watch
    (subst (λ r. IfErr r (IsCaused c.follow_from_first.new.watch)) c.in-Err-result.is c.in-Ok-follow_from_first.ensures.caused)

pub returns-clause-steady : goal.returns-clause-steady
returns-clause-steady g c = λ other.
    c.in-Ok-follow_from_first.ensures.steady (λ e. other (ap Err (c.fault_in_memory-in-Err-result.ensures.read (same_fault _ _ (sym c.in-Err-result.is ∙ e)))))
