use Rattle.std.proofs.Common.{arith, IsTrue}
use Rattle.std.proofs.Math.Logic.{∥∥₁_map}
use Rattle.sqlite.specs.Files.{file_state}
use Rattle.sqlite.specs.State.{HasCleanDisk}
use Rattle.store_desk.specs.Living.{and_refused}
use Rattle.store_desk.proofs.FilesLemmas.{IfRefused-weaker, IfUnchecked-weaker, IfUnopened-weaker}
use Rattle.store_desk.proofs.LivingLemmas.{ends_refused}
use Rattle.store_desk.proofs.RestartLemmas.{refused_leaves}
use Rattle.store_desk.proofs.restarting.reopen.Goals as goal

pub returns-in-Ok-open-clause-keeps : goal.returns-in-Ok-open-clause-keeps
returns-in-Ok-open-clause-keeps g c clean owner lives seen formed holds =
    c.in-Ok-open.ensures.lives clean owner lives seen formed (holds c.in-Ok.conn c.in-Ok.ensures.found)

pub returns-in-Err-open-clause-again : goal.returns-in-Err-open-clause-again
returns-in-Err-open-clause-again g c owner lives seen holds =
    let first = c.in-Ok.conn in
    let last = c.in-Err-open.conn in
    c.files_after_crash-left.ensures.found owner (and_refused lives) seen (λ clean.
    let before : HasCleanDisk (file_state first) = omega (arith, c.in-Err-open.ensures.failed.clean, clean) in
    let live : IsTrue (file_state first).is_open = (c.in-Ok.ensures.opened before).0.is_open in
    ∥∥₁_map (holds first c.in-Ok.ensures.found before live) (λ it.
    let left = refused_leaves (file_state first) (file_state last) owner lives it.0 c.in-Err-open.ensures.failed it.3
    (c.found_is_shown.ensures.second owner it.0) (c.found_is_shown.ensures.first owner it.0)
    (λ schema contents shows. c.stop_leaves_what_is_shown.ensures schema contents shows live) in
    λ sure db may. (it.0, ends_refused lives it.0 it.1, it.2, left sure db may)))

pub returns-in-Err-open-clause-named : goal.returns-in-Err-open-clause-named
returns-in-Err-open-clause-named g c = c.in-Err-open.ensures.named

pub returns-in-Err-clause-again : goal.returns-in-Err-clause-again
returns-in-Err-clause-again g c = IfRefused-weaker c.unopened.result _ _ (λ left refused. absurd refused) c.unopened.ensures.unrefused

pub returns-in-Err-clause-unopened : goal.returns-in-Err-clause-unopened
returns-in-Err-clause-unopened g c = IfUnopened-weaker c.unopened.result _ _ (λ left holds. holds c.args.files c.in-Err.ensures.unharmed) c.unopened.ensures.unopened

pub returns-in-Err-clause-unchecked : goal.returns-in-Err-clause-unchecked
returns-in-Err-clause-unchecked g c = IfUnchecked-weaker c.unopened.result _ _ (λ left had. (c.in-Err.left, c.in-Err.ensures.unharmed, had)) c.unopened.ensures.unchecked
