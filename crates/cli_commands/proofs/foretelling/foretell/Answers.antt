use Rattle.std.proofs.Common.{◌≡◌, refl, arith}
use Rattle.base.specs.declared.refusal.Refusal.TheVariants as refusals
use Rattle.desk_types.specs.declared.caller.Caller.TheVariants as callers
use Rattle.desk_history.specs.ImpactShown.{impact_for}
use Rattle.cli_output.proofs.LineLemmas.{Appends-same, AppendsBeginning-same}
use Rattle.cli_commands.specs.Faults.{IsForetellingRefusal}
use Rattle.cli_commands.proofs.FaultLemmas.{store_told}
use Rattle.cli_commands.proofs.ForetellingLemmas.{due_lines, due_outcome, foretelling_named}
use Rattle.cli_commands.proofs.foretelling.foretell.Goals as goal

-- the impact is refused, or the desk failed

pub returns-in-Err-clause-named : goal.returns-in-Err-clause-named
returns-in-Err-clause-named g c =
    let it : IsForetellingRefusal c.in-Err.refusal =
    foretelling_named c.args.desk.now.needs_reopening c.in-Err.refusal (λ usable. c.in-Err.ensures.reads.named usable)
    (λ closed. (let e = (c.in-Err.ensures.reads.closed closed).0 in let same : c.in-Err.refusal ≡ refusals.Reopen = cc in same)) in
    rw c.from.ensures (refl, it)

pub returns-in-Err-clause-same : goal.returns-in-Err-clause-same
returns-in-Err-clause-same g c = λ clean other.
    c.in-Err.ensures.reads.same clean (λ given. other (store_told c.from.result c.in-Err.refusal c.from.ensures given))

pub returns-in-Err-clause-spares : goal.returns-in-Err-clause-spares
returns-in-Err-clause-spares g c = λ owner cs was. c.in-Err.ensures.reads.spares

pub returns-in-Err-clause-clean : goal.returns-in-Err-clause-clean
returns-in-Err-clause-clean g c = λ clean. omega (arith, c.in-Err.ensures.reads.spares.clean, clean)

-- the lines were written

pub returns-in-Ok-say_impact-clause-ok : goal.returns-in-Ok-say_impact-clause-ok
returns-in-Ok-say_impact-clause-ok g c = λ clean owner cs was.
    Appends-same _ _ _ _ (due_lines (impact_for cs callers.Console c.args.number) c.in-Ok.impact (c.in-Ok.ensures.shown clean owner cs was)) c.in-Ok-say_impact.ensures.ok

pub returns-in-Ok-say_impact-clause-exact : goal.returns-in-Ok-say_impact-clause-exact
returns-in-Ok-say_impact-clause-exact g c = λ clean owner cs was.
    due_outcome (impact_for cs callers.Console c.args.number) c.in-Ok.impact c.outcome.result (c.in-Ok.ensures.shown clean owner cs was) c.outcome.ensures

pub returns-in-Ok-say_impact-clause-spares : goal.returns-in-Ok-say_impact-clause-spares
returns-in-Ok-say_impact-clause-spares g c = λ owner cs was. c.in-Ok.ensures.reads.spares

pub returns-in-Ok-say_impact-clause-clean : goal.returns-in-Ok-say_impact-clause-clean
returns-in-Ok-say_impact-clause-clean g c = λ clean. omega (arith, c.in-Ok.ensures.reads.spares.clean, clean)

-- they weren't, or not whole

pub returns-clause-unwritten : goal.returns-clause-unwritten
returns-clause-unwritten g c = λ other. absurd (other c.in-Err-say_impact.ensures.named)

pub returns-clause-clean : goal.returns-clause-clean
returns-clause-clean g c = λ clean. omega (arith, c.in-Ok.ensures.reads.spares.clean, clean)

pub returns-clause-beginning : goal.returns-clause-beginning
returns-clause-beginning g c = λ clean owner cs was.
    AppendsBeginning-same _ _ _ _ (due_lines (impact_for cs callers.Console c.args.number) c.in-Ok.impact (c.in-Ok.ensures.shown clean owner cs was)) c.in-Err-say_impact.ensures.err

pub returns-clause-spares : goal.returns-clause-spares
returns-clause-spares g c = λ owner cs was. c.in-Ok.ensures.reads.spares
