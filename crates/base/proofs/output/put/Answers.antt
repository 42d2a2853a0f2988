use Rattle.std.proofs.Common.{◌+◌, ◌-◌, ◌≤◌, ◌++◌, length, take, drop, ap, ◌∙◌, subst, rules, arith}
use Rattle.std.specs.Io.KnownBytes.{Appends}
use Rattle.std.proofs.KnownBytes.{Appends-trans}
use Rattle.std.proofs.lemmas.List.{take_rest, places}
use Rattle.base.proofs.OutputLemmas.{take-more}
use Rattle.base.proofs.output.put.Goals as goal

pub loop-done-preserved : goal.loop-done-preserved
loop-done-preserved g c =
    let bytes = c.args.bytes.now in
    let done = c.loop-done.done in
    let n = c.in-Ok.taken in
    let rest = take_rest bytes done in
    let joined = ap (λ l. take done bytes ++ take n l) rest ∙ take-more done n bytes (omega arith) in
    let bound : n ≤ length (take (length bytes - done) (drop done bytes)) = c.in-Ok.ensures.bound in
    let fits : done + n ≤ length bytes = search (rules, places) in
    (fits, subst (Appends _ _) joined (Appends-trans _ _ _ _ _ c.loop-done.invariant.1 c.in-Ok.ensures.bytes))

pub returns-in-Ok-eq0-clause-ok : goal.returns-in-Ok-eq0-clause-ok
returns-in-Ok-eq0-clause-ok g c = search rules
