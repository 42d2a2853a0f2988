use Rattle.std.proofs.Common.{◌≡◌, ◌++◌, ◌∷◌, [], take, sym, ap, ◌∙◌, arith}
use Rattle.std.proofs.lemmas.List.{take_all}
use Rattle.store_exports.specs.Gathering.{bodiless}
use Rattle.store_exports.proofs.WrittenLemmas.{bodiless_more}
use Rattle.store_exports.proofs.shim.others_of.Goals as goal

pub loop-one-preserved : goal.loop-one-preserved
loop-one-preserved c =
    c.in_ok-push_bodiless.ensures ∙ ap (λ l. l ++ bodiless (c.one-item.result ∷ [])) c.loop-one.invariant
    ∙ sym (bodiless_more c.args.gathered.now c.loop-one.one-index c.one-item.result (omega arith) c.one-item.is)

pub returns : goal.returns
returns c = c.loop-one.invariant ∙ ap bodiless (take_all c.loop-one.one-index c.args.gathered.now (omega arith))
