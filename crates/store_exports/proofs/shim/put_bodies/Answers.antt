use Rattle.std.proofs.Common.{◌≡◌, ◌++◌, ℕ, List, flat_map, take, sym, ap, subst, arith}
use Rattle.std.specs.Io.KnownBytes.{Appends}
use Rattle.std.proofs.KnownBytes.{Appends-nil, Appends-trans}
use Rattle.std.proofs.lemmas.List.{take_all}
use Rattle.base.specs.Output.{AppendsBeginning}
use Rattle.base.proofs.OutputLemmas.{AppendsBeginning-after, AppendsBeginning-before, OnErr-fact}
use Rattle.store_exports.specs.Gathering.{bodies_text}
use Rattle.store_exports.proofs.WrittenLemmas.{flat_more, flat_round}
use Rattle.store_exports.proofs.shim.put_bodies.Goals as goal

pub returns-in_err-put-clause-err : goal.returns-in_err-put-clause-err
returns-in_err-put-clause-err g c =
    let whole = flat_round (bodies_text c.args.owner.now) c.args.gathered.now c.loop-one.one-index c.one-item.result (omega arith) c.one-item.is in
    let upto = AppendsBeginning-after _ _ _ _ _ c.loop-one.invariant c.in_err-put.ensures.err in
    OnErr-fact _ _ (subst (AppendsBeginning _ _) (sym whole) (AppendsBeginning-before _ _ _ _ upto))

pub loop-one-init : goal.loop-one-init
loop-one-init g c = Appends-nil _

pub loop-one-preserved : goal.loop-one-preserved
loop-one-preserved g c =
    let more = flat_more (bodies_text c.args.owner.now) c.args.gathered.now c.loop-one.one-index c.one-item.result (omega arith) c.one-item.is in
    subst (Appends _ _) (sym more) (Appends-trans _ _ _ _ _ c.loop-one.invariant c.in_ok-put.ensures.ok)

pub returns-clause-ok : goal.returns-clause-ok
returns-clause-ok g c =
    let given = c.args.gathered.now in
    let i = c.loop-one.one-index in
    let all : take i given ≡ given = take_all i given (omega arith) in
    subst (Appends _ _) (ap (flat_map (bodies_text c.args.owner.now)) all) c.loop-one.invariant
