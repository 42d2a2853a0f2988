use Rattle.std.proofs.Common.{[], get_or, rules, sym}
use Rattle.std.proofs.lemmas.List.Sorted.{answers_always}
use Rattle.store_exports.specs.Gathering.{Bodies, unfound}
use Rattle.store_exports.proofs.PlaceLemmas.{at_place, changed, nowhere}
use Rattle.store_exports.proofs.gathering.add_to.Goals as goal

-- the certificate is at its place, and its body was added there
pub returns-in-Ok : goal.returns-in-Ok
returns-in-Ok c up =
    let bs = c.args.gathered.now in
    let p = c.in-Ok.place in
    let x = c.index-gathered-place.result in
    let found = c.in-Ok.ensures.position (λ (b : Bodies). b.tbs) (answers_always _ _ _ (λ f a r g called. search rules)) in
    changed c.add.result c.args.certificate bs p (get_or bs p x) c.add.new.self (at_place bs up c.args.certificate p x c.in-Ok.ensures.bound (rw c.tbs-tbs.ensures at (found x))) c.add.ensures

-- none of them is it
pub returns-in-Err : goal.returns-in-Err
returns-in-Err c up =
    let found = c.in-Err.ensures.position (λ (b : Bodies). b.tbs) (answers_always _ _ _ (λ f a r g called. search rules)) in
    sym (nowhere c.args.gathered.now up c.args.certificate (unfound []) c.in-Err.field-0 (rw c.tbs-tbs.ensures at found))
