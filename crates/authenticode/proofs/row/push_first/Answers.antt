use Rattle.std.proofs.Common.{◌≡◌, ◌++◌, ◌∷◌, [], ap, ◌∙◌, rules}
use Rattle.std.proofs.lemmas.Result.{err_from_is_err_and}
use Rattle.base.specs.Parts.{part_of}
use Rattle.authenticode.proofs.CarriedLemmas.{adds_none, adds_tbs, no_certificate}
use Rattle.authenticode.proofs.row.push_first.Goals as goal
use Rattle.authenticode.proofs.row.push_first.Goals.{then-found-eq-SEQUENCE+in_ok-tbs+else-is_err, else-found-eq-SEQUENCE}

pub returns-in_err-tbs-clause-err : goal.returns-in_err-tbs-clause-err
returns-in_err-tbs-clause-err c =
    let p = err_from_is_err_and c.from_residual-in_err-tbs.result c.from_residual-in_err-tbs.ensures.1 in
    rw (p.1, p.2) (no_certificate c.args.row.now (part_of c.in_ok-found.found c.in_ok-found.rest.now) c.in_ok-found.ensures.exact c.if-found-eq-SEQUENCE.true c.in_err-tbs.ensures.only)

pub returns-clause-ok : goal.returns-clause-ok
returns-clause-ok c =
    let part = part_of c.in_ok-found.found c.in_ok-found.rest.now in
    elim c.if-found-eq-SEQUENCE.branch [
      | then-found-eq-SEQUENCE+in_ok-tbs+else-is_err w ↦
          let pushed : w.push.new.self.items ≡ c.args.digests.now.items ++ w.hash_of.result ∷ [] = search rules in
          adds_tbs c.args.row.now w.in_ok-tbs.tbs.now w.hash_of.result part _ _ c.in_ok-found.ensures.exact w.if-found-eq-SEQUENCE.true
          w.in_ok-tbs.ensures.found w.hash_of.ensures (ap (λ v. v.items) w.digests-is ∙ pushed)
      | else-found-eq-SEQUENCE w ↦
          adds_none c.args.row.now part _ _ c.in_ok-found.ensures.exact w.if-found-eq-SEQUENCE.false (ap (λ v. v.items) w.digests-is)
    ]
