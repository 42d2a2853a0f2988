use Rattle.std.proofs.Common.{◌≡◌, [], ℕ, List, sym, subst}
use Rattle.std.proofs.lemmas.Result.{err_from_is_err_and}
use Rattle.std.specs.Prelude.{Vec}
use Rattle.desk_types.specs.declared.kind.ListedKind.TheVariants as kinds
use Rattle.desk_exports.specs.Exports.{revoked}
use Rattle.desk_exports.proofs.OrderLemmas.{revoked_in_order}
use Rattle.store_exports.specs.Gathering.{Gathers, gathered}
use Rattle.store_exports.proofs.GatherLemmas.{gathered_after, gathered_none}
use Rattle.store_exports.proofs.gathering.gather.Goals as goal

pub returns-in_err-found : goal.returns-in_err-found
returns-in_err-found g c =
    let p = err_from_is_err_and c.from_residual.result c.from_residual.ensures.1 in
    subst (λ r. Gathers g.S.Store c.args.conn.now c.certificates.new.conn r (λ found cs. found.items ≡ gathered cs (revoked kinds.Certificate cs))) (sym p.1)
    (gathered_none g.S.Store c.args.conn.now c.certificates.new.conn _ p.0 _ (λ found cs. found.items ≡ gathered cs (revoked kinds.Certificate cs)) c.in_err-found.ensures)

pub returns : goal.returns
returns g c =
    gathered_after g.S.Store c.args.conn.now c.certificates.new.conn c.with_bodies.new.conn _ c.with_bodies.result _ _ (λ found cs. found.items ≡ gathered cs (revoked kinds.Certificate cs))
    (λ found cs first second. second (revoked kinds.Certificate cs) (revoked_in_order kinds.Certificate cs).ascends first)
    c.in_ok-found.ensures c.with_bodies.ensures
