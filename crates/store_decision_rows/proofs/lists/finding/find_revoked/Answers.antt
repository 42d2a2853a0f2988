use Rattle.std.proofs.Common.{◌≡◌, [], ◌∷◌, bytes_eq, filter}
use Rattle.sqlite.specs.Held.{state}
use Rattle.desk_rules.specs.Views.{revoked_rows}
use Rattle.store_reads.specs.Reads.{revoked_in}
use Rattle.store_decision_rows.specs.lists.Gathering.{revocations_of}
use Rattle.store_decision_rows.proofs.KeyLemmas.{only_digest, told_revoked}
use Rattle.store_reads.proofs.TellsLemmas.{tells_so}
use Rattle.store_decision_rows.proofs.lists.finding.find_revoked.Goals as goal

pub returns-in_default-clause-value : goal.returns-in_default-clause-value
returns-in_default-clause-value g c clean inside =
    let kind = c.args.kind in
    let digest = c.args.digest.now in
    tells_so (state g.S.Store c.args.tx.now.conn.now) (state g.S.Store c.revoked_of.new.tx.conn.now)
    (λ t. filter (bytes_eq digest) (revoked_in kind t) ≡ []) (λ t. revocations_of kind t digest ≡ [])
    (λ t h. told_revoked kind t digest [] h)
    (rw c.in_default.is at (c.in_ok-found.ensures.value clean inside))

pub returns-clause-value : goal.returns-clause-value
returns-clause-value g c clean inside =
    let kind = c.args.kind in
    let digest = c.args.digest.now in
    tells_so (state g.S.Store c.args.tx.now.conn.now) (state g.S.Store c.revoked_of.new.tx.conn.now)
    (λ t. filter (bytes_eq digest) (revoked_in kind t) ≡ c.in-Some._row ∷ []) (λ t. revocations_of kind t digest ≡ digest ∷ [])
    (λ t h. only_digest digest (revoked_rows t kind) c.in-Some._row (told_revoked kind t digest (c.in-Some._row ∷ []) h))
    (rw c.in-Some.is at (c.in_ok-found.ensures.value clean inside))
