use Rattle.std.proofs.Common.{◌≡◌, [], ◌∷◌}
use Rattle.std.specs.Prelude.{filter}
use Rattle.sqlite.specs.Held.{state}
use Rattle.desk_history.specs.Listing.{is_entry}
use Rattle.store_decision_rows.specs.lists.Gathering.{listings_of}
use Rattle.store_decision_rows.proofs.KeyLemmas.{only_listing}
use Rattle.store_reads.proofs.TellsLemmas.{tells_so}
use Rattle.store_decision_rows.proofs.lists.finding.find_listed.Goals as goal

pub returns-clause-value : goal.returns-clause-value
returns-clause-value g c clean inside =
    let kind = c.args.kind in
    let digest = c.args.digest.now in
    tells_so (state g.S.Store c.args.tx.now.conn.now) (state g.S.Store c.entry_of.new.tx.conn.now)
    (λ t. filter (is_entry kind digest) t.listed ≡ c.in-Some._entry ∷ [])
    (λ t. listings_of kind t digest ≡ record { kind = kind; digest = digest } ∷ [])
    (λ t h. only_listing kind digest t.listed c.in-Some._entry h) (rw c.in-Some.is at (c.in_ok-found.ensures.value clean inside))
