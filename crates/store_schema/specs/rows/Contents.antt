-- The contents of the fifteen tables as rows of SQL, in the order in which the tables are made.
use Rattle.std.specs.Prelude.{[], ◌∷◌, map, flat_map}
use Rattle.store_sql.specs.Contents.{Contents}
use Rattle.desk_history.specs.Items.{item_rows}
use Rattle.desk_history.specs.Tables.{Tables}
use Rattle.store_schema.specs.rows.Values.{desk_values, person_values, call_values, request_values, request_certificate_values, request_component_values, vote_values, return_values, entry_values, digest_values, component_values, proposal_values, item_values, migrated_values}

-- own: the rows of the fifteen tables
abbrev pub contents : Tables → Contents
contents t =
    (desk_values t.desk ∷ [])
    ∷ map person_values t.people
    ∷ map call_values t.calls
    ∷ map request_values t.requests
    ∷ map request_certificate_values t.request_certificates
    ∷ map request_component_values t.request_components
    ∷ map vote_values t.votes
    ∷ map return_values t.returns
    ∷ map entry_values t.listed
    ∷ map digest_values t.revoked_digests
    ∷ map digest_values t.revoked_certificates
    ∷ map component_values t.components
    ∷ map proposal_values t.proposals
    ∷ map item_values (flat_map item_rows t.proposals)
    ∷ map migrated_values t.migrated
    ∷ []
