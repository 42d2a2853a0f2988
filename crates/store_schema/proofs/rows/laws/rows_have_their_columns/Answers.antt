use Rattle.std.specs.Prelude.{◌≡◌, true, List, [], ◌∷◌, map, flat_map, refl}
use Rattle.sqlite.specs.Order.{Row}
use Rattle.sqlite.specs.Table.{Table}
use Rattle.store_schema.specs.Tables as tables
use Rattle.desk_history.specs.Items.{item_rows}
use Rattle.store_schema.specs.rows.Columns.{HaveColumns, has_columns}
use Rattle.store_schema.specs.rows.Values as values
use Rattle.store_schema.proofs.rows.laws.rows_have_their_columns.Goals as goal

each : {X : Type 0} (table : Table) (item : X → Row) → ((x : X) → has_columns table.key table.columns (item x) ≡ true) → (xs : List X) → HaveColumns table (map item xs)
each table item fits [] = tt
each table item fits (x ∷ xs) = (fits x, each table item fits xs)

pub returns : goal.returns
returns g t = (
  (refl, tt),
  (
    each tables.people values.person_values (λ _. refl) t.people,
    (
      each tables.calls values.call_values (λ _. refl) t.calls,
      (
        each tables.requests values.request_values (λ _. refl) t.requests,
        (
          each tables.request_certificates values.request_certificate_values (λ _. refl) t.request_certificates,
          (
            each tables.request_components values.request_component_values (λ _. refl) t.request_components,
            (
              each tables.votes values.vote_values (λ _. refl) t.votes,
              (
                each tables.returns values.return_values (λ _. refl) t.returns,
                (
                  each tables.listed values.entry_values (λ _. refl) t.listed,
                  (
                    each tables.revoked_digests values.digest_values (λ _. refl) t.revoked_digests,
                    (
                      each tables.revoked_certificates values.digest_values (λ _. refl) t.revoked_certificates,
                      (
                        each tables.components values.component_values (λ _. refl) t.components,
                        (
                          each tables.proposals values.proposal_values (λ _. refl) t.proposals,
                          (
                            each tables.proposal_items values.item_values (λ _. refl) (flat_map item_rows t.proposals),
                            (each tables.migrated values.migrated_values (λ _. refl) t.migrated, tt),
                          ),
                        ),
                      ),
                    ),
                  ),
                ),
              ),
            ),
          ),
        ),
      ),
    ),
  ),
)
