-- What CREATE TABLE means, told by computing: each text where the tables before it stand.
use Rattle.std.proofs.Common.{map, refl}
use Rattle.sqlite.specs.Listing.{understood}
use Rattle.sqlite_tied.specs.Compute.{everything}
use Rattle.store_sql.specs.Meanings.{MakeTables}
use Rattle.store_schema.specs.Tables.{added_tables, defined, first_schema, first_tables, no_schema}
use Rattle.store_schema.specs.declared.creating.TheConstants.{CREATE_ADDED_TABLES, CREATE_TABLES}

-- the twelve of version 1
pub create_first : MakeTables no_schema (map defined first_tables) (map (λ t. t.now) CREATE_TABLES)
unfolding understood everything
create_first = (
  record { defined = refl; means = refl; whole = refl; plain = (refl, refl); complete = refl },
  (
    record { defined = refl; means = refl; whole = refl; plain = (refl, refl); complete = refl },
    (
      record { defined = refl; means = refl; whole = refl; plain = (refl, refl); complete = refl },
      (
        record { defined = refl; means = refl; whole = refl; plain = (refl, refl); complete = refl },
        (
          record { defined = refl; means = refl; whole = refl; plain = (refl, refl); complete = refl },
          (
            record { defined = refl; means = refl; whole = refl; plain = (refl, refl); complete = refl },
            (
              record { defined = refl; means = refl; whole = refl; plain = (refl, refl); complete = refl },
              (
                record { defined = refl; means = refl; whole = refl; plain = (refl, refl); complete = refl },
                (
                  record { defined = refl; means = refl; whole = refl; plain = (refl, refl); complete = refl },
                  (
                    record { defined = refl; means = refl; whole = refl; plain = (refl, refl); complete = refl },
                    (
                      record { defined = refl; means = refl; whole = refl; plain = (refl, refl); complete = refl },
                      (
                        record { defined = refl; means = refl; whole = refl; plain = (refl, refl); complete = refl },
                        tt,
                      ),
                    ),
                  ),
                ),
              ),
            ),
          ),
        ),
      ),
    ),
  ),
)

-- the three that version 2 adds
pub create_added : MakeTables first_schema (map defined added_tables) (map (λ t. t.now) CREATE_ADDED_TABLES)
unfolding understood everything
create_added = (
  record { defined = refl; means = refl; whole = refl; plain = (refl, refl); complete = refl },
  (
    record { defined = refl; means = refl; whole = refl; plain = (refl, refl); complete = refl },
    (
      record { defined = refl; means = refl; whole = refl; plain = (refl, refl); complete = refl },
      tt,
    ),
  ),
)
