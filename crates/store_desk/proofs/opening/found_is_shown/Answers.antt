use Rattle.std.proofs.Common.{rules, refl}
use Rattle.sqlite.specs.Held.{state}
use Rattle.store_schema.specs.Tables.{desk_layout, first_layout}
use Rattle.store_schema.specs.rows.Histories.{first_rows_of, rows_of}
use Rattle.store_desk.proofs.ReopeningLemmas.{shown_by_catalog}
use Rattle.store_desk.proofs.opening.found_is_shown.Goals as goal

pub returns-clause-second : goal.returns-clause-second
returns-clause-second g c owner cs holds =
    shown_by_catalog (state g.S.Store c.args.conn.now) desk_layout (rows_of owner cs) refl c.catalog_lists_one_schema.ensures c.schema-sound.ensures.live
    (λ live. c.is_autocommit-settled.ensures.settled (search rules) live) c.requires.outside holds

pub returns-clause-first : goal.returns-clause-first
returns-clause-first g c owner cs holds = (
  holds.0,
  shown_by_catalog (state g.S.Store c.args.conn.now) first_layout (first_rows_of owner cs) refl c.catalog_lists_one_schema.ensures c.schema-sound.ensures.live
      (λ live. c.is_autocommit-settled.ensures.settled (search rules) live) c.requires.outside holds.1,
)
