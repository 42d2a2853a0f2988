use Rattle.std.proofs.Common.{[], refl}
use Rattle.sqlite.specs.Held.{state}
use Rattle.std.proofs.lemmas.List.Elements.{All-nil}
use Rattle.desk_history.specs.Formed.{IsItem}
use Rattle.desk_history.specs.Tables.{tables}
use Rattle.store_schema.specs.Names.{takes_a_desk_name}
use Rattle.store_schema.specs.Tables.{desk_layout}
use Rattle.store_schema.specs.rows.Histories.{rows_of}
use Rattle.store_desk.proofs.FoundingLemmas.{are_taken}
use Rattle.store_desk.proofs.RememberedLemmas.{stamp_is_current}
use Rattle.store_desk.proofs.desk.Desk.create.Goals as goal

pub returns-in-Ok-clause-ok : goal.returns-in-Ok-clause-ok
returns-in-Ok-clause-ok g c clean free =
    let owner = c.args.owner.now in
    let made = c.in-Ok.ensures.ok clean in
    let shows = made.1 free in
    record {
      usable = refl;
      history = record { legal = refl; formed = All-nil IsItem };
      shows = shows;
      own = refl;
      remembered = stamp_is_current c.of_stamp.result (tables owner []) c.original.result c.of_stamp.ensures.told c.of_stamp.ensures.unknown c.of_stamp.ensures.nobody c.original.ensures;
      left = c.stop_leaves_what_is_shown.ensures desk_layout (rows_of owner []) shows made.0;
    }

pub returns-then-not-names_are_free-clause-taken : goal.returns-then-not-names_are_free-clause-taken
returns-then-not-names_are_free-clause-taken g c is = (
  are_taken (takes_a_desk_name (state g.S.Store c.args.conn).now.schema) c.names_are_free.result c.names_are_free.ensures c.if-not-names_are_free.true,
  refl,
)
