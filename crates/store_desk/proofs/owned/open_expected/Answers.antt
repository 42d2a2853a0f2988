use Rattle.std.proofs.Common.{inl, inr, refl}
use Rattle.sqlite.specs.Held.{state}
use Rattle.desk_history.specs.Tables.{tables}
use Rattle.store_schema.specs.Tables.{desk_layout}
use Rattle.store_schema.specs.rows.Histories.{HoldsHistory, rows_of}
use Rattle.store_desk.proofs.OpeningLemmas.{still_leaves}
use Rattle.store_desk.proofs.OwnedLemmas.{opens_desk, refuses, refuses_owner}
use Rattle.store_desk.proofs.RememberedLemmas.{stamp_is_current}
use Rattle.store_desk.proofs.VersionLemmas.{second_spared}
use Rattle.store_desk.proofs.owned.open_expected.Goals as goal

pub returns-in-Ok-clause-opened : goal.returns-in-Ok-clause-opened
returns-in-Ok-clause-opened g c =
    let old = state g.S.Store c.args.conn in
    let new = state g.S.Store c.find_or_migrate.new.conn in
    let found = c.in-Ok.ensures in
    let remembered = c.of_stamp.ensures in
    opens_desk g.S.Store c.args.conn c.found_is_shown.ensures.second c.found_is_shown.ensures.first c.lives_keep_what_was_answered.ensures _
    c.stop_leaves_what_is_shown.ensures c.keys_stand_once.ensures refl found.survives found.read
    (λ clean owner cs history shows left.
    let own = found.own clean owner cs (inr shows) in
    record {
      usable = refl;
      history = history;
      shows = found.second clean owner cs shows;
      own = own.0;
      remembered = stamp_is_current c.of_stamp.result (tables owner cs) c.in-Ok.own.stamp remembered.told remembered.unknown remembered.nobody own.1;
      left = still_leaves (λ db. HoldsHistory db owner cs) old new (second_spared old owner cs new found.survives shows) left;
    })
    (λ clean owner cs history early.
    let made = found.first clean owner cs early in
    let own = found.own clean owner cs (inl early) in
    record {
      usable = refl;
      history = history;
      shows = made.1;
      own = own.0;
      remembered = stamp_is_current c.of_stamp.result (tables owner cs) c.in-Ok.own.stamp remembered.told remembered.unknown remembered.nobody own.1;
      left = c.stop_leaves_what_is_shown-in-Ok.ensures desk_layout (rows_of owner cs) made.1 made.0;
    })

pub returns-in-Err-clause-refused : goal.returns-in-Err-clause-refused
returns-in-Err-clause-refused g c =
    let failed = c.in-Err.ensures in
    let last = c.find_or_migrate.new.conn in
    elim failed.named [
      | inl asked ↦ inl (refuses_owner g.S.Store c.args.conn last c.args.expected c.in-Err.refusal asked failed.another failed.kept failed.unwritten)
      | inr named ↦ inr (
          refuses g.S.Store c.args.conn c.found_is_shown.ensures.second c.found_is_shown.ensures.first c.lives_keep_what_was_answered.ensures last c.in-Err.refusal named failed.survives
          failed.other failed.unread failed.looked failed.second failed.kept failed.unwritten
          )
    ]
