use Rattle.std.proofs.Common.{sym, subst}
use Rattle.sqlite.specs.Held.{state}
use Rattle.sqlite.specs.Tree.{Trees}
use Rattle.store_sql.specs.Contents.{AreTablesOf}
use Rattle.store_sql.proofs.StopLemmas.{committed_tables}
use Rattle.store_sql.proofs.laws.stop_leaves_what_is_shown.Goals as goal

pub returns : goal.returns
returns g c layout contents shows live clean db may =
    subst (λ (d : Trees). AreTablesOf layout d contents) (sym (g.met.S.Store.settled c.args.conn.now.store db live may))
    (committed_tables layout (state g.S.Store c.args.conn.now) contents shows clean live)
