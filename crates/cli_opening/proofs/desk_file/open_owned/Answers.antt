use Rattle.std.proofs.Common.{arith}
use Rattle.cli_opening.proofs.CommitLemmas.{found_of_commit, owned_refusal, owned_refused}
use Rattle.cli_opening.proofs.desk_file.open_owned.Goals as goal

pub returns-in-Ok-clause-opened : goal.returns-in-Ok-clause-opened
returns-in-Ok-clause-opened g c =
    let opens = c.in-Ok.ensures.opened in
    record {
      shows = opens.ok;
      migrated = opens.migrated;
      found = λ clean. found_of_commit g.S.Store c.args.conn c.in-Ok.desk c.found_is_shown.ensures.second c.found_is_shown.ensures.first
          c.stop_leaves_what_is_shown.ensures (opens.ok clean) (opens.migrated clean);
      lives = opens.lives;
      spares = opens.spares;
      clean = λ clean. omega (arith, opens.stopped.clean, clean);
    }

pub returns-in-Err-clause-refused : goal.returns-in-Err-clause-refused
returns-in-Err-clause-refused g c =
    owned_refused g.S.Store c.args.conn c.in-Err.unopened c.args.owner.now c.in-Err.refusal c.found_is_shown.ensures.second c.found_is_shown.ensures.first
    c.stop_leaves_what_is_shown.ensures c.in-Err.ensures.refused

pub returns-in-Err-clause-named : goal.returns-in-Err-clause-named
returns-in-Err-clause-named g c = owned_refusal g.S.Store c.args.conn c.in-Err.unopened c.args.owner.now c.in-Err.refusal c.in-Err.ensures.refused
