use Rattle.std.proofs.Common.{arith, inr}
use Rattle.cli_opening.proofs.CommitLemmas.{found_of_commit, known_of_commit, refused_left}
use Rattle.cli_opening.proofs.desk_file.open_over.Goals as goal

pub returns-in-Ok-clause-opened : goal.returns-in-Ok-clause-opened
returns-in-Ok-clause-opened g c = record {
  shows = c.in-Ok.ensures.ok;
  migrated = c.in-Ok.ensures.migrated;
  found = λ clean. found_of_commit g.S.Store c.args.conn c.in-Ok.desk c.found_is_shown.ensures.second c.found_is_shown.ensures.first
      c.stop_leaves_what_is_shown.ensures (c.in-Ok.ensures.ok clean) (c.in-Ok.ensures.migrated clean);
  lives = c.in-Ok.ensures.lives;
  spares = c.in-Ok.ensures.spares;
  clean = λ clean. omega (arith, c.in-Ok.ensures.stopped.clean, clean);
}

pub returns-in-Err-clause-refused : goal.returns-in-Err-clause-refused
returns-in-Err-clause-refused g c =
    let opening = c.in-Err.ensures in
    record {
      other = opening.other;
      none = opening.unread;
      finds = opening.found;
      known = λ clean. known_of_commit g.S.Store c.args.conn c.in-Err.refusal c.found_is_shown.ensures.second c.found_is_shown.ensures.first
          (λ owner cs long history shows. (opening.known clean owner cs long history shows).0)
          (λ owner cs long history shows. (opening.known_first clean owner cs long history shows).0);
      spares = opening.refused;
      second = opening.spared;
      stopped = opening.failed;
      left = refused_left g.S.Store c.args.conn c.in-Err.refused c.found_is_shown.ensures.second c.found_is_shown.ensures.first
          c.stop_leaves_what_is_shown.ensures opening.spared opening.failed;
    }

pub returns-in-Err-clause-named : goal.returns-in-Err-clause-named
returns-in-Err-clause-named g c = inr c.in-Err.ensures.named
