use Rattle.std.proofs.Common.{refl}
use Rattle.store_first_rules.proofs.desk.FirstDesk.of.Goals as goal

pub returns-clause-shown : goal.returns-clause-shown
returns-clause-shown g c owner was = rw c.release.ensures (record {
  history = was.history;
  first = refl;
  shows = was.shows;
  remembered = record { stamp = c.original.ensures; sizes = c.of_no_calls.ensures.right owner; person = tt };
  known = c.of_no_calls.ensures.known;
  left = was.left;
})
