use Rattle.std.proofs.Common.{ap}
use Rattle.std.specs.Prelude.{not}
use Rattle.desk_history.specs.Calls.{is_among}
use Rattle.desk_rules.proofs.ImportDigests.{new_step, sees_more}
use Rattle.desk_rules.proofs.decisions.imports.new_digests.Goals as goal

pub loop-digest-preserved : goal.loop-digest-preserved
loop-digest-preserved c = record {
  sees = sees_more c.loop-digest.new.items c.take_digest.new.new.items c.args.rows.now c.loop-digest.known.keys c.take_digest.new.known.keys c.digest-item.result c.loop-digest.invariant.sees c.in_ok-take_digest.ensures.ok c.in_ok-take_digest.ensures.known;
  put = λ table knows. new_step c.args.rows.now c.args.named.now table c.loop-digest.new.items c.take_digest.new.new.items c.loop-digest.digest-index c.digest-item.result (not (is_among c.loop-digest.known.keys c.digest-item.result)) knows c.loop-digest-test.true c.digest-item.is
      (ap not (c.loop-digest.invariant.sees c.digest-item.result)) c.in_ok-take_digest.ensures.ok (c.loop-digest.invariant.put table knows);
}
