use Rattle.std.proofs.Common.{◌∙◌, subst, sym}
use Rattle.http_net.proofs.TurnLemmas.{serves_one_more}
use Rattle.http_net.proofs.serving.serve_peers.Goals as goal

pub loop-preserved : goal.loop-preserved
loop-preserved g c =
    let same = c.loop.invariant.closed in
    record {
      in_turn = serves_one_more (g.P.Peers.serves c.args.peers.now) c.loop.counter c.in-Some.served c.args.desk.now c.loop.desk c.serve_next.new.desk
          c.loop.invariant.in_turn c.in-Some.ensures.served (sym c.ending_refusal.ensures ∙ c.in-None.is);
      before = λ clean. c.loop.invariant.before (c.serve_next.ensures.before clean);
      closed = λ was. c.serve_next.ensures.closed (subst g.D.AnswersCalls.failed (sym (same was)) was) ∙ same was;
    }
