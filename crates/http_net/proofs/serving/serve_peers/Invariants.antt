use Rattle.std.proofs.Common.{◌≡◌, Ok}
use Rattle.http_net.specs.Turns.{ServesInTurn}
use Rattle.http_net.proofs.serving.serve_peers.Given as goal

abbrev pub invariant-loop : goal.invariant-loop
invariant-loop g l = record {
  in_turn : ServesInTurn (g.P.Peers.serves l.peers) l.counter l.initial.desk l.desk (Ok tt);
  before : g.D.AnswersCalls.clean l.desk → g.D.AnswersCalls.clean l.initial.desk;
  closed : g.D.AnswersCalls.failed l.initial.desk → l.desk ≡ l.initial.desk;
}
