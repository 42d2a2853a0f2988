use Rattle.cli_opening.proofs.UnopenedLemmas.{unconnected_refused}
use Rattle.cli_opening.proofs.connecting.connected.Goals as goal

-- there was no connection
pub returns-in-Err-clause-left : goal.returns-in-Err-clause-left
returns-in-Err-clause-left g c =
    rw c.unconnected.ensures (unconnected_refused _ g.S.Start _ c.in-Err.refusal c.connect.new.opener.has_opened c.in-Err.left c.in-Err.ensures.named c.in-Err.ensures.left)
