use Rattle.std.proofs.lemmas.Result.{IfErr-weaker, IfOk-weaker}
use Rattle.store_desk.proofs.FilesLemmas.{IfRefused-weaker, IfUnchecked-weaker}
use Rattle.store_desk.proofs.restarting.restart.Goals as goal

pub returns-clause-keeps : goal.returns-clause-keeps
returns-clause-keeps g c =
    IfOk-weaker c.reopen.result _ _ (λ again keeps clean owner lives seen formed leaves. keeps clean owner lives seen formed (c.stop.ensures.found owner lives seen (λ _. leaves)).found) c.reopen.ensures.keeps

pub returns-clause-again : goal.returns-clause-again
returns-clause-again g c =
    IfErr-weaker c.reopen.result _ _
    (λ e. IfRefused-weaker e.1 _ _ (λ left again owner lives seen leaves. again owner lives seen (c.stop.ensures.found owner lives seen (λ _. leaves)).found)) c.reopen.ensures.again

pub returns-clause-unchecked : goal.returns-clause-unchecked
returns-clause-unchecked g c =
    IfErr-weaker c.reopen.result _ _
    (λ e. IfUnchecked-weaker e.1 _ _ (λ left had. (c.stop.result, c.stop.ensures.found, had))) c.reopen.ensures.unchecked
