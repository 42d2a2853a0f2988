use Rattle.std.proofs.Common.{inl}
use Rattle.std.proofs.KnownBytes.{Keeps-refl}
use Rattle.http_net.specs.Faults.{IsAnsweringRefusal}
use Rattle.cli_opening.specs.Faults.{IsOpeningRefusal}
use Rattle.cli_opening.proofs.EndingLemmas.{either_row, first_keeps, unopened_for_memory, unopened_keeps}
use Rattle.cli_requests.proofs.requests.answer_from.Goals as goal

pub returns-in-Ok-clause-answered : goal.returns-in-Ok-clause-answered
returns-in-Ok-clause-answered g c = unopened_keeps g.W.Write.contents _ _ c.on_desk.ensures.did

pub returns-in-Ok-clause-named : goal.returns-in-Ok-clause-named
returns-in-Ok-clause-named g c = either_row IsOpeningRefusal IsAnsweringRefusal c.on_desk.result.work c.on_desk.ensures.named

pub returns-in-Ok-clause-first : goal.returns-in-Ok-clause-first
returns-in-Ok-clause-first g c = first_keeps g.W.Write.contents _ _ _ c.on_desk.result.work c.on_desk.ensures.first

-- memory for the table of routes was refused

pub returns-in-Err-clause-answered : goal.returns-in-Err-clause-answered
returns-in-Err-clause-answered g c = inl (unopened_for_memory _ g.S.Start c.without_desk.result c.without_desk.ensures, Keeps-refl _)
