use Rattle.std.proofs.Common.{inl}
use Rattle.http_net.specs.Faults.{IsServingRefusal}
use Rattle.cli_opening.specs.Faults.{IsOpeningRefusal}
use Rattle.cli_opening.proofs.EndingLemmas.{either_row, first_alone, unopened_alone, unopened_for_memory}
use Rattle.cli_requests.proofs.requests.serve_from.Goals as goal

pub returns-in-Ok-clause-served : goal.returns-in-Ok-clause-served
returns-in-Ok-clause-served g c = unopened_alone c.on_desk.ensures.did

pub returns-in-Ok-clause-named : goal.returns-in-Ok-clause-named
returns-in-Ok-clause-named g c = either_row IsOpeningRefusal IsServingRefusal c.on_desk.result.work c.on_desk.ensures.named

pub returns-in-Ok-clause-first : goal.returns-in-Ok-clause-first
returns-in-Ok-clause-first g c = first_alone _ c.on_desk.result.closing c.on_desk.result.work c.on_desk.ensures.first

-- memory for the table of routes was refused

pub returns-in-Err-clause-served : goal.returns-in-Err-clause-served
returns-in-Err-clause-served g c = inl (unopened_for_memory _ g.S.Start c.without_desk.result c.without_desk.ensures)
