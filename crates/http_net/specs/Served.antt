-- Outcomes of a served connection.
use Rattle.std.specs.Prelude.{Option, None, Some, Result, Ok, Err}
use Rattle.base.specs.declared.refusal.Refusal.{Refusal}
use Rattle.base.specs.declared.refusal.Refusal.TheVariants as refusals
use Rattle.http_responses.specs.declared.outage.Outage.TheVariants as outage
use Rattle.http_exchange.specs.declared.served.HttpFault.{HttpFault}
use Rattle.http_exchange.specs.declared.served.HttpFault.TheVariants as fault
use Rattle.http_exchange.specs.declared.served.Said.{Said}
use Rattle.http_exchange.specs.declared.served.Said.TheVariants as said
use Rattle.http_exchange.specs.declared.served.Served.{Served}
use Rattle.http_exchange.specs.declared.served.Served.TheVariants.{Answered, Nothing}

-- own: after a response that says one of these the desk must be opened again
abbrev pub lasting : Said → Option Refusal
lasting (said.Unavailable outage.Store) = Some refusals.Store
lasting (said.Unavailable outage.Reopen) = Some refusals.Reopen
lasting _ = None

-- own: the refusal that ends a serving program; a connection's own fault doesn't end it
abbrev pub ending_of : Result Served HttpFault → Option Refusal
ending_of (Ok Nothing) = None
ending_of (Ok (Answered answered)) = lasting answered.said
ending_of (Err _) = None

-- done, unless there is a refusal
abbrev pub done_unless : Option Refusal → Result Unit Refusal
done_unless None = Ok tt
done_unless (Some refusal) = Err refusal

-- own: the outcome of a program that serves one request, whose own faults count too
abbrev pub outcome_of : Result Served HttpFault → Result Unit Refusal
outcome_of (Ok Nothing) = Ok tt
outcome_of (Ok (Answered answered)) = done_unless (lasting answered.said)
outcome_of (Err fault.Read) = Err refusals.Read
outcome_of (Err fault.Write) = Err refusals.Write
outcome_of (Err fault.NoMemory) = Err refusals.NoMemory
