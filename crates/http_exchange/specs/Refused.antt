-- own: the refusals of a request by the checks on it.
use Rattle.http_requests.specs.declared.fault.AskedFault.{AskedFault}
use Rattle.http_requests.specs.declared.fault.AskedFault.TheVariants as asked
use Rattle.http_requests.specs.declared.fault.WantedFault.{WantedFault}
use Rattle.http_requests.specs.declared.fault.WantedFault.TheVariants as wanted
use Rattle.http_responses.specs.declared.refused.Refused.{Refused}
use Rattle.http_responses.specs.declared.refused.Refused.TheVariants as refused

-- for a fault of the head
abbrev pub refused_by_head : WantedFault → Refused
refused_by_head wanted.NotSupported = refused.NotSupported
refused_by_head wanted.BadField = refused.BadField
refused_by_head wanted.NoRoute = refused.NoRoute
refused_by_head (wanted.BadMethod methods) = refused.BadMethod methods
refused_by_head wanted.LengthNeeded = refused.LengthNeeded
refused_by_head wanted.TooLarge = refused.TooLarge

-- for a fault of the fields; NoMemory is none, and what stands for it is nowhere due
abbrev pub refused_by_fields : AskedFault → Refused
refused_by_fields asked.BadField = refused.BadField
refused_by_fields asked.NoSuchRequest = refused.NoSuchRequest
refused_by_fields asked.NoSuchProposal = refused.NoSuchProposal
refused_by_fields asked.NoRoute = refused.NoRoute
refused_by_fields asked.NoMemory = refused.BadField
