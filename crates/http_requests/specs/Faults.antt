-- The refusals of requests.
use Rattle.http_requests.specs.declared.fault.WantedFault.{WantedFault}
use Rattle.http_requests.specs.declared.fault.WantedFault.TheVariants as wanted
use Rattle.http_requests.specs.declared.fault.AskedFault.{AskedFault}
use Rattle.http_requests.specs.declared.fault.AskedFault.TheVariants as asked
use Rattle.base.specs.declared.refusal.Refusal.{Refusal}
use Rattle.base.specs.declared.refusal.Refusal.TheVariants as refusal

-- the row of a fault of the head
abbrev pub wanted_refusal : WantedFault → Refusal
wanted_refusal wanted.NotSupported = refusal.NotSupported
wanted_refusal wanted.BadField = refusal.BadField
wanted_refusal wanted.NoRoute = refusal.NoRoute
wanted_refusal (wanted.BadMethod methods) = refusal.BadMethod
wanted_refusal wanted.LengthNeeded = refusal.LengthNeeded
wanted_refusal wanted.TooLarge = refusal.TooLarge

-- the row of a fault of the fields
abbrev pub asked_refusal : AskedFault → Refusal
asked_refusal asked.BadField = refusal.BadField
asked_refusal asked.NoSuchRequest = refusal.NoSuchRequest
asked_refusal asked.NoSuchProposal = refusal.NoSuchProposal
asked_refusal asked.NoRoute = refusal.NoRoute
asked_refusal asked.NoMemory = refusal.NoMemory
