-- own: the memory of an intake, and the faults that it explains.
use Rattle.std.specs.Prelude.{◌≡◌, true, Result, Ok, Err}
use Rattle.base.specs.Watches.{HasFailed}
use Rattle.http_exchange.specs.declared.intake.RequestReader.{RequestReader}
use Rattle.http_exchange.specs.declared.served.HttpFault.{HttpFault}
use Rattle.http_exchange.specs.declared.served.HttpFault.TheVariants as fault
use Rattle.http_exchange.specs.declared.served.Unread.{Unread}
use Rattle.http_exchange.specs.declared.served.Unread.TheVariants as unread

-- no more memory for the input was refused
abbrev pub IsSteady : RequestReader → RequestReader → Type 0
IsSteady old new = new.memory_refused ≡ old.memory_refused

-- a read failed
abbrev pub ReadFailed : RequestReader → RequestReader → Type 0
ReadFailed old new = HasFailed new.watch × IsSteady old new

-- why a request isn't known: Read comes only if a read failed, NoMemory only if memory for the head
-- or the body was refused, and an outage only from elsewhere
abbrev pub UnreadHasCause : RequestReader → RequestReader → Unread → Type 0
UnreadHasCause old new unread.Read = ReadFailed old new
UnreadHasCause old new unread.NoMemory = new.memory_refused ≡ true
UnreadHasCause old new (unread.Outage outage) = IsSteady old new

-- the same of a result
abbrev pub IsCaused : {X : Type 0} → RequestReader → RequestReader → Result X Unread → Type 0
IsCaused old new (Ok found) = IsSteady old new
IsCaused old new (Err unread) = UnreadHasCause old new unread

-- why no response went out whole, likewise
abbrev pub FaultHasCause : RequestReader → RequestReader → HttpFault → Type 0
FaultHasCause old new fault.Read = ReadFailed old new
FaultHasCause old new fault.Write = IsSteady old new
FaultHasCause old new fault.NoMemory = new.memory_refused ≡ true

-- a connection ends without a response only for its input: in particular, if memory is refused for
-- anything but the head or the body, there is a response
abbrev pub EndIsCaused : {X : Type 0} → RequestReader → RequestReader → Result X HttpFault → Type 0
EndIsCaused old new (Ok served) = IsSteady old new
EndIsCaused old new (Err fault) = FaultHasCause old new fault
