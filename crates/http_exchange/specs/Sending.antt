-- own: the effect of sending an answer's response on a writer.
use Rattle.std.specs.Prelude.{◌≡◌, ◌⊎◌, ℕ, List, Bool, true, false, Option, Result, Ok, Err}
use Rattle.base.specs.Output.{AppendsBeginning}
use Rattle.http_calls.specs.Answers.{no_memory}
use Rattle.http_calls.specs.declared.answers.TaskAnswer.{TaskAnswer}
use Rattle.http_calls.specs.declared.answers.TaskAnswer.TheVariants as answer
use Rattle.http_exchange.specs.Responses.{response_of}
use Rattle.http_exchange.specs.Serving.{Responds}
use Rattle.http_exchange.specs.declared.served.HttpFault.{HttpFault}
use Rattle.http_exchange.specs.declared.served.HttpFault.TheVariants.{Read, Write, NoMemory}
use Rattle.http_exchange.specs.declared.served.Served.{Served}
use Rattle.http_exchange.specs.declared.served.Served.TheVariants.{Answered, Nothing}

-- the response to this answer was written, or a prefix of it
abbrev pub Sends : Option (List ℕ) → Option (List ℕ) → TaskAnswer → Result Served HttpFault → Type 0
Sends old new told (Ok (Answered answered)) = Responds old new told answered
Sends old new told (Ok Nothing) = ⊥
Sends old new told (Err Read) = ⊥
Sends old new told (Err Write) = AppendsBeginning old new (response_of told)
Sends old new told (Err NoMemory) = ⊥

-- the answer says that the desk can answer nothing
abbrev pub is_outage : TaskAnswer → Bool
is_outage (answer.Unavailable outage) = true
is_outage _ = false

-- the answer itself is sent, or, unless it is an outage, NoMemory instead
abbrev pub Replaces : TaskAnswer → TaskAnswer → Type 0
Replaces a told = (told ≡ a) ⊎ ((told ≡ no_memory) × (is_outage a ≡ false))
