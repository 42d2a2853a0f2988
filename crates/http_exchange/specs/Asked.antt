-- own: the request of an input: a call, or the refusal of the first check that fails.
use Rattle.std.specs.Prelude.{◌≡◌, ◌≢◌, ◌⊎◌, ◌≤◌, ℕ, List, [], length, IfOk, IfSome, Option, Some, None, Result, Ok, Err}
use Rattle.httparse.specs.Grammar.{RequestHead}
use Rattle.sha2.specs.Sha256.{sha256}
use Rattle.desk_history.specs.Calls.{History}
use Rattle.desk_types.specs.declared.command.Person.{Person}
use Rattle.desk_exports.specs.declared.reading.Reading.{Reading}
use Rattle.http_requests.specs.heads.Fields.{parts_of}
use Rattle.http_requests.specs.heads.Heads.{HasHead, HasNoHead}
use Rattle.http_requests.specs.Asked.{read_at, image_at, keyed_at}
use Rattle.http_requests.specs.Tags.{tag_at}
use Rattle.http_requests.specs.CheckedHead.{Want, wanted_of}
use Rattle.http_requests.specs.declared.ask.ImageAsked.{ImageAsked}
use Rattle.http_requests.specs.declared.ask.KeyedCommand.{KeyedCommand}
use Rattle.http_requests.specs.declared.fault.AskedFault.{AskedFault}
use Rattle.http_requests.specs.declared.fault.WantedFault.{WantedFault}
use Rattle.http_requests.specs.declared.route.PostRoute.TheVariants.{Image, Command}
use Rattle.http_requests.specs.declared.route.Route.{Route}
use Rattle.http_requests.specs.declared.route.Route.TheVariants.{Get, Post}
use Rattle.http_responses.specs.declared.refused.Refused.{Refused}
use Rattle.http_responses.specs.declared.refused.Refused.TheVariants as refused
use Rattle.http_calls.specs.declared.call.TaskAsked.{TaskAsked}
use Rattle.http_calls.specs.declared.call.Task.{Task}
use Rattle.http_calls.specs.declared.call.Task.TheVariants as task
use Rattle.desk_exports.specs.Desks.{ForEachShown, person_with}
use Rattle.http_exchange.specs.Bodies.{body_in}
use Rattle.http_exchange.specs.Tasks.{task_of}
use Rattle.http_exchange.specs.Refused.{refused_by_head, refused_by_fields}

-- a call, or the refusal of the first check that fails
abbrev pub CallOrRefusal : Type 0
CallOrRefusal = Result TaskAsked Refused

-- the person whose token a field gives, if it gives one
abbrev pub caller_of : History → Option (List ℕ) → Option Person
caller_of cs None = None
caller_of cs (Some token) = person_with (sha256 token) cs

-- the call of a person for a task, with the tag that the person sent, if any
abbrev pub call_for : Person → Option (List ℕ) → Task → CallOrRefusal
call_for p tag task = Ok (record { person = p; tag = tag; task = task })

-- a person's read, by the request's fields
abbrev pub of_read : Person → Result Reading AskedFault → CallOrRefusal
of_read p (Err fault) = Err (refused_by_fields fault)
of_read p (Ok reading) = call_for p None (task.Read reading)

-- the call of a person for a task, by the request's tag
abbrev pub tagged : Person → Result (Option (List ℕ)) AskedFault → Task → CallOrRefusal
tagged p (Err fault) task = Err (refused_by_fields fault)
tagged p (Ok tag) task = call_for p tag task

-- a person's request with an image, by its other fields and its tag
abbrev pub of_image : Person → List ℕ → Result (Option (List ℕ)) AskedFault → Result ImageAsked AskedFault → CallOrRefusal
of_image p image tag (Err fault) = Err (refused_by_fields fault)
of_image p image tag (Ok asked) = tagged p tag (task.Image asked image)

-- the same, where the image may be cut short
abbrev pub with_image : Person → Result ImageAsked AskedFault → Result (Option (List ℕ)) AskedFault → Option (List ℕ) → CallOrRefusal
with_image p asked tag None = Err refused.BadHead
with_image p asked tag (Some image) = of_image p image tag asked

-- the call of a person for a task; BadBody if the body has none
abbrev pub called_by : Person → Option (List ℕ) → Option Task → CallOrRefusal
called_by p tag None = Err refused.BadBody
called_by p tag (Some task) = call_for p tag task

-- the same, by the request's tag
abbrev pub tagged_body : Person → Result (Option (List ℕ)) AskedFault → Option Task → CallOrRefusal
tagged_body p (Err fault) task = Err (refused_by_fields fault)
tagged_body p (Ok tag) task = called_by p tag task

-- a person's command with a body, by the request's other fields and its tag
abbrev pub of_command : Person → List ℕ → Result (Option (List ℕ)) AskedFault → Result KeyedCommand AskedFault → CallOrRefusal
of_command p body tag (Err fault) = Err (refused_by_fields fault)
of_command p body tag (Ok keyed) = tagged_body p tag (task_of keyed.key keyed.asked body)

-- the same, where the body may be cut short
abbrev pub with_body : Person → Result KeyedCommand AskedFault → Result (Option (List ℕ)) AskedFault → Option (List ℕ) → CallOrRefusal
with_body p asked tag None = Err refused.BadHead
with_body p asked tag (Some body) = of_command p body tag asked

-- a person's request at a route; `rest` follows the head
abbrev pub of_route : Person → Want → List ℕ → Route → CallOrRefusal
of_route p w rest (Get r) = of_read p (read_at r w)
of_route p w rest (Post (Image r)) = with_image p (image_at r w) (tag_at (Image r) w) (body_in w.size rest)
of_route p w rest (Post (Command r)) = with_body p (keyed_at r w) (tag_at (Command r) w) (body_in w.size rest)

-- the request of a caller, who may be unknown
abbrev pub of_caller : Want → List ℕ → Option Person → CallOrRefusal
of_caller w rest None = Err refused.UnknownCaller
of_caller w rest (Some p) = of_route p w rest w.route

-- the request of a head, by its own checks
abbrev pub of_head : History → List ℕ → Result Want WantedFault → CallOrRefusal
of_head cs rest (Err fault) = Err (refused_by_head fault)
of_head cs rest (Ok w) = of_caller w rest (caller_of cs w.token)

-- the request of a head and the bytes after it: the head's own checks come first, then the caller,
-- the length of the body, the fields, of which If-Match is the last, and the body
abbrev pub due_of : History → RequestHead → List ℕ → CallOrRefusal
due_of cs h rest = of_head cs rest (wanted_of (parts_of h))

-- the head is refused by its own checks, or nobody at the desk has its token
abbrev pub IsOfNobody : History → RequestHead → Type 0
IsOfNobody cs h = IfOk (wanted_of (parts_of h)) (λ w. caller_of cs w.token ≡ None)

-- if the head of the input is nobody's, the bytes after it are left unread
abbrev pub LeavesBody : (shows : List ℕ → History → Type 0) → (input left : Option (List ℕ)) → Type 0
LeavesBody shows input left = IfSome input (λ b. ForEachShown shows (λ _ cs. (h : RequestHead) (rest : List ℕ)
    → HasHead b h rest → IsOfNobody cs h → left ≡ Some rest))

-- at least one byte of the input is known
abbrev pub HasByte : Option (List ℕ) → Type 0
HasByte input = IfSome input (λ b. b ≢ [])

-- the request of the input b: that of the head at its front, or BadHead if there is none
abbrev pub Asks : History → List ℕ → CallOrRefusal → Type 0
Asks cs b due =
    ((h : RequestHead) × (rest : List ℕ) × HasHead b h rest × (due ≡ due_of cs h rest))
    ⊎ ((b ≢ []) × HasNoHead b × (due ≡ Err refused.BadHead))

-- b begins with a whole request: its head, and as much of rest as the head announces, if it
-- announces a body
pub record HasRequest (b : List ℕ) (h : RequestHead) (rest : List ℕ) : Type 0 where
  pub head : HasHead b h rest
  pub body : IfOk (wanted_of (parts_of h)) (λ w. w.size ≤ length rest)
