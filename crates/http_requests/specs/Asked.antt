-- own: a request without its content, or the first of the checks on its fields that fails.
use Rattle.std.specs.Prelude.{◌≡◌, ◌≢◌, ℕ, List, Option, Some, None, option_map, Result, Ok, Err, if◌then◌else◌}
use Rattle.base.specs.Digests.{digest_of}
use Rattle.sbat.specs.Fields.{decimal_of, stamp_of}
use Rattle.desk_types.specs.Forms.{is_key, is_title, is_decimal}
use Rattle.desk_types.specs.declared.command.Command.TheVariants as command
use Rattle.desk_types.specs.declared.fault.TextFault.{TextFault}
use Rattle.desk_types.specs.declared.fault.TextFault.TheVariants as text
use Rattle.http_requests.specs.Targets.{minute_number}
use Rattle.http_requests.specs.CheckedHead.{Want}
use Rattle.http_requests.specs.declared.ask.BytesAsked.TheVariants as bytes
use Rattle.http_requests.specs.declared.ask.CommandAsked.{CommandAsked}
use Rattle.http_requests.specs.declared.ask.CommandAsked.TheVariants.{Whole, Json, Bytes}
use Rattle.http_requests.specs.declared.ask.ImageAsked.{ImageAsked}
use Rattle.http_requests.specs.declared.ask.ImageAsked.TheVariants as image
use Rattle.http_requests.specs.declared.ask.JsonAsked.TheVariants as json
use Rattle.http_requests.specs.declared.ask.KeyedCommand.{KeyedCommand}
use Rattle.desk_exports.specs.declared.published.Published.TheVariants as published
use Rattle.desk_exports.specs.declared.reading.Reading.{Reading}
use Rattle.desk_exports.specs.declared.reading.Reading.TheVariants as read
use Rattle.http_requests.specs.declared.route.CommandRoute.{CommandRoute}
use Rattle.http_requests.specs.declared.route.CommandRoute.TheVariants as route
use Rattle.http_requests.specs.declared.route.GetRoute.{GetRoute}
use Rattle.http_requests.specs.declared.route.GetRoute.TheVariants as get
use Rattle.http_requests.specs.declared.route.ImageRoute.{ImageRoute}
use Rattle.http_requests.specs.declared.route.ImageRoute.TheVariants as posted
use Rattle.http_requests.specs.declared.fault.AskedFault.{AskedFault}
use Rattle.http_requests.specs.declared.fault.AskedFault.TheVariants.{BadField, NoSuchRequest, NoSuchProposal, NoRoute, NoMemory}

-- the key that a field gives, if it is one
abbrev pub key_of : Option (List ℕ) → Option (List ℕ)
key_of None = None
key_of (Some value) = if is_key value then Some value else None

-- the key of a request
abbrev pub key_in : Want → Option (List ℕ)
key_in w = key_of w.key

-- the title that a field gives, if it is one
abbrev pub title_of : Option (List ℕ) → Option (List ℕ)
title_of None = None
title_of (Some value) = if is_title value then Some value else None

-- the title of a request
abbrev pub title_in : Want → Option (List ℕ)
title_in w = title_of w.title

-- the stamp that a field gives, which may be missing; none if it isn't in its form
abbrev pub stamp_given : Option (List ℕ) → Option (Option ℕ)
stamp_given None = Some None
stamp_given (Some value) = option_map (λ stamp. Some stamp) (stamp_of value)

-- the stamp of a request
abbrev pub stamp_in : Want → Option (Option ℕ)
stamp_in w = stamp_given w.stamp

-- the number in the place of {no}: 1 to 6 digits without a leading zero
abbrev pub number_in : Want → Option ℕ
number_in w = if is_decimal w.part then Some (decimal_of w.part) else None

-- the request with a title
abbrev pub titled : Option (List ℕ) → (List ℕ → ImageAsked) → Result ImageAsked AskedFault
titled None ask = Err BadField
titled (Some title) ask = Ok (ask title)

-- the command with a stamp or none
abbrev pub stamped : Option (Option ℕ) → (Option ℕ → CommandAsked) → Result CommandAsked AskedFault
stamped None ask = Err BadField
stamped (Some stamp) ask = Ok (ask stamp)

-- the request with a request's number
abbrev pub numbered : {A : Type 0} → Option ℕ → (ℕ → A) → Result A AskedFault
numbered None ask = Err NoSuchRequest
numbered (Some number) ask = Ok (ask number)

-- the number of a minute, or of the first entry of a part of a list, in the place of {no}: 1 to 7
-- digits without a leading zero
abbrev pub minute_in : Want → Option ℕ
minute_in w = minute_number w.part

-- the digest in the place of {digest}: 64 hexadecimal digits of either case
abbrev pub digest_in : Want → Option (List ℕ)
digest_in w = digest_of w.part

-- the request with such a number, or with such a digest
abbrev pub of_part : {A : Type 0} → Option A → (A → Reading) → Result Reading AskedFault
of_part None ask = Err NoRoute
of_part (Some value) ask = Ok (ask value)

-- the request with a proposal's number
abbrev pub of_proposal : {A : Type 0} → Option ℕ → (ℕ → A) → Result A AskedFault
of_proposal None ask = Err NoSuchProposal
of_proposal (Some number) ask = Ok (ask number)

-- the request of a GET
abbrev pub read_at : GetRoute → Want → Result Reading AskedFault
read_at get.Requests w = Ok read.Requests
read_at get.Request w = numbered (number_in w) (λ number. read.Request number)
read_at get.RequestsFrom w = of_part (minute_in w) (λ number. read.RequestsFrom number)
read_at get.RequestsWith w = of_part (digest_in w) (λ digest. read.RequestsWith digest)
read_at get.Proposals w = Ok read.Proposals
read_at get.Proposal w = of_proposal (number_in w) (λ number. read.Proposal number)
read_at get.Impact w = of_proposal (number_in w) (λ number. read.Impact number)
read_at get.ProposalsFrom w = of_part (minute_in w) (λ number. read.ProposalsFrom number)
read_at get.Waiting w = Ok read.Waiting
read_at get.Changes w = Ok read.Changes
read_at get.Dbx w = Ok (read.Export published.Dbx)
read_at get.Db w = Ok (read.Export published.Db)
read_at get.Level w = Ok (read.Export published.Level)
read_at get.Report w = Ok read.Report
read_at get.Minutes w = of_part (minute_in w) (λ number. read.Minutes number)
read_at get.People w = Ok read.People
read_at get.Me w = Ok read.Me

-- the request with an image under a key
abbrev pub with_image : Option (List ℕ) → (List ℕ → Result ImageAsked AskedFault) → Result ImageAsked AskedFault
with_image None ask = Err BadField
with_image (Some key) ask = ask key

-- the request with an image
abbrev pub image_at : ImageRoute → Want → Result ImageAsked AskedFault
image_at posted.Submit w = with_image (key_in w) (λ key. titled (title_in w) (λ title. image.Submit key title))
image_at posted.Return w = with_image (key_in w) (λ key. numbered (number_in w) (λ number. image.Return key number))
image_at posted.Verdict w = Ok image.Verdict
image_at posted.Facts w = Ok image.Facts

-- the command of a route, in the parts that the target and the fields give
abbrev pub command_at : CommandRoute → Want → Result CommandAsked AskedFault
command_at route.Review w = numbered (number_in w) (λ number. Json (json.Review number))
command_at route.Withdraw w = numbered (number_in w) (λ number. Whole (command.Withdraw number))
command_at route.ListCertificate w = Ok (Bytes bytes.ListCertificate)
command_at route.ListDigest w = Ok (Json json.ListDigest)
command_at route.Unlist w = Ok (Json json.Unlist)
command_at route.RevokeDigest w = Ok (Json json.RevokeDigest)
command_at route.RevokeCertificate w = Ok (Json json.RevokeCertificate)
command_at route.RaiseLevel w = Ok (Json json.RaiseLevel)
command_at route.ImportDbx w = Ok (Bytes bytes.ImportDbx)
command_at route.ImportCsv w = stamped (stamp_in w) (λ stamp. Bytes (bytes.ImportCsv stamp))
command_at route.ImportLevel w = Ok (Bytes bytes.ImportLevel)
command_at route.Confirm w = of_proposal (number_in w) (λ number. Whole (command.Confirm number))
command_at route.Drop w = of_proposal (number_in w) (λ number. Whole (command.Drop number))
command_at route.Explain w = of_proposal (number_in w) (λ number. Json (json.Explain number))

-- a command under this key
abbrev pub under : List ℕ → Result CommandAsked AskedFault → Result KeyedCommand AskedFault
under key (Err fault) = Err fault
under key (Ok asked) = Ok (record { key = key; asked = asked })

-- a command, under its key
abbrev pub keyed : Option (List ℕ) → Result CommandAsked AskedFault → Result KeyedCommand AskedFault
keyed None asked = Err BadField
keyed (Some key) asked = under key asked

-- the command of a route with its key, which is checked first
abbrev pub keyed_at : CommandRoute → Want → Result KeyedCommand AskedFault
keyed_at r w = keyed (key_in w) (command_at r w)

-- the fault for a text that wasn't accepted
abbrev pub of_text : TextFault → AskedFault
of_text text.Form = BadField
of_text text.NoMemory = NoMemory

-- the code returns this value, or this fault if there is none, or that memory was refused
abbrev pub GivesOr : {A : Type 0} → AskedFault → Option A → Result A AskedFault → Type 0
GivesOr fault value (Ok given) = value ≡ Some given
GivesOr fault value (Err other) = other ≢ NoMemory → (value ≡ None) × (other ≡ fault)

-- the code returns this, or that memory was refused
abbrev pub Gives : {A : Type 0} → Result A AskedFault → Result A AskedFault → Type 0
Gives ask (Ok given) = ask ≡ Ok given
Gives ask (Err fault) = fault ≢ NoMemory → ask ≡ Err fault
