-- own: the refusals of a request, and outages: the row in the table of refusals of each, the place
-- and the status of a refusal.
use Rattle.std.specs.Prelude.{ℕ, List, Option, Some, None, codes}
use Rattle.serde_json.specs.Data.{Data, member, no_members, number, object, string, unsigned}
use Rattle.base.specs.Refusals.{name_of, number_of}
use Rattle.base.specs.declared.refusal.Refusal.{Refusal}
use Rattle.base.specs.declared.refusal.Refusal.TheVariants as refusal
use Rattle.http_responses.specs.declared.outage.Outage.{Outage}
use Rattle.http_responses.specs.declared.outage.Outage.TheVariants as outage
use Rattle.http_responses.specs.declared.refused.Refused.{Refused}
use Rattle.http_responses.specs.declared.refused.Refused.TheVariants as refused
use Rattle.http_responses.specs.declared.status.Status.{Status}
use Rattle.http_responses.specs.declared.status.Status.TheVariants as status

-- the row of an outage
abbrev pub outage_refusal : Outage → Refusal
outage_refusal outage.NoMemory = refusal.NoMemory
outage_refusal outage.Store = refusal.Store
outage_refusal outage.Reopen = refusal.Reopen
outage_refusal outage.NotADesk = refusal.NotADesk

-- its row
abbrev pub refusal_of : Refused → Refusal
refusal_of refused.Short = refusal.Short
refusal_of refused.NoMz = refusal.NoMz
refusal_of refused.NoPe = refusal.NoPe
refusal_of refused.Magic = refusal.Magic
refusal_of refused.NotEfi = refusal.NotEfi
refusal_of refused.Headers = refusal.Headers
refusal_of refused.Sections = refusal.Sections
refusal_of refused.Overlap = refusal.Overlap
refusal_of refused.Table = refusal.Table
refusal_of refused.Der = refusal.Der
refusal_of refused.TwoSbat = refusal.TwoSbat
refusal_of (refused.SbatRow line) = refusal.SbatRow
refusal_of refused.TooLong = refusal.TooLong
refusal_of (refused.List offset) = refusal.List
refusal_of (refused.EntrySize offset) = refusal.EntrySize
refusal_of (refused.CsvRow row) = refusal.CsvRow
refusal_of refused.UnknownCaller = refusal.UnknownCaller
refusal_of refused.NotYourRole = refusal.NotYourRole
refusal_of refused.KeyReused = refusal.KeyReused
refusal_of refused.NoSuchRequest = refusal.NoSuchRequest
refusal_of refused.WrongState = refusal.WrongState
refusal_of refused.OwnRequest = refusal.OwnRequest
refusal_of refused.AlreadyReviewed = refusal.AlreadyReviewed
refusal_of refused.DigestDiffers = refusal.DigestDiffers
refusal_of refused.Revoked = refusal.Revoked
refusal_of refused.NotListed = refusal.NotListed
refusal_of refused.AlreadyRevoked = refusal.AlreadyRevoked
refusal_of refused.NotHigher = refusal.NotHigher
refusal_of refused.StampNotLater = refusal.StampNotLater
refusal_of refused.AlreadyListed = refusal.AlreadyListed
refusal_of refused.NotThere = refusal.NotThere
refusal_of refused.NameTaken = refusal.NameTaken
refusal_of refused.Full = refusal.Full
refusal_of refused.NoSuchProposal = refusal.NoSuchProposal
refusal_of refused.OwnProposal = refusal.OwnProposal
refusal_of refused.ProposalClosed = refusal.ProposalClosed
refusal_of refused.Mismatch = refusal.Mismatch
refusal_of refused.BadHead = refusal.BadHead
refusal_of refused.BadField = refusal.BadField
refusal_of refused.BadBody = refusal.BadBody
refusal_of refused.NoRoute = refusal.NoRoute
refusal_of (refused.BadMethod methods) = refusal.BadMethod
refusal_of refused.LengthNeeded = refusal.LengthNeeded
refusal_of refused.TooLarge = refusal.TooLarge
refusal_of refused.NotSupported = refusal.NotSupported

-- the refusal of a request for a row alone; none if no request is refused for it, or if it needs a
-- place or methods
abbrev pub refused_of : Refusal → Option Refused
refused_of refusal.Short = Some refused.Short
refused_of refusal.NoMz = Some refused.NoMz
refused_of refusal.NoPe = Some refused.NoPe
refused_of refusal.Magic = Some refused.Magic
refused_of refusal.NotEfi = Some refused.NotEfi
refused_of refusal.Headers = Some refused.Headers
refused_of refusal.Sections = Some refused.Sections
refused_of refusal.Overlap = Some refused.Overlap
refused_of refusal.Table = Some refused.Table
refused_of refusal.Der = Some refused.Der
refused_of refusal.TwoSbat = Some refused.TwoSbat
refused_of refusal.SbatRow = None
refused_of refusal.TooLong = Some refused.TooLong
refused_of refusal.Read = None
refused_of refusal.List = None
refused_of refusal.EntrySize = None
refused_of refusal.Write = None
refused_of refusal.Line = None
refused_of refusal.CsvRow = None
refused_of refusal.UnknownCaller = Some refused.UnknownCaller
refused_of refusal.NotYourRole = Some refused.NotYourRole
refused_of refusal.KeyReused = Some refused.KeyReused
refused_of refusal.NoSuchRequest = Some refused.NoSuchRequest
refused_of refusal.WrongState = Some refused.WrongState
refused_of refusal.OwnRequest = Some refused.OwnRequest
refused_of refusal.AlreadyReviewed = Some refused.AlreadyReviewed
refused_of refusal.DigestDiffers = Some refused.DigestDiffers
refused_of refusal.Revoked = Some refused.Revoked
refused_of refusal.NotListed = Some refused.NotListed
refused_of refusal.AlreadyRevoked = Some refused.AlreadyRevoked
refused_of refusal.NotHigher = Some refused.NotHigher
refused_of refusal.StampNotLater = Some refused.StampNotLater
refused_of refusal.AlreadyListed = Some refused.AlreadyListed
refused_of refusal.NotThere = Some refused.NotThere
refused_of refusal.NameTaken = Some refused.NameTaken
refused_of refusal.Full = Some refused.Full
refused_of refusal.NoSuchProposal = Some refused.NoSuchProposal
refused_of refusal.OwnProposal = Some refused.OwnProposal
refused_of refusal.ProposalClosed = Some refused.ProposalClosed
refused_of refusal.NoMemory = None
refused_of refusal.Store = None
refused_of refusal.Reopen = None
refused_of refusal.NotADesk = None
refused_of refusal.Version = None
refused_of refusal.File = None
refused_of refusal.Exists = None
refused_of refusal.Minute = None
refused_of refusal.Owner = None
refused_of refusal.Mismatch = Some refused.Mismatch
refused_of refusal.BadHead = Some refused.BadHead
refused_of refusal.BadField = Some refused.BadField
refused_of refusal.BadBody = Some refused.BadBody
refused_of refusal.NoRoute = Some refused.NoRoute
refused_of refusal.BadMethod = None
refused_of refusal.LengthNeeded = Some refused.LengthNeeded
refused_of refusal.TooLarge = Some refused.TooLarge
refused_of refusal.NotSupported = Some refused.NotSupported

-- the refused line, record or offset in bytes
abbrev pub place_of : Refused → Option ℕ
place_of (refused.SbatRow line) = Some line
place_of (refused.List offset) = Some offset
place_of (refused.EntrySize offset) = Some offset
place_of (refused.CsvRow row) = Some row
place_of _ = None

-- its status (RFC 9110, section 15)
abbrev pub status_of : Refused → Status
status_of refused.Short = status.UnprocessableEntity
status_of refused.NoMz = status.UnprocessableEntity
status_of refused.NoPe = status.UnprocessableEntity
status_of refused.Magic = status.UnprocessableEntity
status_of refused.NotEfi = status.UnprocessableEntity
status_of refused.Headers = status.UnprocessableEntity
status_of refused.Sections = status.UnprocessableEntity
status_of refused.Overlap = status.UnprocessableEntity
status_of refused.Table = status.UnprocessableEntity
status_of refused.Der = status.UnprocessableEntity
status_of refused.TwoSbat = status.UnprocessableEntity
status_of (refused.SbatRow line) = status.UnprocessableEntity
status_of refused.TooLong = status.UnprocessableEntity
status_of (refused.List offset) = status.UnprocessableEntity
status_of (refused.EntrySize offset) = status.UnprocessableEntity
status_of (refused.CsvRow row) = status.UnprocessableEntity
status_of refused.UnknownCaller = status.Unauthorized
status_of refused.NotYourRole = status.Forbidden
status_of refused.KeyReused = status.Conflict
status_of refused.NoSuchRequest = status.NotFound
status_of refused.WrongState = status.Conflict
status_of refused.OwnRequest = status.Conflict
status_of refused.AlreadyReviewed = status.Conflict
status_of refused.DigestDiffers = status.Conflict
status_of refused.Revoked = status.Conflict
status_of refused.NotListed = status.Conflict
status_of refused.AlreadyRevoked = status.Conflict
status_of refused.NotHigher = status.Conflict
status_of refused.StampNotLater = status.Conflict
status_of refused.AlreadyListed = status.Conflict
status_of refused.NotThere = status.Conflict
status_of refused.NameTaken = status.Conflict
status_of refused.Full = status.Conflict
status_of refused.NoSuchProposal = status.NotFound
status_of refused.OwnProposal = status.Conflict
status_of refused.ProposalClosed = status.Conflict
status_of refused.Mismatch = status.PreconditionFailed
status_of refused.BadHead = status.BadRequest
status_of refused.BadField = status.BadRequest
status_of refused.BadBody = status.UnprocessableEntity
status_of refused.NoRoute = status.NotFound
status_of (refused.BadMethod methods) = status.MethodNotAllowed methods
status_of refused.LengthNeeded = status.LengthRequired
status_of refused.TooLarge = status.PayloadTooLarge
status_of refused.NotSupported = status.NotImplemented

-- a refusal of this name and number in JSON, with its place if it has one; the keys ascend
abbrev pub refusal_data : List ℕ → ℕ → Option ℕ → Data
refusal_data name n None =
    object (
    member (codes "name") (string name) (
    member (codes "refused") (number (unsigned n)) no_members))
refusal_data name n (Some place) =
    object (
    member (codes "at") (number (unsigned place)) (
    member (codes "name") (string name) (
    member (codes "refused") (number (unsigned n)) no_members)))

-- the refusal of a request, in JSON
abbrev pub refused_data : Refused → Data
refused_data r = refusal_data (name_of (refusal_of r)) (number_of (refusal_of r)) (place_of r)

-- an outage, in JSON
abbrev pub outage_data : Outage → Data
outage_data o = refusal_data (name_of (outage_refusal o)) (number_of (outage_refusal o)) None
