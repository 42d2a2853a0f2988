-- Forms of the values in commands and replies, as their canonical texts need them; the constructors
-- check more.
use Rattle.std.specs.Prelude.{◌≡◌, ℕ, ◌<◌, ◌^◌, List, Option, Some, None, All, true, length}
use Rattle.hex.specs.Hex.{IsBytes}
use Rattle.sbat.specs.declared.component.Component.{Component}
use Rattle.sbat.specs.Fields.{is_generation, is_name, is_stamp}
use Rattle.desk_types.specs.Forms.{is_note, is_person_name, is_proposal_number, is_reason, is_request_number, is_title}
use Rattle.desk_types.specs.Imports.{Imported}
use Rattle.desk_types.specs.declared.facts.Facts.{Facts}
use Rattle.desk_types.specs.declared.caller.Caller.{Caller}
use Rattle.desk_types.specs.declared.caller.Caller.TheVariants.{Console, Person}
use Rattle.desk_types.specs.declared.command.Command.{Command}
use Rattle.desk_types.specs.declared.command.Command.TheVariants.{AddPerson, Submit, Review, Withdraw, Return, ListCertificate, ListDigest, Unlist, RevokeDigest, RevokeCertificate, RaiseLevel, ImportRevocations, Confirm, Drop, Explain}
use Rattle.desk_types.specs.declared.reply.Counts.{Counts}
use Rattle.desk_types.specs.declared.reply.Reply.{Reply}
use Rattle.desk_types.specs.declared.reply.Reply.TheVariants.{Added, Submitted, Reviewed, Withdrawn, Returned, Imported as Counted, Proposed, Confirmed, Dropped, Explained}

-- 32 bytes
pub record IsDigest (digest : List ℕ) : Type 0 where
  pub size : length digest ≡ 32
  pub bytes : IsBytes digest

-- a component with a name and a generation
pub record IsComponent (component : Component) : Type 0 where
  pub name : is_name component.name ≡ true
  pub generation : is_generation component.generation ≡ true

-- the numbers of a program, below 2^64
abbrev pub IsCount : ℕ → Type 0
IsCount number = number < 2 ^ 64

-- numbers of a program, three digests, and lists of digests and components
pub record IsFacts (facts : Facts) : Type 0 where
  pub length : IsCount facts.extent.length
  pub gap : IsCount facts.extent.gap
  pub file : IsDigest facts.file
  pub digest : IsDigest facts.digest
  pub signing : IsDigest facts.signing
  pub carried : All IsDigest facts.carried
  pub components : All IsComponent facts.components

-- a stamp, or none
abbrev pub IsStamp : Option ℕ → Type 0
IsStamp None = Unit {0}
IsStamp (Some stamp) = is_stamp stamp ≡ true

-- a stamp or none, a number, and lists of digests and components
pub record IsImport (named : Imported) : Type 0 where
  pub stamp : IsStamp named.stamp
  pub passed : IsCount named.passed
  pub digests : All IsDigest named.digests
  pub certificates : All IsDigest named.certificates
  pub components : All IsComponent named.components

-- the values of the command are in the forms that their texts need
abbrev pub IsCommand : Command → Type 0
IsCommand (AddPerson p) = (is_person_name p.name ≡ true) × IsDigest p.token
IsCommand (Submit s) = (is_title s.title ≡ true) × IsFacts s.facts
IsCommand (Review b) = (is_request_number b.request ≡ true) × (is_note b.note ≡ true)
IsCommand (Withdraw request) = is_request_number request ≡ true
IsCommand (Return h) = (is_request_number h.request ≡ true) × IsFacts h.facts
IsCommand (ListCertificate c) = IsDigest c.tbs × IsBytes c.body
IsCommand (ListDigest digest) = IsDigest digest
IsCommand (Unlist l) = IsDigest l.digest
IsCommand (RevokeDigest digest) = IsDigest digest
IsCommand (RevokeCertificate digest) = IsDigest digest
IsCommand (RaiseLevel r) = IsComponent r.component × (is_stamp r.stamp ≡ true)
IsCommand (ImportRevocations i) = IsImport i
IsCommand (Confirm proposal) = is_proposal_number proposal ≡ true
IsCommand (Drop proposal) = is_proposal_number proposal ≡ true
IsCommand (Explain e) = (is_proposal_number e.proposal ≡ true) × (is_reason e.reason ≡ true)

-- a person who calls has a person's name
abbrev pub IsCaller : Caller → Type 0
IsCaller Console = Unit {0}
IsCaller (Person name) = is_person_name name ≡ true

-- four numbers of a program
abbrev pub AreCounts : Counts → Type 0
AreCounts c = IsCount c.digests × IsCount c.certificates × IsCount c.components × IsCount c.passed

-- the values of the reply are in the forms that their texts need
abbrev pub IsReply : Reply → Type 0
IsReply (Added name) = is_person_name name ≡ true
IsReply (Submitted request) = is_request_number request ≡ true
IsReply (Reviewed o) = is_request_number o.request ≡ true
IsReply (Withdrawn request) = is_request_number request ≡ true
IsReply (Returned request) = is_request_number request ≡ true
IsReply (Counted c) = AreCounts c
IsReply (Proposed proposal) = is_proposal_number proposal ≡ true
IsReply (Confirmed c) = (is_proposal_number c.proposal ≡ true) × AreCounts c.counts
IsReply (Dropped proposal) = is_proposal_number proposal ≡ true
IsReply (Explained proposal) = is_proposal_number proposal ≡ true
IsReply _ = Unit {0}
