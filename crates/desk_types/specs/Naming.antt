-- What a command names: the person whom it adds, or one request, or one proposal; and the certificate
-- or the image that it brings.
use Rattle.std.specs.Prelude.{ℕ, Option, Some, None}
use Rattle.desk_types.specs.Certificates.{WholeCertificate}
use Rattle.desk_types.specs.declared.command.Command.{Command}
use Rattle.desk_types.specs.declared.command.Command.TheVariants as command
use Rattle.desk_types.specs.declared.command.Person.{Person}
use Rattle.desk_types.specs.declared.facts.Facts.{Facts}
use Rattle.desk_types.specs.declared.naming.Subject.{Subject}
use Rattle.desk_types.specs.declared.naming.Subject.TheVariants as subject

-- the person whom a command adds
abbrev pub person_added : Command → Option Person
person_added (command.AddPerson person) = Some person
person_added (command.Submit _) = None
person_added (command.Review _) = None
person_added (command.Withdraw _) = None
person_added (command.Return _) = None
person_added (command.ListCertificate _) = None
person_added (command.ListDigest _) = None
person_added (command.Unlist _) = None
person_added (command.RevokeDigest _) = None
person_added (command.RevokeCertificate _) = None
person_added (command.RaiseLevel _) = None
person_added (command.ImportRevocations _) = None
person_added (command.Confirm _) = None
person_added (command.Drop _) = None
person_added (command.Explain _) = None

-- the request or the proposal that a command names: six commands name one
abbrev pub subject_named : Command → Option Subject
subject_named (command.Review b) = Some (subject.Request b.request)
subject_named (command.Withdraw k) = Some (subject.Request k)
subject_named (command.Return h) = Some (subject.Request h.request)
subject_named (command.Confirm k) = Some (subject.Proposal k)
subject_named (command.Drop k) = Some (subject.Proposal k)
subject_named (command.Explain x) = Some (subject.Proposal x.proposal)
subject_named (command.AddPerson _) = None
subject_named (command.Submit _) = None
subject_named (command.ListCertificate _) = None
subject_named (command.ListDigest _) = None
subject_named (command.Unlist _) = None
subject_named (command.RevokeDigest _) = None
subject_named (command.RevokeCertificate _) = None
subject_named (command.RaiseLevel _) = None
subject_named (command.ImportRevocations _) = None

-- the request of a subject
abbrev pub request_in : Option Subject → Option ℕ
request_in (Some (subject.Request k)) = Some k
request_in (Some (subject.Proposal _)) = None
request_in None = None

-- the proposal of a subject
abbrev pub proposal_in : Option Subject → Option ℕ
proposal_in (Some (subject.Request _)) = None
proposal_in (Some (subject.Proposal k)) = Some k
proposal_in None = None

-- the request that a command names
abbrev pub request_named : Command → Option ℕ
request_named c = request_in (subject_named c)

-- the proposal that a command names
abbrev pub proposal_named : Command → Option ℕ
proposal_named c = proposal_in (subject_named c)

-- the certificate that the command lists, if it lists one
abbrev pub certificate_listed : Command → Option WholeCertificate
certificate_listed (command.ListCertificate c) = Some c
certificate_listed (command.AddPerson _) = None
certificate_listed (command.Submit _) = None
certificate_listed (command.Review _) = None
certificate_listed (command.Withdraw _) = None
certificate_listed (command.Return _) = None
certificate_listed (command.ListDigest _) = None
certificate_listed (command.Unlist _) = None
certificate_listed (command.RevokeDigest _) = None
certificate_listed (command.RevokeCertificate _) = None
certificate_listed (command.RaiseLevel _) = None
certificate_listed (command.ImportRevocations _) = None
certificate_listed (command.Confirm _) = None
certificate_listed (command.Drop _) = None
certificate_listed (command.Explain _) = None

-- the facts of the image that a command brings: a Submit and a Return bring one
abbrev pub facts_brought : Command → Option Facts
facts_brought (command.Submit s) = Some s.facts
facts_brought (command.Return h) = Some h.facts
facts_brought (command.AddPerson _) = None
facts_brought (command.Review _) = None
facts_brought (command.Withdraw _) = None
facts_brought (command.ListCertificate _) = None
facts_brought (command.ListDigest _) = None
facts_brought (command.Unlist _) = None
facts_brought (command.RevokeDigest _) = None
facts_brought (command.RevokeCertificate _) = None
facts_brought (command.RaiseLevel _) = None
facts_brought (command.ImportRevocations _) = None
facts_brought (command.Confirm _) = None
facts_brought (command.Drop _) = None
facts_brought (command.Explain _) = None
