-- The commands that bodies are read as, and the refusals of bodies.
use Rattle.std.specs.Prelude.{◌≡◌, ℕ, List, length, nat_lt, if◌then◌else◌, Option, Some, None, Result, Ok, Err, ⊤}
use Rattle.std.specs.declared.alloc.AllocError.{AllocError}
use Rattle.sha2.specs.Sha256.{sha256}
use Rattle.base.specs.declared.refusal.Refusal.{Refusal}
use Rattle.desk_types.specs.declared.command.Command.{Command}
use Rattle.desk_types.specs.declared.command.Command.TheVariants as command
use Rattle.desk_types.specs.declared.facts.Facts.{Facts}
use Rattle.http_requests.specs.declared.ask.BytesAsked.{BytesAsked}
use Rattle.http_requests.specs.declared.ask.BytesAsked.TheVariants as asked
use Rattle.http_responses.specs.Refusals as told
use Rattle.http_responses.specs.declared.refused.Refused.{Refused}
use Rattle.http_responses.specs.declared.refused.Refused.TheVariants as refused
use Rattle.desk_inputs.specs.Faults as facts
use Rattle.desk_inputs.specs.ImageFacts.{IsFactsOf, IsFirstFault}
use Rattle.desk_inputs.specs.imports.Faults as imports
use Rattle.desk_inputs.specs.imports.FromCsv.{IsCsvImport, RefusesCsv}
use Rattle.desk_inputs.specs.imports.FromLevel.{IsLevelImport, RefusesLevelImport}
use Rattle.desk_inputs.specs.imports.FromLists.{IsDbxImport, RefusesDbx, tbs_of}
use Rattle.desk_inputs.specs.declared.imports.fault.ImportFault.{ImportFault}

-- a request is refused for this row of the table of refusals, with this place or none
pub record RefusesAs (row : Refusal) (place : Option ℕ) (refused : Refused) : Type 0 where
  pub of : told.refusal_of refused ≡ row
  pub at : told.place_of refused ≡ place

-- a body is refused for its first fault; NoMemory isn't a fault of the body, and refuses none
pub record TellsFault {F : Type 0} (is_first : F → Type 0) (row : F → Refusal) (place : F → Option ℕ) (refused : Refused) : Type 0 where
  pub fault : F
  pub first : is_first fault
  pub told : RefusesAs (row fault) (place fault) refused

-- an image in memory, no read of which fails, is refused for this
abbrev pub RefusesImage : List ℕ → Refused → Type 0
RefusesImage image = TellsFault (IsFirstFault image 0 0) facts.refusal_of facts.place_of

-- its facts are read, or it is refused
abbrev pub ReadsFacts : List ℕ → Result Facts Refused → Type 0
ReadsFacts image (Ok x) = IsFactsOf image x
ReadsFacts image (Err refused) = RefusesImage image refused

-- an image's command, made of its facts
abbrev pub ReadsImage : (Facts → Command) → List ℕ → Result Command Refused → Type 0
ReadsImage makes image (Ok command) = (x : Facts) × IsFactsOf image x × (command ≡ makes x)
ReadsImage makes image (Err refused) = RefusesImage image refused

-- a certificate with the SHA-256 of its TBSCertificate, if it has one
abbrev pub with_tbs : List ℕ → Option (List ℕ) → Result Command Refused
with_tbs body None = Err refused.Der
with_tbs body (Some tbs) = Ok (command.ListCertificate (record { body = body; tbs = sha256 tbs }))

-- own: a certificate of more than 65,536 bytes is too long, whatever its bytes
abbrev pub listing_of : List ℕ → Result Command Refused
listing_of body = if nat_lt 65536 (length body) then Err refused.TooLong else with_tbs body (tbs_of body)

-- an import is the command that its definition gives, or is refused for its first fault
abbrev pub ReadsImport : (Command → Type 0) → (ImportFault → Type 0) → Result Command Refused → Type 0
ReadsImport is first (Ok command) = is command
ReadsImport is first (Err refused) = TellsFault first imports.refusal_of imports.place_of refused

-- the result for an import: its command, or a refusal for its fault, or memory was refused
abbrev pub TellsImport : Result Command ImportFault → Result (Result Command Refused) AllocError → Type 0
TellsImport given (Ok (Ok command)) = given ≡ Ok command
TellsImport given (Ok (Err refused)) =
    (fault : ImportFault) × (given ≡ Err fault) × RefusesAs (imports.refusal_of fault) (imports.place_of fault) refused
TellsImport given (Err _) = ⊤

-- signature lists
abbrev pub ReadsDbx : List ℕ → Result Command Refused → Type 0
ReadsDbx bytes = ReadsImport (IsDbxImport bytes) (RefusesDbx bytes)

-- a CSV file, with the request's stamp or none
abbrev pub ReadsCsv : List ℕ → Option ℕ → Result Command Refused → Type 0
ReadsCsv text stamp = ReadsImport (IsCsvImport text stamp) (RefusesCsv text)

-- the text of an SBAT level
abbrev pub ReadsLevel : List ℕ → Result Command Refused → Type 0
ReadsLevel text = ReadsImport (IsLevelImport text) (RefusesLevelImport text)

-- the command of the bytes, in the requested format
abbrev pub ReadsBytes : BytesAsked → List ℕ → Result Command Refused → Type 0
ReadsBytes asked.ListCertificate body read = read ≡ listing_of body
ReadsBytes asked.ImportDbx body read = ReadsDbx body read
ReadsBytes (asked.ImportCsv stamp) body read = ReadsCsv body stamp read
ReadsBytes asked.ImportLevel body read = ReadsLevel body read
