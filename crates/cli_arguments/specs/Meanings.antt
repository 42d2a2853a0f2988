-- What a subcommand's words mean: the subcommand with its values.
use Rattle.std.specs.Prelude.{◌≡◌, ◌⊎◌, ℕ, List, Option, Ok, Err, decimal}
use Rattle.base.specs.Guids.{IsGuidText}
use Rattle.clap.specs.Words.{Text}
use Rattle.desk_exports.specs.declared.export.Export.{Export}
use Rattle.desk_exports.specs.declared.export.Export.TheVariants as exports
use Rattle.cli_arguments.specs.Lines as lines
use Rattle.cli_arguments.specs.Lines.{Line}
use Rattle.cli_arguments.specs.declared.jobs.Job.{Job}
use Rattle.cli_arguments.specs.declared.jobs.Job.TheVariants as jobs
use Rattle.cli_arguments.specs.declared.values.newcomer.Newcomer.{Newcomer}
use Rattle.cli_arguments.specs.declared.values.place.Place.{Place}
use Rattle.cli_arguments.specs.declared.values.stop.Stop.{Stop}
use Rattle.cli_arguments.specs.declared.values.token.TokenForm.{TokenForm}
use Rattle.cli_arguments.specs.declared.values.token.TokenForm.TheVariants as forms
use Rattle.cli_arguments.specs.values.Exports.{asked_export}
use Rattle.cli_arguments.specs.values.Numbers.{place_of}
use Rattle.cli_arguments.specs.values.People.{SpellNewcomer, StopsFirst}
use Rattle.cli_arguments.specs.values.Words.{IsWrongNumber, IsWrongOwner}

-- a subcommand with its values: paths as texts, an owner's 16 bytes, a proposal's number
pub data Meaning : Type 0 where
  init : Text → List ℕ → Meaning
  add : Text → Newcomer → TokenForm → Meaning
  follow : Text → List ℕ → Text → Meaning
  serve : Text → Place → Meaning
  answer : Text → Meaning
  facts : Text → Meaning
  ranges : Text → Meaning
  verdict : Text → Text → Meaning
  impact : Text → ℕ → Meaning
  export : Text → Export → Meaning
  audit : List ℕ → Text → Option Export → Meaning
  list : Text → Meaning
  pack : List ℕ → Meaning

-- the meaning of the program's value
abbrev pub meaning_of : Job → Meaning
meaning_of (jobs.Init path owner) = init path.now owner
meaning_of (jobs.Add path newcomer token) = add path.now newcomer token
meaning_of (jobs.Follow path owner file) = follow path.now owner file.now
meaning_of (jobs.Serve path place) = serve path.now place
meaning_of (jobs.Answer path) = answer path.now
meaning_of (jobs.Facts file) = facts file.now
meaning_of (jobs.Ranges file) = ranges file.now
meaning_of (jobs.Verdict path file) = verdict path.now file.now
meaning_of (jobs.Impact path number) = impact path.now number
meaning_of (jobs.Export path what) = export path.now what
meaning_of (jobs.Audit owner file what) = audit owner file.now what
meaning_of (jobs.List file) = list file.now
meaning_of (jobs.Pack owner) = pack owner

-- the word is the text of a GUID, and with that owner this is the meaning
pub record WithOwner (owner : Text) (with_guid : List ℕ → Meaning) (meaning : Meaning) : Type 0 where
  pub guid : List ℕ
  pub spelt : IsGuidText owner guid
  pub is : meaning ≡ with_guid guid

-- a person of this name, role and key is added to the desk at this path, with a token of this form
pub record AddsWith (form : TokenForm) (path name role key : Text) (meaning : Meaning) : Type 0 where
  pub newcomer : Newcomer
  pub spelt : SpellNewcomer name role key newcomer
  pub is : meaning ≡ add path newcomer form

-- the port and the count are in their forms, and connections are served so
pub record ServesAt (path port count : Text) (meaning : Meaning) : Type 0 where
  pub place : Place
  pub spelt : place_of port count ≡ Ok place
  pub is : meaning ≡ serve path place

-- the word is this number in decimal digits, and this is the meaning with that proposal
pub record OfProposal (path number : Text) (meaning : Meaning) : Type 0 where
  pub value : ℕ
  pub spelt : number ≡ decimal value
  pub is : meaning ≡ impact path value

-- the words are in their forms, and minutes are followed so
pub record AuditsWith (owner file : Text) (export_word : Option Text) (meaning : Meaning) : Type 0 where
  pub guid : List ℕ
  pub spelt : IsGuidText owner guid
  pub what : Option Export
  pub named : asked_export export_word ≡ Ok what
  pub is : meaning ≡ audit guid file what

-- own: what the words of a subcommand mean, if each is in its form
abbrev pub Means : Line → Meaning → Type 0
Means (lines.init path owner) = WithOwner owner (init path)
Means (lines.person path name role key) = AddsWith forms.Token path name role key
Means (lines.enrol path name role key) = AddsWith forms.Digest path name role key
Means (lines.minutes path) = λ meaning. meaning ≡ export path exports.Minutes
Means (lines.follow path owner file) = WithOwner owner (λ guid. follow path guid file)
Means (lines.serve path port count) = ServesAt path port count
Means (lines.answer path) = λ meaning. meaning ≡ answer path
Means (lines.facts file) = λ meaning. meaning ≡ facts file
Means (lines.ranges file) = λ meaning. meaning ≡ ranges file
Means (lines.verdict path file) = λ meaning. meaning ≡ verdict path file
Means (lines.impact path number) = OfProposal path number
Means (lines.db path) = λ meaning. meaning ≡ export path exports.Db
Means (lines.dbx path) = λ meaning. meaning ≡ export path exports.Dbx
Means (lines.shim path) = λ meaning. meaning ≡ export path exports.Shim
Means (lines.level path) = λ meaning. meaning ≡ export path exports.Level
Means (lines.audit owner file export_word) = AuditsWith owner file export_word
Means (lines.list file) = λ meaning. meaning ≡ list file
Means (lines.pack owner) = WithOwner owner pack

-- the owner is wrong, or it is right and the export's word stops the audit
abbrev pub StopsAudit : Text → Option Text → Stop → Type 0
StopsAudit owner export_word why =
    IsWrongOwner owner why ⊎ ((guid : List ℕ) × IsGuidText owner guid × (asked_export export_word ≡ Err why))

-- own: the first word that isn't in its form stops the subcommand, or, of a person's, refused memory
abbrev pub StopsWords : Line → Stop → Type 0
StopsWords (lines.init path owner) = IsWrongOwner owner
StopsWords (lines.person path name role key) = StopsFirst name role key
StopsWords (lines.enrol path name role key) = StopsFirst name role key
StopsWords (lines.minutes path) = λ why. ⊥
StopsWords (lines.follow path owner file) = IsWrongOwner owner
StopsWords (lines.serve path port count) = λ why. place_of port count ≡ Err why
StopsWords (lines.answer path) = λ why. ⊥
StopsWords (lines.facts file) = λ why. ⊥
StopsWords (lines.ranges file) = λ why. ⊥
StopsWords (lines.verdict path file) = λ why. ⊥
StopsWords (lines.impact path number) = IsWrongNumber number
StopsWords (lines.db path) = λ why. ⊥
StopsWords (lines.dbx path) = λ why. ⊥
StopsWords (lines.shim path) = λ why. ⊥
StopsWords (lines.level path) = λ why. ⊥
StopsWords (lines.audit owner file export_word) = StopsAudit owner export_word
StopsWords (lines.list file) = λ why. ⊥
StopsWords (lines.pack owner) = IsWrongOwner owner
