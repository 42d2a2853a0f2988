-- A call in its forms and within its limits, as each call of a program is.
use Rattle.std.specs.Prelude.{◌≡◌, ◌≤◌, length, true}
use Rattle.base.specs.Digests.{IsAscending}
use Rattle.base.specs.Limits.{longest_image, most_certificates, most_components}
use Rattle.desk_types.specs.Certificates.{is_certificate_size}
use Rattle.desk_types.specs.Commands.{IsCaller, IsCommand}
use Rattle.desk_types.specs.Forms.{is_key, most_imported}
use Rattle.desk_types.specs.Imports.{Imported, named_count}
use Rattle.desk_types.specs.Raising.{names_no_sbat}
use Rattle.desk_types.specs.declared.command.Call.{Call}
use Rattle.desk_types.specs.declared.command.Command.{Command}
use Rattle.desk_types.specs.declared.command.Command.TheVariants.{AddPerson, Submit, Review, Withdraw, Return, ListCertificate, ListDigest, Unlist, RevokeDigest, RevokeCertificate, RaiseLevel, ImportRevocations, Confirm, Drop, Explain}
use Rattle.desk_types.specs.declared.facts.Facts.{Facts}

-- own: the limits of an image's file and gap; its certificates ascend, each once
pub record AreFactsWithin (facts : Facts) : Type 0 where
  pub gap : facts.extent.gap ≤ facts.extent.length
  pub file : facts.extent.length ≤ longest_image
  pub ascending : IsAscending facts.carried
  pub carried : length facts.carried ≤ most_certificates
  pub components : length facts.components ≤ most_components

-- own: the limit of an import's entries, including those that it skips; `sbat` is none of them
pub record IsImportWithin (named : Imported) : Type 0 where
  pub entries : named_count named.passed named.digests named.certificates named.components ≤ most_imported
  pub no_sbat : names_no_sbat named.components ≡ true

-- the command is within the limits of its values
abbrev pub IsWithin : Command → Type 0
IsWithin (AddPerson _) = Unit {0}
IsWithin (Submit s) = AreFactsWithin s.facts
IsWithin (Review _) = Unit {0}
IsWithin (Withdraw _) = Unit {0}
IsWithin (Return h) = AreFactsWithin h.facts
IsWithin (ListCertificate c) = is_certificate_size (length c.body) ≡ true
IsWithin (ListDigest _) = Unit {0}
IsWithin (Unlist _) = Unit {0}
IsWithin (RevokeDigest _) = Unit {0}
IsWithin (RevokeCertificate _) = Unit {0}
IsWithin (RaiseLevel _) = Unit {0}
IsWithin (ImportRevocations i) = IsImportWithin i
IsWithin (Confirm _) = Unit {0}
IsWithin (Drop _) = Unit {0}
IsWithin (Explain _) = Unit {0}

-- The caller, the key and all values of the command are in their forms and within their limits.
pub record IsCall (c : Call) : Type 0 where
  pub caller : IsCaller c.caller
  pub key : is_key c.key ≡ true
  pub forms : IsCommand c.command
  pub limits : IsWithin c.command
