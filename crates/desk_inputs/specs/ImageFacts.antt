-- Facts of an image, and the fault of an image without facts.
use Rattle.std.specs.Prelude.{◌≡◌, ℕ, List, length, ⊤}
use Rattle.sha2.specs.Sha256.{sha256}
use Rattle.pe_image.specs.Checks.{IsLaid, IsRefused, checks}
use Rattle.pe_image.specs.Image.{gap}
use Rattle.pe_image.specs.Places.{places_of}
use Rattle.pe_image.specs.Sources.{HaveRisen}
use Rattle.authenticode.specs.Carried as carried
use Rattle.authenticode.specs.Hashing.{image_digest, signed_digest}
use Rattle.sbat.specs.Refusals.{IsComponents, RefusesComponents}
use Rattle.desk_types.specs.declared.facts.Facts.{Facts}
use Rattle.desk_inputs.specs.Parts.{part_of}
use Rattle.desk_inputs.specs.declared.fault.FactsFault.{FactsFault}
use Rattle.desk_inputs.specs.declared.fault.FactsFault.TheVariants.{Carried, Components, Layout, NoMemory, Read}

-- the certificate table of a file, or no byte if it has none (PE/COFF, "The Attribute Certificate
-- Table")
abbrev pub table_bytes : List ℕ → List ℕ
table_bytes f = part_of f (places_of f).table

-- the text of a file's section `.sbat`, or no byte if it has none (SBAT.md)
abbrev pub sbat_bytes : List ℕ → List ℕ
sbat_bytes f = part_of f (places_of f).sbat

-- the facts of the file f that the desk keeps
pub record IsFactsOf (f : List ℕ) (x : Facts) : Type 0 where
  pub laid : IsLaid f
  pub length : x.extent.length ≡ length f
  pub gap : x.extent.gap ≡ gap f
  pub file : x.file ≡ sha256 f
  pub digest : x.digest ≡ image_digest f
  pub signing : x.signing ≡ signed_digest f
  pub carried : carried.IsCarried (table_bytes f) x.carried
  pub components : IsComponents (sbat_bytes f) x.components

-- a file has carried certificates
pub record HasCarried (f : List ℕ) : Type 0 where
  pub digests : List (List ℕ)
  pub carried : carried.IsCarried (table_bytes f) digests

-- Why f has no facts. own: its layout's fault comes first, then one of its certificates, then one
-- of its components. For Read, the failure count rose or was already at its maximum; NoMemory may
-- come at any time.
abbrev pub IsFirstFault : List ℕ → ℕ → ℕ → FactsFault → Type 0
IsFirstFault f before after (Layout fault) = IsRefused (checks f) before after fault
IsFirstFault f before after Read = IsLaid f × HaveRisen before after
IsFirstFault f before after (Carried fault) = IsLaid f × carried.IsFirstFault (table_bytes f) fault
IsFirstFault f before after (Components fault) =
    IsLaid f × HasCarried f × RefusesComponents (sbat_bytes f) fault
IsFirstFault f before after NoMemory = ⊤
