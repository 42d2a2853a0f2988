-- What the subcommands write that need no desk.
use Rattle.std.specs.Prelude.{◌≡◌, ◌⊎◌, ℕ, List, Option, None, IfSome, Result, Ok, Err, OnErr, OnOk, flat_map}
use Rattle.std.specs.Io.KnownBytes.{Appends, Keeps}
use Rattle.base.specs.Output.{AppendsBeginning}
use Rattle.cli_output.specs.Listings.{facts_lines, list_line, ranges_lines}
use Rattle.cli_output.specs.declared.ending.Ending.{Ending}
use Rattle.cli_output.specs.declared.ending.WorkOutcome.TheVariants.{Done}
use Rattle.cli_output.specs.declared.fault.Fault.{Fault}
use Rattle.desk_inputs.specs.ImageFacts.{IsFactsOf}
use Rattle.desk_types.specs.declared.facts.Facts.{Facts}
use Rattle.pe_image.specs.Places.{places_of}
use Rattle.siglist.specs.Packing.{Packs, packed}
use Rattle.siglist.specs.SignatureLists.{Placed, SpellsPlaced}

-- own: the lines of an image's facts were written so
pub record TellsFacts (wrote : List ℕ → Type 0) : Type 0 where
  pub image : List ℕ
  pub found : Facts
  pub facts : IsFactsOf image found
  pub written : wrote (facts_lines found)

-- own: the lines of an image's ranges were written so
pub record TellsRanges (wrote : List ℕ → Type 0) : Type 0 where
  pub image : List ℕ
  pub written : wrote (ranges_lines (places_of image))

-- own: the lines of signature lists were written so
pub record TellsLists (wrote : List ℕ → Type 0) : Type 0 where
  pub bytes : List ℕ
  pub row : List Placed
  pub spelt : SpellsPlaced row bytes
  pub written : wrote (flat_map list_line row)

-- own: the digests of the lines of a text were written so, as one SHA256 list under the owner
pub record WritesPacked (owner text : List ℕ) (wrote : List ℕ → Type 0) : Type 0 where
  pub digests : List (List ℕ)
  pub packs : Packs text digests
  pub written : wrote (packed owner digests)

-- the same, if the text is known
abbrev pub PacksKnown : List ℕ → Option (List ℕ) → (List ℕ → Type 0) → Type 0
PacksKnown owner given wrote = IfSome given (λ text. WritesPacked owner text wrote)

-- After Ok all is written so; after a fault nothing, or a prefix of it.
abbrev pub Tells : ((List ℕ → Type 0) → Type 0) → Option (List ℕ) → Option (List ℕ) → Result Unit Fault → Type 0
Tells told before after result =
    OnOk result (told (Appends before after))
    × OnErr result (Keeps before after ⊎ told (AppendsBeginning before after))

-- own: the end of a subcommand without a desk
abbrev pub without_desk : Result Unit Fault → Ending
without_desk (Ok done) = record { work = Ok Done; closing = None }
without_desk (Err fault) = record { work = Err fault; closing = None }

-- the end of a subcommand without a desk, which wrote so
pub record EndsAlone (told : (List ℕ → Type 0) → Type 0) (before after : Option (List ℕ)) (ending : Ending) : Type 0 where
  pub result : Result Unit Fault
  pub is : ending ≡ without_desk result
  pub tells : Tells told before after result
