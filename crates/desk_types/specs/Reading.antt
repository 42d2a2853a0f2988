-- Texts as they are read: items of lists, the parts of facts, and what follows a command's word.
use Rattle.std.specs.Prelude.{◌≡◌, ◌≤◌, ℕ, List, [], ◌∷◌, ◌++◌, decimal, drop}
use Rattle.hex.specs.Hex.{encode_lower}
use Rattle.base.specs.Limits.{longest_image}
use Rattle.pe_image.specs.Extents.{Lengths}
use Rattle.desk_types.specs.Commands.{IsDigest}
use Rattle.desk_types.specs.CommandTexts.{parts_of}
use Rattle.desk_types.specs.Items.{spaced}
use Rattle.desk_types.specs.declared.command.Command.{Command}
use Rattle.desk_types.specs.declared.command.Command.TheVariants.{Withdraw, ListDigest, Unlist, RevokeDigest, RevokeCertificate, Confirm, Drop}

-- the last item of the new list, in its form, has this text; the others are those of the old
pub record AddsItem {X : Type 0} (Form : X → Type 0) (text_of : X → List ℕ) (old : List X) (text : List ℕ) (new : List X) : Type 0 where
  pub item : X
  pub form : Form item
  pub is : text ≡ text_of item
  pub added : new ≡ old ++ item ∷ []

-- the lengths of an image's file and gap, within their limits
pub record IsExtent (extent : Lengths) : Type 0 where
  pub gap : extent.gap ≤ extent.length
  pub file : extent.length ≤ longest_image

-- such lengths, and three digests
pub record AreMeasures (extent : Lengths) (file digest signing : List ℕ) : Type 0 where
  pub lengths : IsExtent extent
  pub first : IsDigest file
  pub second : IsDigest digest
  pub third : IsDigest signing

-- two lengths, and then more
abbrev pub extent_then : Lengths → List ℕ → List ℕ
extent_then extent rest = spaced (decimal extent.length ∷ decimal extent.gap ∷ rest ∷ [])

-- two lengths and three digests, and then more
abbrev pub measures_then : Lengths → List ℕ → List ℕ → List ℕ → List ℕ → List ℕ
measures_then extent file digest signing rest =
    extent_then extent (spaced (encode_lower file ∷ encode_lower digest ∷ encode_lower signing ∷ rest ∷ []))

-- the text of a command after its word
abbrev pub behind_word : Command → List ℕ
behind_word command = spaced (drop 1 (parts_of command))

-- a command whose text has parts of several kinds
abbrev pub IsLong : Command → Type 0
IsLong (Withdraw request) = ⊥
IsLong (ListDigest digest) = ⊥
IsLong (Unlist listing) = ⊥
IsLong (RevokeDigest digest) = ⊥
IsLong (RevokeCertificate digest) = ⊥
IsLong (Confirm proposal) = ⊥
IsLong (Drop proposal) = ⊥
IsLong _ = Unit {0}
