-- Lines of digests packed into one signature list.
use Rattle.std.specs.Prelude.{◌≡◌, ℕ, ◌<◌, ◌≤◌, List, length, Option, Result, Ok, Err}
use Rattle.std.specs.Io.KnownBytes.{Appends}
use Rattle.base.specs.Digests.{digest_of, IsArranged}
use Rattle.base.specs.Lines.{Numbered, named_in, parted}
use Rattle.base.specs.Output.{AppendsBeginning}
use Rattle.siglist.specs.SignatureLists.{spelling}
use Rattle.siglist.specs.Writing.{sha256_row}

-- own: the most bytes of a text
abbrev pub longest_text : ℕ
longest_text = 8388608

-- the digests that the lines name, in their order, or the number of the first line that names none
abbrev pub digests_in : List Numbered → Result (List (List ℕ)) ℕ
digests_in lines = named_in digest_of lines

-- the text is within the limit, and these are the digests of its lines, arranged
pub record Packs (text : List ℕ) (ds : List (List ℕ)) : Type 0 where
  pub fits : length text ≤ longest_text
  pub named : List (List ℕ)
  pub read : digests_in (parted text) ≡ Ok named
  pub arranged : IsArranged named ds

-- the bytes of one SHA256 list of the digests, or none
abbrev pub packed : List ℕ → List (List ℕ) → List ℕ
packed owner ds = spelling (sha256_row owner ds)

-- the text was packed into `count` entries, and all of them were written
pub record IsPacked (owner text : List ℕ) (count : ℕ) (old new : Option (List ℕ)) : Type 0 where
  pub digests : List (List ℕ)
  pub packs : Packs text digests
  pub count_is : count ≡ length digests
  pub out : Appends old new (packed owner digests)

-- the text was packed, and a prefix of the list was written
pub record IsPartlyPacked (owner text : List ℕ) (old new : Option (List ℕ)) : Type 0 where
  pub digests : List (List ℕ)
  pub packs : Packs text digests
  pub out : AppendsBeginning old new (packed owner digests)

-- own: the text passes the limit
abbrev pub IsTooLong : List ℕ → Type 0
IsTooLong text = longest_text < length text

-- the text is within the limit, and this is the first line that names no digest
abbrev pub HasWrongLine : List ℕ → ℕ → Type 0
HasWrongLine text line = (length text ≤ longest_text) × (digests_in (parted text) ≡ Err line)
