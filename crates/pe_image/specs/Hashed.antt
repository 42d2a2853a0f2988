-- The bytes of an image that are hashed (Authenticode, "Calculating the PE Image Hash").
use Rattle.std.specs.Prelude.{◌≡◌, ℕ, ◌+◌, if◌then◌else◌, List, take}
use Rattle.pe_image.specs.Checks.{IsLaid}
use Rattle.pe_image.specs.Image.{checksum_offset, has_certificate_directory, certificate_directory_offset, image_end, gap}
use Rattle.pe_image.specs.Places.{places_of, spans_of}
use Rattle.pe_image.specs.Spans.{bytes_at, without}

-- the slices of f at its places that are hashed, joined
abbrev pub hashed_bytes : List ℕ → List ℕ
hashed_bytes f = bytes_at f (spans_of (places_of f))

-- f without the 4 bytes of CheckSum, the 8 bytes of the certificate table's entry (where there is
-- one) and the table
unfoldable pub plain : List ℕ → List ℕ
plain f =
    if has_certificate_directory f
    then without (checksum_offset f) (checksum_offset f + 4) (without (certificate_directory_offset f) (certificate_directory_offset f + 8) (take (image_end f) f))
    else without (checksum_offset f) (checksum_offset f + 4) (take (image_end f) f)

-- an image without a gap is hashed except for those bytes
abbrev pub HashesAllElse : Type 0
HashesAllElse = (f : List ℕ) → IsLaid f → gap f ≡ 0 → hashed_bytes f ≡ plain f
