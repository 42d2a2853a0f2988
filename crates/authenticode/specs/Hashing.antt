-- The digests of an image (Authenticode, "Calculating the PE Image Hash"; SHA-256 is that of FIPS
-- 180-4).
use Rattle.std.specs.Prelude.{ℕ, ◌-◌, ◌%◌, ◌++◌, if◌then◌else◌, List, length, max, min, replicate, slice_range}
use Rattle.std.specs.List.{flat_map}
use Rattle.sha2.specs.Sha256.{sha256}
use Rattle.pe_image.specs.Hashed.{hashed_bytes}
use Rattle.pe_image.specs.Image.{has_table}
use Rattle.pe_image.specs.declared.span.Span.{Span}

-- the digest of the file f
abbrev pub image_digest : List ℕ → List ℕ
image_digest f = sha256 (hashed_bytes f)

-- the bytes of f at the spans, between two places
abbrev pub bytes_between : List ℕ → ℕ → ℕ → List Span → List ℕ
bytes_between f from to ss = flat_map (λ s. slice_range f (max s.from from) (min s.to to)) ss

-- the number of bytes that a length lacks to a multiple of 8
abbrev pub padding_of : ℕ → ℕ
padding_of n = (8 - n % 8) % 8

-- the bytes that a signature of f covers. own: if there is no table yet, a signing tool pads the
-- file with zero bytes to a multiple of 8 before it appends one, so these are hashed too
abbrev pub signed_bytes : List ℕ → List ℕ
signed_bytes f = if has_table f then hashed_bytes f else hashed_bytes f ++ replicate (padding_of (length f)) 0

-- the digest that a signature of f holds
abbrev pub signed_digest : List ℕ → List ℕ
signed_digest f = sha256 (signed_bytes f)
