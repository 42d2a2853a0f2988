-- Entity tags and their digests.
use Rattle.std.proofs.Common.{◌≡◌, ℕ, ◌<◌, List, [], ◌∷◌, length, take, drop, Bool, true, false, Option, Some, None, refl, sym, arith, length-take, length-drop}
use Rattle.std.specs.Prelude.{bytes_eq, if◌then◌else◌}
use Rattle.std.proofs.lemmas.List.{take_at}
use Rattle.std.proofs.lemmas.Slice.Eq.{bytes_eq-Decides}
use Rattle.hex.specs.Hex.{IsBytes, encode_lower, lower_digits}
use Rattle.hex.proofs.HexLemmas.{length-encode_with}
use Rattle.base.specs.Digests.{digest_of}
use Rattle.base.proofs.DigestLemmas.{digest_of-text, digest_size}
use Rattle.http_requests.specs.Tags.{digest_in_tag, entity_tag, tagged}

-- a text that is too short for an entity tag is none
pub short_tag : (text : List ℕ) → length text < 65 → digest_in_tag text ≡ None
unfolding digest_in_tag
short_tag text short = by_digest (digest_of (take 64 (drop 1 text))) refl
  where
    by_digest : (found : Option (List ℕ)) → digest_of (take 64 (drop 1 text)) ≡ found → tagged text found ≡ None
    by_digest None is = refl
    by_digest (Some digest) is =
        let size = digest_size (take 64 (drop 1 text)) digest is in
        absurd (omega (arith, size, length-take 64 (drop 1 text), length-drop 1 text))

-- the entity tag of a digest names it
pub tag_found : (digest : List ℕ) → length digest ≡ 32 → IsBytes digest → digest_in_tag (entity_tag digest) ≡ Some digest
unfolding digest_in_tag entity_tag
tag_found digest size bytes =
    let long : length (encode_lower digest) ≡ 64 = omega (arith, length-encode_with lower_digits digest) in
    let digits : take 64 (drop 1 (entity_tag digest)) ≡ encode_lower digest = take_at (encode_lower digest) (34 ∷ []) 64 long in
    let same : bytes_eq (entity_tag digest) (entity_tag digest) ≡ true = (bytes_eq-Decides (entity_tag digest) (entity_tag digest)).1 refl in
    rw (digits, digest_of-text digest size bytes, same) refl

-- a text that names a digest is its entity tag
pub tag_only : (text digest : List ℕ) → digest_in_tag text ≡ Some digest → text ≡ entity_tag digest
unfolding digest_in_tag
tag_only text digest names = by_digest (digest_of (take 64 (drop 1 text))) names
  where
    by_test : (b : Bool) (found : List ℕ) → bytes_eq text (entity_tag found) ≡ b → (if b then Some found else None) ≡ Some digest → text ≡ entity_tag digest
    by_test true found same is =
        let equal : text ≡ entity_tag found = (bytes_eq-Decides text (entity_tag found)).0 same in
        let one : found ≡ digest = cc in
        rw (sym one) equal
    by_test false found same is = cc

    by_digest : (found : Option (List ℕ)) → tagged text found ≡ Some digest → text ≡ entity_tag digest
    by_digest None is = cc
    by_digest (Some found) is = by_test (bytes_eq text (entity_tag found)) found refl is
