-- Commands read back, a part at a time.
use Rattle.std.proofs.Common.{◌≡◌, ℕ, ◌<◌, ◌≤◌, Bool, true, false, List, ◌∷◌, ◌++◌, Option, Some, None, IfSome, length, decimal, refl, sym, ap, ◌∙◌, arith}
use Rattle.hex.specs.Hex.{encode_lower, lower_digits}
use Rattle.hex.proofs.HexLemmas.{length-encode_with}
use Rattle.sbat.specs.declared.component.Component.{Component}
use Rattle.pe_image.specs.Extents.{Lengths}
use Rattle.desk_types.specs.Commands.{IsDigest}
use Rattle.desk_types.specs.Formed.{IsImportWithin}
use Rattle.desk_types.specs.Forms.{most_imported}
use Rattle.desk_types.specs.Imports.{Imported, named_count}
use Rattle.desk_types.specs.Reading.{measures_then}
use Rattle.desk_types.proofs.PartLemmas.{regrouped}

-- the text of facts and a title, a part at a time
pub facts_then : (e : Lengths) (f g h carried components facts title : List ℕ) → facts ≡ measures_then e f g h (carried ++ (32 ∷ components))
    → facts ++ (32 ∷ title) ≡ measures_then e f g h (carried ++ (32 ∷ (components ++ (32 ∷ title))))
facts_then e f g h carried components facts title is =
    ap (λ t. t ++ (32 ∷ title)) is
    ∙ regrouped (decimal e.length) (decimal e.gap) (encode_lower f) (encode_lower g) (encode_lower h) carried components (32 ∷ title)

-- texts of bytes that are one are of as many
pub hex_length : (text a b : List ℕ) → text ≡ encode_lower a → text ≡ encode_lower b → length a ≡ length b
hex_length text a b is same = omega (arith, length-encode_with lower_digits a, length-encode_with lower_digits b, ap length (sym is ∙ same))

-- each list of an import is within the import's limit
pub digests_few : (i : Imported) → IsImportWithin i → length i.digests ≤ most_imported
digests_few i h = let all = h.entries in omega arith

pub certificates_few : (i : Imported) → IsImportWithin i → length i.certificates ≤ most_imported
certificates_few i h = let all = h.entries in omega arith

pub components_few : (i : Imported) → IsImportWithin i → length i.components ≤ most_imported
components_few i h = let all = h.entries in omega arith

pub import_refused : (passed : ℕ) (digests certificates : List (List ℕ)) (components : List Component) (i : Imported)
    → most_imported < named_count passed digests certificates components → passed ≡ i.passed → digests ≡ i.digests → certificates ≡ i.certificates → components ≡ i.components
    → IsImportWithin i → ⊥
import_refused passed digests certificates components i over p d c q h =
    let all = h.entries in
    omega (arith, ap length d, ap length c, ap length q)

-- a digest after a beginning
pub digest_stripped : (text beginning rest : List ℕ) (o : Option (List ℕ)) → text ≡ beginning ++ rest → IfSome o (λ d. IsDigest d × (rest ≡ encode_lower d))
    → IfSome o (λ d. text ≡ beginning ++ encode_lower d)
digest_stripped text beginning rest None is h = tt
digest_stripped text beginning rest (Some d) is h = is ∙ ap (λ r. beginning ++ r) h.1

-- what holds where a test answers true, and it can't answer false
pub tested : {P : Type 0} (b : Bool) → (b ≡ true → P) → (b ≡ false → ⊥) → P
tested true h k = h refl
tested false h k = absurd (k refl)
