-- The value of a body, by whether it is text.
use Rattle.std.proofs.Common.{◌≡◌, ℕ, List, Bool, true, false, Option, None, refl}
use Rattle.std.specs.Prelude.{IsUtf8, if◌then◌else◌}
use Rattle.std.specs.Str.{is_utf8}
use Rattle.std.proofs.lemmas.Str.{IsUtf8-from_is_utf8, is_utf8-from_IsUtf8}
use Rattle.serde_json.specs.Read.{read}
use Rattle.serde_json.specs.Data.{Data}
use Rattle.http_requests.specs.bodies.Bodies.{data_of}

-- a text's value is what is read
pub data_of-text : (bs : List ℕ) → IsUtf8 bs → data_of bs ≡ read bs
data_of-text bs h = rw (is_utf8-from_IsUtf8 bs h) refl

-- nothing is read where the test fails
no_text : (d : Option Data) (b : Bool) → (b ≡ true → ⊥) → (if b then d else None) ≡ None
no_text d b h = elim b as (λ v. (v ≡ true → ⊥) → (if v then d else None) ≡ None) [
  | true ↦ λ no. absurd (no refl)
  | false ↦ λ no. refl
] h

-- bytes that are no text have none
pub data_of-no_text : (bs : List ℕ) → ¬ (IsUtf8 bs) → data_of bs ≡ None
data_of-no_text bs h = no_text (read bs) (is_utf8 bs) (λ e. h (IsUtf8-from_is_utf8 bs e))
