-- The text of a digest.
use Rattle.std.proofs.Common.{◌≡◌, ℕ, eqb, cond, Bool, true, false, List, length, Option, Some, None, refl, ap, arith}
use Rattle.std.specs.Result.{result_ok}
use Rattle.std.proofs.lemmas.Bool.Decides.{nat_tests}
use Rattle.hex.specs.Hex.{IsBytes, decode_of, encode_lower, lower_digits}
use Rattle.std.specs.Prelude.{nat_lt}
use Rattle.std.specs.List.{AllPass}
use Rattle.std.specs.Str.{IsAscii}
use Rattle.std.proofs.lemmas.Bool.{ltb-true}
use Rattle.std.proofs.lemmas.List.Sums.{AllPass-from_list_all}
use Rattle.std.proofs.lemmas.Str.Ascii.{IsAscii-from_all}
use Rattle.hex.proofs.HexLemmas.{IsAscii-encode_with, decode_of-encode_lower, length-encode_with}
use Rattle.base.specs.Digests.{digest_of}

some_cond : {X : Type 0} (b : Bool) (o : Option X) (d : X) → cond b o None ≡ Some d → b ≡ true
some_cond true o d h = refl
some_cond false o d h = cc

pub digest_size : (text d : List ℕ) → digest_of text ≡ Some d → length text ≡ 64
digest_size text d h =
    let sized = some_cond (eqb (length text) 64) (result_ok (decode_of text)) d h in
    grind (arith, nat_tests, sized)

pub digest_of-text : (d : List ℕ) → length d ≡ 32 → IsBytes d → digest_of (encode_lower d) ≡ Some d
digest_of-text d size bytes =
    let sized : eqb (length (encode_lower d)) 64 ≡ true = grind (arith, nat_tests, length-encode_with lower_digits d) in
    rw sized (ap result_ok (decode_of-encode_lower d bytes))

-- the text of a digest is ASCII
pub encode_lower-ascii : (d : List ℕ) → IsAscii (encode_lower d)
encode_lower-ascii d = IsAscii-encode_with lower_digits d digits
  where
    each : AllPass (λ b. nat_lt b 128) lower_digits
    each = AllPass-from_list_all (λ b. nat_lt b 128) lower_digits refl

    digits : IsAscii lower_digits
    digits = IsAscii-from_all lower_digits (λ k d below. ltb-true _ _ (each k d below))
