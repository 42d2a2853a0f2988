use Rattle.std.proofs.Common.{◌≢◌, ◌∷◌, ◌++◌, ℕ, List, sym, ◌∙◌}
use Rattle.hex.specs.Hex.{encode_lower}
use Rattle.desk_types.specs.Commands.{IsDigest}
use Rattle.desk_types.proofs.SpaceLemmas.{none_fact, parted_once}
use Rattle.desk_types.proofs.ValueLemmas.{hex_free}
use Rattle.desk_types.proofs.items_reading.digest_before.Goals as goal

pub returns-in_err-digest-clause-only : goal.returns-in_err-digest-clause-only
returns-in_err-digest-clause-only c =
    let parts = c.in_ok-first.ensures.found in
    let none : (digest rest : List ℕ) → IsDigest digest → c.args.text.now ≢ encode_lower digest ++ (32 ∷ rest) =
    λ digest rest form same.
    c.in_err-digest.ensures.only digest form
    (parted_once c.in_ok-first.first.now c.in_ok-first.rest.now (encode_lower digest) rest parts.1 (hex_free digest form.bytes) (sym parts.0 ∙ same)).0 in
    none_fact _ none
