use Rattle.std.proofs.Common.{◌≢◌, ◌++◌, ℕ, List}
use Rattle.hex.specs.Hex.{encode_lower}
use Rattle.desk_types.specs.Commands.{IsDigest}
use Rattle.desk_types.proofs.CommandReadingLemmas.{digest_stripped}
use Rattle.desk_types.proofs.SpaceLemmas.{none_fact, stripped, stripped_none}
use Rattle.desk_types.proofs.command_reading.digest_behind.Goals as goal

pub returns-in_err-strip_prefix-clause-only : goal.returns-in_err-strip_prefix-clause-only
returns-in_err-strip_prefix-clause-only c =
    let none : (digest : List ℕ) → IsDigest digest → c.args.text.now ≢ c.args.beginning.now ++ encode_lower digest =
    λ digest form same. stripped_none c.args.text.now c.args.beginning.now c.in_err-strip_prefix.ensures.cases (encode_lower digest) same in
    none_fact _ none

pub returns-clause-found : goal.returns-clause-found
returns-clause-found c =
    digest_stripped c.args.text.now c.args.beginning.now c.in_ok-strip_prefix.field-0.now c.digest_of.result
    (stripped c.args.text.now c.args.beginning.now c.in_ok-strip_prefix.field-0 c.in_ok-strip_prefix.ensures.cases) c.digest_of.ensures.found
