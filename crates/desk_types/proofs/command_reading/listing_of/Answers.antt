use Rattle.std.proofs.Common.{◌≢◌}
use Rattle.hex.specs.Hex.{encode_lower}
use Rattle.desk_types.specs.Commands.{IsDigest}
use Rattle.desk_types.specs.Reading.{behind_word}
use Rattle.desk_types.specs.Words.{kind_text}
use Rattle.desk_types.specs.declared.command.Command.TheVariants.{Unlist}
use Rattle.desk_types.specs.declared.command.Listing.{Listing}
use Rattle.desk_types.proofs.FactsReadingLemmas.{parted_same}
use Rattle.desk_types.proofs.SpaceLemmas.{none_fact}
use Rattle.desk_types.proofs.WordLemmas.{kind_free}
use Rattle.desk_types.proofs.command_reading.listing_of.Goals as goal

pub returns-in_err-kind-2-clause-only : goal.returns-in_err-kind-2-clause-only
returns-in_err-kind-2-clause-only c =
    let none : (l : Listing) → IsDigest l.digest → c.args.text.now ≢ behind_word (Unlist l) =
    λ l form same.
    c.in_err-kind-2.ensures.only l.kind
    (parted_same c.args.text.now c.in_ok-kind.kind.now c.in_ok-kind.digest.now (kind_text l.kind) (encode_lower l.digest) c.in_ok-kind.ensures.found (kind_free l.kind) same).0 in
    none_fact _ none

pub returns-in_err-digest-clause-only : goal.returns-in_err-digest-clause-only
returns-in_err-digest-clause-only c =
    let none : (l : Listing) → IsDigest l.digest → c.args.text.now ≢ behind_word (Unlist l) =
    λ l form same.
    c.in_err-digest.ensures.only l.digest form
    (parted_same c.args.text.now c.in_ok-kind.kind.now c.in_ok-kind.digest.now (kind_text l.kind) (encode_lower l.digest) c.in_ok-kind.ensures.found (kind_free l.kind) same).1 in
    none_fact _ none
