-- Computed by the definitions.
use Rattle.std.specs.Prelude.{refl}
use Rattle.std.specs.Fmt.{digits}
use Rattle.hex.specs.Hex.{encode_with}
use Rattle.desk_history.specs.Worked.Impact.{AnswersBefore, ComesTrue, KeepsImages, ShowsImpact}
use Rattle.desk_history.specs.Worked.Rivals.{RefusesImpact, ShowsProposal}
use Rattle.desk_history.proofs.worked.impacts_are_shown.Goals as goal

answers_computed : AnswersBefore
unfolding digits encode_with
answers_computed = (refl, refl)

pub returns-clause-answers : goal.returns-clause-answers
returns-clause-answers c = answers_computed

images_computed : KeepsImages
unfolding digits encode_with
images_computed = refl

pub returns-clause-images : goal.returns-clause-images
returns-clause-images c = images_computed

shown_computed : ShowsImpact
unfolding digits encode_with
shown_computed = refl

pub returns-clause-shown : goal.returns-clause-shown
returns-clause-shown c = shown_computed

comes_true_computed : ComesTrue
unfolding digits encode_with
comes_true_computed = (refl, refl, refl, refl, refl, refl, refl, refl, refl, refl, refl, refl)

pub returns-clause-comes_true : goal.returns-clause-comes_true
returns-clause-comes_true c = comes_true_computed

refused_computed : RefusesImpact
unfolding digits encode_with
refused_computed = (refl, refl, refl, refl, refl, refl, refl, refl)

pub returns-clause-refused : goal.returns-clause-refused
returns-clause-refused c = refused_computed

proposal_computed : ShowsProposal
unfolding digits encode_with
proposal_computed = (refl, refl, refl, refl, refl, refl)

pub returns-clause-proposal : goal.returns-clause-proposal
returns-clause-proposal c = proposal_computed
