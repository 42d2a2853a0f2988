-- Computed by the definitions.
use Rattle.std.specs.Prelude.{refl}
use Rattle.std.specs.Fmt.{digits}
use Rattle.hex.specs.Hex.{encode_with}
use Rattle.desk_history.specs.Worked.Proposals.{AnswersBoth, AnswersImport, AnswersLevel, AnswersOne, RepeatsOne, ShowsBoth, ShowsLevel, ShowsOne}
use Rattle.desk_history.proofs.worked.proposals_are_answered.Goals as goal

one_computed : AnswersOne
unfolding digits encode_with
one_computed = (refl, refl, refl, refl)

pub returns-clause-one : goal.returns-clause-one
returns-clause-one c = one_computed

one_shown_computed : ShowsOne
unfolding digits encode_with
one_shown_computed = (refl, refl, refl, refl, refl)

pub returns-clause-one_shown : goal.returns-clause-one_shown
returns-clause-one_shown c = one_shown_computed

repeats_computed : RepeatsOne
unfolding digits encode_with
repeats_computed = (refl, refl)

pub returns-clause-repeats : goal.returns-clause-repeats
returns-clause-repeats c = repeats_computed

two_computed : AnswersBoth
unfolding digits encode_with
two_computed = refl

pub returns-clause-two : goal.returns-clause-two
returns-clause-two c = two_computed

two_shown_computed : ShowsBoth
unfolding digits encode_with
two_shown_computed = refl

pub returns-clause-two_shown : goal.returns-clause-two_shown
returns-clause-two_shown c = two_shown_computed

level_computed : AnswersLevel
unfolding digits encode_with
level_computed = refl

pub returns-clause-level : goal.returns-clause-level
returns-clause-level c = level_computed

level_shown_computed : ShowsLevel
unfolding digits encode_with
level_shown_computed = (refl, refl, refl)

pub returns-clause-level_shown : goal.returns-clause-level_shown
returns-clause-level_shown c = level_shown_computed

all_of_an_import_computed : AnswersImport
unfolding digits encode_with
all_of_an_import_computed = (refl, refl)

pub returns-clause-all_of_an_import : goal.returns-clause-all_of_an_import
returns-clause-all_of_an_import c = all_of_an_import_computed
