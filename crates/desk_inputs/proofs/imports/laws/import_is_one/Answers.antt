use Rattle.std.proofs.Common.{◌≡◌, ◌∙◌, None, Some, Result, Ok, ap, sym}
use Rattle.siglist.proofs.RowLemmas.{row_is_one}
use Rattle.sbat.specs.Levels.{Stamped}
use Rattle.desk_inputs.specs.imports.FromLevel.{level_items}
use Rattle.desk_inputs.specs.imports.FromLists.{row_items}
use Rattle.desk_inputs.specs.imports.Items.{command_of}
use Rattle.desk_inputs.proofs.imports.laws.import_is_one.Goals as goal

ok_same : {X E : Type 0} (x y : X) (r : Result X E) → r ≡ Ok x → r ≡ Ok y → x ≡ y
ok_same x y r h k = cc

pub returns-clause-dbx : goal.returns-clause-dbx
returns-clause-dbx g = λ bytes c d h k.
    h.is.0 ∙ ap (λ row. command_of None (row_items row)) (row_is_one _ _ bytes h.spelt k.spelt) ∙ sym k.is.0

pub returns-clause-csv : goal.returns-clause-csv
returns-clause-csv g = λ text stamp c d h k.
    h.is.0 ∙ ap (command_of stamp) (ok_same _ _ _ h.read k.read) ∙ sym k.is.0

pub returns-clause-level : goal.returns-clause-level
returns-clause-level g = λ text c d h k.
    h.is.0 ∙ ap (λ (l : Stamped). command_of (Some l.stamp) (level_items l)) (ok_same _ _ _ h.read.0 k.read.0) ∙ sym k.is.0
