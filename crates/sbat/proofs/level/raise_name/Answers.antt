use Rattle.std.proofs.Common.{◌≡◌, ◌≤◌, Some, ◌∙◌, sym, arith}
use Rattle.std.specs.Prelude.{string_bytes}
use Rattle.std.specs.BTreeMap.{get_by_text}
use Rattle.std.proofs.lemmas.Bool.Decides.{nat_tests}
use Rattle.std.proofs.lemmas.Map.Text.{text_keys}
use Rattle.sbat.specs.Levels.{generations_of}
use Rattle.sbat.proofs.GenerationLemmas.{raised-below}
use Rattle.sbat.proofs.ViewLemmas.{get_generations, raised_from}
use Rattle.sbat.proofs.level.raise_name.Goals as goal
use Rattle.sbat.proofs.level.raise_name.Goals.{in-Some+else-number-value, in_default}

pub returns-then-number-value-clause-ok : goal.returns-then-number-value-clause-ok
returns-then-number-value-clause-ok c =
    let names = c.args.names.now in
    let has : get_by_text names (string_bytes c.args.name) ≡ Some c.in-Some.present.now = rw c.as_str.ensures.value at (sym c.in-Some.ensures.value) in
    let low : c.args.generation ≤ c.in-Some.present.now = grind (arith, nat_tests, c.if-number-value.true, c.value.ensures.value, c.value-number.ensures.value) in
    sym (raised-below (generations_of names.entries) _ c.in-Some.present.now (get_generations names (string_bytes c.args.name) ∙ has) low)

pub returns-clause-ok : goal.returns-clause-ok
returns-clause-ok c = raised_from c.args.names.now c.insert.new.self _ (λ q.
    elim c.match-get.branch [
      | in-Some+else-number-value w ↦ grind (arith, text_keys, w.if-number-value.false, w.in-Some.ensures, w.value.ensures, c.value-number.ensures)
      | in_default w ↦ grind (arith, text_keys, w.in_default.ensures)
    ])
