use Rattle.std.proofs.Common.{◌≡◌, decimal, sym, ap, ◌∙◌}
use Rattle.sbat.specs.Fields.{decimal_of, is_generation}
use Rattle.desk_types.proofs.ItemReadingLemmas.{generation_below, made_only}
use Rattle.desk_types.proofs.ValueLemmas.{decimal_read, generation_small}
use Rattle.desk_types.proofs.items_reading.generation_of.Goals as goal

pub returns-in-Ok-clause-only : goal.returns-in-Ok-clause-only
returns-in-Ok-clause-only c =
    let e = c.in-Ok.ensures.1 in
    made_only is_generation generation_small c.args.text.now c.in-Ok.number c.new.result (rw e c.show_count.ensures)
    (c.in_ok-number.ensures.found ∙ ap decimal (sym e)) c.new.ensures

pub returns-in-Err-clause-only : goal.returns-in-Err-clause-only
returns-in-Err-clause-only c = λ number form same.
    let one : c.in_ok-number.number ≡ number =
    sym (decimal_read c.in_ok-number.number c.show_count.ensures) ∙ ap decimal_of (sym c.in_ok-number.ensures.found ∙ same)
    ∙ decimal_read number (generation_small number form) in
    c.in-Err.ensures (rw one (generation_below number form))
