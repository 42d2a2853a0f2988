use Rattle.sbat.specs.Fields.{is_stamp}
use Rattle.desk_types.proofs.ItemReadingLemmas.{made_only}
use Rattle.desk_types.proofs.ValueLemmas.{stamp_size}
use Rattle.desk_types.proofs.items_reading.stamp_of.Goals as goal

pub returns-clause-only : goal.returns-clause-only
returns-clause-only c =
    made_only is_stamp (λ n form. (stamp_size n form).1) c.args.text.now c.in_ok-number.number c.new.result c.show_count.ensures c.in_ok-number.ensures.found c.new.ensures
