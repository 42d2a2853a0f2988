use Rattle.std.proofs.Common.{sym, ◌∙◌, ap}
use Rattle.desk_history.specs.Tables.{Tables}
use Rattle.store_decision_rows.specs.remembered.Steps.{last_stamp}
use Rattle.store_decision_rows.proofs.StampLemmas.{all_stamped}
use Rattle.desk_history.specs.Tables.{tables}
use Rattle.store_decision_rows.proofs.remembered.Remembered.after.Goals as goal

pub returns : goal.returns
returns c owner cs call legal same made was =
    let ws = c.args.writes.now in
    let sizes = c.after.ensures owner cs call legal same made was.sizes in (
      record {
        stamp = c.next_stamp.ensures ∙ ap (λ now. last_stamp now ws) was.stamp ∙ sym (all_stamped ws (tables owner cs)) ∙ ap (λ (t : Tables). t.desk.stamp) made;
        sizes = sizes.0;
        person = tt;
      },
      sizes.1,
    )
