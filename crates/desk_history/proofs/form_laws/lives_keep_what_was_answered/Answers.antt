use Rattle.desk_history.proofs.LifeLemmas.{answers_are_kept, answers_have_histories}
use Rattle.desk_history.proofs.SeriesLemmas.{answered_calls_stand, ends_are_histories}
use Rattle.desk_history.proofs.VerdictLemmas.{barred_not_allowed, what_is_barred_stays_barred}
use Rattle.desk_history.proofs.form_laws.lives_keep_what_was_answered.Goals as goal

pub returns : goal.returns
returns c lives cs ends formed = (
  ends_are_histories lives cs ends formed,
  record {
    each = λ i reply earlier later is. answers_have_histories lives cs ends i reply earlier later is;
    stands = λ i reply at was. answered_calls_stand lives cs ends formed i reply at was;
    goes_on = λ i reply at was. (answers_are_kept lives cs ends i reply at was).1;
    barred = λ i reply at was x is. what_is_barred_stays_barred at cs x (answers_are_kept lives cs ends i reply at was).1 is;
    refused = λ i reply at was x is. barred_not_allowed cs x (what_is_barred_stays_barred at cs x (answers_are_kept lives cs ends i reply at was).1 is);
  },
)
