use Rattle.std.proofs.Common.{inl, refl}
use Rattle.desk_inputs.proofs.TokenLemmas.{HasNoToken-long, HasNoToken-none}
use Rattle.cli_arguments.proofs.values.token.token_from.Goals as goal

pub returns-in-Ok-None-clause-err : goal.returns-in-Ok-None-clause-err
returns-in-Ok-None-clause-err g c =
    let none = rw c.in-Ok-None.field-0-is at c.in-Ok-None.ensures.exact in
    inl (refl, HasNoToken-none _ none)

pub returns-in-Err-TooLong-clause-err : goal.returns-in-Err-TooLong-clause-err
returns-in-Err-TooLong-clause-err g c =
    let long = rw c.in-Err-TooLong.field-0-is at c.in-Err-TooLong.ensures.long in
    inl (refl, HasNoToken-long _ (long refl))
