-- Refusals that stop a subcommand at an open desk: none of them is an opening's.
use Rattle.std.proofs.Common.{arith}
use Rattle.base.specs.declared.refusal.Refusal.{Refusal}
use Rattle.http_net.specs.Faults.{IsAnsweringRefusal, IsServingRefusal}
use Rattle.cli_opening.specs.Faults.{IsOfOpening}

pub served_apart : (refusal : Refusal) → IsServingRefusal refusal → IsOfOpening refusal → ⊥
served_apart refusal served opening = grind arith

pub answering_apart : (refusal : Refusal) → IsAnsweringRefusal refusal → IsOfOpening refusal → ⊥
answering_apart refusal answering opening = grind arith
