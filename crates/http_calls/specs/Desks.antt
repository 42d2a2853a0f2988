-- The refusals of a desk that have an answer, and the list of requests of an answer.
use Rattle.std.specs.Prelude.{◌≡◌, ◌⊎◌, List, IsSome}
use Rattle.base.specs.declared.refusal.Refusal.{Refusal}
use Rattle.desk_types.specs.declared.shown.ShownRequest.{ShownRequest}
use Rattle.desk_exports.specs.Desks.{IsOutage}
use Rattle.http_responses.specs.Refusals.{refused_of}

-- a desk's refusal has an answer: a request is refused for it, or the desk can't answer
abbrev pub IsTold : Refusal → Type 0
IsTold refusal = IsSome (refused_of refusal) ⊎ IsOutage refusal

-- a list of requests is these
abbrev pub is_text_of : List ShownRequest → List ShownRequest → Type 0
is_text_of list shown = list ≡ shown
