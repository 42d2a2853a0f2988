-- The responses of outages, whose bodies are their JSON.
use Rattle.std.proofs.Common.{◌≡◌, refl}
use Rattle.std.specs.Fmt.{digits}
use Rattle.serde_json.proofs.OnLiterals.{serde_json_on_literals}
use Rattle.http_responses.specs.Outages.{outage_text}
use Rattle.http_responses.specs.Responses.{field_line, head_text, phrase_text, status_line, unanswered_text}
use Rattle.http_responses.specs.declared.outage.Outage.{Outage}
use Rattle.http_responses.specs.declared.outage.Outage.TheVariants.{NoMemory, NotADesk, Reopen, Store}

-- by computing
pub outage_text_is : (outage : Outage) → outage_text outage ≡ unanswered_text outage
unfolding serde_json_on_literals head_text status_line field_line phrase_text digits outage_text
outage_text_is NoMemory = refl
outage_text_is Store = refl
outage_text_is Reopen = refl
outage_text_is NotADesk = refl
