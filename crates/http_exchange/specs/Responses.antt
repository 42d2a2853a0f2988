-- own: the response to each answer, to the byte.
use Rattle.std.specs.Prelude.{ℕ, List, [], Option, Some, None, Vec}
use Rattle.std.specs.declared.alloc.Global.{Global}
use Rattle.serde_json.specs.Data.{Data}
use Rattle.serde_json.specs.Written.{compact_text}
use Rattle.desk_exports.specs.declared.published.Published.{Published}
use Rattle.desk_exports.specs.declared.published.Published.TheVariants as published
use Rattle.desk_exports.specs.declared.shown.Shown.{Shown}
use Rattle.desk_exports.specs.declared.shown.Shown.TheVariants as shown
use Rattle.desk_types.specs.declared.shown.ShownRequest.{ShownRequest}
use Rattle.http_responses.specs.json.Changes.{changes_data}
use Rattle.http_responses.specs.json.Facts.{facts_data}
use Rattle.http_responses.specs.json.Impacts.{impact_data}
use Rattle.http_responses.specs.json.People.{people_data, person_data}
use Rattle.http_responses.specs.json.Proposals.{proposals_data}
use Rattle.http_responses.specs.json.Replies.{reply_data}
use Rattle.http_responses.specs.json.Requests.{request_data, requests_data}
use Rattle.http_responses.specs.json.Verdicts.{verdict_data}
use Rattle.http_responses.specs.json.Waiting.{waiting_data}
use Rattle.http_responses.specs.json.WholeProposals.{whole_proposal_data}
use Rattle.http_responses.specs.Refusals as refusals
use Rattle.http_responses.specs.Responses.{response_text}
use Rattle.http_responses.specs.declared.content.Content.{Content}
use Rattle.http_responses.specs.declared.content.Content.TheVariants as content
use Rattle.http_responses.specs.declared.status.Status.{Status}
use Rattle.http_responses.specs.declared.status.Status.TheVariants as status
use Rattle.http_calls.specs.declared.answers.TaskAnswer.{TaskAnswer}
use Rattle.http_calls.specs.declared.answers.TaskAnswer.TheVariants as answer
use Rattle.http_exchange.specs.declared.served.Answered.{Answered}
use Rattle.http_exchange.specs.declared.served.Said.{Said}
use Rattle.http_exchange.specs.declared.served.Said.TheVariants as said

-- its status: 200 unless it is a refusal (RFC 9110, section 15.3.1) or an outage (section 15.6.4)
abbrev pub status_of : TaskAnswer → Status
status_of (answer.Reply reply) = status.Ok
status_of (answer.Shown given) = status.Ok
status_of (answer.Verdict verdict facts) = status.Ok
status_of (answer.Facts facts) = status.Ok
status_of (answer.Refused refused) = refusals.status_of refused
status_of (answer.Unavailable outage) = status.ServiceUnavailable

-- an export has this content
abbrev pub content_published : Published → Content
content_published published.Dbx = content.Bytes
content_published published.Db = content.Bytes
content_published published.Level = content.Text

-- what is shown has this content
abbrev pub content_shown : Shown (List ShownRequest) → Content
content_shown (shown.Requests requests) = content.Json
content_shown (shown.Request request) = content.Json
content_shown (shown.Proposals proposals) = content.Json
content_shown (shown.Proposal row) = content.Json
content_shown (shown.Impact number impact) = content.Json
content_shown (shown.Waiting requests proposals) = content.Json
content_shown (shown.Changes changes) = content.Json
content_shown (shown.Export what bytes) = content_published what
content_shown (shown.Report text) = content.Text
content_shown (shown.Minutes text) = content.Text
content_shown (shown.People people) = content.Json
content_shown (shown.Me person) = content.Json

-- the content of its body
abbrev pub content_of : TaskAnswer → Content
content_of (answer.Reply reply) = content.Json
content_of (answer.Shown given) = content_shown given
content_of (answer.Verdict verdict facts) = content.Json
content_of (answer.Facts facts) = content.Json
content_of (answer.Refused refused) = content.Json
content_of (answer.Unavailable outage) = content.Json

-- the text of a JSON value, if there is one
abbrev pub text_or_none : Option Data → List ℕ
text_or_none None = []
text_or_none (Some value) = compact_text value

-- the bytes of the code's text, if there is one
abbrev pub items_or_none : Option (Vec ℕ Global) → List ℕ
items_or_none None = []
items_or_none (Some text) = text.items

-- what is shown is this body
abbrev pub body_shown : Shown (List ShownRequest) → List ℕ
body_shown (shown.Requests requests) = compact_text (requests_data requests)
body_shown (shown.Request request) = compact_text (request_data request)
body_shown (shown.Proposals proposals) = compact_text (proposals_data proposals)
body_shown (shown.Proposal row) = compact_text (whole_proposal_data row)
body_shown (shown.Impact number impact) = compact_text (impact_data number impact)
body_shown (shown.Waiting requests proposals) = compact_text (waiting_data requests proposals)
body_shown (shown.Changes changes) = compact_text (changes_data changes)
body_shown (shown.Export what bytes) = bytes
body_shown (shown.Report text) = text
body_shown (shown.Minutes text) = text
body_shown (shown.People people) = compact_text (people_data people)
body_shown (shown.Me person) = compact_text (person_data person)

-- its body. A reply to the console and a verdict on another image have no JSON; no call of a
-- person's is answered with either, and the body would be empty
abbrev pub body_of : TaskAnswer → List ℕ
body_of (answer.Reply reply) = text_or_none (reply_data reply)
body_of (answer.Shown given) = body_shown given
body_of (answer.Verdict verdict facts) = text_or_none (verdict_data facts.components verdict)
body_of (answer.Facts facts) = compact_text (facts_data facts)
body_of (answer.Refused refused) = compact_text (refusals.refused_data refused)
body_of (answer.Unavailable outage) = compact_text (refusals.outage_data outage)

-- the whole response
abbrev pub response_of : TaskAnswer → List ℕ
response_of a = response_text (status_of a) (content_of a) (body_of a)

-- what became of the request
abbrev pub said_of : TaskAnswer → Said
said_of (answer.Reply reply) = said.Given
said_of (answer.Shown given) = said.Given
said_of (answer.Verdict verdict facts) = said.Given
said_of (answer.Facts facts) = said.Given
said_of (answer.Refused refused) = said.Refused refused
said_of (answer.Unavailable outage) = said.Unavailable outage

-- the outcome in its response: the status, and what became of the request
abbrev pub answered_of : TaskAnswer → Answered
answered_of a = record { status = status_of a; said = said_of a }
