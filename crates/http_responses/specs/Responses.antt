-- The bytes of a response: status line (RFC 9112, section 4), fields (RFC 9110) and body.
use Rattle.std.specs.Prelude.{ℕ, List, [], ◌++◌, length, decimal, codes, unwrap_or}
use Rattle.http.specs.StatusCode.{reason_phrase, code_digits}
use Rattle.serde_json.specs.Written.{compact_text}
use Rattle.http_requests.specs.Routes.{methods_text}
use Rattle.http_responses.specs.Refusals.{outage_data, refused_data, status_of}
use Rattle.http_responses.specs.declared.content.Content.{Content}
use Rattle.http_responses.specs.declared.content.Content.TheVariants as content
use Rattle.http_responses.specs.declared.outage.Outage.{Outage}
use Rattle.http_responses.specs.declared.refused.Refused.{Refused}
use Rattle.http_responses.specs.declared.status.Status.{Status}
use Rattle.http_responses.specs.declared.status.Status.TheVariants as status

-- the code of a status (RFC 9110, section 15)
abbrev pub code_of : Status → ℕ
code_of status.Ok = 200
code_of status.BadRequest = 400
code_of status.Unauthorized = 401
code_of status.Forbidden = 403
code_of status.NotFound = 404
code_of (status.MethodNotAllowed methods) = 405
code_of status.Conflict = 409
code_of status.LengthRequired = 411
code_of status.PreconditionFailed = 412
code_of status.PayloadTooLarge = 413
code_of status.UnprocessableEntity = 422
code_of status.NotImplemented = 501
code_of status.ServiceUnavailable = 503

-- the phrase of a code (RFC 9110, section 15)
unfoldable pub phrase_text : ℕ → List ℕ
phrase_text code = unwrap_or (reason_phrase code) []

-- the media type of a body (RFC 9110, section 8.3)
abbrev pub content_text : Content → List ℕ
content_text content.Json = codes "application/json"
content_text content.Text = codes "text/plain"
content_text content.Bytes = codes "application/octet-stream"

-- a field's line (RFC 9112, section 5)
unfoldable pub field_line : List ℕ → List ℕ → List ℕ
field_line name value = name ++ codes ": " ++ value ++ codes "\r\n"

-- the status line (RFC 9112, section 4)
unfoldable pub status_line : List ℕ → List ℕ → List ℕ
status_line code phrase = codes "HTTP/1.1 " ++ code ++ codes " " ++ phrase ++ codes "\r\n"

-- the line that only this status has: on 401 the scheme of the tokens (RFC 9110, section 11.6.1),
-- on 405 the path's methods (section 10.2.1)
abbrev pub own_line : Status → List ℕ
own_line status.Unauthorized = field_line (codes "WWW-Authenticate") (codes "Desk")
own_line (status.MethodNotAllowed methods) = field_line (codes "Allow") (methods_text methods)
own_line _ = []

-- the status line, the fields and the empty line; the connection closes (RFC 9112, section 9.6)
unfoldable pub head_text : Status → Content → ℕ → List ℕ
head_text status content size =
    status_line (code_digits (code_of status)) (phrase_text (code_of status))
    ++ field_line (codes "Content-Type") (content_text content)
    ++ field_line (codes "Content-Length") (decimal size)
    ++ own_line status
    ++ field_line (codes "Connection") (codes "close")
    ++ codes "\r\n"

-- a whole response
abbrev pub response_text : Status → Content → List ℕ → List ℕ
response_text status content body = head_text status content (length body) ++ body

-- the response to a request that is refused
abbrev pub refused_text : Refused → List ℕ
refused_text r = response_text (status_of r) content.Json (compact_text (refused_data r))

-- the response to a request that the desk can't answer
abbrev pub unanswered_text : Outage → List ℕ
unanswered_text o = response_text status.ServiceUnavailable content.Json (compact_text (outage_data o))
