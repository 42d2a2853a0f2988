-- Preconditions of commands (RFC 9110, section 13.1.1): the entity tag that If-Match gives.
use Rattle.std.specs.Prelude.{ℕ, List, Bool, true, false, ◌++◌, codes, take, drop, bytes_eq, if◌then◌else◌, Option, Some, None, Result, Ok, Err}
use Rattle.hex.specs.Hex.{encode_lower}
use Rattle.base.specs.Digests.{digest_of}
use Rattle.http_requests.specs.heads.Fields.{Occurrence, missing, once, repeated}
use Rattle.http_requests.specs.CheckedHead.{Want}
use Rattle.http_requests.specs.declared.fault.AskedFault.{AskedFault}
use Rattle.http_requests.specs.declared.fault.AskedFault.TheVariants.{BadField}
use Rattle.http_requests.specs.declared.route.CommandRoute.TheVariants as command
use Rattle.http_requests.specs.declared.route.ImageRoute.TheVariants as image
use Rattle.http_requests.specs.declared.route.PostRoute.{PostRoute}
use Rattle.http_requests.specs.declared.route.PostRoute.TheVariants.{Image, Command}

-- own: whether If-Match counts at a route: at the commands that name a request or a proposal
abbrev pub is_conditional : PostRoute → Bool
is_conditional (Image image.Submit) = false
is_conditional (Image image.Return) = true
is_conditional (Image image.Verdict) = false
is_conditional (Image image.Facts) = false
is_conditional (Command command.Review) = true
is_conditional (Command command.Withdraw) = true
is_conditional (Command command.ListCertificate) = false
is_conditional (Command command.ListDigest) = false
is_conditional (Command command.Unlist) = false
is_conditional (Command command.RevokeDigest) = false
is_conditional (Command command.RevokeCertificate) = false
is_conditional (Command command.RaiseLevel) = false
is_conditional (Command command.ImportDbx) = false
is_conditional (Command command.ImportCsv) = false
is_conditional (Command command.ImportLevel) = false
is_conditional (Command command.Confirm) = true
is_conditional (Command command.Drop) = true
is_conditional (Command command.Explain) = true

-- the strong entity tag of a digest: its 64 lower-case hexadecimal digits in double quotes (RFC
-- 9110, section 8.8.3)
unfoldable pub entity_tag : List ℕ → List ℕ
entity_tag digest = codes "\"" ++ encode_lower digest ++ codes "\""

-- this digest, if the text is its entity tag
abbrev pub tagged : List ℕ → Option (List ℕ) → Option (List ℕ)
tagged text None = None
tagged text (Some digest) = if bytes_eq text (entity_tag digest) then Some digest else None

-- the digest whose entity tag a text is; only the 64 bytes after the first can be its digits
unfoldable pub digest_in_tag : List ℕ → Option (List ℕ)
digest_in_tag text = tagged text (digest_of (take 64 (drop 1 text)))

-- the digest that must be matched, if there is one
abbrev pub matching : Option (List ℕ) → Result (Option (List ℕ)) AskedFault
matching None = Err BadField
matching (Some digest) = Ok (Some digest)

-- own: the digest that the field gives, which may be missing; one tag, and no list of tags
abbrev pub tag_given : Occurrence → Result (Option (List ℕ)) AskedFault
tag_given missing = Ok None
tag_given (once text) = matching (digest_in_tag text)
tag_given repeated = Err BadField

-- the digest that a request's If-Match gives; at other routes the field has no effect
abbrev pub tag_at : PostRoute → Want → Result (Option (List ℕ)) AskedFault
tag_at route w = if is_conditional route then tag_given w.if_match else Ok None
