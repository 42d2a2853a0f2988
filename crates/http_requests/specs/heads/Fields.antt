-- The parts of a head: method, target, and the fields that the desk knows (RFC 9110, section 5).
use Rattle.std.specs.Prelude.{ℕ, List, [], ◌∷◌, map, filter, codes}
use Rattle.std.specs.Str.{str_eq_ignore_ascii_case}
use Rattle.httparse.specs.Grammar.{RequestHead}
use Rattle.httparse.specs.Spans.{name_and_value}
use Rattle.http_requests.specs.declared.heads.head.Given.{Given}
use Rattle.http_requests.specs.declared.heads.head.Given.TheVariants.{Missing, Once, Repeated}
use Rattle.http_requests.specs.declared.heads.head.Head.{Head}

-- how often a name is among the fields, and its value if it is there once
pub data Occurrence : Type 0 where
  missing : Occurrence
  once : List ℕ → Occurrence
  repeated : Occurrence

-- the occurrence of a name whose fields have these values
abbrev pub occurrence_of : List (List ℕ) → Occurrence
occurrence_of [] = missing
occurrence_of (value ∷ []) = once value
occurrence_of (value ∷ other ∷ more) = repeated

-- the same, with one more value
abbrev pub with_another : Occurrence → List ℕ → Occurrence
with_another missing value = once value
with_another (once first) value = repeated
with_another repeated value = repeated

-- the values under a name, which is case-insensitive (RFC 9110, section 5.1)
abbrev pub values_named : List ℕ → List (List ℕ × List ℕ) → List (List ℕ)
values_named name fields = map (λ f. f.1) (filter (λ f. str_eq_ignore_ascii_case f.0 name) fields)

-- the occurrence of a name in a head; values are without the white space around them (RFC 9110,
-- section 5.5)
abbrev pub field_of : RequestHead → List ℕ → Occurrence
field_of h name = occurrence_of (values_named name (map name_and_value h.fields))

-- the parts of a head that the desk reads
pub record Parts : Type 0 where
  pub method : List ℕ
  pub target : List ℕ
  pub transfer_encoding : Occurrence
  pub content_length : Occurrence
  pub desk_token : Occurrence
  pub desk_key : Occurrence
  pub desk_title : Occurrence
  pub desk_stamp : Occurrence
  pub if_match : Occurrence

-- the parts of a head
abbrev pub parts_of : RequestHead → Parts
parts_of h = record {
  method = h.method;
  target = h.target;
  transfer_encoding = field_of h (codes "Transfer-Encoding");
  content_length = field_of h (codes "Content-Length");
  desk_token = field_of h (codes "Desk-Token");
  desk_key = field_of h (codes "Desk-Key");
  desk_title = field_of h (codes "Desk-Title");
  desk_stamp = field_of h (codes "Desk-Stamp");
  if_match = field_of h (codes "If-Match");
}

-- the occurrence in a value of the code
abbrev pub occurrence : Given → Occurrence
occurrence Missing = missing
occurrence (Once value) = once value.now
occurrence Repeated = repeated

-- the parts in a value of the code
abbrev pub shown : Head → Parts
shown head = record {
  method = head.method.now;
  target = head.target.now;
  transfer_encoding = occurrence head.transfer_encoding;
  content_length = occurrence head.content_length;
  desk_token = occurrence head.desk_token;
  desk_key = occurrence head.desk_key;
  desk_title = occurrence head.desk_title;
  desk_stamp = occurrence head.desk_stamp;
  if_match = occurrence head.if_match;
}
