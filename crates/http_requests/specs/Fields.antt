-- own: the fields that the desk knows: each is given at most once, Content-Length in its form, and
-- Transfer-Encoding never.
use Rattle.std.specs.Prelude.{◌≡◌, ℕ, List, Option, Some, None, option_map, Result, Ok, Err}
use Rattle.std.specs.Borrow.{Bor}
use Rattle.http_requests.specs.heads.Fields.{Occurrence, missing, once, repeated, Parts}
use Rattle.http_requests.specs.Lengths.{length_in}
use Rattle.http_requests.specs.declared.fields.Fields.{Fields}
use Rattle.http_requests.specs.declared.fault.WantedFault.{WantedFault}
use Rattle.http_requests.specs.declared.fault.WantedFault.TheVariants.{NotSupported, BadField}

-- the values of the fields
pub record Values : Type 0 where
  pub length : Option ℕ
  pub token : Option (List ℕ)
  pub key : Option (List ℕ)
  pub title : Option (List ℕ)
  pub stamp : Option (List ℕ)

-- the value of a field, which may be missing; none if it is repeated
abbrev pub value_of : Occurrence → Option (Option (List ℕ))
value_of missing = Some None
value_of (once value) = Some (Some value)
value_of repeated = None

-- all of them, if none is wrong
abbrev pub all_of : Option (Option ℕ) → (token key title stamp : Option (Option (List ℕ)))
    → Result Values WantedFault
all_of (Some length) (Some token) (Some key) (Some title) (Some stamp) =
    Ok (record { length = length; token = token; key = key; title = title; stamp = stamp })
all_of _ _ _ _ _ = Err BadField

-- these values, unless there is a Transfer-Encoding
abbrev pub unless_encoded : Occurrence → Result Values WantedFault → Result Values WantedFault
unless_encoded missing values = values
unless_encoded (once value) values = Err NotSupported
unless_encoded repeated values = Err NotSupported

-- the values of a head's fields, or the first fault
abbrev pub fields_of : Parts → Result Values WantedFault
fields_of p = unless_encoded p.transfer_encoding
    (all_of (length_in p.content_length) (value_of p.desk_token) (value_of p.desk_key)
    (value_of p.desk_title) (value_of p.desk_stamp))

-- the bytes of a borrowed value of the code
abbrev pub bytes_of : Option (Bor (List ℕ)) → Option (List ℕ)
bytes_of value = option_map (λ v. v.now) value

-- the code's values are these
abbrev pub values_shown : Fields → Values
values_shown f = record {
  length = f.length;
  token = bytes_of f.token;
  key = bytes_of f.key;
  title = bytes_of f.title;
  stamp = bytes_of f.stamp;
}

-- the code returns this value, or refuses if there is none
abbrev pub GivesValue : Option (Option (List ℕ)) → Result (Option (Bor (List ℕ))) WantedFault → Type 0
GivesValue value (Ok given) = value ≡ Some (bytes_of given)
GivesValue value (Err fault) = (value ≡ None) × (fault ≡ BadField)

-- the same for a length
abbrev pub GivesLength : Option (Option ℕ) → Result (Option ℕ) WantedFault → Type 0
GivesLength length (Ok given) = length ≡ Some given
GivesLength length (Err fault) = (length ≡ None) × (fault ≡ BadField)

-- the same for all fields
abbrev pub GivesFields : Result Values WantedFault → Result Fields WantedFault → Type 0
GivesFields values (Ok given) = values ≡ Ok (values_shown given)
GivesFields values (Err fault) = values ≡ Err fault
