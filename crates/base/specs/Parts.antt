-- The element at the front of bytes (X.690, section 8.1) and the bytes after it.
use Rattle.std.specs.Prelude.{ℕ, ◌+◌, ◌-◌, ◌%◌, ◌==◌, ◌||◌, nat_lt, length, take, drop, List, [], ◌∷◌, Option, Some, None, if◌then◌else◌}
use Rattle.base.specs.Elements.{number_of}
use Rattle.base.specs.declared.der.Element.{Element}

-- the length form at the front: how many bytes it has, and the length that it encodes (X.690,
-- 8.1.3)
unfoldable pub form_of : List ℕ → Option (ℕ × ℕ)
form_of [] = None
form_of (b ∷ bs) =
    if nat_lt b 128 then Some (1, b)
    else if nat_lt b 129 || nat_lt 132 b then None
    else if nat_lt (length bs) (b - 128) then None
    else Some (b - 128 + 1, number_of (take (b - 128) bs))

-- an element and the bytes after it
pub record Part : Type 0 where
  pub tag : ℕ
  pub content : List ℕ
  pub whole : List ℕ
  pub rest : List ℕ

-- the element of a tag, with `sizes.0` bytes of length form and `sizes.1` of content after it, if
-- they are there
abbrev pub cut_of : ℕ → List ℕ → ℕ × ℕ → Option Part
cut_of tag after sizes =
    if nat_lt (length after) (sizes.0 + sizes.1) then None
    else Some (record {
      tag = tag;
      content = take sizes.1 (drop sizes.0 after);
      whole = tag ∷ take (sizes.0 + sizes.1) after;
      rest = drop (sizes.0 + sizes.1) after;
    })

-- the same, where the length form may be missing
abbrev pub cut_where : ℕ → List ℕ → Option (ℕ × ℕ) → Option Part
cut_where tag after None = None
cut_where tag after (Some sizes) = cut_of tag after sizes

-- the element at the front, and the bytes after it
unfoldable pub element_of : List ℕ → Option Part
element_of [] = None
element_of (tag ∷ after) = if tag % 32 == 31 then None else cut_where tag after (form_of after)

-- the value of a borrowed element and of the bytes after it
abbrev pub part_of : Element → List ℕ → Part
part_of e rest = record { tag = e.tag; content = e.content.now; whole = e.whole.now; rest = rest }
