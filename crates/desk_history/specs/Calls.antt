-- Calls, and lists of texts.
use Rattle.std.specs.Prelude.{◌≡◌, ℕ, Bool, true, false, not, ◌&&◌, if◌then◌else◌, List, [], ◌∷◌, ◌++◌, bytes_eq}
use Rattle.std.specs.List.{list_any}
use Rattle.desk_types.specs.Callers.{caller_name}
use Rattle.desk_types.specs.declared.command.Call.{Call}
use Rattle.desk_types.specs.declared.kind.ListedKind.{ListedKind}
use Rattle.desk_types.specs.declared.kind.ListedKind.TheVariants as kinds

-- The rules by which a call was accepted: by the first, one officer alone revokes and raises; by
-- the second, another one confirms.
pub data Rules : Type 0 where
  First : Rules
  Second : Rules

-- An accepted call, with the rules by which it was accepted.
pub record Item : Type 0 where
  pub call : Call
  pub rules : Rules

-- a call as accepted by these rules
abbrev pub under : Rules → Call → Item
under rules c = record { call = c; rules = rules }

-- a call as accepted now, by the second rules
abbrev pub item : Call → Item
item c = under Second c

-- the call was accepted by the first rules
abbrev pub is_first : Item → Bool
is_first i = elim i.rules [ First ↦ true | Second ↦ false ]

-- The calls that were accepted, the newest first.
abbrev pub History : Type 0
History = List Item

-- the later history extends the earlier one
abbrev pub GoesOnFrom : History → History → Type 0
GoesOnFrom earlier later = (new : List Item) × (later ≡ new ++ earlier)

-- own: keys are each caller's own, so a call repeats another only if both the caller and the key
-- are the same
abbrev pub has_same_key : Call → Call → Bool
has_same_key a b = bytes_eq (caller_name a.caller) (caller_name b.caller) && bytes_eq a.key b.key

-- both are digests of images, or both are digests of certificates
abbrev pub is_same_kind : ListedKind → ListedKind → Bool
is_same_kind kinds.Digest kinds.Digest = true
is_same_kind kinds.Certificate kinds.Certificate = true
is_same_kind _ _ = false

-- the calls of both items repeat one another
abbrev pub is_same_item : Item → Item → Bool
is_same_item a b = has_same_key a.call b.call

-- the text is one of these texts
abbrev pub is_among : List (List ℕ) → List ℕ → Bool
is_among texts text = list_any (bytes_eq text) texts

-- each text once
abbrev pub distinct : List (List ℕ) → List (List ℕ)
distinct [] = []
distinct (t ∷ ts) = if is_among ts t then distinct ts else t ∷ distinct ts

-- no two items are the same by the test
abbrev pub are_apart : {X : Type 0} → (X → X → Bool) → List X → Bool
are_apart same [] = true
are_apart same (x ∷ xs) = not (list_any (same x) xs) && are_apart same xs
