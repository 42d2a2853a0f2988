-- An SBAT level (shim's SBAT.md): a stamp, and the least generation allowed of each name.
use denote.Ref.{Bor}
use Rattle.std.specs.Prelude.{◌≡◌, ℕ, ◌&&◌, max, map, List, [], ◌∷◌, Bool, false, true, nat_eq, Option, Some, None, Result, Ok, Err, if◌then◌else◌, String, string_bytes, refl}
use Rattle.std.specs.Ordering.{nat_cmp}
use Rattle.std.specs.Cmp.Lexicographic.{slice_cmp}
use Rattle.std.specs.Coded.{Coded, code_by, coded×, coded_ℕ, coded_list}
use Rattle.std.specs.FinMap.{FinMap, code, empty, from_entries, get, insert}
use Rattle.std.specs.Str.{bytes_eq}
use Rattle.base.specs.Lines.{Numbered, named_in}
use Rattle.sbat.specs.Fields.{fields_of, generation_of, is_generation, is_name, is_stamp, sbat, stamp_of}
use Rattle.sbat.specs.Rows.{Row, row_in}
use Rattle.sbat.specs.Texts.{rows_of}

-- generations by names, whose order is that of their bytes
abbrev pub Generations : Type 0
Generations = FinMap (slice_cmp nat_cmp) ℕ

-- a level: its stamp, and the generation of each name
pub record Stamped : Type 0 where
  pub stamp : ℕ
  pub generations : Generations

-- a level is stored as the pair of its parts
abbrev pub stamped_code : Coded Stamped
stamped_code =
    code_by (ℕ × Generations) (coded× coded_ℕ (code (coded_list coded_ℕ) coded_ℕ))
    (λ l. (l.stamp, l.generations)) (λ p. record { stamp = p.0; generations = p.1 }) (λ _. refl)

-- the greater of a generation that may be missing and another
abbrev pub greater : Option ℕ → ℕ → ℕ
greater None n = n
greater (Some m) n = max m n

-- the generations after a row, which raises its name's to its own unless that is higher already
abbrev pub raised : Generations → Row → Generations
raised m r = insert m r.name (greater (get m r.name) r.generation)

-- own: the greatest generation that rows give each name
abbrev pub generations_in : List Row → Generations
generations_in [] = empty
generations_in (r ∷ rows) = raised (generations_in rows) r

-- a row whose name isn't `sbat`
abbrev pub unless_sbat : Option Row → Option Row
unless_sbat None = None
unless_sbat (Some r) = if bytes_eq r.name sbat then None else Some r

-- own: a line of a level after the first: a name other than `sbat`, a generation, and perhaps more
-- fields
abbrev pub level_row : List ℕ → Option Row
level_row line = unless_sbat (row_in (fields_of line))

-- the generation is there, and is 1
abbrev pub is_one : Option ℕ → Bool
is_one None = false
is_one (Some n) = nat_eq n 1

-- the stamp that the fields of a level's first line give
abbrev pub stamp_in : List (List ℕ) → Option ℕ
stamp_in (name ∷ generation ∷ stamp ∷ more) =
    if bytes_eq name sbat && is_one (generation_of generation) then stamp_of stamp else None
stamp_in _ = None

-- own: the first line of a level: `sbat`, a generation of value 1, a stamp, and perhaps more fields
abbrev pub stamp_on : List ℕ → Option ℕ
stamp_on line = stamp_in (fields_of line)

-- a level of a stamp and rows, where the rows are right
abbrev pub with_rows : ℕ → Result (List Row) ℕ → Result Stamped ℕ
with_rows stamp (Ok rows) = Ok (record { stamp = stamp; generations = generations_in rows })
with_rows stamp (Err line) = Err line

-- the same, where the line with this number may have no stamp
abbrev pub begun : ℕ → Option ℕ → Result (List Row) ℕ → Result Stamped ℕ
begun line None rows = Err line
begun line (Some stamp) rows = with_rows stamp rows

-- the level of some lines, or the number of the first wrong one. own: without lines that number is
-- 1
abbrev pub level_in : List Numbered → Result Stamped ℕ
level_in [] = Err 1
level_in (l ∷ ls) = begun l.number (stamp_on l.text) (named_in level_row ls)

-- the level of a text, or the number of the first wrong line
abbrev pub level_of : List ℕ → Result Stamped ℕ
level_of text = level_in (rows_of text)

-- own: the form of a level: a stamp, names other than `sbat`, and generations
pub record IsLevel (l : Stamped) : Type 0 where
  pub stamped : is_stamp l.stamp ≡ true
  pub named : (q : List ℕ) (n : ℕ) → get l.generations q ≡ Some n → is_name q ≡ true
  pub counted : (q : List ℕ) (n : ℕ) → get l.generations q ≡ Some n → is_generation n ≡ true
  pub others : get l.generations sbat ≡ None

-- the values of a borrowed name and its generation
abbrev pub entry_of : Bor (List ℕ) × ℕ → List ℕ × ℕ
entry_of e = (e.0.now, e.1)

-- generations by texts, as a map holds them, with the bytes of each text
abbrev pub byte_entries : {Y : Type 0} → List (String Y × ℕ) → List (List ℕ × ℕ)
byte_entries {Y} entries = map (λ (e : String Y × ℕ). (string_bytes e.0, e.1)) entries

-- the map of these generations
abbrev pub generations_of : {Y : Type 0} → List (String Y × ℕ) → Generations
generations_of entries = from_entries (byte_entries entries)
