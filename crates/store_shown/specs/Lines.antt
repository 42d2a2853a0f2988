-- The lines of calls that are read by their numbers. Auditors needn't believe these words.
use Rattle.std.specs.Prelude.{◌≡◌, ◌⊎◌, ⊤, ℕ, ◌+◌, ◌==◌, ◌≤◌, List, [], ◌∷◌, ◌++◌, codes, decimal, drop, filter, flat_map, length, map, reverse, take}
use Rattle.desk_exports.specs.Exports.{minute_line}
use Rattle.desk_history.specs.Calls.{History}
use Rattle.desk_history.specs.Replies.{minutes}
use Rattle.desk_history.specs.Tables.{Tables}
use Rattle.store_reads.specs.CallColumns.{texts_of}
use Rattle.store_reads.specs.declared.call_texts.CallTexts.{CallTexts}

-- the line of a call, by its texts
abbrev pub line_of : CallTexts → List ℕ
line_of c = decimal c.number ++ codes "\t" ++ c.caller ++ codes "\t" ++ c.key ++ codes "\t" ++ c.text ++ codes "\t" ++ c.reply ++ codes "\n"

-- the calls of this number, by their texts
abbrev pub calls_at : Tables → ℕ → List CallTexts
calls_at t k = map texts_of (filter (λ m. k == m.number) t.calls)

-- the calls of the numbers after k, each the only one of its number
abbrev pub AreAfter : Tables → ℕ → List CallTexts → Type 0
AreAfter t k [] = ⊤
AreAfter t k (c ∷ cs) = (calls_at t (k + 1) ≡ c ∷ []) × AreAfter t (k + 1) cs

-- the bytes are the lines of the n calls after k
pub record HasFirst (t : Tables) (k n : ℕ) (bytes : List ℕ) : Type 0 where
  pub calls : List CallTexts
  pub after : AreAfter t k calls
  pub count : length calls ≡ n
  pub spelt : bytes ≡ flat_map line_of calls

-- the bytes are the lines of the calls after k: of 1,000 of them, or of those up to the last
pub record HasLines (t : Tables) (k : ℕ) (bytes : List ℕ) : Type 0 where
  pub lines : ℕ
  pub most : lines ≤ 1000
  pub first : HasFirst t k lines bytes
  pub ends : (lines ≡ 1000) ⊎ (calls_at t (k + lines + 1) ≡ [])

-- the line of the minutes after so many calls, if there is one
abbrev pub line_after : History → ℕ → List ℕ
line_after cs calls = flat_map minute_line (take 1 (drop calls (reverse (minutes cs))))

-- the text is the line of the call of this number
abbrev pub IsLineOf : History → ℕ → List ℕ → Type 0
IsLineOf cs number text = (calls : ℕ) → number ≡ calls + 1 → text ≡ line_after cs calls
