-- The histories whose minutes some bytes are.
use Rattle.std.specs.Prelude.{◌≡◌, ◌≢◌, ◌⊎◌, ◌<◌, ℕ, true, List, [], ◌++◌, codes, length}
use Rattle.std.specs.Io.{StopsAt}
use Rattle.desk_history.specs.Calls.{History, Item}
use Rattle.desk_history.specs.Formed.{IsHistory, IsItem}
use Rattle.desk_history.specs.Replies.{minute_of}
use Rattle.desk_history.specs.Runs.{joins}
use Rattle.desk_exports.specs.Exports.{exported, minute_line, minutes_text}
use Rattle.desk_exports.specs.declared.export.Export.{Export}
use Rattle.desk_minutes.specs.Minuted.{as_minuted}

-- The bytes are the minutes of this history, which a desk may have.
pub record Follows (bytes : List ℕ) (cs : History) : Type 0 where
  pub history : IsHistory cs
  pub minutes : minutes_text cs ≡ bytes

-- no call that may come next, by either rules, has this line
abbrev pub HasNoNext : History → List ℕ → Type 0
HasNoNext cs line = (i : Item) → IsItem i → joins cs i ≡ true → line ≢ minute_line (minute_of cs i)

-- the bytes are a line, or the beginning of one: some, and none but the last is a line break
abbrev pub IsOneLine : List ℕ → Type 0
IsOneLine line = (0 < length line) × StopsAt line 10

-- the bytes end a line
abbrev pub EndsLine : List ℕ → Type 0
EndsLine bytes = (front : List ℕ) × (bytes ≡ front ++ codes "\n")

-- the text is these lines and then this line, which it doesn't continue
abbrev pub GoesThrough : List ℕ → List ℕ → List ℕ → Type 0
GoesThrough text before line = (rest : List ℕ) × (text ≡ before ++ line ++ rest) × (EndsLine line ⊎ (rest ≡ []))

-- the minutes of no history go on after these lines with this line
abbrev pub NoneGoesThrough : List ℕ → List ℕ → Type 0
NoneGoesThrough before line = (cs : History) → IsHistory cs → GoesThrough (minutes_text cs) before line → ⊥

-- ---- laws

-- a history as its minutes tell it is a desk's
abbrev pub MinutedIsHistory : Type 0
MinutedIsHistory = (cs : History) → IsHistory cs → IsHistory (as_minuted cs)

-- and has these minutes
abbrev pub MinutedKeepsMinutes : Type 0
MinutedKeepsMinutes = (cs : History) → IsHistory cs → minutes_text (as_minuted cs) ≡ minutes_text cs

-- histories that have the same minutes are the same as these tell it: they have the same calls, and
-- differ in the rules of calls alone
abbrev pub MinutesTellHistory : Type 0
MinutesTellHistory =
    (a b : History) → IsHistory a → IsHistory b → minutes_text a ≡ minutes_text b → as_minuted a ≡ as_minuted b

-- all histories whose minutes some bytes are have the same exports, whichever rules their calls were
-- accepted by
abbrev pub MinutesTellExports : Type 0
MinutesTellExports =
    (bytes : List ℕ) (a b : History) → Follows bytes a → Follows bytes b
    → (what : Export) (owner : List ℕ) → exported what owner a ≡ exported what owner b

-- where no call that may come next has a line after these calls, as the minutes tell them, no
-- history goes through it
abbrev pub NoNextNoHistory : Type 0
NoNextNoHistory =
    (cs : History) (line : List ℕ) → IsHistory cs → IsOneLine line → HasNoNext (as_minuted cs) line
    → NoneGoesThrough (minutes_text cs) line
