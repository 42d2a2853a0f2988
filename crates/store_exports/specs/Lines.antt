-- A line of the minutes, by the columns of a call's row.
use Rattle.std.specs.Prelude.{ℕ, pos, List, [], ◌∷◌, ◌++◌, codes, decimal}
use Rattle.sqlite.specs.Order.{Row}
use Rattle.sqlite.specs.declared.types.Value.TheVariants.{Int, Text}
use Rattle.desk_types.specs.Callers.{caller_name}
use Rattle.desk_types.specs.ReplyTexts.{reply_text_of}
use Rattle.desk_history.specs.declared.rows.Minute.{Minute}

-- the columns of a call's row
pub record Columns : Type 0 where
  pub number : ℕ
  pub caller : List ℕ
  pub key : List ℕ
  pub text : List ℕ
  pub reply : List ℕ

-- own: the columns of a call: number, the caller's name, key, text, the reply's text
abbrev pub columns_row : Columns → Row
columns_row c = Int (pos c.number) ∷ Text c.caller ∷ Text c.key ∷ Text c.text ∷ Text c.reply ∷ []

-- those of a minute
abbrev pub columns_of : Minute → Columns
columns_of m = record { number = m.number; caller = caller_name m.caller; key = m.key; text = m.text; reply = reply_text_of m.reply }

-- own: number, caller, key, text and reply, separated by tabs
abbrev pub line_of : ℕ → List ℕ → List ℕ → List ℕ → List ℕ → List ℕ
line_of number caller key text reply =
    decimal number ++ codes "\t" ++ caller ++ codes "\t" ++ key ++ codes "\t" ++ text ++ codes "\t" ++ reply ++ codes "\n"

-- the line of a call
abbrev pub line : Columns → List ℕ
line c = line_of c.number c.caller c.key c.text c.reply
