-- A call by the texts of its caller and its reply.
use Rattle.std.specs.Prelude.{pos, [], ◌∷◌}
use Rattle.sqlite.specs.declared.types.Value.TheVariants.{Int, Text}
use Rattle.sqlite.specs.Order.{Row}
use Rattle.desk_types.specs.Callers.{caller_name}
use Rattle.desk_types.specs.ReplyTexts.{reply_text_of}
use Rattle.desk_history.specs.declared.rows.Minute.{Minute}
use Rattle.store_reads.specs.declared.call_texts.CallTexts.{CallTexts}

-- own: the columns of a call: number, the caller's name, key, text, the reply's text
abbrev pub call_columns : CallTexts → Row
call_columns c = Int (pos c.number) ∷ Text c.caller ∷ Text c.key ∷ Text c.text ∷ Text c.reply ∷ []

-- the texts of a minute
abbrev pub texts_of : Minute → CallTexts
texts_of m = record { number = m.number; caller = caller_name m.caller; key = m.key; text = m.text; reply = reply_text_of m.reply }
