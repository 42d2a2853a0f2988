-- Histories that a desk may have, and minutes that can be read back.
use Rattle.std.specs.Prelude.{◌≡◌, IsTrue, All, true}
use Rattle.desk_types.specs.Callers.{is_told_by_name}
use Rattle.desk_types.specs.Commands.{IsCaller, IsReply}
use Rattle.desk_types.specs.Formed.{IsCall}
use Rattle.desk_types.specs.Forms.{is_key}
use Rattle.desk_history.specs.Calls.{History, Item}
use Rattle.desk_history.specs.declared.rows.Minute.{Minute}
use Rattle.desk_history.specs.Runs.{is_legal}

-- the item's call is in its forms and within its limits
abbrev pub IsItem : Item → Type 0
IsItem i = IsCall i.call

-- A desk's history: each call is in its forms and within its limits, and was accepted after those
-- before it. The history that a desk shows is one.
pub record IsHistory (cs : History) : Type 0 where
  pub legal : IsTrue (is_legal cs)
  pub formed : All IsItem cs

-- the caller's name, the key and the reply's text identify the minute: each is in its form, and
-- belongs to one caller, one key and one reply
pub record IsReadable (m : Minute) : Type 0 where
  pub caller : IsCaller m.caller
  pub told : is_told_by_name m.caller ≡ true
  pub key : is_key m.key ≡ true
  pub reply : IsReply m.reply
