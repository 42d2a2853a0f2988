-- Lines of minutes, of calls in their forms and within their limits.
use Rattle.std.specs.Prelude.{◌≡◌, ℕ, ◌<◌, ◌^◌, List, ◌++◌, true}
use Rattle.desk_types.specs.Callers.{is_told_by_name}
use Rattle.desk_types.specs.Commands.{IsReply}
use Rattle.desk_types.specs.CommandTexts.{text_of}
use Rattle.desk_types.specs.Formed.{IsCall}
use Rattle.desk_types.specs.declared.command.Call.{Call}
use Rattle.desk_types.specs.declared.reply.Reply.{Reply}
use Rattle.desk_history.specs.declared.rows.Minute.{Minute}
use Rattle.desk_exports.specs.Exports.{minute_line}

-- the minute of a call that was accepted under this number, with this reply
abbrev pub minute_with : ℕ → Call → Reply → Minute
minute_with number c given = record {
  number = number;
  caller = c.caller;
  key = c.key;
  text = text_of c.command;
  reply = given;
}

-- its line
abbrev pub line_with : ℕ → Call → Reply → List ℕ
line_with number c given = minute_line (minute_with number c given)

-- The call and the reply are in their forms and within their limits, and the caller's name
-- identifies the caller. Each call of a desk's history is such a one, with its reply.
pub record IsTold (c : Call) (given : Reply) : Type 0 where
  pub call : IsCall c
  pub own : is_told_by_name c.caller ≡ true
  pub reply : IsReply given

-- both lines are of one number, one call and one reply, and the same bytes follow
pub record AreOneLine (m n : ℕ) (c d : Call) (r s : Reply) (more rest : List ℕ) : Type 0 where
  pub same_number : m ≡ n
  pub same_call : c ≡ d
  pub same_reply : r ≡ s
  pub same_rest : more ≡ rest

-- texts that begin with lines begin with the same line if they are the same
abbrev pub LinesDiffer : Type 0
LinesDiffer =
    (m n : ℕ) (c d : Call) (r s : Reply) (more rest : List ℕ) → m < 2 ^ 64 → n < 2 ^ 64 → IsTold c r → IsTold d s
    → line_with m c r ++ more ≡ line_with n d s ++ rest → AreOneLine m n c d r s more rest
