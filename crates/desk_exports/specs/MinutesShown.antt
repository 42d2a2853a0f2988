-- The minutes in parts, as they are shown, and to whom.
use Rattle.std.specs.Prelude.{◌≡◌, ◌≤◌, ℕ, ◌+◌, ◌-◌, List, [], ◌++◌, drop, flat_map, length, reverse, take, Result}
use Rattle.std.specs.Result.{result_map_both}
use Rattle.base.specs.declared.refusal.Refusal.{Refusal}
use Rattle.desk_types.specs.declared.caller.Caller.{Caller}
use Rattle.desk_history.specs.Calls.{GoesOnFrom, History}
use Rattle.desk_history.specs.Replies.{minutes}
use Rattle.desk_history.specs.Shown.{officer, reader}
use Rattle.desk_history.specs.declared.rows.Minute.{Minute}
use Rattle.desk_exports.specs.Exports.{minute_line, minutes_text}

-- own: the most lines of a part
abbrev pub most_lines : ℕ
most_lines = 1000

-- the minutes from number n on, counted from 1 (0 gives the same), the first first, and at most so
-- many
abbrev pub part_from : History → ℕ → List Minute
part_from cs n = take most_lines (drop (n - 1) (reverse (minutes cs)))

-- their lines
abbrev pub minutes_from : History → ℕ → List ℕ
minutes_from cs n = flat_map minute_line (part_from cs n)

-- the answer to a caller about the minutes from number n on. own: only officers are shown them
abbrev pub minutes_for : History → Caller → ℕ → Result (List ℕ) Refusal
minutes_for cs c n = result_map_both (λ p. minutes_from cs n) (λ refusal. refusal) (officer (reader cs c))

-- ---- laws

-- the first k lines of the minutes
abbrev pub first_lines : History → ℕ → List ℕ
first_lines cs k = flat_map minute_line (take k (reverse (minutes cs)))

-- the first k lines and the part after them are the first lines, as many as there are then
abbrev pub PartsJoin : Type 0
PartsJoin = (cs : History) (k : ℕ)
    → first_lines cs k ++ minutes_from cs (k + 1) ≡ first_lines cs (k + length (part_from cs (k + 1)))

-- where no line follows, the first k lines are the minutes
abbrev pub PartsEnd : Type 0
PartsEnd = (cs : History) (k : ℕ) → minutes_from cs (k + 1) ≡ [] → first_lines cs k ≡ minutes_text cs

-- the first lines of an earlier history are those of a later one
abbrev pub FirstLinesStay : Type 0
FirstLinesStay =
    (earlier later : History) (k : ℕ) → GoesOnFrom earlier later → k ≤ length earlier
    → first_lines later k ≡ first_lines earlier k
