-- The line of a fault.
use Rattle.std.specs.Prelude.{ℕ, List, ◌++◌, Option, None, Some, if◌then◌else◌, codes, decimal}
use Rattle.base.specs.Refusals.{is_device, name_of, number_of}
use Rattle.base.specs.declared.refusal.Refusal.{Refusal}

-- the first word, with a space after it
abbrev pub word_of : Refusal → List ℕ
word_of refusal = if is_device refusal then codes "device " else codes "refused "

-- the first word, the number and the name
abbrev pub fault_words : Refusal → List ℕ
fault_words refusal = word_of refusal ++ decimal (number_of refusal) ++ codes " " ++ name_of refusal

-- own: `refused NUMBER NAME` or `device NUMBER NAME`, ` at PLACE` if there is a place, and LF
abbrev pub fault_line : Refusal → Option ℕ → List ℕ
fault_line refusal None = fault_words refusal ++ codes "\n"
fault_line refusal (Some place) = fault_words refusal ++ codes " at " ++ decimal place ++ codes "\n"
