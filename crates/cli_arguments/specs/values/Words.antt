-- The words of a subcommand that have a form.
use Rattle.std.specs.Prelude.{◌≡◌, ◌≢◌, ◌⊎◌, ℕ, List, codes, decimal, true}
use Rattle.base.specs.Guids.{IsGuidText}
use Rattle.base.specs.declared.refusal.Refusal.TheVariants as refusals
use Rattle.cli_output.specs.Faults.{row_of}
use Rattle.cli_output.specs.declared.fault.Fault.{Fault}
use Rattle.desk_types.specs.Forms.{is_proposal_number}
use Rattle.cli_arguments.specs.declared.values.stop.Stop.{Stop}
use Rattle.cli_arguments.specs.declared.values.stop.Stop.TheVariants as stops
use Rattle.cli_arguments.specs.declared.values.stop.Word.{Word}
use Rattle.cli_arguments.specs.declared.values.stop.Word.TheVariants as word

-- own: its name in help, as `bad NAME` gives it
abbrev pub name_of : Word → List ℕ
name_of word.Owner = codes "OWNER"
name_of word.Name = codes "NAME"
name_of word.Role = codes "ROLE"
name_of word.Key = codes "KEY"
name_of word.Token = codes "TOKEN"
name_of word.Port = codes "PORT"
name_of word.Count = codes "COUNT"
name_of word.Number = codes "NUMBER"
name_of word.Export = codes "EXPORT"

-- own: a fault stops a subcommand as itself
abbrev pub of_fault : Fault → Stop
of_fault fault = stops.Fault fault

-- a word stops the subcommand because it is wrong, or memory was refused
abbrev pub StopsBy : Word → Type 0 → Stop → Type 0
StopsBy w wrong why = ((why ≡ stops.Word w) × wrong) ⊎ (why ≡ stops.Fault (row_of refusals.NoMemory))

-- own: the word is no text of a GUID, and stops the subcommand
abbrev pub IsWrongOwner : List ℕ → Stop → Type 0
IsWrongOwner text why = (why ≡ stops.Word word.Owner) × ((guid : List ℕ) → IsGuidText text guid → ⊥)

-- own: the word isn't the number of a proposal in decimal digits, and stops the subcommand
abbrev pub IsWrongNumber : List ℕ → Stop → Type 0
IsWrongNumber text why =
    (why ≡ stops.Word word.Number) × ((number : ℕ) → is_proposal_number number ≡ true → text ≢ decimal number)
