-- A person among the words of a subcommand.
use Rattle.std.specs.Prelude.{◌≡◌, ◌≢◌, ℕ, false, true, List}
use Rattle.base.specs.declared.refusal.Refusal.TheVariants as refusals
use Rattle.cli_output.specs.Faults.{row_of}
use Rattle.desk_types.specs.Forms.{is_key, is_person_name}
use Rattle.desk_types.specs.Words.{role_text}
use Rattle.desk_types.specs.declared.role.Role.{Role}
use Rattle.cli_arguments.specs.declared.values.newcomer.Newcomer.{Newcomer}
use Rattle.cli_arguments.specs.declared.values.stop.Stop.{Stop}
use Rattle.cli_arguments.specs.declared.values.stop.Stop.TheVariants as stops
use Rattle.cli_arguments.specs.declared.values.stop.Word.{Word}
use Rattle.cli_arguments.specs.declared.values.stop.Word.TheVariants as word

-- the text is a role's word
abbrev pub IsRole : List ℕ → Type 0
IsRole text = (role : Role) × (text ≡ role_text role)

module _ (name role key : List ℕ) where
  -- own: the first of the words that isn't in its form; they are checked in order
  abbrev pub IsFirstWrong : Word → Type 0
  IsFirstWrong word.Owner = ⊥
  IsFirstWrong word.Name = is_person_name name ≡ false
  IsFirstWrong word.Role = (is_person_name name ≡ true) × ((r : Role) → role ≢ role_text r)
  IsFirstWrong word.Key = (is_person_name name ≡ true) × IsRole role × (is_key key ≡ false)
  IsFirstWrong word.Token = ⊥
  IsFirstWrong word.Port = ⊥
  IsFirstWrong word.Count = ⊥
  IsFirstWrong word.Number = ⊥
  IsFirstWrong word.Export = ⊥

  -- own: the first word that isn't in its form stops the subcommand, or refused memory
  abbrev pub StopsFirst : Stop → Type 0
  StopsFirst (stops.Word w) = IsFirstWrong w
  StopsFirst (stops.Fault fault) = fault ≡ row_of refusals.NoMemory

  -- each word is in its form, and this is the person that they spell, with the key of the call
  pub record SpellNewcomer (newcomer : Newcomer) : Type 0 where
    pub name_form : is_person_name name ≡ true
    pub key_form : is_key key ≡ true
    pub name_as_given : newcomer.name ≡ name
    pub role_as_given : role ≡ role_text newcomer.role
    pub key_as_given : newcomer.key ≡ key
