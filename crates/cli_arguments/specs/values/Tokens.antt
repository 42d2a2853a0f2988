-- The token on a subcommand's standard input.
use Rattle.std.specs.Prelude.{◌≡◌, ◌⊎◌, ℕ, List, Option, None, Some, IfSome}
use Rattle.base.specs.declared.refusal.Refusal.TheVariants as refusals
use Rattle.cli_output.specs.Faults.{row_of}
use Rattle.desk_inputs.specs.Tokens.{HasNoToken, given_digest, token_in}
use Rattle.desk_types.specs.declared.command.Person.{Person}
use Rattle.cli_arguments.specs.declared.values.newcomer.Newcomer.{Newcomer}
use Rattle.cli_arguments.specs.declared.values.stop.Stop.{Stop}
use Rattle.cli_arguments.specs.declared.values.stop.Stop.TheVariants as stops
use Rattle.cli_arguments.specs.declared.values.stop.Word.TheVariants as word
use Rattle.cli_arguments.specs.declared.values.token.TokenForm.{TokenForm}
use Rattle.cli_arguments.specs.declared.values.token.TokenForm.TheVariants as forms

-- own: what the desk keeps of the token that an input gives in this form: the token's SHA-256
abbrev pub kept_in : TokenForm → List ℕ → Option (List ℕ)
kept_in forms.Token text = token_in text
kept_in forms.Digest text = given_digest text

-- own: the input gives no token in this form
abbrev pub LacksToken : TokenForm → List ℕ → Type 0
LacksToken forms.Token text = HasNoToken text
LacksToken forms.Digest text = given_digest text ≡ None

-- own: the input gives no token in this form (`bad TOKEN`), a read failed, or memory was refused
abbrev pub StopsByToken : TokenForm → Option (List ℕ) → Stop → Type 0
StopsByToken form given why =
    ((why ≡ stops.Word word.Token) × IfSome given (LacksToken form))
    ⊎ ((why ≡ stops.Fault (row_of refusals.Read)) ⊎ (why ≡ stops.Fault (row_of refusals.NoMemory)))

-- own: the person to be added, with what the desk keeps of the token that the input gives
pub record IsWithToken (newcomer : Newcomer) (form : TokenForm) (given : Option (List ℕ)) (person : Person) : Type 0 where
  pub name : person.name ≡ newcomer.name
  pub role : person.role ≡ newcomer.role
  pub token : IfSome given (λ text. Some person.token ≡ kept_in form text)
