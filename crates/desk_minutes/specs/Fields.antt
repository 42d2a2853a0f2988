-- The fields of a line of minutes, as bytes.
use Rattle.std.specs.Prelude.{◌≡◌, ℕ, ◌==◌, Bool, true, not, List, ◌++◌, codes}
use Rattle.std.specs.List.{list_all}
use Rattle.desk_types.specs.Callers.{caller_name}
use Rattle.desk_types.specs.CommandTexts.{text_of}
use Rattle.desk_types.specs.declared.command.Call.{Call}

-- the text doesn't have the byte
abbrev pub is_without : ℕ → List ℕ → Bool
is_without byte text = list_all (λ b. not (b == byte)) text

-- own: a line: number, caller, key, text and reply, separated by tabs, and a line break
abbrev pub spelt : List ℕ → List ℕ → List ℕ → List ℕ → List ℕ → List ℕ
spelt number caller key text reply =
    number ++ codes "\t" ++ caller ++ codes "\t" ++ key ++ codes "\t" ++ text ++ codes "\t" ++ reply ++ codes "\n"

-- The fields before the last have no tab, and the last has no line break.
pub record AreFields (number caller key text reply : List ℕ) : Type 0 where
  pub number_ends : is_without 9 number ≡ true
  pub caller_ends : is_without 9 caller ≡ true
  pub key_ends : is_without 9 key ≡ true
  pub text_ends : is_without 9 text ≡ true
  pub reply_ends : is_without 10 reply ≡ true

-- the bytes are the caller's name, the key and the text of the call
pub record IsCallOf (c : Call) (caller key text : List ℕ) : Type 0 where
  pub same_caller : caller ≡ caller_name c.caller
  pub same_key : key ≡ c.key
  pub same_text : text ≡ text_of c.command
