-- Entries of one import.
use Rattle.std.specs.Prelude.{ℕ, ◌+◌, List, [], Option, None, length}
use Rattle.sbat.specs.declared.component.Component.{Component}

-- the stamp of its level, if it has one; how many entries it skips; and the entries that it names,
-- in order
pub record Imported : Type 0 where
  pub stamp : Option ℕ
  pub passed : ℕ
  pub digests : List (List ℕ)
  pub certificates : List (List ℕ)
  pub components : List Component

-- an import that names nothing
abbrev pub no_entries : Imported
no_entries = record { stamp = None; passed = 0; digests = []; certificates = []; components = [] }

-- own: skipped entries count as those that are named
abbrev pub named_count : ℕ → List (List ℕ) → List (List ℕ) → List Component → ℕ
named_count passed digests certificates components =
    passed + length digests + length certificates + length components
