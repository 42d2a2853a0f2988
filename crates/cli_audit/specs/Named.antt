-- An audit of the minutes in a file of some name.
use Rattle.std.specs.Prelude.{◌≡◌, ◌⊎◌, ℕ, Bool, false, true, List, Option, Result, IsErrAnd, codes}
use Rattle.std.specs.Io.KnownBytes.{Keeps}
use Rattle.std.specs.Str.{bytes_eq}
use Rattle.desk_exports.specs.declared.export.Export.{Export}
use Rattle.store_minutes.specs.declared.lines.LineWatch.{LineWatch}
use Rattle.cli_output.specs.Faults.{IsRow}
use Rattle.cli_output.specs.declared.fault.Fault.{Fault}
use Rattle.cli_audit.specs.Audits.{Audits}
use Rattle.cli_audit.specs.Faults.{IsUnopenedRefusal}

-- own: the file of this name is the input
abbrev pub is_input : List ℕ → Bool
is_input name = bytes_eq name (codes "-")

module _ (what : Option Export) (owner : List ℕ) (before after : Option (List ℕ)) (result : Result Unit Fault) where
  -- an audit of these bytes ended so, under some watch
  pub record AuditsBytes (known : Option (List ℕ)) : Type 0 where
    pub watch : LineWatch
    pub audits : Audits what owner known before after watch result

  -- own: An audit of the file `-` is one of the input's bytes. Any other file couldn't be opened, and
  -- nothing was written; or it is one of that file's bytes.
  pub record AuditsNamed (name : List ℕ) (given : Option (List ℕ)) : Type 0 where
    pub of_input : is_input name ≡ true → AuditsBytes given
    pub of_file : is_input name ≡ false
        → (IsErrAnd result (IsRow IsUnopenedRefusal) × Keeps before after)
        ⊎ ((known : Option (List ℕ)) × AuditsBytes known)
