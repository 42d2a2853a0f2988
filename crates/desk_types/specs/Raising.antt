-- The components that an import names.
use Rattle.std.specs.Prelude.{Bool, not, List, bytes_eq}
use Rattle.std.specs.List.{list_all}
use Rattle.sbat.specs.declared.component.Component.{Component}
use Rattle.sbat.specs.Fields.{sbat}

-- own: an import doesn't raise the generation of SBAT itself (SBAT.md, "sbat" names the format)
abbrev pub names_no_sbat : List Component → Bool
names_no_sbat components = list_all (λ c. not (bytes_eq c.name sbat)) components
