-- The entity tags of proposals (RFC 9110, section 8.8.3).
use Rattle.std.specs.Prelude.{ℕ, List}
use Rattle.sha2.specs.Sha256.{sha256}
use Rattle.desk_types.specs.CommandTexts.{text_of}
use Rattle.desk_types.specs.Imports.{Imported}
use Rattle.desk_types.specs.declared.command.Command.TheVariants.{ImportRevocations}

-- own: the tag of a proposal that names these entries: the SHA-256 of the text of the import that
-- names them. Nothing in it ever changes, and those with equal texts put the same into force
unfoldable pub tag_of : Imported → List ℕ
tag_of named = sha256 (text_of (ImportRevocations named))
