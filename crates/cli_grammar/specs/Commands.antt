-- The program's command line, as `clap` sees it.
use Rattle.std.specs.Prelude.{ℕ, true, codes, List, [], ◌∷◌, ◌++◌, length, map, take}
use Rattle.std.specs.List.{slice_index_or}
use Rattle.clap.specs.Words.{App, Rule, Shape, Text, new_app, new_rule, with_subcommand}
use Rattle.clap.specs.Simple.{new_shape, on_top}

-- own: the ids of a subcommand's words, by place
abbrev pub ids : List Text
ids = codes "first" ∷ codes "second" ∷ codes "third" ∷ codes "fourth" ∷ []

-- the id of the word at a place
abbrev pub id_of : ℕ → Text
id_of place = slice_index_or ids place []

-- a required word, which has a name of its own in help
abbrev pub word_rule : Text → Rule
word_rule id = record (new_rule id) { required = true; value_names = 1 }

-- a word that may be left out
abbrev pub optional_rule : Text → Rule
optional_rule id = record (new_rule id) { value_names = 1 }

-- a subcommand of that name and this many words
abbrev pub subcommand_shape : Text → ℕ → Shape
subcommand_shape name count = record (new_shape name) { rules = map word_rule (take count ids) }

-- a subcommand with a word more, the last, that may be left out
abbrev pub with_optional : Shape → Shape
with_optional s = record s { rules = s.rules ++ optional_rule (id_of (length s.rules)) ∷ [] }

-- the command without its subcommands
abbrev pub bare_app : App
bare_app = on_top (λ s. record s {
  no_binary_name = true;
  propagate_version = true;
  has_version = true;
  subcommand_required = true;
}) (new_app (codes "desk"))

-- with the subcommands that make and keep a desk
abbrev pub with_keeping : App → App
with_keeping app =
    with_subcommand (with_subcommand (with_subcommand (with_subcommand (with_subcommand app
    (subcommand_shape (codes "init") 2))
    (subcommand_shape (codes "person") 4))
    (subcommand_shape (codes "enrol") 4))
    (subcommand_shape (codes "minutes") 1))
    (subcommand_shape (codes "follow") 3)

-- with the subcommands that take requests
abbrev pub with_requests : App → App
with_requests app =
    with_subcommand (with_subcommand app
    (subcommand_shape (codes "serve") 3))
    (subcommand_shape (codes "answer") 1)

-- with the subcommands for an image
abbrev pub with_images : App → App
with_images app =
    with_subcommand (with_subcommand (with_subcommand app
    (subcommand_shape (codes "facts") 1))
    (subcommand_shape (codes "ranges") 1))
    (subcommand_shape (codes "verdict") 2)

-- with the subcommand for a proposal
abbrev pub with_proposals : App → App
with_proposals app = with_subcommand app (subcommand_shape (codes "impact") 2)

-- with the subcommands that publish a desk's decisions
abbrev pub with_exports : App → App
with_exports app =
    with_subcommand (with_subcommand (with_subcommand (with_subcommand app
    (subcommand_shape (codes "db") 1))
    (subcommand_shape (codes "dbx") 1))
    (subcommand_shape (codes "shim") 1))
    (subcommand_shape (codes "level") 1)

-- with the subcommand that follows minutes without a desk, which has a word that may be left out
abbrev pub with_audit : App → App
with_audit app = with_subcommand app (with_optional (subcommand_shape (codes "audit") 2))

-- with the subcommands that work on files without a desk
abbrev pub with_files : App → App
with_files app =
    with_subcommand (with_subcommand (with_audit app)
    (subcommand_shape (codes "list") 1))
    (subcommand_shape (codes "pack") 1)

-- own: the program's command, its subcommands in the order of help
abbrev pub desk_app : App
desk_app =
    with_files (with_exports (with_proposals (with_images (with_requests (with_keeping bare_app)))))
