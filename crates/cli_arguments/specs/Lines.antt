-- The meanings of the program's words.
use Rattle.std.specs.Prelude.{◌≡◌, ◌≢◌, ◌⊎◌, ℕ, codes, List, [], ◌∷◌, Option, None, Result, Ok, Err}
use Rattle.std.specs.Prelude.{⊤, Some, if◌then◌else◌, option_and_then, option_map, option_to_list}
use Rattle.std.specs.List.{All}
use Rattle.std.specs.Str.{bytes_eq}
use Rattle.clap.specs.Words.{IsAmong, Row, Text, fault_of, first_of, kind_of, subcommand_of}
use Rattle.cli_grammar.specs.Commands.{desk_app, id_of}
use Rattle.cli_arguments.specs.declared.line.Words.{Words}
use Rattle.cli_arguments.specs.declared.line.Words.TheVariants as said
use Rattle.cli_arguments.specs.declared.line.WordsFault.{WordsFault}
use Rattle.cli_arguments.specs.declared.line.WordsFault.TheVariants.{Missing, NoMemory, Refused}

-- a subcommand with its words, as texts
pub data Line : Type 0 where
  init : Text → Text → Line
  person : Text → Text → Text → Text → Line
  enrol : Text → Text → Text → Text → Line
  minutes : Text → Line
  follow : Text → Text → Text → Line
  serve : Text → Text → Text → Line
  answer : Text → Line
  facts : Text → Line
  ranges : Text → Line
  verdict : Text → Text → Line
  impact : Text → Text → Line
  db : Text → Line
  dbx : Text → Line
  shim : Text → Line
  level : Text → Line
  audit : Text → Text → Option Text → Line
  list : Text → Line
  pack : Text → Line

-- own: its words: the name of its subcommand, and those after it
abbrev pub words_of : Line → Text × List Text
words_of (init path owner) = (codes "init", path ∷ owner ∷ [])
words_of (person path name role key) = (codes "person", path ∷ name ∷ role ∷ key ∷ [])
words_of (enrol path name role key) = (codes "enrol", path ∷ name ∷ role ∷ key ∷ [])
words_of (minutes path) = (codes "minutes", path ∷ [])
words_of (follow path owner file) = (codes "follow", path ∷ owner ∷ file ∷ [])
words_of (serve path port count) = (codes "serve", path ∷ port ∷ count ∷ [])
words_of (answer path) = (codes "answer", path ∷ [])
words_of (facts file) = (codes "facts", file ∷ [])
words_of (ranges file) = (codes "ranges", file ∷ [])
words_of (verdict path file) = (codes "verdict", path ∷ file ∷ [])
words_of (impact path number) = (codes "impact", path ∷ number ∷ [])
words_of (db path) = (codes "db", path ∷ [])
words_of (dbx path) = (codes "dbx", path ∷ [])
words_of (shim path) = (codes "shim", path ∷ [])
words_of (level path) = (codes "level", path ∷ [])
words_of (audit owner file export) = (codes "audit", owner ∷ file ∷ option_to_list export)
words_of (list file) = (codes "list", file ∷ [])
words_of (pack owner) = (codes "pack", owner ∷ [])

-- the name of its subcommand
abbrev pub subcommand_name : Line → Text
subcommand_name line = (words_of line).0

-- the words after it
abbrev pub words_after : Line → List Text
words_after line = (words_of line).1

-- the line of the program's value
abbrev pub line_of : Words → Line
line_of (said.Init path owner) = init path.now owner.now
line_of (said.Person words) = person words.db.now words.name.now words.role.now words.key.now
line_of (said.Enrol words) = enrol words.db.now words.name.now words.role.now words.key.now
line_of (said.Minutes path) = minutes path.now
line_of (said.Follow words) = follow words.db.now words.owner.now words.file.now
line_of (said.Serve words) = serve words.db.now words.port.now words.count.now
line_of (said.Answer path) = answer path.now
line_of (said.Facts file) = facts file.now
line_of (said.Ranges file) = ranges file.now
line_of (said.Verdict path file) = verdict path.now file.now
line_of (said.Impact path number) = impact path.now number.now
line_of (said.Db path) = db path.now
line_of (said.Dbx path) = dbx path.now
line_of (said.Shim path) = shim path.now
line_of (said.Level path) = level path.now
line_of (said.Audit words) = audit words.owner.now words.file.now (option_map (λ word. word.now) words.export)
line_of (said.List file) = list file.now
line_of (said.Pack owner) = pack owner.now

-- the line from the word at a place, if the rows that `clap` found have it
abbrev pub with_word : List Row → ℕ → (Text → Option Line) → Option Line
with_word rows place next = option_and_then next (first_of (id_of place) rows)

-- the line of a subcommand of two words, from its rows
abbrev pub two_in : (Text → Text → Line) → List Row → Option Line
two_in line rows = with_word rows 0 (λ word. with_word rows 1 (λ other. Some (line word other)))

-- the line of a subcommand of three words, from its rows
abbrev pub three_in : (Text → Text → Text → Line) → List Row → Option Line
three_in line rows =
    with_word rows 0 (λ path. with_word rows 1 (λ word. with_word rows 2 (λ other. Some (line path word other))))

-- the line of `audit`, whose third word may be left out
abbrev pub audit_in : List Row → Option Line
audit_in rows =
    with_word rows 0 (λ owner. with_word rows 1 (λ file. Some (audit owner file (first_of (id_of 2) rows))))

-- the line of a subcommand of four words, from its rows
abbrev pub four_in : (Text → Text → Text → Text → Line) → List Row → Option Line
four_in line rows =
    with_word rows 0 (λ path. with_word rows 1 (λ name. with_word rows 2 (λ role. with_word rows 3 (λ key.
    Some (line path name role key)))))

-- the line of the subcommand of that name with its word, if it has one word
abbrev pub of_one_word : Text → Text → Option Line
of_one_word name word =
    if bytes_eq name (codes "minutes") then Some (minutes word)
    else if bytes_eq name (codes "answer") then Some (answer word)
    else if bytes_eq name (codes "facts") then Some (facts word)
    else if bytes_eq name (codes "ranges") then Some (ranges word)
    else if bytes_eq name (codes "db") then Some (db word)
    else if bytes_eq name (codes "dbx") then Some (dbx word)
    else if bytes_eq name (codes "shim") then Some (shim word)
    else if bytes_eq name (codes "level") then Some (level word)
    else if bytes_eq name (codes "list") then Some (list word)
    else if bytes_eq name (codes "pack") then Some (pack word)
    else None

-- the line of a subcommand of that name, from its rows
abbrev pub line_in : Text × List Row → Option Line
line_in (name, rows) =
    if bytes_eq name (codes "init") then two_in init rows
    else if bytes_eq name (codes "person") then four_in person rows
    else if bytes_eq name (codes "enrol") then four_in enrol rows
    else if bytes_eq name (codes "follow") then three_in follow rows
    else if bytes_eq name (codes "serve") then three_in serve rows
    else if bytes_eq name (codes "verdict") then two_in verdict rows
    else if bytes_eq name (codes "impact") then two_in impact rows
    else if bytes_eq name (codes "audit") then audit_in rows
    else with_word rows 0 (of_one_word name)

-- a plain word, not an option: it isn't empty, and is a hyphen (45) or doesn't begin with one
abbrev pub IsPlainWord : Text → Type 0
IsPlainWord [] = ⊥
IsPlainWord (b ∷ bs) = (b ≢ 45) ⊎ (bs ≡ [])

-- the words are the line's, and none after the subcommand could be an option
pub record Spells (words : List Text) (line : Line) : Type 0 where
  pub same : words ≡ subcommand_name line ∷ words_after line
  pub plain : All IsPlainWord (words_after line)

-- the line that `clap` finds in the words, by its own definition
abbrev pub line_found : List Text → Option Line
line_found words = option_and_then line_in (subcommand_of desk_app words)

-- if `clap` finds no fault, the line that it finds, and otherwise a fault that it finds
abbrev pub ReadsWords : List Text → Result Words WordsFault → Type 0
ReadsWords words (Ok said) =
    (fault_of desk_app words ≡ []) × (line_found words ≡ Some (line_of said))
ReadsWords words (Err (Refused error)) = IsAmong (kind_of error) (fault_of desk_app words)
ReadsWords words (Err Missing) = (fault_of desk_app words ≡ []) × (line_found words ≡ None)
ReadsWords words (Err NoMemory) = ⊤

-- parsed as just that line, unless memory was refused
abbrev pub Takes : Line → Result Words WordsFault → Type 0
Takes line (Ok words) = line_of words ≡ line
Takes line (Err fault) = fault ≡ NoMemory
