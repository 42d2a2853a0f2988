-- own: the words for files of requests.
use Rattle.std.specs.Prelude.{ℕ, List, codes}
use Rattle.desk_history.specs.declared.impact.WhichFile.{WhichFile}
use Rattle.desk_history.specs.declared.impact.WhichFile.TheVariants as files

-- the word of a file of a request
abbrev pub file_text : WhichFile → List ℕ
file_text files.Submitted = codes "submitted"
file_text files.Returned = codes "returned"
