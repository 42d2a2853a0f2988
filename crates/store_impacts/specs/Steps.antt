-- The steps of a pass over the calls. Auditors needn't believe these words.
use Rattle.std.specs.Prelude.{◌≡◌, ℕ, ◌++◌, List, [], ◌∷◌, length, Option, Some, None, if◌then◌else◌}
use Rattle.sqlite.specs.Order.{Row}
use Rattle.desk_types.specs.Commands.{IsCommand}
use Rattle.desk_types.specs.CommandTexts.{text_of}
use Rattle.desk_types.specs.Formed.{IsWithin}
use Rattle.desk_types.specs.declared.command.Command.{Command}
use Rattle.desk_history.specs.Calls.{History}
use Rattle.desk_history.specs.Requests.{requests}
use Rattle.desk_history.specs.Verdicts.{Standing, bars}
use Rattle.store_exports.specs.Lines.{Columns, columns_row}
use Rattle.store_impacts.specs.Passing.{file_of, passed_by, request_after, requests_after}
use Rattle.store_impacts.specs.Touching.{touched}
use Rattle.store_impacts.specs.declared.passed.BroughtImage.{BroughtImage}
use Rattle.store_impacts.specs.declared.touched_image.TouchedImage.{TouchedImage}

-- what a pass has seen: how many requests, and which images it keeps
pub record Seen : Type 0 where
  pub requests : ℕ
  pub kept : List TouchedImage

-- all that it sees of a history
abbrev pub seen_of : Standing → History → Seen
seen_of entries cs = record { requests = length (requests cs); kept = touched entries cs }

-- what is kept of the image of the call of this number, after n requests
abbrev pub kept_after : ℕ → ℕ → BroughtImage → TouchedImage
kept_after call n p = record { call = call; request = request_after n p; file = file_of p }

-- with the image of the call of this number, if it brings one
abbrev pub with_image : Standing → ℕ → Seen → Option BroughtImage → Seen
with_image entries call seen None = seen
with_image entries call seen (Some p) = record {
  requests = requests_after seen.requests p;
  kept = if bars entries p.facts then seen.kept ++ kept_after call seen.requests p ∷ [] else seen.kept;
}

-- the row is taken: of each call that it may show, its image is seen
abbrev pub SeesCall : Standing → Row → Seen → Seen → Type 0
SeesCall entries row old new =
    (x : Columns) (c : Command) → IsCommand c → IsWithin c → row ≡ columns_row x → x.text ≡ text_of c
    → new ≡ with_image entries x.number old (passed_by c)
