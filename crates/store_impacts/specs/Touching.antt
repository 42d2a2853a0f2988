-- The images that some entries bar by themselves, with the calls that brought them.
use Rattle.std.specs.Prelude.{◌≡◌, ℕ, ◌+◌, Bool, List, [], ◌∷◌, map, filter, length, reverse, Option, option_map}
use Rattle.std.specs.List.{cons_option}
use Rattle.sqlite.specs.State.{State}
use Rattle.desk_history.specs.Calls.{History, Item}
use Rattle.desk_history.specs.Formed.{IsHistory}
use Rattle.desk_history.specs.Images.{Image, image_of, images}
use Rattle.desk_history.specs.Verdicts.{Standing, bars}
use Rattle.store_schema.specs.rows.Histories.{ShowsHistory}
use Rattle.store_impacts.specs.declared.touched_image.TouchedImage.{TouchedImage}

-- an image, and the number of the call that brought it
pub record Brought : Type 0 where
  pub call : ℕ
  pub image : Image

-- the image of an item's call that is accepted after these
abbrev pub brought_by : History → Item → Option Brought
brought_by cs i =
    option_map (λ m. record { call = length cs + 1; image = m }) (image_of cs i.call.command)

-- the images with the numbers of their calls, the newest first
abbrev pub brought : History → List Brought
brought [] = []
brought (i ∷ cs) = cons_option (brought_by cs i) (brought cs)

-- they are the images of the history
abbrev pub BringsImages : Type 0
BringsImages = (cs : History) → map (λ b. b.image) (brought cs) ≡ images cs

-- what is kept of an image: its call, its request, and which file it is
abbrev pub kept : Brought → TouchedImage
kept b = record { call = b.call; request = b.image.request; file = b.image.file }

-- these entries alone bar the image
abbrev pub is_touched : Standing → Brought → Bool
is_touched entries b = bars entries b.image.facts

-- the images that these entries alone bar, in the order of their calls
abbrev pub touched : Standing → History → List TouchedImage
touched entries cs = map kept (filter (is_touched entries) (reverse (brought cs)))

-- they are those of each history that a desk may have and that the connection shows
abbrev pub TouchesOf : State → Standing → List TouchedImage → Type 0
TouchesOf s entries found =
    (owner : List ℕ) (cs : History) → IsHistory cs → ShowsHistory s owner cs → found ≡ touched entries cs
