-- The images that passed through a desk: those of the accepted Submit and Return calls.
use Rattle.std.specs.Prelude.{ℕ, ◌+◌, List, [], ◌∷◌, length, Option, Some, None}
use Rattle.std.specs.List.{cons_option}
use Rattle.desk_types.specs.declared.command.Command.{Command}
use Rattle.desk_types.specs.declared.command.Command.TheVariants as command
use Rattle.desk_types.specs.declared.facts.Facts.{Facts}
use Rattle.desk_history.specs.Calls.{History}
use Rattle.desk_history.specs.Requests.{requests}
use Rattle.desk_history.specs.declared.impact.WhichFile.{WhichFile}
use Rattle.desk_history.specs.declared.impact.WhichFile.TheVariants as files

-- an image that passed through the desk: the number of its request, which file of it, and its facts
pub record Image : Type 0 where
  pub request : ℕ
  pub file : WhichFile
  pub facts : Facts

-- the image of a command that is accepted after these calls: a Submit's is that of the next
-- request, a Return's that of the request it names
abbrev pub image_of : History → Command → Option Image
image_of cs (command.Submit s) = Some (record { request = length (requests cs) + 1; file = files.Submitted; facts = s.facts })
image_of cs (command.Return h) = Some (record { request = h.request; file = files.Returned; facts = h.facts })
image_of cs (command.AddPerson _) = None
image_of cs (command.Review _) = None
image_of cs (command.Withdraw _) = None
image_of cs (command.ListCertificate _) = None
image_of cs (command.ListDigest _) = None
image_of cs (command.Unlist _) = None
image_of cs (command.RevokeDigest _) = None
image_of cs (command.RevokeCertificate _) = None
image_of cs (command.RaiseLevel _) = None
image_of cs (command.ImportRevocations _) = None
image_of cs (command.Confirm _) = None
image_of cs (command.Drop _) = None
image_of cs (command.Explain _) = None

-- the images of the accepted Submit and Return calls, the newest first
abbrev pub images : History → List Image
images [] = []
images (i ∷ cs) = cons_option (image_of cs i.call.command) (images cs)
