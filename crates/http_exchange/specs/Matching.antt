-- own: inputs with a tag (If-Match; RFC 9110, section 13.1.1), and what they are about.
use Rattle.std.specs.Prelude.{◌≡◌, ◌≢◌, ℕ, List, Option, Some, None, Ok, option_and_then}
use Rattle.httparse.specs.Grammar.{RequestHead}
use Rattle.desk_history.specs.Calls.{History}
use Rattle.http_requests.specs.Asked.{number_in}
use Rattle.http_requests.specs.Tags.{tag_at}
use Rattle.http_requests.specs.CheckedHead.{Want, wanted_of}
use Rattle.http_requests.specs.heads.Fields.{parts_of}
use Rattle.http_requests.specs.heads.Heads.{HasHead}
use Rattle.http_requests.specs.declared.route.CommandRoute.TheVariants as command
use Rattle.http_requests.specs.declared.route.ImageRoute.TheVariants as image
use Rattle.http_requests.specs.declared.route.PostRoute.{PostRoute}
use Rattle.http_requests.specs.declared.route.PostRoute.TheVariants.{Image, Command}
use Rattle.http_requests.specs.declared.route.Route.TheVariants.{Post}
use Rattle.http_calls.specs.Tags as tags
use Rattle.http_calls.specs.declared.answers.TaskAnswer.{TaskAnswer}
use Rattle.desk_types.specs.declared.naming.Subject.{Subject}
use Rattle.desk_types.specs.declared.naming.Subject.TheVariants as subject
use Rattle.http_exchange.specs.Serving.{AnswersInput}

-- the request or the proposal of the number in a route's target
abbrev pub numbered_by : PostRoute → ℕ → Option Subject
numbered_by (Image image.Submit) k = None
numbered_by (Image image.Return) k = Some (subject.Request k)
numbered_by (Image image.Verdict) k = None
numbered_by (Image image.Facts) k = None
numbered_by (Command command.Review) k = Some (subject.Request k)
numbered_by (Command command.Withdraw) k = Some (subject.Request k)
numbered_by (Command command.ListCertificate) k = None
numbered_by (Command command.ListDigest) k = None
numbered_by (Command command.Unlist) k = None
numbered_by (Command command.RevokeDigest) k = None
numbered_by (Command command.RevokeCertificate) k = None
numbered_by (Command command.RaiseLevel) k = None
numbered_by (Command command.ImportDbx) k = None
numbered_by (Command command.ImportCsv) k = None
numbered_by (Command command.ImportLevel) k = None
numbered_by (Command command.Confirm) k = Some (subject.Proposal k)
numbered_by (Command command.Drop) k = Some (subject.Proposal k)
numbered_by (Command command.Explain) k = Some (subject.Proposal k)

-- what a request is about, by its target
abbrev pub subject_at : PostRoute → Want → Option Subject
subject_at r w = option_and_then (numbered_by r) (number_in w)

-- b begins with the head of a command, whose If-Match gives this tag
pub record HasTag (b : List ℕ) (route : PostRoute) (w : Want) (t : List ℕ) : Type 0 where
  pub head : RequestHead
  pub rest : List ℕ
  pub begins : HasHead b head rest
  pub wants : wanted_of (parts_of head) ≡ Ok w
  pub posted : w.route ≡ Post route
  pub tag : tag_at route w ≡ Ok (Some t)

-- what the request is about has this tag
pub record IsAboutTag (cs : History) (route : PostRoute) (w : Want) (t : List ℕ) : Type 0 where
  pub subject : Subject
  pub named : subject_at route w ≡ Some subject
  pub tagged : tags.tag_at cs subject ≡ Some t

-- An input with a tag whose answer changes the history is about what has that tag.
abbrev pub MatchedInputsAreAboutTheirTag : Type 0
MatchedInputsAreAboutTheirTag =
    (owner : List ℕ) (cs : History) (b : List ℕ) (route : PostRoute) (w : Want) (t : List ℕ) (a : TaskAnswer) (later : History)
    → HasTag b route w t → AnswersInput owner cs (Some b) a later → later ≢ cs → IsAboutTag cs route w t
