-- Clauses about one request over a socket, whose bytes no clause can name.
use Rattle.std.specs.Prelude.{ℕ, List, Option, Result}
use Rattle.desk_history.specs.Calls.{History}
use Rattle.http_exchange.specs.Serving.{AnswersOne}
use Rattle.http_exchange.specs.declared.served.HttpFault.{HttpFault}
use Rattle.http_exchange.specs.declared.served.Served.{Served}

-- A desk answered the one request of some input, as `AnswersOne` says, and wrote to some writer.
pub record IsOneRequest {D : Type 0} (shows : D → List ℕ → History → Type 0) (clean failed : D → Type 0) (leaves : D → List ℕ → History → History → Type 0) (old new : D) (served : Result Served HttpFault) : Type 0 where
  pub input : Option (List ℕ)
  pub held : Option (List ℕ)
  pub holds : Option (List ℕ)
  pub answers : AnswersOne shows clean failed leaves input held holds old new served
