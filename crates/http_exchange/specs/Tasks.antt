-- own: the tasks of commands with a body.
use Rattle.std.specs.Prelude.{ℕ, List, Option, Some, option_map}
use Rattle.desk_types.specs.declared.command.Command.{Command}
use Rattle.desk_types.specs.declared.command.Command.TheVariants as command
use Rattle.http_requests.specs.bodies.Bodies.{review_of, named_digest, unlist_of, level_of, explanation_of}
use Rattle.http_requests.specs.declared.ask.CommandAsked.{CommandAsked}
use Rattle.http_requests.specs.declared.ask.CommandAsked.TheVariants.{Whole, Json, Bytes}
use Rattle.http_requests.specs.declared.ask.JsonAsked.{JsonAsked}
use Rattle.http_requests.specs.declared.ask.JsonAsked.TheVariants as json
use Rattle.http_calls.specs.declared.call.Task.{Task}
use Rattle.http_calls.specs.declared.call.Task.TheVariants as task

-- the command in a JSON body, if it has one
abbrev pub command_in : JsonAsked → List ℕ → Option Command
command_in (json.Review request) body = option_map (λ review. command.Review review) (review_of request body)
command_in json.ListDigest body = option_map (λ digest. command.ListDigest digest) (named_digest body)
command_in json.Unlist body = option_map (λ entry. command.Unlist entry) (unlist_of body)
command_in json.RevokeDigest body = option_map (λ digest. command.RevokeDigest digest) (named_digest body)
command_in json.RevokeCertificate body = option_map (λ digest. command.RevokeCertificate digest) (named_digest body)
command_in json.RaiseLevel body = option_map (λ raise. command.RaiseLevel raise) (level_of body)
command_in (json.Explain proposal) body = option_map (λ said. command.Explain said) (explanation_of proposal body)

-- the task of a command and its body; none if a JSON body doesn't have one. Bytes are taken
-- unchanged
abbrev pub task_of : List ℕ → CommandAsked → List ℕ → Option Task
task_of key (Whole whole) body = Some (task.Command key whole)
task_of key (Json asked) body = option_map (λ said. task.Command key said) (command_in asked body)
task_of key (Bytes asked) body = Some (task.Bytes key asked body)
