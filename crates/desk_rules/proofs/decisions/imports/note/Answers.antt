use Rattle.std.proofs.Common.{◌∙◌, ap}
use Rattle.std.specs.Prelude.{not}
use Rattle.desk_history.specs.Calls.{is_among}
use Rattle.desk_rules.proofs.ImportDigests.{found_same, inserted}
use Rattle.desk_rules.proofs.decisions.imports.note.Goals as goal

pub returns-in-Ok-clause-ok : goal.returns-in-Ok-clause-ok
returns-in-Ok-clause-ok c = c.in-Ok.ensures.added ∙ ap not (found_same c.args.digest c.args.known.now.keys)

pub returns-in-Ok-clause-known : goal.returns-in-Ok-clause-known
returns-in-Ok-clause-known c q = ap (λ keys. is_among keys q) c.in-Ok.ensures.keys ∙ inserted c.args.digest c.args.known.now.keys q
