use Rattle.std.proofs.Common.{sym, ◌∙◌}
use Rattle.store_desk.proofs.opening.read_table.Goals as goal

pub returns-then-is_there-clause-told : goal.returns-then-is_there-clause-told
returns-then-is_there-clause-told g c clean = record {
  told = c.in-Ok.ensures.told clean;
  named = sym c.has_desk-is_there.ensures ∙ c.if-is_there.true;
}
