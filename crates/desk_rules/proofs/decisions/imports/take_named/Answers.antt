use Rattle.desk_rules.proofs.decisions.imports.take_named.Goals as goal

pub returns-clause-ok : goal.returns-clause-ok
returns-clause-ok c = rw (c.as_slice-components.ensures.value, c.components.ensures, c.deref.ensures.value) at c.take_all.ensures.ok
