use Rattle.store_first_rules.proofs.desk.FirstDesk.into_desk.Goals as goal

pub returns-in-Ok-clause-shown : goal.returns-in-Ok-clause-shown
returns-in-Ok-clause-shown g c clean owner cs was = c.in-Ok.ensures.shown clean owner cs was.history was.shows was.left

pub returns-clause-spared : goal.returns-clause-spared
returns-clause-spared g c owner cs was = c.in-Err.ensures.spared owner cs was.shows
