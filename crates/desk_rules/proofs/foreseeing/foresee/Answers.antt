use Rattle.std.proofs.Common.{rules, refl, inl}
use Rattle.desk_rules.proofs.ForeseeingLemmas.{foresees, foresees_full, foresees_none, foresees_refused}
use Rattle.desk_rules.proofs.foreseeing.foresee.Goals as goal

pub returns-in_err-enforced-clause-exact : goal.returns-in_err-enforced-clause-exact
returns-in_err-enforced-clause-exact c owner cs caller key legal shown =
    foresees_refused c.args.view.now c.args.number owner cs caller key legal shown _ (c.in_err-enforced.ensures.exact owner cs caller key shown) _ (search rules)

pub returns-then-not-has_room-clause-exact : goal.returns-then-not-has_room-clause-exact
returns-then-not-has_room-clause-exact c owner cs caller key legal shown =
    inl (foresees_full c.args.view.now c.args.number owner cs caller key legal shown c.in_ok-enforced.enforced (c.in_ok-enforced.ensures.exact owner cs caller key shown) (search rules))

pub returns-in-None-clause-exact : goal.returns-in-None-clause-exact
returns-in-None-clause-exact c owner cs caller key legal shown =
    foresees_none c.args.view.now c.args.number owner cs caller key legal shown c.in_ok-enforced.enforced (c.in_ok-enforced.ensures.exact owner cs caller key shown) (search rules) (search rules)

pub returns-clause-exact : goal.returns-clause-exact
returns-clause-exact c owner cs caller key legal shown =
    foresees c.args.view.now c.args.number owner cs caller key legal shown c.in_ok-enforced.enforced (c.in_ok-enforced.ensures.exact owner cs caller key shown) (search rules) c.in-Some.dbx (search rules) _ refl
