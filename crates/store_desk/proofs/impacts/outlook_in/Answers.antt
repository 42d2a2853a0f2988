use Rattle.std.proofs.Common.{◌≡◌, inl, None, Some, find, rules, refl, subst, sym}
use Rattle.desk_history.specs.Impact.{standing_of}
use Rattle.desk_rules.specs.Shown.{is_proposal_row}
use Rattle.desk_rules.specs.Entries.{StandsAs, held_standing}
use Rattle.store_desk.proofs.ImpactLemmas.{its_force, no_row}
use Rattle.store_desk.proofs.impacts.outlook_in.Goals as goal

pub returns-in_default-clause-exact : goal.returns-in_default-clause-exact
returns-in_default-clause-exact c owner cs caller key legal shown =
    let none : None ≡ find (is_proposal_row c.args.number) c.args.view.now.proposals.items = search (rules, c.row_in.ensures, c.in_default.is) in
    inl (no_row c.args.view.now owner cs caller key c.args.number shown none)

pub returns-in-Ok-of-clause-exact : goal.returns-in-Ok-of-clause-exact
returns-in-Ok-of-clause-exact c owner cs caller key legal shown =
    let k = c.args.number in
    let row = c.in-Some.row.now in
    let some : Some row ≡ find (is_proposal_row k) c.args.view.now.proposals.items = search (rules, c.row_in.ensures, c.in-Some.is) in
    let it = c.in-Ok.ensures.exact owner cs caller key legal shown in (
      it.free,
      record {
        whole = refl;
        adds = it.adds;
        dbx = it.dbx;
        entries = subst (λ f. StandsAs (held_standing c.in-Ok-of.entries) (standing_of f)) (sym (its_force c.args.view.now owner cs caller key k shown row some)) c.in-Ok-of.ensures.ok;
      },
    )
