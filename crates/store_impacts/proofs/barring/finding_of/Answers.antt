use Rattle.std.proofs.Common.{◌≡◌, ◌∙◌, Some, None, true, false, ap, rules}
use Rattle.sqlite.specs.Held.{state}
use Rattle.desk_history.specs.Impact.{first_rule}
use Rattle.desk_history.specs.Verdicts.{bars}
use Rattle.desk_rules.specs.Views.{ShowsLists, keys_of, seen_standing}
use Rattle.store_impacts.specs.Barring.{finding_by}
use Rattle.store_impacts.specs.declared.barring.Finding.{Finding}
use Rattle.store_impacts.proofs.BarLemmas.{finds_barred, finds_none, finds_rule}
use Rattle.store_impacts.proofs.TellsLemmas.{of_tables}
use Rattle.store_impacts.proofs.barring.finding_of.Goals as goal

pub returns-then-bars-clause-value : goal.returns-then-bars-clause-value
returns-then-bars-clause-value g c clean inside =
    let entries = g.E.Standing.standing c.args.entries.now in
    let x = c.args.facts.now in
    let view = c.in_ok-view.view in
    let barred : bars (seen_standing view) x ≡ true = search (rules, c.if-bars.ensures, c.if-bars.true) in
    of_tables (state g.S.Store c.args.tx.now.conn.now) (state g.S.Store c.list_view.new.tx.conn.now)
    (λ t. ShowsLists view t (keys_of x)) (λ cs. None ≡ finding_by entries cs x)
    (λ owner cs history shown. finds_barred entries view x owner cs shown barred) (c.in_ok-view.ensures.value clean inside)

pub returns-in-Ok-Some-clause-value : goal.returns-in-Ok-Some-clause-value
returns-in-Ok-Some-clause-value g c clean inside =
    let entries = g.E.Standing.standing c.args.entries.now in
    let x = c.args.facts.now in
    let view = c.in_ok-view.view in
    let rule = c.in-Ok-Some.rule in
    let free : bars (seen_standing view) x ≡ false = search (rules, c.if-bars.ensures, c.if-bars.false) in
    let some : Some rule ≡ first_rule entries x = search (rules, c.in-Ok-Some.ensures) in
    let found : Finding = record { is_allowed = c.allows-is_allowed.result; rule = rule } in
    of_tables (state g.S.Store c.args.tx.now.conn.now) (state g.S.Store c.list_view.new.tx.conn.now)
    (λ t. ShowsLists view t (keys_of x)) (λ cs. Some found ≡ finding_by entries cs x)
    (λ owner cs history shown. ap (λ b. Some (record found { is_allowed = b })) c.allows-is_allowed.ensures ∙ finds_rule entries view x owner cs shown free c.verdict.result c.verdict.ensures rule some)
    (c.in_ok-view.ensures.value clean inside)
