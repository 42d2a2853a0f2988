use Rattle.std.proofs.Common.{◌∙◌, ◌+◌, All, get_or, refl, rules, sym, take, arith}
use Rattle.std.proofs.lemmas.List.{take_all}
use Rattle.std.proofs.lemmas.List.Elements.{All-nil, All-same}
use Rattle.sqlite.specs.Held.{state}
use Rattle.sqlite.specs.State.{HasCleanDisk}
use Rattle.sqlite.proofs.StateLemmas.{survives_then}
use Rattle.store_reads.specs.declared.digest_numbers.DigestColumn.TheVariants.{File}
use Rattle.store_reads.proofs.TellsLemmas.{tells_none, tells_so, tells_then}
use Rattle.store_shown.specs.Searching.{MarksColumn}
use Rattle.store_shown.proofs.SearchLemmas.{columns_more}
use Rattle.store_shown.proofs.searching.mark_each.Goals as goal

pub loop-column-init : goal.loop-column-init
loop-column-init g c =
    let first = state g.S.Store c.args.tx.now.conn.now in
    (refl, search rules, λ clean inside. tells_none first (λ t. All (MarksColumn c.args.digest.now c.args.marks.now.items t) (take 0 c.args.columns.now)) inside (λ t. All-nil (MarksColumn c.args.digest.now c.args.marks.now.items t)))

pub loop-column-preserved : goal.loop-column-preserved
loop-column-preserved g c =
    let at = c.loop-column in
    let first = state g.S.Store c.args.tx.now.conn.now in
    let mid = state g.S.Store at.tx.conn.now in
    let new = state g.S.Store c.mark_column.new.tx.conn.now in
    let d = c.args.digest.now in
    let columns = c.args.columns.now in
    let old_marks = at.marks.items in
    let new_marks = c.mark_column.new.marks.items in
    let did = c.in_ok-mark_column.ensures in (
      did.same_reference ∙ at.invariant.0,
      survives_then first mid new (λ _. ⊥) (λ _. ⊥) (λ _. ⊥) (λ _ _ none. none) (λ _ _ none. none) at.invariant.1 did.survives,
      λ clean inside.
          let late : HasCleanDisk mid = omega (arith, did.survives.clean, clean) in
          let stood = at.invariant.2 late inside in
          tells_so first new (λ t. All (MarksColumn d old_marks t) (take at.column-index columns) × MarksColumn d new_marks t (get_or columns at.column-index File)) (λ t. All (MarksColumn d new_marks t) (take (at.column-index + 1) columns))
          (λ t both. columns_more old_marks new_marks did.keeps d t columns at.column-index File c.loop-column-test.true both.0 both.1)
          (tells_then first mid new (λ t. All (MarksColumn d old_marks t) (take at.column-index columns)) (λ t. MarksColumn d new_marks t (get_or columns at.column-index File)) stood (did.value clean stood.kept.inside)),
    )

pub returns-clause-value : goal.returns-clause-value
returns-clause-value g c clean inside =
    let at = c.loop-column in
    let first = state g.S.Store c.args.tx.now.conn.now in
    let d = c.args.digest.now in
    let columns = c.args.columns.now in
    let marks = at.marks.items in
    let last = at.column-index in
    tells_so first (state g.S.Store at.tx.conn.now) (λ t. All (MarksColumn d marks t) (take last columns)) (λ t. All (MarksColumn d marks t) columns)
    (λ t all. All-same (MarksColumn d marks t) columns (take last columns) (sym (take_all last columns c.loop-column-test.false)) all)
    (at.invariant.2 clean inside)
