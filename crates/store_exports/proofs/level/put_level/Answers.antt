use Rattle.std.proofs.Common.{[], ◌≡◌, ◌++◌, ℕ, flat_map, ap, rules, sym, subst}
use Rattle.std.proofs.lemmas.Result.{err_from_is_err_and}
use Rattle.sqlite.specs.Held.{state}
use Rattle.sqlite.specs.State.{Survives}
use Rattle.sbat.specs.Writing.{head_text, row_text}
use Rattle.base.specs.Output.{AppendsBeginning}
use Rattle.base.proofs.OutputLemmas.{AppendsBeginning-before}
use Rattle.desk_history.specs.Calls.{History}
use Rattle.desk_exports.specs.Exports.{level_components}
use Rattle.desk_exports.proofs.PartLemmas.{rows-parts}
use Rattle.store_schema.specs.declared.selecting.TheConstants.{SELECT_COMPONENTS}
use Rattle.store_schema.specs.rows.Values.{component_values}
use Rattle.store_schema.proofs.SelectFacts as facts
use Rattle.store_exports.specs.Exporting.{Exports, level_with}
use Rattle.store_exports.proofs.ListedLemmas.{tells_components}
use Rattle.store_exports.proofs.StepLemmas.{after_write, of_rows, same_bytes, stopped_read}
use Rattle.store_exports.proofs.level.put_level.Goals as goal

-- the head and the lines are the level with this stamp
is_level : (n : ℕ) (cs : History) → head_text n ++ flat_map (λ x. row_text x.name x.generation) (level_components cs) ≡ level_with n cs
is_level n cs = ap (λ l. head_text n ++ l) (sym (rows-parts (level_components cs)))

pub returns-in_err-level_head : goal.returns-in_err-level_head
returns-in_err-level_head g c =
    let old = c.args.conn.now in
    let n = c.args.stamp in
    let x = g.W.Write.contents c.args.writer.now in
    let y = g.W.Write.contents c.level_head.new.writer in
    let same : Survives (state g.S.Store old) (state g.S.Store old) (λ _. ⊥) = search rules in
    let p = err_from_is_err_and c.from_residual.result c.from_residual.ensures.1 in
    subst (λ r. Exports g.S.Store old old x y r (level_with n)) (sym p.1)
    (stopped_read g.S.Store old old x y p.0 (level_with n) (λ _ _ was. was) same
    (λ clean owner cs was. subst (AppendsBeginning x y) (is_level n cs)
    (AppendsBeginning-before x y (head_text n) (flat_map (λ x. row_text x.name x.generation) (level_components cs)) c.in_err-level_head.ensures.err)))

pub returns : goal.returns
returns g c =
    let old = c.args.conn.now in
    let end = c.put_rows.new.conn in
    let n = c.args.stamp in
    let x = g.W.Write.contents c.args.writer.now in
    let y = g.W.Write.contents c.level_head.new.writer in
    let z = g.W.Write.contents c.put_rows.new.writer in
    same_bytes g.S.Store old end x z c.put_rows.result (λ cs. head_text n ++ flat_map (λ x. row_text x.name x.generation) (level_components cs)) (level_with n) (is_level n)
    (after_write g.S.Store old end x y z c.put_rows.result (head_text n) (λ cs. flat_map (λ x. row_text x.name x.generation) (level_components cs)) c.in_ok-level_head.ensures.ok
    (of_rows g.S.Store component_values (λ x. row_text x.name x.generation) SELECT_COMPONENTS.now [] level_components old end y z c.put_rows.result
    (λ schema fits. (facts.select_components schema fits).plain) (tells_components (state g.S.Store old)) c.put_rows.ensures))
