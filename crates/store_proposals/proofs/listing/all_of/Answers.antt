use Rattle.std.proofs.Common.{◌≡◌, ◌∙◌, [], ◌∷◌, ◌++◌, append_assoc, append-nil, length, rules, refl, sym, ap, subst, arith}
use Rattle.std.specs.List.{AllZip}
use Rattle.std.specs.Vec.Iter.{into_iter_items}
use Rattle.sqlite.specs.Held.{state}
use Rattle.sqlite.specs.State.{HasCleanDisk}
use Rattle.sqlite.proofs.StateLemmas.{survives_then}
use Rattle.store_reads.specs.Reads.{ReadsTables}
use Rattle.store_reads.proofs.TellsLemmas.{tells_none, tells_so, tells_then}
use Rattle.store_proposals.specs.Listing.{AreTold, IsTold, IsToldOf}
use Rattle.store_proposals.proofs.HeadLemmas.{nothing_left, told_more}
use Rattle.store_proposals.proofs.listing.all_of.Goals as goal

pub loop-head-init : goal.loop-head-init
loop-head-init g c =
    let first = state g.S.Store c.args.tx.now.conn.now in
    let empty : c.new-all.result.items ≡ [] = search rules in
    (refl, search rules, search rules, λ clean inside. ([], refl, subst (λ l. ReadsTables (AreTold [] l) first first) (sym empty) (tells_none first (AreTold [] []) inside (λ t stamped. tt))))

pub loop-head-preserved : goal.loop-head-preserved
loop-head-preserved g c =
    let at = c.loop-head in
    let first = state g.S.Store c.args.tx.now.conn.now in
    let mid = state g.S.Store at.tx.conn.now in
    let new = state g.S.Store c.shown_of.new.tx.conn.now in
    let did = c.in_ok-shown.ensures in
    let head = c.in-Some.head in
    let shown = c.in_ok-shown.shown in
    let had = at.all.items in
    let rest = into_iter_items c.next.new.self in
    let steps : into_iter_items at.head-iterator ≡ head ∷ rest = c.in-Some.ensures.steps.0 in
    let pushed : c.push.new.self.items ≡ had ++ shown ∷ [] = rw c.if-is_err.ensures.negation at c.push.ensures.items in (
      did.same_reference ∙ at.invariant.0,
      survives_then first mid new (λ _. ⊥) (λ _. ⊥) (λ _. ⊥) (λ _ _ none. none) (λ _ _ none. none) at.invariant.1 did.survives,
      let was = at.invariant.2 in
          let gone = c.in-Some.ensures.steps.1 in
          let short = ap length steps in
          omega arith,
      λ clean inside.
          let late : HasCleanDisk mid = omega (arith, did.survives.clean, clean) in
          let stood = at.invariant.3 late inside in
          let done = stood.0 in (
            done ++ head ∷ [],
            append_assoc done (head ∷ []) rest ∙ ap (λ l. done ++ l) (sym steps) ∙ stood.1,
            tells_so first new (λ t. AreTold done had t × IsTold head shown t) (AreTold (done ++ head ∷ []) c.push.new.self.items)
                (λ t both stamped. subst (AllZip (IsToldOf t) (done ++ head ∷ [])) (sym pushed) (told_more t done had head shown (both.0 stamped) (both.1 stamped)))
                (tells_then first mid new (AreTold done had) (IsTold head shown) stood.2 (did.value clean stood.2.kept.inside)),
          ),
    )

pub returns-clause-value : goal.returns-clause-value
returns-clause-value g c clean inside =
    let at = c.loop-head in
    let first = state g.S.Store c.args.tx.now.conn.now in
    let last = state g.S.Store at.tx.conn.now in
    let stood = at.invariant.3 clean inside in
    let empty : into_iter_items at.head-iterator ≡ [] = nothing_left _ (sym at.invariant.2 ∙ c.in-None.ensures.steps.0) in
    let all : stood.0 ≡ c.args.heads.items = sym (append-nil stood.0) ∙ ap (λ l. stood.0 ++ l) (sym empty) ∙ stood.1 ∙ c.into_iter-head-iterator.ensures.into_iter_gives.0 in
    subst (λ l. ReadsTables (AreTold l at.all.items) first last) all stood.2
