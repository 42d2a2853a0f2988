use Rattle.std.proofs.Common.{◌∙◌, ap, arith, find, refl, subst, sym}
use Rattle.std.specs.Prelude.{IsSome, option_copied}
use Rattle.sqlite.specs.Held.{state}
use Rattle.sqlite.proofs.StateLemmas.{survives_then}
use Rattle.sqlite.specs.State.{HasCleanDisk}
use Rattle.store_schema.specs.rows.Contents.{contents}
use Rattle.store_sql.proofs.StopLemmas.{changes_then}
use Rattle.store_schema.specs.Tables.{desk_layout}
use Rattle.desk_types.specs.Naming.{proposal_named}
use Rattle.desk_rules.specs.Shown.{is_proposal_row}
use Rattle.desk_rules.specs.Views.{ShowsLists}
use Rattle.store_decision_rows.specs.lists.Lists.{HoldsNoOther}
use Rattle.store_decision_rows.proofs.ConfirmLemmas.{holds_as, shows_as}
use Rattle.store_decision_rows.proofs.NamedLemmas.{keys_same}
use Rattle.store_decision_rows.proofs.viewing.rows_to_confirm.Goals as goal

pub returns-clause-value : goal.returns-clause-value
returns-clause-value g c clean inside =
    let command = c.args.command.now in
    let s0 = state g.S.Store c.args.tx.now.conn.now in
    let s1 = state g.S.Store c.proposals_of.new.tx.conn.now in
    let s2 = state g.S.Store c.lists_asked.new.tx.conn.now in
    let s3 = state g.S.Store c.count_unknown.new.tx.conn.now in
    let c2 : HasCleanDisk s2 = omega (arith, c.in_ok-known.ensures.survives.clean, clean) in
    let c1 : HasCleanDisk s1 = omega (arith, c.in_ok-lists.ensures.survives.clean, c2) in
    let b = c.in_ok-proposals.ensures.value c1 inside in
    let d = c.in_ok-lists.ensures.value c2 b.kept.inside in
    let e = c.in_ok-known.ensures.value clean d.kept.inside in
    record {
      kept = changes_then desk_layout contents s0 s1 s3 (λ t. t) (λ t. t) b.kept (changes_then desk_layout contents s1 s2 s3 (λ t. t) (λ t. t) d.kept e.kept);
      tells = λ t sees all current.
          let sees1 = b.kept.value t sees in
          let sees2 = d.kept.value t sees1 in
          let there = b.tells t sees all.proposals in
          let known = e.tells t sees2 current.sizes in
          let told = c.sizes.ensures t command known c.in_ok-known.ensures.learnt.enough in
          let lists = subst (λ l. ShowsLists c.in_ok-lists.lists t l)
          (keys_same command (option_copied c.named_row-proposal.result) (λ n. find (is_proposal_row n) t.proposals)
          (λ n named. c.named_row-proposal.ensures n named ∙ (ap (λ l. find (is_proposal_row n) l) c.deref.ensures.value ∙ there n named)))
          (d.tells t sees1) in
          (shows_as _ c.args.number command c.requires t all current.stamp told.calls told.sizes c.new.ensures.items c.new-2.ensures.items there lists, known);
    }

pub returns-clause-only : goal.returns-clause-only
returns-clause-only g c =
    holds_as _ c.args.number c.args.command.now c.requires c.new.ensures.items c.new-2.ensures.items c.new-3.ensures.items c.new-4.ensures.items c.in_ok-proposals.ensures.only
    (subst (λ l. HoldsNoOther c.in_ok-lists.lists l)
    (keys_same c.args.command.now (option_copied c.named_row-proposal.result) (λ n. find (is_proposal_row n) c.in_ok-proposals.proposals.items)
    (λ n named. c.named_row-proposal.ensures n named ∙ ap (λ l. find (is_proposal_row n) l) c.deref.ensures.value))
    c.in_ok-lists.ensures.only)

pub returns-clause-inside : goal.returns-clause-inside
returns-clause-inside g c clean inside =
    let s1 = state g.S.Store c.proposals_of.new.tx.conn.now in
    let s2 = state g.S.Store c.lists_asked.new.tx.conn.now in
    let c2 : HasCleanDisk s2 = omega (arith, c.in_ok-known.ensures.survives.clean, clean) in
    let c1 : HasCleanDisk s1 = omega (arith, c.in_ok-lists.ensures.survives.clean, c2) in
    let open_ = c.in_ok-proposals.ensures.inside (subst (λ x. IsSome (proposal_named x)) (sym c.requires) refl) c1 inside in
    let b = c.in_ok-proposals.ensures.value c1 inside in
    let d = c.in_ok-lists.ensures.value c2 b.kept.inside in
    let e = c.in_ok-known.ensures.value clean d.kept.inside in
    (e.kept.is_open (d.kept.is_open open_.0), e.kept.inside)

-- what no stop commits

pub returns-in_err-lists-clause-survives : goal.returns-in_err-lists-clause-survives
returns-in_err-lists-clause-survives g c =
    survives_then (state g.S.Store c.args.tx.now.conn.now) (state g.S.Store c.proposals_of.new.tx.conn.now) (state g.S.Store c.lists_asked.new.tx.conn.now) (λ _. ⊥) (λ _. ⊥) (λ _. ⊥)
    (λ _ _ none. none) (λ _ _ none. none) c.in_ok-proposals.ensures.survives c.in_err-lists.ensures.survives

pub returns-in_err-known-clause-survives : goal.returns-in_err-known-clause-survives
returns-in_err-known-clause-survives g c =
    let s0 = state g.S.Store c.args.tx.now.conn.now in
    let s2 = state g.S.Store c.lists_asked.new.tx.conn.now in
    survives_then s0 s2 (state g.S.Store c.count_unknown.new.tx.conn.now) (λ _. ⊥) (λ _. ⊥) (λ _. ⊥) (λ _ _ none. none) (λ _ _ none. none)
    (survives_then s0 (state g.S.Store c.proposals_of.new.tx.conn.now) s2 (λ _. ⊥) (λ _. ⊥) (λ _. ⊥) (λ _ _ none. none) (λ _ _ none. none)
    c.in_ok-proposals.ensures.survives c.in_ok-lists.ensures.survives)
    c.in_err-known.ensures.survives

pub returns-clause-survives : goal.returns-clause-survives
returns-clause-survives g c =
    let s0 = state g.S.Store c.args.tx.now.conn.now in
    let s2 = state g.S.Store c.lists_asked.new.tx.conn.now in
    survives_then s0 s2 (state g.S.Store c.count_unknown.new.tx.conn.now) (λ _. ⊥) (λ _. ⊥) (λ _. ⊥) (λ _ _ none. none) (λ _ _ none. none)
    (survives_then s0 (state g.S.Store c.proposals_of.new.tx.conn.now) s2 (λ _. ⊥) (λ _. ⊥) (λ _. ⊥) (λ _ _ none. none) (λ _ _ none. none)
    c.in_ok-proposals.ensures.survives c.in_ok-lists.ensures.survives)
    c.in_ok-known.ensures.survives

pub returns-clause-kept : goal.returns-clause-kept
returns-clause-kept g c clean inside = (returns-clause-value g c clean inside).kept.kept
