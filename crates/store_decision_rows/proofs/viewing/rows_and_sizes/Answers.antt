use Rattle.std.proofs.Common.{◌∙◌, ap, arith, subst, sym}
use Rattle.std.specs.Prelude.{find, option_copied}
use Rattle.sqlite.specs.Held.{state}
use Rattle.sqlite.specs.State.{HasCleanDisk}
use Rattle.store_schema.specs.rows.Contents.{contents}
use Rattle.store_sql.proofs.StopLemmas.{changes_then}
use Rattle.store_schema.specs.Tables.{desk_layout}
use Rattle.desk_rules.specs.Shown.{is_proposal_row}
use Rattle.desk_rules.specs.Views.{ShowsLists}
use Rattle.store_reads.specs.People.{IsOneOf}
use Rattle.store_decision_rows.specs.lists.Lists.{HoldsNoOther}
use Rattle.store_decision_rows.proofs.NamedLemmas.{keys_same}
use Rattle.store_decision_rows.proofs.viewing.rows_and_sizes.Goals as goal

pub returns-clause-value : goal.returns-clause-value
returns-clause-value g c clean inside =
    let s0 = state g.S.Store c.args.tx.now.conn.now in
    let s1 = state g.S.Store c.rows_of_call.new.tx.conn.now in
    let s2 = state g.S.Store c.lists_asked.new.tx.conn.now in
    let s3 = state g.S.Store c.count_unknown.new.tx.conn.now in
    let c2 : HasCleanDisk s2 = omega (arith, c.in_ok-known.ensures.survives.clean, clean) in
    let c1 : HasCleanDisk s1 = omega (arith, c.in_ok-lists.ensures.survives.clean, c2) in
    let b = c.in_ok-rows.ensures.value c1 inside in
    let d = c.in_ok-lists.ensures.value c2 b.kept.inside in
    let e = c.in_ok-known.ensures.value clean d.kept.inside in
    record {
      kept = changes_then desk_layout contents s0 s1 s3 (λ t. t) (λ t. t) b.kept (changes_then desk_layout contents s1 s2 s3 (λ t. t) (λ t. t) d.kept e.kept);
      tells = λ t sees back current. rw (← c.call.view_is) (
          let sees1 = b.kept.value t sees in
          let sees2 = d.kept.value t sees1 in
          let rows = rw (← c.call.view_is) at b.tells t sees back (subst (λ o. IsOneOf o t.people) (sym c.as_ref.ensures.value) current.person) in
          let known = e.tells t sees2 current.sizes in
          let told = c.sizes.ensures t c.call.inside.command.now known c.in_ok-known.ensures.learnt.enough in (
            record {
              stamp = current.stamp;
              count = told.calls;
              sizes = told.sizes;
              caller = rows.people.caller;
              names = rows.people.names;
              tokens = rows.people.tokens;
              call = rows.call;
              request = rows.request;
              votes = rows.votes;
              proposal = rows.proposal;
              lists = subst (λ k. ShowsLists c.in_ok-lists.lists t k)
                  (keys_same c.call.inside.command.now (option_copied c.named_row-proposal.result) (λ k. find (is_proposal_row k) t.proposals) (λ k named. c.named_row-proposal.ensures k named ∙ (ap (λ l. find (is_proposal_row k) l) c.deref.ensures.value ∙ rows.proposal k named)))
                  (d.tells t sees1);
            },
            known,
          ));
    }

pub returns-clause-only : goal.returns-clause-only
returns-clause-only g c =
    let held = rw (← c.call.view_is) at c.in_ok-rows.ensures.only in
    rw (← c.call.view_is) (record {
      people = held.people;
      calls = held.calls;
      requests = held.requests;
      votes = held.votes;
      proposals = held.proposals;
      lists = subst (λ k. HoldsNoOther c.in_ok-lists.lists k)
          (keys_same c.call.inside.command.now (option_copied c.named_row-proposal.result) (λ k. find (is_proposal_row k) c.in_ok-rows.rows.proposals.items)
          (λ k named. c.named_row-proposal.ensures k named ∙ ap (λ l. find (is_proposal_row k) l) c.deref.ensures.value))
          c.in_ok-lists.ensures.only;
    })

pub returns-clause-learnt : goal.returns-clause-learnt
returns-clause-learnt g c = rw (← c.call.view_is) c.in_ok-known.ensures.learnt
