-- The tables of version 2 of a history of calls by the first rules.
use Rattle.std.proofs.Common.{◌≡◌, ℕ, ◌+◌, List, [], ◌∷◌, ◌++◌, length, map, cond, None, true, refl, sym, ap, ap₂, ◌∙◌, arith}
use Rattle.std.specs.Prelude.{count_by}
use Rattle.std.specs.List.{list_all}
use Rattle.std.proofs.lemmas.Bool.{and_parts}
use Rattle.std.proofs.lemmas.List.Sums.{sum_by-cons}
use Rattle.desk_types.specs.declared.command.Call.{Call}
use Rattle.desk_history.specs.declared.rows.ProposalRow.{ProposalRow}
use Rattle.desk_history.specs.Calls.{First, History, Item, Rules, Second, is_first, under}
use Rattle.desk_history.specs.Proposals.{Proposal, proposal_state, proposals, proposed_by, with_next}
use Rattle.desk_history.specs.Replies.{minutes}
use Rattle.desk_history.specs.Tables.{Tables, proposal_row, tables}
use Rattle.store_sql.specs.Contents.{no_rows}
use Rattle.store_schema.specs.Tables.{added_tables, defined}
use Rattle.store_writes.specs.Steps.{with_migrated, with_version}
use Rattle.store_schema.specs.rows.Contents.{contents}
use Rattle.store_schema.specs.rows.Histories.{AreFirst, first_rows_of}

-- the tables of version 1 with the three others, which have no row
abbrev pub as_first : Tables → Tables
as_first t = record t { desk = record t.desk { version = 1 }; proposals = []; migrated = [] }

pub with_others : (owner : List ℕ) (cs : History) → first_rows_of owner cs ++ no_rows (map defined added_tables) ≡ contents (as_first (tables owner cs))
with_others owner cs = refl

proposes_none : (c : Call) (rules : Rules) → is_first (under rules c) ≡ true → proposed_by (under rules c) ≡ None
proposes_none c First first = refl
proposes_none c Second first = absurd cc

-- nothing is proposed by the first rules
no_proposals : (cs : History) → AreFirst cs → proposals cs ≡ []
no_proposals [] first = refl
no_proposals (i ∷ cs) first =
    let parts = and_parts (is_first i) (list_all is_first cs) first in
    ap (with_next (proposals cs) i.call) (proposes_none i.call i.rules parts.0) ∙ no_proposals cs parts.1

-- all calls are counted
counted : (cs : History) → AreFirst cs → length (minutes cs) ≡ count_by is_first cs
counted [] first = refl
counted (i ∷ cs) first =
    let parts = and_parts (is_first i) (list_all is_first cs) first in
    let rest = counted cs parts.1 in
    let sum : count_by is_first (i ∷ cs) ≡ cond (is_first i) 1 0 + count_by is_first cs = sum_by-cons (λ (y : Item). cond (is_first y) 1 0) i cs in
    let one : ◌≡◌ {A = ℕ} (cond (is_first i) 1 0) 1 = ap (λ b. cond b 1 0) parts.0 in
    omega (arith, rest, sum, one)

-- with their number, and the version, these are the tables of version 2
pub migrated_tables : (owner : List ℕ) (cs : History) (n : ℕ) → AreFirst cs → n ≡ length (minutes cs) → with_version 2 (with_migrated n (as_first (tables owner cs))) ≡ tables owner cs
migrated_tables owner cs n first is =
    ap₂ (λ (ps : List ProposalRow) k. record (tables owner cs) { proposals = ps; migrated = record { id = 1; calls = k } ∷ [] })
    (ap (map (λ (p : Proposal). proposal_row (proposal_state cs p.number) p)) (sym (no_proposals cs first))) (is ∙ counted cs first)
