use Rattle.std.proofs.Common.{◌≡◌, true, false, Some, None, filter, subst, rules}
use Rattle.std.specs.Prelude.{option_copied}
use Rattle.sqlite.specs.Held.{state}
use Rattle.desk_history.specs.People.{has_name}
use Rattle.desk_history.specs.Roles.{is_officer}
use Rattle.store_reads.specs.Reads.{ReadsTables, listed}
use Rattle.store_shown.proofs.OfficerLemmas.{tells_kept, tells_nobody, tells_role}
use Rattle.store_shown.proofs.officer.officer_of.Goals as goal

pub returns-then-is_kept_officer-clause-value : goal.returns-then-is_kept_officer-clause-value
returns-then-is_kept_officer-clause-value g c clean inside =
    tells_kept (option_copied c.args.kept_person) c.args.name.now (state g.S.Store c.args.tx.now.conn.now) (c.is_kept_officer.ensures c.if-is_kept_officer.true) inside

pub returns-in_default-clause-value : goal.returns-in_default-clause-value
returns-in_default-clause-value g c clean inside =
    let found = c.in_ok-found.found in
    let s0 = state g.S.Store c.args.tx.now.conn.now in
    let s1 = state g.S.Store c.person_named.new.tx.conn.now in
    let same : c.as_str.result.now ≡ c.args.name.now = search rules in
    let read = subst (λ n. ReadsTables (λ t. filter (has_name n) t.people ≡ listed found) s0 s1) same (c.in_ok-found.ensures.value clean inside) in
    let none : found ≡ None = search (rules, c.in_default.is) in
    tells_nobody (option_copied c.args.kept_person) c.args.name.now found s0 s1
    none read

pub returns-then-not-is_officer-clause-value : goal.returns-then-not-is_officer-clause-value
returns-then-not-is_officer-clause-value g c clean inside =
    let found = c.in_ok-found.found in
    let s0 = state g.S.Store c.args.tx.now.conn.now in
    let s1 = state g.S.Store c.person_named.new.tx.conn.now in
    let same : c.as_str.result.now ≡ c.args.name.now = search rules in
    let read = subst (λ n. ReadsTables (λ t. filter (has_name n) t.people ≡ listed found) s0 s1) same (c.in_ok-found.ensures.value clean inside) in
    let reader = c.in-Some.reader in
    let some : found ≡ Some reader = search (rules, c.in-Some.is) in
    let no : is_officer reader.role ≡ false = search rules in
    tells_role (option_copied c.args.kept_person) c.args.name.now found s0 s1
    reader false some no read

pub returns-clause-value : goal.returns-clause-value
returns-clause-value g c clean inside =
    let found = c.in_ok-found.found in
    let s0 = state g.S.Store c.args.tx.now.conn.now in
    let s1 = state g.S.Store c.person_named.new.tx.conn.now in
    let same : c.as_str.result.now ≡ c.args.name.now = search rules in
    let read = subst (λ n. ReadsTables (λ t. filter (has_name n) t.people ≡ listed found) s0 s1) same (c.in_ok-found.ensures.value clean inside) in
    let reader = c.in-Some.reader in
    let some : found ≡ Some reader = search (rules, c.in-Some.is) in
    let yes_ : is_officer reader.role ≡ true = search rules in
    tells_role (option_copied c.args.kept_person) c.args.name.now found s0 s1
    reader true some yes_ read
