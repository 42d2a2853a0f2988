-- Sizes after a call that either rules accept.
use Rattle.std.proofs.Common.{◌≡◌, ℕ, ◌+◌, ◌-◌, ◌<◌, Bool, true, List, [], ◌∷◌, length, Option, Some, None, refl, sym, ◌∙◌, ap, subst, arith}
use Rattle.std.specs.Prelude.{IsTrue, count_by, is_some, nat_lt}
use Rattle.std.proofs.lemmas.Bool.Decides.{nat_tests}
use Rattle.desk_types.specs.declared.command.Call.{Call}
use Rattle.desk_types.specs.declared.command.Command.{Command}
use Rattle.desk_types.specs.declared.command.Command.TheVariants as command
use Rattle.desk_types.specs.Callers.{caller_name}
use Rattle.desk_history.specs.declared.write.Write.{Write}
use Rattle.desk_history.specs.Calls.{History, Item, is_first, item}
use Rattle.desk_history.specs.Listing.{listed}
use Rattle.desk_history.specs.Replies.{minutes}
use Rattle.desk_history.specs.Runs.{is_legal}
use Rattle.desk_history.specs.Tables.{Tables, tables}
use Rattle.desk_history.specs.Writes.{all_written, written}
use Rattle.desk_history.proofs.CountLemmas.{one_if}
use Rattle.desk_history.proofs.RunLemmas.{IsNewest, newest}
use Rattle.desk_rules.specs.declared.view.LimitedTable.{LimitedTable}
use Rattle.desk_rules.specs.declared.view.LimitedTable.TheVariants as counted
use Rattle.desk_rules.specs.Room.{puts}
use Rattle.desk_rules.specs.Shown.{rows_in}
use Rattle.desk_rules.proofs.FewRows.{few_calls, few_rows}
use Rattle.desk_rules.proofs.RoomLemmas.{certificates_step, components_step, digests_step, grows, people_step, proposals_step, requests_step}
use Rattle.store_decision_rows.specs.declared.sizes.known.KnownSizes.{KnownSizes}
use Rattle.store_decision_rows.specs.sizes.Sizes.{AreAllKnown, AreEnough, AreRight, Follows, KnowsNoLess, but_migrated, known}
use Rattle.store_decision_rows.specs.sizes.Steps.{listed_after, more, one_less, sizes_after}
use Rattle.store_decision_rows.proofs.ListedLemmas.{Changed, listed_changes}

-- a size after a command is that of a table with `rows` rows, and is known where the one before is
record Goes (before after : Option ℕ) (rows : ℕ) : Type 0 where
  right : (m : ℕ) → after ≡ Some m → m ≡ rows
  kept : IsTrue (is_some before) → IsTrue (is_some after)

-- rows were put in
more_goes : (k : Option ℕ) (count rows later : ℕ) → ((n : ℕ) → k ≡ Some n → n ≡ rows) → count + rows ≡ later → later < 18446744073709551616 → Goes k (more k count) later
more_goes None count rows later right grown small = record { right = λ m e. cc; kept = λ h. h }
more_goes (Some n) count rows later right grown small =
    let same : n ≡ rows = right n refl in
    let sum : n + count ≡ later = omega (arith, same, grown) in
    let fine : nat_lt (n + count) 18446744073709551616 ≡ true = grind (arith, nat_tests, sum, small) in
    rw fine (record { right = λ m e. inner (n + count) m e ∙ sum; kept = λ h. h })
  where
    inner : (a b : ℕ) → Some a ≡ Some b → b ≡ a
    inner a b e = cc

-- one row was taken off
less_goes : (k : Option ℕ) (rows later : ℕ) → ((n : ℕ) → k ≡ Some n → n ≡ rows) → rows ≡ later + 1 → Goes k (one_less k) later
less_goes None rows later right fewer = record { right = λ m e. cc; kept = λ h. h }
less_goes (Some n) rows later right fewer =
    let same : n ≡ rows = right n refl in
    let rest : n - 1 ≡ later = omega (arith, same, fewer) in
    let fine : nat_lt 0 n ≡ true = grind (arith, nat_tests, same, fewer) in
    rw fine (record { right = λ m e. inner (n - 1) m e ∙ rest; kept = λ h. h })
  where
    inner : (a b : ℕ) → Some a ≡ Some b → b ≡ a
    inner a b e = cc

-- the table stays
same_goes : (k : Option ℕ) (rows later : ℕ) → ((n : ℕ) → k ≡ Some n → n ≡ rows) → later ≡ rows → Goes k k later
same_goes k rows later right same = record { right = λ m e. right m e ∙ sym same; kept = λ h. h }

-- the listed entries, by the command
listed_goes : (k : Option ℕ) (given : Command) (rows later : ℕ) → ((n : ℕ) → k ≡ Some n → n ≡ rows) → Changed given rows later → later < 18446744073709551616 → Goes k (listed_after k given) later
listed_goes k (command.ListCertificate c) rows later right changed small = more_goes k 1 rows later right (omega (arith, changed)) small
listed_goes k (command.ListDigest d) rows later right changed small = more_goes k 1 rows later right (omega (arith, changed)) small
listed_goes k (command.Unlist l) rows later right changed small = less_goes k rows later right changed
listed_goes k (command.AddPerson _) rows later right changed small = same_goes k rows later right changed
listed_goes k (command.Submit _) rows later right changed small = same_goes k rows later right changed
listed_goes k (command.Review _) rows later right changed small = same_goes k rows later right changed
listed_goes k (command.Withdraw _) rows later right changed small = same_goes k rows later right changed
listed_goes k (command.Return _) rows later right changed small = same_goes k rows later right changed
listed_goes k (command.RevokeDigest _) rows later right changed small = same_goes k rows later right changed
listed_goes k (command.RevokeCertificate _) rows later right changed small = same_goes k rows later right changed
listed_goes k (command.RaiseLevel _) rows later right changed small = same_goes k rows later right changed
listed_goes k (command.ImportRevocations _) rows later right changed small = same_goes k rows later right changed
listed_goes k (command.Confirm _) rows later right changed small = same_goes k rows later right changed
listed_goes k (command.Drop _) rows later right changed small = same_goes k rows later right changed
listed_goes k (command.Explain _) rows later right changed small = same_goes k rows later right changed

module _ (owner : List ℕ) (cs : History) (i : Item) (ws : List Write) (k : KnownSizes) (legal : is_legal (i ∷ cs) ≡ true)
    (made : all_written ws (tables owner cs) ≡ but_migrated owner cs i) (right : AreRight k (tables owner cs)) where
  abbrev later : History
  later = i ∷ cs

  at : IsNewest cs i
  at = newest cs i legal

  few : (table : LimitedTable) → rows_in (tables owner later) table < 18446744073709551616
  few = few_rows owner cs i legal

  -- the size of a table, by a measure that each write of a kind makes one more
  grown : (measure : Tables → ℕ) (p : Write → Bool) → ((w : Write) (t : Tables) → measure (written w t) ≡ one_if (p w) + measure t)
      → count_by p ws + measure (tables owner cs) ≡ measure (but_migrated owner cs i)
  grown measure p step = sym (grows measure p step ws (tables owner cs)) ∙ ap measure made

  goes : (table : LimitedTable) → Goes (known k table) (known (sizes_after k i.call.command ws) table) (rows_in (tables owner later) table)
  goes counted.People =
      more_goes k.people (count_by (puts counted.People) ws) (rows_in (tables owner cs) counted.People) (rows_in (tables owner later) counted.People)
      (right.sizes counted.People) (grown (λ t. length t.people) (puts counted.People) people_step) (few counted.People)
  goes counted.Requests =
      more_goes k.requests (count_by (puts counted.Requests) ws) (rows_in (tables owner cs) counted.Requests) (rows_in (tables owner later) counted.Requests)
      (right.sizes counted.Requests) (grown (λ t. length t.requests) (puts counted.Requests) requests_step) (few counted.Requests)
  goes counted.Proposals =
      more_goes k.proposals (count_by (puts counted.Proposals) ws) (rows_in (tables owner cs) counted.Proposals) (rows_in (tables owner later) counted.Proposals)
      (right.sizes counted.Proposals) (grown (λ t. length t.proposals) (puts counted.Proposals) proposals_step) (few counted.Proposals)
  goes counted.Listed =
      listed_goes k.listed i.call.command (length (listed cs)) (length (listed later)) (right.sizes counted.Listed)
      (listed_changes owner cs at.before (caller_name i.call.caller) i.call.command at.new.own) (few counted.Listed)
  goes counted.RevokedDigests =
      more_goes k.revoked_digests (count_by (puts counted.RevokedDigests) ws) (rows_in (tables owner cs) counted.RevokedDigests) (rows_in (tables owner later) counted.RevokedDigests)
      (right.sizes counted.RevokedDigests) (grown (λ t. length t.revoked_digests) (puts counted.RevokedDigests) digests_step) (few counted.RevokedDigests)
  goes counted.RevokedCertificates =
      more_goes k.revoked_certificates (count_by (puts counted.RevokedCertificates) ws) (rows_in (tables owner cs) counted.RevokedCertificates)
      (rows_in (tables owner later) counted.RevokedCertificates) (right.sizes counted.RevokedCertificates)
      (grown (λ t. length t.revoked_certificates) (puts counted.RevokedCertificates) certificates_step) (few counted.RevokedCertificates)
  goes counted.Components =
      more_goes k.components (count_by (puts counted.Components) ws) (rows_in (tables owner cs) counted.Components) (rows_in (tables owner later) counted.Components)
      (right.sizes counted.Components) (grown (λ t. length t.components) (puts counted.Components) components_step) (few counted.Components)

  calls_go : Goes k.calls (more k.calls 1) (length (minutes later))
  calls_go = more_goes k.calls 1 (length (minutes cs)) (length (minutes later)) right.calls (omega arith) (few_calls owner cs i legal)

  pub follows_one : AreRight (sizes_after k i.call.command ws) (tables owner later) × KnowsNoLess k (sizes_after k i.call.command ws)
  follows_one = (
    record { calls = calls_go.right; sizes = λ table. (goes table).right },
    record { calls = calls_go.kept; sizes = λ table. (goes table).kept },
  )

pub follows : (k : KnownSizes) (given : Command) (ws : List Write) → Follows k given ws (sizes_after k given ws)
follows k given ws owner cs i legal same made right =
    subst (λ g. AreRight (sizes_after k g ws) (tables owner (i ∷ cs)) × KnowsNoLess k (sizes_after k g ws)) same (follows_one owner cs i ws k legal made right)

-- the tables that a call by the second rules makes: the first rules accepted no more
pub made_second : (owner : List ℕ) (cs : History) (c : Call) (made : Tables) → made ≡ tables owner (item c ∷ cs) → made ≡ but_migrated owner cs (item c)
made_second owner cs c made is =
    let no_more : count_by is_first (item c ∷ cs) ≡ count_by is_first cs = omega arith in
    is ∙ ap (λ (n : ℕ). record (tables owner (item c ∷ cs)) { migrated = record { id = 1; calls = n } ∷ [] }) no_more

-- ---- the sizes of a desk without calls

abbrev pub no_sizes : KnownSizes
no_sizes = record {
  people = Some 0;
  calls = Some 0;
  requests = Some 0;
  listed = Some 0;
  revoked_digests = Some 0;
  revoked_certificates = Some 0;
  components = Some 0;
  proposals = Some 0;
}

none_at_first : (n : ℕ) → Some 0 ≡ Some n → n ≡ 0
none_at_first n e = cc

no_rows : (owner : List ℕ) (table : LimitedTable) (n : ℕ) → known no_sizes table ≡ Some n → n ≡ rows_in (tables owner []) table
no_rows owner counted.People = none_at_first
no_rows owner counted.Requests = none_at_first
no_rows owner counted.Listed = none_at_first
no_rows owner counted.RevokedDigests = none_at_first
no_rows owner counted.RevokedCertificates = none_at_first
no_rows owner counted.Components = none_at_first
no_rows owner counted.Proposals = none_at_first

pub right_at_first : (owner : List ℕ) → AreRight no_sizes (tables owner [])
right_at_first owner = record { calls = none_at_first; sizes = no_rows owner }

some_at_first : (table : LimitedTable) → IsTrue (is_some (known no_sizes table))
some_at_first counted.People = refl
some_at_first counted.Requests = refl
some_at_first counted.Listed = refl
some_at_first counted.RevokedDigests = refl
some_at_first counted.RevokedCertificates = refl
some_at_first counted.Components = refl
some_at_first counted.Proposals = refl

pub known_at_first : AreAllKnown no_sizes
known_at_first = record { calls = refl; sizes = some_at_first }

-- ---- sizes that stay known

pub all_known : (before after : KnownSizes) → AreAllKnown before → KnowsNoLess before after → AreAllKnown after
all_known before after was no_less = record { calls = no_less.calls was.calls; sizes = λ table. no_less.sizes table (was.sizes table) }

pub enough : (k : KnownSizes) (given : Command) → AreAllKnown k → AreEnough k given
enough k given all = record { calls = all.calls; sizes = λ table _. all.sizes table }
