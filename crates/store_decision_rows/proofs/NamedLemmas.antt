-- The step from the results of reads by keys to the rows that a call shows, and holds.
use Rattle.std.proofs.Common.{◌≡◌, ℕ, ◌==◌, Bool, true, false, ◌||◌, List, [], ◌∷◌, ◌++◌, filter, find, bytes_eq, Option, Some, None, IsTrue, All, refl, sym, ap, subst, ◌∙◌, arith}
use Rattle.std.specs.List.{list_any}
use Rattle.std.specs.List.Sorted.{IsPermutation}
use Rattle.std.proofs.lemmas.Bool.Decides.{nat_tests}
use Rattle.std.proofs.lemmas.Slice.Eq.{bytes_eq-Decides}
use Rattle.std.proofs.lemmas.List.Elements.{All-append, All-head, All-tail, All-weaker}
use Rattle.desk_types.specs.Naming.{person_added, proposal_named}
use Rattle.desk_types.specs.declared.command.Command.{Command}
use Rattle.desk_types.specs.declared.command.Command.TheVariants as command
use Rattle.desk_types.specs.declared.command.Person.{Person}
use Rattle.desk_history.specs.declared.rows.ProposalRow.{ProposalRow}
use Rattle.desk_history.specs.declared.rows.RequestRow.{RequestRow}
use Rattle.desk_history.specs.declared.rows.VoteRow.{VoteRow}
use Rattle.desk_history.specs.People.{has_name, has_token}
use Rattle.desk_history.specs.Requests.{votes_on}
use Rattle.desk_history.specs.Tables.{Tables}
use Rattle.desk_rules.specs.Keys.{keys_with, people_named, row_keys, tokens_named}
use Rattle.desk_rules.specs.Shown.{is_proposal_row, is_request_row}
use Rattle.store_reads.specs.Reads.{listed}
use Rattle.store_decision_rows.specs.Named.{is_named_person}
use Rattle.store_decision_rows.specs.Steps.{ShowsPeople, ShowsProposal, ShowsRequest, ShowsVotes}
use Rattle.store_decision_rows.proofs.FindLemmas.{AreAmong, after, all_among, are_of_table, before, finds}

-- ---- the keys of people

no_person : (c : Command) → person_added c ≡ None → (people_named c ≡ []) × (tokens_named c ≡ [])
no_person c none = rw none (refl, refl)

one_person : (c : Command) (p : Person) → person_added c ≡ Some p → (people_named c ≡ p.name ∷ []) × (tokens_named c ≡ p.token ∷ [])
one_person c p one = rw one (refl, refl)

the_key : (name n : List ℕ) → IsTrue (bytes_eq name n || false) → n ≡ name
the_key name n h = sym ((bytes_eq-Decides name n).0 (go (bytes_eq name n) h))
  where
    go : (b : Bool) → IsTrue (b || false) → b ≡ true
    go true h = refl
    go false h = absurd (let k = h in cc)

-- the row found by the only one of some keys
module _ {X : Type 0} (p : List ℕ → X → Bool) (rows table : List X) where
  for_none : (keys : List (List ℕ)) → keys ≡ [] → (k : List ℕ) → IsTrue (list_any (λ n. bytes_eq k n) keys) → find (p k) rows ≡ find (p k) table
  for_none keys none k h = absurd (let at = subst (λ l. IsTrue (list_any (λ n. bytes_eq k n) l)) none h in cc)

  for_one : (keys : List (List ℕ)) (key : List ℕ) → keys ≡ key ∷ [] → find (p key) rows ≡ find (p key) table
      → (k : List ℕ) → IsTrue (list_any (λ n. bytes_eq k n) keys) → find (p k) rows ≡ find (p k) table
  for_one keys key one found k h =
      subst (λ x. find (p x) rows ≡ find (p x) table) (the_key k key (subst (λ l. IsTrue (list_any (λ n. bytes_eq k n) l)) one h)) found

-- ---- people

module _ (t : Tables) (caller : List ℕ) (c : Command) (own : Option Person) (read : filter (has_name caller) t.people ≡ listed own) where
  among_own : AreAmong (listed own) t.people
  among_own = are_of_table (has_name caller) t.people own read

  -- where the command adds nobody
  pub shows_caller : (rows : List Person) → person_added c ≡ None → rows ≡ listed own → ShowsPeople rows t caller c
  shows_caller rows none is =
      let keys = no_person c none in
      record {
        caller = subst (λ l. find (has_name caller) l ≡ find (has_name caller) t.people) (sym is) (finds (has_name caller) t.people (listed own) own read among_own (λ x h. h));
        names = for_none has_name rows t.people (people_named c) keys.0;
        tokens = for_none has_token rows t.people (tokens_named c) keys.1;
      }

  -- where it adds a person
  pub shows_people : (rows : List Person) (p : Person) (namesake holder : Option Person) → person_added c ≡ Some p
      → filter (has_name p.name) t.people ≡ listed namesake → filter (has_token p.token) t.people ≡ listed holder
      → rows ≡ (listed own ++ listed namesake) ++ listed holder → ShowsPeople rows t caller c
  shows_people rows p namesake holder added named held is =
      let keys = one_person c p added in
      let all = (listed own ++ listed namesake) ++ listed holder in
      let among : AreAmong all t.people =
      all_among (listed own ++ listed namesake) (listed holder) t.people
      (all_among (listed own) (listed namesake) t.people among_own (are_of_table (has_name p.name) t.people namesake named))
      (are_of_table (has_token p.token) t.people holder held) in
      let by_caller : find (has_name caller) all ≡ find (has_name caller) t.people =
      finds (has_name caller) t.people all own read among (λ x h. before x (listed own ++ listed namesake) (listed holder) (before x (listed own) (listed namesake) h)) in
      let by_name : find (has_name p.name) all ≡ find (has_name p.name) t.people =
      finds (has_name p.name) t.people all namesake named among (λ x h. before x (listed own ++ listed namesake) (listed holder) (after x (listed own) (listed namesake) h)) in
      let by_token : find (has_token p.token) all ≡ find (has_token p.token) t.people =
      finds (has_token p.token) t.people all holder held among (λ x h. after x (listed own ++ listed namesake) (listed holder) h) in
      record {
        caller = subst (λ l. find (has_name caller) l ≡ find (has_name caller) t.people) (sym is) by_caller;
        names = for_one has_name rows t.people (people_named c) p.name keys.0 (subst (λ l. find (has_name p.name) l ≡ find (has_name p.name) t.people) (sym is) by_name);
        tokens = for_one has_token rows t.people (tokens_named c) p.token keys.1 (subst (λ l. find (has_token p.token) l ≡ find (has_token p.token) t.people) (sym is) by_token);
      }

-- rows that were put to others, three times
pub put_thrice : {X : Type 0} (none one two three a b d : List X) → none ≡ [] → one ≡ none ++ a → two ≡ one ++ b → three ≡ two ++ d → three ≡ (a ++ b) ++ d
put_thrice none one two three a b d e f g h = h ∙ ap (λ l. l ++ d) (g ∙ ap (λ l. l ++ b) (f ∙ ap (λ l. l ++ a) e))

-- ---- no other people

first_of : (a b c : Bool) → IsTrue a → IsTrue (a || b || c)
first_of true b c h = refl
first_of false b c h = absurd (let k = h in cc)

second_of : (a b c : Bool) → IsTrue b → IsTrue (a || b || c)
second_of true b c h = refl
second_of false true c h = refl
second_of false false c h = absurd (let k = h in cc)

third_of : (a b c : Bool) → IsTrue c → IsTrue (a || b || c)
third_of true b c h = refl
third_of false true c h = refl
third_of false false true h = refl
third_of false false false h = absurd (let k = h in cc)

alone : (b : Bool) → IsTrue b → IsTrue (b || false)
alone true h = refl
alone false h = absurd (let k = h in cc)

module _ (caller : List ℕ) (c : Command) where
  abbrev Asked : Person → Type 0
  Asked p = IsTrue (is_named_person caller c p)

  pub own_asked : (rows : List Person) → All (λ p. IsTrue (has_name caller p)) rows → All Asked rows
  own_asked rows all = All-weaker (λ p. IsTrue (has_name caller p)) Asked
      (λ p h. first_of (has_name caller p) (list_any (λ name. has_name name p) (people_named c)) (list_any (λ token. has_token token p) (tokens_named c)) h) rows all

  pub name_asked : (q : Person) (rows : List Person) → person_added c ≡ Some q → All (λ p. IsTrue (has_name q.name p)) rows → All Asked rows
  name_asked q rows added all = All-weaker (λ p. IsTrue (has_name q.name p)) Asked
      (λ p h. second_of (has_name caller p) (list_any (λ name. has_name name p) (people_named c)) (list_any (λ token. has_token token p) (tokens_named c))
      (subst (λ l. IsTrue (list_any (λ name. has_name name p) l)) (sym (one_person c q added).0) (alone (has_name q.name p) h))) rows all

  pub token_asked : (q : Person) (rows : List Person) → person_added c ≡ Some q → All (λ p. IsTrue (has_token q.token p)) rows → All Asked rows
  token_asked q rows added all = All-weaker (λ p. IsTrue (has_token q.token p)) Asked
      (λ p h. third_of (has_name caller p) (list_any (λ name. has_name name p) (people_named c)) (list_any (λ token. has_token token p) (tokens_named c))
      (subst (λ l. IsTrue (list_any (λ token. has_token token p) l)) (sym (one_person c q added).1) (alone (has_token q.token p) h))) rows all

  -- all of them
  pub people_asked : (rows : List Person) (q : Person) (own namesake holder : List Person) → person_added c ≡ Some q
      → All (λ p. IsTrue (has_name caller p)) own → All (λ p. IsTrue (has_name q.name p)) namesake → All (λ p. IsTrue (has_token q.token p)) holder
      → rows ≡ (own ++ namesake) ++ holder → All Asked rows
  people_asked rows q own namesake holder added a b d is =
      subst (All Asked) (sym is) (All-append Asked (own ++ namesake) holder (All-append Asked own namesake (own_asked own a) (name_asked q namesake added b)) (token_asked q holder added d))

-- ---- rows of one key

-- the only row that has the key
pub finds_alone : {X : Type 0} (p : X → Bool) (table rows : List X) (found : Option X) → rows ≡ listed found → filter p table ≡ listed found → find p rows ≡ find p table
finds_alone p table rows found is read =
    subst (λ l. find p l ≡ find p table) (sym is) (finds p table (listed found) found read (are_of_table p table found read) (λ x h. h))

-- ---- requests and votes

some_same : (n m : ℕ) → Some n ≡ Some m → n ≡ m
some_same n m e = cc

pub no_request : (rows : List RequestRow) (t : Tables) → ShowsRequest rows t None
no_request rows t k e = absurd cc

pub one_request : (rows : List RequestRow) (t : Tables) (number : ℕ) (found : Option RequestRow) → rows ≡ listed found
    → filter (is_request_row number) t.requests ≡ listed found → ShowsRequest rows t (Some number)
one_request rows t number found is read k e =
    subst (λ n. find (is_request_row n) rows ≡ find (is_request_row n) t.requests) (some_same number k e) (finds_alone (is_request_row number) t.requests rows found is read)

pub no_proposal : (rows : List ProposalRow) (t : Tables) → ShowsProposal rows t None
no_proposal rows t k e = absurd cc

pub one_proposal : (rows : List ProposalRow) (t : Tables) (number : ℕ) (found : Option ProposalRow) → rows ≡ listed found
    → filter (is_proposal_row number) t.proposals ≡ listed found → ShowsProposal rows t (Some number)
one_proposal rows t number found is read k e =
    subst (λ n. find (is_proposal_row n) rows ≡ find (is_proposal_row n) t.proposals) (some_same number k e) (finds_alone (is_proposal_row number) t.proposals rows found is read)

-- the row found by the number that the command names
pub found_by : (rows : List ProposalRow) (o : Option ℕ) (number : ℕ) (found : Option ProposalRow) → o ≡ Some number → found ≡ find (is_proposal_row number) rows → (k : ℕ) → o ≡ Some k → found ≡ find (is_proposal_row k) rows
found_by rows o number found is read k e = subst (λ n. found ≡ find (is_proposal_row n) rows) (some_same number k (sym is ∙ e)) read

-- the keys that a command reads are the same where the row of its proposal is
pub keys_same : (c : Command) (o : Option ProposalRow) (row_of : ℕ → Option ProposalRow) → ((k : ℕ) → proposal_named c ≡ Some k → o ≡ row_of k) → keys_with c (λ k. o) ≡ keys_with c row_of
keys_same (command.Confirm k) o row_of same = ap row_keys (same k refl)
keys_same _ o row_of same = refl

pub no_votes : (rows : List VoteRow) (t : Tables) → ShowsVotes rows t None
no_votes rows t k e = absurd cc

-- a filter that all of them pass
passed : {X : Type 0} (p : X → Bool) (xs : List X) → All (λ x. p x ≡ true) xs → filter p xs ≡ xs
passed p [] all = refl
passed p (x ∷ xs) all = rw (All-head (λ y. p y ≡ true) x xs all) (ap (λ l. x ∷ l) (passed p xs (All-tail (λ y. p y ≡ true) x xs all)))

same_number : (n m : ℕ) → m ≡ n → (n == m) ≡ true
same_number n m e = grind (arith, nat_tests, e)

pub votes_shown : (rows : List VoteRow) (t : Tables) (number : ℕ) → All (λ v. v.request ≡ number) rows
    → IsPermutation (filter (λ v. number == v.request) t.votes) rows → ShowsVotes rows t (Some number)
votes_shown rows t number on perm k e =
    let all : All (λ (v : VoteRow). (number == v.request) ≡ true) rows =
    All-weaker (λ (v : VoteRow). v.request ≡ number) (λ (v : VoteRow). (number == v.request) ≡ true) (λ v h. same_number number v.request h) rows on in
    subst (λ n. IsPermutation (votes_on t.votes n) (votes_on rows n)) (some_same number k e)
    (subst (λ l. IsPermutation (votes_on t.votes number) l) (sym (passed (λ (v : VoteRow). number == v.request) rows all)) perm)
