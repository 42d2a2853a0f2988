-- The search for the requests that have a digest.
use Rattle.std.proofs.Common.{◌≡◌, ◌⊎◌, inl, inr, ℕ, zero, suc, add-one, ◌+◌, ◌<◌, ◌≤◌, ◌==◌, ◌||◌, Bool, true, false, List, [], ◌∷◌, ◌++◌, map, filter, find, length, take, drop, set, get_or, All, Option, Some, None, Result, Ok, Err, refl, sym, ap, ap₂, subst, ◌∙◌, length-append, length-set, get_or-set_same, get_or-set_other, take-append-drop, append-nil, arith, true≢false}
use Rattle.std.specs.Prelude.{bytes_eq, flat_map}
use Rattle.std.specs.List.{AllByRecursion, AllZip}
use Rattle.std.specs.Result.{result_map_both}
use mir.Val.{bool_byte}
use Rattle.std.proofs.lemmas.Bool.{cases_eq, or_cases}
use Rattle.std.proofs.lemmas.List.{length-map, length-reverse, map-append}
use Rattle.std.proofs.lemmas.List.Elements.{All-more, All-weaker, filter-append, recursion_from_All}
use Rattle.std.proofs.lemmas.List.Sorted.{IsPermutation-reverse}
use Rattle.std.proofs.Math.ListN.{drop_of_length-le}
use Rattle.sqlite_trees.proofs.ListLemmas.{all-filter, all-permutation, all_weaker, filter-map}
use Rattle.base.specs.declared.refusal.Refusal.{Refusal}
use Rattle.base.specs.declared.refusal.Refusal.TheVariants as refusals
use Rattle.desk_types.specs.declared.caller.Caller.TheVariants as callers
use Rattle.desk_types.specs.declared.command.Person.{Person}
use Rattle.desk_types.specs.declared.shown.ShownRequest.{ShownRequest}
use Rattle.desk_history.specs.Calls.{History, is_among}
use Rattle.desk_history.specs.Formed.{IsHistory}
use Rattle.desk_history.specs.Requests.{Request, Returned, requests, returns, submitted}
use Rattle.desk_history.specs.Shown.{IsGiven, IsShown, Whole, returned, whole}
use Rattle.desk_history.specs.Tables.{Tables, certificate_rows, return_row, tables}
use Rattle.desk_history.specs.declared.rows.RequestCertificateRow.{RequestCertificateRow}
use Rattle.desk_history.specs.declared.rows.RequestRow.{RequestRow}
use Rattle.desk_history.specs.declared.rows.ReturnRow.{ReturnRow}
use Rattle.desk_history.proofs.ListLemmas.{number_is}
use Rattle.desk_history.proofs.ShownLemmas.{found_passes}
use Rattle.desk_exports.specs.DigestSearch as search
use Rattle.desk_exports.specs.Readings.{GivesRequests, HoldsShown}
use Rattle.desk_exports.specs.declared.shown.Shown.TheVariants as answers
use Rattle.store_proposals.proofs.PlaceLemmas as place
use Rattle.store_reads.specs.Numbers.{numbers_in}
use Rattle.store_reads.specs.declared.digest_numbers.DigestColumn.{DigestColumn}
use Rattle.store_reads.specs.declared.digest_numbers.DigestColumn.TheVariants as columns
use Rattle.store_shown.specs.Choosing.{keeps_shown, picks_row}
use Rattle.store_shown.specs.Searching.{AreMarked, FindsAfter, FindsUpTo, KeepsMarks, MarksAll, MarksColumn, TakesMarked, is_marked, numbers_from}
use Rattle.store_shown.specs.Steps.{IsShownIn, rows_at}
use Rattle.store_shown.specs.declared.choice.Choice.{Choice}
use Rattle.store_shown.specs.declared.choice.Choice.TheVariants as choices
use Rattle.store_shown.proofs.ItemLemmas.{drops, keeps, swapped}
use Rattle.store_shown.proofs.ListingLemmas as listing
use Rattle.store_shown.proofs.MadeLemmas.{row_of}

-- ---- marks

pub keeps_all : (marks : List Bool) → KeepsMarks marks marks
keeps_all marks = record { many = refl; each = λ k h. h }

pub keeps_then : (one two three : List Bool) → KeepsMarks one two → KeepsMarks two three → KeepsMarks one three
keeps_then one two three a b = record { many = b.many ∙ a.many; each = λ k h. b.each k (a.each k h) }

module _ (marks : List Bool) (at : ℕ) (low : at < length marks) where
  pub marked_one : is_marked (set marks at true) at ≡ true
  marked_one = get_or-set_same marks at true false low

  still_marked : (k : ℕ) → is_marked marks k ≡ true → (k ≡ at) ⊎ (k ≡ at → ⊥) → is_marked (set marks at true) k ≡ true
  still_marked k h (inl same) = subst (λ n. is_marked (set marks at true) n ≡ true) (sym same) marked_one
  still_marked k h (inr other) = get_or-set_other marks at k true false other ∙ h

  pub keeps_set : KeepsMarks marks (set marks at true)
  keeps_set = record { many = length-set marks at true; each = λ k h. still_marked k h (cases_eq k at) }

module _ (old new : List Bool) (kept : KeepsMarks old new) where
  pub numbers_kept : (numbers : List ℕ) → AreMarked old numbers → AreMarked new numbers
  numbers_kept numbers all = All-weaker (λ k. is_marked old k ≡ true) (λ k. is_marked new k ≡ true) kept.each numbers all

  pub numbers_more : (numbers : List ℕ) (i d : ℕ) → i < length numbers → AreMarked old (take i numbers) → is_marked new (get_or numbers i d) ≡ true → AreMarked new (take (i + 1) numbers)
  numbers_more numbers i d low all one = All-more (λ k. is_marked new k ≡ true) numbers i d low (numbers_kept (take i numbers) all) one

  module _ (d : List ℕ) (t : Tables) where
    column_kept : (c : DigestColumn) → MarksColumn d old t c → MarksColumn d new t c
    column_kept c all = numbers_kept (numbers_in c d t) all

    pub columns_more : (cs : List DigestColumn) (i : ℕ) (c : DigestColumn) → i < length cs → All (MarksColumn d old t) (take i cs) → MarksColumn d new t (get_or cs i c)
        → All (MarksColumn d new t) (take (i + 1) cs)
    columns_more cs i c low all one = All-more (MarksColumn d new t) cs i c low (All-weaker (MarksColumn d old t) (MarksColumn d new t) column_kept (take i cs) all) one

-- every column
abbrev pub all_columns : List DigestColumn
all_columns = columns.File ∷ columns.Digest ∷ columns.Signing ∷ columns.ReturnedFile ∷ columns.ReturnedDigest ∷ columns.Certificate ∷ []

pub each_column : (d : List ℕ) (marks : List Bool) (t : Tables) → All (MarksColumn d marks t) all_columns → MarksAll d marks t
each_column d marks t all columns.File = all 0 columns.File (omega arith)
each_column d marks t all columns.Digest = all 1 columns.File (omega arith)
each_column d marks t all columns.Signing = all 2 columns.File (omega arith)
each_column d marks t all columns.ReturnedFile = all 3 columns.File (omega arith)
each_column d marks t all columns.ReturnedDigest = all 4 columns.File (omega arith)
each_column d marks t all columns.Certificate = all 5 columns.File (omega arith)

-- ---- the marked numbers, one more

next_of : (k n : ℕ) → numbers_from k (suc n) ≡ numbers_from k n ++ (k + n) ∷ []
next_of k zero = ap (λ m. m ∷ []) (let same : k ≡ k + 0 = omega arith in same)
next_of k (suc n) = ap (λ l. k ∷ l) (next_of (k + 1) n ∙ ap (λ m. numbers_from (k + 1) n ++ m ∷ []) (let same : k + 1 + n ≡ k + suc n = omega arith in same))

pub numbers_next : (n : ℕ) → numbers_from 1 (n + 1) ≡ numbers_from 1 n ++ (n + 1) ∷ []
numbers_next n = ap (numbers_from 1) (add-one n) ∙ next_of 1 n ∙ ap (λ m. numbers_from 1 n ++ m ∷ []) (let same : 1 + n ≡ n + 1 = omega arith in same)

module _ (choice : Choice) (reader : Person) (t : Tables) (marks : List Bool) where
  abbrev Reads : List ℕ → List RequestRow → Type 0
  Reads = AllZip (λ k row. rows_at t k ≡ row ∷ [])

  pub finds_none : (holds : List ShownRequest → Type 0) → holds [] → FindsAfter choice reader t marks 0 0 holds
  finds_none holds none = record { rows = []; read = tt; made = []; are = tt; held = none; count = refl }

  looked : (n : ℕ) → filter (is_marked marks) (numbers_from 1 (n + 1)) ≡ filter (is_marked marks) (numbers_from 1 n) ++ filter (is_marked marks) ((n + 1) ∷ [])
  looked n = ap (filter (is_marked marks)) (numbers_next n) ∙ filter-append (is_marked marks) (numbers_from 1 n) ((n + 1) ∷ [])

  module _ (n many : ℕ) (before after : List ShownRequest → Type 0) (is_taken : Bool) (l : FindsAfter choice reader t marks n many before) where
    by_mark : (b : Bool) → is_marked marks (n + 1) ≡ b → TakesMarked choice reader t b (n + 1) before after is_taken → FindsAfter choice reader t marks (n + 1) (many + bool_byte is_taken) after
    by_mark false is it =
        let same : filter (is_marked marks) (numbers_from 1 (n + 1)) ≡ filter (is_marked marks) (numbers_from 1 n) =
        looked n ∙ ap (λ m. filter (is_marked marks) (numbers_from 1 n) ++ m) (drops (is_marked marks) (n + 1) [] is) ∙ append-nil (filter (is_marked marks) (numbers_from 1 n)) in
        let none : many ≡ many + bool_byte is_taken = (let zeros : bool_byte is_taken ≡ 0 = ap bool_byte it.1 in omega (arith, zeros)) in
        record {
          rows = l.rows;
          read = subst (λ ks. Reads ks l.rows) (sym same) l.read;
          made = l.made;
          are = l.are;
          held = it.0 (filter (keeps_shown choice reader) l.made) l.held;
          count = l.count ∙ none;
        }
    by_mark true is it =
        let picks = picks_row choice reader in
        let kept = keeps_shown choice reader in
        let more : filter (is_marked marks) (numbers_from 1 (n + 1)) ≡ filter (is_marked marks) (numbers_from 1 n) ++ (n + 1) ∷ [] =
        looked n ∙ ap (λ m. filter (is_marked marks) (numbers_from 1 n) ++ m) (keeps (is_marked marks) (n + 1) [] is) in
        let both : filter kept (l.made ++ it.made) ≡ filter kept l.made ++ filter kept it.made = filter-append kept l.made it.made in
        record {
          rows = l.rows ++ it.row ∷ [];
          read = subst (λ ks. Reads ks (l.rows ++ it.row ∷ [])) (sym more)
              (place.zip_append (λ k row. rows_at t k ≡ row ∷ []) (filter (is_marked marks) (numbers_from 1 n)) ((n + 1) ∷ []) l.rows (it.row ∷ []) l.read (it.is, tt));
          made = l.made ++ it.made;
          are = subst (λ xs. AllZip (IsShownIn t) xs (l.made ++ it.made)) (sym (filter-append picks l.rows (it.row ∷ [])))
              (place.zip_append (IsShownIn t) (filter picks l.rows) (filter picks (it.row ∷ [])) l.made it.made l.are it.are);
          held = subst after (sym both) (it.takes (filter kept l.made) l.held);
          count = ap length both ∙ length-append (filter kept l.made) (filter kept it.made) ∙ ap₂ ◌+◌ l.count it.count;
        }

    pub finds_more : TakesMarked choice reader t (is_marked marks (n + 1)) (n + 1) before after is_taken → FindsAfter choice reader t marks (n + 1) (many + bool_byte is_taken) after
    finds_more it = by_mark (is_marked marks (n + 1)) refl it

-- ---- what has the digest is marked

module _ {X : Type 0} where
  all_of_map : {Y : Type 0} (P : Y → Type 0) (f : X → Y) (xs : List X) → AllByRecursion P (map f xs) → AllByRecursion (λ x. P (f x)) xs
  all_of_map P f [] all = tt
  all_of_map P f (x ∷ xs) all = (all.0, all_of_map P f xs all.1)

  all_parts : (P : X → Type 0) (xs ys : List X) → AllByRecursion P (xs ++ ys) → AllByRecursion P xs × AllByRecursion P ys
  all_parts P [] ys all = (tt, all)
  all_parts P (x ∷ xs) ys all = (let rest = all_parts P xs ys all.1 in ((all.0, rest.0), rest.1))

  found_is : (P : X → Type 0) (test : X → Bool) (xs : List X) (x : X) → find test xs ≡ Some x → AllByRecursion P xs → P x
  found_is P test [] x e all = absurd cc
  found_is P test (y ∷ ys) x e all = elim (test y) as (λ b. test y ≡ b → P x) [
    | true ↦ λ q. (let k = rw q at e in let same : y ≡ x = cc in subst P same all.0)
    | false ↦ λ q. found_is P test ys x (rw q at e) all.1
  ] refl

  module _ (test : X → Bool) (number : X → ℕ) (marks : List Bool) where
    -- what passes the test has a marked number
    abbrev IsMarkedIf : X → Type 0
    IsMarkedIf x = test x ≡ true → is_marked marks (number x) ≡ true

    passes_next : (x : X) (xs : List X) → AllByRecursion (λ k. is_marked marks k ≡ true) (map number (filter test (x ∷ xs)))
        → (AllByRecursion (λ k. is_marked marks k ≡ true) (map number (filter test xs)) → AllByRecursion IsMarkedIf xs) → (b : Bool) → test x ≡ b → AllByRecursion IsMarkedIf (x ∷ xs)
    passes_next x xs all rest true is =
        let both = subst (λ l. AllByRecursion (λ k. is_marked marks k ≡ true) (map number l)) (keeps test x xs is) all in (λ h. both.0, rest both.1)
    passes_next x xs all rest false is =
        (λ h. absurd (true≢false (sym h ∙ is)), rest (subst (λ l. AllByRecursion (λ k. is_marked marks k ≡ true) (map number l)) (drops test x xs is) all))

    marked_if : (xs : List X) → AllByRecursion (λ k. is_marked marks k ≡ true) (map number (filter test xs)) → AllByRecursion IsMarkedIf xs
    marked_if [] all = tt
    marked_if (x ∷ xs) all = passes_next x xs all (marked_if xs) (test x) refl

module _ (owner : List ℕ) (cs : History) (p : Person) (d : List ℕ) (marks : List Bool) where
  abbrev t : Tables
  t = tables owner cs

  abbrev m : ℕ → Type 0
  m k = is_marked marks k ≡ true

  abbrev has : Whole → Bool
  has w = search.has_digest d w

  abbrev has_of : Request → Bool
  has_of r = has (whole cs r)

  abbrev IsMarkedRequest : Request → Type 0
  IsMarkedRequest r = has_of r ≡ true → m r.number

  carried_one : (k : ℕ) (ds : List (List ℕ)) → AllByRecursion (λ (c : RequestCertificateRow). bytes_eq d c.digest ≡ true → m c.request) (map (λ x. record { request = k; digest = x }) ds)
      → is_among ds d ≡ true → m k
  carried_one k [] all h = absurd (true≢false (sym h))
  carried_one k (x ∷ xs) all h = elim (or_cases (bytes_eq d x) (is_among xs d) h) [ inl e ↦ all.0 e | inr e ↦ carried_one k xs all.1 e ]

  carried_each : (rs : List Request) → AllByRecursion (λ (c : RequestCertificateRow). bytes_eq d c.digest ≡ true → m c.request) (flat_map certificate_rows rs)
      → AllByRecursion (λ (r : Request). is_among r.facts.carried d ≡ true → m r.number) rs
  carried_each [] all = tt
  carried_each (r ∷ rs) all =
      let both = all_parts (λ (c : RequestCertificateRow). bytes_eq d c.digest ≡ true → m c.request) (certificate_rows r) (flat_map certificate_rows rs) all in
      (carried_one r.number r.facts.carried both.0, carried_each rs both.1)

  module _ (all : MarksAll d marks t) where
    numbers_of : (c : DigestColumn) → AllByRecursion m (numbers_in c d t)
    numbers_of c = recursion_from_All m (numbers_in c d t) (all c)

    by_row : (digest : RequestRow → List ℕ) → AllByRecursion m (map (λ (x : RequestRow). x.number) (filter (λ (x : RequestRow). bytes_eq d (digest x)) t.requests))
        → AllByRecursion (λ (r : Request). bytes_eq d (digest (row_of cs r)) ≡ true → m r.number) (requests cs)
    by_row digest h =
        all_of_map (λ (x : RequestRow). bytes_eq d (digest x) ≡ true → m x.number) (row_of cs) (requests cs)
        (marked_if (λ (x : RequestRow). bytes_eq d (digest x)) (λ (x : RequestRow). x.number) marks t.requests h)

    by_return : (digest : ReturnRow → List ℕ) → AllByRecursion m (map (λ (x : ReturnRow). x.request) (filter (λ (x : ReturnRow). bytes_eq d (digest x)) t.returns))
        → AllByRecursion (λ (x : Returned). bytes_eq d (digest (return_row x)) ≡ true → m x.request) (returns cs)
    by_return digest h =
        all_of_map (λ (x : ReturnRow). bytes_eq d (digest x) ≡ true → m x.request) return_row (returns cs)
        (marked_if (λ (x : ReturnRow). bytes_eq d (digest x)) (λ (x : ReturnRow). x.request) marks t.returns h)

    at_return : (k : ℕ) (x : Returned) → returned cs k ≡ Some x → (digest : ReturnRow → List ℕ)
        → AllByRecursion (λ (y : Returned). bytes_eq d (digest (return_row y)) ≡ true → m y.request) (returns cs) → bytes_eq d (digest (return_row x)) ≡ true → m k
    at_return k x e digest h is =
        let same : k ≡ x.request = number_is k x.request (found_passes (λ (y : Returned). k == y.request) (returns cs) x e) in
        subst m (sym same) (found_is (λ (y : Returned). bytes_eq d (digest (return_row y)) ≡ true → m y.request) (λ (y : Returned). k == y.request) (returns cs) x e h is)

    of_return : (k : ℕ) (o : Option Returned) → returned cs k ≡ o → search.is_of_returned d o ≡ true → m k
    of_return k None e h = absurd (true≢false (sym h))
    of_return k (Some x) e h = elim (or_cases (bytes_eq d x.facts.file) (bytes_eq d x.facts.digest) h) [
      | inl is ↦ at_return k x e (λ (y : ReturnRow). y.file) (by_return (λ (y : ReturnRow). y.file) (numbers_of columns.ReturnedFile)) is
      | inr is ↦ at_return k x e (λ (y : ReturnRow). y.digest) (by_return (λ (y : ReturnRow). y.digest) (numbers_of columns.ReturnedDigest)) is
    ]

    one_request : (r : Request) → (bytes_eq d r.facts.file ≡ true → m r.number) → (bytes_eq d r.facts.digest ≡ true → m r.number) → (bytes_eq d r.facts.signing ≡ true → m r.number)
        → (is_among r.facts.carried d ≡ true → m r.number) → IsMarkedRequest r
    one_request r file digest signing carried h = elim (or_cases (search.is_of_facts d r.facts) (search.is_of_returned d (returned cs r.number)) h) [
      | inl own ↦ elim (or_cases (bytes_eq d r.facts.file || bytes_eq d r.facts.digest || bytes_eq d r.facts.signing) (is_among r.facts.carried d) own) [
        | inl two ↦ elim (or_cases (bytes_eq d r.facts.file || bytes_eq d r.facts.digest) (bytes_eq d r.facts.signing) two) [
          | inl one ↦ elim (or_cases (bytes_eq d r.facts.file) (bytes_eq d r.facts.digest) one) [ inl is ↦ file is | inr is ↦ digest is ]
          | inr is ↦ signing is
        ]
        | inr is ↦ carried is
      ]
      | inr back ↦ of_return r.number (returned cs r.number) refl back
    ]

    each_request : (rs : List Request) → AllByRecursion (λ (r : Request). bytes_eq d r.facts.file ≡ true → m r.number) rs
        → AllByRecursion (λ (r : Request). bytes_eq d r.facts.digest ≡ true → m r.number) rs → AllByRecursion (λ (r : Request). bytes_eq d r.facts.signing ≡ true → m r.number) rs
        → AllByRecursion (λ (r : Request). is_among r.facts.carried d ≡ true → m r.number) rs → AllByRecursion IsMarkedRequest rs
    each_request [] a b c e = tt
    each_request (r ∷ rs) a b c e = (one_request r a.0 b.0 c.0 e.0, each_request rs a.1 b.1 c.1 e.1)

    all_marked : AllByRecursion IsMarkedRequest (requests cs)
    all_marked = each_request (requests cs)
        (by_row (λ (x : RequestRow). x.file) (numbers_of columns.File))
        (by_row (λ (x : RequestRow). x.digest) (numbers_of columns.Digest))
        (by_row (λ (x : RequestRow). x.signing) (numbers_of columns.Signing))
        (carried_each (requests cs) (marked_if (λ (x : RequestCertificateRow). bytes_eq d x.digest) (λ (x : RequestCertificateRow). x.request) marks t.request_certificates (numbers_of columns.Certificate)))

    -- ---- the requests that have it

    abbrev looked_at : Request → Bool
    looked_at r = is_marked marks r.number

    -- of these requests, those that the person is shown and that have the digest
    abbrev found : List Request → List Whole
    found rs = filter has (map (whole cs) (filter (listing.is_mine owner cs p) rs))

    found-append : (rs more : List Request) → found (rs ++ more) ≡ found rs ++ found more
    found-append rs more =
        ap (λ l. filter has (map (whole cs) l)) (filter-append (listing.is_mine owner cs p) rs more)
        ∙ ap (filter has) (map-append (whole cs) (filter (listing.is_mine owner cs p) rs) (filter (listing.is_mine owner cs p) more))
        ∙ filter-append has (map (whole cs) (filter (listing.is_mine owner cs p) rs)) (map (whole cs) (filter (listing.is_mine owner cs p) more))

    within : (rs : List Request) → AllByRecursion IsMarkedRequest rs → filter has_of (filter looked_at rs) ≡ filter has_of rs
    within [] all = refl
    within (r ∷ rs) h = listing.within_next has_of looked_at r rs h.0 (within rs h.1) (has_of r) (looked_at r) refl refl

    -- looking at the marked ones alone misses none
    found_looked : (rs : List Request) → AllByRecursion IsMarkedRequest rs → found (filter looked_at rs) ≡ found rs
    found_looked rs h =
        let mine = listing.is_mine owner cs p in
        ap (λ l. filter has (map (whole cs) l)) (swapped looked_at mine rs) ∙ filter-map has (whole cs) (filter looked_at (filter mine rs))
        ∙ ap (map (whole cs)) (within (filter mine rs) (all-filter IsMarkedRequest mine rs h)) ∙ sym (filter-map has (whole cs) (filter mine rs))

    numbers_are : (a n : ℕ) (rs : List Request) → place.HaveNumbers listing.number a rs → n ≤ length rs → map listing.number (take n rs) ≡ numbers_from a n
    numbers_are a zero rs up few = refl
    numbers_are a (suc n) [] up few = absurd (omega (arith, few))
    numbers_are a (suc n) (r ∷ rs) up few = ap₂ (λ x xs. x ∷ xs) up.0 (numbers_are (a + 1) n rs up.1 (omega (arith, few)))

    rows_are : (rs : List Request) → AllByRecursion (place.IsAt listing.number (row_of cs) (listing.at owner cs p)) rs → (rows : List RequestRow)
        → AllZip (λ k row. rows_at t k ≡ row ∷ []) (map listing.number rs) rows → rows ≡ map (row_of cs) rs
    rows_are [] only [] z = refl
    rows_are [] only (x ∷ rows) z = absurd z
    rows_are (r ∷ rs) only [] z = absurd z
    rows_are (r ∷ rs) only (x ∷ rows) z =
        let twice : row_of cs r ∷ [] ≡ x ∷ [] = sym only.0 ∙ z.0 in
        let same : x ≡ row_of cs r = cc in ap₂ (λ y ys. y ∷ ys) same (rows_are rs only.1 rows z.1)

    -- the list holds the first of those that have the digest
    found_are : IsHistory cs → (last most : ℕ) → last ≡ length t.requests → {L : Type 0} (holds : L → List ShownRequest → Type 0) (list : L)
        → FindsUpTo (choices.With d) p t marks last most (holds list) → HoldsShown holds (take most (found (listing.oldest owner cs p))) list
    found_are h last most count holds list it =
        let f = it.finds in
        let n = it.reached in
        let choice : Choice = choices.With d in
        let old = listing.oldest owner cs p in
        let mine = listing.is_mine owner cs p in
        let part = take n old in
        let low = it.within in
        let all : length (map (row_of cs) (requests cs)) ≡ length (requests cs) = length-map (requests cs) (row_of cs) in
        let long : length old ≡ last = length-reverse (requests cs) ∙ sym all ∙ sym count in
        let few : n ≤ length old = omega (arith, low, long) in
        let numbers : numbers_from 1 n ≡ map listing.number part = sym (numbers_are 1 n old (listing.oldest_first (submitted cs)) few) in
        let read : AllZip (λ k row. rows_at t k ≡ row ∷ []) (map listing.number (filter looked_at part)) f.rows =
        subst (λ ks. AllZip (λ k row. rows_at t k ≡ row ∷ []) ks f.rows) (ap (filter (is_marked marks)) numbers ∙ filter-map (is_marked marks) listing.number part) f.read in
        let only : AllByRecursion (listing.IsAlone owner cs p) (filter looked_at part) =
        all-filter (listing.IsAlone owner cs p) looked_at part (place.all_take (listing.IsAlone owner cs p) n old (listing.alone owner cs p)) in
        let rows : f.rows ≡ map (row_of cs) (filter looked_at part) =
        rows_are (filter looked_at part)
        (all_weaker (listing.IsAlone owner cs p) (place.IsAt listing.number (row_of cs) (listing.at owner cs p)) (listing.row_alone owner cs p) (filter looked_at part) only) f.rows read in
        let made : AllZip (IsShownIn t) (map (row_of cs) (filter mine (filter looked_at part))) f.made =
        subst (λ xs. AllZip (IsShownIn t) xs f.made) (ap (filter (picks_row choice p)) rows ∙ filter-map (picks_row choice p) (row_of cs) (filter looked_at part)) f.are in
        let shown : AllZip IsShown (map (whole cs) (filter mine (filter looked_at part))) f.made =
        listing.each_shown owner cs p h (filter mine (filter looked_at part)) (all-filter (listing.IsAlone owner cs p) mine (filter looked_at part) only) f.made made in
        let kept : AllZip IsShown (found (filter looked_at part)) (filter (keeps_shown choice p) f.made) =
        listing.zip_filter IsShown has (keeps_shown choice p) (listing.kept_alike choice p) (map (whole cs) (filter mine (filter looked_at part))) f.made shown in
        let marked : AllByRecursion IsMarkedRequest part =
        place.all_take IsMarkedRequest n old (all-permutation IsMarkedRequest (requests cs) old (IsPermutation-reverse (requests cs)) all_marked) in
        let same : found (filter looked_at part) ≡ found part = found_looked part marked in
        let many : length (found part) ≡ it.many =
        ap length (sym same) ∙ listing.zip_length IsShown (found (filter looked_at part)) (filter (keeps_shown choice p) f.made) kept ∙ f.count in
        let most_of : length (found part) ≤ most = (let bound = it.few in omega (arith, many, bound)) in
        let ended : (length (found part) ≡ most) ⊎ (found (drop n old) ≡ []) = elim it.ends [
          | inl full ↦ inl (many ∙ full)
          | inr done ↦ inr (ap found (let none_left : length old ≤ n = omega (arith, done, long) in drop_of_length-le old none_left))
        ] in
        let parts : found old ≡ found part ++ found (drop n old) = ap found (sym (take-append-drop n old)) ∙ found-append part (drop n old) in
        let first : take most (found old) ≡ found part = ap (take most) parts ∙ place.first_of most (found part) (found (drop n old)) most_of ended in
        record {
          shown = filter (keeps_shown choice p) f.made;
          are = subst (λ ws. AllZip IsShown ws (filter (keeps_shown choice p) f.made)) (same ∙ sym first) kept;
          held = f.held;
        }

    pub with_shown : IsHistory cs → (last : ℕ) → last ≡ length t.requests → {L : Type 0} (holds : L → List ShownRequest → Type 0) (list : L)
        → FindsUpTo (choices.With d) p t marks last 1000 (holds list) → HoldsShown holds (search.first_with d (listing.shown_all owner cs p)) list
    with_shown h last count holds list it =
        subst (λ ws. HoldsShown holds ws list) (ap (λ ws. take 1000 (filter has ws)) (sym (listing.wholes_are owner cs p))) (found_are h last 1000 count holds list it)

-- ---- the answer that is due to the person of a name

module _ (owner : List ℕ) (cs : History) (name d : List ℕ) where
  abbrev first : Result (List Whole) Refusal → Result (List Whole) Refusal
  first r = result_map_both (search.first_with d) (λ refusal. refusal) r

  pub with_nobody : {B : Type 0} (shows : List Whole → B → Type 0) → listing.IsNamed owner cs name None
      → IsGiven (search.requests_with cs (callers.Person name) d) (Err refusals.UnknownCaller) shows
  with_nobody shows e = subst (λ due. IsGiven due (Err refusals.UnknownCaller) shows) (sym (ap first (listing.due owner cs name None e))) refl

  pub gives_with : IsHistory cs → (p : Person) → listing.IsNamed owner cs name (Some p) → (last : ℕ) → last ≡ length (tables owner cs).requests → (marks : List Bool) → MarksAll d marks (tables owner cs)
      → {L : Type 0} (holds : L → List ShownRequest → Type 0) (list : L) → FindsUpTo (choices.With d) p (tables owner cs) marks last 1000 (holds list)
      → IsGiven (search.requests_with cs (callers.Person name) d) (Ok (answers.Requests list)) (GivesRequests holds)
  gives_with h p e last count marks all holds list it =
      subst (λ due. IsGiven due (Ok (answers.Requests list)) (GivesRequests holds)) (sym (ap first (listing.due owner cs name (Some p) e)))
      (list, with_shown owner cs p d marks all h last count holds list it, refl)
