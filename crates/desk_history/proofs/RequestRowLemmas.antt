-- The rows of requests' certificates and components.
use Rattle.std.proofs.Common.{◌≡◌, ℕ, ◌+◌, ◌<◌, Bool, true, false, ◌&&◌, All, List, [], ◌∷◌, length, map, refl, sym, ◌∙◌, ap, arith}
use Rattle.std.specs.Prelude.{◌==◌, bytes_eq, flat_map}
use Rattle.std.specs.List.{AllByRecursion, list_any}
use Rattle.std.specs.List.Sorted.{IsStrictlySortedBy}
use Rattle.std.specs.Ordering.{is_eq, nat_cmp}
use Rattle.std.specs.Cmp.Lexicographic.{slice_cmp}
use Rattle.std.proofs.Common.{Less}
use Rattle.std.proofs.lemmas.Bool.{and_parts}
use Rattle.std.proofs.lemmas.Bool.Decides.{nat_tests}
use Rattle.std.proofs.lemmas.List.Elements.{All-cons, All-head, All-nil, All-tail}
use Rattle.std.proofs.lemmas.List.Folds.{list_any-append}
use Rattle.std.proofs.lemmas.Map.Text.{is_eq-slice_cmp}
use Rattle.sbat.specs.declared.component.Component.{Component}
use Rattle.base.specs.Digests.{IsAscending}
use Rattle.desk_types.specs.declared.command.Command.{Command}
use Rattle.desk_types.specs.declared.command.Command.TheVariants as command
use Rattle.desk_types.specs.Formed.{IsWithin}
use Rattle.desk_history.specs.Calls.{History, Item, are_apart}
use Rattle.desk_history.specs.Formed.{IsItem}
use Rattle.desk_history.specs.FormLaws.{AllRowsStandOnce, is_certificate_key, is_place_key}
use Rattle.desk_history.specs.Requests.{Request, Submitted, numbered, requests, submitted}
use Rattle.desk_history.specs.Tables.{certificate_rows, component_rows, placed_from}
use Rattle.desk_history.specs.declared.rows.RequestCertificateRow.{RequestCertificateRow}
use Rattle.desk_history.specs.declared.rows.RequestComponentRow.{RequestComponentRow}
use Rattle.desk_history.proofs.ListLemmas.{apart-more, apart_joined, number_is, or_none}
use Rattle.desk_history.proofs.RowLemmas.{rows_stand_once}
use Rattle.desk_history.proofs.RunLemmas.{giving}

no_test : (a b : Bool) → a ≡ false → (a && b) ≡ false
no_test a b h = cc

-- rows that a request has, each with its number
record IsKeyed {X : Type 0} (rows : Request → List X) (number : X → ℕ) (same : X → X → Bool) : Type 0 where
  of_request : (r : Request) → All (λ x. number x ≡ r.number) (rows r)
  told : (a b : X) → same a b ≡ true → number a ≡ number b

abbrev first_of : Submitted → List Submitted → Request
first_of s ss = record { number = length ss + 1; submitter = s.submitter; title = s.submission.title; facts = s.submission.facts }

not_lower : (m n : ℕ) → m ≡ n → n < m → true ≡ false
not_lower m n e h = absurd (omega arith)

any_lower : {X : Type 0} (number : X → ℕ) (same : X → X → Bool) → ((a b : X) → same a b ≡ true → number a ≡ number b) → (x : X) (n : ℕ) (ys : List X)
    → All (λ y. number y ≡ n) ys → n < number x → list_any (same x) ys ≡ false
any_lower number same told x n [] all less = refl
any_lower number same told x n (y ∷ ys) all less =
    or_none (same x y) (list_any (same x) ys)
    (elim (same x y) as (λ b. same x y ≡ b → b ≡ false) [
      | true ↦ λ e. not_lower (number x) n (told x y e ∙ All-head (λ z. number z ≡ n) y ys all) less
      | false ↦ λ e. refl
    ] refl)
    (any_lower number same told x n ys (All-tail (λ z. number z ≡ n) y ys all) less)

-- no row of the requests below has the key of one above
any_before : {X : Type 0} (rows : Request → List X) (number : X → ℕ) (same : X → X → Bool) → IsKeyed rows number same → (x : X) (ss : List Submitted)
    → length ss < number x → list_any (same x) (flat_map rows (numbered ss)) ≡ false
any_before rows number same keyed x [] h = refl
any_before rows number same keyed x (s ∷ ss) h =
    let r = first_of s ss in
    list_any-append (same x) (rows r) (flat_map rows (numbered ss))
    ∙ or_none (list_any (same x) (rows r)) (list_any (same x) (flat_map rows (numbered ss)))
    (any_lower number same keyed.told x (length ss + 1) (rows r) (keyed.of_request r) (omega arith)) (any_before rows number same keyed x ss (omega arith))

all_before : {X : Type 0} (rows : Request → List X) (number : X → ℕ) (same : X → X → Bool) → IsKeyed rows number same → (ss : List Submitted) (xs : List X)
    → All (λ x. number x ≡ length ss + 1) xs → All (λ x. list_any (same x) (flat_map rows (numbered ss)) ≡ false) xs
all_before rows number same keyed ss [] h = All-nil (λ x. list_any (same x) (flat_map rows (numbered ss)) ≡ false)
all_before rows number same keyed ss (x ∷ xs) h =
    let above = All-head (λ z. number z ≡ length ss + 1) x xs h in
    All-cons (λ z. list_any (same z) (flat_map rows (numbered ss)) ≡ false) x xs (any_before rows number same keyed x ss (omega arith))
    (all_before rows number same keyed ss xs (All-tail (λ z. number z ≡ length ss + 1) x xs h))

-- where no two rows of one request have the same key, no two of all requests have
flat_apart : {X : Type 0} (rows : Request → List X) (number : X → ℕ) (same : X → X → Bool) → IsKeyed rows number same → (ss : List Submitted)
    → All (λ r. are_apart same (rows r) ≡ true) (numbered ss) → are_apart same (flat_map rows (numbered ss)) ≡ true
flat_apart rows number same keyed [] h = refl
flat_apart rows number same keyed (s ∷ ss) h =
    let r = first_of s ss in
    apart_joined same (rows r) (flat_map rows (numbered ss)) (All-head (λ q. are_apart same (rows q) ≡ true) r (numbered ss) h)
    (flat_apart rows number same keyed ss (All-tail (λ q. are_apart same (rows q) ≡ true) r (numbered ss) h)) (all_before rows number same keyed ss (rows r) (keyed.of_request r))

-- ---- components

placed_numbers : (k place : ℕ) (xs : List Component) → All (λ (x : RequestComponentRow). x.request ≡ k) (placed_from k place xs)
placed_numbers k place [] = All-nil (λ (x : RequestComponentRow). x.request ≡ k)
placed_numbers k place (x ∷ xs) =
    All-cons (λ (y : RequestComponentRow). y.request ≡ k) (record { request = k; place = place; name = x.name; generation = x.generation }) (placed_from k (place + 1) xs) refl
    (placed_numbers k (place + 1) xs)

lower_place : (p q : ℕ) → p < q → (p == q) ≡ false
lower_place p q h = grind (arith, nat_tests)

no_second : (a b : Bool) → b ≡ false → (a && b) ≡ false
no_second true b h = h
no_second false b h = refl

any_place : (x : RequestComponentRow) (k q : ℕ) (xs : List Component) → x.place < q → list_any (is_place_key x) (placed_from k q xs) ≡ false
any_place x k q [] h = refl
any_place x k q (y ∷ ys) h =
    or_none (is_place_key x (record { request = k; place = q; name = y.name; generation = y.generation })) (list_any (is_place_key x) (placed_from k (q + 1) ys))
    (no_second (x.request == k) (x.place == q) (lower_place x.place q h)) (any_place x k (q + 1) ys (omega arith))

places_apart : (k place : ℕ) (xs : List Component) → are_apart is_place_key (placed_from k place xs) ≡ true
places_apart k place [] = refl
places_apart k place (x ∷ xs) =
    let first : RequestComponentRow = record { request = k; place = place; name = x.name; generation = x.generation } in
    apart-more is_place_key first (placed_from k (place + 1) xs) (any_place first k (place + 1) xs (omega arith)) (places_apart k (place + 1) xs)

all_of : {X : Type 0} (P : X → Type 0) → ((x : X) → P x) → (xs : List X) → All P xs
all_of P each [] = All-nil P
all_of P each (x ∷ xs) = All-cons P x xs (each x) (all_of P each xs)

components_keyed : IsKeyed component_rows (λ (x : RequestComponentRow). x.request) is_place_key
components_keyed = record {
  of_request = λ r. placed_numbers r.number 0 r.facts.components;
  told = λ a b e. number_is a.request b.request (and_parts (a.request == b.request) (a.place == b.place) e).0;
}

components_apart : (cs : History) → are_apart is_place_key (flat_map component_rows (requests cs)) ≡ true
components_apart cs =
    flat_apart component_rows (λ (x : RequestComponentRow). x.request) is_place_key components_keyed (submitted cs)
    (all_of (λ r. are_apart is_place_key (component_rows r) ≡ true) (λ r. places_apart r.number 0 r.facts.components) (requests cs))

-- ---- certificates

abbrev row_of : ℕ → List ℕ → RequestCertificateRow
row_of k d = record { request = k; digest = d }

certificate_numbers : (k : ℕ) (ds : List (List ℕ)) → All (λ (x : RequestCertificateRow). x.request ≡ k) (map (row_of k) ds)
certificate_numbers k [] = All-nil (λ (x : RequestCertificateRow). x.request ≡ k)
certificate_numbers k (d ∷ ds) = All-cons (λ (x : RequestCertificateRow). x.request ≡ k) (row_of k d) (map (row_of k) ds) refl (certificate_numbers k ds)

certificates_keyed : IsKeyed certificate_rows (λ (x : RequestCertificateRow). x.request) is_certificate_key
certificates_keyed = record {
  of_request = λ r. certificate_numbers r.number r.facts.carried;
  told = λ a b e. number_is a.request b.request (and_parts (a.request == b.request) (bytes_eq a.digest b.digest) e).0;
}

above_all : (k : ℕ) (d : List ℕ) (ds : List (List ℕ)) → AllByRecursion (λ e. slice_cmp nat_cmp d e ≡ Less) ds → list_any (is_certificate_key (row_of k d)) (map (row_of k) ds) ≡ false
above_all k d [] h = refl
above_all k d (e ∷ es) h =
    or_none (is_certificate_key (row_of k d) (row_of k e)) (list_any (is_certificate_key (row_of k d)) (map (row_of k) es))
    (no_second (k == k) (bytes_eq d e) (sym (is_eq-slice_cmp d e) ∙ ap is_eq h.0)) (above_all k d es h.1)

ascending_apart : (k : ℕ) (ds : List (List ℕ)) → IsAscending ds → are_apart is_certificate_key (map (row_of k) ds) ≡ true
unfolding IsStrictlySortedBy
ascending_apart k [] h = refl
ascending_apart k (d ∷ ds) h = apart-more is_certificate_key (row_of k d) (map (row_of k) ds) (above_all k d ds h.0) (ascending_apart k ds h.1)

abbrev HasApart : Request → Type 0
HasApart r = are_apart is_certificate_key (certificate_rows r) ≡ true

one_request : (cs : History) (old : Item) (given : Command) → IsWithin given → All HasApart (requests cs) → All HasApart (requests (giving old given ∷ cs))
one_request cs old (command.Submit s) w h = All-cons HasApart _ (requests cs) (ascending_apart (length (submitted cs) + 1) s.facts.carried w.ascending) h
one_request cs old (command.AddPerson _) w h = h
one_request cs old (command.Review _) w h = h
one_request cs old (command.Withdraw _) w h = h
one_request cs old (command.Return _) w h = h
one_request cs old (command.ListCertificate _) w h = h
one_request cs old (command.ListDigest _) w h = h
one_request cs old (command.Unlist _) w h = h
one_request cs old (command.RevokeDigest _) w h = h
one_request cs old (command.RevokeCertificate _) w h = h
one_request cs old (command.RaiseLevel _) w h = h
one_request cs old (command.ImportRevocations _) w h = h
one_request cs old (command.Confirm _) w h = h
one_request cs old (command.Drop _) w h = h
one_request cs old (command.Explain _) w h = h

requests_apart : (cs : History) → All IsItem cs → All HasApart (requests cs)
requests_apart [] h = All-nil HasApart
requests_apart (i ∷ cs) h = one_request cs i i.call.command (All-head IsItem i cs h).limits (requests_apart cs (All-tail IsItem i cs h))

pub all_rows_stand_once : AllRowsStandOnce
all_rows_stand_once owner cs h = record {
  others = rows_stand_once owner cs h.legal;
  certificates = flat_apart certificate_rows (λ (x : RequestCertificateRow). x.request) is_certificate_key certificates_keyed (submitted cs) (requests_apart cs h.formed);
  components = components_apart cs;
}
