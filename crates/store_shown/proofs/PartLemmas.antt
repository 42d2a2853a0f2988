-- The rows of a history's tables that belong to one request.
use Rattle.std.proofs.Common.{◌≡◌, ℕ, ◌+◌, ◌<◌, ◌==◌, Bool, true, false, List, [], ◌∷◌, map, filter, All, refl, sym, ap, subst, ◌∙◌, arith}
use Rattle.std.specs.Prelude.{flat_map}
use Rattle.std.specs.List.{AllByRecursion}
use Rattle.std.specs.List.Sorted.{IsPermutation}
use Rattle.std.proofs.lemmas.List.Elements.{All-cons, All-head, All-nil, All-tail}
use Rattle.std.proofs.lemmas.List.Sorted.{Contains-permutation, IsPermutation-map, IsPermutation-sym}
use Rattle.sbat.specs.declared.component.Component.{Component}
use Rattle.base.specs.Digests.{IsArranged, IsAscending}
use Rattle.base.proofs.OrderLemmas.{IsArranged-one}
use Rattle.desk_types.specs.Formed.{AreFactsWithin, IsWithin}
use Rattle.desk_types.specs.declared.command.Command.{Command}
use Rattle.desk_types.specs.declared.command.Command.TheVariants as command
use Rattle.desk_history.specs.Calls.{History, Item}
use Rattle.desk_history.specs.Formed.{IsItem}
use Rattle.desk_history.specs.Requests.{Request, has_number, requests}
use Rattle.desk_history.specs.Tables.{certificate_rows, component_rows, placed_from}
use Rattle.desk_history.specs.declared.rows.RequestCertificateRow.{RequestCertificateRow}
use Rattle.desk_history.specs.declared.rows.RequestComponentRow.{RequestComponentRow}
use Rattle.store_shown.specs.Steps.{digests_of}
use Rattle.desk_history.proofs.RunLemmas.{giving}
use Rattle.store_reads.proofs.PartLemmas.{Ascends, one_order, rows_of_one}
use Rattle.store_shown.proofs.ItemLemmas.{drops, keeps}

-- ---- certificates

abbrev certificate_row : ℕ → List ℕ → RequestCertificateRow
certificate_row k d = record { request = k; digest = d }

certificates_numbered : (k n : ℕ) (b : Bool) → (k == n) ≡ b → (ds : List (List ℕ)) → AllByRecursion (λ (x : RequestCertificateRow). (k == x.request) ≡ b) (map (certificate_row n) ds)
certificates_numbered k n b h [] = tt
certificates_numbered k n b h (d ∷ ds) = (h, certificates_numbered k n b h ds)

pub certificates_of_one : (k : ℕ) (rs : List Request) (r : Request) → filter (has_number k) rs ≡ r ∷ []
    → filter (λ (x : RequestCertificateRow). k == x.request) (flat_map certificate_rows rs) ≡ certificate_rows r
certificates_of_one k = rows_of_one certificate_rows (λ (r : Request). r.number) (λ (x : RequestCertificateRow). x.request) k (λ r b h. certificates_numbered k r.number b h r.facts.carried)

digests_same : (k : ℕ) (ds : List (List ℕ)) → digests_of (map (certificate_row k) ds) ≡ ds
digests_same k [] = refl
digests_same k (d ∷ ds) = ap (λ l. d ∷ l) (digests_same k ds)

-- certificates that ascend are those of their rows, in whatever order the rows come
pub carried_are : (r : Request) (rows : List RequestCertificateRow) (given : List (List ℕ)) → IsAscending r.facts.carried → IsPermutation (certificate_rows r) rows
    → IsArranged (digests_of rows) given → given ≡ r.facts.carried
carried_are r rows given up moved arranged =
    let named = digests_of rows in
    let same : IsPermutation r.facts.carried named =
    subst (λ l. IsPermutation l named) (digests_same r.number r.facts.carried) (IsPermutation-map (λ (x : RequestCertificateRow). x.digest) (certificate_rows r) rows moved) in
    IsArranged-one named given r.facts.carried arranged (record {
      ascending = up;
      all = λ d h. Contains-permutation named r.facts.carried d (IsPermutation-sym r.facts.carried named same) h;
      no_other = λ d h. Contains-permutation r.facts.carried named d same h;
    })

-- ---- components

components_numbered : (k n : ℕ) (b : Bool) → (k == n) ≡ b → (place : ℕ) (xs : List Component) → AllByRecursion (λ (x : RequestComponentRow). (k == x.request) ≡ b) (placed_from n place xs)
components_numbered k n b h place [] = tt
components_numbered k n b h place (x ∷ xs) = (h, components_numbered k n b h (place + 1) xs)

pub components_of_one : (k : ℕ) (rs : List Request) (r : Request) → filter (has_number k) rs ≡ r ∷ []
    → filter (λ (x : RequestComponentRow). k == x.request) (flat_map component_rows rs) ≡ component_rows r
components_of_one k = rows_of_one component_rows (λ (r : Request). r.number) (λ (x : RequestComponentRow). x.request) k (λ r b h. components_numbered k r.number b h 0 r.facts.components)

places_above : (k p q : ℕ) (xs : List Component) → p < q → AllByRecursion (λ (y : RequestComponentRow). p < y.place) (placed_from k q xs)
places_above k p q [] h = tt
places_above k p q (x ∷ xs) h = (h, places_above k p (q + 1) xs (omega (arith, h)))

places_ascend : (k p : ℕ) (xs : List Component) → Ascends (λ (y : RequestComponentRow). y.place) (placed_from k p xs)
places_ascend k p [] = tt
places_ascend k p (x ∷ xs) = (places_above k p (p + 1) xs (omega arith), places_ascend k (p + 1) xs)

abbrev component_of : RequestComponentRow → Component
component_of row = record { name = row.name; generation = row.generation }

unplaced : (k p : ℕ) (xs : List Component) → map component_of (placed_from k p xs) ≡ xs
unplaced k p [] = refl
unplaced k p (x ∷ xs) = ap (λ l. x ∷ l) (unplaced k (p + 1) xs)

-- components are determined by their rows with their places
pub components_are : (k : ℕ) (xs ys : List Component) → IsPermutation (placed_from k 0 xs) (placed_from k 0 ys) → ys ≡ xs
components_are k xs ys moved =
    let same : placed_from k 0 ys ≡ placed_from k 0 xs =
    one_order (λ (y : RequestComponentRow). y.place) (placed_from k 0 ys) (placed_from k 0 xs) (places_ascend k 0 ys) (places_ascend k 0 xs)
    (λ d h. Contains-permutation (placed_from k 0 ys) (placed_from k 0 xs) d (IsPermutation-sym (placed_from k 0 xs) (placed_from k 0 ys) moved) h)
    (λ d h. Contains-permutation (placed_from k 0 xs) (placed_from k 0 ys) d moved h) in
    sym (unplaced k 0 ys) ∙ ap (map component_of) same ∙ unplaced k 0 xs

-- ---- the facts of a request's image, which are within their limits

abbrev HasWithin : Request → Type 0
HasWithin r = AreFactsWithin r.facts

one_more : (cs : History) (old : Item) (given : Command) → IsWithin given → All HasWithin (requests cs) → All HasWithin (requests (giving old given ∷ cs))
one_more cs old (command.Submit s) w h = All-cons HasWithin _ (requests cs) w h
one_more cs old _ w h = h

pub requests_within : (cs : History) → All IsItem cs → All HasWithin (requests cs)
requests_within [] h = All-nil HasWithin
requests_within (i ∷ cs) h = one_more cs i i.call.command (All-head IsItem i cs h).limits (requests_within cs (All-tail IsItem i cs h))

within_next : (q : Request) (rs : List Request) (k : ℕ) (r : Request) → filter (has_number k) (q ∷ rs) ≡ r ∷ [] → All HasWithin (q ∷ rs) → (filter (has_number k) rs ≡ r ∷ [] → AreFactsWithin r.facts)
    → (b : Bool) → (k == q.number) ≡ b → AreFactsWithin r.facts
within_next q rs k r one all rest true h =
    let whole : q ∷ filter (has_number k) rs ≡ r ∷ [] = sym (keeps (has_number k) q rs h) ∙ one in
    let same : q ≡ r = cc in
    subst HasWithin same (All-head HasWithin q rs all)
within_next q rs k r one all rest false h = rest (sym (drops (has_number k) q rs h) ∙ one)

pub one_within : (rs : List Request) (k : ℕ) (r : Request) → filter (has_number k) rs ≡ r ∷ [] → All HasWithin rs → AreFactsWithin r.facts
one_within [] k r one all = absurd cc
one_within (q ∷ rs) k r one all = within_next q rs k r one all (λ e. one_within rs k r e (All-tail HasWithin q rs all)) (k == q.number) refl
