-- Items and lists read back.
use Rattle.std.proofs.Common.{Ordering, Less, ◌≡◌, ◌≢◌, ℕ, zero, suc, ◌+◌, ◌<◌, eqb, leb, cond, Bool, true, false, not, Option, Some, None, IfNone, decimal, List, [], ◌∷◌, ◌++◌, length, get_or, drop, map, All, MatchBool, Result, Ok, Err, refl, sym, subst, ap, ◌∙◌, arith, length-append}
use Rattle.std.specs.Prelude.{IsErr, IsErrAnd, IsErrOf, codes}
use Rattle.std.specs.Cmp.Lexicographic.{pointwise, slice_cmp}
use Rattle.std.specs.List.{IsAllAdjacentAnswer, join_with_byte, slice_split}
use Rattle.std.specs.Ordering.{is_lt, nat_cmp}
use Rattle.std.proofs.lemmas.Bool.Decides.{Decides-eqb, nat_tests}
use Rattle.std.proofs.lemmas.Cmp.{nat_list_cmp_total}
use Rattle.std.proofs.lemmas.List.{append-nil}
use Rattle.std.proofs.lemmas.List.Elements.{All-get_or, All-nil, All-push, All-same}
use Rattle.std.proofs.lemmas.List.Splits.{join_with_byte-slice_split, length-slice_split, slice_split_at, slice_split_none}
use Rattle.std.proofs.lemmas.Map.Keys.{Less-from_sorted, sorted_from_all_adjacent}
use Rattle.std.proofs.lemmas.Slice.Eq.{slice_eq-Decides}
use Rattle.base.specs.Digests.{IsAscending}
use Rattle.sbat.specs.Fields.{decimal_of, is_generation}
use Rattle.desk_types.specs.Commands.{IsCount}
use Rattle.desk_types.specs.Items.{list_text}
use Rattle.desk_types.specs.Reading.{AddsItem}
use Rattle.desk_types.proofs.FieldLemmas.{IsItem, is_free, none_pass, split_joined}
use Rattle.desk_types.proofs.FormLemmas.{both}
use Rattle.desk_types.proofs.NumberLemmas.{some_false}
use Rattle.desk_types.proofs.ValueLemmas.{decimal_read}

-- `!=` that answered true, of equal texts
pub differ_not : (a b : List ℕ) (r : Bool) → r ≡ not (pointwise eqb a b) → r ≡ true → a ≢ b
differ_not a b r tested differ same =
    some_false (not (pointwise eqb a b)) (sym tested ∙ differ) (ap not ((slice_eq-Decides Decides-eqb a b (pointwise eqb a b) refl).1 same))

-- `==` that answered false, of equal texts
pub equal_not : (a b t : List ℕ) (r : Bool) → b ≡ t → r ≡ pointwise eqb a b → r ≡ false → a ≢ t
equal_not a b t r is tested differ same =
    some_false r ((slice_eq-Decides Decides-eqb a b r tested).1 (same ∙ sym is)) differ

-- the parts of a text at its commas
abbrev pub parts_of : List ℕ → List (List ℕ)
parts_of text = slice_split (λ b. eqb b 44) text

joined_some : (xs : List (List ℕ)) → 0 < length xs → list_text xs ≡ join_with_byte 44 xs
joined_some [] h = absurd (omega arith)
joined_some (x ∷ xs) h = refl

-- a text is the list of its parts
pub list_read : (text : List ℕ) (items : List (List ℕ)) → items ≡ parts_of text → text ≡ list_text items
list_read text items same =
    let some : 0 < length (parts_of text) = omega (arith, length-slice_split (λ b. eqb b 44) text) in
    sym (ap list_text same ∙ joined_some (parts_of text) some ∙ join_with_byte-slice_split 44 text)

mapped : {X : Type 0} (f : X → List ℕ) (xs : List X) (k : ℕ) (x : X) (d : List ℕ) → k < length xs → get_or (map f xs) k d ≡ f (get_or xs k x)
mapped f [] k x d h = absurd (omega arith)
mapped f (y ∷ xs) zero x d h = refl
mapped f (y ∷ xs) (suc k) x d h = mapped f xs k x d (omega arith)

length_mapped : {X : Type 0} (f : X → List ℕ) (xs : List X) → length (map f xs) ≡ length xs
length_mapped f [] = refl
length_mapped f (x ∷ xs) = ap suc (length_mapped f xs)

-- a part that isn't the text of an item, in a text that isn't that of no items
pub not_listed : {X : Type 0} (P : X → Type 0) (f : X → List ℕ) → ((xs : List X) → All P xs → All IsItem (map f xs)) → (text : List ℕ) (k : ℕ) (item : List ℕ)
    → (k < length (parts_of text)) × (item ≡ get_or (parts_of text) k item) → ((x : X) → P x → item ≢ f x) → text ≢ codes "-"
    → (xs : List X) → All P xs → text ≢ list_text (map f xs)
not_listed P f items text k item at other some [] h same = some same
not_listed P f items text k item at other some (x ∷ xs) h same =
    let parts : parts_of text ≡ map f (x ∷ xs) = ap parts_of same ∙ split_joined (f x) (map f xs) (items (x ∷ xs) h) in
    let within : k < length (x ∷ xs) = subst (λ n. k < n) (ap length parts ∙ length_mapped f (x ∷ xs)) at.0 in
    let is : item ≡ f (get_or (x ∷ xs) k x) = at.1 ∙ ap (λ ps. get_or ps k item) parts ∙ mapped f (x ∷ xs) k x item within in
    other (get_or (x ∷ xs) k x) (All-get_or P (x ∷ xs) k x within h) is

less : (o : Ordering) → true ≡ is_lt o → o ≡ Less
less o h = grind (arith)

less_apart : (o : Ordering) → false ≡ is_lt o → o ≡ Less → ⊥
less_apart o h e = some_false (is_lt o) (ap is_lt e) (sym h)

-- digests of which each is below the next ascend, and no others
pub ascending_by : (ds : List (List ℕ)) (r : Bool) → IsAllAdjacentAnswer (λ x y b. b ≡ is_lt (slice_cmp nat_cmp x y)) ds r
    → MatchBool r (IsAscending ds) (IsAscending ds → ⊥)
ascending_by ds true h = sorted_from_all_adjacent nat_list_cmp_total ds [] (λ k small. less _ (h k [] small))
ascending_by ds false h = λ up. less_apart _ (h.2 []) (Less-from_sorted (slice_cmp nat_cmp) ds h.0 (h.0 + 1) [] up (omega arith) h.1)

-- the numeral of a number that has no form is none of one that has
pub formless : (p : ℕ → Bool) → ((n : ℕ) → p n ≡ true → IsCount n) → (text : List ℕ) (m : ℕ) → IsCount m → text ≡ decimal m → p m ≡ false
    → (n : ℕ) → p n ≡ true → text ≢ decimal n
formless p small text m counted is out n form same =
    let one : m ≡ n = sym (decimal_read m counted) ∙ ap decimal_of (sym is ∙ same) ∙ decimal_read n (small n form) in
    some_false (p m) (ap p one ∙ form) out

-- where no value is made of a number that was read, the text is that of no number in the form
pub made_only : (p : ℕ → Bool) → ((n : ℕ) → p n ≡ true → IsCount n) → (text : List ℕ) (m : ℕ) (o : Option ℕ) → IsCount m → text ≡ decimal m
    → o ≡ cond (p m) (Some m) None → IfNone o ((n : ℕ) → p n ≡ true → text ≢ decimal n)
made_only p small text m (Some x) counted is made = tt
made_only p small text m None counted is made = formless p small text m counted is (unmade (p m) (sym made))
  where
    unmade : (b : Bool) → cond b (Some m) None ≡ None → b ≡ false
    unmade true e = absurd (cc)
    unmade false e = refl

-- a generation has 32 bits
pub generation_below : (n : ℕ) → is_generation n ≡ true → n < 4294967296
generation_below n h = let high = (both (leb 1 n) _ h).1 in grind (arith, nat_tests)

-- ---- lists, an item at a time

-- these items are the first parts of the text, and the others are those of the rest
pub record Reads {X : Type 0} (P : X → Type 0) (f : X → List ℕ) (text : List ℕ) (items : List X) (rest : List ℕ) : Type 0 where
  pub forms : All P items
  pub read : parts_of text ≡ map f items ++ parts_of rest

pub Reads-begins : {X : Type 0} (P : X → Type 0) (f : X → List ℕ) (text : List ℕ) (items : List X) → items ≡ [] → Reads P f text items text
Reads-begins P f text items none = record { forms = All-same P items [] none (All-nil P); read = ap (λ xs. map f xs ++ parts_of text) (sym none) }

first_part : (item more : List ℕ) → is_free 44 item ≡ true → parts_of (item ++ (44 ∷ more)) ≡ item ∷ parts_of more
first_part item more h = slice_split_at (λ b. eqb b 44) item 44 more (none_pass 44 item h) refl

last_part : (item : List ℕ) → is_free 44 item ≡ true → parts_of item ≡ item ∷ []
last_part item h = slice_split_none (λ b. eqb b 44) item (none_pass 44 item h)

-- the parts with one more item, where others follow
with_more : {X : Type 0} (f : X → List ℕ) (items : List X) (x : X) (item : List ℕ) (others : List (List ℕ)) → item ≡ f x
    → map f items ++ (item ∷ others) ≡ map f (items ++ x ∷ []) ++ others
with_more f [] x item others is = ap (λ t. t ∷ others) is
with_more f (y ∷ items) x item others is = ap (λ ts. f y ∷ ts) (with_more f items x item others is)

added_parts : {X : Type 0} (P : X → Type 0) (f : X → List ℕ) (text : List ℕ) (items new : List X) (rest item : List ℕ) (others : List (List ℕ))
    → Reads P f text items rest → parts_of rest ≡ item ∷ others → AddsItem P f items item new → parts_of text ≡ map f new ++ others
added_parts P f text items new rest item others h first adds =
    h.read ∙ ap (λ ps. map f items ++ ps) first ∙ with_more f items adds.item item others adds.is ∙ ap (λ xs. map f xs ++ others) (sym adds.added)

added_forms : {X : Type 0} (P : X → Type 0) (f : X → List ℕ) (items new : List X) (item : List ℕ) → All P items → AddsItem P f items item new → All P new
added_forms P f items new item h adds = All-same P new _ adds.added (All-push P items adds.item h adds.form)

pub Reads-more : {X : Type 0} (P : X → Type 0) (f : X → List ℕ) (text : List ℕ) (items new : List X) (rest item more : List ℕ)
    → Reads P f text items rest → (rest ≡ item ++ (44 ∷ more)) × (is_free 44 item ≡ true) → AddsItem P f items item new → Reads P f text new more
Reads-more P f text items new rest item more h cut adds = record {
  forms = added_forms P f items new item h.forms adds;
  read = added_parts P f text items new rest item (parts_of more) h (ap parts_of cut.0 ∙ first_part item more cut.1) adds;
}

pub Reads-ends : {X : Type 0} (P : X → Type 0) (f : X → List ℕ) (text : List ℕ) (items new : List X) (rest : List ℕ)
    → Reads P f text items rest → is_free 44 rest ≡ true → AddsItem P f items rest new → All P new × (text ≡ list_text (map f new))
Reads-ends P f text items new rest h free adds =
    let whole = added_parts P f text items new rest rest [] h (last_part rest free) adds in
    (added_forms P f items new rest h.forms adds, list_read text (map f new) (sym (append-nil (map f new)) ∙ sym whole))

part_at : {X : Type 0} (f : X → List ℕ) (items : List X) (item : List ℕ) (others parts : List (List ℕ)) → parts ≡ map f items ++ (item ∷ others)
    → (length items < length parts) × (item ≡ get_or parts (length items) item)
part_at f [] item others [] is = absurd (cc)
part_at f [] item others (p ∷ parts) is = (omega arith, ap (λ ps. get_or ps 0 item) (sym is))
part_at f (x ∷ items) item others [] is = absurd (cc)
part_at f (x ∷ items) item others (p ∷ parts) is =
    let at = part_at f items item others parts (ap (drop 1) is) in
    (omega arith, at.1)

-- where an item before a comma isn't read, the text is that of no list
pub Reads-not_more : {X : Type 0} (P : X → Type 0) (f : X → List ℕ) → ((xs : List X) → All P xs → All IsItem (map f xs)) → (text : List ℕ) (items : List X) (rest item more : List ℕ)
    → Reads P f text items rest → (rest ≡ item ++ (44 ∷ more)) × (is_free 44 item ≡ true) → ((x : X) → P x → item ≢ f x) → text ≢ codes "-"
    → (xs : List X) → All P xs → text ≢ list_text (map f xs)
Reads-not_more P f formed text items rest item more h cut other some =
    let parts = h.read ∙ ap (λ ps. map f items ++ ps) (ap parts_of cut.0 ∙ first_part item more cut.1) in
    not_listed P f formed text (length items) item (part_at f items item (parts_of more) (parts_of text) parts) other some

pub Reads-not_last : {X : Type 0} (P : X → Type 0) (f : X → List ℕ) → ((xs : List X) → All P xs → All IsItem (map f xs)) → (text : List ℕ) (items : List X) (rest : List ℕ)
    → Reads P f text items rest → is_free 44 rest ≡ true → ((x : X) → P x → rest ≢ f x) → text ≢ codes "-"
    → (xs : List X) → All P xs → text ≢ list_text (map f xs)
Reads-not_last P f formed text items rest h free other some =
    let parts = h.read ∙ ap (λ ps. map f items ++ ps) (last_part rest free) in
    not_listed P f formed text (length items) rest (part_at f items rest [] (parts_of text) parts) other some

pub shorter : (rest item more : List ℕ) → rest ≡ item ++ (44 ∷ more) → length more < length rest
shorter rest item more is = omega (arith, length-append item (44 ∷ more), ap length is)

-- the fault that `?` passes on
pub passed_on : {T E : Type 0} (r : Result T E) (given fault : E) → IsErr r × IsErrAnd r (λ e. e ≡ given) → IsErrOf r fault → given ≡ fault
passed_on (Ok x) given fault h is = absurd (cc)
passed_on (Err e) given fault h is = cc
