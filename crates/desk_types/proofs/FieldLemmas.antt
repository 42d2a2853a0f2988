-- Fields of a text, and items of a list, read back.
use Rattle.std.proofs.Common.{◌≡◌, ℕ, zero, suc, ◌<◌, eqb, cond, Bool, true, false, not, List, [], ◌∷◌, ◌++◌, length, get_or, All, refl, sym, ap, ap₂, ◌∙◌, arith}
use Rattle.std.specs.List.{join_with_byte, list_all, slice_split}
use Rattle.std.proofs.lemmas.Bool.Decides.{nat_tests}
use Rattle.std.proofs.lemmas.List.Elements.{All-cons, All-head, All-nil, All-tail}
use Rattle.std.proofs.lemmas.List.Splits.{slice_split_none, slice_split_at}
use Rattle.desk_types.specs.Items.{list_text}
use Rattle.desk_types.proofs.FormLemmas.{both, joined}

-- the byte c isn't in the text
abbrev pub is_free : ℕ → List ℕ → Bool
is_free c text = list_all (λ b. not (eqb b c)) text

eqb_same : (a b : ℕ) → eqb a b ≡ true → a ≡ b
eqb_same a b h = grind (arith, nat_tests)

not_passing : (p : ℕ → Bool) (c b : ℕ) → p c ≡ false → p b ≡ true → not (eqb b c) ≡ true
not_passing p c b outside inside = decided (eqb b c) refl
  where
    differ : b ≡ c → true ≡ false
    differ e = sym inside ∙ ap p e ∙ outside

    decided : (t : Bool) → eqb b c ≡ t → not t ≡ true
    decided true h = sym (differ (eqb_same b c h))
    decided false h = refl

-- where each byte passes a test that c fails, c isn't in the text
pub free-by : (p : ℕ → Bool) (c : ℕ) → p c ≡ false → (text : List ℕ) → list_all p text ≡ true → is_free c text ≡ true
free-by p c outside [] h = refl
free-by p c outside (b ∷ bs) h =
    let parts = both (p b) (list_all p bs) h in
    joined (not (eqb b c)) (is_free c bs) (not_passing p c b outside parts.0) (free-by p c outside bs parts.1)

pub free-append : (c : ℕ) (xs ys : List ℕ) → is_free c xs ≡ true → is_free c ys ≡ true → is_free c (xs ++ ys) ≡ true
free-append c [] ys h k = k
free-append c (x ∷ xs) ys h k =
    let parts = both (not (eqb x c)) (is_free c xs) h in
    joined (not (eqb x c)) (is_free c (xs ++ ys)) parts.0 (free-append c xs ys parts.1 k)

-- ---- fields

-- the text before its first space, and after it
abbrev pub before : ℕ → List ℕ → List ℕ
before c [] = []
before c (b ∷ bs) = cond (eqb b c) [] (b ∷ before c bs)

abbrev pub after : ℕ → List ℕ → List ℕ
after c [] = []
after c (b ∷ bs) = cond (eqb b c) bs (after c bs)

unequal : (b c : ℕ) → not (eqb b c) ≡ true → eqb b c ≡ false
unequal b c h = decided (eqb b c) h
  where
    decided : (t : Bool) → not t ≡ true → t ≡ false
    decided true k = sym k
    decided false k = refl

equal_itself : (c : ℕ) → eqb c c ≡ true
equal_itself c = grind (arith, nat_tests)

pub before-is : (c : ℕ) (xs ys : List ℕ) → is_free c xs ≡ true → before c (xs ++ (c ∷ ys)) ≡ xs
before-is c [] ys h = rw (equal_itself c) refl
before-is c (x ∷ xs) ys h =
    let parts = both (not (eqb x c)) (is_free c xs) h in
    rw (unequal x c parts.0) (ap (λ t. x ∷ t) (before-is c xs ys parts.1))

pub after-is : (c : ℕ) (xs ys : List ℕ) → is_free c xs ≡ true → after c (xs ++ (c ∷ ys)) ≡ ys
after-is c [] ys h = rw (equal_itself c) refl
after-is c (x ∷ xs) ys h =
    let parts = both (not (eqb x c)) (is_free c xs) h in
    rw (unequal x c parts.0) (after-is c xs ys parts.1)

-- the first n fields, and what is left
abbrev pub fields : ℕ → List ℕ → List (List ℕ)
fields zero text = text ∷ []
fields (suc n) text = before 32 text ∷ fields n (after 32 text)

pub fields-more : (n : ℕ) (xs ys : List ℕ) (rest : List (List ℕ)) → is_free 32 xs ≡ true → fields n ys ≡ rest → fields (suc n) (xs ++ (32 ∷ ys)) ≡ xs ∷ rest
fields-more n xs ys rest h same = ap₂ (λ f r. f ∷ fields n r) (before-is 32 xs ys h) (after-is 32 xs ys h) ∙ ap (λ r. xs ∷ r) same

abbrev pub field : List (List ℕ) → ℕ → List ℕ
field parts i = get_or parts i []

-- ---- lists

-- an item isn't empty, has no comma (44), and doesn't begin with `-` (45), the mark of an empty
-- list
pub record IsItem (item : List ℕ) : Type 0 where
  pub free : is_free 44 item ≡ true
  pub first : eqb (get_or item 0 45) 45 ≡ false

-- where each byte passes a test that c fails, the first isn't c
pub first-by : (p : ℕ → Bool) (c : ℕ) → p c ≡ false → (text : List ℕ) → 0 < length text → list_all p text ≡ true → eqb (get_or text 0 c) c ≡ false
first-by p c outside [] some h = absurd (omega arith)
first-by p c outside (b ∷ bs) some h = unequal b c (not_passing p c b outside (both (p b) (list_all p bs) h).0)

pub first-append : (xs ys : List ℕ) → eqb (get_or xs 0 45) 45 ≡ false → eqb (get_or (xs ++ ys) 0 45) 45 ≡ false
first-append [] ys h = absurd (cc)
first-append (x ∷ xs) ys h = h

pub none_pass : (c : ℕ) (xs : List ℕ) → is_free c xs ≡ true → All (λ b. eqb b c ≡ false) xs
none_pass c [] h = All-nil (λ b. eqb b c ≡ false)
none_pass c (x ∷ xs) h =
    let parts = both (not (eqb x c)) (is_free c xs) h in
    All-cons (λ b. eqb b c ≡ false) x xs (unequal x c parts.0) (none_pass c xs parts.1)

pub split_joined : (x : List ℕ) (xs : List (List ℕ)) → All IsItem (x ∷ xs) → slice_split (λ b. eqb b 44) (join_with_byte 44 (x ∷ xs)) ≡ x ∷ xs
split_joined x [] h = slice_split_none (λ b. eqb b 44) x (none_pass 44 x (All-head IsItem x [] h).free)
split_joined x (y ∷ ys) h =
    slice_split_at (λ b. eqb b 44) x 44 (join_with_byte 44 (y ∷ ys)) (none_pass 44 x (All-head IsItem x (y ∷ ys) h).free) refl
    ∙ ap (λ r. x ∷ r) (split_joined y ys (All-tail IsItem x (y ∷ ys) h))

first_joined : (x : List ℕ) (xs : List (List ℕ)) → eqb (get_or x 0 45) 45 ≡ false → eqb (get_or (join_with_byte 44 (x ∷ xs)) 0 45) 45 ≡ false
first_joined x [] h = h
first_joined x (y ∷ ys) h = first-append x (44 ∷ join_with_byte 44 (y ∷ ys)) h

-- the items of a list's text
abbrev pub items_in : List ℕ → List (List ℕ)
items_in text = cond (eqb (get_or text 0 45) 45) [] (slice_split (λ b. eqb b 44) text)

pub items_in-list_text : (xs : List (List ℕ)) → All IsItem xs → items_in (list_text xs) ≡ xs
items_in-list_text [] h = refl
items_in-list_text (x ∷ xs) h = rw (first_joined x xs (All-head IsItem x xs h).first) (split_joined x xs h)

free_joined : (c : ℕ) (x : List ℕ) (xs : List (List ℕ)) → not (eqb 44 c) ≡ true → All (λ y. is_free c y ≡ true) (x ∷ xs) → is_free c (join_with_byte 44 (x ∷ xs)) ≡ true
free_joined c x [] comma h = All-head (λ y. is_free c y ≡ true) x [] h
free_joined c x (y ∷ ys) comma h =
    free-append c x (44 ∷ join_with_byte 44 (y ∷ ys)) (All-head (λ z. is_free c z ≡ true) x (y ∷ ys) h)
    (joined (not (eqb 44 c)) (is_free c (join_with_byte 44 (y ∷ ys))) comma (free_joined c y ys comma (All-tail (λ z. is_free c z ≡ true) x (y ∷ ys) h)))

-- a list of items without spaces has none
pub free_list : (xs : List (List ℕ)) → All (λ y. is_free 32 y ≡ true) xs → is_free 32 (list_text xs) ≡ true
free_list [] h = refl
free_list (x ∷ xs) h = free_joined 32 x xs refl h
