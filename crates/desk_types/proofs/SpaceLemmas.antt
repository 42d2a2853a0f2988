-- Texts split at their first space, and numbers before it.
use Rattle.std.proofs.Common.{◌≡◌, ◌≢◌, ℕ, zero, suc, ◌+◌, ◌-◌, ◌<◌, ◌≤◌, ltb, eqb, leb, cond, Bool, true, false, not, ◌&&◌, ◌||◌, Bor, List, [], ◌∷◌, ◌++◌, length, get_or, take, drop, Option, Some, None, IfNone, IfSome, Result, Ok, Err, decimal, position, refl, sym, subst, ap, ◌^◌, ◌∙◌, arith, add-one}
use Rattle.std.specs.Char.{is_ascii_digit}
use Rattle.std.specs.List.{list_all, position_or_len}
use Rattle.std.specs.Result.{OkIff, result_ok}
use Rattle.std.specs.Str.{IsAscii}
use Rattle.std.specs.Str.Parse.{ParsesUnsigned}
use Rattle.std.specs.Cmp.Lexicographic.{pointwise}
use Rattle.std.proofs.lemmas.Bool.{eq-eqb, eqb-true}
use Rattle.std.proofs.lemmas.Bool.Decides.{Decides-eqb, nat_tests}
use Rattle.std.proofs.lemmas.Fmt.{decimal_digit, decimal_nonempty, first_decimal, digits_decimal, decimal-digits_value, digits_value-decimal}
use Rattle.std.proofs.lemmas.List.{append_cancel_left, take_all, take_rest}
use Rattle.std.proofs.lemmas.List.Quantifiers.{position-Some}
use Rattle.std.proofs.lemmas.List.Sums.{fails_before_first}
use Rattle.std.proofs.lemmas.Option.{same_Some}
use Rattle.std.proofs.lemmas.Str.Parse.{parse_digits}
use Rattle.std.proofs.lemmas.Slice.Eq.{strip_prefix_is}
use Rattle.sbat.specs.Fields.{decimal_of}
use Rattle.desk_types.specs.Commands.{IsCount}
use Rattle.desk_types.specs.Forms.{is_numeral, is_request_number, is_space}
use Rattle.desk_types.proofs.FieldLemmas.{after, after-is, before, before-is, is_free}
use Rattle.desk_types.proofs.FormLemmas.{both, joined}
use Rattle.desk_types.proofs.NumberLemmas.{own}
use Rattle.desk_types.proofs.ValueLemmas.{decimal_free}

pub none_fact : {A P : Type 0} (o : Option A) → P → IfNone o P
none_fact None p = p
none_fact (Some x) p = tt

cut : (c : ℕ) (text : List ℕ) (i : ℕ) → i < length text → eqb (get_or text i 0) c ≡ true → text ≡ take i text ++ (c ∷ drop (suc i) text)
cut c [] i h s = absurd (omega arith)
cut c (b ∷ bs) zero h s = ap (λ x. x ∷ bs) (eqb-true b c s)
cut c (b ∷ bs) (suc i) h s = ap (λ t. b ∷ t) (cut c bs i (omega arith) s)

free_to : (c : ℕ) (text : List ℕ) (i : ℕ) → i ≤ length text → ((k : ℕ) → k < i → eqb (get_or text k 0) c ≡ false) → is_free c (take i text) ≡ true
free_to c text zero h f = refl
free_to c [] (suc i) h f = refl
free_to c (b ∷ bs) (suc i) h f =
    let first : eqb b c ≡ false = f 0 (omega arith) in
    joined (not (eqb b c)) (is_free c (take i bs)) (ap not first) (free_to c bs i (omega arith) (λ k less. f (suc k) (omega arith)))

-- where the first such byte was found, the text is cut there
pub cut_found : (c : ℕ) (text : List ℕ) (i : ℕ) → position (λ b. eqb b c) text ≡ Some i
    → (text ≡ take i text ++ (c ∷ take (length text - (i + 1)) (drop (i + 1) text))) × (is_free c (take i text) ≡ true)
cut_found c text i e =
    let found = position-Some (λ b. eqb b c) text i 0 e in
    let within = found.0 in
    let rest : drop (suc i) text ≡ take (length text - (i + 1)) (drop (i + 1) text) = ap (λ n. drop n text) (sym (add-one i)) ∙ sym (take_rest text (i + 1)) in
    (cut c text i within found.1 ∙ ap (λ r. take i text ++ (c ∷ r)) rest, free_to c text i (omega arith) found.2)

none_is : (b : Bool) (n : ℕ) → cond b (Some n) None ≡ None → b ≡ false
none_is true n e = absurd (cc)
none_is false n e = refl

-- where none was found, there is none
pub cut_none : (c : ℕ) (text : List ℕ) → position (λ b. eqb b c) text ≡ None → is_free c text ≡ true
cut_none c text e =
    let past = none_is (ltb (position_or_len (λ b. eqb b c) text) (length text)) (position_or_len (λ b. eqb b c) text) e in
    let all : length text ≤ position_or_len (λ b. eqb b c) text = grind (arith, nat_tests, past) in
    let free = free_to c text (length text) (omega arith) (λ k less. fails_before_first (λ b. eqb b c) text k 0 (omega arith)) in
    ap (is_free c) (sym (take_all (length text) text (omega arith))) ∙ free

-- there is one way to split a text at a byte with none before it
pub cut_once : (c : ℕ) (a b d e : List ℕ) → is_free c a ≡ true → is_free c d ≡ true → a ++ (c ∷ b) ≡ d ++ (c ∷ e) → (a ≡ d) × (b ≡ e)
cut_once c a b d e h k same =
    (sym (before-is c a b h) ∙ ap (before c) same ∙ before-is c d e k, sym (after-is c a b h) ∙ ap (after c) same ∙ after-is c d e k)

-- the same at a space
pub parted_found : (text : List ℕ) (i : ℕ) → position is_space text ≡ Some i
    → (text ≡ take i text ++ (32 ∷ take (length text - (i + 1)) (drop (i + 1) text))) × (is_free 32 (take i text) ≡ true)
parted_found text i e = cut_found 32 text i e

pub parted_none : (text : List ℕ) → position is_space text ≡ None → is_free 32 text ≡ true
parted_none text e = cut_none 32 text e

pub parted_once : (a b c d : List ℕ) → is_free 32 a ≡ true → is_free 32 c ≡ true → a ++ (32 ∷ b) ≡ c ++ (32 ∷ d) → (a ≡ c) × (b ≡ d)
parted_once a b c d h k e = cut_once 32 a b c d h k e

free_apart : (b : Bool) → not b ≡ true → b ≡ true → ⊥
free_apart b h k = cc

-- a text without the byte isn't split at it
pub cut_whole : (c : ℕ) (a b : List ℕ) → is_free c (a ++ (c ∷ b)) ≡ true → ⊥
cut_whole c [] b h = free_apart (eqb c c) (both (not (eqb c c)) (is_free c b) h).0 (eq-eqb c c refl)
cut_whole c (x ∷ a) b h = cut_whole c a b (both (not (eqb x c)) (is_free c (a ++ (c ∷ b))) h).1

pub free_whole : (a b : List ℕ) → is_free 32 (a ++ (32 ∷ b)) ≡ true → ⊥
free_whole a b h = cut_whole 32 a b h

-- ---- numbers

alone_by : (few zero_first : Bool) → (few || not zero_first) ≡ true → zero_first ≡ true → few ≡ true
alone_by true zero_first h e = refl
alone_by false true h e = h
alone_by false false h e = e

pub record IsNumeral (text : List ℕ) : Type 0 where
  pub some : 0 < length text
  pub alone : get_or text 0 0 ≡ 48 → length text ≡ 1
  pub digits : list_all is_ascii_digit text ≡ true

pub numeral_parts : (text : List ℕ) → is_numeral text ≡ true → IsNumeral text
numeral_parts text h =
    let front = both (leb 1 (length text) && (leb (length text) 1 || not (eqb (get_or text 0 0) 48))) (list_all is_ascii_digit text) h in
    let sizes = both (leb 1 (length text)) (leb (length text) 1 || not (eqb (get_or text 0 0) 48)) front.0 in
    let low = sizes.0 in
    let one : get_or text 0 0 ≡ 48 → leb (length text) 1 ≡ true =
    λ e. alone_by (leb (length text) 1) (eqb (get_or text 0 0) 48) sizes.1 (grind (arith, nat_tests)) in
    record {
      some = grind (arith, nat_tests);
      alone = λ e. let few = one e in grind (arith, nat_tests);
      digits = front.1;
    }

few_or : (a b : Bool) → b ≡ false → (a || not b) ≡ true
few_or true b h = refl
few_or false b h = ap not h

alone_decimal : (n : ℕ) → IsCount n → (leb (length (decimal n)) 1 || not (eqb (get_or (decimal n) 0 0) 48)) ≡ true
alone_decimal zero small = ap (λ t. leb (length t) 1 || not (eqb (get_or t 0 0) 48)) (decimal_digit 0 (omega arith))
alone_decimal (suc n) small =
    let first : eqb (get_or (decimal (suc n)) 0 0) 48 ≡ false = grind (arith, nat_tests, first_decimal (suc n) (omega arith) small) in
    few_or (leb (length (decimal (suc n))) 1) (eqb (get_or (decimal (suc n)) 0 0) 48) first

-- the decimal text of a number is a numeral
pub is_numeral-decimal : (n : ℕ) → IsCount n → is_numeral (decimal n) ≡ true
is_numeral-decimal n small =
    let some : leb 1 (length (decimal n)) ≡ true = grind (arith, nat_tests, decimal_nonempty n small) in
    joined _ _ (joined _ _ some (alone_decimal n small)) (digits_decimal own n small)

-- the number that the text of a numeral is parsed as
parsed : {E : Type 0} (given text : List ℕ) (r : Result ℕ E) → text ≡ given → IsNumeral given → ParsesUnsigned 64 10 text r
    → OkIff r ((0 < length given) × (decimal_of given < 2 ^ 64)) (decimal_of given)
parsed given text r same h p = parse_digits own 64 given r (subst (λ t. ParsesUnsigned 64 10 t r) same p) h.digits

-- the number that is read of a numeral is the one whose text it is
pub numeral_read : {E : Type 0} (given text : List ℕ) (r : Result ℕ E) (o : Option ℕ) → text ≡ given → is_numeral given ≡ true → ParsesUnsigned 64 10 text r
    → o ≡ result_ok r → IfSome o (λ n. given ≡ decimal n)
numeral_read given text r None same h p e = tt
numeral_read given text (Err x) (Some n) same h p e = absurd (cc)
numeral_read {E} given text (Ok m) (Some n) same h p e =
    let parts = numeral_parts given h in
    let read = parsed {E = E} given text (Ok m) same parts p in
    let is : n ≡ m = same_Some n m e in
    sym (ap decimal (is ∙ read.1) ∙ decimal-digits_value own given parts.digits parts.some parts.alone read.0.1)

-- and where none is read there is none
pub numeral_unread : {E : Type 0} (given text : List ℕ) (r : Result ℕ E) (o : Option ℕ) → text ≡ given → is_numeral given ≡ true → ParsesUnsigned 64 10 text r
    → o ≡ result_ok r → IfNone o ((n : ℕ) → IsCount n → given ≡ decimal n → ⊥)
numeral_unread given text r (Some n) same h p e = tt
numeral_unread given text (Ok m) None same h p e = absurd (cc)
numeral_unread given text (Err x) None same h p e =
    let parts = numeral_parts given h in
    let read = parsed given text (Err x) same parts p in
    λ n small is. read (parts.some, subst (λ m. m < 2 ^ 64) (sym (ap decimal_of is ∙ digits_value-decimal own n small)) small)

ascii_digits : (text : List ℕ) → list_all is_ascii_digit text ≡ true → IsAscii text
ascii_digits [] h i = omega arith
ascii_digits (b ∷ bs) h zero =
    let digit : is_ascii_digit b ≡ true = (both (is_ascii_digit b) (list_all is_ascii_digit bs) h).0 in
    grind (arith, nat_tests, digit)
ascii_digits (b ∷ bs) h (suc i) = ascii_digits bs (both (is_ascii_digit b) (list_all is_ascii_digit bs) h).1 i

-- a numeral is ASCII
pub numeral_ascii : (text : List ℕ) → is_numeral text ≡ true → IsAscii text
numeral_ascii text h = ascii_digits text (numeral_parts text h).digits

-- ---- beginnings

-- the rest that `strip_prefix` gives of a text that begins so
abbrev pub BeginsSo : List ℕ → List ℕ → Bor (List ℕ) → Type 0
BeginsSo text beginning rest =
    (pointwise eqb (take (length beginning) text) beginning ≡ true) × (rest.now ≡ drop (length beginning) text) × (length rest.now + length beginning ≡ length text)

pub stripped : (text beginning : List ℕ) (rest : Bor (List ℕ)) → BeginsSo text beginning rest → text ≡ beginning ++ rest.now
stripped text beginning rest h = strip_prefix_is Decides-eqb text beginning (Some rest) h

pub stripped_none : (text beginning : List ℕ) → pointwise eqb (take (length beginning) text) beginning ≡ false → (rest : List ℕ) → text ≢ beginning ++ rest
stripped_none text beginning h = strip_prefix_is Decides-eqb text beginning None h

-- a number after a beginning
pub stripped_one : (text beginning : List ℕ) (rest : Bor (List ℕ)) (o : Option ℕ) → text ≡ beginning ++ rest.now
    → IfSome o (λ n. rest.now ≡ decimal n) → IfSome o (λ n. text ≡ beginning ++ decimal n)
stripped_one text beginning rest None is h = tt
stripped_one text beginning rest (Some n) is h = is ∙ ap (λ r. beginning ++ r) h

pub stripped_others : (text beginning : List ℕ) (rest : Bor (List ℕ)) (o : Option ℕ) → text ≡ beginning ++ rest.now
    → IfNone o ((n : ℕ) → is_request_number n ≡ true → rest.now ≡ decimal n → ⊥)
    → IfNone o ((n : ℕ) → is_request_number n ≡ true → text ≡ beginning ++ decimal n → ⊥)
stripped_others text beginning rest (Some n) is h = tt
stripped_others text beginning rest None is h = λ n form same. h n form (append_cancel_left beginning rest.now (decimal n) (sym is ∙ same))

-- the text after a number
pub behind_number : (text rest more : List ℕ) (m n : ℕ) → IsCount m → IsCount n → text ≡ decimal m ++ (32 ∷ rest) → text ≡ decimal n ++ (32 ∷ more) → rest ≡ more
behind_number text rest more m n h k is same =
    (parted_once (decimal m) rest (decimal n) more (decimal_free m h) (decimal_free n k) (sym is ∙ same)).1
