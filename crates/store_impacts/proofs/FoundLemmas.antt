-- The calls and the requests of images, found by their numbers.
use Rattle.std.proofs.Common.{◌≡◌, ◌≤◌, ◌<◌, ℕ, ◌+◌, ◌==◌, Bool, true, false, cond, List, [], ◌∷◌, map, filter, find, length, All, Option, Some, None, option_map, refl, sym, ap, subst, ◌∙◌, arith}
use Rattle.std.specs.List.{AllByRecursion, Contains, cons_option}
use Rattle.std.specs.Option.{option_map_or}
use Rattle.std.proofs.lemmas.Bool.Decides.{nat_tests}
use Rattle.std.proofs.lemmas.List.Elements.{All-contains, All-from_recursion, All-head, All-tail}
use Rattle.sqlite_trees.proofs.ListLemmas.{filter-map}
use Rattle.desk_types.specs.declared.command.Command.{Command}
use Rattle.desk_types.specs.declared.command.Command.TheVariants as command
use Rattle.desk_types.specs.CommandTexts.{text_of}
use Rattle.desk_types.specs.declared.facts.Facts.{Facts}
use Rattle.desk_history.specs.Calls.{History, Item}
use Rattle.desk_history.specs.Formed.{IsHistory, IsItem}
use Rattle.desk_history.specs.Images.{Image, image_of}
use Rattle.desk_history.specs.Replies.{minute_of, minutes}
use Rattle.desk_history.specs.Requests.{Request, has_number, request, requests, state}
use Rattle.desk_history.specs.Tables.{request_row, tables}
use Rattle.desk_history.specs.declared.rows.Minute.{Minute}
use Rattle.desk_history.specs.declared.rows.RequestRow.{RequestRow}
use Rattle.desk_history.proofs.ListLemmas.{number_above, number_is, number_itself}
use Rattle.desk_history.proofs.ShownLemmas.{found_passes}
use Rattle.store_reads.specs.CallColumns.{texts_of}
use Rattle.store_reads.specs.Reads.{listed}
use Rattle.store_reads.specs.declared.call_texts.CallTexts.{CallTexts}
use Rattle.store_impacts.specs.Barring.{AreFactsOf, Describes}
use Rattle.store_impacts.specs.Passing.{image_after, passed_by}
use Rattle.store_impacts.specs.Touching.{Brought, brought, brought_by}
use Rattle.store_impacts.specs.declared.passed.BroughtImage.{BroughtImage}

keeps : {X : Type 0} (p : X → Bool) (x : X) (xs : List X) → p x ≡ true → filter p (x ∷ xs) ≡ x ∷ filter p xs
keeps p x xs h = ap (λ b. cond b (x ∷ filter p xs) (filter p xs)) h

drops : {X : Type 0} (p : X → Bool) (x : X) (xs : List X) → p x ≡ false → filter p (x ∷ xs) ≡ filter p xs
drops p x xs h = ap (λ b. cond b (x ∷ filter p xs) (filter p xs)) h

-- ---- the call that brought an image

-- no call has a higher number than the last one
none_higher : (n : ℕ) (cs : History) → length cs < n → filter (λ (m : Minute). n == m.number) (minutes cs) ≡ []
none_higher n [] low = refl
none_higher n (i ∷ cs) low =
    drops (λ (m : Minute). n == m.number) (minute_of cs i) (minutes cs) (number_above n (length cs + 1) (omega (arith, low))) ∙ none_higher n cs (omega (arith, low))

-- the item that brought the image, and the calls before it
record Brings (cs : History) (b : Brought) : Type 0 where
  item : Item
  before : History
  own : IsItem item
  is : brought_by before item ≡ Some b
  low : b.call ≤ length cs
  one : filter (λ (m : Minute). b.call == m.number) (minutes cs) ≡ minute_of before item ∷ []

higher : (n m : ℕ) → n ≤ m → (n == m + 1) ≡ false
higher n m h = grind (arith, nat_tests, h)

one_older : (cs : History) (i : Item) (b : Brought) → Brings cs b → Brings (i ∷ cs) b
one_older cs i b it = record {
  item = it.item;
  before = it.before;
  own = it.own;
  is = it.is;
  low = (let h = it.low in omega (arith, h));
  one = drops (λ (m : Minute). b.call == m.number) (minute_of cs i) (minutes cs) (higher b.call (length cs) it.low) ∙ it.one;
}

all_older : (cs : History) (i : Item) (bs : List Brought) → AllByRecursion (Brings cs) bs → AllByRecursion (Brings (i ∷ cs)) bs
all_older cs i [] all = tt
all_older cs i (b ∷ bs) all = (one_older cs i b all.0, all_older cs i bs all.1)

call_is : (n : ℕ) (o : Option Image) (b : Brought) → option_map (λ m. record { call = n; image = m }) o ≡ Some b → b.call ≡ n
call_is n None b h = absurd cc
call_is n (Some m) b h = let same : record { call = n; image = m } ≡ b = cc in ap (λ (c : Brought). c.call) (sym same)

newest : (cs : History) (i : Item) (b : Brought) → IsItem i → brought_by cs i ≡ Some b → Brings (i ∷ cs) b
newest cs i b own is =
    let n : b.call ≡ length cs + 1 = call_is (length cs + 1) (image_of cs i.call.command) b is in
    record {
      item = i;
      before = cs;
      own = own;
      is = is;
      low = omega (arith, n);
      one = keeps (λ (m : Minute). b.call == m.number) (minute_of cs i) (minutes cs) (ap (λ k. b.call == k) (sym n) ∙ number_itself b.call)
          ∙ ap (λ l. minute_of cs i ∷ l) (none_higher b.call cs (omega (arith, n)));
    }

one_brings : (cs : History) (i : Item) → IsItem i → AllByRecursion (Brings (i ∷ cs)) (brought cs) → (o : Option Brought) → brought_by cs i ≡ o
    → AllByRecursion (Brings (i ∷ cs)) (cons_option o (brought cs))
one_brings cs i own older None is = older
one_brings cs i own older (Some b) is = (newest cs i b own is, older)

all_bring : (cs : History) → All IsItem cs → AllByRecursion (Brings cs) (brought cs)
all_bring [] all = tt
all_bring (i ∷ cs) all =
    one_brings cs i (All-head IsItem i cs all) (all_older cs i (brought cs) (all_bring cs (All-tail IsItem i cs all))) (brought_by cs i) refl

image_is : (cs : History) (c : Command) → image_of cs c ≡ option_map (image_after (length (requests cs))) (passed_by c)
image_is cs (command.Submit s) = refl
image_is cs (command.Return h) = refl
image_is cs _ = refl

facts_in : (n k : ℕ) (p : BroughtImage) (b : Brought) → option_map (λ m. record { call = n; image = m }) (Some (image_after k p)) ≡ Some b → p.facts ≡ b.image.facts
facts_in n k p b h = let same : record { call = n; image = image_after k p } ≡ b = cc in ap (λ (c : Brought). c.image.facts) same

-- the facts in the call's text are those of the image
pub facts_are : (cs : History) → IsHistory cs → (call : ℕ) (texts : CallTexts) (p : BroughtImage) → map texts_of (filter (λ (m : Minute). call == m.number) (minutes cs)) ≡ listed (Some texts)
    → ((i : Item) → IsItem i → texts.text ≡ text_of i.call.command → passed_by i.call.command ≡ Some p) → AreFactsOf call p.facts cs
facts_are cs history call texts p found read b has of_it =
    let it = All-contains (Brings cs) (brought cs) b (All-from_recursion (Brings cs) (brought cs) (all_bring cs history.formed)) has in
    let one : filter (λ (m : Minute). call == m.number) (minutes cs) ≡ minute_of it.before it.item ∷ [] = subst (λ n. filter (λ (m : Minute). n == m.number) (minutes cs) ≡ minute_of it.before it.item ∷ []) of_it it.one in
    let its : texts_of (minute_of it.before it.item) ∷ [] ≡ texts ∷ [] = sym (ap (map texts_of) one) ∙ found in
    let same : texts_of (minute_of it.before it.item) ≡ texts = cc in
    let text : texts.text ≡ text_of it.item.call.command = ap (λ (t : CallTexts). t.text) (sym same) in
    let brings : image_of it.before it.item.call.command ≡ Some (image_after (length (requests it.before)) p) =
    image_is it.before it.item.call.command ∙ ap (option_map (image_after (length (requests it.before)))) (read it.item it.own text) in
    facts_in (length it.before + 1) (length (requests it.before)) p b (ap (option_map (λ m. record { call = length it.before + 1; image = m })) (sym brings) ∙ it.is)

-- ---- the request of an image

-- one item at most passes the test
found_next : {X : Type 0} (p : X → Bool) (x y : X) (ys : List X) → filter p (y ∷ ys) ≡ x ∷ [] → (filter p ys ≡ x ∷ [] → find p ys ≡ Some x) → (b : Bool) → p y ≡ b → find p (y ∷ ys) ≡ Some x
found_next p x y ys e more true h =
    let is : y ∷ filter p ys ≡ x ∷ [] = sym (keeps p y ys h) ∙ e in
    let same : y ≡ x = cc in
    ap (λ b. cond b (Some y) (find p ys)) h ∙ ap Some same
found_next p x y ys e more false h = ap (λ b. cond b (Some y) (find p ys)) h ∙ more (sym (drops p y ys h) ∙ e)

found_one : {X : Type 0} (p : X → Bool) (x : X) (xs : List X) → filter p xs ≡ x ∷ [] → find p xs ≡ Some x
found_one p x [] e = absurd cc
found_one p x (y ∷ ys) e = found_next p x y ys e (found_one p x ys) (p y) refl

one_mapped : {X Y : Type 0} (g : X → Y) (xs : List X) (y : Y) → map g xs ≡ y ∷ [] → (x : X) × (xs ≡ x ∷ []) × (g x ≡ y)
one_mapped g [] y e = absurd cc
one_mapped g (x ∷ []) y e = (x, refl, (let same : g x ≡ y = cc in same))
one_mapped g (x ∷ z ∷ xs) y e = absurd cc

pub describes : (owner : List ℕ) (cs : History) (k : ℕ) (row : RequestRow) → filter (λ (r : RequestRow). k == r.number) (tables owner cs).requests ≡ listed (Some row) → Describes cs k row
describes owner cs k row found =
    let g : Request → RequestRow = λ r. request_row (state cs r.number) r in
    let it = one_mapped g (filter (has_number k) (requests cs)) row (sym (filter-map (λ (r : RequestRow). k == r.number) g (requests cs)) ∙ found) in
    let r = it.0 in
    let its : request cs k ≡ Some r = found_one (has_number k) r (requests cs) it.1 in
    let number : k ≡ r.number = number_is k r.number (found_passes (has_number k) (requests cs) r its) in
    record {
      state = ap (λ (x : RequestRow). x.state) (sym it.2) ∙ ap (state cs) (sym number);
      submitter = ap (λ (x : RequestRow). x.submitter) (sym it.2) ∙ ap (λ o. option_map_or (λ (x : Request). x.submitter) o []) (sym its);
      title = ap (λ (x : RequestRow). x.title) (sym it.2) ∙ ap (λ o. option_map_or (λ (x : Request). x.title) o []) (sym its);
    }

none_next : {X : Type 0} (p : X → Bool) (y : X) (ys : List X) → filter p (y ∷ ys) ≡ [] → (filter p ys ≡ [] → find p ys ≡ None) → (b : Bool) → p y ≡ b → find p (y ∷ ys) ≡ None
none_next p y ys e more true h = absurd (let is : y ∷ filter p ys ≡ [] = sym (keeps p y ys h) ∙ e in cc)
none_next p y ys e more false h = ap (λ b. cond b (Some y) (find p ys)) h ∙ more (sym (drops p y ys h) ∙ e)

none_found : {X : Type 0} (p : X → Bool) (xs : List X) → filter p xs ≡ [] → find p xs ≡ None
none_found p [] e = refl
none_found p (y ∷ ys) e = none_next p y ys e (none_found p ys) (p y) refl

-- ---- the caller

pub found_listed : {X : Type 0} (p : X → Bool) (xs : List X) (o : Option X) → filter p xs ≡ listed o → find p xs ≡ o
found_listed p xs None e = none_found p xs e
found_listed p xs (Some x) e = found_one p x xs e
