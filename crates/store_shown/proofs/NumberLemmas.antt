-- Requests read by their numbers, one after another.
use Rattle.std.proofs.Common.{◌≡◌, ℕ, ◌+◌, Bool, true, false, List, [], ◌∷◌, ◌++◌, filter, length, Option, Some, refl, sym, ap, ap₂, subst, ◌∙◌, length-append, append-nil, arith}
use Rattle.std.specs.List.{AllZip}
use mir.Val.{bool_byte}
use Rattle.std.proofs.lemmas.List.Elements.{filter-append}
use Rattle.desk_types.specs.declared.command.Person.{Person}
use Rattle.desk_types.specs.declared.shown.ShownRequest.{ShownRequest}
use Rattle.desk_history.specs.Tables.{Tables}
use Rattle.desk_history.specs.declared.rows.RequestRow.{RequestRow}
use Rattle.store_reads.specs.Reads.{listed}
use Rattle.store_proposals.proofs.PlaceLemmas.{numbered_more, zip_append}
use Rattle.store_shown.specs.Choosing.{ListsAfter, TakesNumbered, keeps_shown, picks_row}
use Rattle.store_shown.specs.Steps.{IsShownIn, rows_at}
use Rattle.store_shown.specs.declared.choice.Choice.{Choice}
use Rattle.store_shown.proofs.ItemLemmas.{drops, keeps}

-- ---- one request

module _ (choice : Choice) (reader : Person) (t : Tables) (k n : ℕ) (same : n ≡ k) (found : Option RequestRow) (row : RequestRow) (some : found ≡ Some row) where
  -- the result of the read of the row
  abbrev pub IsFound : Type 0
  IsFound = rows_at t n ≡ listed found

  only_row : IsFound → rows_at t k ≡ row ∷ []
  only_row e = subst (λ m. rows_at t m ≡ row ∷ []) same (e ∙ ap listed some)

  made_of_none : picks_row choice reader row ≡ false → AllZip (IsShownIn t) (filter (picks_row choice reader) (row ∷ [])) []
  made_of_none hidden = subst (λ rows. AllZip (IsShownIn t) rows []) (sym (drops (picks_row choice reader) row [] hidden)) tt

  made_of_one : picks_row choice reader row ≡ true → (s : ShownRequest) → IsShownIn t row s → AllZip (IsShownIn t) (filter (picks_row choice reader) (row ∷ [])) (s ∷ [])
  made_of_one seen s shown = subst (λ rows. AllZip (IsShownIn t) rows (s ∷ [])) (sym (keeps (picks_row choice reader) row [] seen)) (shown, tt)

  pub takes_none : (held : List ShownRequest → Type 0) → picks_row choice reader row ≡ false → IsFound → TakesNumbered choice reader t k held held false
  takes_none held hidden e = record {
    row = row;
    is = only_row e;
    made = [];
    are = made_of_none hidden;
    takes = λ l was. subst held (sym (append-nil l)) was;
    count = refl;
  }

  pub takes_voted : (held : List ShownRequest → Type 0) → picks_row choice reader row ≡ true → IsFound → (s : ShownRequest) → keeps_shown choice reader s ≡ false → IsShownIn t row s
      → TakesNumbered choice reader t k held held false
  takes_voted held seen e s left shown =
      let none : filter (keeps_shown choice reader) (s ∷ []) ≡ [] = drops (keeps_shown choice reader) s [] left in
      record {
        row = row;
        is = only_row e;
        made = s ∷ [];
        are = made_of_one seen s shown;
        takes = λ l was. subst held (sym (ap (λ m. l ++ m) none ∙ append-nil l)) was;
        count = ap length none;
      }

  pub takes_one : (before after : List ShownRequest → Type 0) → picks_row choice reader row ≡ true → IsFound → (s : ShownRequest) → keeps_shown choice reader s ≡ true → IsShownIn t row s
      → ((held : List ShownRequest) → before held → after (held ++ s ∷ [])) → TakesNumbered choice reader t k before after true
  takes_one before after seen e s kept shown pushed =
      let all : filter (keeps_shown choice reader) (s ∷ []) ≡ s ∷ [] = keeps (keeps_shown choice reader) s [] kept in
      record {
        row = row;
        is = only_row e;
        made = s ∷ [];
        are = made_of_one seen s shown;
        takes = λ l was. subst after (ap (λ m. l ++ m) (sym all)) (pushed l was);
        count = ap length all;
      }

-- ---- one more

module _ (choice : Choice) (reader : Person) (t : Tables) where
  pub lists_none : (k : ℕ) (holds : List ShownRequest → Type 0) → holds [] → ListsAfter choice reader t k k 0 holds
  lists_none k holds none = record {
    rows = [];
    numbered = tt;
    reached = (let same : k + 0 ≡ k = omega arith in same);
    made = [];
    are = tt;
    held = none;
    count = refl;
  }

  pub lists_more : (k n many : ℕ) (before after : List ShownRequest → Type 0) (is_taken : Bool) → ListsAfter choice reader t k n many before
      → TakesNumbered choice reader t (n + 1) before after is_taken → ListsAfter choice reader t k (n + 1) (many + bool_byte is_taken) after
  lists_more k n many before after is_taken l it =
      let picks = picks_row choice reader in
      let kept = keeps_shown choice reader in
      let rows = l.rows ++ it.row ∷ [] in
      let long : length rows ≡ length l.rows + 1 = length-append l.rows (it.row ∷ []) in
      let reached = l.reached in
      let place : n + 1 ≡ k + 1 + length l.rows = omega (arith, reached) in
      let both : filter kept (l.made ++ it.made) ≡ filter kept l.made ++ filter kept it.made = filter-append kept l.made it.made in
      record {
        rows = rows;
        numbered = numbered_more (rows_at t) (k + 1) l.rows it.row l.numbered (subst (λ m. rows_at t m ≡ it.row ∷ []) place it.is);
        reached = omega (arith, reached, long);
        made = l.made ++ it.made;
        are = subst (λ xs. AllZip (IsShownIn t) xs (l.made ++ it.made)) (sym (filter-append picks l.rows (it.row ∷ [])))
            (zip_append (IsShownIn t) (filter picks l.rows) (filter picks (it.row ∷ [])) l.made it.made l.are it.are);
        held = subst after (sym both) (it.takes (filter kept l.made) l.held);
        count = ap length both ∙ length-append (filter kept l.made) (filter kept it.made) ∙ ap₂ ◌+◌ l.count it.count;
      }
