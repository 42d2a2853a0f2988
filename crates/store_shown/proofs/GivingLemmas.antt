-- The answer to a person who asks for a request.
use Rattle.std.proofs.Common.{◌≡◌, ℕ, ◌==◌, Bool, true, false, List, [], ◌∷◌, map, filter, Option, Some, None, option_map, Result, Ok, Err, refl, sym, ap, subst, ◌∙◌}
use Rattle.std.specs.Prelude.{bytes_eq, if◌then◌else◌, ok_or}
use Rattle.std.specs.Result.{result_map_both}
use Rattle.sqlite_trees.proofs.ListLemmas.{filter-map}
use Rattle.base.specs.declared.refusal.Refusal.{Refusal}
use Rattle.base.specs.declared.refusal.Refusal.TheVariants as refusals
use Rattle.desk_types.specs.declared.caller.Caller.TheVariants as callers
use Rattle.desk_types.specs.declared.command.Person.{Person}
use Rattle.desk_types.specs.declared.shown.ShownRequest.{ShownRequest}
use Rattle.desk_history.specs.Calls.{History}
use Rattle.desk_history.specs.Formed.{IsHistory}
use Rattle.desk_history.specs.People.{has_name, people}
use Rattle.desk_history.specs.Requests.{Request, has_number, requests}
use Rattle.desk_history.specs.Shown.{IsGiven, IsShown, Whole, found_among, is_numbered, is_shown_to, request_for, sees, whole, wholes}
use Rattle.desk_history.specs.Tables.{tables}
use Rattle.desk_exports.specs.Readings as readings
use Rattle.desk_exports.specs.declared.shown.Shown.{Shown}
use Rattle.desk_exports.specs.declared.shown.Shown.TheVariants as answers
use Rattle.desk_history.specs.declared.rows.RequestRow.{RequestRow}
use Rattle.desk_history.proofs.ListLemmas.{number_is}
use Rattle.desk_history.proofs.ShownLemmas.{found_passes}
use Rattle.store_reads.specs.Reads.{listed}
use Rattle.store_shown.specs.Steps.{IsShownIn, visible_row}
use Rattle.store_shown.proofs.ItemLemmas.{found_listed, found_passing, map_listed, passing, unmapped}
use Rattle.store_shown.proofs.MadeLemmas.{is_shown, row_of}

module _ (owner : List ℕ) (cs : History) (name : List ℕ) (k : ℕ) {L : Type 0} (holds : L → List ShownRequest → Type 0) where
  -- the answer that is given is due
  abbrev Gives : Result (Shown L) Refusal → Type 0
  Gives given = IsGiven (request_for cs (callers.Person name) k) given (readings.GivesRequest holds)

  -- the answer that is due to the person whom the name finds
  abbrev due_to : Option Person → Result Whole Refusal
  due_to o = found_among k (result_map_both (λ p. filter (λ w. is_shown_to p w) (wholes cs)) (λ refusal. refusal) (ok_or o refusals.UnknownCaller))

  -- the result of the read of the person
  abbrev pub IsNamed : Option Person → Type 0
  IsNamed found = filter (has_name name) (tables owner cs).people ≡ listed found

  -- the result of the read of the request's row
  abbrev pub IsAsked : Option RequestRow → Type 0
  IsAsked row = filter (λ (r : RequestRow). k == r.number) (tables owner cs).requests ≡ listed row

  due : (found : Option Person) → IsNamed found → request_for cs (callers.Person name) k ≡ due_to found
  due found e = ap due_to (found_listed (has_name name) (people cs) found e)

  pub gives_nobody : IsNamed None → Gives (Err refusals.UnknownCaller)
  gives_nobody e = subst (λ d. IsGiven d (Err refusals.UnknownCaller) (readings.GivesRequest holds)) (sym (due None e)) refl

  -- the request whose row was read
  asked : (row : Option RequestRow) → IsAsked row → (found : Option Request) × (filter (has_number k) (requests cs) ≡ listed found) × (row ≡ option_map (row_of cs) found)
  asked row e = unmapped (row_of cs) (filter (has_number k) (requests cs)) row (sym (filter-map (λ (r : RequestRow). k == r.number) (row_of cs) (requests cs)) ∙ e)

  numbered : (found : Option Request) → filter (has_number k) (requests cs) ≡ listed found → filter (is_numbered k) (wholes cs) ≡ listed (option_map (whole cs) found)
  numbered found e = filter-map (is_numbered k) (whole cs) (requests cs) ∙ ap (map (whole cs)) e ∙ map_listed (whole cs) found

  due_of : (p : Person) → IsNamed (Some p) → (found : Option Request) → filter (has_number k) (requests cs) ≡ listed found
      → request_for cs (callers.Person name) k ≡ ok_or (passing (λ w. is_shown_to p w) (option_map (whole cs) found)) refusals.NoSuchRequest
  due_of p e found one =
      due (Some p) e
      ∙ ap (λ o. ok_or o refusals.NoSuchRequest) (found_passing (λ w. is_shown_to p w) (is_numbered k) (wholes cs) (option_map (whole cs) found) (numbered found one))

  none_found : (found : Option Request) → None ≡ option_map (row_of cs) found → found ≡ None
  none_found None e = refl
  none_found (Some r) e = absurd cc

  gives_absent : (p : Person) → IsNamed (Some p) → IsAsked None → Gives (Err refusals.NoSuchRequest)
  gives_absent p e f =
      let it = asked None f in
      let none : it.0 ≡ None = none_found it.0 it.2 in
      let is : request_for cs (callers.Person name) k ≡ Err refusals.NoSuchRequest = due_of p e None (it.1 ∙ ap listed none) in
      subst (λ d. IsGiven d (Err refusals.NoSuchRequest) (readings.GivesRequest holds)) (sym is) refl

  -- the request of the row that was read
  record IsOfRow (row : RequestRow) (r : Request) : Type 0 where
    one : filter (has_number k) (requests cs) ≡ r ∷ []
    is : row ≡ row_of cs r

  some_found : (row : RequestRow) (found : Option Request) → filter (has_number k) (requests cs) ≡ listed found → Some row ≡ option_map (row_of cs) found → (r : Request) × IsOfRow row r
  some_found row None one e = absurd cc
  some_found row (Some r) one e = (r, record { one = one; is = (let same : row ≡ row_of cs r = cc in same) })

  row_asked : (row : RequestRow) → IsAsked (Some row) → (r : Request) × IsOfRow row r
  row_asked row f = let it = asked (Some row) f in some_found row it.0 it.1 it.2

  -- the person is shown the request of the row, or not
  abbrev pub is_reader : Person → RequestRow → Bool
  is_reader p row = sees p.role (bytes_eq p.name row.submitter)

  due_if : (p : Person) → IsNamed (Some p) → (row : RequestRow) (r : Request) → IsOfRow row r → (b : Bool) → is_reader p row ≡ b
      → request_for cs (callers.Person name) k ≡ ok_or (if b then Some (whole cs r) else None) refusals.NoSuchRequest
  due_if p e row r it b h =
      due_of p e (Some r) it.one
      ∙ ap (λ (c : Bool). ok_or (if c then Some (whole cs r) else None) refusals.NoSuchRequest) (ap (λ (x : RequestRow). is_reader p x) (sym it.is) ∙ h)

  gives_hidden : (p : Person) → IsNamed (Some p) → (row : RequestRow) → IsAsked (Some row) → is_reader p row ≡ false → Gives (Err refusals.NoSuchRequest)
  gives_hidden p e row f h =
      let it = row_asked row f in
      subst (λ d. IsGiven d (Err refusals.NoSuchRequest) (readings.GivesRequest holds)) (sym (due_if p e row it.0 it.1 false h)) refl

  gives_visible : IsHistory cs → (p : Person) → IsNamed (Some p) → (row : RequestRow) → IsAsked (Some row) → is_reader p row ≡ true → (s : ShownRequest) → IsShownIn (tables owner cs) row s
      → Gives (Ok (answers.Request s))
  gives_visible history p e row f h s shown =
      let it = row_asked row f in
      let r = it.0 in
      let passes : (k == r.number) ≡ true = found_passes (has_number k) (requests cs) r (found_listed (has_number k) (requests cs) (Some r) it.1.one) in
      let one : filter (has_number r.number) (requests cs) ≡ r ∷ [] = subst (λ n. filter (has_number n) (requests cs) ≡ r ∷ []) (number_is k r.number passes) it.1.one in
      subst (λ d. IsGiven d (Ok (answers.Request s)) (readings.GivesRequest holds)) (sym (due_if p e row r it.1 true h))
      (s, is_shown owner cs history r one s (subst (λ x. IsShownIn (tables owner cs) x s) it.1.is shown), refl)

  pub gives_none : (p : Person) → IsNamed (Some p) → (row : Option RequestRow) → IsAsked row → visible_row p row ≡ None → Gives (Err refusals.NoSuchRequest)
  gives_none p e None f h = gives_absent p e f
  gives_none p e (Some row) f h = by (is_reader p row) refl
    where
      by : (b : Bool) → is_reader p row ≡ b → Gives (Err refusals.NoSuchRequest)
      by true q = absurd (let is : (if true then Some row else None) ≡ None = ap (λ b. if b then Some row else None) (sym q) ∙ h in cc)
      by false q = gives_hidden p e row f q

  pub gives_shown : IsHistory cs → (p : Person) → IsNamed (Some p) → (asked : Option RequestRow) → IsAsked asked → (row : RequestRow) → visible_row p asked ≡ Some row
      → (s : ShownRequest) → IsShownIn (tables owner cs) row s → Gives (Ok (answers.Request s))
  gives_shown history p e None f row h s shown = absurd cc
  gives_shown history p e (Some first) f row h s shown = by (is_reader p first) refl
    where
      by : (b : Bool) → is_reader p first ≡ b → Gives (Ok (answers.Request s))
      by true q =
          let is : Some first ≡ Some row = ap (λ b. if b then Some first else None) (sym q) ∙ h in
          let same : first ≡ row = cc in
          gives_visible history p e first f q s (subst (λ x. IsShownIn (tables owner cs) x s) (sym same) shown)
      by false q = absurd (let is : None ≡ Some row = ap (λ b. if b then Some first else None) (sym q) ∙ h in cc)
