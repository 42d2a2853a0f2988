-- The bodies that a pass over the calls of a history gathers.
use Rattle.std.proofs.Common.{◌≡◌, ℕ, Bool, true, false, All, List, [], ◌∷◌, ◌++◌, map, filter, reverse, append-nil, append_assoc, Option, Some, None, Result, Ok, Err, refl, sym, ap, subst, ◌∙◌}
use Rattle.std.specs.Prelude.{IfOk, if◌then◌else◌, bytes_eq}
use Rattle.std.specs.List.{cons_option, list_any}
use Rattle.std.specs.List.Sorted.{IsStrictlySortedBy}
use Rattle.std.specs.Cmp.Lexicographic.{slice_cmp}
use Rattle.std.specs.Ordering.{nat_cmp}
use Rattle.std.proofs.lemmas.List.{map-append}
use Rattle.std.proofs.lemmas.List.Elements.{All-head, All-tail}
use Rattle.std.proofs.lemmas.List.Sorted.{IsPermutation-reverse, list_any-IsPermutation}
use mathlib.Core.List.{reverse-cons}
use Rattle.sqlite.specs.Held.{Held, state}
use Rattle.sqlite.specs.Order.{Row}
use Rattle.sqlite.specs.State.{HasCleanDisk}
use Rattle.sqlite.specs.Store as store
use Rattle.desk_types.specs.Certificates.{WholeCertificate}
use Rattle.desk_types.specs.Naming.{certificate_listed}
use Rattle.desk_history.specs.Calls.{History, distinct, is_among}
use Rattle.desk_history.specs.Formed.{IsItem}
use Rattle.desk_history.specs.Replies.{minute_of}
use Rattle.desk_history.proofs.ListLemmas.{any_once}
use Rattle.desk_exports.specs.Bodies.{certificates_given}
use Rattle.store_schema.specs.rows.Histories.{ShowsHistory}
use Rattle.store_schema.specs.rows.Values.{digest_values}
use Rattle.store_sql.specs.Effects.{TakesAll}
use Rattle.store_exports.specs.Gathering.{Bodies, Gathers, TakesBody, gathered, unfound, with_certificate, with_listed}
use Rattle.store_exports.specs.Lines.{columns_of, columns_row}
use Rattle.store_exports.proofs.ListLemmas.{called}
use Rattle.store_exports.proofs.StepLemmas.{spares_then}

-- ---- one call more

-- a text more, in front, of those that each stand once, the last first
pushed : (t : List ℕ) (ts : List (List ℕ)) → reverse (distinct (t ∷ ts)) ≡ (if is_among (reverse (distinct ts)) t then reverse (distinct ts) else reverse (distinct ts) ++ t ∷ [])
pushed t ts =
    elim (is_among ts t) as (λ b. reverse (if b then distinct ts else t ∷ distinct ts) ≡ (if b then reverse (distinct ts) else reverse (distinct ts) ++ t ∷ [])) [
      | true ↦ refl
      | false ↦ reverse-cons t (distinct ts)
    ]
    ∙ ap (λ b. if b then reverse (distinct ts) else reverse (distinct ts) ++ t ∷ [])
    (sym (any_once t ts) ∙ list_any-IsPermutation (bytes_eq t) (distinct ts) (reverse (distinct ts)) (IsPermutation-reverse (distinct ts)))

-- the bodies of a certificate among these, the newest first
abbrev bodies_among : List WholeCertificate → List ℕ → List (List ℕ)
bodies_among given tbs = reverse (distinct (map (λ (c : WholeCertificate). c.body) (filter (λ (c : WholeCertificate). bytes_eq tbs c.tbs) given)))

abbrev one_among : List WholeCertificate → List ℕ → Bodies
one_among given tbs = record { tbs = tbs; bodies = bodies_among given tbs }

one_more : (c : WholeCertificate) (given : List WholeCertificate) (tbs : List ℕ) → one_among (c ∷ given) tbs ≡ with_certificate c (one_among given tbs)
one_more c given tbs =
    let ts = map (λ (c : WholeCertificate). c.body) (filter (λ (c : WholeCertificate). bytes_eq tbs c.tbs) given) in
    elim (bytes_eq tbs c.tbs) as (λ b. ◌≡◌ {A = Bodies}
    (record { tbs = tbs; bodies = reverse (distinct (map (λ (c : WholeCertificate). c.body) (if b then c ∷ filter (λ (c : WholeCertificate). bytes_eq tbs c.tbs) given else filter (λ (c : WholeCertificate). bytes_eq tbs c.tbs) given))) })
    (if b then record { tbs = tbs; bodies = if is_among (bodies_among given tbs) c.body then bodies_among given tbs else bodies_among given tbs ++ c.body ∷ [] } else one_among given tbs)) [
      | true ↦ ap (λ l. record { tbs = tbs; bodies = l }) (pushed c.body ts)
      | false ↦ refl
    ]

all_more : (c : WholeCertificate) (given : List WholeCertificate) (ones : List (List ℕ)) → map (one_among (c ∷ given)) ones ≡ map (with_certificate c) (map (one_among given) ones)
all_more c given [] = refl
all_more c given (tbs ∷ ones) = ap (λ b. b ∷ map (one_among (c ∷ given)) ones) (one_more c given tbs) ∙ ap (λ l. with_certificate c (one_among given tbs) ∷ l) (all_more c given ones)

listed_more : (o : Option WholeCertificate) (given : List WholeCertificate) (ones : List (List ℕ)) → map (one_among (cons_option o given)) ones ≡ with_listed o (map (one_among given) ones)
listed_more None given ones = refl
listed_more (Some c) given ones = all_more c given ones

same_ones : (given : List WholeCertificate) (ones : List (List ℕ)) → map (λ (b : Bodies). b.tbs) (map (one_among given) ones) ≡ ones
same_ones given [] = refl
same_ones given (tbs ∷ ones) = ap (λ l. tbs ∷ l) (same_ones given ones)

-- ---- rows that are taken one after another

pub parted : {T : Type 0} (Takes : T → Row → T → Type 0) (rows rest : List Row) (a b : T) → TakesAll Takes a (rows ++ rest) b → (mid : T) × TakesAll Takes a rows mid × TakesAll Takes mid rest b
parted Takes [] rest a b h = (a, refl, h)
parted Takes (row ∷ rows) rest a b (mid, one, more) = let it = parted Takes rows rest mid b more in (it.0, (mid, one, it.1), it.2)

-- they ascend by their digests
abbrev pub Ascend : List Bodies → Type 0
Ascend bs = IsStrictlySortedBy (slice_cmp nat_cmp) (map (λ (b : Bodies). b.tbs) bs)

module _ {T : Type 0} (seen : T → List Bodies) where
  abbrev pub TakesOne : T → Row → T → Type 0
  TakesOne old row new = (tbs : List ℕ) → row ≡ digest_values tbs → seen new ≡ seen old ++ unfound tbs ∷ []

  -- the rows of digests
  pub found : (ds : List (List ℕ)) (a b : T) → TakesAll TakesOne a (map digest_values ds) b → seen b ≡ seen a ++ map unfound ds
  found [] a b h = ap seen (sym h) ∙ sym (append-nil (seen a))
  found (d ∷ ds) a b (mid, one, more) = found ds mid b more ∙ ap (λ l. l ++ map unfound ds) (one d refl) ∙ append_assoc (seen a) (unfound d ∷ []) (map unfound ds)

  -- from none on, for rows that are those of the digests
  pub found_rows : (ds : List (List ℕ)) (rows : List Row) → rows ≡ map digest_values ds → (a b : T) → seen a ≡ [] → TakesAll TakesOne a rows b → seen b ≡ gathered [] ds
  found_rows ds rows are a b none h = found ds a b (subst (λ l. TakesAll TakesOne a l b) are h) ∙ ap (λ l. l ++ map unfound ds) none

  abbrev pub TakesCall : T → Row → T → Type 0
  TakesCall old row new = Ascend (seen old) → TakesBody row (seen old) (seen new)

  -- the calls of the history, the first first
  abbrev call_rows : History → List Row
  call_rows cs = map columns_row (reverse (called cs))

  pub passed : (ones : List (List ℕ)) → IsStrictlySortedBy (slice_cmp nat_cmp) ones → (cs : History) → All IsItem cs → (a b : T) → seen a ≡ gathered [] ones → TakesAll TakesCall a (call_rows cs) b → seen b ≡ gathered cs ones
  passed ones up [] all a b start h = ap seen (sym h) ∙ start
  passed ones up (i ∷ cs) all a b start h =
      let m = columns_of (minute_of cs i) in
      let own = All-head IsItem i cs all in
      let split : TakesAll TakesCall a (call_rows cs ++ columns_row m ∷ []) b =
      subst (λ l. TakesAll TakesCall a l b) (ap (map columns_row) (reverse-cons m (called cs)) ∙ map-append columns_row (reverse (called cs)) (m ∷ [])) h in
      let it = parted TakesCall (call_rows cs) (columns_row m ∷ []) a b split in
      let mid = it.0 in
      let before : seen mid ≡ gathered cs ones = passed ones up cs (All-tail IsItem i cs all) a mid start it.1 in
      let end = it.2.0 in
      let last : end ≡ b = it.2.2 in
      let ascend : Ascend (seen mid) = subst (IsStrictlySortedBy (slice_cmp nat_cmp)) (sym (ap (map (λ (b : Bodies). b.tbs)) before ∙ same_ones (certificates_given cs) ones)) up in
      let takes : seen end ≡ with_listed (certificate_listed i.call.command) (seen mid) = it.2.1 ascend m i.call.command own.forms own.limits refl refl in
      ap seen (sym last) ∙ takes ∙ ap (with_listed (certificate_listed i.call.command)) before ∙ sym (listed_more (certificate_listed i.call.command) (certificates_given cs) ones)

  -- the same, for rows that are those of the history
  pub passed_rows : (ones : List (List ℕ)) → IsStrictlySortedBy (slice_cmp nat_cmp) ones → (cs : History) → All IsItem cs → (rows : List Row) → rows ≡ call_rows cs
      → (a b : T) → seen a ≡ gathered [] ones → TakesAll TakesCall a rows b → seen b ≡ gathered cs ones
  passed_rows ones up cs all rows are a b start h = passed ones up cs all a b start (subst (λ l. TakesAll TakesCall a l b) are h)

-- ---- one read after another

module _ {S X E : Type 0} (g : store.Ghosts S) where
  pub gathered_after : {Y F : Type 0} (a b c : Held S) (v : Y) (r : Result X E) (first : Y → History → Type 0) (second tells : X → History → Type 0)
      → ((x : X) (cs : History) → first v cs → second x cs → tells x cs) → Gathers {E = F} g a b (Ok v) first → Gathers g b c r second → Gathers g a c r tells
  gathered_after a b c v r first second tells joined one two = record {
    told = λ clean. go r clean (two.told clean);
    same = λ owner cs was. two.same owner cs (one.same owner cs was);
    spares = λ owner cs was. spares_then (state g a) (state g b) (state g c) (one.spares owner cs was) (two.spares owner cs (one.same owner cs was));
    clean = λ end. one.clean (two.clean end);
  }
    where
      go : (r : Result X E) → HasCleanDisk (state g c) → IfOk r (λ x. (owner : List ℕ) (cs : History) → All IsItem cs → ShowsHistory (state g b) owner cs → second x cs)
          → IfOk r (λ x. (owner : List ℕ) (cs : History) → All IsItem cs → ShowsHistory (state g a) owner cs → tells x cs)
      go (Ok x) clean t = λ owner cs all was. joined x cs (one.told (two.clean clean) owner cs all was) (t owner cs all (one.same owner cs was))
      go (Err e) clean t = tt

  pub gathered_none : {Y F : Type 0} (a b : Held S) (d : F) (e : E) (first : Y → History → Type 0) (tells : X → History → Type 0)
      → Gathers {X = Y} g a b (Err d) first → Gathers {X = X} g a b (Err e) tells
  gathered_none a b d e first tells it = record { told = λ clean. tt; same = it.same; spares = it.spares; clean = it.clean }
