-- Rows of elements and tables of entries: the TBSCertificates that they carry, and their faults.
use Rattle.std.proofs.Common.{◌≡◌, ◌≢◌, ℕ, ◌<◌, false, eqb, List, [], ◌∷◌, ◌++◌, length, Option, Some, None, Result, Ok, Err, IfErr, refl, sym, ap, ◌∙◌, subst, append-nil, inl, inr, arith}
use Rattle.std.proofs.lemmas.Bool.Decides.{nat_tests}
use Rattle.sha2.specs.Sha256.{sha256}
use Rattle.base.specs.Elements.{IsCertificate, sequence}
use Rattle.base.specs.Parts.{Part, element_of}
use Rattle.base.proofs.ElementLemmas.{some_same, tbs_is_one}
use Rattle.authenticode.specs.Carried.{GivesEntry, IsEntryFault, IsEntryOf}
use Rattle.authenticode.specs.Certificates.{GivesCertificate, IsBodyOf, IsRowOf, IsTbsOf}
use Rattle.authenticode.specs.Steps.Adding.{IsDerOnlyWhere}
use Rattle.authenticode.specs.SignedData.{certificates_of}
use Rattle.authenticode.specs.Table.{body_at, has_no_entry, signed_data, type_at}
use Rattle.authenticode.specs.Steps.Adding.{AddsStep}
use Rattle.authenticode.specs.declared.fault.CarriedFault.{CarriedFault}
use Rattle.authenticode.specs.declared.fault.CarriedFault.TheVariants as fault
use Rattle.authenticode.proofs.StepLemmas.{Collects, IsDetermined, Stops, Walks-end, Walks-same}

-- ---- rows of elements

tbs_same : (p q : Part) (xs ys : List (List ℕ)) → p ≡ q → IsTbsOf p xs → IsTbsOf q ys → xs ≡ ys
tbs_same p q xs ys e (inl h) (inl k) =
    let one = tbs_is_one q.whole h.1 k.1 (subst (λ r. IsCertificate r.whole h.1) e h.2) k.2 in
    h.3 ∙ ap (λ t. t ∷ []) one ∙ sym k.3
tbs_same p q xs ys e (inl h) (inr k) = absurd (k.0 (sym (ap (λ (r : Part). r.tag) e) ∙ h.0))
tbs_same p q xs ys e (inr h) (inl k) = absurd (h.0 (ap (λ (r : Part). r.tag) e ∙ k.0))
tbs_same p q xs ys e (inr h) (inr k) = h.1 ∙ sym k.1

pub certificates_are_determined : IsDetermined GivesCertificate
certificates_are_determined = record {
  own = λ b c d xs ys h k. tbs_same h.part k.part xs ys (some_same h.part k.part (sym h.stands ∙ k.stands)) h.gives k.gives;
  next = λ b c d xs ys h k. h.rest_is ∙ ap (λ (r : Part). r.rest) (some_same h.part k.part (sym h.stands ∙ k.stands)) ∙ sym k.rest_is;
}

-- an element with the tag of a certificate that has no TBSCertificate
pub no_certificate : (row : List ℕ) (p : Part) → element_of row ≡ Some p → p.tag ≡ sequence
    → ((tbs : List ℕ) → IsCertificate p.whole tbs → ⊥) → Stops GivesCertificate row
no_certificate row p stands tag none own next h =
    let same = some_same p h.part (sym stands ∙ h.stands) in
    elim h.gives [
      | inl g ↦ none g.1 (subst (λ q. IsCertificate q.whole g.1) (sym same) g.2)
      | inr g ↦ g.0 (ap (λ (q : Part). q.tag) (sym same) ∙ tag)
    ]

-- an element that is a certificate
pub adds_tbs : (row tbs hash : List ℕ) (p : Part) (old new : List (List ℕ)) → element_of row ≡ Some p → p.tag ≡ sequence
    → IsCertificate p.whole tbs → hash ≡ sha256 tbs → new ≡ old ++ hash ∷ [] → AddsStep GivesCertificate row p.rest old new
adds_tbs row tbs hash p old new stands tag certificate is added = record {
  own = tbs ∷ [];
  step = record { part = p; stands = stands; gives = inl (tag, tbs, certificate, refl); rest_is = refl };
  added = added ∙ ap (λ h. old ++ h ∷ []) is;
}

-- an element with another tag
pub adds_none : (row : List ℕ) (p : Part) (old new : List (List ℕ)) → element_of row ≡ Some p → p.tag ≢ sequence
    → new ≡ old → AddsStep GivesCertificate row p.rest old new
adds_none row p old new stands tag same = record {
  own = [];
  step = record { part = p; stands = stands; gives = inr (tag, refl); rest_is = refl };
  added = same ∙ sym (append-nil old);
}

none_some : (p : Part) → ◌≡◌ {A = Option Part} None (Some p) → ⊥
none_some p h = cc

pub row_stops : Stops GivesCertificate []
unfolding element_of
row_stops own next h = none_some h.part h.stands

-- a row that stops before its end is none
pub no_row : (row left : List ℕ) (old new tbs : List (List ℕ)) → Collects GivesCertificate row left old new → 0 < length left
    → Stops GivesCertificate left → IsRowOf row tbs → ⊥
no_row row left old new tbs c some stop is =
    let end : left ≡ [] = Walks-end GivesCertificate certificates_are_determined row left [] c.items tbs c.walk is stop row_stops in
    let size = ap length end in omega (arith, some)

pub some_left : (b : List ℕ) → false ≡ eqb (length b) 0 → 0 < length b
some_left b e = grind (arith, nat_tests, e)

pub row_same : (row : List ℕ) (xs ys : List (List ℕ)) → IsRowOf row xs → IsRowOf row ys → xs ≡ ys
row_same row xs ys h k = Walks-same GivesCertificate certificates_are_determined row [] [] xs ys h k row_stops row_stops

-- a fault that comes for one cause comes for another
pub IsDerOnlyWhere-map : (P Q : Type 0) (fault : CarriedFault) → (P → Q) → IsDerOnlyWhere P fault → IsDerOnlyWhere Q fault
IsDerOnlyWhere-map P Q fault.Table to h = h
IsDerOnlyWhere-map P Q fault.Der to h = to h
IsDerOnlyWhere-map P Q fault.TooLong to h = h
IsDerOnlyWhere-map P Q fault.NoMemory to h = h

some_list : (x y : List ℕ) → Some x ≡ Some y → x ≡ y
some_list x y h = cc

-- a body whose row is none
pub no_body : (body row : List ℕ) (r : Result (Unit {0}) CarriedFault) → certificates_of body ≡ Some row
    → IfErr r (IsDerOnlyWhere ((tbs : List (List ℕ)) → IsRowOf row tbs → ⊥))
    → IfErr r (IsDerOnlyWhere ((tbs : List (List ℕ)) → IsBodyOf body tbs → ⊥))
no_body body row (Ok x) holds h = tt
no_body body row (Err f) holds h =
    IsDerOnlyWhere-map _ _ f (λ none tbs is. none tbs (subst (λ r. IsRowOf r tbs) (some_list is.row row (sym is.holds ∙ holds)) is.is)) h

pub body_same : (body : List ℕ) (xs ys : List (List ℕ)) → IsBodyOf body xs → IsBodyOf body ys → xs ≡ ys
body_same body xs ys h k =
    let rows = some_list h.row k.row (sym h.holds ∙ k.holds) in
    row_same k.row xs ys (subst (λ r. IsRowOf r xs) rows h.is) k.is

-- ---- tables

entry_same : (t : List ℕ) (xs ys : List (List ℕ)) → IsEntryOf t xs → IsEntryOf t ys → xs ≡ ys
entry_same t xs ys (inl h) (inl k) = body_same _ xs ys h.1 k.1
entry_same t xs ys (inl h) (inr k) = absurd (k.0 h.0)
entry_same t xs ys (inr h) (inl k) = absurd (h.0 k.0)
entry_same t xs ys (inr h) (inr k) = h.1 ∙ sym k.1

-- the fault of a body is that of its entry
pub unreadable : (t body : List ℕ) (fault : CarriedFault) → has_no_entry t ≡ false → type_at t ≡ signed_data → body ≡ body_at t
    → IsDerOnlyWhere ((tbs : List (List ℕ)) → IsBodyOf body tbs → ⊥) fault → IsEntryFault t fault
unreadable t body fault.Table stands signed is h = absurd h
unreadable t body fault.Der stands signed is h = record {
  stands = stands;
  signed = signed;
  none = subst (λ b. (tbs : List (List ℕ)) → IsBodyOf b tbs → ⊥) is h;
}
unreadable t body fault.TooLong stands signed is h = h
unreadable t body fault.NoMemory stands signed is h = h

pub entries_are_determined : IsDetermined GivesEntry
entries_are_determined = record {
  own = λ b c d xs ys h k. entry_same b xs ys h.gives k.gives;
  next = λ b c d xs ys h k. h.rest_is ∙ sym k.rest_is;
}
