-- Refusals of one part of the checks, which are those of all.
use Rattle.std.proofs.Common.{◌≡◌, ◌≤◌, ◌++◌, ℕ, Bool, true, false, if◌then◌else◌, List, [], ◌∷◌, length, Some, None, subst, refl, sym, ap, ◌∙◌, inl, inr, arith}
use Rattle.std.specs.List.{list_all}
use Rattle.std.proofs.lemmas.Bool.{and_parts}
use Rattle.pe_image.specs.Sources.{HaveRisen}
use Rattle.pe_image.specs.Checks.{first_of, IsLaid, IsRefused, checks, front_checks, section_checks, table_checks, sbat_checks}
use Rattle.pe_image.specs.Headers.{raw_of}
use Rattle.pe_image.specs.Image.{headers, raw, size_of_headers}
use Rattle.pe_image.proofs.CheckLemmas.{hold-from-none}
use Rattle.pe_image.proofs.RawLemmas.{raw-read}
use Rattle.pe_image.specs.declared.header.Header.{Header}
use Rattle.pe_image.specs.declared.fault.LayoutFault.{LayoutFault}
use Rattle.pe_image.specs.declared.fault.LayoutFault.TheVariants.{Read}

-- where the first checks hold, the others decide
pub first_of-rest : (cs ds : List (Bool × LayoutFault)) → first_of cs ≡ None → first_of (cs ++ ds) ≡ first_of ds
first_of-rest [] ds none = refl
first_of-rest (c ∷ cs) ds none =
    elim c.0 as (λ b. (if b then first_of cs else Some c.1) ≡ None → (if b then first_of (cs ++ ds) else Some c.1) ≡ first_of ds) [
      | true ↦ λ h. first_of-rest cs ds h
      | false ↦ λ h. cc
    ] none

-- a fault of the first checks is that of all
pub first_of-front : (cs ds : List (Bool × LayoutFault)) (fault : LayoutFault) → first_of cs ≡ Some fault → first_of (cs ++ ds) ≡ Some fault
first_of-front [] ds fault some = cc
first_of-front (c ∷ cs) ds fault some =
    elim c.0 as (λ b. (if b then first_of cs else Some c.1) ≡ Some fault → (if b then first_of (cs ++ ds) else Some c.1) ≡ Some fault) [
      | true ↦ λ h. first_of-front cs ds fault h
      | false ↦ λ h. h
    ] some

-- failures that rose in a part of a call rose in the call
pub HaveRisen-before : (first before after : ℕ) → first ≤ before → before ≤ after → HaveRisen before after → HaveRisen first after
HaveRisen-before first before after low kept rose = grind arith

-- a refusal by the first checks, and one by the others where the first hold
pub refused-front : (cs ds : List (Bool × LayoutFault)) (before after : ℕ) (fault : LayoutFault) → IsRefused cs before after fault → IsRefused (cs ++ ds) before after fault
refused-front cs ds before after fault why = elim why as (λ _. IsRefused (cs ++ ds) before after fault) [ inl h ↦ inl (first_of-front cs ds fault h) | inr h ↦ inr h ]

pub refused-rest : (cs ds : List (Bool × LayoutFault)) (first before after : ℕ) (fault : LayoutFault) → first_of cs ≡ None → first ≤ before → before ≤ after → IsRefused ds before after fault → IsRefused (cs ++ ds) first after fault
refused-rest cs ds first before after fault none low kept why =
    elim why as (λ _. IsRefused (cs ++ ds) first after fault) [
      | inl h ↦ inl (first_of-rest cs ds none ∙ h)
      | inr h ↦ inr (h.0, HaveRisen-before first before after low kept h.1)
    ]

-- two parts hold
pub hold-both : (cs ds : List (Bool × LayoutFault)) → first_of cs ≡ None → first_of ds ≡ None → first_of (cs ++ ds) ≡ None
hold-both cs ds front rest = first_of-rest cs ds front ∙ rest

-- the sections' checks, of a file of which they were read
abbrev pub sections_of : List ℕ → List (Bool × LayoutFault)
sections_of f = section_checks (raw f) (size_of_headers f) (length f)

-- the refusal of the first part is that of all
pub refused-first : (f : List ℕ) (before after : ℕ) (fault : LayoutFault) → IsRefused (front_checks f) before after fault → IsRefused (checks f) before after fault
refused-first f before after fault why =
    refused-front (front_checks f ++ sections_of f ++ table_checks f) (sbat_checks (headers f)) before after fault
    (refused-front (front_checks f ++ sections_of f) (table_checks f) before after fault
    (refused-front (front_checks f) (sections_of f) before after fault why))

-- the refusal of a part that comes after others is that of all
pub refused-sections : (f : List ℕ) (cs : List (Bool × LayoutFault)) (before after : ℕ) (fault : LayoutFault) → first_of (front_checks f) ≡ None → cs ≡ sections_of f → first_of cs ≡ Some fault → IsRefused (checks f) before after fault
refused-sections f cs before after fault front same why =
    let here = sym (ap first_of same) ∙ why in
    let two = first_of-rest (front_checks f) (sections_of f) front ∙ here in
    let three = first_of-front (front_checks f ++ sections_of f) (table_checks f) fault two in
    inl (first_of-front (front_checks f ++ sections_of f ++ table_checks f) (sbat_checks (headers f)) fault three)

pub refused-table : (f : List ℕ) (cs ds : List (Bool × LayoutFault)) (first before after : ℕ) (fault : LayoutFault) → first_of (front_checks f) ≡ None → cs ≡ sections_of f → first_of cs ≡ None → ds ≡ table_checks f → first ≤ before → before ≤ after → IsRefused ds before after fault → IsRefused (checks f) first after fault
refused-table f cs ds first before after fault front sections hold table low kept why =
    let here = subst (λ l. IsRefused l before after fault) table why in
    let both = hold-both (front_checks f) (sections_of f) front (sym (ap first_of sections) ∙ hold) in
    refused-front (front_checks f ++ sections_of f ++ table_checks f) (sbat_checks (headers f)) first after fault
    (refused-rest (front_checks f ++ sections_of f) (table_checks f) first before after fault both low kept here)

-- every part but the last holds
pub hold-three : (f : List ℕ) (cs ds : List (Bool × LayoutFault)) → first_of (front_checks f) ≡ None → cs ≡ sections_of f → first_of cs ≡ None → ds ≡ table_checks f → first_of ds ≡ None → first_of (front_checks f ++ sections_of f ++ table_checks f) ≡ None
hold-three f cs ds front sections hold table stands =
    let both = hold-both (front_checks f) (sections_of f) front (sym (ap first_of sections) ∙ hold) in
    hold-both (front_checks f ++ sections_of f) (table_checks f) both (sym (ap first_of table) ∙ stands)

-- the text comes last
pub refused-text : (f : List ℕ) (es : List (Bool × LayoutFault)) (before after : ℕ) (fault : LayoutFault) → first_of (front_checks f ++ sections_of f ++ table_checks f) ≡ None → es ≡ sbat_checks (headers f) → first_of es ≡ Some fault → IsRefused (checks f) before after fault
refused-text f es before after fault three same why =
    inl (first_of-rest (front_checks f ++ sections_of f ++ table_checks f) (sbat_checks (headers f)) three ∙ sym (ap first_of same) ∙ why)

-- the section headers that were read are the file's, and so are the checks on them
pub sections_of-read : (f : List ℕ) (hs : List Header) (z n : ℕ) → hs ≡ headers f → z ≡ size_of_headers f → n ≡ length f → section_checks (raw_of hs) z n ≡ sections_of f
sections_of-read f hs z n is end size = let spans = raw-read f hs is in cc

-- every part holds
pub laid-from-parts : (f : List ℕ) (es : List (Bool × LayoutFault)) → first_of (front_checks f ++ sections_of f ++ table_checks f) ≡ None → es ≡ sbat_checks (headers f) → first_of es ≡ None → IsLaid f
laid-from-parts f es three same last =
    hold-from-none (checks f) (hold-both (front_checks f ++ sections_of f ++ table_checks f) (sbat_checks (headers f)) three (sym (ap first_of same) ∙ last))

-- which faults a check has
is_other : LayoutFault → Bool
is_other Read = false
is_other _ = true

-- a fact of the fault of each check holds of the first fault
first_of-passes : (p : LayoutFault → Bool) (cs : List (Bool × LayoutFault)) (fault : LayoutFault) → list_all (λ c. p c.1) cs ≡ true → first_of cs ≡ Some fault → p fault ≡ true
first_of-passes p [] fault all some = cc
first_of-passes p (c ∷ cs) fault all some =
    let both = and_parts (p c.1) (list_all (λ c. p c.1) cs) all in
    elim c.0 as (λ b. (if b then first_of cs else Some c.1) ≡ Some fault → p fault ≡ true) [
      | true ↦ λ h. first_of-passes p cs fault both.1 h
      | false ↦ λ h. let same : c.1 ≡ fault = cc in ap p (sym same) ∙ both.0
    ] some

-- no check fails for a read
first_fault-other : (f : List ℕ) → first_of (checks f) ≡ Some Read → ⊥
unfolding is_other
first_fault-other f some = let none : false ≡ true = first_of-passes is_other (checks f) Read refl some in cc

-- a source that never fails gives no fault of a read
pub none-risen : (f : List ℕ) → IsRefused (checks f) 0 0 Read → ⊥
none-risen f why =
    elim why as (λ _. ⊥) [
      | inl h ↦ first_fault-other f h
      | inr h ↦ elim h.1 as (λ _. ⊥) [ inl rose ↦ absurd (omega arith) | inr full ↦ absurd (omega arith) ]
    ]
