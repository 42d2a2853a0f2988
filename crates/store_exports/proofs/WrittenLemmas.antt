-- Items that are written one after another, and the bytes of what was gathered.
use Rattle.std.proofs.Common.{◌≡◌, ℕ, ◌+◌, ◌<◌, ◌==◌, List, [], ◌∷◌, ◌++◌, length, get_or, take, drop, map, filter, flat_map, append-nil, append_assoc, refl, sym, ap, ap₂, ◌∙◌}
use Rattle.std.specs.Prelude.{if◌then◌else◌, true, false}
use Rattle.std.proofs.lemmas.List.{length-map, take_more, take-append-drop}
use Rattle.std.proofs.lemmas.List.Concat.{flat_map-append}
use Rattle.siglist.specs.SignatureLists.{spelling}
use Rattle.siglist.specs.Writing.{x509_row, x509_sha256_parts, x509_sha256_row}
use Rattle.siglist.proofs.WritingLemmas.{x509_sha256_row-parts}
use Rattle.desk_types.specs.Certificates.{WholeCertificate}
use Rattle.desk_history.specs.Calls.{History}
use Rattle.desk_history.proofs.ListLemmas.{split_at}
use Rattle.desk_exports.specs.Bodies.{bodies_of, is_bodiless}
use Rattle.desk_exports.proofs.ShimLemmas.{has_one}
use Rattle.store_exports.specs.Gathering.{Bodies, bodies_text, bodiless, gathered, gathered_text}

module _ {X : Type 0} (text : X → List ℕ) (xs : List X) (i : ℕ) (x : X) (l : i < length xs) (is : x ≡ get_or xs i x) where
  -- one more
  pub flat_more : flat_map text (take (i + 1) xs) ≡ flat_map text (take i xs) ++ text x
  flat_more =
      ap (flat_map text) (take_more xs i x l ∙ ap (λ y. take i xs ++ y ∷ []) (sym is))
      ∙ flat_map-append text (take i xs) (x ∷ []) ∙ ap (λ b. flat_map text (take i xs) ++ b) (append-nil (text x))

  -- those before it, it, and those after it
  pub flat_round : flat_map text xs ≡ (flat_map text (take i xs) ++ text x) ++ flat_map text (drop (i + 1) xs)
  flat_round =
      ap (flat_map text) (sym (take-append-drop i xs) ∙ ap (λ b. take i xs ++ b) (split_at xs i x l is))
      ∙ flat_map-append text (take i xs) (x ∷ drop (i + 1) xs)
      ∙ sym (append_assoc (flat_map text (take i xs)) (text x) (flat_map text (drop (i + 1) xs)))

-- ---- those without a body

bodiless-append : (front bs : List Bodies) → bodiless (front ++ bs) ≡ bodiless front ++ bodiless bs
bodiless-append [] bs = refl
bodiless-append (a ∷ front) bs =
    elim (length a.bodies == 0) as (λ t. map (λ (b : Bodies). b.tbs) (if t then a ∷ filter (λ (b : Bodies). length b.bodies == 0) (front ++ bs) else filter (λ (b : Bodies). length b.bodies == 0) (front ++ bs))
    ≡ map (λ (b : Bodies). b.tbs) (if t then a ∷ filter (λ (b : Bodies). length b.bodies == 0) front else filter (λ (b : Bodies). length b.bodies == 0) front) ++ bodiless bs) [
      | true ↦ ap (λ l. a.tbs ∷ l) (bodiless-append front bs)
      | false ↦ bodiless-append front bs
    ]

pub bodiless_more : (bs : List Bodies) (i : ℕ) (b : Bodies) → i < length bs → b ≡ get_or bs i b → bodiless (take (i + 1) bs) ≡ bodiless (take i bs) ++ bodiless (b ∷ [])
bodiless_more bs i b l is = ap bodiless (take_more bs i b l ∙ ap (λ y. take i bs ++ y ∷ []) (sym is)) ∙ bodiless-append (take i bs) (b ∷ [])

-- ---- what was gathered of a history

-- a list for each certificate is one for each of their bodies
pub mapped_text : (owner : List ℕ) (cs : List WholeCertificate) → flat_map (λ (c : WholeCertificate). spelling (x509_row owner c.body)) cs ≡ flat_map (λ body. spelling (x509_row owner body)) (map (λ c. c.body) cs)
mapped_text owner [] = refl
mapped_text owner (c ∷ cs) = ap (λ l. spelling (x509_row owner c.body) ++ l) (mapped_text owner cs)

all_bodies : (owner : List ℕ) (cs : History) (ones : List (List ℕ)) → flat_map (bodies_text owner) (gathered cs ones)
    ≡ flat_map (λ body. spelling (x509_row owner body)) (flat_map (λ tbs. bodies_of tbs cs) ones)
all_bodies owner cs [] = refl
all_bodies owner cs (tbs ∷ ones) =
    ap (λ l. flat_map (λ body. spelling (x509_row owner body)) (bodies_of tbs cs) ++ l) (all_bodies owner cs ones)
    ∙ sym (flat_map-append (λ body. spelling (x509_row owner body)) (bodies_of tbs cs) (flat_map (λ tbs. bodies_of tbs cs) ones))

others : (cs : History) (ones : List (List ℕ)) → bodiless (gathered cs ones) ≡ filter (is_bodiless cs) ones
others cs [] = refl
others cs (tbs ∷ ones) =
    ap (λ t. map (λ (b : Bodies). b.tbs) (if t then record { tbs = tbs; bodies = bodies_of tbs cs } ∷ filter (λ (b : Bodies). length b.bodies == 0) (gathered cs ones) else filter (λ (b : Bodies). length b.bodies == 0) (gathered cs ones))) (sym (has_one cs tbs))
    ∙ (elim (is_bodiless cs tbs) as (λ t. map (λ (b : Bodies). b.tbs) (if t then record { tbs = tbs; bodies = bodies_of tbs cs } ∷ filter (λ (b : Bodies). length b.bodies == 0) (gathered cs ones) else filter (λ (b : Bodies). length b.bodies == 0) (gathered cs ones))
    ≡ (if t then tbs ∷ filter (is_bodiless cs) ones else filter (is_bodiless cs) ones)) [
      | true ↦ ap (λ l. tbs ∷ l) (others cs ones)
      | false ↦ others cs ones
    ])

pub gathered_is : (owner : List ℕ) (cs : History) (ones : List (List ℕ)) → gathered_text owner (gathered cs ones)
    ≡ flat_map (λ body. spelling (x509_row owner body)) (flat_map (λ tbs. bodies_of tbs cs) ones) ++ x509_sha256_parts owner (filter (is_bodiless cs) ones)
gathered_is owner cs ones =
    ap₂ (λ a b. a ++ b) (all_bodies owner cs ones) (ap (λ l. spelling (x509_sha256_row owner l)) (others cs ones) ∙ x509_sha256_row-parts owner (filter (is_bodiless cs) ones))
