-- Requests by a digest: ann's, which was signed, and rita's of the same image, whose file carries a
-- certificate.
use Rattle.std.specs.Prelude.{◌≡◌, ℕ, List, [], ◌∷◌, codes, map, Result, Ok, Err}
use Rattle.std.specs.Result.{result_map_both}
use Rattle.base.specs.declared.refusal.Refusal.{Refusal}
use Rattle.base.specs.declared.refusal.Refusal.TheVariants as refusals
use Rattle.desk_types.specs.declared.caller.Caller.{Caller}
use Rattle.desk_types.specs.declared.caller.Caller.TheVariants as callers
use Rattle.desk_types.specs.declared.vote.Vote.TheVariants.{Yes}
use Rattle.desk_history.specs.Calls.{History, item}
use Rattle.desk_exports.specs.DigestSearch.{requests_with}
use Rattle.desk_exports.specs.ListParts.{request_number}
use Rattle.desk_history.specs.Worked.{by, digest, give_back, image, officers_added, submit, vote}

-- the certificate C, by the digest of its TBSCertificate
abbrev c : List ℕ
c = digest 12

-- ann's image needs padding; rita's file is the same image with a signature that carries C; and the
-- file that sid returned for ann's has another one
abbrev history : History
history =
    item (by (codes "sid") (codes "sid-1") (give_back 1 (image 16 10 11 [] [])))
    ∷ item (by (codes "raul") (codes "raul-1") (vote 1 Yes))
    ∷ item (by (codes "rosa") (codes "rosa-1") (vote 1 Yes))
    ∷ item (by (codes "rita") (codes "rita-1") (submit (image 15 10 11 (c ∷ []) [])))
    ∷ item (by (codes "ann") (codes "ann-1") (submit (image 14 10 11 [] [])))
    ∷ officers_added

-- the numbers of the requests that have the digest
abbrev found : Caller → List ℕ → Result (List ℕ) Refusal
found caller d = result_map_both (λ ws. map request_number ws) (λ refusal. refusal) (requests_with history caller d)

-- of these bytes, as rosa is shown them, and as ann is
abbrev by_rosa : ℕ → Result (List ℕ) Refusal
by_rosa byte = found (callers.Person (codes "rosa")) (digest byte)

abbrev by_ann : ℕ → Result (List ℕ) Refusal
by_ann byte = found (callers.Person (codes "ann")) (digest byte)

-- both have the image's two digests; each file is of one request, and so is C; and ann is shown her own
-- alone
abbrev pub TellsFound : Type 0
TellsFound =
    (by_rosa 10 ≡ Ok (1 ∷ 2 ∷ []))
    × (by_rosa 11 ≡ Ok (1 ∷ 2 ∷ []))
    × (by_rosa 14 ≡ Ok (1 ∷ []))
    × (by_rosa 15 ≡ Ok (2 ∷ []))
    × (by_rosa 16 ≡ Ok (1 ∷ []))
    × (by_rosa 12 ≡ Ok (2 ∷ []))
    × (by_rosa 13 ≡ Ok [])
    × (by_ann 10 ≡ Ok (1 ∷ []))
    × (by_ann 12 ≡ Ok [])
    × (found (callers.Person (codes "eve")) (digest 10) ≡ Err refusals.UnknownCaller)
    × (found callers.Console (digest 10) ≡ Err refusals.NotYourRole)
