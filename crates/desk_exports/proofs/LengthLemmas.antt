-- The length of dbx.
use Rattle.std.proofs.Common.{◌≡◌, ℕ, suc, true, false, ◌+◌, ◌*◌, List, [], ◌∷◌, ◌++◌, length, refl, sym, ◌∙◌, ap, ap₂, arith, length-append}
use Rattle.std.specs.Prelude.{◌==◌}
use Rattle.std.specs.List.{AllByRecursion, flat_map}
use Rattle.std.proofs.lemmas.Bool.Decides.{nat_tests}
use Rattle.siglist.specs.Writing.{no_time, sha256_entry_bytes, sha256_head_bytes, sha256_parts, x509_sha256_entry_bytes, x509_sha256_head_bytes, x509_sha256_parts}
use Rattle.desk_types.specs.declared.command.Call.{Call}
use Rattle.desk_types.specs.declared.command.Command.{Command}
use Rattle.desk_types.specs.declared.command.Command.TheVariants as command
use Rattle.desk_types.specs.declared.kind.ListedKind.TheVariants as kinds
use Rattle.desk_history.specs.Calls.{History, distinct, item}
use Rattle.desk_history.specs.Formed.{IsHistory}
use Rattle.desk_history.specs.Impact.{Impact, after, dbx_length, list_length}
use Rattle.desk_history.specs.Revocations.{revocations}
use Rattle.desk_history.specs.Runs.{answer, is_accepted, next}
use Rattle.desk_history.proofs.ImpactLemmas.{shown_impact}
use Rattle.desk_exports.specs.Exports.{dbx, revoked}
use Rattle.desk_exports.specs.Laws.{LengthComesTrue}
use Rattle.desk_exports.proofs.OrderLemmas.{length_ascending}
use Rattle.desk_exports.proofs.PartLemmas.{dbx-parts}
use Rattle.desk_exports.proofs.SpellingLemmas.{HasSize, revoked_sized}

-- entries of one size, one after another
entries : (f : List ℕ → List ℕ) (size : ℕ) → ((d : List ℕ) → HasSize d → length (f d) ≡ size) → (ds : List (List ℕ)) → AllByRecursion HasSize ds → length (flat_map f ds) ≡ size * length ds
entries f size each [] h = let none : 0 ≡ size * 0 = omega arith in none
entries f size each (d ∷ ds) h =
    let rest : length (flat_map f ds) ≡ size * length ds = entries f size each ds h.1 in
    let here : length (f d) ≡ size = each d h.0 in
    let both : length (f d ++ flat_map f ds) ≡ length (f d) + length (flat_map f ds) = length-append (f d) (flat_map f ds) in
    let more : size * suc (length ds) ≡ size + size * length ds = omega arith in
    omega (arith, both, here, rest, more)

one_or_more : (size n : ℕ) → 28 + size * suc n ≡ list_length size (suc n)
one_or_more size n = let some : (suc n == 0) ≡ false = grind (arith, nat_tests) in rw some refl

sha256_length : (owner : List ℕ) (ds : List (List ℕ)) → length owner ≡ 16 → AllByRecursion HasSize ds → length (sha256_parts owner ds) ≡ list_length 48 (length ds)
sha256_length owner [] sixteen h = refl
sha256_length owner (d ∷ ds) sixteen h =
    length-append (sha256_head_bytes (length (d ∷ ds))) (flat_map (sha256_entry_bytes owner) (d ∷ ds))
    ∙ ap (λ n. 28 + n) (entries (sha256_entry_bytes owner) 48 each (d ∷ ds) h)
    ∙ one_or_more 48 (length ds)
  where
    each : (t : List ℕ) → HasSize t → length (sha256_entry_bytes owner t) ≡ 48
    each t size = let both = length-append owner t in omega (arith, both, sixteen, size)

x509_sha256_length : (owner : List ℕ) (ds : List (List ℕ)) → length owner ≡ 16 → AllByRecursion HasSize ds → length (x509_sha256_parts owner ds) ≡ list_length 64 (length ds)
x509_sha256_length owner [] sixteen h = refl
x509_sha256_length owner (d ∷ ds) sixteen h =
    length-append (x509_sha256_head_bytes (length (d ∷ ds))) (flat_map (x509_sha256_entry_bytes owner) (d ∷ ds))
    ∙ ap (λ n. 28 + n) (entries (x509_sha256_entry_bytes owner) 64 each (d ∷ ds) h)
    ∙ one_or_more 64 (length ds)
  where
    each : (t : List ℕ) → HasSize t → length (x509_sha256_entry_bytes owner t) ≡ 64
    each t size =
        let both = length-append owner (t ++ no_time) in
        let timed : length (t ++ no_time) ≡ length t + 16 = length-append t no_time in
        omega (arith, both, timed, sixteen, size)

pub dbx_has_length : (owner : List ℕ) (cs : History) → length owner ≡ 16 → IsHistory cs → length (dbx owner cs) ≡ dbx_length cs
dbx_has_length owner cs sixteen h =
    let ds = revoked kinds.Digest cs in
    let ts = revoked kinds.Certificate cs in
    let digests : length ds ≡ length (distinct (revocations kinds.Digest cs)) = length_ascending (λ text. text) (distinct (revocations kinds.Digest cs)) in
    let certificates : length ts ≡ length (distinct (revocations kinds.Certificate cs)) = length_ascending (λ text. text) (distinct (revocations kinds.Certificate cs)) in
    ap length (dbx-parts owner ds ts)
    ∙ length-append (sha256_parts owner ds) (x509_sha256_parts owner ts)
    ∙ ap₂ ◌+◌ (sha256_length owner ds sixteen (revoked_sized kinds.Digest cs h.formed) ∙ ap (list_length 48) digests)
    (x509_sha256_length owner ts sixteen (revoked_sized kinds.Certificate cs h.formed) ∙ ap (list_length 64) certificates)

-- a Confirm's caller and key don't matter
confirmed_length : (owner : List ℕ) (cs : History) (c : Call) (k : ℕ) → length owner ≡ 16 → IsHistory (next cs c) → c.command ≡ command.Confirm k → is_accepted (answer cs c) ≡ true
    → length (dbx owner (next cs c)) ≡ dbx_length (after cs k)
confirmed_length owner cs c k sixteen h is accepted =
    dbx_has_length owner (next cs c) sixteen h
    ∙ ap dbx_length later
    ∙ ap (λ (g : Command). dbx_length (item (record c { command = g }) ∷ cs)) is
  where
    later : next cs c ≡ item c ∷ cs
    later = rw accepted refl

pub length_comes_true : LengthComesTrue
length_comes_true owner cs c k foretold sixteen h is accepted shown =
    confirmed_length owner cs c k sixteen h is accepted ∙ ap (λ (w : Impact). w.dbx) (sym (shown_impact cs k foretold shown))
