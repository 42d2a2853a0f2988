-- The bytes of dbx, of its form for shim, and of db, which spell their lists.
use Rattle.std.proofs.Common.{◌≡◌, ◌≤◌, ℕ, All, Bool, true, false, not, cond, List, [], ◌∷◌, ◌++◌, length, map, filter, reverse, bytes_eq, refl, sym, subst, arith, true≢false, nat_le}
use Rattle.std.specs.Prelude.{if◌then◌else◌}
use Rattle.std.specs.List.{AllByRecursion, cons_option, flat_map}
use Rattle.std.proofs.lemmas.Bool.{and_parts}
use Rattle.std.proofs.lemmas.Bool.Decides.{nat_tests}
use Rattle.std.proofs.lemmas.List.{length-map}
use Rattle.std.proofs.lemmas.List.Concat.{flat_map-append}
use Rattle.std.proofs.lemmas.List.Elements.{All-head, All-tail, All-weaker, recursion_from_All}
use Rattle.std.proofs.lemmas.List.Sorted.{IsPermutation-reverse}
use Rattle.siglist.specs.SignatureLists.{SignatureList, Spells, list_bytes, spelling}
use Rattle.siglist.specs.Writing.{most_digests, sha256_row, x509_row, x509_sha256_row}
use Rattle.siglist.proofs.RowLemmas.{Spells-append}
use Rattle.siglist.proofs.WritingLemmas.{sha256_spells, x509_sha256_spells, x509_spells}
use Rattle.desk_types.specs.Certificates.{WholeCertificate, is_certificate_size}
use Rattle.desk_types.specs.Commands.{IsCommand, IsDigest}
use Rattle.desk_types.specs.Formed.{IsWithin}
use Rattle.desk_types.specs.Naming.{certificate_listed}
use Rattle.desk_types.specs.declared.command.Command.{Command}
use Rattle.desk_types.specs.declared.command.Command.TheVariants as command
use Rattle.desk_types.specs.declared.kind.ListedKind.{ListedKind}
use Rattle.desk_types.specs.declared.kind.ListedKind.TheVariants as kinds
use Rattle.desk_history.specs.declared.rows.Entry.{Entry}
use Rattle.desk_history.specs.Calls.{History, distinct, is_among, is_same_kind}
use Rattle.desk_history.specs.Formed.{IsHistory, IsItem}
use Rattle.desk_history.specs.Listing.{is_entry, listed, relisted, without}
use Rattle.desk_history.specs.Revocations.{revocations}
use Rattle.desk_history.specs.Runs.{is_legal}
use Rattle.desk_history.proofs.FormedLemmas.{filter_fewer}
use Rattle.desk_history.proofs.RevocationLemmas.{revocations_are_digests}
use Rattle.desk_history.proofs.RunLemmas.{legal_parts}
use Rattle.desk_exports.specs.Bodies.{bodies_of, certificates_given, is_bodiless}
use Rattle.desk_exports.specs.Exports.{db, db_lists, dbx, dbx_lists, entries_of, revoked, revoked_bodies, revoked_bodiless, shim, shim_lists}
use Rattle.desk_exports.proofs.OrderLemmas.{all_moved, length_ascending, sort_moved}

joined : (ls ms : List SignatureList) → Spells ls (spelling ls) → Spells ms (spelling ms) → Spells (ls ++ ms) (spelling (ls ++ ms))
joined ls ms h k = subst (Spells (ls ++ ms)) (sym (flat_map-append list_bytes ls ms)) (Spells-append ls ms (spelling ls) (spelling ms) h k)

-- all items that pass a test have the fact that it gives
kept : {X : Type 0} (P Q : X → Type 0) (p : X → Bool) → ((x : X) → P x → p x ≡ true → Q x) → (xs : List X) → AllByRecursion P xs → AllByRecursion Q (filter p xs)
kept P Q p each [] h = tt
kept P Q p each (x ∷ xs) h =
    elim (p x) as (λ b. p x ≡ b → AllByRecursion Q (cond b (x ∷ filter p xs) (filter p xs))) [
      | true ↦ λ e. (each x h.0 e, kept P Q p each xs h.1)
      | false ↦ λ e. kept P Q p each xs h.1
    ] refl

within : (n m most : ℕ) → n ≡ m → nat_le m most ≡ true → most ≤ 1000000 → n ≤ 1000000
within n m most same h small = let at_most : m ≤ most = grind (arith, nat_tests, h) in omega arith

-- ---- dbx

-- a digest has 32 bytes
abbrev pub HasSize : List ℕ → Type 0
HasSize digest = length digest ≡ 32

sized : (ds : List (List ℕ)) → All IsDigest ds → AllByRecursion HasSize ds
sized ds h = recursion_from_All HasSize ds (All-weaker IsDigest HasSize (λ d is. is.size) ds h)

once_sized : (ds : List (List ℕ)) → AllByRecursion HasSize ds → AllByRecursion HasSize (distinct ds)
once_sized [] h = tt
once_sized (d ∷ ds) h =
    let rest : AllByRecursion HasSize (distinct ds) = once_sized ds h.1 in
    elim (is_among ds d) as (λ b. AllByRecursion HasSize (if b then distinct ds else d ∷ distinct ds)) [ true ↦ rest | false ↦ (h.0, rest) ]

pub revoked_sized : (kind : ListedKind) (cs : History) → All IsItem cs → AllByRecursion HasSize (revoked kind cs)
revoked_sized kind cs h =
    let all = revocations kind cs in
    all_moved HasSize (distinct all) (revoked kind cs) (sort_moved (λ text. text) (distinct all)) (once_sized all (sized all (revocations_are_digests kind cs h)))

revoked_few : (kind : ListedKind) (cs : History) → is_legal cs ≡ true → length (revoked kind cs) ≤ most_digests
revoked_few kinds.Digest cs h =
    let once = distinct (revocations kinds.Digest cs) in
    within (length (revoked kinds.Digest cs)) (length once) 100000 (length_ascending (λ text. text) once) (legal_parts cs h).digests (omega arith)
revoked_few kinds.Certificate cs h =
    let once = distinct (revocations kinds.Certificate cs) in
    within (length (revoked kinds.Certificate cs)) (length once) 10000 (length_ascending (λ text. text) once) (legal_parts cs h).certificates (omega arith)

pub dbx_spells : (owner : List ℕ) (cs : History) → length owner ≡ 16 → IsHistory cs → Spells (dbx_lists owner cs) (dbx owner cs)
dbx_spells owner cs sixteen h =
    joined (sha256_row owner (revoked kinds.Digest cs)) (x509_sha256_row owner (revoked kinds.Certificate cs))
    (sha256_spells owner (revoked kinds.Digest cs) sixteen (revoked_sized kinds.Digest cs h.formed) (revoked_few kinds.Digest cs h.legal))
    (x509_sha256_spells owner (revoked kinds.Certificate cs) sixteen (revoked_sized kinds.Certificate cs h.formed) (revoked_few kinds.Certificate cs h.legal))

-- ---- shim's form of dbx

-- a text of these lengths fits an X509 list
abbrev IsBody : List ℕ → Type 0
IsBody body = is_certificate_size (length body) ≡ true

body_spells : (owner body : List ℕ) → length owner ≡ 16 → IsBody body → Spells (x509_row owner body) (spelling (x509_row owner body))
body_spells owner body sixteen h =
    let parts : (nat_le 1 (length body) ≡ true) × (nat_le (length body) 65536 ≡ true) = and_parts (nat_le 1 (length body)) (nat_le (length body) 65536) h in
    let some : 1 ≤ length body = grind (arith, nat_tests, parts.0) in
    let most : length body ≤ 65536 = grind (arith, nat_tests, parts.1) in
    x509_spells owner body sixteen some most

bodies_spell : (owner : List ℕ) (bodies : List (List ℕ)) → length owner ≡ 16 → AllByRecursion IsBody bodies
    → Spells (flat_map (x509_row owner) bodies) (spelling (flat_map (x509_row owner) bodies))
bodies_spell owner [] sixteen h = refl
bodies_spell owner (body ∷ bodies) sixteen h =
    joined (x509_row owner body) (flat_map (x509_row owner) bodies) (body_spells owner body sixteen h.0) (bodies_spell owner bodies sixteen h.1)

abbrev HasFitBody : WholeCertificate → Type 0
HasFitBody c = IsBody c.body

listed_fits : (c : Command) → IsWithin c → (cs : List WholeCertificate) → AllByRecursion HasFitBody cs → AllByRecursion HasFitBody (cons_option (certificate_listed c) cs)
listed_fits (command.ListCertificate c) w cs h = (w, h)
listed_fits _ w cs h = h

given_fit : (cs : History) → All IsItem cs → AllByRecursion HasFitBody (certificates_given cs)
given_fit [] h = tt
given_fit (i ∷ cs) h = listed_fits i.call.command (All-head IsItem i cs h).limits (certificates_given cs) (given_fit cs (All-tail IsItem i cs h))

mapped_fit : (cs : List WholeCertificate) → AllByRecursion HasFitBody cs → AllByRecursion IsBody (map (λ c. c.body) cs)
mapped_fit [] h = tt
mapped_fit (c ∷ cs) h = (h.0, mapped_fit cs h.1)

-- each text once has what each text has
once_has : (P : List ℕ → Type 0) (ts : List (List ℕ)) → AllByRecursion P ts → AllByRecursion P (distinct ts)
once_has P [] h = tt
once_has P (t ∷ ts) h =
    let rest : AllByRecursion P (distinct ts) = once_has P ts h.1 in
    elim (is_among ts t) as (λ b. AllByRecursion P (if b then distinct ts else t ∷ distinct ts)) [ true ↦ rest | false ↦ (h.0, rest) ]

joined_have : {Y : Type 0} (P : Y → Type 0) (xs ys : List Y) → AllByRecursion P xs → AllByRecursion P ys → AllByRecursion P (xs ++ ys)
joined_have P [] ys h k = k
joined_have P (x ∷ xs) ys h k = (h.0, joined_have P xs ys h.1 k)

bodies_fit : (cs : History) → All IsItem cs → (tbs : List ℕ) → AllByRecursion IsBody (bodies_of tbs cs)
bodies_fit cs h tbs =
    let given = filter (λ (c : WholeCertificate). bytes_eq tbs c.tbs) (certificates_given cs) in
    let once = distinct (map (λ (c : WholeCertificate). c.body) given) in
    all_moved IsBody once (reverse once) (IsPermutation-reverse once)
    (once_has IsBody (map (λ (c : WholeCertificate). c.body) given) (mapped_fit given (kept HasFitBody HasFitBody (λ c. bytes_eq tbs c.tbs) (λ c fit _. fit) (certificates_given cs) (given_fit cs h))))

each_fit : (cs : History) → All IsItem cs → (ones : List (List ℕ)) → AllByRecursion IsBody (flat_map (λ tbs. bodies_of tbs cs) ones)
each_fit cs h [] = tt
each_fit cs h (tbs ∷ ones) = joined_have IsBody (bodies_of tbs cs) (flat_map (λ tbs. bodies_of tbs cs) ones) (bodies_fit cs h tbs) (each_fit cs h ones)

pub bodiless_few : (cs : History) → is_legal cs ≡ true → length (revoked_bodiless cs) ≤ most_digests
bodiless_few cs h =
    let fewer : length (revoked_bodiless cs) ≤ length (revoked kinds.Certificate cs) = filter_fewer (is_bodiless cs) (revoked kinds.Certificate cs) in
    let few : length (revoked kinds.Certificate cs) ≤ most_digests = revoked_few kinds.Certificate cs h in
    omega arith

pub shim_spells : (owner : List ℕ) (cs : History) → length owner ≡ 16 → IsHistory cs → Spells (shim_lists owner cs) (shim owner cs)
shim_spells owner cs sixteen h =
    let others = revoked_bodiless cs in
    joined (sha256_row owner (revoked kinds.Digest cs) ++ flat_map (x509_row owner) (revoked_bodies cs)) (x509_sha256_row owner others)
    (joined (sha256_row owner (revoked kinds.Digest cs)) (flat_map (x509_row owner) (revoked_bodies cs))
    (sha256_spells owner (revoked kinds.Digest cs) sixteen (revoked_sized kinds.Digest cs h.formed) (revoked_few kinds.Digest cs h.legal))
    (bodies_spell owner (revoked_bodies cs) sixteen (each_fit cs h.formed (revoked kinds.Certificate cs))))
    (x509_sha256_spells owner others sixteen
    (kept HasSize HasSize (is_bodiless cs) (λ d sized _. sized) (revoked kinds.Certificate cs) (revoked_sized kinds.Certificate cs h.formed)) (bodiless_few cs h.legal))

-- ---- db

-- a certificate has its bytes
abbrev HasBody : ListedKind → List ℕ → Type 0
HasBody kinds.Digest body = Unit {0}
HasBody kinds.Certificate body = is_certificate_size (length body) ≡ true

record IsRight (e : Entry) : Type 0 where
  digest : HasSize e.digest
  body : HasBody e.kind e.body

without_right : (kind : ListedKind) (digest : List ℕ) (es : List Entry) → AllByRecursion IsRight es → AllByRecursion IsRight (without kind digest es)
without_right kind digest es h = kept IsRight IsRight (λ e. not (is_entry kind digest e)) (λ e right _. right) es h

relisted_right : (c : Command) → IsCommand c → IsWithin c → (es : List Entry) → AllByRecursion IsRight es → AllByRecursion IsRight (relisted c es)
relisted_right (command.ListDigest d) f w es h = (record { digest = f.size; body = tt }, without_right kinds.Digest d es h)
relisted_right (command.ListCertificate c) f w es h = (record { digest = f.0.size; body = w }, without_right kinds.Certificate c.tbs es h)
relisted_right (command.Unlist l) f w es h = without_right l.kind l.digest es h
relisted_right (command.AddPerson _) f w es h = h
relisted_right (command.Submit _) f w es h = h
relisted_right (command.Review _) f w es h = h
relisted_right (command.Withdraw _) f w es h = h
relisted_right (command.Return _) f w es h = h
relisted_right (command.RevokeDigest _) f w es h = h
relisted_right (command.RevokeCertificate _) f w es h = h
relisted_right (command.RaiseLevel _) f w es h = h
relisted_right (command.ImportRevocations _) f w es h = h
relisted_right (command.Confirm _) f w es h = h
relisted_right (command.Drop _) f w es h = h
relisted_right (command.Explain _) f w es h = h

listed_right : (cs : History) → All IsItem cs → AllByRecursion IsRight (listed cs)
listed_right [] h = tt
listed_right (i ∷ cs) h =
    let here = All-head IsItem i cs h in
    relisted_right i.call.command here.forms here.limits (listed cs) (listed_right cs (All-tail IsItem i cs h))

-- of the entries of a kind
module _ (kind : ListedKind) (cs : History) where
  abbrev of_kind : List Entry
  of_kind = filter (λ e. is_same_kind kind e.kind) (listed cs)

  entries_have : (Q : Entry → Type 0) → ((e : Entry) → IsRight e → is_same_kind kind e.kind ≡ true → Q e) → All IsItem cs → AllByRecursion Q (entries_of kind cs)
  entries_have Q each h =
      all_moved Q of_kind (entries_of kind cs) (sort_moved (λ (e : Entry). e.digest) of_kind) (kept IsRight Q (λ e. is_same_kind kind e.kind) each (listed cs) (listed_right cs h))

  entries_few : is_legal cs ≡ true → length (map (λ (e : Entry). e.digest) (entries_of kind cs)) ≤ most_digests
  entries_few h =
      let mapped : length (map (λ (e : Entry). e.digest) (entries_of kind cs)) ≡ length (entries_of kind cs) = length-map (entries_of kind cs) (λ e. e.digest) in
      let moved : length (entries_of kind cs) ≡ length of_kind = length_ascending (λ (e : Entry). e.digest) of_kind in
      let fewer : length of_kind ≤ length (listed cs) = filter_fewer (λ (e : Entry). is_same_kind kind e.kind) (listed cs) in
      let most : length (listed cs) ≤ 1000000 = within (length (listed cs)) (length (listed cs)) 10000 refl (legal_parts cs h).listed (omega arith) in
      omega arith

digests_sized : (es : List Entry) → AllByRecursion (λ e. HasSize e.digest) es → AllByRecursion HasSize (map (λ e. e.digest) es)
digests_sized [] h = tt
digests_sized (e ∷ es) h = (h.0, digests_sized es h.1)

certificate_size : (kind : ListedKind) (body : List ℕ) → HasBody kind body → is_same_kind kinds.Certificate kind ≡ true → is_certificate_size (length body) ≡ true
certificate_size kinds.Certificate body h is = h
certificate_size kinds.Digest body h is = absurd (true≢false (sym is))

certificates_spell : (owner : List ℕ) (es : List Entry) → length owner ≡ 16 → AllByRecursion (λ e. is_certificate_size (length e.body) ≡ true) es
    → Spells (flat_map (λ e. x509_row owner e.body) es) (spelling (flat_map (λ e. x509_row owner e.body) es))
certificates_spell owner [] sixteen h = refl
certificates_spell owner (e ∷ es) sixteen h =
    joined (x509_row owner e.body) (flat_map (λ e. x509_row owner e.body) es) (body_spells owner e.body sixteen h.0) (certificates_spell owner es sixteen h.1)

pub db_spells : (owner : List ℕ) (cs : History) → length owner ≡ 16 → IsHistory cs → Spells (db_lists owner cs) (db owner cs)
db_spells owner cs sixteen h =
    let ds = map (λ (e : Entry). e.digest) (entries_of kinds.Digest cs) in
    joined (sha256_row owner ds) (flat_map (λ e. x509_row owner e.body) (entries_of kinds.Certificate cs))
    (sha256_spells owner ds sixteen
    (digests_sized (entries_of kinds.Digest cs) (entries_have kinds.Digest cs (λ e. HasSize e.digest) (λ e right _. right.digest) h.formed))
    (entries_few kinds.Digest cs h.legal))
    (certificates_spell owner (entries_of kinds.Certificate cs) sixteen
    (entries_have kinds.Certificate cs (λ e. is_certificate_size (length e.body) ≡ true) (λ e right is. certificate_size e.kind e.body right.body is) h.formed))
