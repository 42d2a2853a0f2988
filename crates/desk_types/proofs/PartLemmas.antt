-- The parts of commands read back from their texts.
use Rattle.std.proofs.Common.{◌≡◌, ℕ, suc, true, List, [], ◌∷◌, ◌++◌, length, Option, decimal, refl, ap, ap₂, ◌∙◌, append_assoc, arith}
use Rattle.std.specs.List.{list_all}
use Rattle.hex.specs.Hex.{IsBytes, encode_lower}
use Rattle.sbat.specs.declared.component.Component.{Component}
use Rattle.sbat.specs.Fields.{decimal_of}
use Rattle.desk_types.specs.Certificates.{WholeCertificate}
use Rattle.desk_types.specs.Commands.{IsCommand, IsCount, IsDigest, IsFacts, IsImport}
use Rattle.desk_types.specs.Forms.{is_name_byte, is_person_name, is_proposal_number, is_request_number}
use Rattle.desk_types.specs.Imports.{Imported}
use Rattle.desk_types.specs.Items.{components_text, digests_text, facts_text, spaced, stamp_text}
use Rattle.desk_types.specs.Words.{kind_text, role_text, vote_text}
use Rattle.desk_types.specs.declared.command.Ballot.{Ballot}
use Rattle.desk_types.specs.declared.command.Command.TheVariants.{RaiseLevel}
use Rattle.desk_types.specs.declared.command.Explanation.{Explanation}
use Rattle.desk_types.specs.declared.command.ReturnedFile.{ReturnedFile}
use Rattle.desk_types.specs.declared.command.Listing.{Listing}
use Rattle.desk_types.specs.declared.command.Person.{Person}
use Rattle.desk_types.specs.declared.command.Raise.{Raise}
use Rattle.desk_types.specs.declared.command.Submission.{Submission}
use Rattle.desk_types.specs.declared.facts.Facts.{Facts}
use Rattle.desk_types.specs.declared.kind.ListedKind.{ListedKind}
use Rattle.desk_types.specs.declared.role.Role.{Role}
use Rattle.desk_types.specs.declared.vote.Vote.{Vote}
use Rattle.desk_types.proofs.FieldLemmas.{field, fields, fields-more, free-by, is_free}
use Rattle.desk_types.proofs.FormLemmas.{both}
use Rattle.desk_types.proofs.NumberLemmas.{number_size}
use Rattle.desk_types.proofs.WordLemmas.{kind_free, kind_in, kind_read, role_free, role_in, role_read, vote_free, vote_in, vote_read}
use Rattle.desk_types.proofs.ValueLemmas.{component_name_free, components_free, components_in, components_read, decimal_free, decimal_read, digests_free, digests_in, digests_read, generation_small, hex_free, hex_in, hex_read, stamp_free, stamp_in, stamp_read, stamp_size}

pub request_small : (n : ℕ) → is_request_number n ≡ true → IsCount n
request_small n h = let size = number_size n h in omega arith

pub person_name_free : (name : List ℕ) → is_person_name name ≡ true → is_free 32 name ≡ true
person_name_free name h =
    free-by is_name_byte 32 refl name (both _ (list_all is_name_byte name) h).1

-- ---- the parts of each command

abbrev person : List ℕ → Role → List ℕ → Person
person name role token = record { name = name; role = role; token = token }

abbrev pub person_of : List (List ℕ) → Person
person_of parts = person (field parts 0) (role_in (field parts 1)) (hex_in (field parts 2))

pub person_read : (p : Person) → is_person_name p.name ≡ true → IsDigest p.token
    → person_of (fields 2 (spaced (p.name ∷ role_text p.role ∷ encode_lower p.token ∷ []))) ≡ p
person_read p named token =
    let parts = fields-more 1 p.name (spaced (role_text p.role ∷ encode_lower p.token ∷ [])) _ (person_name_free p.name named)
    (fields-more 0 (role_text p.role) (encode_lower p.token) _ (role_free p.role) refl) in
    let role = role_read p.role in
    let digest = hex_read p.token token.bytes in
    ap person_of parts ∙ ap₂ (person p.name) role digest

abbrev facts : ℕ → ℕ → List ℕ → List ℕ → List ℕ → List (List ℕ) → List Component → Facts
facts length gap file digest signing carried components = record {
  extent = record { length = length; gap = gap };
  file = file;
  digest = digest;
  signing = signing;
  carried = carried;
  components = components;
}

facts_same : (a b : ℕ) (c d e : List ℕ) (f : List (List ℕ)) (g : List Component) (h i : ℕ) (j k l : List ℕ) (m : List (List ℕ)) (n : List Component)
    → a ≡ h → b ≡ i → c ≡ j → d ≡ k → e ≡ l → f ≡ m → g ≡ n → facts a b c d e f g ≡ facts h i j k l m n
facts_same a b c d e f g h i j k l m n o p q r s t u = cc

abbrev facts_of : List (List ℕ) → Facts
facts_of parts =
    facts (decimal_of (field parts 0)) (decimal_of (field parts 1)) (hex_in (field parts 2)) (hex_in (field parts 3)) (hex_in (field parts 4))
    (digests_in (field parts 5)) (components_in (field parts 6))

-- the first six parts of an image's facts, then others
abbrev with_six : Facts → List (List ℕ) → List (List ℕ)
with_six f rest =
    decimal f.extent.length ∷ decimal f.extent.gap ∷ encode_lower f.file ∷ encode_lower f.digest ∷ encode_lower f.signing ∷ digests_text f.carried ∷ rest

facts_read : (f : Facts) → IsFacts f → (rest : List (List ℕ)) → facts_of (with_six f (components_text f.components ∷ rest)) ≡ f
facts_read f h rest =
    facts_same _ _ _ _ _ _ _ f.extent.length f.extent.gap f.file f.digest f.signing f.carried f.components
    (decimal_read f.extent.length h.length) (decimal_read f.extent.gap h.gap) (hex_read f.file h.file.bytes) (hex_read f.digest h.digest.bytes)
    (hex_read f.signing h.signing.bytes) (digests_read f.carried h.carried) (components_read f.components h.components)

-- six parts, a space after each, and then more
abbrev six_then : Facts → List ℕ → List ℕ
six_then f last =
    decimal f.extent.length ++ (32 ∷ (decimal f.extent.gap ++ (32 ∷ (encode_lower f.file ++ (32 ∷ (encode_lower f.digest ++ (32 ∷ (encode_lower f.signing
    ++ (32 ∷ (digests_text f.carried ++ (32 ∷ last)))))))))))

six_fields : (f : Facts) → IsFacts f → (n : ℕ) (last : List ℕ) (rest : List (List ℕ)) → fields n last ≡ rest
    → fields (suc (suc (suc (suc (suc (suc n)))))) (six_then f last) ≡ with_six f rest
six_fields f h n last rest same =
    let a = decimal f.extent.length in
    let b = decimal f.extent.gap in
    let c = encode_lower f.file in
    let d = encode_lower f.digest in
    let e = encode_lower f.signing in
    let g = digests_text f.carried in
    let five = g ++ (32 ∷ last) in
    let four = e ++ (32 ∷ five) in
    let three = d ++ (32 ∷ four) in
    let two = c ++ (32 ∷ three) in
    let one = b ++ (32 ∷ two) in
    let sixth = fields-more n g last rest (digests_free f.carried h.carried) same in
    let fifth = fields-more (suc n) e five (g ∷ rest) (hex_free f.signing h.signing.bytes) sixth in
    let fourth = fields-more (suc (suc n)) d four (e ∷ g ∷ rest) (hex_free f.digest h.digest.bytes) fifth in
    let third = fields-more (suc (suc (suc n))) c three (d ∷ e ∷ g ∷ rest) (hex_free f.file h.file.bytes) fourth in
    let second = fields-more (suc (suc (suc (suc n)))) b two (c ∷ d ∷ e ∷ g ∷ rest) (decimal_free f.extent.gap h.gap) third in
    fields-more (suc (suc (suc (suc (suc n))))) a one (b ∷ c ∷ d ∷ e ∷ g ∷ rest) (decimal_free f.extent.length h.length) second

pub regrouped : (a b c d e f g t : List ℕ)
    → (a ++ (32 ∷ (b ++ (32 ∷ (c ++ (32 ∷ (d ++ (32 ∷ (e ++ (32 ∷ (f ++ (32 ∷ g)))))))))))) ++ t
    ≡ a ++ (32 ∷ (b ++ (32 ∷ (c ++ (32 ∷ (d ++ (32 ∷ (e ++ (32 ∷ (f ++ (32 ∷ (g ++ t))))))))))))
regrouped a b c d e f g t = simp append_assoc

abbrev submission : Facts → List ℕ → Submission
submission f title = record { title = title; facts = f }

abbrev pub submission_of : List (List ℕ) → Submission
submission_of parts = submission (facts_of parts) (field parts 7)

pub submission_read : (s : Submission) → IsFacts s.facts → submission_of (fields 7 (facts_text s.facts ++ (32 ∷ s.title))) ≡ s
submission_read s h =
    let f = s.facts in
    let cut = regrouped (decimal f.extent.length) (decimal f.extent.gap) (encode_lower f.file) (encode_lower f.digest) (encode_lower f.signing)
    (digests_text f.carried) (components_text f.components) (32 ∷ s.title) in
    let last = fields-more 0 (components_text f.components) s.title _ (components_free f.components h.components) refl in
    let parts = six_fields f h 1 (components_text f.components ++ (32 ∷ s.title)) _ last in
    ap (λ t. submission_of (fields 7 t)) cut ∙ ap submission_of parts ∙ ap (λ g. submission g s.title) (facts_read f h (s.title ∷ []))

abbrev ballot : ℕ → Vote → List ℕ → Ballot
ballot request vote note = record { request = request; vote = vote; note = note }

abbrev pub ballot_of : List (List ℕ) → Ballot
ballot_of parts = ballot (decimal_of (field parts 0)) (vote_in (field parts 1)) (field parts 2)

pub ballot_read : (b : Ballot) → is_request_number b.request ≡ true
    → ballot_of (fields 2 (spaced (decimal b.request ∷ vote_text b.vote ∷ b.note ∷ []))) ≡ b
ballot_read b h =
    let small = request_small b.request h in
    let parts = fields-more 1 (decimal b.request) (spaced (vote_text b.vote ∷ b.note ∷ [])) _ (decimal_free b.request small)
    (fields-more 0 (vote_text b.vote) b.note _ (vote_free b.vote) refl) in
    ap ballot_of parts ∙ ap₂ (λ n v. ballot n v b.note) (decimal_read b.request small) (vote_read b.vote)

abbrev explanation : ℕ → List ℕ → Explanation
explanation proposal reason = record { proposal = proposal; reason = reason }

abbrev pub explanation_of : List (List ℕ) → Explanation
explanation_of parts = explanation (decimal_of (field parts 0)) (field parts 1)

pub explanation_read : (e : Explanation) → is_proposal_number e.proposal ≡ true
    → explanation_of (fields 1 (spaced (decimal e.proposal ∷ e.reason ∷ []))) ≡ e
explanation_read e h =
    let small = request_small e.proposal h in
    let parts = fields-more 0 (decimal e.proposal) e.reason _ (decimal_free e.proposal small) refl in
    ap explanation_of parts ∙ ap (λ n. explanation n e.reason) (decimal_read e.proposal small)

abbrev returned_file : ℕ → Facts → ReturnedFile
returned_file request f = record { request = request; facts = f }

abbrev rest_of : List (List ℕ) → List (List ℕ)
rest_of [] = []
rest_of (x ∷ xs) = xs

abbrev pub handback_of : List (List ℕ) → ReturnedFile
handback_of parts = returned_file (decimal_of (field parts 0)) (facts_of (rest_of parts))

pub handback_read : (b : ReturnedFile) → is_request_number b.request ≡ true → IsFacts b.facts
    → handback_of (fields 7 (decimal b.request ++ (32 ∷ facts_text b.facts))) ≡ b
handback_read b h k =
    let small = request_small b.request h in
    let parts = fields-more 6 (decimal b.request) (facts_text b.facts) _ (decimal_free b.request small)
    (six_fields b.facts k 0 (components_text b.facts.components) _ refl) in
    ap handback_of parts ∙ ap₂ returned_file (decimal_read b.request small) (facts_read b.facts k [])

abbrev certificate : List ℕ → List ℕ → WholeCertificate
certificate tbs body = record { body = body; tbs = tbs }

abbrev pub certificate_of : List (List ℕ) → WholeCertificate
certificate_of parts = certificate (hex_in (field parts 0)) (hex_in (field parts 1))

pub certificate_read : (c : WholeCertificate) → IsDigest c.tbs → IsBytes c.body
    → certificate_of (fields 1 (spaced (encode_lower c.tbs ∷ encode_lower c.body ∷ []))) ≡ c
certificate_read c h k =
    let parts = fields-more 0 (encode_lower c.tbs) (encode_lower c.body) _ (hex_free c.tbs h.bytes) refl in
    ap certificate_of parts ∙ ap₂ certificate (hex_read c.tbs h.bytes) (hex_read c.body k)

abbrev listing : ListedKind → List ℕ → Listing
listing kind digest = record { kind = kind; digest = digest }

abbrev pub listing_of : List (List ℕ) → Listing
listing_of parts = listing (kind_in (field parts 0)) (hex_in (field parts 1))

pub listing_read : (l : Listing) → IsDigest l.digest → listing_of (fields 1 (spaced (kind_text l.kind ∷ encode_lower l.digest ∷ []))) ≡ l
listing_read l h =
    let parts = fields-more 0 (kind_text l.kind) (encode_lower l.digest) _ (kind_free l.kind) refl in
    ap listing_of parts ∙ ap₂ listing (kind_read l.kind) (hex_read l.digest h.bytes)

abbrev raise : List ℕ → ℕ → ℕ → Raise
raise name generation stamp = record { component = record { name = name; generation = generation }; stamp = stamp }

abbrev pub raise_of : List (List ℕ) → Raise
raise_of parts = raise (field parts 0) (decimal_of (field parts 1)) (decimal_of (field parts 2))

pub raise_read : (r : Raise) → IsCommand (RaiseLevel r)
    → raise_of (fields 2 (spaced (r.component.name ∷ decimal r.component.generation ∷ decimal r.stamp ∷ []))) ≡ r
raise_read r h =
    let small = generation_small r.component.generation h.0.generation in
    let size = stamp_size r.stamp h.1 in
    let parts = fields-more 1 r.component.name (spaced (decimal r.component.generation ∷ decimal r.stamp ∷ [])) _ (component_name_free r.component.name h.0.name)
    (fields-more 0 (decimal r.component.generation) (decimal r.stamp) _ (decimal_free r.component.generation small) refl) in
    ap raise_of parts ∙ ap₂ (raise r.component.name) (decimal_read r.component.generation small) (decimal_read r.stamp size.1)

abbrev import : Option ℕ → ℕ → List (List ℕ) → List (List ℕ) → List Component → Imported
import stamp passed digests certificates components = record {
  stamp = stamp;
  passed = passed;
  digests = digests;
  certificates = certificates;
  components = components;
}

import_same : (a : Option ℕ) (b : ℕ) (c d : List (List ℕ)) (e : List Component) (f : Option ℕ) (g : ℕ) (h i : List (List ℕ)) (j : List Component)
    → a ≡ f → b ≡ g → c ≡ h → d ≡ i → e ≡ j → import a b c d e ≡ import f g h i j
import_same a b c d e f g h i j k l m n o = cc

abbrev pub import_of : List (List ℕ) → Imported
import_of parts =
    import (stamp_in (field parts 0)) (decimal_of (field parts 1)) (digests_in (field parts 2)) (digests_in (field parts 3)) (components_in (field parts 4))

pub import_read : (i : Imported) → IsImport i
    → import_of (fields 4 (spaced (stamp_text i.stamp ∷ decimal i.passed ∷ digests_text i.digests ∷ digests_text i.certificates ∷ components_text i.components ∷ []))) ≡ i
import_read i h =
    let parts = fields-more 3 (stamp_text i.stamp) _ _ (stamp_free i.stamp h.stamp)
    (fields-more 2 (decimal i.passed) _ _ (decimal_free i.passed h.passed)
    (fields-more 1 (digests_text i.digests) _ _ (digests_free i.digests h.digests)
    (fields-more 0 (digests_text i.certificates) (components_text i.components) _ (digests_free i.certificates h.certificates) refl))) in
    ap import_of parts
    ∙ import_same _ _ _ _ _ i.stamp i.passed i.digests i.certificates i.components (stamp_read i.stamp h.stamp) (decimal_read i.passed h.passed)
    (digests_read i.digests h.digests) (digests_read i.certificates h.certificates) (components_read i.components h.components)
