-- Texts of commands and replies have printable characters of ASCII alone.
use Rattle.std.proofs.Common.{◌≡◌, ℕ, Bool, true, ◌||◌, List, [], ◌∷◌, ◌++◌, Option, Some, None, map, All, decimal, refl, arith}
use Rattle.std.specs.Prelude.{codes}
use Rattle.std.specs.Char.{is_ascii_digit}
use Rattle.std.specs.List.{join_with_byte, list_all}
use Rattle.std.proofs.lemmas.Bool.Decides.{nat_tests}
use Rattle.std.proofs.lemmas.List.Elements.{All-head, All-tail}
use Rattle.hex.specs.Hex.{IsBytes, encode_lower}
use Rattle.sbat.specs.declared.component.Component.{Component}
use Rattle.sbat.specs.Fields.{is_name, is_name_byte}
use Rattle.desk_types.specs.Callers.{caller_name}
use Rattle.desk_types.specs.Commands.{IsCaller, IsCommand, IsComponent, IsCount, IsDigest, IsFacts, IsReply, IsStamp}
use Rattle.desk_types.specs.CommandTexts.{text_of}
use Rattle.desk_types.specs.Forms.{is_between}
use Rattle.desk_types.specs.Items.{component_text, components_text, digests_text, facts_text, list_text, stamp_text}
use Rattle.desk_types.specs.ReplyTexts.{reply_text_of}
use Rattle.desk_types.specs.Words.{kind_text, role_text, state_text, vote_text}
use Rattle.desk_types.specs.declared.caller.Caller.{Caller}
use Rattle.desk_types.specs.declared.caller.Caller.TheVariants as callers
use Rattle.desk_types.specs.declared.command.Command.{Command}
use Rattle.desk_types.specs.declared.command.Command.TheVariants.{AddPerson, Submit, Review, Withdraw, Return, ListCertificate, ListDigest, Unlist, RevokeDigest, RevokeCertificate, RaiseLevel, ImportRevocations, Confirm, Drop, Explain}
use Rattle.desk_types.specs.declared.facts.Facts.{Facts}
use Rattle.desk_types.specs.declared.kind.ListedKind.{ListedKind}
use Rattle.desk_types.specs.declared.kind.ListedKind.TheVariants as kinds
use Rattle.desk_types.specs.declared.reply.Reply.{Reply}
use Rattle.desk_types.specs.declared.reply.Reply.TheVariants.{Added, Submitted, Reviewed, Withdrawn, Returned, Listed, Unlisted, Revoked, Raised, Imported, Proposed, Confirmed, Dropped, Explained}
use Rattle.desk_types.specs.declared.role.Role.{Role}
use Rattle.desk_types.specs.declared.role.Role.TheVariants.{Submitter, Reviewer, Officer, Signer}
use Rattle.desk_types.specs.declared.state.State.{State}
use Rattle.desk_types.specs.declared.state.State.TheVariants as states
use Rattle.desk_types.specs.declared.vote.Vote.{Vote}
use Rattle.desk_types.specs.declared.vote.Vote.TheVariants.{Yes, No}
use Rattle.desk_types.proofs.FormLemmas.{both, joined, list_all-weaker, printable-note, printable-person_name, printable-reason, printable-title}
use Rattle.desk_types.proofs.PartLemmas.{request_small}
use Rattle.desk_types.proofs.ValueLemmas.{decimal_digits, generation_small, hex_digits, name_bytes, stamp_size}

-- each byte is a printable character of ASCII
abbrev pub is_printable : List ℕ → Bool
is_printable text = list_all (is_between 32 126) text

abbrev are_printable : List (List ℕ) → Bool
are_printable texts = list_all is_printable texts

pub record IsPrintable (text : List ℕ) : Type 0 where
  pub bytes : is_printable text ≡ true

record ArePrintable (texts : List (List ℕ)) : Type 0 where
  all : are_printable texts ≡ true

-- ---- texts of several parts

printable-append : (xs ys : List ℕ) → is_printable xs ≡ true → is_printable ys ≡ true → is_printable (xs ++ ys) ≡ true
printable-append [] ys h k = k
printable-append (x ∷ xs) ys h k =
    let parts = both (is_between 32 126 x) (is_printable xs) h in
    joined (is_between 32 126 x) (is_printable (xs ++ ys)) parts.0 (printable-append xs ys parts.1 k)

joined_by : (c : ℕ) → is_between 32 126 c ≡ true → (texts : List (List ℕ)) → are_printable texts ≡ true → is_printable (join_with_byte c texts) ≡ true
joined_by c between [] h = refl
joined_by c between (x ∷ []) h = (both (is_printable x) true h).0
joined_by c between (x ∷ y ∷ ys) h =
    let parts = both (is_printable x) (are_printable (y ∷ ys)) h in
    printable-append x (c ∷ join_with_byte c (y ∷ ys)) parts.0
    (joined (is_between 32 126 c) (is_printable (join_with_byte c (y ∷ ys))) between (joined_by c between (y ∷ ys) parts.1))

printable-joined : (c : ℕ) → is_between 32 126 c ≡ true → (texts : List (List ℕ)) → ArePrintable texts → IsPrintable (join_with_byte c texts)
printable-joined c between texts h = record { bytes = joined_by c between texts h.all }

printable-spaced : (texts : List (List ℕ)) → ArePrintable texts → IsPrintable (join_with_byte 32 texts)
printable-spaced texts h = printable-joined 32 refl texts h

printable-list : (texts : List (List ℕ)) → ArePrintable texts → IsPrintable (list_text texts)
printable-list [] h = record { bytes = refl }
printable-list (x ∷ xs) h = printable-joined 44 refl (x ∷ xs) h

word : {text : List ℕ} → is_printable text ≡ true → IsPrintable text
word h = record { bytes = h }

more : {x : List ℕ} {xs : List (List ℕ)} → IsPrintable x → ArePrintable xs → ArePrintable (x ∷ xs)
more {x} {xs} h k = record { all = joined (is_printable x) (are_printable xs) h.bytes k.all }

none : ArePrintable []
none = record { all = refl }

last : {x : List ℕ} → IsPrintable x → ArePrintable (x ∷ [])
last h = more h none

-- ---- values

printable-digit : (b : ℕ) → is_ascii_digit b ≡ true → is_between 32 126 b ≡ true
printable-digit b h = grind (arith, nat_tests, h)

abbrev is_lower_digit : ℕ → Bool
is_lower_digit b = is_between 48 57 b || is_between 97 102 b

printable-lower_digit : (b : ℕ) → is_lower_digit b ≡ true → is_between 32 126 b ≡ true
printable-lower_digit b h = grind (arith, nat_tests, h)

printable-name_byte : (b : ℕ) → is_name_byte b ≡ true → is_between 32 126 b ≡ true
printable-name_byte b h = grind (arith, nat_tests, h)

pub printable-decimal : (n : ℕ) → IsCount n → IsPrintable (decimal n)
printable-decimal n small = word (list_all-weaker is_ascii_digit (is_between 32 126) printable-digit (decimal n) (decimal_digits n small))

printable-hex : (bs : List ℕ) → IsBytes bs → IsPrintable (encode_lower bs)
printable-hex bs h = word (list_all-weaker is_lower_digit (is_between 32 126) printable-lower_digit (encode_lower bs) (hex_digits bs h))

printable-component_name : (name : List ℕ) → is_name name ≡ true → IsPrintable name
printable-component_name name h = word (list_all-weaker is_name_byte (is_between 32 126) printable-name_byte name (name_bytes name h))

printable-digest_items : (ds : List (List ℕ)) → All IsDigest ds → ArePrintable (map encode_lower ds)
printable-digest_items [] h = none
printable-digest_items (d ∷ ds) h =
    more (printable-hex d (All-head IsDigest d ds h).bytes) (printable-digest_items ds (All-tail IsDigest d ds h))

printable-digests : (ds : List (List ℕ)) → All IsDigest ds → IsPrintable (digests_text ds)
printable-digests ds h = printable-list (map encode_lower ds) (printable-digest_items ds h)

printable-component : (c : Component) → IsComponent c → IsPrintable (component_text c)
printable-component c h =
    printable-joined 58 refl (decimal c.generation ∷ c.name ∷ [])
    (more (printable-decimal c.generation (generation_small c.generation h.generation)) (last (printable-component_name c.name h.name)))

printable-component_items : (cs : List Component) → All IsComponent cs → ArePrintable (map component_text cs)
printable-component_items [] h = none
printable-component_items (c ∷ cs) h =
    more (printable-component c (All-head IsComponent c cs h)) (printable-component_items cs (All-tail IsComponent c cs h))

printable-components : (cs : List Component) → All IsComponent cs → IsPrintable (components_text cs)
printable-components cs h = printable-list (map component_text cs) (printable-component_items cs h)

printable-stamp : (s : Option ℕ) → IsStamp s → IsPrintable (stamp_text s)
printable-stamp None h = word refl
printable-stamp (Some stamp) h = printable-decimal stamp (stamp_size stamp h).1

printable-facts : (f : Facts) → IsFacts f → IsPrintable (facts_text f)
printable-facts f h =
    printable-spaced (decimal f.extent.length ∷ decimal f.extent.gap ∷ encode_lower f.file ∷ encode_lower f.digest ∷ encode_lower f.signing ∷ digests_text f.carried ∷ components_text f.components ∷ [])
    (more (printable-decimal f.extent.length h.length)
    (more (printable-decimal f.extent.gap h.gap)
    (more (printable-hex f.file h.file.bytes)
    (more (printable-hex f.digest h.digest.bytes)
    (more (printable-hex f.signing h.signing.bytes)
    (more (printable-digests f.carried h.carried) (last (printable-components f.components h.components))))))))

-- ---- words

printable-role : (role : Role) → IsPrintable (role_text role)
printable-role Submitter = word refl
printable-role Reviewer = word refl
printable-role Officer = word refl
printable-role Signer = word refl

printable-vote : (vote : Vote) → IsPrintable (vote_text vote)
printable-vote Yes = word refl
printable-vote No = word refl

printable-kind : (kind : ListedKind) → IsPrintable (kind_text kind)
printable-kind kinds.Digest = word refl
printable-kind kinds.Certificate = word refl

printable-state : (state : State) → IsPrintable (state_text state)
printable-state states.Open = word refl
printable-state states.Approved = word refl
printable-state states.Rejected = word refl
printable-state states.Withdrawn = word refl
printable-state states.Signed = word refl

-- ---- names, commands, replies

pub printable-caller : (c : Caller) → IsCaller c → IsPrintable (caller_name c)
printable-caller callers.Console h = word refl
printable-caller (callers.Person name) h = word (printable-person_name name h)

pub printable-command : (c : Command) → IsCommand c → IsPrintable (text_of c)
printable-command (AddPerson p) h =
    printable-spaced (codes "add-person" ∷ p.name ∷ role_text p.role ∷ encode_lower p.token ∷ [])
    (more (word refl) (more (word (printable-person_name p.name h.0)) (more (printable-role p.role) (last (printable-hex p.token h.1.bytes)))))
printable-command (Submit s) h =
    printable-spaced (codes "submit" ∷ facts_text s.facts ∷ s.title ∷ []) (more (word refl) (more (printable-facts s.facts h.1) (last (word (printable-title s.title h.0)))))
printable-command (Review b) h =
    printable-spaced (codes "review" ∷ decimal b.request ∷ vote_text b.vote ∷ b.note ∷ [])
    (more (word refl) (more (printable-decimal b.request (request_small b.request h.0)) (more (printable-vote b.vote) (last (word (printable-note b.note h.1))))))
printable-command (Withdraw request) h =
    printable-spaced (codes "withdraw" ∷ decimal request ∷ []) (more (word refl) (last (printable-decimal request (request_small request h))))
printable-command (Return b) h =
    printable-spaced (codes "return" ∷ decimal b.request ∷ facts_text b.facts ∷ [])
    (more (word refl) (more (printable-decimal b.request (request_small b.request h.0)) (last (printable-facts b.facts h.1))))
printable-command (ListCertificate c) h =
    printable-spaced (codes "list-certificate" ∷ encode_lower c.tbs ∷ encode_lower c.body ∷ [])
    (more (word refl) (more (printable-hex c.tbs h.0.bytes) (last (printable-hex c.body h.1))))
printable-command (ListDigest digest) h =
    printable-spaced (codes "list-digest" ∷ encode_lower digest ∷ []) (more (word refl) (last (printable-hex digest h.bytes)))
printable-command (Unlist l) h =
    printable-spaced (codes "unlist" ∷ kind_text l.kind ∷ encode_lower l.digest ∷ [])
    (more (word refl) (more (printable-kind l.kind) (last (printable-hex l.digest h.bytes))))
printable-command (RevokeDigest digest) h =
    printable-spaced (codes "revoke-digest" ∷ encode_lower digest ∷ []) (more (word refl) (last (printable-hex digest h.bytes)))
printable-command (RevokeCertificate digest) h =
    printable-spaced (codes "revoke-certificate" ∷ encode_lower digest ∷ []) (more (word refl) (last (printable-hex digest h.bytes)))
printable-command (RaiseLevel r) h =
    printable-spaced (codes "raise" ∷ r.component.name ∷ decimal r.component.generation ∷ decimal r.stamp ∷ [])
    (more (word refl)
    (more (printable-component_name r.component.name h.0.name)
    (more (printable-decimal r.component.generation (generation_small r.component.generation h.0.generation)) (last (printable-decimal r.stamp (stamp_size r.stamp h.1).1)))))
printable-command (ImportRevocations i) h =
    printable-spaced (codes "import" ∷ stamp_text i.stamp ∷ decimal i.passed ∷ digests_text i.digests ∷ digests_text i.certificates ∷ components_text i.components ∷ [])
    (more (word refl)
    (more (printable-stamp i.stamp h.stamp)
    (more (printable-decimal i.passed h.passed)
    (more (printable-digests i.digests h.digests)
    (more (printable-digests i.certificates h.certificates) (last (printable-components i.components h.components)))))))
printable-command (Confirm proposal) h =
    printable-spaced (codes "confirm" ∷ decimal proposal ∷ []) (more (word refl) (last (printable-decimal proposal (request_small proposal h))))
printable-command (Drop proposal) h =
    printable-spaced (codes "drop" ∷ decimal proposal ∷ []) (more (word refl) (last (printable-decimal proposal (request_small proposal h))))
printable-command (Explain x) h =
    printable-spaced (codes "explain" ∷ decimal x.proposal ∷ x.reason ∷ [])
    (more (word refl) (more (printable-decimal x.proposal (request_small x.proposal h.0)) (last (word (printable-reason x.reason h.1)))))

pub printable-reply : (r : Reply) → IsReply r → IsPrintable (reply_text_of r)
printable-reply (Added name) h = printable-spaced (codes "added" ∷ name ∷ []) (more (word refl) (last (word (printable-person_name name h))))
printable-reply (Submitted request) h =
    printable-spaced (codes "submitted" ∷ decimal request ∷ []) (more (word refl) (last (printable-decimal request (request_small request h))))
printable-reply (Reviewed o) h =
    printable-spaced (codes "reviewed" ∷ decimal o.request ∷ state_text o.state ∷ [])
    (more (word refl) (more (printable-decimal o.request (request_small o.request h)) (last (printable-state o.state))))
printable-reply (Withdrawn request) h =
    printable-spaced (codes "withdrawn" ∷ decimal request ∷ []) (more (word refl) (last (printable-decimal request (request_small request h))))
printable-reply (Returned request) h =
    printable-spaced (codes "returned" ∷ decimal request ∷ []) (more (word refl) (last (printable-decimal request (request_small request h))))
printable-reply Listed h = word refl
printable-reply Unlisted h = word refl
printable-reply Revoked h = word refl
printable-reply Raised h = word refl
printable-reply (Imported c) h =
    printable-spaced (codes "imported" ∷ decimal c.digests ∷ decimal c.certificates ∷ decimal c.components ∷ decimal c.passed ∷ [])
    (more (word refl)
    (more (printable-decimal c.digests h.0)
    (more (printable-decimal c.certificates h.1) (more (printable-decimal c.components h.2) (last (printable-decimal c.passed h.3))))))
printable-reply (Proposed proposal) h =
    printable-spaced (codes "proposed" ∷ decimal proposal ∷ []) (more (word refl) (last (printable-decimal proposal (request_small proposal h))))
printable-reply (Confirmed c) h =
    printable-spaced (codes "confirmed" ∷ decimal c.proposal ∷ decimal c.counts.digests ∷ decimal c.counts.certificates ∷ decimal c.counts.components ∷ decimal c.counts.passed ∷ [])
    (more (word refl)
    (more (printable-decimal c.proposal (request_small c.proposal h.0))
    (more (printable-decimal c.counts.digests h.1.0)
    (more (printable-decimal c.counts.certificates h.1.1)
    (more (printable-decimal c.counts.components h.1.2) (last (printable-decimal c.counts.passed h.1.3)))))))
printable-reply (Dropped proposal) h =
    printable-spaced (codes "dropped" ∷ decimal proposal ∷ []) (more (word refl) (last (printable-decimal proposal (request_small proposal h))))
printable-reply (Explained proposal) h =
    printable-spaced (codes "explained" ∷ decimal proposal ∷ []) (more (word refl) (last (printable-decimal proposal (request_small proposal h))))
