-- own: the canonical text of a command: its word and its parts, joined by one space. Numbers are
-- decimal without leading zeros, digests and certificates hexadecimal in lower case.
use Rattle.std.specs.Prelude.{ℕ, List, [], ◌∷◌, codes, decimal}
use Rattle.hex.specs.Hex.{encode_lower}
use Rattle.desk_types.specs.Words.{role_text, vote_text, kind_text}
use Rattle.desk_types.specs.Items.{spaced, digests_text, components_text, stamp_text, facts_text}
use Rattle.desk_types.specs.declared.command.Command.{Command}
use Rattle.desk_types.specs.declared.command.Command.TheVariants.{AddPerson, Submit, Review, Withdraw, Return, ListCertificate, ListDigest, Unlist, RevokeDigest, RevokeCertificate, RaiseLevel, ImportRevocations, Confirm, Drop, Explain}

-- the word and the parts of a command
abbrev pub parts_of : Command → List (List ℕ)
parts_of (AddPerson p) = codes "add-person" ∷ p.name ∷ role_text p.role ∷ encode_lower p.token ∷ []
parts_of (Submit s) = codes "submit" ∷ facts_text s.facts ∷ s.title ∷ []
parts_of (Review b) = codes "review" ∷ decimal b.request ∷ vote_text b.vote ∷ b.note ∷ []
parts_of (Withdraw request) = codes "withdraw" ∷ decimal request ∷ []
parts_of (Return h) = codes "return" ∷ decimal h.request ∷ facts_text h.facts ∷ []
parts_of (ListCertificate c) = codes "list-certificate" ∷ encode_lower c.tbs ∷ encode_lower c.body ∷ []
parts_of (ListDigest digest) = codes "list-digest" ∷ encode_lower digest ∷ []
parts_of (Unlist l) = codes "unlist" ∷ kind_text l.kind ∷ encode_lower l.digest ∷ []
parts_of (RevokeDigest digest) = codes "revoke-digest" ∷ encode_lower digest ∷ []
parts_of (RevokeCertificate digest) = codes "revoke-certificate" ∷ encode_lower digest ∷ []
parts_of (RaiseLevel r) = codes "raise" ∷ r.component.name ∷ decimal r.component.generation ∷ decimal r.stamp ∷ []
parts_of (ImportRevocations i) =
    codes "import" ∷ stamp_text i.stamp ∷ decimal i.passed ∷ digests_text i.digests ∷ digests_text i.certificates
    ∷ components_text i.components ∷ []
parts_of (Confirm proposal) = codes "confirm" ∷ decimal proposal ∷ []
parts_of (Drop proposal) = codes "drop" ∷ decimal proposal ∷ []
parts_of (Explain e) = codes "explain" ∷ decimal e.proposal ∷ e.reason ∷ []

-- the text of a command
abbrev pub text_of : Command → List ℕ
text_of command = spaced (parts_of command)
