-- Commands read back from their texts.
use Rattle.std.proofs.Common.{◌≡◌, ℕ, cond, List, sym, ap, ◌∙◌}
use Rattle.std.specs.Prelude.{codes}
use Rattle.std.specs.Str.{bytes_eq}
use Rattle.sbat.specs.Fields.{decimal_of}
use Rattle.desk_types.specs.Commands.{IsCommand}
use Rattle.desk_types.specs.CommandTexts.{text_of}
use Rattle.desk_types.specs.declared.command.Command.{Command}
use Rattle.desk_types.specs.declared.command.Command.TheVariants.{AddPerson, Submit, Review, Withdraw, Return, ListCertificate, ListDigest, Unlist, RevokeDigest, RevokeCertificate, RaiseLevel, ImportRevocations, Confirm, Drop, Explain}
use Rattle.desk_types.proofs.FieldLemmas.{after, before, fields}
use Rattle.desk_types.proofs.PartLemmas.{ballot_of, ballot_read, certificate_of, certificate_read, explanation_of, explanation_read, handback_of, handback_read, import_of, import_read, listing_of, listing_read, person_of, person_read, raise_of, raise_read, request_small, submission_of, submission_read}
use Rattle.desk_types.proofs.ValueLemmas.{decimal_read, hex_in, hex_read}

abbrev chosen : List ℕ → List ℕ → Command
chosen word rest =
    cond (bytes_eq word (codes "add-person")) (AddPerson (person_of (fields 2 rest)))
    (cond (bytes_eq word (codes "submit")) (Submit (submission_of (fields 7 rest)))
    (cond (bytes_eq word (codes "review")) (Review (ballot_of (fields 2 rest)))
    (cond (bytes_eq word (codes "withdraw")) (Withdraw (decimal_of rest))
    (cond (bytes_eq word (codes "return")) (Return (handback_of (fields 7 rest)))
    (cond (bytes_eq word (codes "list-certificate")) (ListCertificate (certificate_of (fields 1 rest)))
    (cond (bytes_eq word (codes "list-digest")) (ListDigest (hex_in rest))
    (cond (bytes_eq word (codes "unlist")) (Unlist (listing_of (fields 1 rest)))
    (cond (bytes_eq word (codes "revoke-digest")) (RevokeDigest (hex_in rest))
    (cond (bytes_eq word (codes "revoke-certificate")) (RevokeCertificate (hex_in rest))
    (cond (bytes_eq word (codes "raise")) (RaiseLevel (raise_of (fields 2 rest)))
    (cond (bytes_eq word (codes "confirm")) (Confirm (decimal_of rest))
    (cond (bytes_eq word (codes "drop")) (Drop (decimal_of rest))
    (cond (bytes_eq word (codes "explain")) (Explain (explanation_of (fields 1 rest)))
    (ImportRevocations (import_of (fields 4 rest))))))))))))))))

-- the command of a text
abbrev command_in : List ℕ → Command
command_in text = chosen (before 32 text) (after 32 text)

command_read : (c : Command) → IsCommand c → command_in (text_of c) ≡ c
command_read (AddPerson p) h = ap AddPerson (person_read p h.0 h.1)
command_read (Submit s) h = ap Submit (submission_read s h.1)
command_read (Review b) h = ap Review (ballot_read b h.0)
command_read (Withdraw request) h = ap Withdraw (decimal_read request (request_small request h))
command_read (Return b) h = ap Return (handback_read b h.0 h.1)
command_read (ListCertificate c) h = ap ListCertificate (certificate_read c h.0 h.1)
command_read (ListDigest digest) h = ap ListDigest (hex_read digest h.bytes)
command_read (Unlist l) h = ap Unlist (listing_read l h)
command_read (RevokeDigest digest) h = ap RevokeDigest (hex_read digest h.bytes)
command_read (RevokeCertificate digest) h = ap RevokeCertificate (hex_read digest h.bytes)
command_read (RaiseLevel r) h = ap RaiseLevel (raise_read r h)
command_read (ImportRevocations i) h = ap ImportRevocations (import_read i h)
command_read (Confirm proposal) h = ap Confirm (decimal_read proposal (request_small proposal h))
command_read (Drop proposal) h = ap Drop (decimal_read proposal (request_small proposal h))
command_read (Explain e) h = ap Explain (explanation_read e h.0)

-- commands of one text are one command
pub text_of-same : (a b : Command) → IsCommand a → IsCommand b → text_of a ≡ text_of b → a ≡ b
text_of-same a b h k same = sym (command_read a h) ∙ ap command_in same ∙ command_read b k
