-- Revocations, which are digests.
use Rattle.std.proofs.Common.{ℕ, All, IfSome, List, [], ◌∷◌, Option, Some, None}
use Rattle.std.specs.Prelude.{reverse}
use Rattle.std.specs.Option.{option_map_or}
use Rattle.std.proofs.lemmas.List.Elements.{All-append, All-cons, All-head, All-nil, All-tail}
use Rattle.std.proofs.lemmas.List.Sorted.{All-permutation, IsPermutation-reverse}
use Rattle.desk_types.specs.Commands.{IsCommand, IsDigest}
use Rattle.desk_types.specs.Formed.{IsWithin}
use Rattle.desk_types.specs.Imports.{Imported}
use Rattle.desk_types.specs.declared.command.Command.{Command}
use Rattle.desk_types.specs.declared.command.Command.TheVariants as command
use Rattle.desk_types.specs.declared.kind.ListedKind.{ListedKind}
use Rattle.desk_types.specs.declared.kind.ListedKind.TheVariants as kinds
use Rattle.desk_history.specs.Calls.{History}
use Rattle.desk_history.specs.Forces.{enforced_by, forced, into_force, nothing, revoked_in}
use Rattle.desk_history.specs.Formed.{IsItem}
use Rattle.desk_history.specs.Proposals.{named_by}
use Rattle.desk_history.specs.Revocations.{revocations}
use Rattle.desk_history.proofs.ProposalLemmas.{enforced_so, entries_of}

abbrev AreDigests : Imported → Type 0
AreDigests i = All IsDigest i.digests × All IsDigest i.certificates

named_digests : (c : Command) → IsCommand c → IsWithin c → IfSome (entries_of (named_by c)) AreDigests
named_digests (command.RevokeDigest d) f w = (All-cons IsDigest d [] f (All-nil IsDigest), All-nil IsDigest)
named_digests (command.RevokeCertificate d) f w = (All-nil IsDigest, All-cons IsDigest d [] f (All-nil IsDigest))
named_digests (command.RaiseLevel r) f w = (All-nil IsDigest, All-nil IsDigest)
named_digests (command.ImportRevocations i) f w = (f.digests, f.certificates)
named_digests _ f w = tt

turned : (ds : List (List ℕ)) → All IsDigest ds → All IsDigest (reverse ds)
turned ds h = All-permutation IsDigest ds (reverse ds) (IsPermutation-reverse ds) h

forced_digests : (kind : ListedKind) (o : Option Imported) → IfSome o AreDigests → All IsDigest (revoked_in kind (option_map_or forced o nothing))
forced_digests kinds.Digest None h = All-nil IsDigest
forced_digests kinds.Certificate None h = All-nil IsDigest
forced_digests kinds.Digest (Some i) h = turned i.digests h.0
forced_digests kinds.Certificate (Some i) h = turned i.certificates h.1

pub revocations_are_digests : (kind : ListedKind) (cs : History) → All IsItem cs → All IsDigest (revocations kind cs)
revocations_are_digests kind [] h = All-nil IsDigest
revocations_are_digests kind (i ∷ cs) h =
    let before = All-tail IsItem i cs h in
    All-append IsDigest (revoked_in kind (into_force cs i)) (revocations kind cs)
    (forced_digests kind (enforced_by cs i) (enforced_so AreDigests named_digests cs i.call i.rules before (All-head IsItem i cs h)))
    (revocations_are_digests kind cs before)
