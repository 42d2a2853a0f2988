-- Entries that calls put into force: revocations, and generations that the level requires. The
-- revoked entries and the level are read from these alone.
use Rattle.std.specs.Prelude.{ℕ, List, [], reverse, Option, None, option_map}
use Rattle.std.specs.Option.{option_map_or}
use Rattle.sbat.specs.declared.component.Component.{Component}
use Rattle.desk_types.specs.Imports.{Imported}
use Rattle.desk_types.specs.declared.command.Command.{Command}
use Rattle.desk_types.specs.declared.command.Command.TheVariants as command
use Rattle.desk_types.specs.declared.kind.ListedKind.{ListedKind}
use Rattle.desk_types.specs.declared.kind.ListedKind.TheVariants as kinds
use Rattle.desk_history.specs.Calls.{First, History, Item, Second}
use Rattle.desk_history.specs.Proposals.{named_by, proposal}

-- digests of images, digests of certificates, and components with their generations, each in
-- reverse order of naming, and the stamp that the level gets, if there is one
pub record InForce : Type 0 where
  pub digests : List (List ℕ)
  pub certificates : List (List ℕ)
  pub components : List Component
  pub stamp : Option ℕ

-- nothing is put into force
abbrev pub nothing : InForce
nothing = record { digests = []; certificates = []; components = []; stamp = None }

-- these entries are put into force
abbrev pub forced : Imported → InForce
forced i = record {
  digests = reverse i.digests;
  certificates = reverse i.certificates;
  components = reverse i.components;
  stamp = i.stamp;
}

-- the entries that a Confirm confirms: those of its proposal
abbrev pub confirmed_by : History → Command → Option Imported
confirmed_by cs (command.Confirm k) = option_map (λ p. p.named.entries) (proposal cs k)
confirmed_by cs (command.AddPerson _) = None
confirmed_by cs (command.Submit _) = None
confirmed_by cs (command.Review _) = None
confirmed_by cs (command.Withdraw _) = None
confirmed_by cs (command.Return _) = None
confirmed_by cs (command.ListCertificate _) = None
confirmed_by cs (command.ListDigest _) = None
confirmed_by cs (command.Unlist _) = None
confirmed_by cs (command.RevokeDigest _) = None
confirmed_by cs (command.RevokeCertificate _) = None
confirmed_by cs (command.RaiseLevel _) = None
confirmed_by cs (command.ImportRevocations _) = None
confirmed_by cs (command.Drop _) = None
confirmed_by cs (command.Explain _) = None

-- own: by the first rules a call puts into force the entries that it names; by the second only a
-- Confirm does, those of its proposal
abbrev pub enforced_by : History → Item → Option Imported
enforced_by cs i = elim i.rules [
  | First ↦ option_map (λ n. n.entries) (named_by i.call.command)
  | Second ↦ confirmed_by cs i.call.command
]

-- the entries that a call accepted after these puts into force
abbrev pub into_force : History → Item → InForce
into_force cs i = option_map_or forced (enforced_by cs i) nothing

-- the digests of this kind among them
abbrev pub revoked_in : ListedKind → InForce → List (List ℕ)
revoked_in kinds.Digest f = f.digests
revoked_in kinds.Certificate f = f.certificates
