-- Keys of a command: people, and keys of the lists.
use Rattle.std.specs.Prelude.{ℕ, List, [], ◌∷◌, map, Option}
use Rattle.std.specs.Option.{option_map_or}
use Rattle.desk_types.specs.declared.command.Command.{Command}
use Rattle.desk_types.specs.declared.command.Command.TheVariants as command
use Rattle.desk_types.specs.declared.kind.ListedKind.{ListedKind}
use Rattle.desk_types.specs.declared.kind.ListedKind.TheVariants as kinds
use Rattle.desk_types.specs.Imports.{Imported}
use Rattle.desk_types.specs.Naming.{person_added}
use Rattle.desk_history.specs.declared.rows.ProposalRow.{ProposalRow}
use Rattle.desk_rules.specs.Views.{EntryKeys, Keys, component_names, keys_of, no_entries, revoked_keys}

-- the names of people that a command has
abbrev pub people_named : Command → List (List ℕ)
people_named c = option_map_or (λ p. p.name ∷ []) (person_added c) []

-- the tokens of people that a command has
abbrev pub tokens_named : Command → List (List ℕ)
tokens_named c = option_map_or (λ p. p.token ∷ []) (person_added c) []

-- a key of this kind
abbrev pub one_key : ListedKind → List ℕ → EntryKeys
one_key kinds.Digest digest = record { digests = digest ∷ []; certificates = [] }
one_key kinds.Certificate digest = record { digests = []; certificates = digest ∷ [] }

-- no key of any list
abbrev pub no_keys : Keys
no_keys = record { listed = no_entries; revoked = no_entries; names = [] }

-- the keys of an import's entries
abbrev pub import_keys : Imported → Keys
import_keys i = record no_keys {
  revoked = record { digests = i.digests; certificates = i.certificates };
  names = map (λ x. x.name) i.components;
}

-- the keys of a command in the listed and the revoked entries and in the level
abbrev pub keys_named : Command → Keys
keys_named (command.AddPerson _) = no_keys
keys_named (command.Submit s) = record no_keys { revoked = revoked_keys s.facts; names = component_names s.facts }
keys_named (command.Review _) = no_keys
keys_named (command.Withdraw _) = no_keys
keys_named (command.Return h) = keys_of h.facts
keys_named (command.ListCertificate c) = record no_keys { listed = one_key kinds.Certificate c.tbs }
keys_named (command.ListDigest d) = record no_keys { listed = one_key kinds.Digest d }
keys_named (command.Unlist l) = record no_keys { listed = one_key l.kind l.digest }
keys_named (command.RevokeDigest d) = record no_keys { revoked = one_key kinds.Digest d }
keys_named (command.RevokeCertificate d) = record no_keys { revoked = one_key kinds.Certificate d }
keys_named (command.RaiseLevel r) = record no_keys { names = r.component.name ∷ [] }
keys_named (command.ImportRevocations i) = import_keys i
keys_named (command.Confirm _) = no_keys
keys_named (command.Drop _) = no_keys
keys_named (command.Explain _) = no_keys

-- the keys of the entries of a proposal's row, if there is one
abbrev pub row_keys : Option ProposalRow → Keys
row_keys o = option_map_or (λ row. import_keys row.named) o no_keys

-- own: the keys of the lists that a command reads: a Confirm reads those of its proposal's row,
-- which is found by its number, and every other command its own
abbrev pub keys_with : Command → (ℕ → Option ProposalRow) → Keys
keys_with c row_of = elim c [
  | command.Confirm k ↦ row_keys (row_of k)
  | other ↦ keys_named other
]
