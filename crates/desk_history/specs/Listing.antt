-- The list of allowed images: the entries of db (UEFI 2.10, 32.4.1), image digests and certificates
-- by their TBS digests.
use Rattle.std.specs.Prelude.{ℕ, Bool, true, false, not, ◌&&◌, List, [], ◌∷◌, filter, find, bytes_eq}
use Rattle.std.specs.List.{list_any}
use Rattle.std.specs.Option.{option_map_or}
use Rattle.desk_types.specs.declared.command.Command.{Command}
use Rattle.desk_types.specs.declared.command.Command.TheVariants as command
use Rattle.desk_types.specs.declared.kind.ListedKind.{ListedKind}
use Rattle.desk_types.specs.declared.kind.ListedKind.TheVariants as kinds
use Rattle.desk_history.specs.declared.rows.Entry.{Entry}
use Rattle.desk_history.specs.Calls.{History, is_same_kind}

-- the entry is that of this kind and digest
abbrev pub is_entry : ListedKind → List ℕ → Entry → Bool
is_entry kind digest e = is_same_kind kind e.kind && bytes_eq digest e.digest

-- the command lists the entry of this kind and digest, or takes it off the list
abbrev pub is_about : ListedKind → List ℕ → Command → Bool
is_about kind digest (command.ListDigest d) = is_same_kind kind kinds.Digest && bytes_eq digest d
is_about kind digest (command.ListCertificate c) = is_same_kind kind kinds.Certificate && bytes_eq digest c.tbs
is_about kind digest (command.Unlist l) = is_same_kind kind l.kind && bytes_eq digest l.digest
is_about kind digest (command.AddPerson _) = false
is_about kind digest (command.Submit _) = false
is_about kind digest (command.Review _) = false
is_about kind digest (command.Withdraw _) = false
is_about kind digest (command.Return _) = false
is_about kind digest (command.RevokeDigest _) = false
is_about kind digest (command.RevokeCertificate _) = false
is_about kind digest (command.RaiseLevel _) = false
is_about kind digest (command.ImportRevocations _) = false
is_about kind digest (command.Confirm _) = false
is_about kind digest (command.Drop _) = false
is_about kind digest (command.Explain _) = false

-- the command lists an entry
abbrev pub lists : Command → Bool
lists (command.ListDigest d) = true
lists (command.ListCertificate c) = true
lists (command.AddPerson _) = false
lists (command.Submit _) = false
lists (command.Review _) = false
lists (command.Withdraw _) = false
lists (command.Return _) = false
lists (command.Unlist _) = false
lists (command.RevokeDigest _) = false
lists (command.RevokeCertificate _) = false
lists (command.RaiseLevel _) = false
lists (command.ImportRevocations _) = false
lists (command.Confirm _) = false
lists (command.Drop _) = false
lists (command.Explain _) = false

-- the last call that lists the entry or takes it off lists it
abbrev pub is_listed : ListedKind → History → List ℕ → Bool
is_listed kind cs digest = option_map_or (λ i. lists i.call.command) (find (λ i. is_about kind digest i.call.command) cs) false

-- the entries have one of this kind and digest
abbrev pub has_entry : ListedKind → List ℕ → List Entry → Bool
has_entry kind digest entries = list_any (is_entry kind digest) entries

-- the entries except this one
abbrev pub without : ListedKind → List ℕ → List Entry → List Entry
without kind digest entries = filter (λ e. not (is_entry kind digest e)) entries

-- the entries that a command leaves
abbrev pub relisted : Command → List Entry → List Entry
relisted (command.ListDigest d) entries =
    record { kind = kinds.Digest; digest = d; body = [] } ∷ without kinds.Digest d entries
relisted (command.ListCertificate c) entries =
    record { kind = kinds.Certificate; digest = c.tbs; body = c.body } ∷ without kinds.Certificate c.tbs entries
relisted (command.Unlist l) entries = without l.kind l.digest entries
relisted (command.AddPerson _) entries = entries
relisted (command.Submit _) entries = entries
relisted (command.Review _) entries = entries
relisted (command.Withdraw _) entries = entries
relisted (command.Return _) entries = entries
relisted (command.RevokeDigest _) entries = entries
relisted (command.RevokeCertificate _) entries = entries
relisted (command.RaiseLevel _) entries = entries
relisted (command.ImportRevocations _) entries = entries
relisted (command.Confirm _) entries = entries
relisted (command.Drop _) entries = entries
relisted (command.Explain _) entries = entries

-- the listed entries, with the bodies that the last calls that list them gave
abbrev pub listed : History → List Entry
listed [] = []
listed (i ∷ cs) = relisted i.call.command (listed cs)
