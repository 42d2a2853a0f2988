-- How what a desk publishes grows as its history goes on (UEFI 2.10, 32.4.1; shim's SBAT.md).
use Rattle.std.specs.Prelude.{◌≡◌, ◌≤◌, ◌⊎◌, ℕ, Bool, ◌&&◌, IsTrue, List, [], ◌++◌, bytes_eq, length, nat_le}
use Rattle.std.specs.List.{list_any}
use Rattle.sbat.specs.declared.component.Component.{Component}
use Rattle.siglist.specs.Kinds.{x509_kind, x509_sha256_kind}
use Rattle.siglist.specs.SignatureLists.{Entry, SignatureList, Spells}
use Rattle.siglist.specs.Writing.{digest_entry, entry_of, no_time}
use Rattle.desk_history.specs.Calls.{GoesOnFrom, History}
use Rattle.desk_history.specs.Formed.{IsHistory}
use Rattle.desk_history.specs.Level.{stamp}
use Rattle.desk_history.specs.Runs.{is_legal}
use Rattle.desk_exports.specs.Bodies.{certificates_given}
use Rattle.desk_exports.specs.Exports.{dbx, dbx_lists, level_components, shim_lists}
use Rattle.desk_exports.specs.MinutesShown.{first_lines}
use Rattle.desk_minutes.specs.Follows.{EndsLine, Follows}

-- both entries have one SignatureOwner and one SignatureData
abbrev pub is_same_entry : Entry → Entry → Bool
is_same_entry a b = bytes_eq a.owner b.owner && bytes_eq a.body b.body

-- one of these lists is of this SignatureType and has the entry
abbrev pub has_entry : List ℕ → Entry → List SignatureList → Bool
has_entry kind entry lists =
    list_any (λ l. bytes_eq kind l.kind && list_any (is_same_entry entry) l.entries) lists

-- the second lists have each entry of the first
abbrev pub HaveAll : List SignatureList → List SignatureList → Type 0
HaveAll firsts others =
    (kind : List ℕ) (entry : Entry) → IsTrue (has_entry kind entry firsts)
    → IsTrue (has_entry kind entry others)

-- a call gave this body for the certificate of this digest
abbrev pub was_given : History → List ℕ → List ℕ → Bool
was_given cs tbs body =
    list_any (λ c. bytes_eq tbs c.tbs && bytes_eq body c.body) (certificates_given cs)

-- The entry is that of a certificate by its digest, in an X509_SHA256 list, and shim's form for
-- this history has a body of the certificate, in an X509 list.
pub record HasBody (owner : List ℕ) (cs : History) (kind : List ℕ) (entry : Entry) : Type 0 where
  pub tbs : List ℕ
  pub body : List ℕ
  pub by_digest : (kind ≡ x509_sha256_kind) × (entry ≡ digest_entry owner no_time tbs)
  pub given : IsTrue (was_given cs tbs body)
  pub whole : IsTrue (has_entry x509_kind (entry_of owner body) (shim_lists owner cs))

-- shim's form for the later history has each entry of that for the earlier; but where a call has
-- given the body of a certificate that it had by its digest, it has a body in the digest's place
abbrev pub ShimGrows : List ℕ → History → History → Type 0
ShimGrows owner earlier later =
    (kind : List ℕ) (entry : Entry) → IsTrue (has_entry kind entry (shim_lists owner earlier))
    → IsTrue (has_entry kind entry (shim_lists owner later)) ⊎ HasBody owner later kind entry

-- one of these components has the name, and no lower generation
abbrev pub requires : List ℕ → ℕ → List Component → Bool
requires name generation components =
    list_any (λ x. bytes_eq name x.name && nat_le generation x.generation) components

-- the second components have each name of the first, with no lower generation
abbrev pub RequireAll : List Component → List Component → Type 0
RequireAll firsts others =
    (name : List ℕ) (generation : ℕ) → IsTrue (requires name generation firsts)
    → IsTrue (requires name generation others)

-- What a desk with this owner publishes after the later history has all that it published after the
-- earlier: the entries of dbx and of its form for shim, the names of the level with no lower
-- generation, and no lower stamp.
pub record ExportsGrow (owner : List ℕ) (earlier later : History) : Type 0 where
  pub dbx : HaveAll (dbx_lists owner earlier) (dbx_lists owner later)
  pub shim : ShimGrows owner earlier later
  pub level : RequireAll (level_components earlier) (level_components later)
  pub stamp : stamp earlier ≤ stamp later

-- the bytes are whole lines, or there are none
abbrev pub AreLines : List ℕ → Type 0
AreLines bytes = (bytes ≡ []) ⊎ EndsLine bytes

-- ---- laws

-- whole lines that minutes begin with are those of an earlier history, from which theirs goes on
abbrev pub BeginningsFollow : Type 0
BeginningsFollow =
    (bytes more : List ℕ) (later : History) → AreLines bytes → Follows (bytes ++ more) later
    → (earlier : History) × GoesOnFrom earlier later × Follows bytes earlier

-- so are the first lines, however many
abbrev pub FirstLinesFollow : Type 0
FirstLinesFollow =
    (lines : ℕ) (later : History) → IsHistory later
    → (earlier : History) × GoesOnFrom earlier later × Follows (first_lines later lines) earlier

-- the exports grow where a history goes on, each of whose calls was accepted
abbrev pub HistoriesGrow : Type 0
HistoriesGrow =
    (earlier later : History) → IsTrue (is_legal later) → GoesOnFrom earlier later
    → (owner : List ℕ) → ExportsGrow owner earlier later

-- and where minutes go on, whichever rules their calls were accepted by
abbrev pub MinutesGrow : Type 0
MinutesGrow =
    (bytes more : List ℕ) (earlier later : History) → Follows bytes earlier
    → Follows (bytes ++ more) later → (owner : List ℕ) → ExportsGrow owner earlier later

-- for whoever reads the published bytes: whatever lists the bytes of dbx spell, after minutes and
-- after minutes that go on, the later have each entry of the earlier
abbrev pub DbxReadGrows : Type 0
DbxReadGrows =
    (bytes more : List ℕ) (earlier later : History) → Follows bytes earlier
    → Follows (bytes ++ more) later → (owner : List ℕ) → length owner ≡ 16
    → (firsts others : List SignatureList) → Spells firsts (dbx owner earlier)
    → Spells others (dbx owner later) → HaveAll firsts others
