-- The desk's own row, as a SELECT shows it.
use Rattle.std.specs.Prelude.{◌≡◌, ℕ, ℤ, pos, List, [], ◌∷◌, length, codes, true, Result, IfErr, IfOk}
use Rattle.sqlite.specs.declared.types.Value.{Value}
use Rattle.sqlite.specs.declared.types.Value.TheVariants.{Int, Text, Blob}
use Rattle.sqlite.specs.Order.{Row}
use Rattle.sqlite.specs.State.{State, Shown}
use Rattle.sbat.specs.Fields.{is_stamp}
use Rattle.desk_history.specs.Tables.{Tables}
use Rattle.store_schema.specs.declared.selecting.TheConstants.{SELECT_DESK}
use Rattle.store_reads.specs.declared.desk_row.OwnRow.{OwnRow}
use Rattle.store_reads.specs.declared.fault.ReadFault.{ReadFault}
use Rattle.store_reads.specs.declared.fault.ReadFault.TheVariants as faults

-- own: the columns of the desk's row: id, mark, version, owner, stamp
abbrev pub own_columns : List ℕ → ℤ → ℕ → Row
own_columns owner version stamp = Int (pos 1) ∷ Text (codes "boot-desk") ∷ Int version ∷ Blob owner ∷ Int (pos stamp) ∷ []

-- the value is the bytes of this GUID
abbrev pub IsGuid : Value → List ℕ → Type 0
IsGuid value guid = (value ≡ Blob guid) × (length guid ≡ 16)

-- own: the answer is one row, which reads as a desk's: the owner has 16 bytes, the stamp ten digits
abbrev pub ReadsBy : List Row → OwnRow → Type 0
ReadsBy answer own = (length own.owner ≡ 16) × (is_stamp own.stamp ≡ true) × (answer ≡ own_columns own.owner own.version own.stamp ∷ [])

-- it reads as that of a desk of this version
abbrev pub ReadsAs : List Row → ℤ → Type 0
ReadsAs answer version = (owner : List ℕ) × (stamp : ℕ) × ReadsBy answer (record { version = version; owner = owner; stamp = stamp })

-- it reads as that of no desk
abbrev pub ReadsAsNone : List Row → Type 0
ReadsAsNone answer = (version : ℤ) → ReadsAs answer version → ⊥

-- the query for the desk's row shows an answer of which this holds, whatever tables the store has
abbrev pub ShowsOwn : State → State → (List Row → Type 0) → Type 0
ShowsOwn old new told = (answer : List Row) × Shown SELECT_DESK.now [] old new answer × told answer

-- what was read is what the tables say
abbrev pub IsOwn : OwnRow → Tables → Type 0
IsOwn own t = (own.version ≡ pos t.desk.version) × (own.owner ≡ t.desk.owner) × (own.stamp ≡ t.desk.stamp)

-- the answer reads as what was read, or as that of no desk
pub record TellsOwn (old new : State) (result : Result OwnRow ReadFault) : Type 0 where
  pub read : IfOk result (λ own. ShowsOwn old new (λ answer. ReadsBy answer own))
  pub unread : IfErr result (λ fault. fault ≡ faults.Row → ShowsOwn old new ReadsAsNone)
