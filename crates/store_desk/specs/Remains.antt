-- How far an opening came that opened no desk.
use Rattle.std.specs.Prelude.{◌≡◌, Bool, true, false, ⊤}
use Rattle.sqlite.specs.Closing.{files_left}
use Rattle.sqlite.specs.Files.{IsCleanLeft, LeavesFiles}
use Rattle.sqlite.specs.declared.file.Leftover.{Leftover}
use Rattle.sqlite.specs.declared.file.Leftover.TheVariants as leftover
use Rattle.sqlite_disk.specs.declared.Disk.{Ghosts}
use Rattle.sqlite_disk.specs.declared.Files.{Files}
use Rattle.sqlite_store.specs.declared.store.FileStore.{FileStore}
use Rattle.store_desk.specs.Reopening.{IsAfterStop}
use Rattle.store_desk.specs.declared.remains.Remains.{Remains}
use Rattle.store_desk.specs.declared.remains.Remains.TheVariants.{Refused, Unchecked, Unopened}

-- the files, however far the opening came
abbrev pub files_in : {D : Type 0} → Remains D → Files D
files_in (Refused files) = files
files_in (Unopened files) = files
files_in (Unchecked files) = files

-- a desk in them was refused
abbrev pub IsRefused : {D : Type 0} → Remains D → Type 0
IsRefused (Refused files) = ⊤
IsRefused (Unopened files) = ⊥
IsRefused (Unchecked files) = ⊥

-- this holds of the files, if a desk in them was refused
abbrev pub IfRefused : {D : Type 0} → Remains D → (Files D → Type 0) → Type 0
IfRefused (Refused files) P = P files
IfRefused (Unopened files) P = ⊤
IfRefused (Unchecked files) P = ⊤

-- this holds of the files, if they weren't opened
abbrev pub IfUnopened : {D : Type 0} → Remains D → (Files D → Type 0) → Type 0
IfUnopened (Refused files) P = ⊤
IfUnopened (Unopened files) P = P files
IfUnopened (Unchecked files) P = ⊤

-- this holds of the files, if the store in them was opened and its schema wasn't checked to its end
abbrev pub IfUnchecked : {D : Type 0} → Remains D → (Files D → Type 0) → Type 0
IfUnchecked (Refused files) P = ⊤
IfUnchecked (Unopened files) P = ⊤
IfUnchecked (Unchecked files) P = P files

-- after an opening of files that failed: the kit had a store over them
abbrev pub has_store : {D : Type 0} {g : Ghosts D} → Leftover D g → Bool
has_store (leftover.Files files) = false
has_store (leftover.Unopened files) = false
has_store (leftover.Store store) = true

-- it had one, and these are the files of that store after the machine stopped
pub record HadStore {D : Type 0} (g : Ghosts D) (left : Leftover D g) (now : Files D) : Type 0 where
  pub store : FileStore D g
  pub is : left ≡ leftover.Store store
  pub given : Files D
  pub same : (given.log, given.db) ≡ files_left left
  pub stopped : IsAfterStop g given now

-- A store was opened over the old files, and finds what they held; the new ones are its files after
-- the machine stopped.
abbrev pub HadStoreOver : {D : Type 0} (g : Ghosts D) → Files D → Files D → Type 0
HadStoreOver {D} g old new = (left : Leftover D g) × (IsCleanLeft left → LeavesFiles old left) × HadStore g left new
