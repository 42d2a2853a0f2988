-- What a file in memory shows, and a store over two of them.
use Rattle.std.specs.Prelude.{◌≡◌, ℕ, List, false, true}
use Rattle.sqlite.specs.Files.{over_files}
use Rattle.sqlite.specs.Store as store
use Rattle.sqlite_disk.specs.declared.Disk.{Ghosts}
use Rattle.sqlite_store.specs.declared.store.FileStore.{FileStore}
use Rattle.store_memory.specs.declared.disk.MemoryDisk.{MemoryDisk}

-- its member `seen`
abbrev pub bytes_of : MemoryDisk → List ℕ
bytes_of disk = disk.bytes.items

-- What it shows as a `Disk`: a stop leaves what was written, and each byte that is read is one that
-- was written.
abbrev pub in_memory : Ghosts MemoryDisk
in_memory = record {
  seen = bytes_of;
  may_leave = λ disk left. left ≡ disk.bytes.items;
  is_usable = λ _. true;
  faults = λ disk. disk.faults;
  tally_of = λ _. record { caught = 0; refused = 0 };
  is_clean = λ _. true;
  key_of = λ _. 0;
  is_fair = λ _ _. true;
  is_frozen = λ _. false;
  is_rotten = λ _ _ _. false;
  is_mixing = λ _. false;
}

-- a store over two such files
abbrev pub MemoryStore : Type 0
MemoryStore = FileStore MemoryDisk in_memory

-- what it shows
abbrev pub over_memory : store.Ghosts MemoryStore
over_memory = over_files
