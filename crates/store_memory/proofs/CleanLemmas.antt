-- A database in memory is on clean disks.
use Rattle.std.proofs.Common.{refl, true}
use Rattle.sqlite.specs.Held.{Held, state}
use Rattle.sqlite.specs.State.{HasCleanDisk}
use Rattle.sqlite_pool.specs.Pool as pool
use Rattle.sqlite_trees.proofs.Doubt.{no_doubt}
use Rattle.store_memory.specs.Disks.{MemoryStore, over_memory}

pub memory_is_clean : (conn : Held MemoryStore) → HasCleanDisk (state over_memory conn)
unfolding pool.state
memory_is_clean conn = no_doubt true refl
