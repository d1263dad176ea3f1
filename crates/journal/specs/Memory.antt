-- The file of a store, or of a source, that has it in memory.
-- Assumes nothing.
use Rattle.std.specs.Prelude.{ℕ, ◌-◌, List, take, vec_items, vec_len, vec_capacity}
use Rattle.journal.specs.declared.source.memory.MemorySource.{MemorySource}
use Rattle.journal.specs.declared.store.memory.MemoryStore.{MemoryStore}
use Rattle.journal.specs.Stores.{Disk}

-- what it holds, and what of it is synced
abbrev pub disk_of : MemoryStore → Disk
disk_of s = record { appended = vec_items s.bytes; synced = take s.synced (vec_items s.bytes) }

-- how many bytes more it has room for
abbrev pub room_of : MemoryStore → ℕ
room_of s = vec_capacity s.bytes - vec_len s.bytes

-- what was read of it
abbrev pub read_of : MemorySource → List ℕ
read_of s = take s.at s.bytes.now
