-- A host in memory as its traits see it, and when its calls fail.
use Rattle.std.specs.Prelude.{◌≡◌, ◌⊎◌, ℕ, ◌+◌, ◌-◌, ◌<◌, ◌≤◌, ◌^◌, min, Bool, true, false, List, Option, Some, None, Contains, vec_len}
use Rattle.std.proofs.Common.{refl, ◌∙◌}
use Rattle.base_devices.specs.CrashImages.{DiskState}
use Rattle.base_devices.specs.HostCalls.{HostState}
use Rattle.mem_devices.specs.Memory.{mem_state, record_spare, next_call, IsStopped, MemRest, mem_rest_same, mem_rest_then}
use Rattle.mem_devices.specs.declared.memory.MemDisk.{MemDisk}
use Rattle.mem_devices.specs.declared.mem_host.MemHost.{MemHost}

-- the disk in the host
abbrev pub disk_of : MemHost → MemDisk
disk_of h = h.disk

-- what that disk reads, may leave and counts
abbrev pub host_state : MemHost → DiskState
host_state h = mem_state h.disk

-- what was printed to standard error, unless some of it did not fit
abbrev pub warned_whole : Bool → List ℕ → Option (List ℕ)
warned_whole true bytes = None
warned_whole false bytes = Some bytes

-- what was printed
abbrev pub host_streams : MemHost → HostState
host_streams h = record {
  told = Some h.told.items;
  warned = warned_whole h.is_cut h.warned.items;
  tell_faults = h.tell_faults;
}

-- the bytes printed to standard error that the host has room for
abbrev pub warned_kept : MemHost → List ℕ
warned_kept h = h.warned.items

-- the numbers of the prints that are to fail, where the first print has number 1
abbrev pub tell_fail_list : MemHost → List ℕ
tell_fail_list h = h.tell_fails.items

-- the number of the next print
abbrev pub next_print : MemHost → ℕ
next_print h = min (h.prints + 1) (2 ^ 64 - 1)

-- how many bytes each of the two streams has room for in all
abbrev pub stream_room : MemHost → ℕ
stream_room h = h.room

-- how many more bytes can be printed to standard output
abbrev pub stream_spare : MemHost → ℕ
stream_spare h = h.room - vec_len h.told

-- how many more bytes can be kept of what is printed to standard error
abbrev pub warning_spare : MemHost → ℕ
warning_spare h = h.room - vec_len h.warned

-- the next print is to fail by the list, the disk's stop is met, or there is no room in the record or for its bytes
abbrev pub CannotPrint : MemHost → ℕ → Type 0
CannotPrint h count =
    Contains (tell_fail_list h) (next_print h)
    ⊎ IsStopped h.disk 0
    ⊎ (record_spare h.disk < 64)
    ⊎ (stream_spare h < count)

-- a print has its number, and takes 64 bytes of the record where record and stream have room, and none otherwise
pub record CountsPrint (old new : MemHost) (count : ℕ) : Type 0 where
  pub next : next_print new ≡ min (next_print old + 1) (2 ^ 64 - 1)
  pub calls : next_call (disk_of new) ≡ next_call (disk_of old)
  pub covered : 64 ≤ record_spare (disk_of old) → count ≤ stream_spare old
      → record_spare (disk_of new) + 64 ≡ record_spare (disk_of old)
  pub lacking : (record_spare (disk_of old) < 64) ⊎ (stream_spare old < count)
      → record_spare (disk_of new) ≡ record_spare (disk_of old)

-- what every step keeps of a host in memory
pub record HostRest (old new : MemHost) : Type 0 where
  pub disk : MemRest (disk_of old) (disk_of new)
  pub fails : tell_fail_list new ≡ tell_fail_list old
  pub room : stream_room new ≡ stream_room old

-- what a call of its disk keeps besides
pub record HostDiskRest (old new : MemHost) : Type 0 where
  pub host : HostRest old new
  pub streams : host_streams new ≡ host_streams old
  pub warned : warned_kept new ≡ warned_kept old
  pub prints : next_print new ≡ next_print old

-- what steps keep of a host passes on from step to step
pub host_rest_same : (h : MemHost) → HostRest h h
host_rest_same h = record { disk = mem_rest_same h.disk; fails = refl; room = refl }

pub host_rest_then : (a b c : MemHost) → HostRest a b → HostRest b c → HostRest a c
host_rest_then a b c ab bc = record {
  disk = mem_rest_then a.disk b.disk c.disk ab.disk bc.disk;
  fails = bc.fails ∙ ab.fails;
  room = bc.room ∙ ab.room;
}

pub host_disk_same : (h : MemHost) → HostDiskRest h h
host_disk_same h = record { host = host_rest_same h; streams = refl; warned = refl; prints = refl }

pub host_disk_then : (a b c : MemHost) → HostDiskRest a b → HostDiskRest b c → HostDiskRest a c
host_disk_then a b c ab bc = record {
  host = host_rest_then a b c ab.host bc.host;
  streams = bc.streams ∙ ab.streams;
  warned = bc.warned ∙ ab.warned;
  prints = bc.prints ∙ ab.prints;
}
