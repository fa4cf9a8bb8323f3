-- What is known of a file once it was opened.
use Rattle.std.proofs.Common.{◌≡◌, ◌⊎◌, inl, inr, Result, Ok, Err, ap}
use Rattle.std.specs.Prelude.{IfErr, OnOk}
use Rattle.base_bytes.specs.OrderedMap.{Map, IsDbMap}
use Rattle.base_devices.specs.CrashImages.{DiskState, IsDurable, WhereRead}
use Rattle.base_devices.specs.Frames.{MayLeaveLess}
use Rattle.db_core.specs.Opening.{IsDeviceFault, IsDamage, OpensAs, OpensDisk}
use Rattle.db_core.specs.declared.opening.OpenFault.{OpenFault}
use Rattle.flat_db.specs.Opening.{flat_opens}
use Rattle.flat_db.specs.Sessions.{FlatSession, flat_kind, flat_state, resting}

-- a file that was synced and read, or less
pub opens_disk : {B : Type 0} (old new : DiskState) (result : Result B OpenFault) → MayLeaveLess old new → OnOk result (IsDurable new) → IfErr result (λ fault. IsDamage fault → IsDurable new) → OpensDisk flat_kind old new result
opens_disk {B = B} old new result less durable synced = record {
  each = record { each = λ c n left. let p = less.each.each c n left in (p.0, inl p.1) };
  mark = less.mark;
  publishes = less.publishes;
  settled = λ main is settled. less;
  unopened = by result;
  durable = durable;
  synced = synced;
}
  where
    by : (r : Result B OpenFault) → IfErr r (λ fault. IsDeviceFault fault ⊎ MayLeaveLess old new)
    by (Ok db) = tt
    by (Err fault) = inr less

-- the session over a map that was read
pub opens_as : (old : DiskState) (m : Map) (db : FlatSession) → db ≡ resting m → IsDbMap m → WhereRead old (λ main. flat_opens main m) → OpensAs {B = FlatSession} flat_kind flat_state old (Ok db)
opens_as old m db is sound opens = record {
  rests = record { map = m; load = 0; rests = ap flat_state is; sound = sound };
  opened = λ main reads. let file = opens main reads in record { bytes = file.bytes; there = file.there; map = m; opens = file; rests = ap flat_state is };
  refused = tt;
}
