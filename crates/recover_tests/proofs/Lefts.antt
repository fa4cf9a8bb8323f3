-- What a disk reads and may leave, as a repair needs it.
use Rattle.std.proofs.Common.{◌≡◌, ℕ, ◌%◌, ◌≤◌, List, take, Some, refl, sym, ap, subst, ◌∙◌, inl, arith}
use Rattle.base_bytes.specs.OrderedMap.{Map}
use Rattle.base_devices.specs.CrashImages.{Image, DiskState, Reads, IsMoment, GoesOn, IsDurable, LeavesOnly}
use Rattle.skip_form.specs.declared.header.Header.{Header}
use Rattle.skip_form.specs.Spelling.{IsHeader, header_bytes}
use Rattle.skip_spec.specs.Opens.{Opens}
use Rattle.skip_lists.specs.Tie.{OnBytes, TiedToBase, Recoverable, LeavesMap}
use Rattle.skip_image.specs.Image.{HasHeader}
use Rattle.mem_devices.specs.Memory.{mem_state, now_of}
use Rattle.mem_devices.specs.History.{Moment, IsImage}
use Rattle.mem_devices.specs.declared.memory.MemDisk.{MemDisk}
use Rattle.recover_tests.specs.Left.{HasMap, LeavesMapNow}

-- what is read is the file that has the map
same_file : (s : DiskState) (b c : List ℕ) → Reads s b → Reads s c → b ≡ c
same_file s b c one two = let e : Some (Some b) ≡ Some (Some c) = sym one ∙ two in cc

module _ (m : Map) (s : DiskState) (h : HasMap m s) (b : List ℕ) (reads : Reads s b) where
  pub opens_here : Opens b m
  opens_here = subst (λ (x : List ℕ). Opens x m) (same_file s h.file b h.reads reads) h.opens

  pub header_there : HasHeader b
  header_there = (opens_here.says.header, opens_here.reads.fields, opens_here.reads.header)

  -- where the header that is read has DIRTY
  pub recoverable : (header : Header) → ((k : Header) → IsHeader k → take 64 b ≡ header_bytes k → header ≡ k) → header.flags % 2 ≡ 1 → Recoverable b s
  recoverable header only dirty =
      let o = opens_here in
      let same = only o.says.header o.reads.fields o.reads.header in
      let odd : o.says.header.flags % 2 ≡ 1 = sym (ap (λ (k : Header). k.flags % 2) same) ∙ dirty in (
        b,
        o.says,
        record {
          committed = o.reads;
          sound = o.sound;
          own = (inl refl, (o.says.header, o.reads.fields, o.reads.header, odd));
          reads = λ shows. reads;
          left = λ c left. (b, (let e : Some c ≡ Some (Some b) = sym (h.durable.only c left) ∙ reads in cc), (inl refl, (o.says.header, o.reads.fields, o.reads.header, odd)));
        },
      )

-- before any call
pub leaves_now : (m : Map) (s : DiskState) → HasMap m s → LeavesMapNow m s
leaves_now m s h c left = (h.file, (let e : Some c ≡ Some (Some h.file) = sym (h.durable.only c left) ∙ h.reads in cc), h.opens)

-- after calls of which only the map is left
pub leaves_after : (m : Map) (x y : DiskState) → GoesOn x y → IsMoment y → LeavesMap m x y → LeavesMapNow m y
leaves_after m x y on moment leaves c left =
    (leaves.each c y.mark (moment.earlier x.clock y.clock c y.mark on.later (omega arith) (moment.counts_now c left))).1

-- a stop that is set changes nothing of what is read and left
pub stop_kept : (m : Map) (old new : MemDisk) → now_of new ≡ now_of old → HasMap m (mem_state old) → HasMap m (mem_state new)
stop_kept m old new same h =
    let reads : Reads (mem_state new) h.file = ap (λ (n : Moment). Some n.reads) same ∙ h.reads in
    record {
      file = h.file;
      reads = reads;
      opens = h.opens;
      durable = record { only = λ c left. ap (λ (n : Moment). Some n.reads) same ∙ h.durable.only c (subst (λ (n : Moment). IsImage n c) same left) };
    }

-- the file that a stop left, read again
pub left_opens : (m : Map) (left : Image) (d : DiskState) (b : List ℕ) → d.reads ≡ Some left → Reads d b → OnBytes (λ file. Opens file m) left → Opens b m
left_opens m left d b is reads o = subst (λ (x : List ℕ). Opens x m) (let e : Some (Some o.0) ≡ Some (Some b) = ap (λ (i : Image). Some i) (sym o.1) ∙ sym is ∙ reads in cc) o.2
