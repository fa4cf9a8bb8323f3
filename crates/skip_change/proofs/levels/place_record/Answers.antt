use Rattle.std.proofs.Common.{◌≡◌, ◌↔◌, ℕ, ◌≤◌, ◌++◌, List, length, sym, ap, subst, ◌∙◌, arith}
use Rattle.base_bytes.specs.Fields.{AreBytes}
use Rattle.base_devices.specs.CrashImages.{DiskState}
use Rattle.skip_form.specs.declared.head.Kind.TheVariants.{Dummy}
use Rattle.skip_form.specs.Flaws.{head_in}
use Rattle.skip_form.specs.Spelling.{Record, IsRecord, record_bytes}
use Rattle.skip_spec.specs.Appending.{record_of}
use Rattle.skip_spec.specs.Near.{free_slot_of}
use Rattle.skip_spec.specs.Opens.{Contents, Tidy}
use Rattle.skip_lists.specs.Heads.{HasSlots, SetsPointer, MaySet}
use Rattle.skip_lists.specs.Tie.{TiedToBase}
use Rattle.skip_lists.proofs.Appended.{slots_grown, may_place, sets_old, spelled_c}
use Rattle.skip_lists.proofs.Ties.{image_of}
use Rattle.skip_image.proofs.HeadWrites.{not_ahead, reads_all, reads_more, more_ahead}
use Rattle.skip_change.specs.Changing.{Places, IsKnown}
use Rattle.skip_change.proofs.levels.place_record.Goals as goal

pub set_pointer-requires-clause-there : goal.set_pointer-requires-clause-there
set_pointer-requires-clause-there g c =
    subst (λ (d : List ℕ). HasSlots d c.args.at) (sym c.write_record.ensures.bytes) (slots_grown c.args.image.now.bytes (record_bytes (record_of c.args.kind c.args.level c.args.pointers.now c.args.key.now c.args.value.now)) c.args.at c.requires.there)

pub set_pointer-requires-clause-slot : goal.set_pointer-requires-clause-slot
set_pointer-requires-clause-slot g c =
    let r = record_of c.args.kind c.args.level c.args.pointers.now c.args.key.now c.args.value.now in
    let same = ap (λ (d : List ℕ). (head_in d c.args.at).level) c.write_record.ensures.bytes in
    let there = slots_grown c.args.image.now.bytes (record_bytes r) c.args.at c.requires.there in
    omega (arith, same, there.low, c.free_slot-slot.ensures.range)

pub returns-in_err-write_record-clause-length : goal.returns-in_err-write_record-clause-length
returns-in_err-write_record-clause-length g c = c.write_record.ensures.length

pub returns-clause-length : goal.returns-clause-length
returns-clause-length g c = c.set_pointer.ensures.size ∙ c.write_record.ensures.length

-- the free slot is that of the old bytes, whose head stays
may : (base b mid added : List ℕ) (says : Contents) (d : DiskState) (committed at slot end : ℕ) → TiedToBase base says b d → Tidy base says → IsKnown says committed at → mid ≡ b ++ added → HasSlots b at → slot ≡ free_slot_of b committed at → end ≡ length b → MaySet base says mid at slot end
may base b mid added says d committed at slot end t tidy known is_mid there is_slot is_end =
    let i = image_of base b says d t in
    let lead = may_place base b mid added says at end t.committed tidy i there is_mid (λ lt. known.head (omega (arith, lt, known.end))) (omega (arith, is_end, i.long)) in
    subst (λ (k : ℕ). MaySet base says mid at k end) (ap (λ (n : ℕ). free_slot_of b n at) known.end ∙ sym is_slot) lead

pub returns-in_err-write_record-clause-moments : goal.returns-in_err-write_record-clause-moments
returns-in_err-write_record-clause-moments g c = λ base says t tidy known. c.write_record.ensures.moments base says t

pub returns-clause-moments : goal.returns-clause-moments
returns-clause-moments g c = λ base says t tidy known. c.write_record.ensures.moments base says t

pub returns-clause-tied : goal.returns-clause-tied
returns-clause-tied g c = λ base says t tidy known.
    let r = record_of c.args.kind c.args.level c.args.pointers.now c.args.key.now c.args.value.now in
    let may-2 = may base c.args.image.now.bytes c.write_record.new.image.bytes (record_bytes r) says _ c.args.committed c.args.at c.free_slot-slot.result c.length-end.result t tidy known c.write_record.ensures.bytes c.requires.there c.free_slot-slot.ensures.exact c.length-end.ensures.size in
    let mid = c.write_record.new.image.bytes in
    let there = subst (λ (d : List ℕ). HasSlots d c.args.at) (sym c.write_record.ensures.bytes) (slots_grown c.args.image.now.bytes (record_bytes r) c.args.at c.requires.there) in
    let ahead = not_ahead base mid says c.args.at _ (c.in_ok-write_record.ensures.tied base says t) may-2.known in
    more_ahead mid c.set_pointer.new.self.bytes c.args.at c.free_slot-slot.result c.length-end.result there may-2.inside c.set_pointer.ensures.sets c.set_pointer.ensures.size base says _ ahead may-2

pub returns-clause-reads : goal.returns-clause-reads
returns-clause-reads g c = λ shows.
    let r = record_of c.args.kind c.args.level c.args.pointers.now c.args.key.now c.args.value.now in
    let mid = c.write_record.new.image.bytes in
    let grown = slots_grown c.args.image.now.bytes (record_bytes r) c.args.at c.requires.there in
    let there = subst (λ (d : List ℕ). HasSlots d c.args.at) (sym c.write_record.ensures.bytes) grown in
    let fits : c.free_slot-slot.result ≤ (head_in mid c.args.at).level = omega (arith, there.low, c.free_slot-slot.ensures.range) in
    reads_more mid c.set_pointer.new.self.bytes c.args.at c.free_slot-slot.result c.length-end.result there fits c.set_pointer.ensures.sets c.set_pointer.ensures.size (g.D.Disk.state c.write_record.new.disk) (reads_all mid c.args.at (g.D.Disk.state c.write_record.new.disk) (c.in_ok-write_record.ensures.reads shows))

placed : (b mid new : List ℕ) (r : Record) (committed at slot end : ℕ) → mid ≡ b ++ record_bytes r → SetsPointer mid new at slot end → length new ≡ length mid → HasSlots b at → slot ≤ 1 → IsRecord r → AreBytes (record_bytes r) → (r.kind ≡ Dummy → ⊥) → 336 ≤ length b → slot ≡ free_slot_of b committed at → end ≡ length b → Places committed at r b new
placed b mid new r committed at slot end e sets long there small fits bytes no_dummy past is_slot is_end =
    let place : (r.kind ≡ Dummy) ↔ (length b ≡ 64) = (λ d. absurd (no_dummy d), λ d. absurd (omega (arith, d, past))) in
    let low : slot ≤ (head_in b at).level = omega (arith, small, there.low) in
    record {
      sets = subst (λ (k : ℕ). SetsPointer b new at k (length b)) is_slot (subst (λ (n : ℕ). SetsPointer b new at slot n) is_end (sets_old b mid new r at slot end e sets long there low fits bytes place));
      spelled = spelled_c b mid new r at slot end e sets long there low fits bytes place;
    }

pub returns-clause-placed : goal.returns-clause-placed
returns-clause-placed g c =
    placed c.args.image.now.bytes c.write_record.new.image.bytes c.set_pointer.new.self.bytes (record_of c.args.kind c.args.level c.args.pointers.now c.args.key.now c.args.value.now) c.args.committed c.args.at c.free_slot-slot.result c.length-end.result c.write_record.ensures.bytes c.set_pointer.ensures.sets c.set_pointer.ensures.size c.requires.there c.free_slot-slot.ensures.range c.write_record.ensures.form c.write_record.ensures.fits c.requires.kind c.requires.past c.free_slot-slot.ensures.exact c.length-end.ensures.size

pub returns-in_err-write_record-clause-long : goal.returns-in_err-write_record-clause-long
returns-in_err-write_record-clause-long g c = λ most le. c.write_record.ensures.long most le

pub returns-clause-long : goal.returns-clause-long
returns-clause-long g c = λ most le. c.write_record.ensures.long most (omega (arith, le, c.set_pointer.ensures.size))
