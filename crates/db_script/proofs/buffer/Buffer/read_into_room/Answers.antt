use Rattle.std.proofs.Common.{◌≡◌, ◌∙◌, ℕ, ◌-◌, ◌+◌, ◌≤◌, ◌++◌, List, take, length, ap, arith}
use Rattle.std.proofs.lemmas.List.{with_items_is}
use Rattle.base_devices.specs.declared.disk.Failed.{Failed}
use Rattle.db_script.proofs.HeldLemmas.{read_behind, reads_more, between, length_mid}
use borrow.Rule.Slice.PartMut.{post_of}
use Rattle.db_script.proofs.buffer.Buffer.read_into_room.Goals as goal

pub returns : goal.returns
returns g c =
    let old = c.args.self.now in
    let count = c.in_ok-count.count in
    let into = c.read.new.into in
    let whole : old.end ≤ length old.bytes.items = omega (arith, old.within, old.bytes.ok.0) in
    let room : length into ≡ c.min-room.result = omega arith in
    let few : count ≤ length into = c.in_ok-count.ensures.bound in
    record {
      reads = reads_more {E = Failed} (between old.at old.end old.bytes.items) _ into c.args.most count (g.I.Source.state c.args.input.now) (g.I.Source.state c.read.new.self)
          (ap (between old.at (old.end + count)) (with_items_is old.bytes _ (length_mid old.end (old.end + c.min-room.result - old.end) c.deref_mut.result.now into (omega arith) (omega arith) ∙ c.deref_mut.ensures.len))
          ∙ ap (λ (l : List ℕ). between old.at (old.end + count) (take old.end l ++ (into ++ post_of old.end (old.end + c.min-room.result - old.end) l))) c.deref_mut.ensures.value
          ∙ read_behind old.at old.end count old.bytes.items into _ old.ordered whole few)
          (omega arith) few (omega arith) c.in_ok-count.ensures.bytes c.in_ok-count.ensures.taken c.in_ok-count.ensures.cause;
    }
