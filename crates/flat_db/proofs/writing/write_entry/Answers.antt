use Rattle.std.proofs.Common.{◌≡◌, List, [], ℕ, refl, subst}
use Rattle.flat_db.specs.Entries.{part_of}
use Rattle.flat_db.specs.FlatText.{pair_line}
use Rattle.flat_db.specs.Writing.{AddsBytes, Gathers, filling}
use Rattle.flat_db.proofs.Adding.{adds_none, adds_more}
use Rattle.flat_db.proofs.writing.write_entry.Goals as goal

-- the line of two parts that are those of the entry
same_line : (P : List ℕ → Type 0) (a b key value : List ℕ) → a ≡ key → b ≡ value → P (pair_line a b) → P (pair_line key value)
same_line P a b key value is_key is_value line = subst (λ (v : List ℕ). P (pair_line key v)) is_value (subst (λ (k : List ℕ). P (pair_line k b)) is_key line)

pub returns-then-gather_line-clause-adds : goal.returns-then-gather_line-clause-adds
returns-then-gather_line-clause-adds g c =
    let line = pair_line (part_of c.args.bytes.now c.args.entry.key) (part_of c.args.bytes.now c.args.entry.value) in
    adds_more (g.D.Disk.state c.args.disk.now) (g.D.Disk.state c.args.disk.now) c.args.piece.now c.args.piece.now c.gather_line.new.piece [] line
    (adds_none (g.D.Disk.state c.args.disk.now) c.args.piece.now (g.met.D.Disk.is_moment _)) (c.gather_line.ensures.gathered c.if-gather_line.true)

pub returns-then-gather_line-clause-gathers : goal.returns-then-gather_line-clause-gathers
returns-then-gather_line-clause-gathers g c = record { all = λ fits. (refl, c.gather_line.ensures.gathered c.if-gather_line.true, refl) }

pub returns-clause-adds : goal.returns-clause-adds
returns-clause-adds g c =
    let piece : c.gather_line.new.piece ≡ c.args.piece.now = c.gather_line.ensures.none c.if-gather_line.false in
    subst (λ (held : List ℕ). AddsBytes (pair_line (part_of c.args.bytes.now c.args.entry.key) (part_of c.args.bytes.now c.args.entry.value)) (filling (g.D.Disk.state c.args.disk.now) held) (filling (g.D.Disk.state c.write_line.new.disk) c.write_line.new.piece) c.write_line.result) piece
    (same_line (λ (l : List ℕ). AddsBytes l (filling (g.D.Disk.state c.args.disk.now) c.gather_line.new.piece) (filling (g.D.Disk.state c.write_line.new.disk) c.write_line.new.piece) c.write_line.result) _ _ _ _ c.part.ensures c.part-2.ensures c.write_line.ensures.adds)

pub returns-clause-gathers : goal.returns-clause-gathers
returns-clause-gathers g c =
    let piece : c.gather_line.new.piece ≡ c.args.piece.now = c.gather_line.ensures.none c.if-gather_line.false in
    subst (λ (held : List ℕ). Gathers (pair_line (part_of c.args.bytes.now c.args.entry.key) (part_of c.args.bytes.now c.args.entry.value)) (c.args.disk.now, held) (c.write_line.new.disk, c.write_line.new.piece) c.write_line.result) piece
    (same_line (λ (l : List ℕ). Gathers l (c.args.disk.now, c.gather_line.new.piece) (c.write_line.new.disk, c.write_line.new.piece) c.write_line.result) _ _ _ _ c.part.ensures c.part-2.ensures c.write_line.ensures.gathers)
