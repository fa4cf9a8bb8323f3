use Rattle.std.proofs.Common.{◌≡◌, ◌+◌, ◌-◌, [], ◌++◌, List, ℕ, Err, Ok, take, drop, length, ap, sym, ◌∙◌, subst, refl, arith}
use Rattle.std.proofs.lemmas.List.{append-nil, take-append-drop, take_rest, length-drop, take_all}
use Rattle.std.proofs.lemmas.List.Concat.{flat_map-append}
use Rattle.std.proofs.Math.Seq.{take-add}
use Rattle.base_bytes.specs.Escapes.{escaped, escaped_byte}
use Rattle.base_devices.specs.declared.disk.Failed.{Failed}
use Rattle.db_tool.specs.Printing.{Prints, holding}
use Rattle.db_tool.proofs.PrintLemmas.{prints_none, prints_then, prints_held, prints_ended}
use Rattle.db_script.proofs.printing.print_escaped.Goals as goal

escaped_none : escaped [] ≡ []
unfolding escaped
escaped_none = refl

escaped_both : (xs ys : List ℕ) → escaped (xs ++ ys) ≡ escaped xs ++ escaped ys
unfolding escaped
escaped_both xs ys = flat_map-append escaped_byte xs ys

pub loop-at-init : goal.loop-at-init
loop-at-init g c = record {
  within = omega arith;
  prints = subst (λ (l : List ℕ). Prints {T = Unit {0}} {E = Failed} l (holding c.args.output.now (g.H.Disk.state c.args.host.now) (g.H.Host.streams c.args.host.now)) (holding c.args.output.now (g.H.Disk.state c.args.host.now) (g.H.Host.streams c.args.host.now)) (Ok (tt {0}))) (sym escaped_none)
      (prints_none c.args.output.now (g.H.Disk.state c.args.host.now) (g.H.Host.streams c.args.host.now) tt (g.met.H.Disk.is_moment _));
  rest = g.met.H.Host.host_same _;
}

pub returns-in-Err-clause-prints : goal.returns-in-Err-clause-prints
returns-in-Err-clause-prints g c =
    let inv = c.loop-at.invariant in
    let on = g.met.H.Host.host_goes_on in
    let field = c.args.field.now in
    let front = escaped (take c.loop-at.at field) in
    let whole : (front ++ []) ++ escaped (drop c.loop-at.at field) ≡ escaped field =
    ap (λ (l : List ℕ). l ++ escaped (drop c.loop-at.at field)) (append-nil front) ∙ sym (escaped_both (take c.loop-at.at field) (drop c.loop-at.at field)) ∙ ap escaped (take-append-drop c.loop-at.at field) in
    subst (λ (l : List ℕ). Prints {T = Unit {0}} {E = Failed} l (holding c.args.output.now (g.H.Disk.state c.args.host.now) (g.H.Host.streams c.args.host.now)) (holding c.make_room.new.output (g.H.Disk.state c.make_room.new.host) (g.H.Host.streams c.make_room.new.host)) (Err c.in-Err.fault)) whole
    (prints_ended _ _ (front ++ []) (escaped (drop c.loop-at.at field)) c.in-Err.fault
    (prints_then _ _ _ front [] tt (Err c.in-Err.fault) (on _ _ inv.rest) (on _ _ c.make_room.ensures.rest) inv.prints c.in-Err.ensures.prints))

-- one part more of the field
one_more : (field : List ℕ) (at count : ℕ) → escaped (take at field) ++ escaped (take count (take (length field - at) (drop at field))) ≡ escaped (take (at + count) field)
one_more field at count =
    ap (λ (l : List ℕ). escaped (take at field) ++ escaped (take count l)) (take_rest field at)
    ∙ sym (escaped_both (take at field) (take count (drop at field))) ∙ ap escaped (sym (take-add at count field))

pub loop-at-preserved : goal.loop-at-preserved
loop-at-preserved g c =
    let inv = c.loop-at.invariant in
    let on = g.met.H.Host.host_goes_on in
    let field = c.args.field.now in
    let bound = c.add_escaped-at.ensures.bound in
    let front = escaped (take c.loop-at.at field) in
    let added = escaped (take c.add_escaped-at.result (take (length field - c.loop-at.at) (drop c.loop-at.at field))) in
    let whole : (front ++ []) ++ added ≡ escaped (take (c.loop-at.at + c.add_escaped-at.result) field) = ap (λ (l : List ℕ). l ++ added) (append-nil front) ∙ one_more field c.loop-at.at c.add_escaped-at.result in
    record {
      within = omega (arith, bound.1, ap length (take_rest field c.loop-at.at), length-drop c.loop-at.at field);
      prints = subst (λ (l : List ℕ). Prints {T = Unit {0}} {E = Failed} l (holding c.args.output.now (g.H.Disk.state c.args.host.now) (g.H.Host.streams c.args.host.now)) (holding c.add_escaped-at.new.self (g.H.Disk.state c.make_room.new.host) (g.H.Host.streams c.make_room.new.host)) (Ok (tt {0}))) whole
          (prints_held _ _ c.add_escaped-at.new.self (front ++ []) added tt c.add_escaped-at.ensures.added
          (prints_then _ _ _ front [] tt (Ok (tt {0})) (on _ _ inv.rest) (on _ _ c.make_room.ensures.rest) inv.prints c.in_default.ensures.prints));
      rest = g.met.H.Host.host_then _ _ _ inv.rest c.make_room.ensures.rest;
    }

pub returns-clause-prints : goal.returns-clause-prints
returns-clause-prints g c =
    let inv = c.loop-at.invariant in
    subst (λ (l : List ℕ). Prints {T = Unit {0}} {E = Failed} (escaped l) (holding c.args.output.now (g.H.Disk.state c.args.host.now) (g.H.Host.streams c.args.host.now)) (holding c.loop-at.output (g.H.Disk.state c.loop-at.host) (g.H.Host.streams c.loop-at.host)) (Ok (tt {0})))
    (take_all c.loop-at.at c.args.field.now (omega arith)) inv.prints
