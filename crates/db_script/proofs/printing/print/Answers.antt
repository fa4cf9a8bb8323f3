use Rattle.std.proofs.Common.{◌≡◌, ◌+◌, ◌-◌, [], ◌++◌, List, ℕ, Err, Ok, take, drop, length, ap, sym, ◌∙◌, subst, arith}
use Rattle.std.proofs.lemmas.List.{append-nil, take-append-drop, take_rest, length-drop, take_all}
use Rattle.std.proofs.Math.Seq.{take-add}
use Rattle.base_devices.specs.declared.disk.Failed.{Failed}
use Rattle.db_tool.specs.Printing.{Prints, holding}
use Rattle.db_tool.proofs.PrintLemmas.{prints_none, prints_then, prints_held, prints_ended}
use Rattle.db_script.proofs.printing.print.Goals as goal

pub loop-at-init : goal.loop-at-init
loop-at-init g c = record {
  within = omega arith;
  prints = prints_none c.args.output.now (g.H.Disk.state c.args.host.now) (g.H.Host.streams c.args.host.now) tt (g.met.H.Disk.is_moment _);
  rest = g.met.H.Host.host_same _;
}

pub returns-in-Err-clause-prints : goal.returns-in-Err-clause-prints
returns-in-Err-clause-prints g c =
    let inv = c.loop-at.invariant in
    let on = g.met.H.Host.host_goes_on in
    let bytes = c.args.bytes.now in
    let whole : (take c.loop-at.at bytes ++ []) ++ drop c.loop-at.at bytes ≡ bytes = ap (λ (l : List ℕ). l ++ drop c.loop-at.at bytes) (append-nil (take c.loop-at.at bytes)) ∙ take-append-drop c.loop-at.at bytes in
    subst (λ (l : List ℕ). Prints {E = Failed} l (holding c.args.output.now (g.H.Disk.state c.args.host.now) (g.H.Host.streams c.args.host.now)) (holding c.make_room.new.output (g.H.Disk.state c.make_room.new.host) (g.H.Host.streams c.make_room.new.host)) (Err c.in-Err.fault)) whole
    (prints_ended _ _ (take c.loop-at.at bytes ++ []) (drop c.loop-at.at bytes) c.in-Err.fault
    (prints_then _ _ _ (take c.loop-at.at bytes) [] tt (Err c.in-Err.fault) (on _ _ inv.rest) (on _ _ c.make_room.ensures.rest) inv.prints c.in-Err.ensures.prints))

-- one part more of the bytes
one_more : (bytes : List ℕ) (at count : ℕ) → take at bytes ++ take count (take (length bytes - at) (drop at bytes)) ≡ take (at + count) bytes
one_more bytes at count = ap (λ (l : List ℕ). take at bytes ++ take count l) (take_rest bytes at) ∙ sym (take-add at count bytes)

pub loop-at-preserved : goal.loop-at-preserved
loop-at-preserved g c =
    let inv = c.loop-at.invariant in
    let on = g.met.H.Host.host_goes_on in
    let bytes = c.args.bytes.now in
    let bound = c.add-at.ensures.bound in
    let rest = take (length bytes - c.loop-at.at) (drop c.loop-at.at bytes) in
    let added = take c.add-at.result rest in
    let whole : (take c.loop-at.at bytes ++ []) ++ added ≡ take (c.loop-at.at + c.add-at.result) bytes = ap (λ (l : List ℕ). l ++ added) (append-nil (take c.loop-at.at bytes)) ∙ one_more bytes c.loop-at.at c.add-at.result in
    record {
      within = omega (arith, bound.1, ap length (take_rest bytes c.loop-at.at), length-drop c.loop-at.at bytes);
      prints = subst (λ (l : List ℕ). Prints {E = Failed} l (holding c.args.output.now (g.H.Disk.state c.args.host.now) (g.H.Host.streams c.args.host.now)) (holding c.add-at.new.self (g.H.Disk.state c.make_room.new.host) (g.H.Host.streams c.make_room.new.host)) (Ok (tt {0}))) whole
          (prints_held _ _ c.add-at.new.self (take c.loop-at.at bytes ++ []) added tt c.add-at.ensures.added
          (prints_then _ _ _ (take c.loop-at.at bytes) [] tt (Ok (tt {0})) (on _ _ inv.rest) (on _ _ c.make_room.ensures.rest) inv.prints c.in_default.ensures.prints));
      rest = g.met.H.Host.host_then _ _ _ inv.rest c.make_room.ensures.rest;
    }

pub returns-clause-prints : goal.returns-clause-prints
returns-clause-prints g c =
    let inv = c.loop-at.invariant in
    subst (λ (l : List ℕ). Prints {E = Failed} l (holding c.args.output.now (g.H.Disk.state c.args.host.now) (g.H.Host.streams c.args.host.now)) (holding c.loop-at.output (g.H.Disk.state c.loop-at.host) (g.H.Host.streams c.loop-at.host)) (Ok (tt {0})))
    (take_all c.loop-at.at c.args.bytes.now (omega arith)) inv.prints
