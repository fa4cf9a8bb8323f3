use Rattle.std.proofs.Common.{◌∷◌, ◌++◌, [], ℕ, List, Ok, Err, length, sym, ◌∙◌, ap, subst, arith}
use Rattle.base_bytes.specs.OrderedMap.{Map, with_prefix, pairs_from}
use Rattle.base_devices.specs.declared.disk.Failed.{Failed}
use Rattle.db_tool.specs.Printing.{Prints, holding}
use Rattle.db_script.specs.Replies.{pair_reply, pair_replies}
use Rattle.db_script.proofs.ReplyLemmas.{replies_more, replies_whole}
use Rattle.db_tool.proofs.PrintLemmas.{prints_none, prints_then, prints_ended}
use Rattle.db_tool.proofs.PrefixLemmas.{Walked, walked_none, walked_more, walked_over, walked_ends, none_left, fewer_from}
use Rattle.db_script.proofs.replying.print_pairs.Goals as goal

pub loop-init : goal.loop-init
loop-init g c =
    let seen = (g.B.Db.state c.args.db.now).seen in
    record {
      done = [];
      left = pairs_from seen c.args.prefix.now;
      at = c.walk_from-cursor.ensures;
      walked = walked_none c.args.prefix.now seen c.count-end.ensures.seen.ordered;
      few = omega (arith, fewer_from seen c.args.prefix.now);
      prints = prints_none c.args.output.now (g.H.Disk.state c.args.host.now) (g.H.Host.streams c.args.host.now) tt (g.met.H.Disk.is_moment _);
      rest = g.met.H.Host.host_same _;
    }

pub loop-preserved : goal.loop-preserved
loop-preserved g c =
    let inv = c.loop.invariant in
    let on = g.met.H.Host.host_goes_on in
    let prefix = c.args.prefix.now in
    let seen = (g.B.Db.state c.args.db.now).seen in
    let p : List ℕ × List ℕ = (c.in-Some.step.pair.key.now, c.in-Some.step.pair.value.now) in
    let at = c.in-Some.ensures inv.left inv.at in
    let has = sym c.starts_with.ensures.value ∙ c.if-not-starts_with.false in
    record {
      done = inv.done ++ (p ∷ []);
      left = at.0;
      at = at.2;
      walked = walked_more prefix seen inv.done p at.0 has (subst (λ (l : Map). Walked prefix seen inv.done l) at.1 inv.walked);
      few = omega (arith, inv.few, ap length at.1);
      prints = subst (λ (l : List ℕ). Prints {T = Unit {0}} {E = Failed} l (holding c.args.output.now (g.H.Disk.state c.args.host.now) (g.H.Host.streams c.args.host.now)) (holding c.print_pair.new.output (g.H.Disk.state c.print_pair.new.host) (g.H.Host.streams c.print_pair.new.host)) (Ok (tt {0})))
          (sym (replies_more inv.done p))
          (prints_then _ _ _ (pair_replies inv.done) (pair_reply p) tt (Ok (tt {0})) (on _ _ inv.rest) (on _ _ c.print_pair.ensures.rest) inv.prints c.in_default-print_pair.ensures.prints);
      rest = g.met.H.Host.host_then _ _ _ inv.rest c.print_pair.ensures.rest;
    }

pub returns-in-Err-clause-prints : goal.returns-in-Err-clause-prints
returns-in-Err-clause-prints g c =
    let inv = c.loop.invariant in
    let on = g.met.H.Host.host_goes_on in
    let prefix = c.args.prefix.now in
    let seen = (g.B.Db.state c.args.db.now).seen in
    let p : List ℕ × List ℕ = (c.in-Some.step.pair.key.now, c.in-Some.step.pair.value.now) in
    let at = c.in-Some.ensures inv.left inv.at in
    let has = sym c.starts_with.ensures.value ∙ c.if-not-starts_with.false in
    subst (λ (l : List ℕ). Prints {T = Unit {0}} {E = Failed} l (holding c.args.output.now (g.H.Disk.state c.args.host.now) (g.H.Host.streams c.args.host.now)) (holding c.print_pair.new.output (g.H.Disk.state c.print_pair.new.host) (g.H.Host.streams c.print_pair.new.host)) (Err c.in-Err.fault))
    (replies_whole prefix seen inv.done p at.0 (subst (λ (l : Map). Walked prefix seen inv.done l) at.1 inv.walked) has)
    (prints_ended _ _ (pair_replies inv.done ++ pair_reply p) (pair_replies (with_prefix at.0 prefix)) c.in-Err.fault
    (prints_then _ _ _ (pair_replies inv.done) (pair_reply p) tt (Err c.in-Err.fault) (on _ _ inv.rest) (on _ _ c.print_pair.ensures.rest) inv.prints c.in-Err.ensures.prints))

pub returns-in_default-clause-prints : goal.returns-in_default-clause-prints
returns-in_default-clause-prints g c =
    let inv = c.loop.invariant in
    let seen = (g.B.Db.state c.args.db.now).seen in
    subst (λ (l : Map). Prints {T = Unit {0}} {E = Failed} (pair_replies l) (holding c.args.output.now (g.H.Disk.state c.args.host.now) (g.H.Host.streams c.args.host.now)) (holding c.loop.output (g.H.Disk.state c.loop.host) (g.H.Host.streams c.loop.host)) (Ok (tt {0})))
    (sym (walked_over c.args.prefix.now seen inv.done inv.left (c.in_default.ensures inv.left inv.at) inv.walked)) inv.prints

pub returns-then-not-starts_with-clause-prints : goal.returns-then-not-starts_with-clause-prints
returns-then-not-starts_with-clause-prints g c =
    let inv = c.loop.invariant in
    let prefix = c.args.prefix.now in
    let seen = (g.B.Db.state c.args.db.now).seen in
    let p : List ℕ × List ℕ = (c.in-Some.step.pair.key.now, c.in-Some.step.pair.value.now) in
    let at = c.in-Some.ensures inv.left inv.at in
    subst (λ (l : Map). Prints {T = Unit {0}} {E = Failed} (pair_replies l) (holding c.args.output.now (g.H.Disk.state c.args.host.now) (g.H.Host.streams c.args.host.now)) (holding c.loop.output (g.H.Disk.state c.loop.host) (g.H.Host.streams c.loop.host)) (Ok (tt {0})))
    (sym (walked_ends prefix seen inv.done p at.0 (sym c.starts_with.ensures.value ∙ c.if-not-starts_with.true) (subst (λ (l : Map). Walked prefix seen inv.done l) at.1 inv.walked))) inv.prints

pub returns-after-loop-clause-prints : goal.returns-after-loop-clause-prints
returns-after-loop-clause-prints g c =
    let inv = c.loop.invariant in
    let seen = (g.B.Db.state c.args.db.now).seen in
    subst (λ (l : Map). Prints {T = Unit {0}} {E = Failed} (pair_replies l) (holding c.args.output.now (g.H.Disk.state c.args.host.now) (g.H.Host.streams c.args.host.now)) (holding c.loop.output (g.H.Disk.state c.loop.host) (g.H.Host.streams c.loop.host)) (Ok (tt {0})))
    (sym (walked_over c.args.prefix.now seen inv.done inv.left (none_left inv.left (omega (arith, inv.few, c.count-end.ensures.count))) inv.walked)) inv.prints
