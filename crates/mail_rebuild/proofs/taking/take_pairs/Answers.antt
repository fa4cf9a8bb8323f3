use Rattle.std.proofs.Common.{refl, ap, ◌∙◌, ◌≡◌, length, arith, rules}
use Rattle.mail_rebuild.specs.Merging.{merged, pairs_left, usable_of}
use Rattle.mail_rebuild.specs.OldIndex.{view_of}
use Rattle.mail_rebuild.proofs.MergeLemmas.{names_merged}
use Rattle.mail_rebuild.proofs.TakingLemmas.{begins_to_take, few_old, length-merged, takes_one, took_all}
use Rattle.mail_rebuild.proofs.taking.take_pairs.Goals as goal

pub loop-pair-init : goal.loop-pair-init
loop-pair-init g c =
    let names = c.args.listing.now.messages in
    let usable = usable_of (view_of c.args.old) in
    let all : pairs_left c.new-merge.result ≡ merged names usable = c.new-merge.ensures.value ∙ ap (λ v. merged names (usable_of v)) c.view.ensures.view in
    let few = length-merged names usable in
    let least = few_old c.args.old c.requires.short in
    let count = ap length all in
    record {
      records = omega (arith, few, least, count, c.requires.few, c.requires.counts.0);
      dropped = omega (arith, few, least, count, c.requires.few, c.requires.counts.1);
      taken = λ files shown named none. rw all (begins_to_take files (merged names usable) names c.args.made.now (names_merged names usable) named none);
      modseq = refl;
      time = refl;
      folder = refl;
      faults = refl;
      rest = g.met.S.Spool.rest_same c.args.spool.now;
    }

pub loop-pair-preserved : goal.loop-pair-preserved
loop-pair-preserved g c =
    let inv = c.loop-pair.invariant in
    let step = c.in-Some.ensures.steps in
    let shorter = ap length step in
    let counted = c.in_ok-take.ensures.counted in
    record {
      records = omega (arith, inv.records, shorter, counted.records);
      dropped = omega (arith, inv.dropped, shorter, counted.dropped);
      taken = λ files shown named none. takes_one files _ _ _ _ c.loop-pair.made c.take.new.self (inv.taken files shown named none) step
          (λ has. c.in_ok-take.ensures.taken files (search rules) has);
      modseq = counted.modseq ∙ inv.modseq;
      time = counted.time ∙ inv.time;
      folder = c.take.ensures.folder ∙ inv.folder;
      faults = search rules;
      rest = g.met.S.Spool.rest_then _ _ _ inv.rest c.take.ensures.rest;
    }

pub returns-clause-taken : goal.returns-clause-taken
returns-clause-taken g c files shown named none =
    took_all files _ _ c.loop-pair.made (c.loop-pair.invariant.taken files shown named none) c.in_default.ensures.steps.0
