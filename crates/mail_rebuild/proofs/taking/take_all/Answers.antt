use Rattle.std.proofs.Common.{◌≡◌, ◌++◌, ◌∙◌}
use Rattle.std.specs.List.{filter_map}
use Rattle.std.proofs.lemmas.List.Sorted.{IsPermutation-append_comm, IsPermutation-trans}
use Rattle.mail_rebuild.specs.Findings.{odd_in}
use Rattle.mail_rebuild.specs.Merging.{merged, usable_of}
use Rattle.mail_rebuild.specs.OldIndex.{view_of}
use Rattle.mail_rebuild.specs.Taking.{odd_of}
use Rattle.mail_rebuild.proofs.taking.take_all.Goals as goal

pub returns-clause-taken : goal.returns-clause-taken
returns-clause-taken g c files shown named =
    let taken = c.in_ok-take_pairs.ensures.taken files shown named (record { findings = c.in-Ok.ensures.holds; odd = c.new-2.ensures.items }) in
    let found = filter_map (odd_in files) (merged c.args.listing.messages (usable_of (view_of c.args.old))) in
    let all : odd_of c.add_names.new.self ≡ c.args.listing.odd ++ found =
    c.in-Ok-add_names.ensures.added ∙ (λ i. c.into_odd.ensures i ++ taken.odd i) in
    record {
      findings = rw (c.sort.ensures.index ∙ c.in-Ok-add_names.ensures.index) taken.findings;
      all_odd = IsPermutation-trans _ _ _ (IsPermutation-append_comm found c.args.listing.odd) (rw all at c.sort.ensures.same);
      by_bytes = c.sort.ensures.sorted;
    }
