use Rattle.std.proofs.Common.{◌∙◌, arith, rules}
use Rattle.std.proofs.lemmas.Grind.{common_steps}
use Rattle.mail_scan.proofs.ListingLemmas.{gives_one, gave_all, gave_too_many}
use Rattle.mail_scan.proofs.listing.gather.Goals as goal

pub returns-in-Ok-None-clause-names : goal.returns-in-Ok-None-clause-names
returns-in-Ok-None-clause-names g c folder is =
    let had = c.loop-name.invariant.told folder is in
    gave_all folder c.loop-name.given 1048576 c.loop-name.listing (g.S.Spool.state c.loop-name.spool) (g.S.Spool.state c.next_name.new.self).folder had c.loop-name.invariant.few (rw c.in-Ok-None.field-0-is at c.in-Ok-None.ensures.name)

pub returns-in-Ok-None-clause-files : goal.returns-in-Ok-None-clause-files
returns-in-Ok-None-clause-files g c = c.next_name.ensures.files ∙ c.loop-name.invariant.files

pub returns-in-Ok-Some-clause-too_many : goal.returns-in-Ok-Some-clause-too_many
returns-in-Ok-Some-clause-too_many g c _ folder is =
    let had = c.loop-name.invariant.told folder is in
    gave_too_many folder c.loop-name.given 1048576 c.loop-name.listing c.in-Ok-Some.field-0-0 (g.S.Spool.state c.loop-name.spool) (g.S.Spool.state c.next_name.new.self) had c.if-given-eq-FILES_LIMIT.true (rw c.in-Ok-Some.field-0-is at c.in-Ok-Some.ensures.name)

pub returns-in-Ok-Some-clause-files : goal.returns-in-Ok-Some-clause-files
returns-in-Ok-Some-clause-files g c = c.next_name.ensures.files ∙ c.loop-name.invariant.files

pub returns-in_err-add-in-Ok-Some-2-clause-files : goal.returns-in_err-add-in-Ok-Some-2-clause-files
returns-in_err-add-in-Ok-Some-2-clause-files g c = c.next_name.ensures.files ∙ c.loop-name.invariant.files

pub loop-name-preserved : goal.loop-name-preserved
loop-name-preserved g c = record {
  few = omega arith;
  told = λ folder is.
      let had = c.loop-name.invariant.told folder is in
      gives_one folder c.loop-name.given c.loop-name.listing c.add.new.self c.in-Ok-Some.field-0-0 (g.S.Spool.state c.loop-name.spool) (g.S.Spool.state c.next_name.new.self) had (rw c.in-Ok-Some.field-0-is at c.in-Ok-Some.ensures.name) c.in_ok-add-in-Ok-Some-2.ensures.added;
  faults = search (rules, common_steps);
  files = c.next_name.ensures.files ∙ c.loop-name.invariant.files;
  rest = g.met.S.Spool.rest_then _ _ _ c.loop-name.invariant.rest c.next_name.ensures.rest;
}
