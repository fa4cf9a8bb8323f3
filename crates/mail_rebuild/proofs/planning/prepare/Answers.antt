use Rattle.std.proofs.Common.{◌≡◌, ◌∙◌, rules}
use Rattle.std.specs.Option.{option_map}
use Rattle.std.proofs.lemmas.Result.{IfOk-weaker}
use Rattle.mail_rebuild.specs.Merging.{usable_of}
use Rattle.mail_rebuild.specs.OldFile.{IsReadKind}
use Rattle.mail_rebuild.specs.OldIndex.{view_of}
use Rattle.mail_rebuild.specs.Planning.{contents_of}
use Rattle.mail_rebuild.specs.Taking.{IsSpoolFault}
use Rattle.mail_rebuild.proofs.PlanLemmas.{contents_are, found_in, if_err_weaker, limit_passed, made_of_all, names_files, no_spool_fault, other_failed, sizes_are, view_is}
use Rattle.mail_rebuild.proofs.planning.prepare.Goals as goal

pub returns-in_err-file-clause-spool_cause : goal.returns-in_err-file-clause-spool_cause
returns-in_err-file-clause-spool_cause g c =
    other_failed IsReadKind IsSpoolFault _ _ c.from_residual-in_err-file.result (search rules) no_spool_fault c.in_ok-listing.ensures.cause.kept

pub returns-clause-planned : goal.returns-clause-planned
returns-clause-planned g c =
    IfOk-weaker c.conclude.result _ _
    (λ plan planned files old shown reads.
    let names = c.in_ok-listing.listing in
    let index = c.old_index-old.result in
    let main : old ≡ option_map (λ b. b.now) c.as_deref.result = search rules in
    let is = rw (← main) at c.old_index-old.ensures.is in
    let listed = c.in_ok-listing.ensures.listed files shown in
    let later = c.list_folder.ensures.files ∙ shown in
    let taken = c.in_ok-made.ensures.taken files later (names_files files names listed) in
    let numbers = c.in_ok-made.ensures.numbers old is in
    let whole = view_is old index is in
    let found = found_in files names (usable_of (view_of index)) in (
      contents_of found c.in_ok-made.made,
      contents_are files names (view_of index) old c.args.now c.in_ok-made.made listed whole taken numbers,
      planned old c.args.now found is (made_of_all files names (view_of index) old c.args.now c.in_ok-made.made listed whole taken numbers),
    ))
    c.conclude.ensures.planned

pub returns-clause-limit : goal.returns-clause-limit
returns-clause-limit g c =
    if_err_weaker c.conclude.result _ _
    (λ fault limit files old shown reads.
    let names = c.in_ok-listing.listing in
    let index = c.old_index-old.result in
    let main : old ≡ option_map (λ b. b.now) c.as_deref.result = search rules in
    let is = rw (← main) at c.old_index-old.ensures.is in
    let listed = c.in_ok-listing.ensures.listed files shown in
    let later = c.list_folder.ensures.files ∙ shown in
    let taken = c.in_ok-made.ensures.taken files later (names_files files names listed) in
    let numbers = c.in_ok-made.ensures.numbers old is in
    let whole = view_is old index is in
    let found = found_in files names (usable_of (view_of index)) in
    let sizes = sizes_are (record { files = files; old = old; now = c.args.now; options = c.args.options.now }) (λ bytes. bytes.items) c.in_ok-file.file (c.in_ok-listing.ensures.few_files files shown) (c.in_ok-file.ensures.read old reads) c.in_ok-file.ensures.short in
    limit_passed fault _ (contents_of found c.in_ok-made.made) sizes (contents_are files names (view_of index) old c.args.now c.in_ok-made.made listed whole taken numbers)
    (limit old c.args.now found is (made_of_all files names (view_of index) old c.args.now c.in_ok-made.made listed whole taken numbers)))
    c.conclude.ensures.limit

pub returns-clause-no_limit : goal.returns-clause-no_limit
returns-clause-no_limit g c =
    IfOk-weaker c.conclude.result _ _
    (λ plan planned files old shown reads.
    let names = c.in_ok-listing.listing in
    let index = c.old_index-old.result in
    let main : old ≡ option_map (λ b. b.now) c.as_deref.result = search rules in
    let is = rw (← main) at c.old_index-old.ensures.is in
    let listed = c.in_ok-listing.ensures.listed files shown in
    let later = c.list_folder.ensures.files ∙ shown in
    let taken = c.in_ok-made.ensures.taken files later (names_files files names listed) in
    let numbers = c.in_ok-made.ensures.numbers old is in
    let whole = view_is old index is in
    let found = found_in files names (usable_of (view_of index)) in (
      sizes_are (record { files = files; old = old; now = c.args.now; options = c.args.options.now }) (λ bytes. bytes.items) c.in_ok-file.file (c.in_ok-listing.ensures.few_files files shown) (c.in_ok-file.ensures.read old reads) c.in_ok-file.ensures.short,
      contents_of found c.in_ok-made.made,
      contents_are files names (view_of index) old c.args.now c.in_ok-made.made listed whole taken numbers,
      (planned old c.args.now found is (made_of_all files names (view_of index) old c.args.now c.in_ok-made.made listed whole taken numbers)).number,
    ))
    c.conclude.ensures.planned
