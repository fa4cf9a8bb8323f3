use Rattle.std.proofs.Common.{◌≡◌, ℕ, ◌/◌, ◌*◌, List, length, sym, ap, subst, ◌∙◌, arith}
use Rattle.std.specs.List.{AllByRecursion}
use Rattle.base_bytes.specs.Fields.{AreBytes}
use Rattle.db_repack.proofs.RepackLemmas.{owes_full}
use Rattle.skip_form.specs.declared.header.Header.{Header}
use Rattle.skip_form.specs.Flaws.{header_in}
use Rattle.skip_kind.specs.Kind.{skip_kind}
use Rattle.skip_layout.specs.Items.{FitsRecord, items_in}
use Rattle.skip_seek.specs.Searches.{IsLive, live_of}
use Rattle.skip_spec.specs.Layout.{Item, fresh_layout, fresh_size, next_generation}
use Rattle.skip_txn.specs.Sessions.{bytes_of, session_state}
use Rattle.twoskip.specs.Repacking.{IsRepackedFile, live_items_of, repacked_file}
use Rattle.twoskip.proofs.RepackingLemmas.{counted_is, each_fits, fresh_is, live_is, repacked_is, size_fits}
use Rattle.twoskip.proofs.repacking.repacked_image.Goals as goal

pub live_items-requires-clause-live : goal.live_items-requires-clause-live
live_items-requires-clause-live c = subst IsLive (sym c.image-image.ensures) (live_is (bytes_of c.args.session.now) c.requires.tidy (subst AreBytes (c.bytes.ensures ∙ c.image-image.ensures) c.are_bytes.ensures))

pub live_items-requires-clause-counted : goal.live_items-requires-clause-counted
live_items-requires-clause-counted c =
    let is = c.requires.tidy in
    let old = bytes_of c.args.session.now in
    let bytes = subst AreBytes (c.bytes.ensures ∙ c.image-image.ensures) c.are_bytes.ensures in
    subst (λ (b : List ℕ). c.header-header.result.num_records ≡ length (live_of b)) (sym c.image-image.ensures)
    (ap (λ (h : Header). h.num_records) (c.header-header.ensures.fields ∙ ap header_in c.image-image.ensures) ∙ counted_is old is bytes)

pub returns-in_default-clause-repacked : goal.returns-in_default-clause-repacked
returns-in_default-clause-repacked c = repacked_is (bytes_of c.args.session.now) c.requires.tidy (subst AreBytes (c.bytes.ensures ∙ c.image-image.ensures) c.are_bytes.ensures)

pub layout_size-size-requires : goal.layout_size-size-requires
layout_size-size-requires c =
    let bytes = subst AreBytes (c.bytes.ensures ∙ c.image-image.ensures) c.are_bytes.ensures in
    subst (λ (l : List Item). AllByRecursion FitsRecord l) (sym (ap items_in c.deref.ensures.value ∙ c.in-Ok.ensures ∙ ap live_items_of c.image-image.ensures)) (each_fits (bytes_of c.args.session.now) c.requires.tidy bytes)

pub returns-then-size-gt-SKIP_LIMIT-clause-repacked : goal.returns-then-size-gt-SKIP_LIMIT-clause-repacked
returns-then-size-gt-SKIP_LIMIT-clause-repacked c = repacked_is (bytes_of c.args.session.now) c.requires.tidy (subst AreBytes (c.bytes.ensures ∙ c.image-image.ensures) c.are_bytes.ensures)

pub returns-then-size-gt-SKIP_LIMIT-clause-refused : goal.returns-then-size-gt-SKIP_LIMIT-clause-refused
returns-then-size-gt-SKIP_LIMIT-clause-refused c =
    let old = bytes_of c.args.session.now in
    let bytes = subst AreBytes (c.bytes.ensures ∙ c.image-image.ensures) c.are_bytes.ensures in
    let items = ap items_in c.deref.ensures.value ∙ c.in-Ok.ensures ∙ ap live_items_of c.image-image.ensures in
    let size : c.layout_size-size.result ≡ length (repacked_file old) = omega (arith, c.layout_size-size.ensures, ap fresh_size items, size_fits old c.requires.tidy bytes, (fresh_is old c.requires.tidy bytes).size) in
    (λ never. never, owes_full skip_kind (session_state c.args.session.now) (length (repacked_file old)) c.layout_size-size.result c.requires.sound (omega (arith, size, c.if-size-gt-SKIP_LIMIT.true)) size)

pub lay_out-requires-clause-fits : goal.lay_out-requires-clause-fits
lay_out-requires-clause-fits c =
    let bytes = subst AreBytes (c.bytes.ensures ∙ c.image-image.ensures) c.are_bytes.ensures in
    subst (λ (l : List Item). AllByRecursion FitsRecord l) (sym (ap items_in c.deref-2.ensures.value ∙ c.in-Ok.ensures ∙ ap live_items_of c.image-image.ensures)) (each_fits (bytes_of c.args.session.now) c.requires.tidy bytes)

pub returns-in_default-lay_out-clause-repacked : goal.returns-in_default-lay_out-clause-repacked
returns-in_default-lay_out-clause-repacked c = repacked_is (bytes_of c.args.session.now) c.requires.tidy (subst AreBytes (c.bytes.ensures ∙ c.image-image.ensures) c.are_bytes.ensures)

pub returns-in-Ok-of-clause-repacked : goal.returns-in-Ok-of-clause-repacked
returns-in-Ok-of-clause-repacked c = repacked_is (bytes_of c.args.session.now) c.requires.tidy (subst AreBytes (c.bytes.ensures ∙ c.image-image.ensures) c.are_bytes.ensures)

pub returns-clause-repacked : goal.returns-clause-repacked
returns-clause-repacked c = repacked_is (bytes_of c.args.session.now) c.requires.tidy (subst AreBytes (c.bytes.ensures ∙ c.image-image.ensures) c.are_bytes.ensures)

pub returns-in-Ok-of-clause-tidy : goal.returns-in-Ok-of-clause-tidy
returns-in-Ok-of-clause-tidy c =
    let old = bytes_of c.args.session.now in
    let bytes = subst AreBytes (c.bytes.ensures ∙ c.image-image.ensures) c.are_bytes.ensures in
    let header : c.header-header.result ≡ header_in old = c.header-header.ensures.fields ∙ ap header_in c.image-image.ensures in
    let items : items_in c.deref-2.result.now ≡ live_items_of old = ap items_in c.deref-2.ensures.value ∙ c.in-Ok.ensures ∙ ap live_items_of c.image-image.ensures in
    let generation : c.saturating_add-generation.result ≡ next_generation (header_in old).generation = omega (arith, c.saturating_add-generation.ensures, ap (λ (h : Header). h.generation) header) in
    let file : c.in-Ok-of.image.bytes ≡ repacked_file old = c.in-Ok-of.ensures.bytes ∙ c.in-Ok-lay_out.ensures.bytes ∙ (λ i. fresh_layout (generation i) ((header i).flags / 2 * 2) (items i)) in
    subst (IsRepackedFile old) (sym file) (fresh_is old c.requires.tidy bytes)
