use Rattle.std.proofs.Common.{◌≡◌, ℕ, ◌++◌, List, [], length, drop, ap, sym, ◌∙◌, arith}
use Rattle.std.proofs.lemmas.List.{length-append, take_at}
use Rattle.skip_form.specs.declared.header.Header.{Header}
use Rattle.skip_form.specs.declared.head.Kind.TheVariants.{Dummy}
use Rattle.skip_form.specs.Spelling.{header_bytes, record_bytes}
use Rattle.skip_spec.specs.Appending.{pointers_to, record_of}
use Rattle.skip_spec.specs.Layout.{Item, fresh_entries, fresh_header, fresh_layout, fresh_log, fresh_size}
use Rattle.skip_layout.specs.Items.{items_in}
use Rattle.skip_layout.proofs.LayoutSteps.{length-items, length-laid}
use Rattle.skip_layout.proofs.layout.lay_out.Goals as goal

abbrev header_with : ℕ → ℕ → ℕ → ℕ → Header
header_with generation flags n size = record { version = 1; generation = generation; num_records = n; repack_size = size; current_size = size; flags = flags }

-- the parts are the whole
joined : (items : List Item) (generation flags size n : ℕ) (front log pointers : List ℕ) → n ≡ length items → size ≡ fresh_size items → pointers ≡ pointers_to 31 (fresh_entries items)
    → front ≡ header_bytes (header_with generation flags n size) ++ record_bytes (record_of Dummy 31 pointers [] [])
    → log ≡ fresh_log (fresh_entries items)
    → front ++ log ≡ fresh_layout generation flags items
unfolding fresh_layout
joined items generation flags size n front log pointers is_count is_size is_led is_front is_log =
    let count : n ≡ length (fresh_entries items) = is_count ∙ sym (length-laid 336 items) in
    ap (λ (l : List ℕ). l ++ log)
    (is_front
    ∙ ap (λ (m : ℕ). header_bytes (header_with generation flags m size) ++ record_bytes (record_of Dummy 31 pointers [] [])) count
    ∙ ap (λ (m : ℕ). header_bytes (header_with generation flags (length (fresh_entries items)) m) ++ record_bytes (record_of Dummy 31 pointers [] [])) is_size
    ∙ ap (λ (l : List ℕ). header_bytes (fresh_header generation flags items) ++ record_bytes (record_of Dummy 31 l [] [])) is_led)
    ∙ ap (λ (l : List ℕ). header_bytes (fresh_header generation flags items) ++ record_bytes (record_of Dummy 31 (pointers_to 31 (fresh_entries items)) [] []) ++ l) is_log

pub returns-clause-bytes : goal.returns-clause-bytes
returns-clause-bytes c =
    let items = items_in c.args.items.now in
    let front = c.write_front.new.into in
    let log = c.write_log-pointers.new.log in
    let long : length (front ++ log) ≡ c.in-Ok.file.len =
    omega (arith, length-append front log, c.write_front.auto.into, c.write_log-pointers.auto.log, c.split_at_mut-front.ensures.front_len, c.split_at_mut-front.ensures.back_len, c.deref_mut.ensures.len, c.in-Ok.ensures.len) in
    let size : c.layout_size-size.result ≡ fresh_size items = omega (arith, c.layout_size-size.ensures, c.requires.size) in
    take_at (front ++ log) (drop (length (front ++ log)) c.in-Ok.file.items) c.in-Ok.file.len long
    ∙ joined items c.args.generation c.args.flags c.layout_size-size.result (length c.args.items.now) front log c.write_log-pointers.result
    (sym (length-items c.args.items.now)) size c.write_log-pointers.ensures.leads c.write_front.ensures c.write_log-pointers.ensures.spelled

pub returns-clause-size : goal.returns-clause-size
returns-clause-size c = omega (arith, c.in-Ok.ensures.len, c.layout_size-size.ensures, c.requires.size)
