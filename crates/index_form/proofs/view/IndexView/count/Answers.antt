use Rattle.std.proofs.Common.{sym, ◌∙◌, drop}
use Rattle.index_form.specs.Reading.{header_in}
use Rattle.index_form.proofs.IndexLemmas.{length-stored_records}
use Rattle.index_form.proofs.view.IndexView.count.Goals as goal

pub returns-clause-records : goal.returns-clause-records
returns-clause-records c =
    let file = c.args.self.now.file.now in
    c.u32_at.ensures ∙ sym (length-stored_records (header_in file).num_records (drop 128 file))
