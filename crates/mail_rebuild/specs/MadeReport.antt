-- The report on what was made.
use Rattle.std.specs.Prelude.{ℕ, Bool, List, [], ◌∷◌, ◌++◌, codes, decimal, if◌then◌else◌}
use Rattle.std.specs.List.{flat_map}
use Rattle.base_devices.specs.CrashImages.{Image}
use Rattle.base_notes.specs.declared.action.Options.{Options}
use Rattle.mail_rebuild.specs.declared.report.Tally.{Tally}
use Rattle.mail_rebuild.specs.declared.taking.Made.{Made}
use Rattle.mail_rebuild.specs.Report.{ignored_line, ignored_places, index_line, odd_line}
use Rattle.mail_rebuild.specs.Taking.{odd_of}

-- the last line
abbrev pub tally_line : Tally → List ℕ
tally_line tally =
    codes "kept " ++ decimal tally.kept ++ codes " fresh " ++ decimal tally.fresh
    ++ codes " dropped " ++ decimal tally.dropped ++ (10 ∷ [])

-- all that comes before it
abbrev pub lines_of : Bool → Image → Made → List ℕ
lines_of skip_odd old made =
    index_line old ++ flat_map ignored_line (ignored_places old)
    ++ made.index.lines.items ++ flat_map odd_line (if skip_odd then [] else odd_of made)

abbrev pub report_of : Options → Image → Made → List ℕ
report_of options old made = (if options.quiet then [] else lines_of options.skip_odd old made) ++ tally_line made.index.tally
