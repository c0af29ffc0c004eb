-- The sheet stands in front of a buffer of its own, and is judged there.
use mathlib.Core.Path.{ap, ◌∙◌}
use lib.ListN.{take}
use Rattle.writer.specs.Exercises.{netlist, records_number}
use Rattle.writer.proofs.Sheets.{nets_back}
use Rattle.writer.proofs.Outcome.{sheet_in_front}
use Rattle.writer.proofs.Netlist.check_cells.Goals as goal

pub check_records-requires : goal.check_records-requires
check_records-requires c =
    let x = netlist c.args.self.now.nets c.args.self.now.cells.now in
    let put = c.put_sheet-size.ensures in
    rw (put.size, sheet_in_front x _ c.requires.1 put.stored, nets_back x) c.requires.0

pub returns : goal.returns
returns c =
    let x = netlist c.args.self.now.nets c.args.self.now.cells.now in
    let put = c.put_sheet-size.ensures in
    c.check_records.ensures
    ∙ ap (λ k. records_number (take k c.put_sheet-size.new.to)) put.size
    ∙ ap records_number (sheet_in_front x _ c.requires.1 put.stored)
