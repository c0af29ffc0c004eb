-- Each row is the one of its byte of flags.
use mathlib.Core.Path.{◌≡◌, ◌∙◌}
use Rattle.std.proofs.Common.{rules, map, get_or}
use Rattle.sheet.specs.Bytes.{byte_at}
use Rattle.entries.specs.Table.{no_row, eight_rows}
use Rattle.settings.specs.Settings.{flags, row_of, table_of}
use Rattle.settings.proofs.Rows.{row_byte, made_list}
use Rattle.settings.proofs.entry_table.Goals as goal

pub returns : goal.returns
unfolding eight_rows table_of
returns c =
    let fs = flags c.args.settings.now in
    made_list c.from_fn.ensures.items (λ e. get_or (map row_of fs) e no_row)
    (λ e y q k. let row : y ≡ row_of (byte_at fs e) = search rules in (row ∙ row_byte fs e, search rules))
