-- A refusal leaves all as it was; otherwise what was prepared serves each answer, and the rows of all answers are stored.
use mathlib.Core.Path.{◌≡◌}
use Rattle.std.proofs.Common.{rules}
use Rattle.sheet.specs.Refusals.{number_of}
use Rattle.class.specs.Class.{marked_from}
use Rattle.class.proofs.Marking.{class_refused, class_marked}
use Rattle.class.proofs.mark_class.Goals as goal

pub returns-in_err-check_class : goal.returns-in_err-check_class
returns-in_err-check_class c =
    let a = c.args in
    let e = c.in_err-check_class in
    let told : marked_from c.from_residual.result ≡ record { number = number_of e.field-0.0; filled = 0 } = search rules in
    class_refused a.settings.now a.exercise.now a.class.now a.rows.now _ _ e.ensures told

pub returns : goal.returns
returns c =
    let a = c.args in
    let p = c.prepare-prepared.ensures in
    class_marked a.settings.now a.exercise.now a.class.now a.rows.now c.in_ok-check_class.ensures _ _ _ _ _ c.entry_table.ensures p.made p.filled c.answer_count-filled.ensures c.put_rows.ensures
