-- 87, then 80 to 85; a log in which none of them applies has a key for each entry. The keys are sorted; what the passes over them find is what the log says.
use mathlib.Core.Path.{◌≡◌, refl, sym, ◌∙◌}
use lib.Seq.{length-take-le}
use Rattle.std.proofs.Common.{rules}
use Rattle.sheet.specs.Refusals.{number_of}
use Rattle.tablet_log.specs.Credited.{credited_from}
use Rattle.credits.proofs.Outcome.{keys_few, refused_lists, refused_log, refused_many, none_filled, lists_filled}
use Rattle.credits.proofs.minutes.Goals as goal
use Rattle.credits.proofs.minutes.Goals.{then-rows-ne-ROWS-via-then-rows-ne-ROWS, then-rows-ne-ROWS-via-else-rows-ne-ROWS+then-numbers-ne-ENTRY_NUMBERS}

pub returns-then-rows-ne-ROWS : goal.returns-then-rows-ne-ROWS
returns-then-rows-ne-ROWS c =
    let a = c.args in
    elim c.then-rows-ne-ROWS.branch [
      | then-rows-ne-ROWS-via-then-rows-ne-ROWS w ↦ refused_lists a.log.now a.rows.now a.numbers.now _ refl (λ e f. w.if-rows-ne-ROWS.true e)
      | then-rows-ne-ROWS-via-else-rows-ne-ROWS+then-numbers-ne-ENTRY_NUMBERS w ↦ refused_lists a.log.now a.rows.now a.numbers.now _ refl (λ e f. w.if-numbers-ne-ENTRY_NUMBERS.true f)
    ]

pub returns-in_err-check_log : goal.returns-in_err-check_log
returns-in_err-check_log c =
    let a = c.args in
    let e = c.in_err-check_log in
    let told : credited_from c.from_residual.result ≡ record { number = number_of e.field-0.0; rows = 0; entries = 0 } = search rules in
    refused_log a.log.now a.rows.now a.numbers.now c.if-rows-ne-ROWS.false c.if-numbers-ne-ENTRY_NUMBERS.false _ _ e.ensures told

pub returns-then-count-eq0-clause-told : goal.returns-then-count-eq0-clause-told
returns-then-count-eq0-clause-told c =
    let a = c.args in
    (none_filled a.log.now a.rows.now a.numbers.now c.if-rows-ne-ROWS.false c.if-numbers-ne-ENTRY_NUMBERS.false (sym c.in_ok-check_log.ensures) (sym c.if-count-eq0.true ∙ c.entry_count-count.ensures)).told

pub returns-then-count-eq0-clause-minutes : goal.returns-then-count-eq0-clause-minutes
returns-then-count-eq0-clause-minutes c =
    let a = c.args in
    (none_filled a.log.now a.rows.now a.numbers.now c.if-rows-ne-ROWS.false c.if-numbers-ne-ENTRY_NUMBERS.false (sym c.in_ok-check_log.ensures) (sym c.if-count-eq0.true ∙ c.entry_count-count.ensures)).minutes

pub returns-then-count-eq0-clause-listed : goal.returns-then-count-eq0-clause-listed
returns-then-count-eq0-clause-listed c =
    let a = c.args in
    (none_filled a.log.now a.rows.now a.numbers.now c.if-rows-ne-ROWS.false c.if-numbers-ne-ENTRY_NUMBERS.false (sym c.in_ok-check_log.ensures) (sym c.if-count-eq0.true ∙ c.entry_count-count.ensures)).listed

pub slice_bounds-keys-end : goal.slice_bounds-keys-end
slice_bounds-keys-end c =
    keys_few _ (sym c.in_ok-check_log.ensures) _ (c.from.ensures ∙ c.entry_count-count.ensures)

pub slice_bounds-keys-end-2 : goal.slice_bounds-keys-end-2
slice_bounds-keys-end-2 c =
    sym (length-take-le _ _ (keys_few _ (sym c.in_ok-check_log.ensures) _ (c.from.ensures ∙ c.entry_count-count.ensures)))

pub returns-then-many : goal.returns-then-many
returns-then-many c =
    let a = c.args in
    let none = sym c.in_ok-check_log.ensures in
    let count = c.from.ensures ∙ c.entry_count-count.ensures in
    refused_many a.log.now a.rows.now a.numbers.now c.if-rows-ne-ROWS.false c.if-numbers-ne-ENTRY_NUMBERS.false none _ _
    (length-take-le _ _ (keys_few _ none _ count) ∙ count) c.sort_keys.ensures _ c.fill_rows-apprentices.ensures.counted _ c.if-many.true refl

pub returns : goal.returns
returns c =
    let a = c.args in
    let none = sym c.in_ok-check_log.ensures in
    let count = c.from.ensures ∙ c.entry_count-count.ensures in
    let listed = c.list_empty-entries.ensures in
    lists_filled a.log.now a.rows.now a.numbers.now c.if-rows-ne-ROWS.false c.if-numbers-ne-ENTRY_NUMBERS.false none _ _
    (length-take-le _ _ (keys_few _ none _ count) ∙ count) c.sort_keys.ensures _ c.fill_rows-apprentices.ensures.counted _ _ _ _ c.if-many.false c.fill_rows.ensures.stored c.entry_count-count.ensures
    listed.filled listed.written
