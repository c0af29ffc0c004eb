-- A record of a list, where it is fit. Assumes nothing.
use Rattle.std.specs.Prelude.{cond, Result, Ok, Err}
use Rattle.sheet.specs.declared.refusal.Refusal.{Refusal}
use Rattle.sheet.specs.declared.refusal.Refusal.TheVariants.{UnfitList}
use Rattle.exercise.specs.Record.{Cell}
use Rattle.exercise.specs.declared.Record.{Record}
use Rattle.list_check.specs.ListCheck.{unfit, record_from}

-- what a record says that is fit
unfoldable pub fit_record : Cell → Result Record Refusal
fit_record c = cond (unfit (record_from c)) (Err UnfitList) (Ok (record_from c))
