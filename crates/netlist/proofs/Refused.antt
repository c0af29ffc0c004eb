-- A check has an error where its number is not 0. Assumes nothing.
use mathlib.Core.Path.{◌≡◌, refl}
use mathlib.Core.Bool.{not}
use lib.Dec.{eqb}
use Rattle.std.specs.Prelude.{Result, Ok, Err, is_err}
use Rattle.sheet.specs.declared.refusal.Refusal.{Refusal}
use Rattle.sheet.specs.Refusals.{told_number}
use Rattle.sheet.proofs.Refusals.{refused_number}

pub err_told : {A : Type 0} (r : Result A Refusal) → is_err r ≡ not (eqb (told_number r) 0)
err_told (Ok x) = refl
err_told (Err e) = rw (refused_number e)
