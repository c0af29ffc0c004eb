-- Document 01's number and values of what `placed_of` answers. Assumes nothing.
use Prim.Native.Nat.{ℕ}
use mathlib.Core.Path.{◌≡◌, ap, ◌∙◌}
use mathlib.Core.Bool.{cond, not}
use mathlib.Core.List.{List, []}
use lib.ListN.{length}
use lib.Dec.{eqb}
use Rattle.sheet.specs.Bytes.{byte_at}
use Rattle.answer.specs.Answer.{out_of_range, breaks_place, place_fields, placed_of, placed_number, placed_values}
use Rattle.answer.specs.declared.Place.{Place}
use Rattle.std.specs.Prelude.{Option, Some, None}
use Rattle.sheet.proofs.Laws.{by_test}

module _ (p : List ℕ) where
  -- what is said of both cases of a place record is said of what a part says
  placed_by_lem : {A : Type 0} (f : Option Place → A)
      → f (placed_of p) ≡ cond (breaks_place p) (f None) (f (Some (record { x = byte_at p 0; y = byte_at p 1; le = byte_at p 2 })))
  unfolding placed_of
  placed_by_lem f = by_test (not (eqb (length p) 4)) (λ l. rw l) (λ l. by_test (out_of_range p) (λ o. rw (l, o)) (λ o. rw (l, o)))

  -- 26
  pub placed_says : {r : Option Place} → r ≡ placed_of p
      → (r ≡ placed_of p)
      × ((placed_number r ≡ cond (breaks_place p) (placed_number None) 0) × (placed_values r ≡ cond (breaks_place p) [] (place_fields p)))
  placed_says e = (e, (ap placed_number e ∙ placed_by_lem placed_number, ap placed_values e ∙ placed_by_lem placed_values))
