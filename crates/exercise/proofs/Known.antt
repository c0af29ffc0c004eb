-- A record that keeps the layout says what its kind tells, whatever else is tested. Assumes nothing.
use Prim.Native.Nat.{ℕ}
use mathlib.Core.Path.{◌≡◌}
use mathlib.Core.Bool.{false, not, true≢false}
use mathlib.Core.List.{List}
use lib.ListN.{length}
use lib.Dec.{eqb}
use Rattle.exercise.specs.Exercise.{record_part}
use Rattle.exercise.specs.Record.{kind_of, keeps_combinational, keeps_register, record_of, record_at, is_malformed}
use Rattle.exercise.specs.passes.Known.{known_of, known_at}
use Rattle.sheet.proofs.Laws.{by_test}

known_of_lem : (nets : ℕ) (p : List ℕ) → is_malformed (record_of nets p) ≡ false → known_of p ≡ record_of nets p
unfolding record_of known_of
known_of_lem nets p m =
    by_test (not (eqb (length p) 24)) (λ l. rw l)
    (λ l. by_test (eqb (kind_of p) 1)
    (λ k. by_test (keeps_combinational nets p) (λ h. rw (l, k, h)) (λ h. absurd (true≢false (rw (l, k, h) at m))))
    (λ k. by_test (eqb (kind_of p) 2)
    (λ r. by_test (keeps_register nets p) (λ h. rw (l, k, r, h)) (λ h. absurd (true≢false (rw (l, k, r, h) at m))))
    (λ r. absurd (true≢false (rw (l, k, r) at m)))))

pub known_is : (nets : ℕ) (e : List ℕ) (i : ℕ) → is_malformed (record_at nets e i) ≡ false → known_at e i ≡ record_at nets e i
unfolding record_at known_at
known_is nets e i m = known_of_lem nets (record_part e i) m
