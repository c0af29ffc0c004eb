-- Nobody has more minutes than a week has: a minute that is covered lies before a closing, and 85 lets none above 10,080 pass. Assumes nothing.
use Prim.Native.Nat.{ℕ, ◌-◌, ◌<◌}
use mathlib.Core.Path.{◌≡◌, refl}
use mathlib.Core.Logic.{⊎_elim}
use mathlib.Core.Bool.{false}
use mathlib.Core.List.{List, [], ◌∷◌}
use native.Mathlib.Omega.{arith}
use lib.Dec.{eqb, ltb}
use borrow.Author.Tests.{ltb-false}
use Rattle.sheet.specs.Lists.{anyb}
use Rattle.sheet.proofs.Laws.{by_test, or_parts}
use Rattle.sheet.proofs.Lists.{or_middle}
use Rattle.sheet.proofs.Checks.{all_held}
use Rattle.distinct.proofs.Rising.{In, in_above, in_append}
use Rattle.distinct.proofs.More.{distinct_below}
use Rattle.distinct.proofs.Nets.{from_above, in_from}
use Rattle.tablet_log.specs.declared.Entry.{Entry}
use Rattle.tablet_log.specs.Log.{entries, bad_entry}
use Rattle.tablet_log.specs.Minutes.{minutes_of, is_own, own_minutes, credit}
use Rattle.tablet_log.specs.Credited.{refusal, credit_checks}
use Rattle.tablet_log.specs.Laws.{AtMostAWeek}
use Rattle.tablet_log.proofs.Order.{bad_entries}

in_week : (es : List Entry) (a z : ℕ) → anyb bad_entry es ≡ false → In z (own_minutes es a) → z < 10080
unfolding bad_entry
in_week [] a z h m = absurd m
in_week (e ∷ es) a z h m =
    let b = or_parts (bad_entry e) (anyb bad_entry es) h in
    let late = ltb-false 10080 e.closing (or_middle (ltb 10080 e.opening) (ltb 10080 e.closing) (eqb e.apprentice 0) b.0) in
    by_test (is_own a e)
    (λ t. ⊎_elim (λ n. omega (arith, late, in_above e.opening z (minutes_of e) (from_above e.opening (e.closing - e.opening)) n, in_from z e.opening (e.closing - e.opening) n)) (in_week es a z b.1) (in_append z (minutes_of e) (own_minutes es a) (rw t at m)))
    (λ t. in_week es a z b.1 (rw t at m))

pub at_most_a_week : AtMostAWeek
unfolding refusal credit
at_most_a_week l rows numbers h a =
    let good = (all_held (credit_checks l rows numbers) refl h).1.1.1.1.1.1.0 in
    distinct_below 10080 (own_minutes (entries l) a) (λ z m. in_week (entries l) a z (rw (bad_entries l) at good) m)
