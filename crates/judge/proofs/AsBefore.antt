-- The supplied settings sheet passes 70 to 75, so its checks are passed over, and the table on it is document 01's. Assumes nothing.
use Prim.Native.Nat.{ℕ}
use mathlib.Core.Path.{◌≡◌, refl}
use mathlib.Core.Bool.{not}
use mathlib.Core.List.{List, ◌∷◌, ◌++◌}
use lib.Dec.{eqb}
use Rattle.sheet.specs.Header.{wrong_mark}
use Rattle.settings.specs.Settings.{wrong_settings_length, other_flags}
use Rattle.settings.specs.House.{house_settings}
use Rattle.settings.proofs.Laws.{house}
use Rattle.judge.specs.Judge.{Check, check, room_checks, settings_group, sheet_checks, lab_group, checks_to51, checks, first_broken, judged, route_bytes, routed}
use Rattle.judge.specs.AsBefore.{AsBefore, on_house, checks_of01, judged_by01, routed_by01}

-- 3, 70 to 75
passed_over : (r : ℕ) (ys zs : List Check) → first_broken ((room_checks r 1024 ++ (settings_group house_settings ++ ys)) ++ zs) ≡ first_broken ((check 1 (not (eqb r 8192)) ∷ ys) ++ zs)
unfolding room_checks settings_group house_settings wrong_mark wrong_settings_length other_flags
passed_over r ys zs = refl

module _ (e a : List ℕ) (r : ℕ) where
  found_same : first_broken (checks (on_house e a r)) ≡ first_broken (checks_of01 e a r)
  unfolding checks checks_to51 lab_group checks_of01
  found_same = rw house.holds_board (passed_over r (sheet_checks e a) _)

  verdict_same : judged (on_house e a r) ≡ judged_by01 e a r
  unfolding judged judged_by01
  verdict_same = rw found_same

  route_same : (before : List ℕ) → routed (on_house e a r) before ≡ routed_by01 e a r before
  unfolding routed routed_by01 route_bytes
  route_same before = rw (verdict_same, house.holds_board)

-- 65, 70 to 75
pub as_before : AsBefore
as_before = record { same_verdict = verdict_same; same_route = route_same }
