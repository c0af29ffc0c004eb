-- M-102 leaves the board of document 01 as it was: with its settings sheet every verdict and every route is the one that document 01's list of
-- checks gives on its own board, where there is no settings sheet and no list of tries. `e` is the exercise, `a` the answer, `r` the route buffer's length.
-- Assumes nothing.
use Rattle.std.specs.Prelude.{ℕ, ◌≡◌, cond, not, List, ◌∷◌, ◌++◌, eqb}
use Rattle.sheet.specs.Lists.{concat_map, below}
use Rattle.entries.specs.Table.{house_board}
use Rattle.settings.specs.House.{house_settings}
use Rattle.lab_rules.specs.Rules.{lab_checks, route_of}
use Rattle.verdict.specs.declared.Verdict.{Verdict}
use Rattle.judge.specs.Call.{Call, call}
use Rattle.judge.specs.Judge.{Check, check, of_lab, lab_cells, sheet_checks, first_broken, judged, routed}
use Rattle.verdict.specs.Verdicts.{verdict_of}

module _ (e a : List ℕ) (r : ℕ) where
  -- the call with the supplied settings sheet, and a list of tries of the right length
  abbrev pub on_house : Call
  on_house = call house_settings e a r 1024

  -- document 01's list: 1, 10 to 51, 60 to 65 on its board
  unfoldable pub checks_of01 : List Check
  checks_of01 = (check 1 (not (eqb r 8192)) ∷ sheet_checks e a) ++ concat_map (λ l. of_lab l (lab_checks house_board (lab_cells on_house l))) (below 1024)

  unfoldable pub judged_by01 : Verdict
  judged_by01 = verdict_of e a (first_broken checks_of01)

  unfoldable pub routed_by01 : List ℕ → List ℕ
  routed_by01 before = cond (eqb judged_by01.number 0) (concat_map (λ l. route_of house_board (lab_cells on_house l)) (below 1024)) before

-- THE THEOREM
pub record AsBefore : Type 0 where
  pub same_verdict : (e a : List ℕ) (r : ℕ) → judged (on_house e a r) ≡ judged_by01 e a r
  pub same_route : (e a : List ℕ) (r : ℕ) (before : List ℕ) → routed (on_house e a r) before ≡ routed_by01 e a r before
