-- The settled examples P1 to P12 hold, and so do the lines of table 4 and what M-107 says of needs of one net. The verdicts and ways are computed by
-- the search, which finds the earliest way. Assumes nothing.
use Prim.Native.Nat.{ℕ}
use mathlib.Core.Path.{◌≡◌, refl, sym, ◌∙◌}
use mathlib.Core.List.{List, [], ◌∷◌, ◌++◌}
use mathlib.Core.Option.{Option}
use lib.ListN.{length}
use Rattle.sheet.specs.Checks.{check, first_number}
use Rattle.exercise.specs.Record.{outputs}
use Rattle.exercise.specs.declared.Record.{Record}
use Rattle.entries.specs.Table.{house_board}
use Rattle.route.specs.passes.Search.{pick, search_from, found_way}
use Rattle.route.proofs.AllWays.{found_earliest}
use Rattle.lab_nets.specs.NetsIn.{inputs, nets_in}
use Rattle.lab_rules.specs.Ports.{counted, clock_pair, pair_in_use, needed, in_lab}
use Rattle.lab_rules.specs.Rules.{too_many_clocks, too_many_pairs, too_many_clears, too_many_synchronous, too_many_nets, needs, is_none, no_way, lab_rules, lab_number}
use Rattle.lab_rules.specs.Examples.{Holds, Settled, Table4, Sharing, route}

-- a LAB's verdict, from what the search finds
numbered : (cs : List Record) (n : ℕ) → first_number (lab_rules cs ++ check 65 (is_none (found_way house_board (needs cs))) ∷ []) ≡ n → lab_number house_board cs ≡ n
unfolding lab_number no_way
numbered cs n h = rw (found_earliest house_board (needs cs)) at h

-- a claim about a route
searched : (cs : List Record) (k n : ℕ) (w : Option (List ℕ)) → length (needs cs) ≡ k
    → first_number (lab_rules cs ++ check 65 (is_none (found_way house_board (needs cs))) ∷ []) ≡ n → found_way house_board (needs cs) ≡ w → Holds (route cs k n w)
searched cs k n w l h q = (l, numbered cs n h, sym (found_earliest house_board (needs cs)) ∙ q)

pub settled : Settled
unfolding Settled house_board pick search_from found_way counted clock_pair pair_in_use needed in_lab inputs outputs nets_in too_many_clocks too_many_pairs too_many_clears too_many_synchronous too_many_nets needs
settled = (
  (refl, refl),
  (
    (refl, refl),
    (
      (refl, refl),
      (
        (refl, refl),
        (
          (refl, refl),
          (
            (refl, refl),
            (
              (refl, refl),
              (
                (refl, refl),
                (searched _ _ _ _ refl refl refl, (searched _ _ _ _ refl refl refl, (searched _ _ _ _ refl refl refl, (refl, (searched _ _ _ _ refl refl refl, tt))))),
              ),
            ),
          ),
        ),
      ),
    ),
  ),
)

-- 63
pub table4_holds : Table4
unfolding Table4 house_board pick search_from found_way counted clock_pair pair_in_use needed in_lab inputs outputs nets_in too_many_clocks too_many_pairs too_many_clears too_many_synchronous too_many_nets needs
table4_holds = (numbered _ _ refl, (numbered _ _ refl, (numbered _ _ refl, (numbered _ _ refl, (numbered _ _ refl, (numbered _ _ refl, (numbered _ _ refl, (numbered _ _ refl, (numbered _ _ refl, (numbered _ _ refl, (numbered _ _ refl, tt)))))))))))

-- 65
pub sharing_holds : Sharing
unfolding Sharing house_board pick search_from found_way counted clock_pair pair_in_use needed in_lab inputs outputs nets_in too_many_clocks too_many_pairs too_many_clears too_many_synchronous too_many_nets needs
sharing_holds = (searched _ _ _ _ refl refl refl, (searched _ _ _ _ refl refl refl, (searched _ _ _ _ refl refl refl, (searched _ _ _ _ refl refl refl, tt))))
