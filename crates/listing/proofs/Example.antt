-- Document 01's listing in full, from its two sheets to its two lines, by computation. Assumes nothing.
use Prim.Native.Nat.{ℕ, ◌+◌, ◌*◌}
use mathlib.Core.Path.{◌≡◌, refl}
use mathlib.Core.List.{List, [], ◌∷◌, ◌++◌}
use Rattle.sheet.specs.Lists.{concat_map}
use Rattle.judge.specs.Judge.{carry_not_next, lab_cells, occupied, room_checks, settings_group, exercise_group, answer_group, cell_group, place_group, lab_group, sheet_checks, checks_to51, checks, judged}
use Rattle.verdict.specs.Verdicts.{apprentice_of, verdict_of}
use Rattle.lab_rules.specs.Ports.{counted, clock_pair, pair_in_use, needed, in_lab}
use Rattle.lab_nets.specs.NetsIn.{inputs, nets_in}
use Rattle.lab_rules.specs.Rules.{too_many_clocks, too_many_pairs, too_many_clears, too_many_synchronous, too_many_nets, needs, no_way, route_of}
use Rattle.placing.specs.Members.{members}
use Rattle.tables.specs.Records.{cell, malformed, driven, double_driver}
use Rattle.netlist.specs.Cells.{feeds, carry_in_not_fed, carry_out_not_read_once, cell_checks}
use Rattle.placing.specs.Places.{lab_at, out_of_range_at, same_place, place_taken}
use Rattle.route.specs.Way.{is_way, entry_lists, ways, earliest_way}
use Rattle.route.specs.Route.{eight_bytes, lab_route_of}
use Rattle.settings.specs.Settings.{wrong_settings_length, other_flags, table_of}
use Rattle.settings.specs.House.{house_settings}
use Rattle.answer.specs.Answer.{wrong_answer_length, placed_of, placed_at}
use Rattle.sheet.specs.Header.{wrong_mark, wrong_version}
use Rattle.exercise.specs.Exercise.{over_limit, wrong_exercise_length}
use Rattle.exercise.specs.Record.{bad_combinational, bad_register, bad_tail, keeps_combinational, keeps_register, record_of, record_at, outputs}
use Rattle.listing.specs.Text.{ascii, digits, decimal}
use Rattle.listing.specs.Listing.{or_dash, verdict_line, lab_line, lab_lines, listing}

-- 16 bits, low byte first, of a number below 256
abbrev small : ℕ → List ℕ
small n = n ∷ 0 ∷ []

-- the signal code of net n
abbrev net : ℕ → ℕ
net n = 4 + 2 * n

-- "Nets 4, cells 2. Cell 0, register: datain net 0, clk net 1, aclr net 2, regout net 3. Cell 1, combinational: dataa net 3, combout net 0."
abbrev exercise : List ℕ
exercise =
    ascii "LXE" ++ concat_map small (1 ∷ 4 ∷ 2 ∷ [])
    ++ 2 ∷ 0 ∷ concat_map small (net 0 ∷ net 1 ∷ 0 ∷ net 2 ∷ 0 ∷ 0 ∷ 0 ∷ net 3 ∷ 0 ∷ 0 ∷ 0 ∷ [])
    ++ 1 ∷ 0 ∷ concat_map small (net 3 ∷ 0 ∷ 0 ∷ 0 ∷ 0 ∷ net 0 ∷ 0 ∷ 0 ∷ 0 ∷ 0 ∷ 0 ∷ [])

-- "Both at x 2, y 1, LE 0; apprentice 7."
abbrev answer : List ℕ
answer = ascii "LXA" ++ concat_map small (1 ∷ 7 ∷ 0 ∷ 2 ∷ []) ++ 2 ∷ 1 ∷ 0 ∷ 0 ∷ [] ++ 2 ∷ 1 ∷ 0 ∷ 0 ∷ []

pub listing_example : listing house_settings exercise answer
    ≡ ascii "verdict 0 cell - lab - apprentice 7\n"
    ++ ascii "lab 34 clk 0 - ena - - aclr 1 - sclr - sload -\n"
unfolding carry_not_next lab_cells occupied room_checks settings_group exercise_group answer_group cell_group place_group lab_group sheet_checks checks_to51 checks apprentice_of
    verdict_of judged counted clock_pair pair_in_use needed in_lab inputs nets_in too_many_clocks too_many_pairs too_many_clears too_many_synchronous
    too_many_nets needs no_way route_of members cell malformed driven double_driver feeds carry_in_not_fed carry_out_not_read_once cell_checks lab_at
    out_of_range_at same_place place_taken earliest_way ways entry_lists is_way eight_bytes lab_route_of house_settings wrong_settings_length other_flags table_of wrong_answer_length placed_of placed_at
    wrong_mark wrong_version over_limit wrong_exercise_length bad_combinational bad_register bad_tail keeps_combinational keeps_register record_of
    record_at outputs digits decimal or_dash verdict_line lab_line lab_lines listing
listing_example = refl
