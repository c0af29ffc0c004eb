-- Document 01, "A listing in full": "One verdict line, then for a legal answer one line for each occupied LAB, rising. Each line ends in a
-- newline." `c` is the call, `s` the settings, `e` the exercise, `a` the answer. Assumes nothing.
use Rattle.std.specs.Prelude.{ℕ, cond, List, [], ◌++◌, eqb, get_or}
use Rattle.sheet.specs.Lists.{concat_map, filterb, below}
use Rattle.lab_rules.specs.Rules.{route_of}
use Rattle.sheet.specs.Checks.{NONE}
use Rattle.verdict.specs.declared.Verdict.{Verdict}
use Rattle.judge.specs.Call.{Call, call, in_force}
use Rattle.judge.specs.Judge.{lab_cells, occupied, judged}
use Rattle.listing.specs.Text.{ascii, decimal}

-- a number, with a dash for the one that says there is none
unfoldable pub or_dash : ℕ → ℕ → List ℕ
or_dash none n = cond (eqb n none) (ascii "-") (decimal n)

-- a cell or a LAB: NONE ("65,535") "where there is none"
abbrev pub place : ℕ → List ℕ
place n = or_dash NONE n

-- a route byte: "255 where there is no need"
abbrev pub entry : ℕ → List ℕ
entry n = or_dash 255 n

-- "verdict 0 cell - lab - apprentice 7"
unfoldable pub verdict_line : Verdict → List ℕ
verdict_line v =
    ascii "verdict " ++ decimal v.number
    ++ (ascii " cell " ++ place v.cell)
    ++ (ascii " lab " ++ place v.lab)
    ++ (ascii " apprentice " ++ decimal v.apprentice)
    ++ ascii "\n"

-- "lab 34 clk 0 - ena - - aclr 1 - sclr - sload -": LAB l and its eight route bytes b, "for two clk, two ena, two aclr, sclr, sload"
unfoldable pub lab_line : ℕ → List ℕ → List ℕ
lab_line l b =
    ascii "lab " ++ decimal l
    ++ (ascii " clk " ++ entry (get_or b 0 0) ++ ascii " " ++ entry (get_or b 1 0))
    ++ (ascii " ena " ++ entry (get_or b 2 0) ++ ascii " " ++ entry (get_or b 3 0))
    ++ (ascii " aclr " ++ entry (get_or b 4 0) ++ ascii " " ++ entry (get_or b 5 0))
    ++ (ascii " sclr " ++ entry (get_or b 6 0))
    ++ (ascii " sload " ++ entry (get_or b 7 0))
    ++ ascii "\n"

-- "one line for each occupied LAB, rising"
unfoldable pub lab_lines : Call → List ℕ
lab_lines c = concat_map (λ l. lab_line l (route_of (in_force c) (lab_cells c l))) (filterb (occupied c) (below 1024))

-- the judge's call for a listing: with a route buffer of the right length
abbrev pub listing_call : List ℕ → List ℕ → List ℕ → Call
listing_call s e a = call s e a 8192 1024

-- THE LISTING: "One verdict line, then for a legal answer one line for each occupied LAB, rising"
unfoldable pub listing : List ℕ → List ℕ → List ℕ → List ℕ
listing s e a =
    let c = listing_call s e a in
    let v = judged c in
    verdict_line v ++ cond (eqb v.number 0) (lab_lines c) []
