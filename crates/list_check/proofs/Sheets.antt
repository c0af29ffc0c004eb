-- Records of a list that are records of a sheet say what they say there, a list of few fit ones passes 18, and one that passes has the LAB's result.
-- Assumes nothing.
use Prim.Native.Nat.{ℕ, ◌≤◌}
use mathlib.Core.Path.{◌≡◌, refl, sym, ap, ◌∙◌}
use mathlib.Core.Logic.{inl, inr}
use mathlib.Core.Bool.{Bool, true, false, not, ◌&&◌, ◌||◌, true≢false}
use mathlib.Core.List.{List, [], ◌∷◌, map}
use native.Mathlib.Omega.{arith}
use lib.ListN.{length, length-map}
use lib.Dec.{eqb, ltb, leb}
use borrow.Author.Tests.{lt-leb, le-ltb}
use Rattle.sheet.specs.Lists.{anyb}
use Rattle.sheet.specs.Checks.{first_number}
use Rattle.sheet.specs.Signal.{connected, is_net, net_of, is_inverted, is_bad, is_bad_output}
use Rattle.exercise.specs.Exercise.{net_count, record_part}
use Rattle.exercise.specs.Record.{record_of, record_at, is_malformed, kind_of, flag_of, code_at, combinational_of, register_of, bad_combinational, bad_register, bad_tail, keeps_combinational, keeps_register}
use Rattle.exercise.specs.declared.CombinationalCell.{CombinationalCell}
use Rattle.exercise.specs.declared.RegisterCell.{RegisterCell}
use Rattle.exercise.specs.declared.Record.{Record}
use Rattle.exercise.specs.declared.Record.TheVariants.{Combinational, Register, Malformed}
use Rattle.sheet.proofs.Laws.{by_test, or_parts}
use Rattle.distinct.proofs.Rising.{In}
use Rattle.tables.specs.Records.{cell}
use Rattle.netlist.specs.Cells.{checks_of, cell_checks}
use Rattle.tables.proofs.Decoded.{good_net}
use Rattle.settings.specs.Settings.{settings_number, table_of}
use Rattle.lab_rules.specs.Rules.{lab_result}
use Rattle.exercise.specs.Record.{Cell, record_bytes}
use Rattle.list_check.specs.ListCheck.{record_from, unfit, no_list, list_verdict}
use Rattle.list_check.specs.Agreement.{Copies}
use Rattle.list_check.proofs.Taken.{list_is_lab}

or_less : (a a' b b' : Bool) → (a ≡ false → a' ≡ false) → (b ≡ false → b' ≡ false) → (a || b) ≡ false → (a' || b') ≡ false
or_less a a' b b' f g h = let k = or_parts a b h in rw (f k.0, g k.1)

still_four : (a b b' c d : Bool) → (b ≡ false → b' ≡ false) → not (a || b || c || d) ≡ true → not (a || b' || c || d) ≡ true
still_four true b b' c d f h = absurd (true≢false (sym h))
still_four false true b' c d f h = absurd (true≢false (sym h))
still_four false false b' c d f h = rw (f refl) h

still_three : (a b b' c : Bool) → (b ≡ false → b' ≡ false) → not (a || b || c) ≡ true → not (a || b' || c) ≡ true
still_three true b b' c f h = absurd (true≢false (sym h))
still_three false true b' c f h = absurd (true≢false (sym h))
still_three false false b' c f h = rw (f refl) h

and_less : (a b b' : Bool) → (b ≡ false → b' ≡ false) → (a && b) ≡ false → (a && b') ≡ false
and_less true b b' f h = f h
and_less false b b' f h = refl

-- what is not bad at fewer nets is not bad at 1,024
module _ (n : ℕ) (few : n ≤ 1024) where
  bad_less : (s : ℕ) → is_bad n s ≡ false → is_bad 1024 s ≡ false
  bad_less s h =
      by_test (is_net s) (λ e. let g = good_net n s h e in rw ((or_parts (eqb s 3) (is_net s && leb n (net_of s)) h).0, e, lt-leb 1024 (net_of s) (omega arith)))
      (λ e. rw ((or_parts (eqb s 3) (is_net s && leb n (net_of s)) h).0, e))

  output_less : (s : ℕ) → is_bad_output n s ≡ false → is_bad_output 1024 s ≡ false
  output_less s = and_less (connected s) (not (is_net s) || is_inverted s || is_bad n s) (not (is_net s) || is_inverted s || is_bad 1024 s) (or_less (not (is_net s) || is_inverted s) (not (is_net s) || is_inverted s) (is_bad n s) (is_bad 1024 s) (λ x. x) (bad_less s))

  combinational_less : (c : CombinationalCell) → bad_combinational n c ≡ false → bad_combinational 1024 c ≡ false
  unfolding bad_combinational
  combinational_less c =
      or_less _ _ (is_bad_output n c.cout.0) _
      (or_less _ _ (is_bad_output n c.combout.0) _
      (or_less _ _ (is_bad n c.cin.0) _
      (or_less _ _ (is_bad n c.datad.0) _
      (or_less _ _ (is_bad n c.datac.0) _
      (or_less (is_bad n c.dataa.0) _ (is_bad n c.datab.0) _ (bad_less c.dataa.0) (bad_less c.datab.0))
      (bad_less c.datac.0))
      (bad_less c.datad.0))
      (bad_less c.cin.0))
      (output_less c.combout.0))
      (output_less c.cout.0)

  register_less : (c : RegisterCell) → bad_register n c ≡ false → bad_register 1024 c ≡ false
  unfolding bad_register
  register_less c =
      or_less _ _ (is_bad_output n c.regout.0) _
      (or_less _ _ (is_bad n c.sdata.0) _
      (or_less _ _ (is_bad n c.sload.0) _
      (or_less _ _ (is_bad n c.sclr.0) _
      (or_less _ _ (is_bad n c.aclr.0) _
      (or_less _ _ (is_bad n c.ena.0) _
      (or_less (is_bad n c.datain.0) _ (is_bad n c.clk.0) _ (bad_less c.datain.0) (bad_less c.clk.0))
      (bad_less c.ena.0))
      (bad_less c.aclr.0))
      (bad_less c.sclr.0))
      (bad_less c.sload.0))
      (bad_less c.sdata.0))
      (output_less c.regout.0)

  keeps_combinational_lem : (p : List ℕ) → keeps_combinational n p ≡ true → keeps_combinational 1024 p ≡ true
  unfolding keeps_combinational
  keeps_combinational_lem p h = still_four (ltb 1 (flag_of p)) (bad_combinational n (combinational_of p)) (bad_combinational 1024 (combinational_of p)) (connected (code_at p 7)) (bad_tail p) (combinational_less (combinational_of p)) h

  keeps_register_lem : (p : List ℕ) → keeps_register n p ≡ true → keeps_register 1024 p ≡ true
  unfolding keeps_register
  keeps_register_lem p h = still_three (ltb 0 (flag_of p)) (bad_register n (register_of p)) (bad_register 1024 (register_of p)) (bad_tail p) (register_less (register_of p)) h

  decoded_same : (p : List ℕ) → is_malformed (record_of n p) ≡ false → record_of 1024 p ≡ record_of n p
  unfolding record_of
  decoded_same p m =
      by_test (not (eqb (length p) 24)) (λ l. rw l)
      (λ l. by_test (eqb (kind_of p) 1)
      (λ k. by_test (keeps_combinational n p)
      (λ h. rw (l, k, h, keeps_combinational_lem p h))
      (λ h. absurd (true≢false (rw (l, k, h) at m))))
      (λ k. by_test (eqb (kind_of p) 2)
      (λ r. by_test (keeps_register n p)
      (λ h. rw (l, k, r, h, keeps_register_lem p h))
      (λ h. absurd (true≢false (rw (l, k, r, h) at m))))
      (λ r. rw (l, k, r))))

-- a record with the bytes of cell i says what cell i says
pub record_of_sheet : (e : List ℕ) (i : ℕ) (c : Cell) → net_count e ≤ 1024 → record_bytes c ≡ record_part e i → is_malformed (cell e i) ≡ false → record_from c ≡ cell e i
unfolding record_from cell record_at
record_of_sheet e i c few same m = rw same (decoded_same (net_count e) few (record_part e i) m)

-- none of the cells with these numbers is malformed
abbrev pub Whole : List ℕ → List ℕ → Type 0
Whole e is = (i : ℕ) → In i is → is_malformed (cell e i) ≡ false

-- each of them keeps 30 to 44
abbrev pub Keeping : List ℕ → List ℕ → Type 0
Keeping e is = (i : ℕ) → In i is → first_number (cell_checks e i) ≡ 0

pub records_of_sheet : (e is : List ℕ) (cs : List Cell) → net_count e ≤ 1024 → Whole e is → Copies e is cs → map record_from cs ≡ map (cell e) is
unfolding Copies
records_of_sheet e [] [] few whole h = refl
records_of_sheet e [] (c ∷ cs) few whole h = absurd h
records_of_sheet e (i ∷ is) [] few whole h = absurd h
records_of_sheet e (i ∷ is) (c ∷ cs) few whole h =
    rw (record_of_sheet e i c few h.0 (whole i (inl refl)), records_of_sheet e is cs few (λ j m. whole j (inr m)) h.1)

-- the list of a LAB's records of a sheet, where it passes 18, has the result of that LAB
pub list_of_sheet : (s e is : List ℕ) (cs : List Cell) → net_count e ≤ 1024 → Whole e is → Copies e is cs → no_list cs ≡ false → settings_number s ≡ 0
    → list_verdict s cs ≡ lab_result (table_of s) (map (cell e) is)
list_of_sheet s e is cs few whole h passes = list_is_lab s (map (cell e) is) cs (records_of_sheet e is cs few whole h) passes

-- ---- 18
fit_of_kind : (e : List ℕ) (i : ℕ) (c : Record) → is_malformed c ≡ false → first_number (checks_of e i c) ≡ 0 → unfit c ≡ false
unfolding unfit
fit_of_kind e i (Combinational c) m h = refl
fit_of_kind e i (Register r) m h = rw h
fit_of_kind e i Malformed m h = absurd (true≢false m)

-- a whole cell that keeps 30 to 44 is fit
fit_cell : (e : List ℕ) (i : ℕ) → is_malformed (cell e i) ≡ false → first_number (cell_checks e i) ≡ 0 → unfit (cell e i) ≡ false
unfolding cell_checks
fit_cell e i m h = fit_of_kind e i (cell e i) m h

none_unfit : (e is : List ℕ) → ((i : ℕ) → In i is → unfit (cell e i) ≡ false) → anyb unfit (map (cell e) is) ≡ false
none_unfit e [] h = refl
none_unfit e (i ∷ is) h = rw (h i (inl refl)) (none_unfit e is (λ j m. h j (inr m)))

-- the list of at most 32 whole cells that keep 30 to 44 passes 18
pub passes_18 : (e is : List ℕ) (cs : List Cell) → net_count e ≤ 1024 → Whole e is → Keeping e is → length is ≤ 32 → Copies e is cs → no_list cs ≡ false
unfolding no_list
passes_18 e is cs few whole keeps short h =
    let same = records_of_sheet e is cs few whole h in
    let long : length cs ≡ length is = sym (length-map cs record_from) ∙ ap length same ∙ length-map is (cell e) in
    rw (le-ltb 32 (length cs) (omega arith), same) (none_unfit e is (λ i m. fit_cell e i (whole i m) (keeps i m)))
