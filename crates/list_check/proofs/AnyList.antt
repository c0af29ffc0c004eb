-- The list check of any list. A list that passes 18 has the number of the settings sheet, or else the result of a LAB with its cells, whose number
-- and route bytes speak of all ways; 18 asks how many records there are and whether one is unfit, so their order does not matter there either. Assumes nothing.
use Prim.Native.Nat.{ℕ, ◌≤◌, ◌<◌}
use mathlib.Core.Path.{◌≡◌, refl, sym, ap, ◌∙◌}
use mathlib.Core.Logic.{◌↔◌}
use mathlib.Core.Bool.{Bool, true, false, cond}
use mathlib.Core.List.Permᴰ
use mathlib.Core.List.{List, map, Permᴰ}
use native.Mathlib.Omega.{arith}
use lib.ListN.{length, replicate}
use lib.Dec.{eqb, ltb}
use borrow.Author.Tests.{eqb-true, eqb-false, ne_eqb}
use Rattle.sheet.specs.Lists.{anyb}
use Rattle.sheet.proofs.Laws.{by_test, or_parts}
use Rattle.sheet.proofs.Order.{length_order, test_order}
use Rattle.entries.specs.Table.{Table}
use Rattle.route.specs.Route.{HoldsEarliest}
use Rattle.lab_rules.specs.Rules.{LabResult, lab_number, route_of, lab_result, no_way}
use Rattle.settings.specs.Settings.{settings_number, table_of}
use Rattle.settings.proofs.Laws.{settings_high}
use Rattle.lab_rules.proofs.Checks.{not_18, lab_low}
use Rattle.lab_rules.proofs.Routes.{told, stuck, goes, lab_legal}
use Rattle.lab_rules.proofs.Order as order
use Rattle.exercise.specs.Record.{Cell}
use Rattle.list_check.specs.ListCheck.{record_from, unfit, no_list, list_verdict}
use Rattle.list_check.specs.AnyList.{cells_of, list_needs, KeepsTo64, AnyList}
use Rattle.list_check.proofs.Taken.{all_fit, list_is_lab, list_unset, list_refused}

-- ---- 18 in another order
module _ (cs ds : List Cell) (p : Permᴰ cs ds) where
  same_list : no_list cs ≡ no_list ds
  unfolding no_list
  same_list = rw (length_order cs ds p, test_order unfit (map record_from cs) (map record_from ds) (Permᴰ.map record_from p))

  pub same_verdict : (s : List ℕ) → list_verdict s cs ≡ list_verdict s ds
  same_verdict s =
      by_test (no_list ds)
      (λ h. list_refused s cs (same_list ∙ h) ∙ sym (list_refused s ds h))
      (λ h. by_test (eqb (settings_number s) 0)
      (λ q. let z = eqb-true (settings_number s) 0 q in
      list_is_lab s (cells_of cs) cs refl (same_list ∙ h) z ∙ order.any_order (cells_of cs) (cells_of ds) (Permᴰ.map record_from p) (table_of s)
      ∙ sym (list_is_lab s (cells_of ds) ds refl h z))
      (λ q. let n = eqb-false (settings_number s) 0 q in list_unset s cs (same_list ∙ h) n ∙ sym (list_unset s ds h n)))

-- ---- all ways
module _ (s : List ℕ) (cs : List Cell) where
  abbrev t : Table
  t = table_of s

  abbrev number : ℕ
  number = (list_verdict s cs).number

  number_18 : no_list cs ≡ true → number ≡ 18
  number_18 h = ap (λ (r : LabResult). r.number) (list_refused s cs h)

  number_settings : no_list cs ≡ false → (settings_number s ≡ 0 → ⊥) → number ≡ settings_number s
  number_settings h n = ap (λ (r : LabResult). r.number) (list_unset s cs h n)

  number_lab : no_list cs ≡ false → settings_number s ≡ 0 → number ≡ lab_number t (cells_of cs)
  unfolding lab_result
  number_lab h z = ap (λ (r : LabResult). r.number) (list_is_lab s (cells_of cs) cs refl h z)

  bytes_lab : no_list cs ≡ false → settings_number s ≡ 0 → number ≡ 0 → (list_verdict s cs).bytes ≡ route_of t (cells_of cs)
  unfolding lab_result
  bytes_lab h y z = ap (λ (r : LabResult). r.bytes) (list_is_lab s (cells_of cs) cs refl h y) ∙ rw (sym (number_lab h y) ∙ z)

  -- each number, by who says it: the list, the settings sheet, the LAB
  by_part : {G : Type 0} → (no_list cs ≡ true → number ≡ 18 → G)
      → (no_list cs ≡ false → (settings_number s ≡ 0 → ⊥) → 70 ≤ settings_number s → number ≡ settings_number s → G)
      → (no_list cs ≡ false → settings_number s ≡ 0 → number ≡ lab_number t (cells_of cs) → G) → G
  by_part list sheet lab =
      by_test (no_list cs) (λ h. list h (number_18 h))
      (λ h. by_test (eqb (settings_number s) 0) (λ q. let z = eqb-true (settings_number s) 0 q in lab h z (number_lab h z))
      (λ q. let n = eqb-false (settings_number s) 0 q in sheet h n (settings_high s n) (number_settings h n)))

  -- 0 or 65 is said of a list that passes 18 beside a settings sheet that passes 70 to 75
  passed : (n : ℕ) → (n ≡ 18 → ⊥) → n < 70 → number ≡ n → (no_list cs ≡ false) × (settings_number s ≡ 0)
  passed n d low q = by_part (λ h e. absurd (d (sym q ∙ e))) (λ h m high e. absurd (omega arith)) (λ h z e. (h, z))

  list_told : (b : Bool) → (number ≡ cond b 65 0) ↔ (KeepsTo64 s cs × (no_way t (cells_of cs) ≡ b))
  list_told b = (
    λ q. let h = passed (cond b 65 0) (neither b) (low b) q in let g = (told t (cells_of cs) b).0 (sym (number_lab h.0 h.1) ∙ q) in ((h.0, h.1, g.0), g.1),
    λ g. number_lab g.0.0 g.0.1 ∙ (told t (cells_of cs) b).1 (g.0.2, g.1),
  )
    where
      neither : (b : Bool) → ◌≡◌ {A = ℕ} (cond b 65 0) 18 → ⊥
      neither true e = omega arith
      neither false e = omega arith

      low : (b : Bool) → cond b 65 0 < 70
      low true = omega arith
      low false = omega arith

  fit : no_list cs ≡ false → anyb unfit (cells_of cs) ≡ false
  unfolding no_list
  fit h = (or_parts (ltb 32 (length cs)) (anyb unfit (cells_of cs)) h).1

  earliest : number ≡ 0 → HoldsEarliest t (list_needs cs) (list_verdict s cs).bytes
  earliest z =
      let (h, y) = passed 0 (λ e. omega arith) (omega arith) z in
      rw (bytes_lab h y z) (lab_legal t (cells_of cs) (all_fit cs (fit h)) (sym (number_lab h y) ∙ z))

  otherwise_255 : (number ≡ 0 → ⊥) → (list_verdict s cs).bytes ≡ replicate 8 255
  unfolding list_verdict
  otherwise_255 n = rw (ne_eqb number 0 n)

  -- 18
  refusal_18 : (number ≡ 18) ↔ (no_list cs ≡ true)
  refusal_18 =
      (λ q. by_part (λ h e. h) (λ h m high e. absurd (omega arith)) (λ h z e. absurd (not_18 t (cells_of cs) (sym e ∙ q))), number_18)

  -- 70 to 75
  refusal_70s : (n : ℕ) → 70 ≤ n → (number ≡ n) ↔ ((no_list cs ≡ false) × (settings_number s ≡ n))
  refusal_70s n high = (
    λ q. by_part (λ h e. absurd (omega arith)) (λ h m up e. (h, sym e ∙ q)) (λ h z e. absurd (omega (arith, lab_low t (cells_of cs)))),
    λ g. number_settings g.0 (λ z. omega (arith, g.1)) ∙ g.1,
  )

pub any_list : AnyList
unfolding AnyList
any_list s cs = record {
  refusal_18 = refusal_18 s cs;
  refusal_70s = refusal_70s s cs;
  refusal_65 = (
    λ q. let g = (list_told s cs true).0 q in (g.0, (stuck (table_of s) (cells_of cs)).0 g.1),
    λ g. (list_told s cs true).1 (g.0, (stuck (table_of s) (cells_of cs)).1 g.1),
  );
  legal = (
    λ q. let g = (list_told s cs false).0 q in (g.0, (goes (table_of s) (cells_of cs)).0 g.1),
    λ g. (list_told s cs false).1 (g.0, (goes (table_of s) (cells_of cs)).1 g.1),
  );
  earliest = earliest s cs;
  otherwise_255 = otherwise_255 s cs;
  any_order = λ ds p. same_verdict cs ds p s;
}
