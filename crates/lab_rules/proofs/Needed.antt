-- A LAB that keeps 60 to 63 has its needs in its counts, and no role has more needs than route bytes: eight in all.
-- Assumes nothing.
use Rattle.std.proofs.lemmas.Bool.Decides.{nat_tests}
use Prim.Native.Nat.{ℕ, zero, suc, ◌+◌, ◌≤◌, ◌<◌}
use mathlib.Core.Path.{◌≡◌, refl, sym, ap, ◌∙◌}
use mathlib.Core.Logic.{inl, inr, ⊎_elim}
use mathlib.Core.Bool.{Bool, true, false, cond, ◌&&◌}
use mathlib.Core.List.{List, [], ◌∷◌, map}
use native.Mathlib.Omega.{arith}
use lib.ListN.{length, get_or, length-append, length-map}
use lib.Dec.{eqb, ltb}
use borrow.Author.Tests.{ltb-false, leb-true, ne_eqb}
use Rattle.sheet.specs.Lists.{filterb, Every}
use Rattle.sheet.specs.Signal.{connected, is_net}
use Rattle.exercise.specs.declared.RegisterCell.{RegisterCell}
use Rattle.exercise.specs.declared.Record.{Record}
use Rattle.exercise.specs.declared.Record.TheVariants.{Combinational, Register, Malformed}
use Rattle.sheet.proofs.Laws.{by_test, or_parts}
use Rattle.sheet.proofs.Lists.{filter-append, filter-length}
use Rattle.distinct.specs.Rising.{rising, distinct}
use Rattle.distinct.specs.passes.UpToTwo.{up_to_two}
use Rattle.distinct.proofs.Rising.{In, in_append, append_in, in_map, rising_filter, distinct_image}
use Rattle.distinct.proofs.Nets.{in_elem}
use Rattle.distinct.proofs.Codes.{codes_held}
use Rattle.entries.specs.declared.Need.{Need}
use Rattle.entries.specs.Table.{CLK, ENA, ACLR, SCLR, SLOAD}
use Rattle.lab_nets.specs.NetsIn.{inputs}
use Rattle.lab_rules.specs.Ports.{clk, ena, aclr, sclr, sload, counted, clock, clock_pair, clear, pair, in_use, synchronous, needed, in_lab}
use Rattle.lab_rules.specs.Rules.{too_many_clocks, too_many_pairs, too_many_clears, too_many_synchronous, needs_of_role, needs}
use Rattle.lab_rules.specs.Stricter.{used_at, too_many_apart, SixteenBits, Stricter}
use Rattle.lab_rules.specs.passes.Counts.{counts_of, only_code, first, second, needs_held, Fit, AllFit}
use Rattle.lab_rules.proofs.InLab.{lab_made}
use Rattle.lab_rules.proofs.Stricter.{second_of, Half, sclr_half, sload_half, one_pair, one_half, stricter}

-- ---- lists
only_held : (l : List ℕ) → length l ≤ 1 → only_code (up_to_two l) ≡ l
unfolding up_to_two only_code
only_held [] h = refl
only_held (a ∷ []) h = refl
only_held (a ∷ b ∷ l) h = absurd (omega arith)

-- ---- codes of 16 bits
ports_small : (r : RegisterCell) → Fit (Register r) → (clk r < 65536) × (ena r < 65536) × (aclr r < 65536) × (sclr r < 65536) × (sload r < 65536)
unfolding inputs
ports_small r fit = (
  small (clk r) (inr (inl refl)),
  small (ena r) (inr (inr (inl refl))),
  small (aclr r) (inr (inr (inr (inl refl)))),
  small (sclr r) (inr (inr (inr (inr (inl refl))))),
  small (sload r) (inr (inr (inr (inr (inr (inl refl)))))),
)
  where
    small : (s : ℕ) → In s (inputs (Register r)) → s < 65536
    small s m = omega (arith, fit.small_inputs s (in_elem s (inputs (Register r)) m))

all_small : (cs : List Record) → AllFit cs → Every SixteenBits cs
all_small [] fit = tt
all_small (Register r ∷ cs) fit = (let p = ports_small r fit.0 in (p.3, p.4), all_small cs fit.1)
all_small (Combinational c ∷ cs) fit = (tt, all_small cs fit.1)
all_small (Malformed ∷ cs) fit = (tt, all_small cs fit.1)

-- ---- a port's nets are the nets among what counts there
-- the test of `net_codes`
abbrev net_code : ℕ → Bool
net_code s = is_net s && ltb s 65536

-- where a net counts as itself, and nothing else that counts is a net
one_net : (s : ℕ) (b : Bool) (other : List ℕ) → s < 65536 → (4 ≤ s → b ≡ true) → filterb net_code other ≡ []
    → filterb net_code (cond b (s ∷ []) other) ≡ cond (is_net s) (s ∷ []) []
one_net s b other small h none = grind (arith, nat_tests)

net_used : (s : ℕ) → 4 ≤ s → in_use s ≡ true
net_used s n = grind (arith, nat_tests)

module _ (port : RegisterCell → ℕ) (r : RegisterCell) (small : port r < 65536) where
  nets_counted : (default : ℕ) → is_net default ≡ false → filterb net_code (counted port default r) ≡ needed port r
  unfolding counted needed
  nets_counted default q = grind (arith, nat_tests)

  nets_in_use : filterb net_code (used_at port r) ≡ needed port r
  unfolding used_at needed
  nets_in_use = grind (arith, nat_tests)

  nets_needed : filterb net_code (needed port r) ≡ needed port r
  unfolding needed
  nets_needed = grind (arith, nat_tests)

-- nothing that is not in use is a net
nets_among : (l : List ℕ) → filterb net_code (filterb in_use l) ≡ filterb net_code l
nets_among [] = refl
nets_among (s ∷ l) = grind (arith, nat_tests, nets_among l)

module _ (f g : RegisterCell → List ℕ) (h : (r : RegisterCell) → Fit (Register r) → filterb net_code (f r) ≡ g r) where
  nets_rising : (cs : List Record) → AllFit cs → filterb net_code (rising (in_lab f cs)) ≡ rising (in_lab g cs)
  nets_rising cs fit = rising_filter net_code (in_lab f cs) ∙ ap rising (lab_made (filterb net_code) refl (filter-append net_code) Fit f g h cs fit)

-- ---- each ena that is a net has a pair of its own
ena_pair : (r : RegisterCell) → Fit (Register r) → (z : ℕ) → In z (needed ena r) → (a : ℕ) × In a (clock_pair r) × (z ≡ second a)
unfolding needed clock_pair counted
ena_pair r fit z m =
    by_test (is_net (ena r))
    (λ n. let k : connected (ena r) ≡ true = let g = leb-true 4 (ena r) n in rw (ne_eqb (ena r) 0 (λ e. omega arith)) in
    let e : z ≡ ena r = ⊎_elim (λ q. q) (λ q. absurd q) (rw n at m) in
    (pair (clk r) (ena r), rw (fit.clocked r refl k, k) (inl refl), e ∙ sym (second_of (clk r) (ena r) (ports_small r fit).1)))
    (λ n. absurd (rw n at m))

ena_pairs : (cs : List Record) → AllFit cs → (z : ℕ) → In z (in_lab (needed ena) cs) → (a : ℕ) × In a (in_lab clock_pair cs) × (z ≡ second a)
unfolding in_lab
ena_pairs [] fit z m = absurd m
ena_pairs (Register r ∷ cs) fit z m =
    ⊎_elim
    (λ n. let g = ena_pair r fit.0 z n in (g.0, append_in g.0 (clock_pair r) (in_lab clock_pair cs) (inl g.1), g.2))
    (λ n. let g = ena_pairs cs fit.1 z n in (g.0, append_in g.0 (clock_pair r) (in_lab clock_pair cs) (inr g.1), g.2))
    (in_append z (needed ena r) (in_lab (needed ena) cs) m)
ena_pairs (Combinational c ∷ cs) fit z m = ena_pairs cs fit.1 z m
ena_pairs (Malformed ∷ cs) fit z m = ena_pairs cs fit.1 z m

pub fewer_enables : (cs : List Record) → AllFit cs → distinct (in_lab (needed ena) cs) ≤ distinct (in_lab clock_pair cs)
fewer_enables cs fit =
    distinct_image second (in_lab (needed ena) cs) (in_lab clock_pair cs)
    (λ z m. let g = ena_pairs cs fit z m in in_map second z g.0 (in_lab clock_pair cs) g.1 g.2)

-- ---- needs by role
abbrev has_role : ℕ → Need → Bool
has_role role n = eqb n.role role

role_count : (role k : ℕ) (codes : List ℕ) → length (filterb (has_role role) (needs_of_role k codes)) ≡ cond (eqb k role) (length codes) 0
role_count role k [] = grind (arith, nat_tests)
role_count role k (s ∷ codes) = grind (arith, nat_tests, role_count role k codes)

module _ (cs : List Record) where
  -- the port's nets are the nets among what f gives of a LAB
  abbrev Nets : (RegisterCell → List ℕ) → (RegisterCell → ℕ) → Type 0
  Nets f port = filterb net_code (rising (in_lab f cs)) ≡ rising (in_lab (needed port) cs)

  nets_fewer : (f : RegisterCell → List ℕ) (port : RegisterCell → ℕ) → Nets f port → distinct (in_lab (needed port) cs) ≤ distinct (in_lab f cs)
  nets_fewer f port e = omega (arith, filter-length net_code (rising (in_lab f cs)), ap length e)

  -- how many needs of a role there are
  in_role : (role : ℕ) → length (filterb (has_role role) (needs cs)) ≡
      cond (eqb CLK role) (distinct (in_lab (needed clk) cs)) 0
      + cond (eqb ENA role) (distinct (in_lab (needed ena) cs)) 0
      + cond (eqb ACLR role) (distinct (in_lab (needed aclr) cs)) 0
      + cond (eqb SCLR role) (distinct (in_lab (needed sclr) cs)) 0
      + cond (eqb SLOAD role) (distinct (in_lab (needed sload) cs)) 0
  unfolding needs
  in_role role = simp (filter-append, length-append, role_count)

  module _ (fit : AllFit cs) where
    nets_clk : Nets clock clk
    nets_clk = nets_rising clock (needed clk) (λ r g. nets_counted clk r (ports_small r g).0 _ refl) cs fit

    nets_ena : Nets (needed ena) ena
    nets_ena = nets_rising (needed ena) (needed ena) (λ r g. nets_needed ena r (ports_small r g).1) cs fit

    nets_aclr : Nets clear aclr
    nets_aclr = nets_rising clear (needed aclr) (λ r g. nets_counted aclr r (ports_small r g).2 _ refl) cs fit

    nets_sclr : Nets (used_at sclr) sclr
    nets_sclr = nets_rising (used_at sclr) (needed sclr) (λ r g. nets_in_use sclr r (ports_small r g).3) cs fit

    nets_sload : Nets (used_at sload) sload
    nets_sload = nets_rising (used_at sload) (needed sload) (λ r g. nets_in_use sload r (ports_small r g).4) cs fit

    module _ (h60 : too_many_clocks cs ≡ false) (h61 : too_many_pairs cs ≡ false) (h62 : too_many_clears cs ≡ false) (h63 : too_many_synchronous cs ≡ false) where
      -- what 60 to 63 say of the counts
      clocks_two : distinct (in_lab clock cs) ≤ 2
      unfolding too_many_clocks
      clocks_two = ltb-false 2 (distinct (in_lab clock cs)) h60

      enables_two : distinct (in_lab (needed ena) cs) ≤ 2
      unfolding too_many_pairs
      enables_two = omega (arith, fewer_enables cs fit, ltb-false 2 (distinct (in_lab clock_pair cs)) h61)

      clears_two : distinct (in_lab clear cs) ≤ 2
      unfolding too_many_clears
      clears_two = ltb-false 2 (distinct (in_lab clear cs)) h62

      apart_one : (distinct (in_lab (used_at sclr) cs) ≤ 1) × (distinct (in_lab (used_at sload) cs) ≤ 1)
      unfolding Stricter too_many_apart
      apart_one =
          let g = or_parts (ltb 1 (distinct (in_lab (used_at sclr) cs))) (ltb 1 (distinct (in_lab (used_at sload) cs))) (stricter cs (all_small cs fit) h63) in
          (ltb-false 1 (distinct (in_lab (used_at sclr) cs)) g.0, ltb-false 1 (distinct (in_lab (used_at sload) cs)) g.1)

      -- the nets of the one pair
      pair_nets : (half : ℕ → ℕ) (port : RegisterCell → ℕ) → Half half port → Nets (used_at port) port
          → filterb net_code (map half (rising (in_lab synchronous cs))) ≡ rising (in_lab (needed port) cs)
      pair_nets half port h n =
          sym (nets_among (map half (rising (in_lab synchronous cs))))
          ∙ ap (filterb net_code) (one_half half port h cs (all_small cs fit) (one_pair cs h63))
          ∙ n

      -- 65
      pub needs_held_lem : needs_held (counts_of cs) ≡ needs cs
      unfolding needs_held counts_of needs
      needs_held_lem =
          rw (
            codes_held (rising (in_lab clock cs)) clocks_two,
            codes_held (rising (in_lab (needed ena) cs)) enables_two,
            codes_held (rising (in_lab clear cs)) clears_two,
            only_held (rising (in_lab synchronous cs)) (one_pair cs h63),
            nets_clk,
            nets_ena,
            nets_aclr,
            pair_nets second sclr sclr_half nets_sclr,
            pair_nets first sload sload_half nets_sload,
          )

      bounds : (distinct (in_lab (needed clk) cs) ≤ 2) × (distinct (in_lab (needed ena) cs) ≤ 2) × (distinct (in_lab (needed aclr) cs) ≤ 2)
          × (distinct (in_lab (needed sclr) cs) ≤ 1) × (distinct (in_lab (needed sload) cs) ≤ 1)
      bounds = (
        omega (arith, clocks_two, nets_fewer clock clk nets_clk),
        enables_two,
        omega (arith, clears_two, nets_fewer clear aclr nets_aclr),
        omega (arith, apart_one.0, nets_fewer (used_at sclr) sclr nets_sclr),
        omega (arith, apart_one.1, nets_fewer (used_at sload) sload nets_sload),
      )

      pub needs_eight : length (needs cs) ≤ 8
      unfolding needs
      needs_eight = simp (length-append, length-map) (omega (arith, bounds))

      pub needs_room : (role : ℕ) → length (filterb (λ n. eqb n.role role) (needs cs)) ≤ get_or (2 ∷ 2 ∷ 2 ∷ 1 ∷ 1 ∷ []) role 0
      needs_room zero = omega (arith, in_role 0, bounds.0)
      needs_room (suc zero) = omega (arith, in_role 1, bounds.1)
      needs_room (suc (suc zero)) = omega (arith, in_role 2, bounds.2)
      needs_room (suc (suc (suc zero))) = omega (arith, in_role 3, bounds.3)
      needs_room (suc (suc (suc (suc zero)))) = omega (arith, in_role 4, bounds.4)
      needs_room (suc (suc (suc (suc (suc r))))) =
          let n : ℕ = suc (suc (suc (suc (suc r)))) in
          let other : (k : ℕ) → k < 5 → eqb k n ≡ false = λ k h. ne_eqb k n (λ e. omega arith) in
          omega (arith, rw (other CLK (omega arith), other ENA (omega arith), other ACLR (omega arith), other SCLR (omega arith), other SLOAD (omega arith)) at (in_role n))
