-- The needs of fewer registers are among the needs of all, so fewer registers never have more distinct signals, nor lose their way.
-- Assumes nothing.
use Prim.Native.Nat.{ℕ, ◌≤◌}
use mathlib.Core.Path.{ap}
use mathlib.Core.Logic.{inl, inr, ⊎_elim}
use mathlib.Core.List.Sublistᴰ
use mathlib.Core.List.{List, [], ◌∷◌, ◌++◌, map, Sublistᴰ}
use Rattle.exercise.specs.declared.RegisterCell.{RegisterCell}
use Rattle.exercise.specs.declared.Record.{Record}
use Rattle.distinct.specs.Rising.{distinct}
use Rattle.distinct.proofs.Rising.{In, in_append, append_in, rising_part, distinct_mono}
use Rattle.entries.specs.Table.{Table, CLK, ENA, ACLR, SCLR, SLOAD}
use Rattle.route.specs.Way.{Way}
use Rattle.route.proofs.Ways.{way_part}
use Rattle.lab_rules.specs.Ports.{clk, ena, aclr, sclr, sload, needed, of_register, in_lab}
use Rattle.lab_rules.specs.Rules.{needs_at, needs}

map_part : {A B : Type 0} (f : A → B) {xs ys : List A} → Sublistᴰ xs ys → Sublistᴰ (map f xs) (map f ys)
map_part f Sublistᴰ.slnil = Sublistᴰ.slnil
map_part f (Sublistᴰ.cons s) = Sublistᴰ.cons (map_part f s)
map_part f (Sublistᴰ.cons-cons e s) = Sublistᴰ.cons-cons (ap f e) (map_part f s)

lab_in : (f : RegisterCell → List ℕ) (cs : List Record) (c : Record) (ds : List Record) (z : ℕ) → In z (in_lab f (cs ++ ds)) → In z (in_lab f (cs ++ c ∷ ds))
unfolding in_lab
lab_in f [] c ds z m = append_in z (of_register f c) (in_lab f ds) (inr m)
lab_in f (d ∷ cs) c ds z m =
    append_in z (of_register f d) (in_lab f (cs ++ c ∷ ds))
    (⊎_elim (λ n. inl n) (λ n. inr (lab_in f cs c ds z n)) (in_append z (of_register f d) (in_lab f (cs ++ ds)) m))

pub count_falls : (f : RegisterCell → List ℕ) (cs : List Record) (c : Record) (ds : List Record) → distinct (in_lab f (cs ++ ds)) ≤ distinct (in_lab f (cs ++ c ∷ ds))
count_falls f cs c ds = distinct_mono (in_lab f (cs ++ ds)) (in_lab f (cs ++ c ∷ ds)) (lab_in f cs c ds)

module _ (cs : List Record) (c : Record) (ds : List Record) where
  role_part : (role : ℕ) (port : RegisterCell → ℕ) → Sublistᴰ (needs_at role port (cs ++ ds)) (needs_at role port (cs ++ c ∷ ds))
  role_part role port = map_part _ (rising_part (in_lab (needed port) (cs ++ ds)) (in_lab (needed port) (cs ++ c ∷ ds)) (lab_in (needed port) cs c ds))

  pub needs_part : Sublistᴰ (needs (cs ++ ds)) (needs (cs ++ c ∷ ds))
  unfolding needs
  needs_part =
      Sublistᴰ.append (Sublistᴰ.append (Sublistᴰ.append (Sublistᴰ.append
      (role_part CLK clk) (role_part ENA ena)) (role_part ACLR aclr)) (role_part SCLR sclr)) (role_part SLOAD sload)

pub way_stays : (t : Table) (cs : List Record) (c : Record) (ds : List Record) (w : List ℕ) → Way t (needs (cs ++ c ∷ ds)) w → (v : List ℕ) × Way t (needs (cs ++ ds)) v
way_stays t cs c ds w p = way_part t (needs_part cs c ds) w p
