-- The sorted keys put the entries in order, by apprentice and opening minute, and they are the entries of the log. Assumes nothing.
use Prim.Native.Nat.{ℕ, zero, suc, ◌+◌, ◌*◌, ◌%◌, ◌≤◌, ◌<◌}
use mathlib.Core.Path.{◌≡◌, refl}
use mathlib.Core.Bool.{false, ◌||◌}
use mathlib.Core.List.Permᴰ
use mathlib.Core.List.{List, [], ◌∷◌, map, Permᴰ}
use native.Mathlib.Omega.{arith}
use lib.Dec.{eqb, ltb}
use borrow.Author.Tests.{ltb-false}
use Rattle.sheet.specs.Lists.{Every, from, below}
use Rattle.sheet.proofs.Laws.{or_parts}
use Rattle.sheet.proofs.Scan.{none_at}
use Rattle.sorting.specs.Sorted.{sorted}
use Rattle.sorting.proofs.Order.{Ascending, sorted_ascending, sorted_order, sorted_every}
use Rattle.tablet_log.specs.declared.Entry.{Entry}
use Rattle.tablet_log.specs.Log.{entry_count, entry_at, entries, bad_entry, bad_at}
use Rattle.tablet_log.specs.Credited.{any_bad}
use Rattle.credits.specs.passes.Keys.{key_at, entry_of, keys_of}
use Rattle.credits.proofs.Tallied.{InOrder}

-- numbers of three digits compare by the first, then by the second
digits : (a o i b p j : ℕ) → o < 16384 → p < 16384 → i < 1024 → j < 1024 → (a * 16384 + o) * 1024 + i ≤ (b * 16384 + p) * 1024 + j → (a ≤ b) × (a ≡ b → o ≤ p)
digits a o i b p j h g f k c = (omega arith, λ e. omega arith)

module _ (l : List ℕ) where
  -- a key is that of its entry, and the entry is good
  record Lawful (k : ℕ) : Type 0 where
    is : k ≡ key_at l (k % 1024)
    good : bad_at l (k % 1024) ≡ false

  opens : (k : ℕ) → Lawful k → (entry_of l k).opening < 16384
  unfolding bad_at bad_entry
  opens k f =
      let e = entry_of l k in
      let early = (or_parts (ltb 10080 e.opening) (ltb 10080 e.closing) (or_parts (ltb 10080 e.opening || ltb 10080 e.closing) (eqb e.apprentice 0) f.good).0).0 in
      omega (arith, ltb-false 10080 e.opening early)

  key_order : (j k : ℕ) → Lawful j → Lawful k → j ≤ k → ((entry_of l j).apprentice ≤ (entry_of l k).apprentice) × ((entry_of l j).apprentice ≡ (entry_of l k).apprentice → (entry_of l j).opening ≤ (entry_of l k).opening)
  unfolding key_at
  key_order j k f g h =
      let d = entry_of l j in
      let e = entry_of l k in
      digits d.apprentice d.opening (j % 1024) e.apprentice e.opening (k % 1024) (opens j f) (opens k g) (omega arith) (omega arith)
      (omega (arith, f.is, g.is))

  in_order : (ks : List ℕ) (b a o : ℕ) → ((k : ℕ) → Lawful k → b ≤ k → (a ≤ (entry_of l k).apprentice) × (a ≡ (entry_of l k).apprentice → o ≤ (entry_of l k).opening))
      → Ascending b ks → Every Lawful ks → InOrder a o (map (entry_of l) ks)
  in_order [] b a o h r f = tt
  in_order (k ∷ ks) b a o h r f =
      let n = h k f.0 r.0 in
      (n.0, n.1, in_order ks k (entry_of l k).apprentice (entry_of l k).opening (λ j g c. key_order k j f.0 g c) r.1 f.1)

  -- ---- the keys of the entries
  key_number : (i : ℕ) → i < 1024 → key_at l i % 1024 ≡ i
  unfolding key_at
  key_number i h = omega arith

  lawful_at : (i : ℕ) → i < 1024 → bad_at l i ≡ false → Lawful (key_at l i)
  lawful_at i h g = record { is = rw (key_number i h); good = rw (key_number i h) g }

  all_lawful : (i k : ℕ) → i + k ≤ 1024 → ((j : ℕ) → j < i + k → bad_at l j ≡ false) → Every Lawful (map (key_at l) (from i k))
  all_lawful i zero h g = tt
  all_lawful i (suc k) h g = (lawful_at i (omega arith) (g i (omega arith)), all_lawful (suc i) k (omega arith) (λ j c. g j (omega arith)))

  back : (i k : ℕ) → i + k ≤ 1024 → map (entry_of l) (map (key_at l) (from i k)) ≡ map (entry_at l) (from i k)
  back i zero h = refl
  back i (suc k) h = rw (key_number i (omega arith), back (suc i) k (omega arith))

  module _ (few : entry_count l ≤ 1024) (good : any_bad l ≡ false) where
    abbrev pub ordered : List Entry
    ordered = map (entry_of l) (keys_of l (entry_count l))

    pub ordered_in_order : InOrder 0 0 ordered
    unfolding keys_of any_bad
    ordered_in_order =
        let ks = map (key_at l) (below (entry_count l)) in
        in_order (sorted ks) 0 0 0 (λ k f h. (omega arith, λ e. omega arith)) (sorted_ascending ks)
        (sorted_every Lawful ks (all_lawful 0 (entry_count l) (omega arith) (λ j c. none_at (bad_at l) (entry_count l) good j (omega arith))))

    pub ordered_order : Permᴰ ordered (entries l)
    unfolding keys_of entries
    ordered_order = rw (← back 0 (entry_count l) (omega arith)) (Permᴰ.map (entry_of l) (sorted_order (map (key_at l) (below (entry_count l)))))
