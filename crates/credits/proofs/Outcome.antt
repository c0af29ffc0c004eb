-- The ways out of `credit` and `minutes`: refused, or both lists filled. Assumes nothing.
use Prim.Native.Nat.{ℕ, ◌≤◌, ◌<◌}
use mathlib.Core.Path.{◌≡◌, refl, ap, ◌∙◌}
use mathlib.Core.Bool.{true, false, cond}
use mathlib.Core.List.{List, [], ◌∷◌, map}
use native.Mathlib.Omega.{arith}
use lib.ListN.{length, length-map}
use lib.Seq.{sets}
use lib.Dec.{eqb, ltb}
use borrow.Author.Tests.{eq-eqb, eqb-true, eqb-false, ne_eqb, lt-ltb, le-ltb, ltb-false}
use Rattle.sheet.specs.Lists.{below}
use Rattle.sheet.specs.declared.refusal.Refusal.{Refusal}
use Rattle.sheet.specs.Refusals.{number_of}
use Rattle.sheet.proofs.Refusals.{refused_number}
use Rattle.sheet.proofs.Laws.{by_test}
use Rattle.sheet.specs.Checks.{check}
use Rattle.sheet.proofs.Lists.{filter-length, below_length, sets_front}
use Rattle.sheet.proofs.Checks.{all_held, in_turn}
use Rattle.tablet_log.specs.Log.{entry_count, entry_at, entries}
use Rattle.tablet_log.specs.Minutes.{apprentices, row_of, rows_of, covers_none, empty_below, listed_of}
use Rattle.tablet_log.specs.Credited.{Credited, over_limit, any_bad, too_many, log_checks, log_number, refusal, filled_with, credited, credits_after, numbers_after}
use Rattle.tablet_log.proofs.Order.{order_apprentices, order_rows}
use Rattle.credits.specs.passes.Keys.{entry_of, keys_of}
use Rattle.std.specs.Prelude.{None}
use Rattle.credits.specs.passes.Rows.{rows_begun, row_after, rows_by}
use Rattle.sorting.specs.Sorted.{sorted}
use Rattle.credits.proofs.Tallied.{tallied}
use Rattle.credits.proofs.Ordered.{ordered, ordered_in_order, ordered_order}

-- what the call says, and the lists at exit
abbrev pub Outcome : List ℕ → List (List ℕ) → List ℕ → Credited → List (List ℕ) → List ℕ → Type 0
Outcome l rows numbers r rows' numbers' =
    record {
      told : r ≡ credited l (length rows) (length numbers);
      minutes : rows' ≡ credits_after l rows numbers;
      listed : numbers' ≡ numbers_after l rows numbers;
    }

module _ (l : List ℕ) (none : log_number l ≡ 0) where
  few_entries : entry_count l ≤ 1024
  unfolding log_number over_limit
  few_entries = ltb-false 1024 (entry_count l) (all_held (log_checks l) refl none).1.1.1.0

  good : any_bad l ≡ false
  unfolding log_number
  good = (all_held (log_checks l) refl none).1.1.1.1.1.0

  -- there are no more keys than entries
  pub keys_few : (n : ℕ) → n ≡ entry_count l → n ≤ 1024
  keys_few n e = omega (arith, few_entries)

-- ---- refused
module _ (l : List ℕ) (rows : List (List ℕ)) (numbers : List ℕ) where
  refused_by : (n : ℕ) (r : Credited) → r ≡ record { number = n; rows = 0; entries = 0 } → refusal l (length rows) (length numbers) ≡ n → (n ≡ 0 → ⊥) → Outcome l rows numbers r rows numbers
  unfolding credited credits_after numbers_after
  refused_by n r e k h = let other = ne_eqb n 0 h in record { told = e ∙ rw (k, other); minutes = rw (k, other); listed = rw (k, other) }

  -- 87, by either list
  pub refused_lists : (r : Credited) → r ≡ record { number = 87; rows = 0; entries = 0 } → (length rows ≡ 64 → length numbers ≡ 1024 → ⊥) → Outcome l rows numbers r rows numbers
  unfolding refusal
  refused_lists r e h =
      by_test (eqb (length rows) 64)
      (λ t. refused_by 87 r e (rw (t, ne_eqb (length numbers) 1024 (h (eqb-true (length rows) 64 t)))) (λ z. omega arith))
      (λ t. refused_by 87 r e (rw t) (λ z. omega arith))

  module _ (g : length rows ≡ 64) (h : length numbers ≡ 1024) where
    -- 80 to 85, then 86
    by_log : refusal l (length rows) (length numbers) ≡ cond (eqb (log_number l) 0) (cond (too_many l) 86 0) (log_number l)
    unfolding refusal log_number
    by_log = rw (eq-eqb (length rows) 64 g, eq-eqb (length numbers) 1024 h) (in_turn (log_checks l) (check 86 (too_many l) ∷ []) refl)

    pub refused_log : (f : Refusal) (r : Credited) → number_of f ≡ log_number l → r ≡ record { number = number_of f; rows = 0; entries = 0 } → Outcome l rows numbers r rows numbers
    refused_log f r k e = refused_by (number_of f) r e (by_log ∙ rw (← k, refused_number f)) (eqb-false (number_of f) 0 (refused_number f))

    module _ (none : log_number l ≡ 0) where
      abbrev few : entry_count l ≤ 1024
      few = few_entries l none

      abbrev all_good : any_bad l ≡ false
      all_good = good l none

      module _ (n : ℕ) (ks : List ℕ) (e : n ≡ entry_count l) (k : ks ≡ keys_of l n) (p : ℕ) (q : p ≡ rows_begun (row_after None (map (entry_of l) ks))) where
        is_ordered : map (entry_of l) ks ≡ ordered l few all_good
        is_ordered = rw (k, e)

        people : p ≡ length (apprentices (entries l))
        people = q ∙ rw is_ordered ((tallied (ordered l few all_good) [] (ordered_in_order l few all_good)).0 ∙ ap length (order_apprentices (ordered_order l few all_good)))

        -- 86
        pub refused_many : (r : Credited) → 64 < p → r ≡ record { number = 86; rows = 0; entries = 0 } → Outcome l rows numbers r rows numbers
        unfolding too_many
        refused_many r c f =
            let many : ltb 64 (length (apprentices (entries l))) ≡ true = lt-ltb 64 (length (apprentices (entries l))) (omega (arith, people)) in
            refused_by 86 r f (by_log ∙ rw (none, many)) (λ z. omega arith)

        -- ---- filled
        rows_filled : (rows' : List (List ℕ)) → p ≤ 64 → rows' ≡ rows_by None rows (map (entry_of l) ks) → rows' ≡ filled_with (rows_of (entries l)) rows
        unfolding rows_of
        rows_filled rows' c f =
            let long = length-map (apprentices (entries l)) (row_of (entries l)) in
            f ∙ rw is_ordered (tallied (ordered l few all_good) rows (ordered_in_order l few all_good)).1
            ∙ ap (λ (rs : List (List ℕ)). sets rows 0 rs) (order_rows (ordered_order l few all_good))
            ∙ sets_front rows (rows_of (entries l)) (omega (arith, long, people))

        numbers_fit : length (listed_of l) ≤ length numbers
        unfolding empty_below
        numbers_fit = omega (arith, filter-length (λ i. covers_none (entry_at l i)) (below (entry_count l)), below_length (entry_count l), few)

        pub lists_filled : (rows' : List (List ℕ)) (numbers' : List ℕ) (m c : ℕ) → p ≤ 64 → rows' ≡ rows_by None rows (map (entry_of l) ks) → m ≡ entry_count l
            → c ≡ length (empty_below l m) → numbers' ≡ sets numbers 0 (empty_below l m) → Outcome l rows numbers (record { number = 0; rows = p; entries = c }) rows' numbers'
        unfolding credited credits_after numbers_after too_many
        lists_filled rows' numbers' m c a f b o t =
            let held : ltb 64 (length (apprentices (entries l))) ≡ false = le-ltb 64 (length (apprentices (entries l))) (omega (arith, people)) in
            let legal : refusal l (length rows) (length numbers) ≡ 0 = by_log ∙ rw (none, held) in
            record {
              told = rw (legal, people, o, b);
              minutes = rw legal (rows_filled rows' a f);
              listed = rw legal (t ∙ rw b (sets_front numbers (listed_of l) numbers_fit));
            }

      -- a log without entries has no keys, and both lists stay
      pub none_filled : 0 ≡ entry_count l → Outcome l rows numbers (record { number = 0; rows = 0; entries = 0 }) rows numbers
      unfolding keys_of sorted rows_by rows_begun row_after empty_below
      none_filled z = lists_filled 0 [] z refl 0 refl rows numbers 0 0 (omega arith) refl z refl refl
