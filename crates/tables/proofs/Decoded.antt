-- What a decoded record says of its signals: no input is bad, and an output is unconnected or an uninverted net below the net count.
-- Assumes nothing.
use Prim.Native.Nat.{ℕ, ◌<◌}
use mathlib.Core.Path.{◌≡◌, sym}
use mathlib.Core.Bool.{Bool, true, false, not, ◌&&◌, ◌||◌, true≢false}
use mathlib.Core.List.{List, [], ◌∷◌}
use native.Mathlib.Omega.{arith}
use lib.ListN.{length}
use lib.Dec.{eqb, ltb, leb}
use borrow.Author.Tests.{leb-true, leb-false, eqb-true, not-true, not-false}
use Rattle.sheet.specs.Lists.{elemb}
use Rattle.sheet.specs.Signal.{connected, is_net, net_of, is_inverted, is_bad, is_bad_output}
use Rattle.exercise.specs.Record.{record_of, kind_of, flag_of, code_at, keeps_combinational, keeps_register, bad_combinational, bad_register, bad_tail, combinational_of, register_of, outputs}
use Rattle.exercise.specs.declared.Record.{Record}
use Rattle.sheet.proofs.Laws.{by_test, or_parts}
use Rattle.sheet.proofs.Signals.{upright_even}
use Rattle.tables.specs.Records.{all_inputs}
use Rattle.sheet.proofs.Lists.{or_middle}

-- b, or some number of the list passes the test
or_any : (ℕ → Bool) → Bool → List ℕ → Bool
or_any f b [] = b
or_any f b (x ∷ xs) = or_any f (b || f x) xs

or_none : (f : ℕ → Bool) (b : Bool) (l : List ℕ) → or_any f b l ≡ false → (b ≡ false) × ((s : ℕ) → elemb s l ≡ true → f s ≡ false)
unfolding or_any
or_none f b [] h = (h, λ s m. absurd (true≢false (sym m)))
or_none f b (x ∷ xs) h =
    let g = or_none f (b || f x) xs h in
    let k = or_parts b (f x) g.0 in
    (k.0, λ s m. by_test (eqb s x) (λ e. rw (eqb-true s x e) k.1) (λ e. g.1 s (rw e at m)))

-- a signal of the cell is bad, at an input or at an output
bad_signal : ℕ → Record → Bool
bad_signal nets c = or_any (is_bad_output nets) (or_any (is_bad nets) false (all_inputs c)) (outputs c)

no_bad_signal : (nets : ℕ) (p : List ℕ) → bad_signal nets (record_of nets p) ≡ false
unfolding bad_signal or_any record_of keeps_combinational keeps_register bad_combinational bad_register all_inputs outputs
no_bad_signal nets p =
    by_test (not (eqb (length p) 24)) (λ l. rw l)
    (λ l. by_test (eqb (kind_of p) 1)
    (λ k. by_test (keeps_combinational nets p)
    (λ h. rw (l, k, h)
    (or_middle (ltb 1 (flag_of p)) (bad_combinational nets (combinational_of p)) (connected (code_at p 7))
    (or_parts (ltb 1 (flag_of p) || bad_combinational nets (combinational_of p) || connected (code_at p 7)) (bad_tail p) (not-true _ h)).0))
    (λ h. rw (l, k, h)))
    (λ k. by_test (eqb (kind_of p) 2)
    (λ r. by_test (keeps_register nets p)
    (λ h. rw (l, k, r, h) (or_middle (ltb 0 (flag_of p)) (bad_register nets (register_of p)) (bad_tail p) (not-true _ h)))
    (λ h. rw (l, k, r, h)))
    (λ r. rw (l, k, r))))

module _ (nets : ℕ) (p : List ℕ) where
  good_parts : ((s : ℕ) → elemb s (all_inputs (record_of nets p)) ≡ true → is_bad nets s ≡ false)
      × ((s : ℕ) → elemb s (outputs (record_of nets p)) ≡ true → is_bad_output nets s ≡ false)
  unfolding bad_signal
  good_parts =
      let g = or_none (is_bad_output nets) (or_any (is_bad nets) false (all_inputs (record_of nets p))) (outputs (record_of nets p)) (no_bad_signal nets p) in
      ((or_none (is_bad nets) false (all_inputs (record_of nets p)) g.0).1, g.1)

  pub inputs_good : (s : ℕ) → elemb s (all_inputs (record_of nets p)) ≡ true → is_bad nets s ≡ false
  inputs_good = good_parts.0

  pub outputs_good : (s : ℕ) → elemb s (outputs (record_of nets p)) ≡ true → is_bad_output nets s ≡ false
  outputs_good = good_parts.1

pub good_net : (nets s : ℕ) → is_bad nets s ≡ false → is_net s ≡ true → net_of s < nets
good_net nets s h n = leb-false nets (net_of s) (rw n at (or_parts (eqb s 3) (is_net s && leb nets (net_of s)) h).1)

pub good_output : (nets s : ℕ) → is_bad_output nets s ≡ false → connected s ≡ true → (is_net s ≡ true) × (is_inverted s ≡ false) × (net_of s < nets)
good_output nets s h c =
    let g = or_parts (not (is_net s) || is_inverted s) (is_bad nets s) (rw c at h) in
    let k = or_parts (not (is_net s)) (is_inverted s) g.0 in
    let n = not-false (is_net s) k.0 in
    (n, k.1, good_net nets s g.1 n)

pub same_net : (s t : ℕ) → is_net s ≡ true → is_inverted s ≡ false → is_net t ≡ true → is_inverted t ≡ false → net_of s ≡ net_of t → s ≡ t
same_net s t n i m j e =
    let a = leb-true 4 s n in
    let b = leb-true 4 t m in
    let x = upright_even s n i in
    let y = upright_even t m j in
    omega arith
