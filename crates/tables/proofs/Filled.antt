-- What the filled tables by net hold: for each net the last cell that reads it at cin, the last whose cout drives it, and whether it is read
-- never, once or more often. Where 16 holds, one cell at the most drives a net. Assumes nothing.
use Prim.Native.Nat.{ℕ, zero, suc, ◌+◌, ◌≤◌, ◌<◌}
use mathlib.Core.Path.{◌≡◌, refl, sym, ap, ◌∙◌}
use mathlib.Core.Bool.{Bool, true, false, cond, true≢false, or-true}
use mathlib.Core.List.{List, [], ◌∷◌}
use native.Mathlib.Omega.{arith}
use lib.ListN.{length, get_or, replicate, length-replicate, length-append}
use lib.Dec.{eqb}
use borrow.Author.Tests.{eq-eqb, ne_eqb, eqb-true, leb-true}
use Rattle.sheet.specs.Lists.{filterb, elemb, below, concat_map, anyb}
use Rattle.sheet.specs.Checks.{NONE}
use Rattle.sheet.specs.Signal.{connected, is_net, net_of, is_inverted}
use Rattle.exercise.specs.Exercise.{net_count, record_part}
use Rattle.exercise.specs.Record.{record_at, outputs}
use Rattle.exercise.specs.declared.Record.{Record}
use Rattle.exercise.specs.declared.Record.TheVariants.{Combinational, Register, Malformed}
use Rattle.sheet.proofs.Laws.{by_test, or_parts, and_parts}
use Rattle.sheet.proofs.Lists.{elem_first, elem_rest, any_append, filter-append, filter_in, filter_some, concat-suc, get_or-all}
use Rattle.tables.specs.Records.{cell, driven, driven_twice, driven_below, double_driver, is_of, all_inputs}
use Rattle.tables.specs.declared.Reads.{Reads}
use Rattle.tables.specs.declared.Reads.TheVariants.{Never, Once, More}
use Rattle.tables.specs.passes.Tables.{one_more, is_once, read_once, read_each, with_reader, with_driver, reads_below, readers_below, drivers_below}
use Rattle.tables.proofs.Decoded.{inputs_good, outputs_good, good_net, good_output}
use Rattle.tables.proofs.Stores.{last_below, AtMostOnce, placed_length, placed_at, placed, table_at}
use Rattle.tables.proofs.Double.{code_of, code_net}

-- ---- the two ports of the carry
-- the code at a cell's cin, and at its cout; a cell without one has 0 there
abbrev pub cin_of : Record → ℕ
cin_of (Combinational c) = c.cin.0
cin_of (Register r) = 0
cin_of Malformed = 0

abbrev pub cout_of : Record → ℕ
cout_of (Combinational c) = c.cout.0
cout_of (Register r) = 0
cout_of Malformed = 0

with_reader_lem : (t : List ℕ) (i : ℕ) (c : Record) → with_reader t i c ≡ placed t (cin_of c) i
with_reader_lem t i (Combinational c) = refl
with_reader_lem t i (Register r) = refl
with_reader_lem t i Malformed = refl

with_driver_lem : (t : List ℕ) (i : ℕ) (c : Record) → with_driver t i c ≡ placed t (cout_of c) i
with_driver_lem t i (Combinational c) = refl
with_driver_lem t i (Register r) = refl
with_driver_lem t i Malformed = refl

cin_in : (c : Record) → is_net (cin_of c) ≡ true → elemb (cin_of c) (all_inputs c) ≡ true
unfolding all_inputs
cin_in (Combinational c) n = simp (eq-eqb c.cin.0 c.cin.0 refl, or-true)
cin_in (Register r) n = absurd (true≢false (sym n))
cin_in Malformed n = absurd (true≢false (sym n))

cout_in : (c : Record) → connected (cout_of c) ≡ true → elemb (cout_of c) (outputs c) ≡ true
unfolding outputs
cout_in (Combinational c) n = simp (eq-eqb c.cout.0 c.cout.0 refl, or-true)
cout_in (Register r) n = absurd (true≢false (sym n))
cout_in Malformed n = absurd (true≢false (sym n))

net_connected : (s : ℕ) → is_net s ≡ true → connected s ≡ true
net_connected s n = let a = leb-true 4 s n in rw (ne_eqb s 0 (λ e. omega arith))

module _ (e : List ℕ) (j : ℕ) where
  cin_low : is_net (cin_of (cell e j)) ≡ true → net_of (cin_of (cell e j)) < net_count e
  unfolding cell record_at
  cin_low n =
      let c = cell e j in
      good_net (net_count e) (cin_of c) (inputs_good (net_count e) (record_part e j) (cin_of c) (cin_in c n)) n

  pub cout_net : connected (cout_of (cell e j)) ≡ true
      → (is_net (cout_of (cell e j)) ≡ true) × (is_inverted (cout_of (cell e j)) ≡ false) × (net_of (cout_of (cell e j)) < net_count e)
  unfolding cell record_at
  cout_net h =
      let c = cell e j in
      good_output (net_count e) (cout_of c) (outputs_good (net_count e) (record_part e j) (cout_of c) (cout_in c h)) h

  -- a cout that is net k is the code of net k
  cout_code : (k : ℕ) → is_of k (cout_of (cell e j)) ≡ true → cout_of (cell e j) ≡ code_of k
  cout_code k h =
      let o = cout_of (cell e j) in
      let g = and_parts (is_net o) (eqb (net_of o) k) h in
      let f = cout_net (net_connected o g.0) in
      sym (code_net o f.0 f.1) ∙ ap code_of (eqb-true (net_of o) k g.1)

  drives_code : (k : ℕ) → is_of k (cout_of (cell e j)) ≡ true → elemb (code_of k) (driven (cell e j)) ≡ true
  unfolding driven
  drives_code k h =
      let o = cout_of (cell e j) in
      let c = net_connected o (and_parts (is_net o) (eqb (net_of o) k) h).0 in
      rw (← cout_code k h) (filter_in connected o (outputs (cell e j)) (cout_in (cell e j) c) c)

-- ---- which cell drives, and which reads
twice_not : (z : ℕ) (before os : List ℕ) → driven_twice before os ≡ false → elemb z os ≡ true → elemb z before ≡ false
twice_not z before [] h m = absurd (true≢false (sym m))
twice_not z before (o ∷ os) h m =
    let g = or_parts (elemb o before) (driven_twice (o ∷ before) os) h in
    by_test (eqb z o) (λ e. rw (eqb-true z o e) g.0) (λ e. (or_parts (eqb z o) (elemb z before) (twice_not z (o ∷ before) os g.1 (rw e at m))).1)

any-concat : (q : ℕ → Bool) (f : ℕ → List ℕ) (z : ℕ) → ((i : ℕ) → q i ≡ true → elemb z (f i) ≡ true) → (l : List ℕ) → anyb q l ≡ true → elemb z (concat_map f l) ≡ true
any-concat q f z h [] a = a
any-concat q f z h (x ∷ l) a =
    any_append (eqb z) (f x) (concat_map f l)
    ∙ by_test (q x) (λ t. rw (h x t)) (λ t. rw (any-concat q f z h l (rw t at a), or-true (elemb z (f x))))

module _ (e : List ℕ) (n : ℕ) (single : (i : ℕ) → i < n → double_driver e i ≡ false) where
  pub driven_once : (k : ℕ) → AtMostOnce (λ j. is_of k (cout_of (cell e j))) n
  unfolding double_driver
  driven_once k j l t =
      by_test (anyb (λ i. is_of k (cout_of (cell e i))) (below j))
      (λ a. let before = any-concat (λ i. is_of k (cout_of (cell e i))) (λ i. driven (cell e i)) (code_of k) (λ i. drives_code e i k) (below j) a in
      absurd (true≢false (sym before ∙ twice_not (code_of k) (driven_below e j) (driven (cell e j)) (single j l) (drives_code e j k t))))
      (λ a. a)

-- the table of drivers keeps its length
pub drivers_length : (f : ℕ → Record) (t : List ℕ) (n : ℕ) → length (drivers_below f t n) ≡ length t
unfolding drivers_below
drivers_length f t zero = refl
drivers_length f t (suc n) =
    rw (with_driver_lem (drivers_below f t n) n (f n)) (placed_length (drivers_below f t n) (cout_of (f n)) n ∙ drivers_length f t n)

-- the tables of a sheet, after the cells below n
abbrev pub drivers : List ℕ → ℕ → ℕ → List ℕ
drivers e m n = drivers_below (cell e) (replicate m NONE) n

abbrev pub readers : List ℕ → ℕ → ℕ → List ℕ
readers e m n = readers_below (cell e) (replicate m NONE) n

abbrev pub reads : List ℕ → ℕ → ℕ → List Reads
reads e m n = reads_below (cell e) (replicate m Never) n

module _ (e : List ℕ) (m : ℕ) (fits : net_count e ≤ m) (n : ℕ) where
  pub driver_at : (k : ℕ) → get_or (drivers e m n) k NONE ≡ last_below (λ j. is_of k (cout_of (cell e j))) n
  unfolding drivers_below cell
  driver_at k =
      table_at (λ j. cout_of (cell e j)) m (λ j h. omega (arith, (cout_net e j (net_connected (cout_of (cell e j)) h)).2))
      (drivers e m) refl (λ j. with_driver_lem (drivers e m j) j (cell e j)) k n

  pub reader_at : (k : ℕ) → get_or (readers e m n) k NONE ≡ last_below (λ j. is_of k (cin_of (cell e j))) n
  unfolding readers_below cell
  reader_at k =
      table_at (λ j. cin_of (cell e j)) m (λ j h. omega (arith, cin_low e j h))
      (readers e m) refl (λ j. with_reader_lem (readers e m j) j (cell e j)) k n

-- ---- how often a net is read
-- what r reads are
abbrev pub reads_of : ℕ → Reads
reads_of zero = Never
reads_of (suc zero) = Once
reads_of (suc (suc r)) = More

one_more_lem : (r : ℕ) → one_more (reads_of r) ≡ reads_of (suc r)
one_more_lem zero = refl
one_more_lem (suc zero) = refl
one_more_lem (suc (suc r)) = refl

pub once_is : (r : ℕ) → is_once (reads_of r) ≡ eqb r 1
once_is zero = refl
once_is (suc zero) = refl
once_is (suc (suc r)) = sym (ne_eqb (suc (suc r)) 1 (λ e. omega arith))

-- the reads of net k among the signals of a list
abbrev reads_in : ℕ → List ℕ → ℕ
reads_in k ss = length (filterb (is_of k) ss)

once_length : (t : List Reads) (s : ℕ) → length (read_once t s) ≡ length t
unfolding read_once
once_length t s = placed_length t s (one_more (get_or t (net_of s) Never))

each_length : (t : List Reads) (ss : List ℕ) → length (read_each t ss) ≡ length t
unfolding read_each
each_length t [] = refl
each_length t (s ∷ ss) = each_length (read_once t s) ss ∙ once_length t s

module _ (k : ℕ) where
  once_at : (t : List Reads) (s : ℕ) → (is_net s ≡ true → net_of s < length t)
      → get_or (read_once t s) k Never ≡ cond (is_of k s) (one_more (get_or t k Never)) (get_or t k Never)
  unfolding read_once
  once_at t s low =
      placed_at t s (one_more (get_or t (net_of s) Never)) k Never low
      ∙ by_test (is_of k s) (λ o. rw (o, eqb-true (net_of s) k (and_parts (is_net s) (eqb (net_of s) k) o).1)) (λ o. rw o)

  each_at : (t : List Reads) (ss : List ℕ) (r : ℕ) → ((s : ℕ) → elemb s ss ≡ true → is_net s ≡ true → net_of s < length t) → get_or t k Never ≡ reads_of r
      → get_or (read_each t ss) k Never ≡ reads_of (r + reads_in k ss)
  unfolding read_each
  each_at t [] r low h = h ∙ ap reads_of (omega arith)
  each_at t (s ∷ ss) r low h =
      let first = once_at t s (low s (elem_first s ss)) in
      let rest : (x : ℕ) → elemb x ss ≡ true → is_net x ≡ true → net_of x < length (read_once t s) =
      λ x i n. rw (once_length t s) (low x (elem_rest x s ss i) n) in
      by_test (is_of k s)
      (λ o. rw o (each_at (read_once t s) ss (suc r) rest (first ∙ rw (o, h) (one_more_lem r)) ∙ ap reads_of (omega arith)))
      (λ o. rw o (each_at (read_once t s) ss r rest (first ∙ rw o h)))

-- the reads of net k by the cells below n
unfoldable pub reads_to : List ℕ → ℕ → ℕ → ℕ
reads_to e k n = reads_in k (concat_map (λ j. all_inputs (cell e j)) (below n))

module _ (e : List ℕ) (k : ℕ) where
  reads_suc : (n : ℕ) → reads_to e k (suc n) ≡ reads_to e k n + reads_in k (all_inputs (cell e n))
  unfolding reads_to
  reads_suc n =
      rw (concat-suc (λ j. all_inputs (cell e j)) n, filter-append (is_of k) (concat_map (λ j. all_inputs (cell e j)) (below n)) (all_inputs (cell e n)))
      (length-append (filterb (is_of k) (concat_map (λ j. all_inputs (cell e j)) (below n))) (filterb (is_of k) (all_inputs (cell e n))))

  pub reads_rise : (n : ℕ) → reads_to e k n + cond (is_of k (cin_of (cell e n))) 1 0 ≤ reads_to e k (suc n)
  reads_rise n =
      let c = cell e n in
      by_test (is_of k (cin_of c))
      (λ t. rw t (omega (arith, reads_suc n, filter_some (is_of k) (cin_of c) (all_inputs c) (cin_in c (and_parts (is_net (cin_of c)) (eqb (net_of (cin_of c)) k) t).0) t)))
      (λ t. rw t (omega (arith, reads_suc n)))

module _ (e : List ℕ) (m : ℕ) (fits : net_count e ≤ m) (k : ℕ) where
  reads_length : (n : ℕ) → length (reads e m n) ≡ m
  unfolding reads_below
  reads_length zero = length-replicate {A = Reads} m Never
  reads_length (suc n) = each_length (reads e m n) (all_inputs (cell e n)) ∙ reads_length n

  pub reads_at : (n : ℕ) → get_or (reads e m n) k Never ≡ reads_of (reads_to e k n)
  unfolding reads_below reads_to cell record_at
  reads_at zero = get_or-all {A = Reads} m k Never
  reads_at (suc n) =
      each_at k (reads e m n) (all_inputs (cell e n)) (reads_to e k n)
      (λ s i h. rw (reads_length n) (omega (arith, good_net (net_count e) s (inputs_good (net_count e) (record_part e n) s i) h)))
      (reads_at n)
      ∙ ap reads_of (sym (reads_suc e k n))
