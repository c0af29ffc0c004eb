-- Two cells that have keys stand at one place exactly where their keys are equal, and each marks its key. So the scan over keys finds what the scan
-- over places finds, and no cell clashes before the first that meets its mark. Assumes nothing.
use Prim.Native.Nat.{ℕ, ◌+◌, ◌<◌, ◌≤◌}
use native.Mathlib.Numerals.{add-one}
use native.Mathlib.Omega.{arith}
use mathlib.Core.Path.{◌≡◌, refl, sym, ◌∙◌}
use mathlib.Core.Bool.{Bool, true, false, not, ◌||◌, ◌&&◌, true≢false}
use mathlib.Core.List.{List}
use lib.ListN.{length, get_or, set, replicate, length-set, length-replicate}
use lib.Seq.{get_or-set_same, get_or-set_other}
use lib.Dec.{eqb, ltb}
use borrow.Author.Count.{below_more}
use borrow.Author.Tests.{ltb-true, ltb-false, lt-ltb, le-ltb, eqb-true, eqb-false, eq-eqb, ne_eqb}
use Rattle.sheet.specs.Lists.{first_from}
use Rattle.sheet.proofs.Laws.{by_test, and_parts}
use Rattle.sheet.proofs.First.{none_first, first_is}
use Rattle.std.specs.Prelude.{Option, Some, None}
use Rattle.sheet.proofs.Scan.{any_below, none_at}
use Rattle.placing.specs.Places.{kind_at, x_at, y_at, le_at, lab_at, same_place}
use Rattle.clashes.proofs.Pairs.{clashes, clashes_none}
use Rattle.clashes.specs.passes.Keys.{key, has_key, key_of, put_keys, key_taken, Keyed, KeysOf, FreeTo}

-- ---- keys
one_or_two : (k : ℕ) → eqb k 1 || eqb k 2 ≡ true → (1 ≤ k) × (k ≤ 2)
one_or_two k h =
    by_test (eqb k 1) (λ e. let q = eqb-true k 1 e in (omega arith, omega arith))
    (λ e. let q = eqb-true k 2 (rw e at h) in (omega arith, omega arith))

-- what the tests of a cell's number, kind, x, y and LE tell
pub tests_tell : (i k x y l : ℕ) → ltb i 512 && (eqb k 1 || eqb k 2) && ltb x 32 && ltb y 32 && ltb l 16 ≡ true → (i < 512) × (1 ≤ k) × (k ≤ 2) × (x < 32) × (y < 32) × (l < 16)
tests_tell i k x y l h =
    let le = and_parts _ _ h in
    let row = and_parts _ _ le.0 in
    let column = and_parts _ _ row.0 in
    let kind = and_parts _ _ column.0 in
    let n = one_or_two k kind.1 in
    (ltb-true _ _ kind.0, n.0, n.1, ltb-true _ _ column.1, ltb-true _ _ row.1, ltb-true _ _ le.1)

module _ (e a : List ℕ) where
  -- what is known of a cell that has a key
  pub keyed_cell : (i : ℕ) → has_key e a i ≡ true → (i < 512) × (1 ≤ kind_at e i) × (kind_at e i ≤ 2) × (x_at a i < 32) × (y_at a i < 32) × (le_at a i < 16)
  unfolding has_key
  keyed_cell i h = tests_tell i (kind_at e i) (x_at a i) (y_at a i) (le_at a i) h

  pub key_within : (i : ℕ) → has_key e a i ≡ true → key e a i < 32768
  unfolding key lab_at
  key_within i h = let p = keyed_cell i h in omega arith

  -- what a key tells of its cell
  pub given_key : (i k : ℕ) → key_of e a i ≡ Some k → (has_key e a i ≡ true) × (k ≡ key e a i)
  unfolding key_of
  given_key i k h = by_test (has_key e a i) (λ t. (t, let q : Some (key e a i) ≡ Some k = rw t at h in cc)) (λ t. let q : ◌≡◌ {A = Option ℕ} None (Some k) = rw t at h in cc)

  no_key : (i : ℕ) → ((k : ℕ) → key_of e a i ≡ Some k → ⊥) → has_key e a i ≡ false
  unfolding key_of
  no_key i h = by_test (has_key e a i) (λ t. absurd (h (key e a i) (rw t))) (λ t. t)

  place_key : (j i : ℕ) → same_place e a j i ≡ true → key e a j ≡ key e a i
  unfolding key lab_at same_place
  place_key j i h =
      let l = and_parts _ _ h in
      let y = and_parts _ _ l.0 in
      let x = and_parts _ _ y.0 in
      let k = eqb-true (kind_at e j) (kind_at e i) x.0 in
      let xs = eqb-true (x_at a j) (x_at a i) x.1 in
      let ys = eqb-true (y_at a j) (y_at a i) y.1 in
      let les = eqb-true (le_at a j) (le_at a i) l.1 in
      cc

  key_place : (j i : ℕ) → has_key e a j ≡ true → has_key e a i ≡ true → key e a j ≡ key e a i → same_place e a j i ≡ true
  unfolding key lab_at same_place
  key_place j i p q h =
      let c = keyed_cell j p in
      let d = keyed_cell i q in
      rw (eq-eqb (kind_at e j) (kind_at e i) (omega arith), eq-eqb (x_at a j) (x_at a i) (omega arith))
      (rw (eq-eqb (y_at a j) (y_at a i) (omega arith), eq-eqb (le_at a j) (le_at a i) (omega arith)))

  same_key : (j i : ℕ) → has_key e a j ≡ true → has_key e a i ≡ true → eqb (key e a j) (key e a i) ≡ same_place e a j i
  same_key j i p q =
      by_test (same_place e a j i) (λ t. rw t (eq-eqb _ _ (place_key j i t)))
      (λ t. rw t (ne_eqb _ _ (λ k. true≢false (sym (key_place j i p q k) ∙ t))))

  pub keyed_at : (i k : ℕ) → Some k ≡ key_of e a i → i < 512
  keyed_at i k h = (keyed_cell i (given_key i k (sym h)).0).0

  -- ---- the table of keys
  pub keys_none : (keys : List ℕ) → KeysOf e a keys 0
  keys_none keys = record { has = λ i h. absurd (omega arith); stands = λ i h. absurd (omega arith) }

  module _ (keys : List ℕ) (n : ℕ) (s : KeysOf e a keys n) where
    pub keys_goes : (k : ℕ) → key_of e a n ≡ Some k → n < length keys → KeysOf e a (set keys n k) (n + 1)
    keys_goes k q h =
        let g = given_key n k q in
        record {
          has = below_more (λ (i : ℕ). has_key e a i ≡ true) n s.has g.0;
          stands =
              below_more (λ (i : ℕ). get_or (set keys n k) i 0 ≡ key e a i) n
              (λ i b. get_or-set_other keys n i k 0 (λ q. omega arith) ∙ s.stands i b)
              (get_or-set_same keys n k 0 h ∙ g.1);
        }

    -- the keys of the cells so far are put into the table
    pub put_goes : (lent : List ℕ) (k : ℕ) → key_of e a n ≡ Some k → keys ≡ put_keys e a lent n → set keys n k ≡ put_keys e a lent (n + 1)
    unfolding put_keys
    put_goes lent k q p = rw (p, (given_key n k q).1, add-one)

    first_without : (m : ℕ) → n < m → ((k : ℕ) → key_of e a n ≡ Some k → ⊥) → first_from (λ i. not (has_key e a i)) 0 m ≡ n
    first_without m h q = first_is (λ i. not (has_key e a i)) m 0 n (omega arith) (omega arith) (λ j l b. rw (s.has j b)) (rw (no_key n q))

    none_without : first_from (λ i. not (has_key e a i)) 0 n ≡ n
    none_without = none_first (λ i. not (has_key e a i)) n (λ m l. rw (s.has m l))

    pub put_stops : (lent : List ℕ) (m : ℕ) → n < m → ((k : ℕ) → key_of e a n ≡ Some k → ⊥) → keys ≡ put_keys e a lent n
        → keys ≡ put_keys e a lent (first_from (λ i. not (has_key e a i)) 0 m)
    put_stops lent m h q p = rw (first_without m h q) p

    pub put_ends : (lent : List ℕ) → keys ≡ put_keys e a lent n → keys ≡ put_keys e a lent (first_from (λ i. not (has_key e a i)) 0 n)
    put_ends lent p = rw none_without p

    -- a cell that has none is the first without
    pub keys_stop : (m : ℕ) → n < m → ((k : ℕ) → key_of e a n ≡ Some k → ⊥) → false ≡ not (ltb (first_from (λ i. not (has_key e a i)) 0 m) m)
    keys_stop m h q =
        rw (first_without m h q, lt-ltb n m h)

    -- and where the pass comes to the end, each has one
    pub keys_found : true ≡ not (ltb (first_from (λ i. not (has_key e a i)) 0 n) n)
    keys_found =
        rw (none_without, le-ltb n n (omega arith))

    has_room : n ≤ 512
    has_room = by_test (ltb 512 n) (λ t. let low = (keyed_cell 512 (s.has 512 (ltb-true 512 n t))).0 in absurd (omega arith)) (λ t. ltb-false 512 n t)

    pub keyed_are : Keyed keys n
    keyed_are = record { room = has_room; low = λ i h. rw (s.stands i h) (key_within i (s.has i h)) }

    -- 50
    pub keys_tell : (i : ℕ) → i < n → (j : ℕ) → j < i → eqb (get_or keys j 0) (get_or keys i 0) ≡ same_place e a j i
    keys_tell i h j b = rw (s.stands j (omega arith), s.stands i h) (same_key j i (s.has j (omega arith)) (s.has i h))

-- ---- the pass over the marks
-- what has no mark beside a new one had none before, and is another's
unmarked : (marks : List Bool) (k s : ℕ) → k < length marks → get_or (set marks k true) s false ≡ false → (get_or marks s false ≡ false) × (s ≡ k → ⊥)
unmarked marks k s l z =
    by_test (eqb s k)
    (λ t. let same : get_or (set marks k true) k false ≡ false = rw (eqb-true s k t) at z in
    absurd (true≢false (sym (get_or-set_same marks k true false l) ∙ same)))
    (λ t. (sym (get_or-set_other marks k s true false (eqb-false s k t)) ∙ z, eqb-false s k t))

-- the pass has come to cell i: no cell before it has a lower one's key, and the keys of all of them are marked
pub record Marked (keys : List ℕ) (n : ℕ) (marks : List Bool) (i : ℕ) : Type 0 where
  pub upto : FreeTo keys n i
  pub long : length marks ≡ 32768
  pub met : (j : ℕ) → j < i → get_or marks (get_or keys j 0) false ≡ false → ⊥

pub none_free : (keys : List ℕ) (n : ℕ) → FreeTo keys n 0
none_free keys n = record { within = omega arith; free = λ j h. absurd (omega arith) }

pub mark_starts : (keys : List ℕ) (n : ℕ) → Marked keys n (replicate 32768 false) 0
mark_starts keys n = record { upto = none_free keys n; long = length-replicate {A = Bool} 32768 false; met = λ j h. absurd (omega arith) }

module _ (keys : List ℕ) (n : ℕ) (w : Keyed keys n) (marks : List Bool) (i : ℕ) (p : Marked keys n marks i) (h : i < n) (z : get_or marks (get_or keys i 0) false ≡ false) where
  -- the key of cell i was not met
  not_taken : key_taken keys i ≡ false
  unfolding key_taken
  not_taken =
      let f : ℕ → Bool = λ j. eqb (get_or keys j 0) (get_or keys i 0) in
      let none : (j : ℕ) → j < i → f j ≡ false = λ j b. ne_eqb (get_or keys j 0) (get_or keys i 0) (λ q. p.met j b (rw q z)) in
      any_below f i ∙ le-ltb (first_from f 0 i) i (omega (arith, none_first f i none))

  pub mark_goes : Marked keys n (set marks (get_or keys i 0) true) (i + 1)
  mark_goes =
      let room : get_or keys i 0 < length marks = omega (arith, w.low i h, p.long) in
      record {
        upto = record { within = omega arith; free = below_more (λ (j : ℕ). key_taken keys j ≡ false) i p.upto.free not_taken };
        long = length-set marks (get_or keys i 0) true ∙ p.long;
        met =
            below_more (λ (j : ℕ). get_or (set marks (get_or keys i 0) true) (get_or keys j 0) false ≡ false → ⊥) i
            (λ j b q. p.met j b (unmarked marks (get_or keys i 0) (get_or keys j 0) room q).0)
            (λ q. (unmarked marks (get_or keys i 0) (get_or keys i 0) room q).1 refl);
      }

-- 50: so the scan may begin there
pub free_places : (e a keys : List ℕ) (n : ℕ) → KeysOf e a keys n → (from : ℕ) → FreeTo keys n from → (i : ℕ) → i < from → clashes (same_place e a) i ≡ false
unfolding key_taken
free_places e a keys n s from p i h =
    clashes_none (same_place e a) i
    (λ j b. sym (keys_tell e a keys n s i (omega (arith, p.within)) j b) ∙ none_at (λ k. eqb (get_or keys k 0) (get_or keys i 0)) i (p.free i h) j b)
