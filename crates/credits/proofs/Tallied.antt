-- The pass over entries that are in order, by apprentice and opening minute: after each entry it has begun a row for each apprentice so far, the last row has the
-- minutes of the last one, and the rows of all of them are stored. An entry adds its minutes from the last closing on, since those from its opening to there are counted. Assumes nothing.
use Prim.Native.Nat.{ℕ, max, ◌+◌, ◌-◌, ◌≤◌, ◌<◌}
use mathlib.Core.Path.{◌≡◌, refl, sym, ap, ◌∙◌}
use mathlib.Core.Logic.{◌⊎◌, inl, inr, ⊎_elim}
use mathlib.Core.List.{List, [], ◌∷◌, ◌++◌, map, map-append, append-nil, append_assoc}
use native.Mathlib.Omega.{arith}
use lib.ListN.{length, set, length-append, length-map}
use lib.Seq.{sets, set-set}
use lib.Dec.{eqb, ltb}
use borrow.Author.Tests.{eq-eqb, ne_eqb, eqb-true, eqb-false, lt-ltb, le-ltb, ltb-true, ltb-false}
use Rattle.std.specs.Prelude.{Some, None}
use Rattle.sheet.specs.Lists.{concat_map, filterb, elemb, from}
use Rattle.sheet.proofs.Laws.{by_test, same_truth}
use Rattle.sheet.proofs.Lists.{filter-append, concat-append, store_behind}
use Rattle.distinct.specs.Rising.{rising, distinct}
use Rattle.distinct.proofs.Rising.{In, rising_above, in_rising, rising_in, rising_same, in_append, append_in, in_above}
use Rattle.distinct.proofs.Nets.{elem_in, in_elem, in_from, from_in, from_above}
use Rattle.distinct.proofs.More.{distinct_run, last_above, rising_last, rising_again}
use Rattle.tablet_log.specs.declared.Entry.{Entry}
use Rattle.tablet_log.specs.Minutes.{minutes_of, is_own, own_minutes, credit, apprentices, row_of, rows_of}
use Rattle.credits.specs.declared.Row.{Row}
use Rattle.credits.specs.passes.Rows.{rows_begun, new_row, begun, added, row_after, stored, rows_by}

-- ---- one entry more
own_append : (es fs : List Entry) (a : ℕ) → own_minutes (es ++ fs) a ≡ own_minutes es a ++ own_minutes fs a
own_append es fs a = ap (concat_map minutes_of) (filter-append (is_own a) es fs) ∙ concat-append minutes_of (filterb (is_own a) es) (filterb (is_own a) fs)

module _ (es : List Entry) (e : Entry) where
  abbrev more : List Entry
  more = es ++ (e ∷ [])

  own_more : own_minutes more e.apprentice ≡ own_minutes es e.apprentice ++ minutes_of e
  own_more =
      let one : own_minutes (e ∷ []) e.apprentice ≡ minutes_of e = rw (eq-eqb e.apprentice e.apprentice refl) (append-nil (minutes_of e)) in
      own_append es (e ∷ []) e.apprentice ∙ rw one

  other_more : (b : ℕ) → (e.apprentice ≡ b → ⊥) → credit more b ≡ credit es b
  unfolding credit
  other_more b h =
      let none : own_minutes (e ∷ []) b ≡ [] = rw (ne_eqb e.apprentice b h) in
      let same : own_minutes more b ≡ own_minutes es b = own_append es (e ∷ []) b ∙ rw (none, append-nil (own_minutes es b)) in
      ap distinct same

  -- ---- the minutes: from the opening on, those that are covered are those before the last closing
  module _ (until : ℕ) (h : (z : ℕ) → e.opening ≤ z → elemb z (own_minutes es e.apprentice) ≡ ltb z until) where
    abbrev own : List ℕ
    own = own_minutes es e.apprentice

    abbrev start : ℕ
    start = max until e.opening

    start_late : (e.opening ≤ start) × (until ≤ start)
    start_late = (omega arith, omega arith)

    start_is : (start ≡ e.opening) ⊎ (start ≡ until)
    start_is = by_test (ltb until e.opening) (λ t. inl (omega (arith, ltb-true until e.opening t))) (λ t. inr (omega (arith, ltb-false until e.opening t)))

    within : (z : ℕ) → In z (minutes_of e) → (e.opening ≤ z) × (z < e.closing)
    within z m =
        let low = in_above e.opening z (minutes_of e) (from_above e.opening (e.closing - e.opening)) m in
        let high = in_from z e.opening (e.closing - e.opening) m in
        (low, omega arith)

    covers : (z : ℕ) → e.opening ≤ z → z < e.closing → In z (minutes_of e)
    covers z low high = from_in z e.opening (e.closing - e.opening) low (omega arith)

    counted_on : rising (own ++ minutes_of e) ≡ rising (from start (e.closing - start) ++ own)
    counted_on =
        let late = start_late in
        rising_same (own ++ minutes_of e) (from start (e.closing - start) ++ own)
        (λ z m. append_in z (from start (e.closing - start)) own
        (⊎_elim (λ n. inr n)
        (λ n. let w = within z n in
        by_test (ltb z until) (λ t. inr (elem_in z own (h z w.0 ∙ t)))
        (λ t. let g = ltb-false z until t in
        let s : start ≤ z = ⊎_elim (λ q. omega (arith, w.0)) (λ q. omega arith) start_is in
        inl (from_in z start (e.closing - start) s (omega (arith, w.1)))))
        (in_append z own (minutes_of e) m)))
        (λ z m. append_in z own (minutes_of e)
        (⊎_elim
        (λ n. let low = in_above start z (from start (e.closing - start)) (from_above start (e.closing - start)) n in
        let high = in_from z start (e.closing - start) n in
        inr (covers z (omega (arith, late.0)) (omega arith)))
        (λ n. inl n) (in_append z (from start (e.closing - start)) own m)))

    credit_more : credit more e.apprentice ≡ (e.closing - start) + credit es e.apprentice
    unfolding credit
    credit_more =
        let late = start_late in
        ap distinct own_more ∙ ap length counted_on
        ∙ distinct_run start (e.closing - start) own (λ z g. h z (omega (arith, late.0)) ∙ le-ltb z until (omega (arith, late.1)))

    -- whichever is later, the last closing so far or that of the entry
    until_more : (after : ℕ) → ((z : ℕ) → e.opening ≤ z → (z < until) ⊎ (z < e.closing) → z < after) → ((z : ℕ) → e.opening ≤ z → z < after → (z < until) ⊎ (z < e.closing))
        → (z : ℕ) → e.opening ≤ z → elemb z (own_minutes more e.apprentice) ≡ ltb z after
    until_more after f g z low =
        same_truth (elemb z (own_minutes more e.apprentice)) (ltb z after)
        (λ t. lt-ltb z after (f z low (⊎_elim (λ n. inl (ltb-true z until (sym (h z low) ∙ in_elem z own n))) (λ n. inr (within z n).1)
        (in_append z own (minutes_of e) (rw own_more at (elem_in z (own_minutes more e.apprentice) t))))))
        (λ t. rw own_more (in_elem z (own ++ minutes_of e) (append_in z own (minutes_of e)
        (⊎_elim (λ u. inl (elem_in z own (h z low ∙ lt-ltb z until u))) (λ c. inr (covers z low c)) (g z low (ltb-true z after t))))))

-- ---- the row that the pass is at
-- the entries so far, and the row of the last apprentice; from o on, that person's minutes are those before `until`
pub record Tallied (es : List Entry) (r : Row) (o : ℕ) : Type 0 where
  pub before : List ℕ
  pub last : apprentices es ≡ before ++ (r.apprentice ∷ [])
  pub number : r.number ≡ length before
  pub minutes : r.minutes ≡ credit es r.apprentice
  pub until : (z : ℕ) → o ≤ z → elemb z (own_minutes es r.apprentice) ≡ ltb z r.until

abbrev names : List Entry → List ℕ
names es = map (λ e. e.apprentice) es

none_own : (es : List Entry) (a : ℕ) → ((z : ℕ) → In z (names es) → z ≡ a → ⊥) → own_minutes es a ≡ []
none_own [] a h = refl
none_own (e ∷ es) a h = rw (ne_eqb e.apprentice a (h e.apprentice (inl refl))) (none_own es a (λ z m. h z (inr m)))

module _ (es : List Entry) (e : Entry) where
  abbrev then : List Entry
  then = es ++ (e ∷ [])

  names_then : names then ≡ names es ++ (e.apprentice ∷ [])
  names_then = map-append (λ (e : Entry). e.apprentice) es (e ∷ [])

  -- ---- the row that is begun, behind those of the apprentices before
  record Begun (before : List ℕ) (u : Row) : Type 0 where
    whose : u.apprentice ≡ e.apprentice
    last : apprentices then ≡ before ++ (e.apprentice ∷ [])
    number : u.number ≡ length before
    minutes : u.minutes ≡ credit es e.apprentice
    until : (z : ℕ) → e.opening ≤ z → elemb z (own_minutes es e.apprentice) ≡ ltb z u.until
    -- the rows of those before, whatever is put into its own place
    place : (lent rows : List (List ℕ)) (v : List ℕ) → rows ≡ sets lent 0 (rows_of es)
        → set rows (length before) v ≡ set (sets lent 0 (map (row_of es) before)) (length before) v

  -- of an apprentice who has no entry so far
  new_begun : (n : ℕ) → own_minutes es e.apprentice ≡ [] → apprentices then ≡ apprentices es ++ (e.apprentice ∷ []) → n ≡ length (apprentices es)
      → Begun (apprentices es) (new_row n e)
  unfolding credit rows_of
  new_begun n none q k = record {
    whose = refl;
    last = q;
    number = k;
    minutes = rw none;
    until = λ z g. rw (none, le-ltb z 0 (omega arith));
    place = λ lent rows v p. rw p;
  }

  -- ---- the minutes that are added
  record Added (before : List ℕ) (w : Row) : Type 0 where
    whose : w.apprentice ≡ e.apprentice
    number : w.number ≡ length before
    minutes : w.minutes ≡ credit then e.apprentice
    until : (z : ℕ) → e.opening ≤ z → elemb z (own_minutes then e.apprentice) ≡ ltb z w.until

  module _ (before : List ℕ) (u : Row) (b : Begun before u) where
    row_added : Added before (added u e)
    unfolding added
    row_added =
        let start = max u.until e.opening in
        let made = credit_more es e u.until b.until in
        let late = start_late es e u.until b.until in
        by_test (ltb start e.closing)
        (λ k. let g = ltb-true start e.closing k in
        rw k (record {
          whose = b.whose;
          number = b.number;
          minutes = omega (arith, made, b.minutes);
          until = until_more es e u.until b.until e.closing (λ z low. ⊎_elim (λ h. omega (arith, late.1)) (λ h. h)) (λ z low h. inr h);
        }))
        (λ k. let g = ltb-false start e.closing k in
        rw k (record {
          whose = b.whose;
          number = b.number;
          minutes = omega (arith, made, b.minutes);
          until = until_more es e u.until b.until u.until
              (λ z low. ⊎_elim (λ h. h) (λ h. ⊎_elim (λ q. absurd (omega arith)) (λ q. omega arith) (start_is es e u.until b.until))) (λ z low h. inl h);
        }))

    whose_added : (added u e).apprentice ≡ e.apprentice
    whose_added = row_added.whose

    tallied_with : Tallied then (added u e) e.opening
    tallied_with =
        let w = row_added in
        record {
          before = before;
          last = b.last ∙ ap (λ (a : ℕ). before ++ (a ∷ [])) (sym w.whose);
          number = w.number;
          minutes = w.minutes ∙ ap (credit then) (sym w.whose);
          until = rw w.whose w.until;
        }

    -- ---- the rows that are stored
    same_row : (c : ℕ) → (e.apprentice ≡ c → ⊥) → row_of then c ≡ row_of es c
    same_row c n = rw (other_more es e c n)

    same_rows : (xs : List ℕ) → ((c : ℕ) → In c xs → c < e.apprentice) → map (row_of then) xs ≡ map (row_of es) xs
    same_rows [] h = refl
    same_rows (x ∷ xs) h = rw (same_row x (λ q. omega (arith, h x (inl refl))), same_rows xs (λ c m. h c (inr m)))

    stored_with : (lent rows : List (List ℕ)) → rows ≡ sets lent 0 (rows_of es) → stored rows (added u e) ≡ sets lent 0 (rows_of then)
    unfolding rows_of apprentices
    stored_with lent rows p =
        let w = row_added in
        let a = e.apprentice in
        let xs = map (row_of then) before in
        let kept : map (row_of then) before ≡ map (row_of es) before = same_rows before (λ c m. last_above 0 c a before (rw b.last at (rising_above (names then))) m) in
        let long : length xs ≡ length before = length-map before (row_of then) in
        let all : map (row_of then) (before ++ (a ∷ [])) ≡ xs ++ (row_of then a ∷ []) = map-append (row_of then) before (a ∷ []) in
        let here : stored rows (added u e) ≡ set rows (length before) (row_of then a) = rw (w.number, w.whose, w.minutes) in
        here ∙ b.place lent rows (row_of then a) p ∙ rw (← kept, b.last, all, ← long) (store_behind lent xs (row_of then a))

-- the first entry begins the first row
first_begun : (e : Entry) → Begun [] e [] (begun None e)
unfolding begun apprentices
first_begun e = new_begun [] e 0 refl (rising_last [] e.apprentice (λ z m. absurd m)) refl

-- another entry adds to the row of the last apprentice, or begins one
module _ (es : List Entry) (r : Row) (o : ℕ) (s : Tallied es r o) (e : Entry) (next : r.apprentice ≤ e.apprentice) (later : r.apprentice ≡ e.apprentice → o ≤ e.opening) where
  -- the last apprentice is the highest so far
  most : (z : ℕ) → In z (names es) → z ≤ r.apprentice
  unfolding apprentices
  most z m =
      ⊎_elim (λ n. omega (arith, last_above 0 z r.apprentice s.before (rw s.last at (rising_above (names es))) n)) (⊎_elim (λ q. omega arith) (λ n. absurd n))
      (in_append z s.before (r.apprentice ∷ []) (rw s.last at (rising_in z (names es) m)))

  other_last : (r.apprentice ≡ e.apprentice → ⊥) → apprentices (then es e) ≡ apprentices es ++ (e.apprentice ∷ [])
  unfolding apprentices
  other_last n = ap rising (names_then es e) ∙ rising_last (names es) e.apprentice (λ z m. above z (most z m))
    where
      above : (z : ℕ) → z ≤ r.apprentice → z < e.apprentice
      above z g = omega arith

  own_again : r.apprentice ≡ e.apprentice → apprentices (then es e) ≡ apprentices es
  unfolding apprentices
  own_again q =
      ap rising (names_then es e)
      ∙ rising_again (names es) e.apprentice (in_rising e.apprentice (names es) (rw (s.last, q) (append_in e.apprentice s.before (e.apprentice ∷ []) (inr (inl refl)))))

  none_other : (r.apprentice ≡ e.apprentice → ⊥) → own_minutes es e.apprentice ≡ []
  none_other n = none_own es e.apprentice (λ z m q. apart z (most z m) q)
    where
      apart : (z : ℕ) → z ≤ r.apprentice → z ≡ e.apprentice → ⊥
      apart z g q = n (omega arith)

  own_begun : r.apprentice ≡ e.apprentice → Begun es e s.before r
  unfolding rows_of
  own_begun q =
      let a = e.apprentice in
      let xs = map (row_of es) s.before in
      let last : apprentices es ≡ s.before ++ (a ∷ []) = rw q at s.last in
      let long : length xs ≡ length s.before = length-map s.before (row_of es) in
      let all : map (row_of es) (s.before ++ (a ∷ [])) ≡ xs ++ (row_of es a ∷ []) = map-append (row_of es) s.before (a ∷ []) in
      record {
        whose = q;
        last = own_again q ∙ last;
        number = s.number;
        minutes = s.minutes ∙ ap (credit es) q;
        until = λ z g. rw q at (s.until z (omega (arith, later q)));
        place = λ lent rows v p.
            let here : rows ≡ set (sets lent 0 xs) (length s.before) (row_of es a) =
            p ∙ ap (λ (rs : List (List ℕ)). sets lent 0 rs) (ap (map (row_of es)) last ∙ all) ∙ sym (rw long at (store_behind lent xs (row_of es a))) in
            rw here (set-set (sets lent 0 xs) (length s.before) (row_of es a) v);
      }

  next_begun : (before : List ℕ) × Begun es e before (begun (Some r) e)
  unfolding begun
  next_begun =
      by_test (eqb r.apprentice e.apprentice)
      (λ k. let q = eqb-true r.apprentice e.apprentice k in rw k (s.before, own_begun q))
      (λ k. let n = eqb-false r.apprentice e.apprentice k in
      rw k (apprentices es, new_begun es e (r.number + 1) (none_other n) (other_last n) (omega (arith, s.number, ap length s.last, length-append s.before (r.apprentice ∷ [])))))

-- ---- all entries
-- entries in order, the first of them not before the apprentice a and, of that one, the minute o
abbrev pub InOrder : ℕ → ℕ → List Entry → Type 0
InOrder a o [] = Unit {0}
InOrder a o (e ∷ es) = (a ≤ e.apprentice) × (a ≡ e.apprentice → o ≤ e.opening) × InOrder e.apprentice e.opening es

all_tallied : (fs es : List Entry) (r : Row) (o : ℕ) (lent rows : List (List ℕ)) → Tallied es r o → InOrder r.apprentice o fs → rows ≡ sets lent 0 (rows_of es)
    → (rows_begun (row_after (Some r) fs) ≡ length (apprentices (es ++ fs))) × (rows_by (Some r) rows fs ≡ sets lent 0 (rows_of (es ++ fs)))
unfolding row_after rows_by
all_tallied [] es r o lent rows s h p = rw (append-nil es) (omega (arith, s.number, ap length s.last, length-append s.before (r.apprentice ∷ [])), p)
all_tallied (e ∷ fs) es r o lent rows s h p =
    let (before, b) = next_begun es r o s e h.0 h.1 in
    let u = begun (Some r) e in
    let rest = all_tallied fs (es ++ (e ∷ [])) (added u e) e.opening lent (stored rows (added u e)) (tallied_with es e before u b)
    (rw (whose_added es e before u b) h.2) (stored_with es e before u b lent rows p) in
    rw (append_assoc es (e ∷ []) fs) at rest

pub tallied : (fs : List Entry) (lent : List (List ℕ)) → InOrder 0 0 fs → (rows_begun (row_after None fs) ≡ length (apprentices fs)) × (rows_by None lent fs ≡ sets lent 0 (rows_of fs))
unfolding rows_of apprentices row_after rows_by
tallied [] lent h = (refl, refl)
tallied (e ∷ fs) lent h =
    let b = first_begun e in
    let u = begun None e in
    all_tallied fs (e ∷ []) (added u e) e.opening lent (stored lent (added u e)) (tallied_with [] e [] u b) (rw (whose_added [] e [] u b) h.2) (stored_with [] e [] u b lent lent refl)
