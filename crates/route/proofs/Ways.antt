-- What the search finds is the first of the ways. The lists that it may give from some held entries on are the ways whose entries are open to their
-- needs. Fewer needs don't lose their way. Assumes nothing.
use Prim.Native.Nat.{ℕ, zero, suc, ◌+◌, ◌<◌}
use mathlib.Core.Path.{◌≡◌, refl, sym, ap, ◌∙◌}
use mathlib.Core.Logic.{◌⊎◌, inl, inr, ⊎_elim}
use mathlib.Core.Bool.{true, ◌||◌, or-true, true≢false}
use mathlib.Core.List.{List, [], ◌∷◌, Sublistᴰ}
use native.Mathlib.Nat.{not-suc-le-zero, le_of_suc-le-suc}
use native.Mathlib.Omega.{arith}
use lib.ListN.{length, get_or, replicate, get_or-replicate, length-replicate, length-set}
use lib.Dec.{eqb}
use lib.Seq.{get_or-set_same, get_or-set_other}
use borrow.Author.Tests.{eqb-true, eqb-false, eq-eqb}
use Rattle.sheet.proofs.Laws.{by_test, and_parts}
use Rattle.entries.specs.declared.Need.{Need}
use Rattle.entries.specs.Table.{Table, serves, need_at, need_net}
use Rattle.route.specs.Way.{Way}
use Rattle.route.specs.passes.Search.{held_by, found_way}
use Rattle.entries.specs.passes.Entries.{holder, may_have}
use Rattle.route.proofs.FirstGiven.{First, Given, first_same, search_first}

-- ---- one entry
-- what the table does not hold serves no role
pub served_low : (t : Table) (e r : ℕ) → serves t e r ≡ true → e < length t
served_low [] e r q = absurd (true≢false (sym q))
served_low (x ∷ t) zero r q = omega arith
served_low (x ∷ t) (suc e) r q = let h = served_low t e r q in omega arith

-- an entry is open to a need: it is free, or the need's own net has it
abbrev pub Open : List ℕ → Need → ℕ → Type 0
Open held n e = (get_or held e 0 ≡ 0) ⊎ (get_or held e 0 ≡ holder n)

module _ (t : Table) (held : List ℕ) (n : Need) (e : ℕ) where
  pub may_parts : may_have t held n e ≡ true → (serves t e n.role ≡ true) × Open held n e
  may_parts q =
      let parts = and_parts (serves t e n.role) (eqb (get_or held e 0) 0 || eqb (get_or held e 0) (holder n)) q in (
        parts.0,
        by_test (eqb (get_or held e 0) 0) (λ f. inl (eqb-true (get_or held e 0) 0 f))
            (λ f. inr (eqb-true (get_or held e 0) (holder n) (rw f at parts.1))),
      )

  pub open_test : Open held n e → eqb (get_or held e 0) 0 || eqb (get_or held e 0) (holder n) ≡ true
  open_test (inl f) = rw (eq-eqb (get_or held e 0) 0 f) refl
  open_test (inr f) = rw (eq-eqb (get_or held e 0) (holder n) f) (or-true (eqb (get_or held e 0) 0))

  pub parts_may : serves t e n.role ≡ true → Open held n e → may_have t held n e ≡ true
  parts_may s o = rw (s, open_test o) refl

-- needs of one net have one mark
pub same_mark : (n m : Need) → need_net n ≡ need_net m → holder n ≡ holder m
same_mark n m q = ap (λ (k : ℕ). k + 1) q

-- once e is given to n: what is open to m was so before, and is e only where m is of the same net; and the other way round
module _ (held : List ℕ) (n m : Need) (e x : ℕ) (low : e < length held) where
  abbrev kept : Type 0
  kept = x ≡ e → need_net n ≡ need_net m

  mark_of : x ≡ e → get_or (held_by held n e) x 0 ≡ holder n
  mark_of p = rw p (get_or-set_same held e (holder n) 0 low)

  pub open_after : Open held m x → kept → Open (held_by held n e) m x
  open_after o k =
      by_test (eqb x e) (λ q. let p = eqb-true x e q in inr (mark_of p ∙ same_mark n m (k p)))
      (λ q.
      let other = get_or-set_other held e x (holder n) 0 (eqb-false x e q) in
      ⊎_elim (λ f. inl (other ∙ f)) (λ f. inr (other ∙ f)) o)

  pub open_before : Open held n e → Open (held_by held n e) m x → Open held m x × kept
  open_before here o =
      by_test (eqb x e)
      (λ q.
      let p = eqb-true x e q in
      let net = one p in
      (⊎_elim (λ f. inl (rw p f)) (λ f. inr (rw p (f ∙ same_mark n m net))) here, λ r. net))
      (λ q.
      let other = get_or-set_other held e x (holder n) 0 (eqb-false x e q) in
      (⊎_elim (λ f. inl (sym other ∙ f)) (λ f. inr (sym other ∙ f)) o, λ r. absurd (eqb-false x e q r)))
    where
      one : x ≡ e → need_net n ≡ need_net m
      one p = let mark = mark_of p in ⊎_elim (λ f. absurd (omega arith)) (λ f. omega arith) o

-- ---- a way, need by need
-- where a need of ns has entry e, it is of the net of n
abbrev pub OneNet : Need → ℕ → List Need → List ℕ → Type 0
OneNet n e ns w = (i : ℕ) → i < length w → e ≡ get_or w i 0 → need_net n ≡ need_net (need_at ns i)

module _ (t : Table) where
  pub way_nil : Way t [] []
  way_nil = record { as_long = refl; serving = λ i h. absurd (not-suc-le-zero h); one_net = λ i j l h. absurd (not-suc-le-zero h) }

  -- one need more: an entry that serves it and that no need of another net has
  pub way_cons : (n : Need) (ns : List Need) (e : ℕ) (w : List ℕ) → serves t e n.role ≡ true → OneNet n e ns w → Way t ns w → Way t (n ∷ ns) (e ∷ w)
  way_cons n ns e w s one p = record { as_long = ap suc p.as_long; serving = serve; one_net = share }
    where
      serve : (i : ℕ) → i < length (n ∷ ns) → serves t (get_or (e ∷ w) i 0) (need_at (n ∷ ns) i).role ≡ true
      serve zero h = s
      serve (suc i) h = p.serving i (le_of_suc-le-suc h)

      share : (i j : ℕ) → i < j → j < length (n ∷ ns) → get_or (e ∷ w) i 0 ≡ get_or (e ∷ w) j 0 → need_net (need_at (n ∷ ns) i) ≡ need_net (need_at (n ∷ ns) j)
      share i zero l h q = absurd (not-suc-le-zero l)
      share zero (suc j) l h q = one j (let k = p.as_long in omega arith) q
      share (suc i) (suc j) l h q = p.one_net i j (le_of_suc-le-suc l) (le_of_suc-le-suc h) q

  -- what a way says of its first need, and of the others
  module _ (n : Need) (ns : List Need) (e : ℕ) (w : List ℕ) (p : Way t (n ∷ ns) (e ∷ w)) where
    pub way_serves : serves t e n.role ≡ true
    way_serves = p.serving 0 (omega arith)

    pub way_shares : OneNet n e ns w
    way_shares i m = p.one_net 0 (suc i) (omega arith) (let q = p.as_long in omega arith)

    pub way_rest : Way t ns w
    way_rest = record {
      as_long = let q = p.as_long in omega arith;
      serving = λ i h. p.serving (suc i) (omega arith);
      one_net = λ i j l h. p.one_net (suc i) (suc j) (omega arith) (omega arith);
    }

-- ---- to be given entry by entry is to be a way whose entries are open
abbrev pub GivenFrom : Table → List ℕ → List Need → List ℕ → Type 0
GivenFrom t = Given (may_have t) held_by (length t)

abbrev pub AllOpen : List ℕ → List Need → List ℕ → Type 0
AllOpen held ns w = (i : ℕ) → i < length w → Open held (need_at ns i) (get_or w i 0)

given_way : (t : Table) (ns : List Need) (held : List ℕ) (w : List ℕ) → length held ≡ length t → GivenFrom t held ns w → Way t ns w × AllOpen held ns w
given_way t [] held [] l b = (way_nil t, λ i h. absurd (not-suc-le-zero h))
given_way t [] held (e ∷ w) l b = absurd b
given_way t (n ∷ ns) held [] l b = absurd b
given_way t (n ∷ ns) held (e ∷ w) l b = longer (given_way t ns (held_by held n e) w (length-set held e (holder n) ∙ l) b.2)
  where
    here : (serves t e n.role ≡ true) × Open held n e
    here = may_parts t held n e b.1

    longer : Way t ns w × AllOpen (held_by held n e) ns w → Way t (n ∷ ns) (e ∷ w) × AllOpen held (n ∷ ns) (e ∷ w)
    longer p = (way_cons t n ns e w here.0 (λ i h q. (later i h).1 (sym q)) p.0, opened)
      where
        later : (i : ℕ) → i < length w → Open held (need_at ns i) (get_or w i 0) × (get_or w i 0 ≡ e → need_net n ≡ need_net (need_at ns i))
        later i h = open_before held n (need_at ns i) e (get_or w i 0) (let k = b.0 in omega arith) here.1 (p.1 i h)

        opened : AllOpen held (n ∷ ns) (e ∷ w)
        opened zero h = here.1
        opened (suc i) h = (later i (le_of_suc-le-suc h)).0

way_given : (t : Table) (ns : List Need) (held : List ℕ) (w : List ℕ) → length held ≡ length t → Way t ns w → AllOpen held ns w → GivenFrom t held ns w
way_given t [] held [] l p f = tt
way_given t [] held (e ∷ w) l p f = let q = p.as_long in omega arith
way_given t (n ∷ ns) held [] l p f = let q = p.as_long in omega arith
way_given t (n ∷ ns) held (e ∷ w) l p f = (
  low,
  parts_may t held n e here (f 0 (omega arith)),
  way_given t ns (held_by held n e) w (length-set held e (holder n) ∙ l) (way_rest t n ns e w p) rest,
)
  where
    here : serves t e n.role ≡ true
    here = way_serves t n ns e w p

    low : e < length t
    low = served_low t e n.role here

    rest : AllOpen (held_by held n e) ns w
    rest i h =
        open_after held n (need_at ns i) e (get_or w i 0) (let k = low in omega arith) (f (suc i) (omega arith)) (λ q. way_shares t n ns e w p i h (sym q))

abbrev pub none_held : Table → List ℕ
none_held t = replicate (length t) 0

module _ (t : Table) where
  pub from_start : (ns : List Need) (w : List ℕ) → Way t ns w → GivenFrom t (none_held t) ns w
  from_start ns w p =
      way_given t ns (none_held t) w (length-replicate (length t) 0) p (λ i h. inl (get_or-replicate (length t) (get_or w i 0) 0 0
      (served_low t (get_or w i 0) (need_at ns i).role (p.serving i (let k = p.as_long in omega arith)))))

  pub to_way : (ns : List Need) (w : List ℕ) → GivenFrom t (none_held t) ns w → Way t ns w
  to_way ns w b = (given_way t ns (none_held t) w (length-replicate (length t) 0) b).0

  pub first_way : (ns : List Need) → First (Way t ns) (found_way t ns)
  unfolding found_way
  first_way ns =
      first_same (GivenFrom t (none_held t) ns) (Way t ns) (to_way ns) (from_start ns) (found_way t ns)
      (search_first (may_have t) held_by (length t) (none_held t) ns)

  -- fewer needs: the entries of those that stay; what is said of each need and its entry stays true
  part_of : {ms ns : List Need} → Sublistᴰ ms ns → (w : List ℕ) → Way t ns w
      → (v : List ℕ) × Way t ms v × ((n : Need) (e : ℕ) → OneNet n e ns w → OneNet n e ms v)
  part_of Sublistᴰ.slnil [] p = ([], way_nil t, λ n e h. h)
  part_of Sublistᴰ.slnil (x ∷ w) p = absurd (let q = p.as_long in omega arith)
  part_of (Sublistᴰ.cons s) [] p = absurd (let q = p.as_long in omega arith)
  part_of (Sublistᴰ.cons {a = b} {l₂ = ns} s) (x ∷ w) p =
      let rest = part_of s w (way_rest t b ns x w p) in
      (rest.0, rest.1, λ n e h. rest.2 n e (λ i m. h (suc i) (omega arith)))
  part_of (Sublistᴰ.cons-cons q s) [] p = absurd (let k = p.as_long in omega arith)
  part_of (Sublistᴰ.cons-cons {a = a} {b = b} {l₁ = ms} {l₂ = ns} q s) (x ∷ w) p =
      let rest = part_of s w (way_rest t b ns x w p) in
      let serve : serves t x a.role ≡ true = rw q (way_serves t b ns x w p) in
      let one : OneNet a x ns w = rw q (way_shares t b ns x w p) in (
        x ∷ rest.0,
        way_cons t a ms x rest.0 serve (rest.2 a x one) rest.1,
        more q rest.0 rest.2,
      )
    where
      more : a ≡ b → (v : List ℕ) → ((n : Need) (e : ℕ) → OneNet n e ns w → OneNet n e ms v)
          → (n : Need) (e : ℕ) → OneNet n e (b ∷ ns) (x ∷ w) → OneNet n e (a ∷ ms) (x ∷ v)
      more r v f n e h zero m k = rw r (h 0 (omega arith) k)
      more r v f n e h (suc i) m k = f n e (λ j l. h (suc j) (omega arith)) i (le_of_suc-le-suc m) k

  pub way_part : {ms ns : List Need} → Sublistᴰ ms ns → (w : List ℕ) → Way t ns w → (v : List ℕ) × Way t ms v
  way_part s w p = let part = part_of s w p in (part.0, part.1)
