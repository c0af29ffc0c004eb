-- What `place` notes of the entries that failed, and why an entry that is like one of them fails too, after as many tries: either makes no difference
-- to the needs after this one, or both are free and serve the same of them. Assumes nothing.
use Prim.Native.Nat.{ℕ, zero, suc, ◌<◌}
use mathlib.Core.Path.{◌≡◌, sym, ◌∙◌}
use mathlib.Core.Bool.{Bool, true, false, not, true≢false}
use mathlib.Core.List.{List}
use mathlib.Core.Option.{Option, none}
use native.Mathlib.Decide.{dec_lt}
use native.Mathlib.Omega.{arith}
use lib.ListN.{length, get_or, set, take, replicate, length-set, length-take, length-replicate, get_or-eq_default}
use lib.Dec.{eqb}
use lib.Seq.{get_or-take, get_or-set_same, get_or-set_other}
use borrow.Author.Tests.{eqb-true, eqb-false, not-true}
use Rattle.std.specs.Prelude.{Some, None}
use Rattle.std.specs.Prelude as std
use Rattle.sheet.specs.Lists.{anyb}
use Rattle.sheet.proofs.Laws.{by_test, and_parts}
use Rattle.entries.specs.declared.Need.{Need}
use Rattle.entries.specs.Table.{Table, ENTRIES}
use Rattle.route.specs.declared.Failure.{Failure}
use Rattle.route.specs.passes.Search.{held_by, is_idle, FailedLike}
use Rattle.entries.specs.passes.Entries.{may_have, differ_for}
use Rattle.route.proofs.Ways.{may_parts}
use Rattle.route.proofs.Turns.{rest_of, after_of}
use Rattle.route.proofs.Idle.{idle_finds, idle_tries}
use Rattle.route.proofs.Twins.{twins_fail}

-- the need n, with the needs ns after it
module _ (t : Table) (held : List ℕ) (n : Need) (ns : List Need) where
  abbrev ok : ℕ → Bool
  ok e = may_have t held n e

  abbrev idle : ℕ → Bool
  idle e = is_idle t held n ns e

  -- what the needs after it find with e, and with how many tries
  abbrev rest : ℕ → Option (List ℕ)
  rest e = rest_of (may_have t) held_by ENTRIES held n ns 0 e

  abbrev made : ℕ → ℕ
  made e = after_of (may_have t) held_by ENTRIES held n ns 0 e

  busy_free : (e : ℕ) → idle e ≡ false → get_or held e 0 ≡ 0
  busy_free e q =
      by_test (eqb (get_or held e 0) 0) (λ p. eqb-true (get_or held e 0) 0 p)
      (λ p. absurd (true≢false (rw p at q)))

  -- f failed, and x is noted of it
  record Failed (x : Failure) (f : ℕ) : Type 0 where
    given : ok f ≡ true
    own : x.idle ≡ idle f
    nothing : rest f ≡ none
    count : made f ≡ x.tries

  -- where something is noted of an entry, it failed so
  pub record AllNoted (noted : List (std.Option Failure)) : Type 0 where
    pub eight : length noted ≡ ENTRIES
    each : (f : ℕ) (x : Failure) → get_or noted f None ≡ Some x → Failed x f

  pub none_noted : AllNoted (replicate ENTRIES None)
  none_noted = record { eight = length-replicate {A = std.Option Failure} ENTRIES None; each = λ f x q. absurd (nothing_noted ENTRIES f x q) }
    where
      nothing_noted : (k f : ℕ) (x : Failure) → get_or (replicate k None) f None ≡ Some x → ⊥
      nothing_noted zero f x q = cc
      nothing_noted (suc k) zero x q = cc
      nothing_noted (suc k) (suc f) x q = nothing_noted k f x q

  module _ (noted : List (std.Option Failure)) (all : AllNoted noted) where
    -- e failed
    pub noted_next : (e : ℕ) (x : Failure) → e < ENTRIES → ok e ≡ true → x.idle ≡ idle e → rest e ≡ none → x.tries ≡ made e → AllNoted (set noted e (Some x))
    noted_next e x low given own nothing count = record { eight = length-set noted e (Some x) ∙ all.eight; each = each }
      where
        each : (f : ℕ) (y : Failure) → get_or (set noted e (Some x)) f None ≡ Some y → Failed y f
        each f y q =
            by_test (eqb f e)
            (λ p.
            let same = eqb-true f e p in
            let here = get_or-set_same noted e (Some x) None (let j = all.eight in omega arith) in
            let is : x ≡ y = (let z : Some x ≡ Some y = sym here ∙ rw same at q in cc) in
            rw (same, ← is) (record { given = given; own = own; nothing = nothing; count = sym count }))
            (λ p. all.each f y (rw (get_or-set_other noted e f (Some x) None (eqb-false f e p)) at q))

    -- e is like f: THE NEEDS AFTER IT FIND NOTHING, AFTER THE TRIES THAT ARE NOTED
    module _ (long : length held ≡ ENTRIES) (e : ℕ) (high : e < ENTRIES) (given : ok e ≡ true) where
      abbrev Fails : ℕ → Type 0
      Fails tries = (rest e ≡ none) × (made e ≡ tries)

      -- neither makes a difference
      both_idle : (f : ℕ) (x : Failure) → f < ENTRIES → Failed x f → x.idle ≡ true → idle e ≡ true → Fails x.tries
      both_idle f x low h p q =
          let idle-f : idle f ≡ true = sym h.own ∙ p in
          let open-e = (may_parts t held n e given).1 in
          let open-f = (may_parts t held n f h.given).1 in
          let low-e : e < length held = omega (arith, long) in
          let low-f : f < length held = omega (arith, long) in (
            idle_finds t held n e low-e open-e ENTRIES ns q ∙ sym (idle_finds t held n f low-f open-f ENTRIES ns idle-f) ∙ h.nothing,
            idle_tries t held n e low-e open-e ENTRIES ns q ∙ sym (idle_tries t held n f low-f open-f ENTRIES ns idle-f) ∙ h.count,
          )

      -- both make the same
      both_busy : (f : ℕ) (x : Failure) → f < ENTRIES → Failed x f → x.idle ≡ false → idle e ≡ false → anyb (differ_for t f e) ns ≡ false → Fails x.tries
      both_busy f x low h p q alike =
          let busy-f : idle f ≡ false = sym h.own ∙ p in
          let fail = twins_fail t f e ENTRIES low high held long (busy_free f busy-f) (busy_free e q) n ns alike h.nothing in
          (fail.0, fail.1 ∙ h.count)

      -- an entry before e, as each is of which something is noted before e
      below : (f : ℕ) (x : Failure) → get_or (take e noted) f None ≡ Some x → f < e
      below f x q =
          elim (dec_lt f e) [
            | yes l ↦ l
            | no l ↦ (let none : get_or (take e noted) f None ≡ None = get_or-eq_default (take e noted) None (omega (arith, length-take e noted)) in cc)
          ]

      pub like_fails : (tries : ℕ) → FailedLike t ns (take e noted) (idle e) e tries → Fails tries
      like_fails tries g =
          let before = below g.f g.failure g.is_noted in
          let low : g.f < ENTRIES = omega arith in
          let noted-f = all.each g.f g.failure (rw (get_or-take e noted g.f None before) at g.is_noted) in
          rw g.as_many (by_test (idle e)
          (λ q. both_idle g.f g.failure low noted-f (rw q at g.like) q)
          (λ q. let both = and_parts (not g.failure.idle) (not (anyb (differ_for t g.f e) ns)) (rw q at g.like) in
          both_busy g.f g.failure low noted-f (not-true g.failure.idle both.0) q (not-true (anyb (differ_for t g.f e) ns) both.1)))
