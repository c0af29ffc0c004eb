-- Where every cell has a key, the scan over keys finds what the scan over places finds, from whichever cell it begins that none clashes before.
use Prim.Native.Nat.{◌<◌}
use mathlib.Core.Path.{◌≡◌, ◌∙◌}
use lib.ListN.{get_or}
use lib.Dec.{eqb}
use native.Mathlib.Omega.{arith}
use borrow.Author.Rules.{rules}
use Rattle.placing.specs.Places.{place_taken, same_place}
use Rattle.clashes.specs.passes.Keys.{FreeTo}
use Rattle.clashes.proofs.Keys.{keyed_are, keys_tell, none_free, free_places}
use Rattle.clashes.proofs.Pairs.{first_clash}
use Rattle.clashes.proofs.first_shared.Goals as goal
use Rattle.clashes.proofs.first_shared.Goals.{then-cells-le-FEW, else-cells-le-FEW}

pub returns-then-not-keyed : goal.returns-then-not-keyed
unfolding place_taken
returns-then-not-keyed c =
    first_clash _ (same_place c.args.exercise.now c.args.answer.now) _ (λ i h j l b p. search rules) 0 (λ i h. absurd (omega arith)) _ c.first_clash.ensures

pub free_to-free-requires : goal.free_to-free-requires
free_to-free-requires c =
    keyed_are _ _ _ _ (c.fill_keys-keyed.ensures.told c.if-not-keyed.false)

pub first_clash-requires-2 : goal.first_clash-requires-2
first_clash-requires-2 c =
    let k = keyed_are _ _ _ _ (c.fill_keys-keyed.ensures.told c.if-not-keyed.false) in
    record { callable = λ j i a b. let h : i < 512 = omega (arith, k.room) in search rules }

pub returns : goal.returns
unfolding place_taken
returns c =
    let h = c.fill_keys-keyed.ensures.told c.if-not-keyed.false in
    let free : FreeTo c.fill_keys-keyed.new.keys c.args.cells c.if-cells-le-FEW.free = elim c.if-cells-le-FEW.branch [
      | then-cells-le-FEW w ↦ rw w.free-is (none_free _ _)
      | else-cells-le-FEW w ↦ rw w.free-is w.free_to-free.ensures
    ] in
    first_clash _ (same_place c.args.exercise.now c.args.answer.now) _
    (λ i k j l b p. let e : b ≡ eqb (get_or c.fill_keys-keyed.new.keys j 0) (get_or c.fill_keys-keyed.new.keys i 0) = search rules in e ∙ keys_tell _ _ _ _ h i k j l)
    _ (free_places _ _ _ _ h _ free) _ c.first_clash-2.ensures
