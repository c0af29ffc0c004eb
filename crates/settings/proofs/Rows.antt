-- The rows of a sheet's table, read byte by byte; and what `from_fn` makes. Assumes nothing.
use Prim.Native.Nat.{ℕ, zero, suc, ◌+◌, ◌≤◌, ◌<◌}
use native.Mathlib.Omega.{arith}
use mathlib.Core.Path.{◌≡◌, refl, sym, subst, ◌∙◌}
use mathlib.Core.List.{List, [], ◌∷◌, map}
use lib.ListN.{get_or}
use lib.Dec.{eqb}
use borrow.Author.Tests.{eqb-true, eqb-false}
use denote.Param.Members.{Mut, Called}
use Rattle.std.specs.Array.{IsFromFnResult, IsFromFnResultFrom}
use Rattle.std.proofs.lemmas.List.{same_lists}
use Rattle.sheet.specs.Lists.{below}
use Rattle.sheet.specs.Bytes.{byte_at}
use Rattle.sheet.proofs.Laws.{by_test}
use Rattle.sheet.proofs.Lists.{table_length, table_at}
use Rattle.entries.specs.Table.{no_row}
use Rattle.settings.specs.Settings.{row_of}

-- the row of each byte, past the last the one that serves nothing
pub row_byte : (fs : List ℕ) (e : ℕ) → row_of (byte_at fs e) ≡ get_or (map row_of fs) e no_row
row_byte [] e = refl
row_byte (f ∷ fs) zero = refl
row_byte (f ∷ fs) (suc e) = row_byte fs e

-- what `from_fn` makes with a closure that changes nothing and gives v i at each i
module _ {F A : Type 0} {g : Mut F (ℕ × Unit {0}) A} {f : F} where
  made_at : (ys : List A) (v : ℕ → A) (n i k : ℕ) (d : A) → IsFromFnResultFrom g f ys i n → ((j : ℕ) (y : A) (q : F) → Called g f (j, tt) y q → (y ≡ v j) × (q ≡ f)) → i ≤ k → k < i + n → get_or ys k d ≡ v k
  made_at ys v zero i k d m h a b = absurd (omega arith)
  made_at ys v (suc n) i k d m h a b =
      let (q, y, here, call, rest) = m in
      let s = h i y q call in
      by_test (eqb i k) (λ e. let at = eqb-true i k e in subst (λ (j : ℕ). get_or ys j d ≡ v j) at (here.1 d ∙ s.0))
      (λ e. made_at ys v n (i + 1) k d (subst (λ (p : F). IsFromFnResultFrom g p ys (i + 1) n) s.1 rest) h (omega (arith, eqb-false i k e)) (omega arith))

  pub made_list : {ys : List A} {n : ℕ} → IsFromFnResult g f ys n → (v : ℕ → A) → ((j : ℕ) (y : A) (q : F) → Called g f (j, tt) y q → (y ≡ v j) × (q ≡ f)) → ys ≡ map v (below n)
  made_list {ys} {n} m v h =
      same_lists ys (map v (below n)) (m.long ∙ sym (table_length v n))
      (λ k d l. let b : k < n = omega (arith, m.long) in made_at ys v n 0 k d m.each h (omega arith) (omega arith) ∙ sym (table_at v d n k b))
