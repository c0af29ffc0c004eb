-- Reads counted in bytes: 0 for never, 1 for once, any other for more. Whatever a table of bytes holds, what the passes make of its image is the image
-- of what they would make of the table. Assumes nothing.
use Prim.Native.Nat.{ℕ, zero, suc}
use mathlib.Core.Path.{◌≡◌, refl, sym, ap, ◌∙◌}
use mathlib.Core.Bool.{Bool, true, false, cond}
use mathlib.Core.List.{List, [], ◌∷◌, map}
use lib.ListN.{get_or, set}
use lib.Dec.{eqb}
use native.Mathlib.Omega.{arith}
use borrow.Author.Tests.{ne_eqb}
use Rattle.std.proofs.Math.ListN.{get_or-map}
use Rattle.std.proofs.lemmas.List.{map-set}
use Rattle.sheet.proofs.Laws.{by_test}
use Rattle.sheet.specs.Signal.{is_net, net_of}
use Rattle.exercise.specs.declared.Record.{Record}
use Rattle.tables.specs.declared.Reads.{Reads}
use Rattle.tables.specs.declared.Reads.TheVariants.{Never, Once, More}
use Rattle.tables.specs.Records.{all_inputs}
use Rattle.tables.specs.passes.Tables.{one_more, is_once, read_once, read_each, reads_below}

abbrev pub reads_of : ℕ → Reads
reads_of zero = Never
reads_of (suc zero) = Once
reads_of (suc (suc n)) = More

-- the passes over bytes
unfoldable pub byte_once : List ℕ → ℕ → List ℕ
byte_once t s = cond (is_net s) (set t (net_of s) (cond (eqb (get_or t (net_of s) 0) 0) 1 2)) t

unfoldable pub byte_each : List ℕ → List ℕ → List ℕ
byte_each t [] = t
byte_each t (s ∷ ss) = byte_each (byte_once t s) ss

unfoldable pub bytes_below : (ℕ → Record) → List ℕ → ℕ → List ℕ
bytes_below cell t zero = t
bytes_below cell t (suc n) = byte_each (bytes_below cell t n) (all_inputs (cell n))

once_of : (n : ℕ) → is_once (reads_of n) ≡ eqb n 1
once_of zero = refl
once_of (suc zero) = refl
once_of (suc (suc n)) = sym (ne_eqb (suc (suc n)) 1 (λ q. omega arith))

more_of : (n : ℕ) → one_more (reads_of n) ≡ reads_of (cond (eqb n 0) 1 2)
more_of zero = refl
more_of (suc zero) = refl
more_of (suc (suc n)) = rw (ne_eqb (suc (suc n)) 0 (λ q. omega arith))

read_of : (t : List ℕ) (k : ℕ) → get_or (map reads_of t) k Never ≡ reads_of (get_or t k 0)
read_of t k = get_or-map reads_of t k 0

-- so a net is read once by the image exactly where its byte is 1
pub once_at : (t : List ℕ) (k : ℕ) → is_once (get_or (map reads_of t) k Never) ≡ eqb (get_or t k 0) 1
once_at t k = ap is_once (read_of t k) ∙ once_of (get_or t k 0)

once_image : (t : List ℕ) (s : ℕ) → read_once (map reads_of t) s ≡ map reads_of (byte_once t s)
unfolding read_once byte_once
once_image t s =
    by_test (is_net s)
    (λ e. rw (e, read_of t (net_of s), more_of (get_or t (net_of s) 0)) (sym (map-set reads_of t (net_of s) (cond (eqb (get_or t (net_of s) 0) 0) 1 2))))
    (λ e. rw e)

each_image : (t ss : List ℕ) → read_each (map reads_of t) ss ≡ map reads_of (byte_each t ss)
unfolding read_each byte_each
each_image t [] = refl
each_image t (s ∷ ss) = ap (λ (u : List Reads). read_each u ss) (once_image t s) ∙ each_image (byte_once t s) ss

pub below_image : (cell : ℕ → Record) (t : List ℕ) (n : ℕ) → reads_below cell (map reads_of t) n ≡ map reads_of (bytes_below cell t n)
unfolding reads_below bytes_below
below_image cell t zero = refl
below_image cell t (suc n) = ap (λ (u : List Reads). read_each u (all_inputs (cell n))) (below_image cell t n) ∙ each_image (bytes_below cell t n) (all_inputs (cell n))
