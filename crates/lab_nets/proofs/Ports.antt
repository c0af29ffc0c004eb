-- The marks of signals, one after the other. Assumes nothing.
use Rattle.std.proofs.Common.{◌≡◌, ℕ, ◌+◌, ◌<◌, ◌≤◌, Bool, true, false, List, map, length, get_or, drop, add-one}
use Rattle.std.proofs.Math.ListN.{drop_of_length-le}
use Rattle.std.proofs.Math.Seq.{drop-cons}
use Rattle.sheet.specs.Signal.{is_net, net_of}
use Rattle.sheet.specs.declared.Signal.{Signal}
use Rattle.distinct.specs.declared.LabMarks.{LabMarks}
use Rattle.distinct.specs.passes.Marks.{reads, Marking, mark, mark_all}
use Rattle.lab_nets.specs.NetsIn.{nets_at}
use Rattle.sheet.specs.Signal.{codes}

-- of some signals, those from i on leave of m what all of them leave of m₀
pub record Left (l : LabMarks) (m₀ : Marking) (signals : List Signal) (m : Marking) (i : ℕ) : Type 0 where
  pub left : mark_all l m (map reads (nets_at (codes (drop i signals)))) ≡ mark_all l m₀ (map reads (nets_at (codes signals)))

module _ (l : LabMarks) (m₀ : Marking) (signals : List Signal) (m : Marking) (i : ℕ) (s : Left l m₀ signals m i) where
  module _ (d : Signal) (h : i < length signals) {b : Bool} (e : b ≡ is_net (get_or signals i d).0) where
    -- a signal that is a net marks its net, and another marks nothing
    pub net_marked : {n : ℕ} {k : Marking} → b ≡ true → n ≡ net_of (get_or signals i d).0 → k ≡ mark l m (reads n) → Left l m₀ signals k (i + 1)
    unfolding mark_all
    net_marked t q g = record { left = rw (add-one, g, q) (rw (drop-cons signals i d h, ← e, t) at s.left) }

    pub none_marked : b ≡ false → Left l m₀ signals m (i + 1)
    none_marked f = record { left = rw add-one (rw (drop-cons signals i d h, ← e, f) at s.left) }

  pub all_marked : length signals ≤ i → m ≡ mark_all l m₀ (map reads (nets_at (codes signals)))
  unfolding mark_all
  all_marked h = rw (drop_of_length-le signals h) at s.left
