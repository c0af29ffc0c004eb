-- The eight bytes stand in a part of the rows.
use Prim.Native.Nat.{◌+◌, ◌*◌, ◌-◌}
use native.Mathlib.Omega.{arith}
use lib.ListN.{length}
use mathlib.Core.Path.{◌≡◌, sym, ap, ◌∙◌}
use Rattle.lab_pass.specs.passes.Results.{put_row}
use Rattle.lab_pass.proofs.Rows.{part_sets, mid_long}
use Rattle.lab_pass.proofs.put_row.Goals as goal

pub returns : goal.returns
unfolding put_row
returns c =
    let a = c.args in
    let eight : 8 * a.lab + 8 - 8 * a.lab ≡ 8 = omega arith in
    let copied = c.copy_from_slice.ensures in
    let at = c.from-at.ensures in
    let long : length a.bytes ≡ 8 = sym (ap length copied.after) ∙ copied.len ∙ rw at (mid_long (8 * a.lab) (8 * a.lab + 8 - 8 * a.lab) a.rows.now (omega arith)) ∙ eight in
    rw (at, eight) (part_sets a.rows.now _ a.bytes (8 * a.lab) 8 copied.after (sym long) (omega arith))
