-- `eight_bytes` meets its contract: each of its bytes is what the call of `byte_for` at its place ensures. Assumes nothing.
use Rattle.route.proofs.Bytes.{bytes_are}
use Rattle.route.proofs.eight_bytes.Goals as goal

pub returns : goal.returns
returns c =
    let a = c.args in
    bytes_are a.needs.now a.entries c.byte_for.ensures c.byte_for-2.ensures c.byte_for-3.ensures c.byte_for-4.ensures
    c.byte_for-5.ensures c.byte_for-6.ensures c.byte_for-7.ensures c.byte_for-8.ensures
