-- `c_formats::store::put_two` meets its contract: the stores are the definition's, byte by byte. Assumes nothing.
use mathlib.Core.Path.{◌≡◌, sym}
use Prim.Native.Nat.{suc, ◌+◌}
use native.Mathlib.Omega.{arith}
use lib.ListN.{length-set}
use Rattle.wire.specs.Bytes.{bytes_of}
use Rattle.wire.specs.Laws.{put_fits}
use Rattle.c_formats.proofs.store.put_two.Goals as goal

pub bounds-out-at-2 : goal.bounds-out-at-2
bounds-out-at-2 c = rw length-set (omega arith)

pub returns : goal.returns
unfolding bytes_of
returns c =
    let a = c.args in
    let e1 : a.at + 1 ≡ suc a.at = omega arith in
    rw e1 (sym (put_fits 2 a.out.now a.at a.n (omega arith)))
