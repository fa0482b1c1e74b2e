-- `words::text_of` meets its contract, in each of its two cases. Assumes nothing.
use Prim.Native.Nat.{◌+◌, ◌≤◌}
use native.Mathlib.Nat.{add-sub_cancel_left}
use native.Mathlib.Omega.{arith}
use lib.ListN.{length}
use Rattle.words.proofs.text_of.Goals as goal

pub overflow_add-result : goal.overflow_add-result
overflow_add-result c =
    let a = c.args in
    let h : a.at + a.len ≤ length a.m.now.words.now = rw c.if-from_book.true at c.requires in
    omega arith

pub slice_bounds-result-end : goal.slice_bounds-result-end
slice_bounds-result-end c =
    let a = c.args in
    let h : a.at + a.len ≤ length a.m.now.words.now = rw c.if-from_book.true at c.requires in
    omega arith

pub overflow_add-result-else-from_book : goal.overflow_add-result-else-from_book
overflow_add-result-else-from_book c =
    let a = c.args in
    let h : a.at + a.len ≤ length a.m.now.b.now = rw c.if-from_book.false at c.requires in
    omega arith

pub slice_bounds-result-end-else-from_book : goal.slice_bounds-result-end-else-from_book
slice_bounds-result-end-else-from_book c =
    let a = c.args in
    let h : a.at + a.len ≤ length a.m.now.b.now = rw c.if-from_book.false at c.requires in
    omega arith

pub returns-then-from_book : goal.returns-then-from_book
returns-then-from_book c = rw (add-sub_cancel_left, c.if-from_book.true)

pub returns-else-from_book : goal.returns-else-from_book
returns-else-from_book c = rw (add-sub_cancel_left, c.if-from_book.false)
