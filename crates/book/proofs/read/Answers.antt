-- a turn of the loop keeps an entry
use Rattle.std.proofs.Common.{rules, arith, sym, ◌≡◌, ◌-◌, ◌≤◌, ℕ, List, inl, drop, length, length-drop}
use Rattle.std.proofs.lemmas.Result.{err_from_is_err_and}
use Rattle.book.specs.Format.{count_in, entries_left, entries_of}
use Rattle.book.specs.Reader.{refusal}
use Rattle.book.proofs.Left.{next_read, whole_left}
use Rattle.book.proofs.Entries.{length_entries, head_accepted, take_start, take_next, take_done, read_answer, refused_answer}
use Rattle.book.proofs.read.Goals as goal

pub returns-in_err-check : goal.returns-in_err-check
returns-in_err-check c =
    let p = err_from_is_err_and c.from_residual.result c.from_residual.ensures.1 in
    rw (p.1, p.2) (refused_answer c.args.book.now c.in_err-check.field-0.0 c.in_err-check.ensures)

pub bounds-book-1 : goal.bounds-book-1
bounds-book-1 c = omega (arith, (head_accepted c.args.book.now (sym c.in_ok-check.ensures)).long)

pub slice_bounds-listed-end : goal.slice_bounds-listed-end
slice_bounds-listed-end c =
    let uncut = (head_accepted c.args.book.now (sym c.in_ok-check.ensures)).uncut in
    let ends = c.first_body-end.ensures in
    search rules

few : (book : List ℕ) → 0 ≡ refusal book → length (entries_of book) ≤ 64
few book none =
    omega (arith, length_entries (count_in book) (drop 2 book), (head_accepted book (sym none)).few)

pub loop-i-init : goal.loop-i-init
loop-i-init c =
    let book = c.args.book.now in
    let head = head_accepted book (sym c.in_ok-check.ensures) in
    let k = count_in book in
    let same = c.into_iter-i-iterator.ensures.into_iter_gives in
    let ends = c.first_body-end.ensures in
    let whole : entries_left c.into_iter-i-iterator.result.iter ≡ entries_of book =
    rw (same, c.enumerate-i-items.ensures.source)
    (whole_left k (c.first_body-end.result - 2) (drop 2 book) (omega arith) (simp length-drop (omega (arith, head.uncut)))) in
    let none : c.into_iter-i-iterator.result.count ≡ 0 = rw same c.enumerate-i-items.ensures.count in
    let d = c.default-entries.ensures in
    let taking = take_start (entries_of book) _ _ (few book c.in_ok-check.ensures) whole none in
    rw (d.0, d.1.0, d.1.1.0, d.1.1.1.0, d.1.1.1.1.0, d.1.1.1.1.1)
    ((tt, tt, inl (omega (arith, taking.few))), tt, taking)

pub loop-i-preserved : goal.loop-i-preserved
loop-i-preserved c =
    let s = c.in-Some.ensures.steps in
    let taking = take_next c.loop-i.invariant.2 (next_read s.0 c.entry_in.ensures) s.1 s.2 in
    ((tt, tt, inl (omega (arith, taking.few))), tt, taking)

pub returns : goal.returns
returns c =
    let book = c.args.book.now in
    read_answer book c.loop-i.entries c.in_ok-check.ensures
    (take_done c.loop-i.invariant.2 (few book c.in_ok-check.ensures) c.in-None.ensures.steps.0.0)
