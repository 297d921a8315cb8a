-- The bytes of a whole book: how many there are, and that the writer's parts put one behind the other are they.
use mathlib.Core.Path.{◌≡◌, refl, sym, ap, ◌∙◌}
use mathlib.Core.Bool.{Bool, true, false}
use mathlib.Core.List.{List, ◌∷◌, ◌++◌}
use Prim.Native.Nat.{ℕ, ◌+◌, ◌≤◌}
use native.Mathlib.Nat.{zero-add}
use native.Mathlib.Omega.{arith}
use lib.Dec.{eqb}
use lib.ListN.{length, set, drop, length-append, length-set}
use lib.Seq.{sets, sets-eq, length-sets}
use borrow.Author.Tests.{eqb-true, ne_eqb}
use Rattle.std.specs.Prelude.{Ok, Err}
use Rattle.basics.specs.Answer.{Answers}
use Rattle.basics.specs.Refusal.{refusal_number}
use Rattle.basics.specs.declared.refusal.Refusal.{Refusal}
use Rattle.basics.proofs.Refusals.{number_some, with_number}
use Rattle.basics.proofs.Bytes.{sets_joined}
use Rattle.book.specs.Format.{first_body, placed, contents_bytes, book_of, most}
use Rattle.book.specs.Writer.{counted, size, write_refusal, writing_told, writing_case, writing, output}
use Rattle.book.specs.declared.Entry.{Entry}
use Rattle.book.specs.declared.Contents.{Contents}
use Rattle.book.proofs.Refusals.{writable}
use Rattle.book.proofs.Counted.{length_counted}
use Rattle.book.proofs.Laid.{length_first}

pub length_book : (entries : List Entry) (bodies : List ℕ)
    → length (book_of entries bodies) ≡ first_body (length entries) + length bodies
unfolding book_of
length_book entries bodies =
    let contents = contents_bytes (placed (first_body (length entries)) entries) in
    omega (arith, length-append contents bodies, length_first (first_body (length entries)) entries)

-- what the writer leaves of an output: the two first bytes, the contents, and the bodies behind them
module _ (contents : Contents) (bodies out after : List ℕ) where
  abbrev start : List ℕ
  start = set (set out 0 1) 1 contents.count

  abbrev listing : List ℕ
  listing = contents_bytes (placed (first_body contents.count) (counted contents))

  module _ (written : after ≡ sets (sets start 2 listing) (first_body contents.count) bodies) where
    pub length_after : length after ≡ length out
    length_after =
        ap length written
        ∙ length-sets (sets start 2 listing) (first_body contents.count) bodies
        ∙ length-sets start 2 listing
        ∙ length-set (set out 0 1) 1 contents.count
        ∙ length-set out 0 1

    pub book_written : write_refusal contents (length bodies) (length out) ≡ 0
        → after ≡ book_of (counted contents) bodies ++ drop (size contents (length bodies)) out
    unfolding book_of
    book_written e =
        let w = writable contents (length bodies) (length out) e in
        let k = length_counted contents.count contents.entries in
        let behind : first_body contents.count ≡ 2 + length listing =
        omega (arith, length_first (first_body contents.count) (counted contents), k) in
        let joined : after ≡ sets start 2 (listing ++ bodies) =
        sets_joined listing bodies start (sets start 2 listing) after 2 refl
        (written ∙ ap (λ (n : ℕ). sets (sets start 2 listing) n bodies) behind) in
        let whole : 1 ∷ contents.count ∷ listing ++ bodies ≡ book_of (counted contents) bodies = rw k in
        let long : length (book_of (counted contents) bodies) ≡ size contents (length bodies) =
        length_book (counted contents) bodies ∙ ap (λ (n : ℕ). first_body n + length bodies) k in
        joined
        ∙ ap (sets out 0) whole
        ∙ sets-eq (book_of (counted contents) bodies) out 0 (omega (arith, long, w.roomy))
        ∙ ap (λ (n : ℕ). book_of (counted contents) bodies ++ drop n out)
        (zero-add (length (book_of (counted contents) bodies)) ∙ long)

-- what the writer answers, and what the output then holds, where it refuses nothing and where it refuses
module _ (contents : Contents) (bodies room : ℕ) where
  pub written_answer : (n : ℕ) → 0 ≡ write_refusal contents bodies room → n ≡ size contents bodies
      → Answers writing_told writing_case (writing contents bodies room) (Ok n)
  unfolding writing
  written_answer n none sized = rw (← none, sized) (record { numbers = refl; decided = refl })

  pub refused_answer : (e : Refusal) → refusal_number e ≡ write_refusal contents bodies room
      → Answers writing_told writing_case (writing contents bodies room) (Err e)
  unfolding writing
  refused_answer e is =
      let some = ne_eqb (refusal_number e) 0 (number_some e) in
      rw (← is, some) (record { numbers = refl; decided = rw (some, with_number e) })

  pub writing_refusal : (writing contents bodies room).refusal ≡ write_refusal contents bodies room
  unfolding writing
  writing_refusal = go (eqb (write_refusal contents bodies room) 0) refl
    where
      go : (t : Bool) → eqb (write_refusal contents bodies room) 0 ≡ t
          → (writing contents bodies room).refusal ≡ write_refusal contents bodies room
      go true h = rw h (sym (eqb-true (write_refusal contents bodies room) 0 h))
      go false h = rw h

module _ (contents : Contents) (bodies out : List ℕ) where
  pub written_output : write_refusal contents (length bodies) (length out) ≡ 0
      → book_of (counted contents) bodies ++ drop (size contents (length bodies)) out ≡ output contents bodies out
  unfolding output
  written_output e = rw e

  pub refused_output : (write_refusal contents (length bodies) (length out) ≡ 0 → ⊥) → out ≡ output contents bodies out
  unfolding output
  refused_output some = rw (ne_eqb (write_refusal contents (length bodies) (length out)) 0 some)

  pub refused_writing : (write_refusal contents (length bodies) (length out) ≡ 0 → ⊥)
      → (writing contents (length bodies) (length out)
      ≡ record { refusal = write_refusal contents (length bodies) (length out); bytes = 0 })
      × (output contents bodies out ≡ out)
  unfolding writing output
  refused_writing some =
      let none = ne_eqb (write_refusal contents (length bodies) (length out)) 0 some in (rw none, rw none)

-- what was written is no more than a book has
pub written_small : (contents : Contents) (bodies room : ℕ) → (writing contents bodies room).bytes ≤ most
unfolding writing
written_small contents bodies room = go (eqb (write_refusal contents bodies room) 0) refl
  where
    go : (t : Bool) → eqb (write_refusal contents bodies room) 0 ≡ t → (writing contents bodies room).bytes ≤ most
    go true h = rw h (writable contents bodies room (eqb-true (write_refusal contents bodies room) 0 h)).small
    go false h = rw h (omega arith)
