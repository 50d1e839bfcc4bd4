-- The records as the program holds them are answered as the records of the file are.
use mathlib.Core.Path.{◌≡◌, refl, ap}
use mathlib.Core.List.{List, [], ◌∷◌}
use Prim.Native.Nat.{ℕ, ◌≤◌, ◌<◌}
use native.Mathlib.Omega.{arith}
use lib.Dec.{ltb}
use lib.ListN.{length, take}
use borrow.Author.Tests.{ltb-true, ltb-false, lt-ltb}
use Rattle.cells.proofs.Bools.{split}
use Rattle.record.specs.Read.{judged}
use Rattle.std.specs.Prelude.{Err}
use Rattle.record.specs.declared.answer.Refusal.TheVariants.{TooLong}
use Rattle.book.specs.Lent.{Lent}
use Rattle.book.specs.Booking.{book, book_read}
use Rattle.feed.specs.Cut.{cut, most_held, held_of, firsts, fed_from}
use Rattle.feed.proofs.Fed.{held_whole, held_over, file_cuts}
use Rattle.own.specs.Own.{book_own}
use Rattle.own.proofs.Own.{own_sound}
use Rattle.desk.specs.Printed.{kind_letter, book_each}

-- an over-long record is refused as such, whatever it holds
long_judged : (s : List ℕ) → 1024 < length s → judged s ≡ Err TooLong
unfolding judged
long_judged s h = rw (lt-ltb 1024 (length s) h)

long_books : (s t : List ℕ) (b : Lent) → 1024 < length s → 1024 < length t → book_own s b ≡ book_own t b
unfolding book_own book book_read
long_books s t b h k = rw (own_sound s, own_sound t, long_judged s h, long_judged t k)

-- of any record, its first 1,025 bytes are booked as the whole is, and have its kind letter
pub held_books : (s : List ℕ) (b : Lent) → book_own (take most_held s) b ≡ book_own s b
held_books s b =
    split
    (ltb 1024 (length s))
    (λ e.
    let h : 1024 < length s = ltb-true 1024 (length s) e in
    let l : length (take most_held s) ≡ most_held = held_over s (omega arith) in
    long_books (take most_held s) s b (rw l (omega arith)) h)
    (λ e.
    let h : length s ≤ 1024 = ltb-false 1024 (length s) e in
    ap (λ (t : List ℕ). book_own t b) (held_whole s (omega arith)))

pub held_letter : (answer : ℕ) (s : List ℕ) → kind_letter answer (take most_held s) ≡ kind_letter answer s
unfolding kind_letter
held_letter answer [] = refl
held_letter answer (x ∷ xs) = refl

-- so booking what is held of each record is booking each record
each_held : (ss : List (List ℕ)) (b : Lent) → book_each (firsts ss) b ≡ book_each ss b
unfolding book_each firsts
each_held [] b = refl
each_held (s ∷ ss) b = rw (held_books s b, each_held ss (book_own s b).lent)

-- the answers that the steps of `feed` lead to are those of the records of the file
pub file_answered : (buffer file : List ℕ) (b : Lent) → length buffer ≡ most_held → book_each (fed_from (held_of []) buffer file) b ≡ book_each (cut file) b
file_answered buffer file b w = rw (file_cuts buffer file w) (each_held (cut file) b)
