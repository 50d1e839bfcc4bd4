-- What an orderly book keeps, entry by entry.
use mathlib.Core.Path.{◌≡◌, ◌∙◌, sym}
use mathlib.Core.Bool.{true, false, not, ◌&&◌}
use mathlib.Core.List.{List}
use Prim.Native.Nat.{ℕ, ◌<◌}
use native.Mathlib.Omega.{arith}
use borrow.Author.Tests.{not-true}
use lib.ListN.{length, take}
use Rattle.cells.specs.Bytes.{within, same}
use Rattle.cells.specs.Little.{le_at}
use Rattle.cells.proofs.Bools.{and_left}
use Rattle.entry.specs.Stored.{key_width, ordered_at, slip_key_width, most_copies, key_at, slip_key_at}
use Rattle.book.specs.Lent.{Lent, used_lines, used_slips}
use Rattle.cells.proofs.Searches.{all_at}
use Rattle.entry.proofs.Kept.{named_at}
use Rattle.save.specs.Entries.{reference_at, line_fields, fields_kept, report_kept, line_kept, line_index, is_first}
use Rattle.save.specs.Saved.{line_front_at, slip_body_at}
use Rattle.restored.specs.Restored.{Orderly}
use Rattle.restored.proofs.Bodies.{line_key, line_named, slip_key_law, slip_line, slip_copies_law, parties_keys}
use Rattle.restored.proofs.Kept.{SlipKept, line_kept_law, line_first, slip_kept_law, slip_first}
use Rattle.restored.proofs.Ordered.{Ordered, arrived_on_law}

-- an entry that is the first with its key: no earlier key is the same
first_so : (width : ℕ) (body : ℕ → List ℕ) (key : ℕ → List ℕ) → ((x : ℕ) → take width (body x) ≡ key x)
    → (e i : ℕ) → e < i → is_first width body i ≡ true → same (key e) (key i) ≡ false
unfolding is_first
first_so width body key own e i h f =
    rw (← own e, ← own i) (not-true _ (all_at (λ e. not (same (take width (body e)) (take width (body i)))) i 0 e f (omega arith) (omega arith)))

-- a line that keeps the rules has a key that does
line_rule : (ls : List ℕ) (i : ℕ) → line_kept (line_front_at ls i) ≡ true → fields_kept line_fields reference_at (named_at ls i) ≡ true
unfolding line_kept
line_rule ls i h =
    let front : List ℕ = line_front_at ls i in
    rw (← line_named ls i) (and_left (fields_kept line_fields reference_at (take ordered_at front)) (within 1 most_copies (le_at front ordered_at 2) && report_kept front) h)

-- an orderly book with two counts
pub ordered : (b : Lent) → Orderly b → length b.used ≡ 2 → Ordered b
ordered b o two =
    let ls : List ℕ = b.lines in
    let ss : List ℕ = b.slips in
    let n : ℕ = used_lines b in
    let m : ℕ = used_slips b in
    let line : ℕ → List ℕ = line_front_at ls in
    let slip : ℕ → List ℕ = slip_body_at ss in
    let e = o.entries in
    let kept : (j : ℕ) → j < m → SlipKept n line (slip j) = slip_kept_law n m line slip e in
    record {
      kept = record { is_sound = o.is_sound; counts = two };
      line_rules = λ i h. line_rule ls i (line_kept_law n m line slip e i h);
      line_new = λ d i g h. first_so key_width line (key_at ls) (line_key ls) d i g (line_first n m line slip e i h);
      slip_rules = λ j h. rw (← slip_key_law ss j) (kept j h).key;
      slip_copies_law = λ j h. rw (← slip_copies_law ss j) (kept j h).copies;
      slip_parties = λ j h.
          rw (← slip_key_law ss j, ← slip_line ss j, ← line_key ls (line_index (slip j))) (sym (parties_keys (slip j) (line (line_index (slip j)))) ∙ (kept j h).parties);
      slip_new = λ d j g h. first_so slip_key_width slip (slip_key_at ss) (slip_key_law ss) d j g (slip_first n m line slip e j h);
      sums = λ i h. o.sums i h ∙ arrived_on_law ss m i;
    }
