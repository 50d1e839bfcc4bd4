-- How long a record becomes, one entry at a time.
use mathlib.Core.Path.{◌≡◌, refl, sym, ◌∙◌, ap}
use mathlib.Core.Bool.{true}
use mathlib.Core.List.{List, [], ◌∷◌}
use Prim.Native.Nat.{ℕ, suc, ◌+◌, ◌-◌, ◌*◌, ◌≤◌, ◌<◌}
use native.Mathlib.Omega.{arith}
use borrow.Author.Tests.{lt-ltb, le-ltb, ltb-false}
use lib.Dec.{ltb}
use lib.ListN.{length, drop, length-append}
use Rattle.std.specs.Prelude.{min}
use Rattle.std.proofs.lemmas.Bool.Decides.{nat_tests}
use Rattle.cells.proofs.Bools.{split}
use Rattle.record.specs.Layout.{most_bytes}
use Rattle.record.specs.Fields.{head_width}
use Rattle.record.specs.Read.{entry_width}
use Rattle.writing.specs.Widths.{width_after, capped, all_inside}
use Rattle.writing.specs.Write.{entry_of, entries, optional_in, optional_of, field_text, optional_text, record_text, length_judged}
use Rattle.writing.specs.declared.entries.Entry.{Entry}
use Rattle.writing.proofs.Tables.{entries_first, entries_end}
use Rattle.writing.proofs.Records.{field_length, first_inside, rest_inside, width_least}

-- the entry with index i makes it longer by a head and its content
pub width_next : (n count i : ℕ) (table : List ℕ) → i < count
    → width_after n (entries (count - i) (drop (i * entry_width) table))
    ≡ width_after (n + (head_width + (entry_of (drop (i * entry_width) table)).width)) (entries (count - (i + 1)) (drop ((i + 1) * entry_width) table))
unfolding width_after
width_next n count i table h =
    let e = entry_of (drop (i * entry_width) table) in
    let a : n + head_width + e.width ≡ n + (head_width + e.width) = omega arith in
    ap (width_after n) (entries_first count i table h)
    ∙ ap (λ (m : ℕ). width_after m (entries (count - (i + 1)) (drop ((i + 1) * entry_width) table))) a

-- with no entry left `*9999` is all that follows
pub width_end : (n count i : ℕ) (table : List ℕ) → count ≤ i → width_after n (entries (count - i) (drop (i * entry_width) table)) ≡ n + head_width
unfolding width_after
width_end n count i table h = rw (entries_end count i (drop (i * entry_width) table) h)

-- a number above the most, and one that is not
pub capped_above : (most n : ℕ) → most < n → suc most ≡ capped most n
unfolding capped
capped_above most n h = rw (lt-ltb most n h)

pub capped_below : (most n : ℕ) → n ≤ most → n ≡ capped most n
unfolding capped
capped_below most n h = rw (le-ltb most n h)

pub capped_is : (most n : ℕ) → capped most n ≡ min n (most + 1)
unfolding capped
capped_is most n = grind (arith, nat_tests)

pub ruleset reckoned = (width_next, width_end, width_least, capped_is)

-- contents inside the lent bytes: what is written after n bytes is as long as reckoned
fields_wide : (contents : List ℕ) (n : ℕ) (es : List Entry) → all_inside contents es ≡ true
    → n + length (optional_text (optional_of contents es)) ≡ width_after n es
unfolding width_after optional_text optional_of
fields_wide contents n [] h = refl
fields_wide contents n (e ∷ es) h =
    let i = first_inside refl contents h in
    let ih = fields_wide contents (n + head_width + e.width) es (rest_inside refl contents h) in
    let l = length-append (field_text (optional_in contents e)) (optional_text (optional_of contents es)) in
    omega (arith, field_length contents e i)

-- and so is the record
pub record_wide : (fixed contents : List ℕ) (es : List Entry) → all_inside contents es ≡ true
    → length (record_text fixed (optional_of contents es)) ≡ width_after (length fixed) es
unfolding record_text
record_wide fixed contents es h =
    length-append fixed (optional_text (optional_of contents es)) ∙ fields_wide contents (length fixed) es h

-- a length is judged by its cap as by itself
pub capped_judged : (n : ℕ) (out : List ℕ) → length_judged (capped most_bytes n) out ≡ length_judged n out
unfolding length_judged capped
capped_judged n out =
    split (ltb most_bytes n) (λ e. rw e) (λ e. ap (λ (m : ℕ). length_judged m out) (sym (capped_below most_bytes n (ltb-false _ _ e))))
