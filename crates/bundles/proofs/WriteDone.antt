-- Writing with parts: where it answers 0, and what it then writes.
use mathlib.Core.Path.{◌≡◌, ◌∙◌, ap, sym, refl, subst}
use mathlib.Core.Bool.{Bool, true, false, not, ◌||◌, false≢true}
use mathlib.Core.List.{List, ◌++◌}
use Prim.Native.Nat.{ℕ, ◌+◌, ◌*◌, ◌≤◌}
use borrow.Author.Tests.{le-ltb, ltb-false}
use lib.Dec.{ltb}
use lib.ListN.{length, drop}
use Rattle.cells.proofs.Bools.{split}
use Rattle.record.specs.Fields.{Optional}
use Rattle.writing.specs.Write.{Outcome, outcome, entries, optional_of, record_text, write}
use Rattle.roundtrip.specs.Record.{Makes, CanWrite}
use Rattle.roundtrip.proofs.WriteExactly.{write_exactly}
use Rattle.parts.specs.Loops.{most_parts, are_loops}
use Rattle.parts.specs.Part.{part_width}
use Rattle.parts.specs.Fields.{lent_fields}
use Rattle.parts.specs.Answers.{not_written}
use Rattle.parts.specs.Write.{table_with, contents_with, write_with, is_misplaced, is_broken, parts_refused, written_with, write_parts}
use Rattle.parts.specs.declared.answer.Refusal.TheVariants.{SmallRoom, Broken, TooMany}
use Rattle.parts.proofs.Joined.{table_whole, table_long}
use Rattle.parts.proofs.Together.{named_together, inside_together}
use Rattle.parts.proofs.Stages.{parts_taken}
use Rattle.bundles.specs.Demand2.{write_parts_call, CanWriteParts, PartsWriteExactly}
use Rattle.bundles.proofs.ReadDone.{never_done}

module _ (fixed table : List ℕ) (count : ℕ) (contents parts : List ℕ) (n : ℕ) (out : List ℕ) where
  abbrev more : List Optional
  more = lent_fields n parts 0

  abbrev fields : List Optional
  fields = optional_of contents (entries count table) ++ more

  -- what is known of the parts where writing answers 0
  record Taken : Type 0 where
    few : n ≤ most_parts
    lent : n * part_width ≤ length parts
    placed : is_misplaced fixed table count n ≡ false
    loops : are_loops n more ≡ true

  -- neither side of a test holds where it does not
  neither : (a b : Bool) → (a || not b) ≡ false → (a ≡ false) × (b ≡ true)
  neither true b e = absurd (false≢true (sym e))
  neither false true e = (refl, refl)
  neither false false e = absurd (false≢true (sym e))

  module _ (e : (write_parts fixed table count contents parts n out).said.answer ≡ 0) where
    few : n ≤ most_parts
    unfolding write_parts written_with parts_refused not_written
    few = split (ltb most_parts n) (λ t. absurd (never_done TooMany (rw t at e))) (λ t. ltb-false most_parts n t)

    lent : n * part_width ≤ length parts
    unfolding write_parts written_with parts_refused not_written
    lent =
        split (ltb (length parts) (n * part_width)) (λ t. absurd (never_done SmallRoom (rw (le-ltb most_parts n few, t) at e)))
        (λ t. ltb-false (length parts) (n * part_width) t)

    whole : is_broken fixed table count parts n ≡ false
    unfolding write_parts written_with parts_refused not_written
    whole =
        split (is_broken fixed table count parts n)
        (λ t. absurd (never_done Broken (rw (le-ltb most_parts n few, le-ltb (length parts) (n * part_width) lent, t) at e))) (λ t. t)

    were_taken : Taken
    unfolding is_broken
    were_taken =
        let b = neither (is_misplaced fixed table count n) (are_loops n more) whole in
        record { few = few; lent = lent; placed = b.0; loops = b.1 }

    -- what writing needs was there
    pub done_can : CanWriteParts fixed table count contents parts n out
    unfolding write_with
    done_can =
        let t = were_taken in
        let a : (write fixed (table_with more table count) (count + length more) (contents_with more contents) out).said.answer ≡ 0 =
        ap (λ (o : Outcome). o.said.answer) (sym (parts_taken fixed table count contents parts n out t.few t.lent t.placed t.loops)) ∙ e in
        let c = (write_exactly fixed (table_with more table count) (count + length more) (contents_with more contents) out).only_records a in
        let h = table_whole more table count c.listed in
        let named = named_together table contents count more h in
        record {
          few = t.few;
          lent = t.lent;
          placed = t.placed;
          loops_stand = t.loops;
          listed = h;
          inside = sym (inside_together table contents count more h) ∙ c.lent;
          makes = subst (Makes fixed) named c.makes;
          room = subst (λ (fs : List Optional). length (record_text fixed fs) ≤ length out) named c.room;
        }

  -- and where it is, the record is written
  pub can_done : CanWriteParts fixed table count contents parts n out
      → write_parts_call fixed table count contents parts n out
      ≡ outcome (record { answer = 0; place = 0; length = length (record_text fixed fields) }) (record_text fixed fields ++ drop (length (record_text fixed fields)) out)
  unfolding write_with
  can_done c =
      let named = named_together table contents count more c.listed in
      let w : CanWrite fixed (table_with more table count) (count + length more) (contents_with more contents) out =
      record {
        listed = table_long more table count c.listed;
        lent = inside_together table contents count more c.listed ∙ c.inside;
        makes = subst (Makes fixed) (sym named) c.makes;
        room = subst (λ (fs : List Optional). length (record_text fixed fs) ≤ length out) (sym named) c.room;
      } in
      parts_taken fixed table count contents parts n out c.few c.lent c.placed c.loops_stand
      ∙ (write_exactly fixed (table_with more table count) (count + length more) (contents_with more contents) out).all_records w
      ∙ ap (λ (fs : List Optional). outcome (record { answer = 0; place = 0; length = length (record_text fixed fs) }) (record_text fixed fs ++ drop (length (record_text fixed fs)) out)) named

  pub parts_write_exactly : PartsWriteExactly fixed table count contents parts n out
  parts_write_exactly = record { only_records = done_can; all_records = can_done }
