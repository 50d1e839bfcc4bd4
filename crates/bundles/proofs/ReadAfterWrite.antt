-- Demand 2 for parts, read after write: what is written with parts reads back as them.
use mathlib.Core.Path.{◌≡◌, ◌∙◌, ap, ap₂, sym, refl, subst}
use mathlib.Core.Bool.{Bool, true, false, ◌||◌, false≢true}
use mathlib.Core.List.{List, ◌++◌}
use Prim.Native.Nat.{ℕ, ◌*◌, ◌≤◌}
use native.Mathlib.Omega.{arith}
use borrow.Author.Tests.{ltb-false, le-ltb}
use lib.Dec.{eqb}
use lib.ListN.{length, drop}
use lib.Seq.{take_at, drop_at, take-append_seam}
use Rattle.cells.specs.Bytes.{all}
use Rattle.cells.proofs.Bools.{split, and_right}
use Rattle.cells.proofs.Lists.{all_append}
use Rattle.signs.specs.Class.{belongs}
use Rattle.signs.specs.declared.Class.TheVariants.{Allowed}
use Rattle.record.specs.Fields.{Optional}
use Rattle.record.specs.Read.{entry_width, optional_fields}
use Rattle.record.specs.declared.layout.Kind.{Kind}
use Rattle.writing.specs.Write.{entries, optional_of, optional_text, record_text}
use Rattle.writing.proofs.Halves.{entries_length, fields_length}
use Rattle.roundtrip.specs.Demand2.{written}
use Rattle.roundtrip.proofs.Texts.{contents_allowed, text_allowed}
use Rattle.roundtrip.proofs.Whole.{Whole, made_whole}
use Rattle.roundtrip.proofs.ReadExactly.{whole_fits, whole_fields, whole_tabled}
use Rattle.parts.specs.Loops.{is_bundle, others_in, loops_of}
use Rattle.parts.specs.Part.{part_width, parts_of, room_of, lent_parts}
use Rattle.parts.specs.Fields.{lent_fields}
use Rattle.parts.specs.Entries.{others_among}
use Rattle.parts.specs.Read.{parts_judged, Outcome as Read, room_after, parts_read}
use Rattle.parts.specs.Write.{entries_there, has_loop, is_misplaced}
use Rattle.std.specs.Prelude.{Ok, None}
use Rattle.parts.proofs.Members.{others_named}
use Rattle.parts.proofs.Lent.{lent_long}
use Rattle.bundles.specs.Demand2.{parts_call, write_parts_call, LargeRoom, Bundled, CanWriteParts, PartsReadBack}
use Rattle.bundles.proofs.Kept.{AllSound, record_sound, sound_drop}
use Rattle.bundles.proofs.LentBack.{parts_stored}
use Rattle.bundles.proofs.PartsBack.{all_stored, parts_length, lent_back}
use Rattle.bundles.proofs.Others.{others_most, others_append, loops_first, not_zero}
use Rattle.bundles.proofs.ReadDone.{read_fits, none_judged, bundle_judged}
use Rattle.bundles.proofs.Fronts.{bundle_front}
use Rattle.bundles.proofs.WriteDone.{done_can, can_done}

-- the fields of a record are sound
pub whole_sound : (k : Kind) (fixed : List ℕ) (fs : List Optional) → Whole k fixed fs → AllSound fs
unfolding record_text
whole_sound k fixed fs w =
    let a = rw (all_append (belongs Allowed) fixed (optional_text fs), text_allowed fs) at w.allowed in
    record_sound k None fs w.kept (and_right (all (belongs Allowed) fixed) (contents_allowed fs) a)

-- neither of two tests holds where not one of them does
neither : (a b : Bool) → (a || b) ≡ false → (a ≡ false) × (b ≡ false)
neither true b e = absurd (false≢true (sym e))
neither false b e = (refl, e)

-- where parts are placed: a bundle has some, and no field of its table begins a loop; what is no bundle has none
module _ (fixed table : List ℕ) (count n : ℕ) (h : count * entry_width ≤ length table) where
  there : entries_there count table ≡ count
  unfolding entries_there
  there = omega arith

  none_begun : (contents : List ℕ) → has_loop table count ≡ false → others_in (optional_of contents (entries count table)) ≡ count
  unfolding has_loop
  none_begun contents e =
      let l = ltb-false (others_among (entries count table)) count (rw there at e) in
      let m = others_most (optional_of contents (entries count table)) in
      let k : length (optional_of contents (entries count table)) ≡ count = fields_length contents (entries count table) ∙ entries_length count table in
      let q = others_named contents (entries count table) in
      omega (arith, l, m, k, q)

  pub begun_not : (contents : List ℕ) → others_in (optional_of contents (entries count table)) ≡ count → has_loop table count ≡ false
  unfolding has_loop
  begun_not contents e = rw there (le-ltb (others_among (entries count table)) count (omega (arith, others_named contents (entries count table), e)))

-- READ AFTER WRITE
module _ (fixed table : List ℕ) (count : ℕ) (contents parts : List ℕ) (n : ℕ) (out : List ℕ) (c : CanWriteParts fixed table count contents parts n out) where
  abbrev body : List Optional
  body = optional_of contents (entries count table)

  abbrev more : List Optional
  more = lent_fields n parts 0

  abbrev fields : List Optional
  fields = body ++ more

  abbrev text : List ℕ
  text = record_text fixed fields

  abbrev kind : Kind
  kind = c.makes.parts.kind

  whole : Whole kind fixed fields
  whole = made_whole fixed fields c.makes

  as_many : length body ≡ count
  as_many = fields_length contents (entries count table) ∙ entries_length count table

  same_bundle : is_bundle text ≡ is_bundle fixed
  unfolding record_text
  same_bundle = bundle_front kind fixed whole.named whole.wide (optional_text fields)

  -- of a bundle
  module _ (b : is_bundle fixed ≡ true) where
    some_begun : (eqb n 0 || has_loop table count) ≡ false
    unfolding is_misplaced
    some_begun = rw b at c.placed

    some : 1 ≤ n
    some = not_zero n (neither (eqb n 0) (has_loop table count) some_begun).0

    none : others_in body ≡ count
    none = none_begun fixed table count n c.listed contents (neither (eqb n 0) (has_loop table count) some_begun).1

    before_parts : others_in fields ≡ count
    before_parts = others_append body more (none ∙ sym as_many) ∙ rw (loops_first n more some c.loops_stand) (omega (arith, as_many))

    parted : Bundled fields n
    parted = record {
      others = body;
      loops = more;
      in_order = refl;
      none_begins = none ∙ sym as_many;
      some = some;
      few = c.few;
      so_many = lent_long n parts 0;
      loops_stand = c.loops_stand;
    }

  -- of what is none
  no_parts : is_bundle fixed ≡ false → n ≡ 0
  unfolding is_misplaced
  no_parts b = let l = ltb-false 0 n (rw b at c.placed) in omega (arith, l)

  found : optional_fields (length fields) text ≡ fields
  found = whole_fields kind fixed fields whole

  judged_so : parts_judged (is_bundle text) (optional_fields (length fields) text) ≡ Ok n
  judged_so =
      split (is_bundle fixed)
      (λ b. bundle_judged text (length fields) n (same_bundle ∙ b) (subst (λ (fs : List Optional). Bundled fs n) (sym found) (parted b)))
      (λ b. none_judged text (length fields) n (same_bundle ∙ b) (no_parts b))

  module _ (room : List ℕ) (h : LargeRoom room) where
    reads_so : parts_call text room ≡ parts_read (Ok n) (optional_fields (length fields) text) room
    reads_so = read_fits text room h (length fields) (whole_fits kind fixed fields whole) n judged_so

    -- the parts that stand in the room are those that were given
    parts_same : lent_parts n (parts_call text room).room 0 ≡ lent_parts n parts 0
    unfolding room_after loops_of lent_parts
    parts_same =
        split (is_bundle fixed)
        (λ b.
        let told : others_in (optional_fields (length fields) text) ≡ length body = ap others_in found ∙ before_parts b ∙ sym as_many in
        let loops : drop (others_in (optional_fields (length fields) text)) (optional_fields (length fields) text) ≡ more =
        ap₂ (λ (m : ℕ) (fs : List Optional). drop m fs) told found ∙ drop_at body more (length body) refl in
        let sound : AllSound more = subst AllSound (drop_at body more (length body) refl) (sound_drop (length body) fields (whole_sound kind fixed fields whole)) in
        let ps = parts_of n more in
        let there : (parts_call text room).room ≡ room_of ps ++ drop (n * part_width) room =
        ap (λ (o : Read). o.room) reads_so ∙ ap (λ (fs : List Optional). room_of (parts_of n fs) ++ drop (n * part_width) room) loops in
        let back : lent_parts (length ps) (parts_call text room).room 0 ≡ ps = parts_stored ps (parts_call text room).room 0 (drop (n * part_width) room) (all_stored n more c.loops_stand sound) there in
        subst (λ (m : ℕ). lent_parts m (parts_call text room).room 0 ≡ ps) (parts_length n more) back ∙ lent_back n parts 0 (omega (arith, c.lent)) sound)
        (λ b. subst (λ (m : ℕ). lent_parts m (parts_call text room).room 0 ≡ lent_parts m parts 0) (sym (no_parts b)) refl)

  -- it reads back
  text_back : PartsReadBack fixed table count contents parts n text
  unfolding record_text
  text_back = record {
    same_fixed = take-append_seam fixed (optional_text fields);
    same_parts = record { reads = λ room h. ap (λ (o : Read). o.said) (reads_so room h); same_parts = parts_same };
    fields_are_same = whole_tabled kind fixed fields whole;
    as_many = as_many;
    before_parts = before_parts;
  }

  -- what writing put at the front of its output
  front : written (write_parts_call fixed table count contents parts n out) ≡ text
  front = rw (can_done fixed table count contents parts n out c) (take_at text (drop (length text) out) (length text) refl)

pub parts_read_after_write : (fixed table : List ℕ) (count : ℕ) (contents parts : List ℕ) (n : ℕ) (out : List ℕ)
    → (write_parts_call fixed table count contents parts n out).said.answer ≡ 0
    → PartsReadBack fixed table count contents parts n (written (write_parts_call fixed table count contents parts n out))
parts_read_after_write fixed table count contents parts n out e =
    let c = done_can fixed table count contents parts n out e in
    subst (PartsReadBack fixed table count contents parts n) (sym (front fixed table count contents parts n out c)) (text_back fixed table count contents parts n out c)
