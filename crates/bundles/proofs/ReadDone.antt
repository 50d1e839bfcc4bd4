-- Reading parts: where it answers 0, and what it then says.
use mathlib.Core.Path.{◌≡◌, ◌∙◌, ap, sym, refl, subst}
use mathlib.Core.Bool.{true, false}
use mathlib.Core.List.{List}
use Prim.Native.Nat.{ℕ, ◌*◌}
use native.Mathlib.Omega.{arith}
use borrow.Author.Tests.{le-ltb, ltb-false}
use lib.Dec.{ltb}
use lib.ListN.{length, take, drop, take-append-drop}
use lib.Seq.{drop_at, length-take-le}
use Rattle.cells.proofs.Bools.{split}
use Rattle.record.specs.Answers.{checked_of}
use Rattle.record.specs.Fields.{Optional}
use Rattle.record.specs.Read.{judged, optional_fields}
use Rattle.record.specs.Verdicts.{Verdict as Judged}
use Rattle.std.specs.Prelude.{Err, Ok}
use Rattle.writing.specs.Write.{entries, optional_of}
use Rattle.roundtrip.specs.Record.{IsRecord}
use Rattle.roundtrip.specs.Demand2.{read_call, Tabled}
use Rattle.roundtrip.proofs.OptionalKept.{fields_count}
use Rattle.roundtrip.proofs.ReadExactly.{verdict_fits, fits_said, fits_table, fits_record}
use Rattle.roundtrip.proofs.Demand2.{tabled_fits}
use Rattle.parts.specs.Loops.{is_bundle, most_parts, others_in, loops_of}
use Rattle.parts.specs.Part.{part_width}
use Rattle.parts.specs.Answers.{refusal_number as partsNumber, read_of}
use Rattle.parts.specs.Read.{parts_judged, Outcome, parts_read, bundle_read, read_parts}
use Rattle.parts.specs.declared.answer.Refusal.{Refusal}
use Rattle.parts.specs.declared.answer.Refusal.TheVariants.{SmallRoom, Broken, TooMany}
use Rattle.parts.specs.Verdicts.{Verdict}
use Rattle.bundles.specs.Demand2.{parts_call, LargeRoom, Bundled, Parted, PartsReadExactly}
use Rattle.bundles.proofs.Others.{others_most, others_front, others_append, loops_first, loops_fit, Loops, fit_loops}

-- no refusal for parts is answered 0
pub never_done : (r : Refusal) → partsNumber r ≡ 0 → ⊥
unfolding partsNumber
never_done SmallRoom e = omega arith
never_done Broken e = omega arith
never_done TooMany e = omega arith

-- what reading the parts of a record that fits says, with a large room
pub read_fits : (s room : List ℕ) → LargeRoom room → (count : ℕ) → judged s ≡ Ok count → (n : ℕ) → parts_judged (is_bundle s) (optional_fields count s) ≡ Ok n
    → read_parts s room ≡ parts_read (Ok n) (optional_fields count s) room
unfolding read_parts bundle_read
read_fits s room h count e n p = rw (le-ltb (length room) (most_parts * part_width) h, e, p)

-- the number of parts that is said
number : (n : ℕ) → (read_of (Ok n)).parts ≡ n
unfolding read_of
number n = refl

-- all that is known where it answers 0
pub record Done (s room : List ℕ) : Type 0 where
  pub large : LargeRoom room
  pub count : ℕ
  pub fits : judged s ≡ Ok count
  pub n : ℕ
  pub parts : parts_judged (is_bundle s) (optional_fields count s) ≡ Ok n
  pub says : read_parts s room ≡ parts_read (Ok n) (optional_fields count s) room

module _ (s room : List ℕ) (e : (read_parts s room).said.answer ≡ 0) where
  large : LargeRoom room
  unfolding read_parts read_of
  large =
      split (ltb (length room) (most_parts * part_width)) (λ t. absurd (never_done SmallRoom (rw t at e)))
      (λ t. ltb-false (length room) (most_parts * part_width) t)

  rest : (bundle_read (judged s) s room).said.answer ≡ 0
  unfolding read_parts
  rest = rw (le-ltb (length room) (most_parts * part_width) large) at e

  fits : (v : Judged) → (bundle_read v s room).said.answer ≡ 0 → (count : ℕ) × (v ≡ Ok count)
  unfolding bundle_read checked_of
  fits (Err r) q = verdict_fits (Err r) q
  fits (Ok count) q = (count, refl)

  parted : (v : Verdict) → (read_of v).answer ≡ 0 → (n : ℕ) × (v ≡ Ok n)
  unfolding read_of
  parted (Err r) q = absurd (never_done r q)
  parted (Ok n) q = (n, refl)

  pub done : Done s room
  unfolding bundle_read
  done =
      let f = fits (judged s) rest in
      let q : (read_of (parts_judged (is_bundle s) (optional_fields f.0 s))).answer ≡ 0 = rw f.1 at rest in
      let p = parted (parts_judged (is_bundle s) (optional_fields f.0 s)) q in
      record { large = large; count = f.0; fits = f.1; n = p.0; parts = p.1; says = read_fits s room large f.0 f.1 p.0 p.1 }

-- the fields of a record, told apart where it is a bundle
module _ (s : List ℕ) (count : ℕ) where
  abbrev fields : List Optional
  fields = optional_fields count s

  pub count_is : length (optional_fields count s) ≡ count
  unfolding optional_fields
  count_is = fields_count count _

  -- what is judged as n parts
  pub judged_bundle : (n : ℕ) → parts_judged (is_bundle s) fields ≡ Ok n → is_bundle s ≡ true → Loops n (loops_of fields)
  unfolding parts_judged
  judged_bundle n p b = fit_loops n (loops_of fields) (rw b at p)

  pub judged_none : (n : ℕ) → parts_judged (is_bundle s) fields ≡ Ok n → is_bundle s ≡ false → n ≡ 0
  unfolding parts_judged
  judged_none n p b =
      let q : Ok 0 ≡ Ok n = rw b at p in
      cc

  pub none_judged : (n : ℕ) → is_bundle s ≡ false → n ≡ 0 → parts_judged (is_bundle s) fields ≡ Ok n
  unfolding parts_judged
  none_judged n b e = rw (b, e)

  -- is a bundle of n parts
  pub bundled : (n : ℕ) → Loops n (loops_of fields) → Bundled fields n
  unfolding loops_of
  bundled n l = record {
    others = take (others_in fields) fields;
    loops = drop (others_in fields) fields;
    in_order = sym (take-append-drop (others_in fields) fields);
    none_begins = others_front fields ∙ sym (length-take-le (others_in fields) fields (others_most fields));
    some = l.some;
    few = l.few;
    so_many = l.long;
    loops_stand = l.are;
  }

  -- and a bundle of n parts is judged as them
  pub bundle_judged : (n : ℕ) → is_bundle s ≡ true → Bundled fields n → parts_judged (is_bundle s) fields ≡ Ok n
  unfolding parts_judged loops_of
  bundle_judged n b w =
      let o : others_in fields ≡ length w.others =
      ap others_in w.in_order ∙ others_append w.others w.loops w.none_begins ∙ rw (loops_first n w.loops w.some w.loops_stand) (omega arith) in
      let d : drop (others_in fields) fields ≡ w.loops = ap (λ (k : ℕ). drop k fields) o ∙ ap (drop (length w.others)) w.in_order ∙ drop_at w.others w.loops (length w.others) refl in
      rw (b, d) (loops_fit n w.loops w.some w.few w.so_many w.loops_stand)

-- a check of a record that fits finds its fields
pub fits_tabled : (s : List ℕ) (count : ℕ) → judged s ≡ Ok count → Tabled s (optional_fields count s)
fits_tabled s count e =
    let c = count_is s count in
    record {
      reads = λ lent h. fits_said s lent h count e ∙ ap (λ (k : ℕ). checked_of (Ok k)) (sym c);
      fields_are_same = λ lent h. ap (λ (k : ℕ). optional_of s (entries k (read_call s lent).table)) c ∙ fits_table s lent h count e;
    }

-- reading parts answers 0 for the texts of records that are no bundle or a bundle as it should be, where the room is large, and for nothing else
pub parts_read_exactly : (s room : List ℕ) → PartsReadExactly s room
parts_read_exactly s room = record { only_records = only; all_records = all }
  where
    only : (parts_call s room).said.answer ≡ 0 → LargeRoom room × IsRecord s × Parted s (parts_call s room).said.parts
    only e =
        let d = done s room e in
        let said : (parts_call s room).said.parts ≡ d.n = ap (λ (o : Outcome). o.said.parts) d.says ∙ number d.n in (
          d.large,
          fits_record s d.count d.fits,
          subst (Parted s) (sym said) (record {
            count = d.count;
            fields_are_same = fits_tabled s d.count d.fits;
            bundle = λ b. bundled s d.count d.n (judged_bundle s d.count d.n d.parts b);
            no_bundle = judged_none s d.count d.n d.parts;
          }),
        )

    all : LargeRoom room → (n : ℕ) → IsRecord s → Parted s n → (parts_call s room).said ≡ read_of (Ok n)
    all h n r p =
        let f = tabled_fits s (optional_fields p.count s) p.fields_are_same ∙ ap Ok (count_is s p.count) in
        let j : parts_judged (is_bundle s) (optional_fields p.count s) ≡ Ok n =
        split (is_bundle s) (λ b. bundle_judged s p.count n b (p.bundle b)) (λ b. none_judged s p.count n b (p.no_bundle b)) in
        ap (λ (o : Outcome). o.said) (read_fits s room h p.count f n j)
