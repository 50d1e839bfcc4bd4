-- The samples and edges of reading hold of the definitions: each by computation.
use Prim.Native.Nat.{ℕ}
use mathlib.Core.Path.{◌≡◌, refl}
use mathlib.Core.Bool.{true, false}
use mathlib.Core.List.{List, [], ◌∷◌, ◌++◌}
use lib.ListN.{length, replicate, take}
use Rattle.cells.specs.Bytes.{bytes, all, any, run, same, among}
use Rattle.signs.specs.Class.{belongs, all_of, of_class, padded, named}
use Rattle.rules.specs.Cases.{allowed_bytes, other_bytes}
use Rattle.rules.specs.Number.{number_from}
use Rattle.rules.specs.Day.{leap, month_days, real_day, day_of, is_day, dated as judgedDay}
use Rattle.rules.specs.Article.{check_value, weighted, gs1, isbn, series_volume, article}
use Rattle.rules.specs.Rule.{texts, day_count, expected, keeps}
use Rattle.rules.specs.Values.{expected_of}
use Rattle.record.specs.Layout.{layout, total, fixed_width, start_of, kind_of, first_broken}
use Rattle.record.specs.Contents.{contents, is_in, rule_in, content_rule, guarded_ids, guarded, content_kept, groups, first_of, next_in, previous_in, group_with, next_member, previous_member, is_wanted, group_kept}
use Rattle.record.specs.Answers.{refusal_number, refusal_place, checked_of, ◌then◌}
use Rattle.record.specs.Fields.{head_of, id_in, id_of, content_width, content_of, field_width, after_field, on_head, at_field, walk, judge, fields_of, entries_of}
use Rattle.record.specs.Values.{field_bytes, order_of, delivery_of, report_of, no_order}
use Rattle.record.specs.Read.{bytes_judged, fixed_judged, after_walk, optional_judged, kind_judged, judged, outcome, optional_start, optional_fields, table_after, check, judged_as, typed_from, read_order, read_delivery, read_report}
use Rattle.record.specs.Samples.{X, Y, Z, put, Call, cases, reading_of, first_wrong}
use Rattle.record.specs.Edges.{C, record_edges, byte_edges, order_edges, delivery_edges, walk_edges, titled, full_table, short_table, content_edges, group_edges}
use Rattle.signs.specs.declared.Class.TheVariants.{Allowed}
use Rattle.rules.specs.declared.expected.Expected.TheVariants.{On, Zeros, Blanks}
use Rattle.record.specs.declared.answer.Checked.{Checked}

-- what the call of reading says of a record
abbrev pub read_says : Call → List ℕ → Checked
read_says call s = (check s full_table).said

-- what is computed of reading: the number of the first row that is wrong is 0 in each table
pub record Computed : Type 0 where
  -- 256 bytes in two lists: all of the one are allowed, none of the other
  pub each_byte : length (allowed_bytes ++ other_bytes) ≡ 256
  pub allowed : all (belongs Allowed) allowed_bytes ≡ true
  pub other_bytes_law : any (belongs Allowed) other_bytes ≡ false
  pub samples : first_wrong read_says 1 (reading_of cases) ≡ 0
  pub records : first_wrong read_says 1 record_edges ≡ 0
  pub ends : first_wrong read_says 1 byte_edges ≡ 0
  pub orders : first_wrong read_says 1 order_edges ≡ 0
  pub deliveries : first_wrong read_says 1 delivery_edges ≡ 0
  pub walks : first_wrong read_says 1 walk_edges ≡ 0
  pub contents : first_wrong read_says 1 content_edges ≡ 0
  pub groups : first_wrong read_says 1 group_edges ≡ 0
  -- the table: ID, place and length of each content; what is behind them stays
  pub listed : check titled full_table
      ≡ outcome (record { answer = 0; place = 0; fields = 2 }) ((1017 ∷ 72 ∷ 5 ∷ 1018 ∷ 82 ∷ 2 ∷ []) ++ replicate 283 7)
  pub untouched : check (take 71 X) full_table ≡ outcome (record { answer = 3; place = 71; fields = 0 }) full_table
  pub short : check titled short_table ≡ outcome (record { answer = 23; place = 0; fields = 0 }) short_table
  pub fields : optional_fields 2 titled ≡ record { id = 1017; content = bytes "Title" } ∷ record { id = 1018; content = bytes "KL" } ∷ []
  -- the typed values of X, Y, Z and a closing record
  pub order : read_order X
      ≡ record {
        checked = record { answer = 0; place = 0; fields = 0 };
        value = record {
          sender = record { address = bytes "43210     "; qualifier = bytes "VD" };
          recipient = record { address = bytes "24000     "; qualifier = bytes "VD" };
          date = record { year = 2024; month = 2; day = 19 };
          reference = bytes "A-17      ";
          article = record { number = bytes "9783442756841"; qualifier = bytes "EN" };
          quantity = record { 0 = 10 };
          measure = bytes "ST";
        };
      }
  pub delivery : (read_delivery Y).value.price ≡ record { 0 = 129500 }
  pub discount : (read_delivery Y).value.discount ≡ record { 0 = 300000 }
  pub closed : (read_delivery C).value.date ≡ record { year = 0; month = 0; day = 0 }
  pub blanks : (read_report Z).value.expected ≡ Blanks
  pub zeros : (read_report (put 67 "00000000" Z)).value.expected ≡ Zeros
  pub dated : (read_report (put 67 "20240229" Z)).value.expected ≡ On (record { year = 2024; month = 2; day = 29 })
  -- another kind is 2, with zeros
  pub other : read_order Y ≡ record { checked = record { answer = 2; place = 0; fields = 0 }; value = no_order }

pub computed : Computed
unfolding all any run same among belongs all_of of_class padded named number_from leap month_days real_day day_of is_day judgedDay check_value weighted gs1 isbn series_volume article texts day_count expected keeps layout total start_of kind_of first_broken contents is_in rule_in content_rule guarded_ids guarded content_kept groups first_of next_in previous_in group_with next_member previous_member is_wanted group_kept refusal_number refusal_place checked_of ◌then◌ head_of id_in id_of content_width content_of field_width after_field on_head at_field walk judge fixed_width bytes_judged fixed_judged after_walk optional_judged kind_judged judged expected_of fields_of entries_of field_bytes order_of delivery_of report_of optional_start optional_fields table_after check judged_as typed_from read_order read_delivery read_report titled full_table short_table cases allowed_bytes other_bytes record_edges byte_edges order_edges delivery_edges walk_edges content_edges group_edges reading_of first_wrong
computed = record {
  each_byte = refl;
  allowed = refl;
  other_bytes_law = refl;
  samples = refl;
  records = refl;
  ends = refl;
  orders = refl;
  deliveries = refl;
  walks = refl;
  contents = refl;
  groups = refl;
  listed = refl;
  untouched = refl;
  short = refl;
  fields = refl;
  order = refl;
  delivery = refl;
  discount = refl;
  closed = refl;
  blanks = refl;
  zeros = refl;
  dated = refl;
  other = refl;
}
