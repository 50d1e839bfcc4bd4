-- The cases of writing hold of the definitions, by computation.
use mathlib.Core.Path.{◌≡◌, refl}
use Rattle.cells.specs.Bytes.{all, any, run, same, among, joined}
use Rattle.signs.specs.Class.{belongs, all_of, of_class, padded, named}
use Rattle.rules.specs.Number.{number_from}
use Rattle.rules.specs.Day.{leap, month_days, real_day, day_of, is_day, dated}
use Rattle.rules.specs.Article.{check_value, weighted, gs1, isbn, series_volume, article}
use Rattle.rules.specs.Rule.{texts, day_count, expected, keeps}
use Rattle.rules.specs.Values.{expected_of}
use Rattle.record.specs.Layout.{layout, total, fixed_width, start_of, kind_of, first_broken}
use Rattle.record.specs.Contents.{contents, is_in, rule_in, content_rule, guarded_ids, guarded, content_kept, groups, first_of, next_in, previous_in, group_with, next_member, previous_member, is_wanted, group_kept}
use Rattle.record.specs.Values.{field_bytes, order_of, delivery_of, report_of}
use Rattle.writing.specs.Digits.{digits_of, unwritable, number_bytes}
use Rattle.writing.specs.Write.{refusal_number, refusal_place, written_of, ◌next◌, field_holding, first_faulty, fixed_judged, entry_of, entries, content_in, optional_in, optional_of, inside, writable, next_id, entry_kept, fields_judged, field_text, optional_text, record_text, length_judged, rest_judged, write_judged, output_after, write}
use Rattle.writing.specs.Typed.{day_digits, day_bytes, is_no_day, delivery_day_bytes, expected_bytes, order_fields, delivery_fields, report_fields, order_bytes, delivery_bytes, report_bytes}
use Rattle.writing.specs.Cases.{write_cases, byte_cases, typed_cases, first_wrong}

-- the number of the first case that is wrong is 0 in each table
pub record Computed : Type 0 where
  pub writes : first_wrong 1 write_cases ≡ 0
  pub ends : first_wrong 1 byte_cases ≡ 0
  pub typed : first_wrong 1 typed_cases ≡ 0

pub computed : Computed
unfolding all any run same among belongs all_of of_class padded named number_from leap month_days real_day day_of is_day dated check_value weighted gs1 isbn series_volume article texts day_count expected keeps expected_of layout total fixed_width start_of kind_of first_broken contents is_in rule_in content_rule guarded_ids guarded content_kept groups first_of next_in previous_in group_with next_member previous_member is_wanted group_kept field_bytes order_of delivery_of report_of digits_of unwritable number_bytes refusal_number refusal_place written_of ◌next◌ field_holding first_faulty fixed_judged entry_of entries content_in optional_in optional_of inside writable next_id entry_kept fields_judged field_text optional_text record_text length_judged rest_judged write_judged output_after write day_digits day_bytes is_no_day delivery_day_bytes expected_bytes joined order_fields delivery_fields report_fields order_bytes delivery_bytes report_bytes write_cases byte_cases typed_cases first_wrong
computed = record { writes = refl; ends = refl; typed = refl }
