-- The cases of parts hold of the definitions, by computation.
use mathlib.Core.Path.{◌≡◌, refl}
use mathlib.Core.List.{[], ◌∷◌}
use lib.ListN.{replicate}
use Rattle.cells.specs.Bytes.{all, any, run, same, among, joined}
use Rattle.cells.specs.Little.{le_at, le_bytes}
use Rattle.signs.specs.Class.{belongs, all_of, of_class, padded, named}
use Rattle.rules.specs.Number.{number_from}
use Rattle.rules.specs.Day.{leap, month_days, real_day, day_of, is_day}
use Rattle.rules.specs.Article.{check_value, weighted, gs1, isbn, series_volume, article}
use Rattle.rules.specs.Rule.{texts, day_count, expected, keeps}
use Rattle.record.specs.Layout.{layout, total, fixed_width, start_of, kind_of, first_broken}
use Rattle.record.specs.Contents.{contents, is_in, rule_in, content_rule, guarded_ids, guarded, content_kept, groups, first_of, next_in, previous_in, group_with, next_member, previous_member, is_wanted, group_kept}
use Rattle.record.specs.Answers.{refusal_number as readNumber, refusal_place as read_place, ◌then◌}
use Rattle.record.specs.Fields.{head_of, id_in, id_of, content_width, content_of, field_width, after_field, on_head, at_field, walk, judge, fields_of}
use Rattle.record.specs.Read.{bytes_judged, fixed_judged as fixedRead, after_walk, optional_judged, kind_judged, judged, optional_start, optional_fields}
use Rattle.writing.specs.Digits.{digits_of, unwritable, number_bytes}
use Rattle.writing.specs.Write.{refusal_number, refusal_place, written_of, ◌next◌, field_holding, first_faulty, fixed_judged, entry_of, entries, content_in, optional_in, optional_of, inside, writable, next_id, entry_kept, fields_judged, field_text, optional_text, record_text, length_judged, rest_judged, write_judged, output_after, write}
use Rattle.parts.specs.Loops.{is_bundle, loop, is_member, is_loop, are_loops, others_in, loops_of, whole_loops}
use Rattle.parts.specs.Part.{fitted, text_of, medium_of, price_from, article_from, part_of, parts_of, medium_byte, price_bytes, part_bytes, room_of, medium_in, is_medium, lent_price, lent_article, lent_part, lent_parts}
use Rattle.parts.specs.Fields.{amount_text, article_text, medium_text, part_texts, with_ids, part_fields, lent_loop, lent_fields}
use Rattle.parts.specs.Answers.{refusal_number as partsNumber, read_of, not_written}
use Rattle.parts.specs.Read.{loops_judged, parts_judged, room_after, bundle_read, read_parts}
use Rattle.parts.specs.Entries.{others_among}
use Rattle.parts.specs.Write.{contents_of, listed, moved, entries_there, write_with, has_loop, is_misplaced, is_broken, parts_refused, written_with, write_parts}
use Rattle.parts.specs.Cases.{bundle001, bundle004, printed, digital, readings, first_misread, bundle_room, writings, first_miswritten}

pub record Computed : Type 0 where
  -- the number of the first case that is wrong is 0 in each table
  pub reads : first_misread 1 readings ≡ 0
  pub writes : first_miswritten 1 writings ≡ 0
  -- both wholesalers' bundles with all their values, as typed parts and in the room
  pub values001 : parts_of 2 (loops_of (optional_fields 24 bundle001)) ≡ printed ∷ digital ∷ []
  pub values004 : parts_of 2 (loops_of (optional_fields 24 bundle004)) ≡ printed ∷ digital ∷ []
  pub room001 : (read_parts bundle001 (replicate 544 7)).room ≡ bundle_room
  pub room004 : (read_parts bundle004 (replicate 544 7)).room ≡ bundle_room
  pub lent : lent_parts 2 bundle_room 0 ≡ printed ∷ digital ∷ []

pub computed : Computed
unfolding all any run same among joined le_at le_bytes belongs all_of of_class padded named number_from leap month_days real_day day_of is_day check_value weighted gs1 isbn series_volume article texts day_count expected keeps layout total fixed_width start_of kind_of first_broken contents is_in rule_in content_rule guarded_ids guarded content_kept groups first_of next_in previous_in group_with next_member previous_member is_wanted group_kept readNumber read_place ◌then◌ head_of id_in id_of content_width content_of field_width after_field on_head at_field walk judge fields_of bytes_judged fixedRead after_walk optional_judged kind_judged judged optional_start optional_fields digits_of unwritable number_bytes refusal_number refusal_place written_of ◌next◌ field_holding first_faulty fixed_judged entry_of entries content_in optional_in optional_of inside writable next_id entry_kept fields_judged field_text optional_text record_text length_judged rest_judged write_judged output_after write is_bundle loop is_member is_loop are_loops others_in loops_of whole_loops fitted text_of medium_of price_from article_from part_of parts_of medium_byte price_bytes part_bytes room_of medium_in is_medium lent_price lent_article lent_part lent_parts amount_text article_text medium_text part_texts with_ids part_fields lent_loop lent_fields partsNumber read_of not_written loops_judged parts_judged room_after bundle_read read_parts others_among contents_of listed moved entries_there write_with has_loop is_misplaced is_broken parts_refused written_with write_parts readings first_misread bundle_room writings first_miswritten
computed = record { reads = refl; writes = refl; values001 = refl; values004 = refl; room001 = refl; room004 = refl; lent = refl }
