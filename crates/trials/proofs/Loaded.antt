-- The cases of saving and loading hold of the definitions, by computation.
use mathlib.Core.Path.{◌≡◌, refl}
use mathlib.Core.Bool.{true, false}
use mathlib.Core.List.{[], ◌∷◌, ◌++◌}
use lib.ListN.{replicate}
use Rattle.cells.specs.Bytes.{all, any, run, same, among, joined}
use Rattle.cells.specs.Little.{le_at, le_bytes}
use Rattle.cells.specs.Search.{first_from, all_from, sum_from}
use Rattle.roster.specs.Roster.{entries, roster_sound, account_at, account_is, ceiling_at, find_account, standing_at, standing}
use Rattle.signs.specs.Class.{belongs, all_of, of_class, padded, named}
use Rattle.rules.specs.Number.{number_from}
use Rattle.rules.specs.Day.{leap, month_days, real_day, day_of, is_day, dated}
use Rattle.rules.specs.Values.{expected_of}
use Rattle.rules.specs.Article.{check_value, weighted, gs1, isbn, series_volume, article}
use Rattle.rules.specs.Rule.{texts, day_count, expected, keeps}
use Rattle.record.specs.Layout.{layout, total, fixed_width, start_of, kind_of, first_broken}
use Rattle.record.specs.Contents.{contents, is_in, rule_in, content_rule, guarded_ids, guarded, content_kept, groups, first_of, next_in, previous_in, group_with, next_member, previous_member, is_wanted, group_kept}
use Rattle.record.specs.Answers.{refusal_number, refusal_place, checked_of, ◌then◌}
use Rattle.record.specs.Fields.{head_of, id_in, id_of, content_width, content_of, field_width, after_field, on_head, at_field, walk, judge}
use Rattle.record.specs.Values.{field_bytes}
use Rattle.record.specs.Read.{bytes_judged, fixed_judged, after_walk, optional_judged, kind_judged, judged}
use Rattle.entry.specs.Report.{message_of, message_number, form_of, day_on, report_told, report_sound}
use Rattle.entry.specs.Line.{mark_byte, new_line, with_report, with_arrivals, open_of, let_go_of, filled_of, figures_of, reported_of}
use Rattle.entry.specs.Stored.{date_at, line_at, put_in, put_arrived, report_bytes, put_report, new_bytes, add_line, key_at, key_is, article_at, article_is, school_at, school_is, open_at, line_sound, slip_key_at, slip_is, slip_line_at, slip_copies_at, add_slip, slip_sound}
use Rattle.book.specs.Lent.{used_lines, used_slips, line_room, slip_room, room_sound, sound, find_line, find_slip, open_copies, rooms_sound}
use Rattle.book.specs.Booking.{refused_number, refused_place, key_fields, line_key, article_fields, article_in, school_in, slip_key, copies_in, nothing_to_book, no_copies, no_reference, mark_in, message_in, date_in, new_line_judged, order_judged, slip_judged, arrival_judged, goods_judged, delivery_judged, report_judged, book_judged, on_roster, fit_judged, line_after, lent_after, refused_as, done_as, agreed_at, agreed_as, entered_as, settled, book_as, book_kind, book_read, book}
use Rattle.book.specs.Asked.{are_wide, figures_at, figures_of_key, line_asked}
use Rattle.book.specs.Cases.{roomy}
use Rattle.book.specs.Reports.{unknown_one}
use Rattle.save.specs.Entries.{goods_fields, fields_kept, report_kept, line_kept, parties_agree, line_index, slip_copies, slip_kept, is_first, copies_on, arrived_on, lines_kept, slips_kept, sums_kept, entries_kept}
use Rattle.save.specs.Form.{line_kind, line_body_width, unsaved_message, unsaved, front_of, saved_line_width, slips_at}
use Rattle.save.specs.Saved.{refused_number as saveNumber, joined_from, line_front_at, slip_body_at, line_entries, slip_entries, end_entry, formed, saved_form, saved_width, not_saved, saved_as, save, stated_lines, stated_slips, body_in, line_in, slip_in, all_of_kind, in_form, is_save_of, is_save, form_in}
use Rattle.save.specs.Load.{line_from, loaded_line, lent_loaded, not_loaded, load}
use Rattle.save.specs.Cases.{loads, byte_loads, first_wrong, day, day_with, day_whole, overused, odd_room, day_saved, day_old, day_loaded, unreported, unreported_saved, unreported_old, told_after, many_slips}

pub record Computed : Type 0 where
  pub loading : first_wrong 1 loads ≡ 0
  pub ends : first_wrong 1 byte_loads ≡ 0
  pub saving : (save day (replicate 130 7)).out ≡ day_saved ++ replicate 11 7
  pub saying : (save day (replicate 119 7)).said ≡ record { answer = 0; place = 0; length = 119 }
  pub small : (save day (replicate 118 7)).said ≡ record { answer = 23; place = 0; length = 0 }
  pub unsound : (save overused (replicate 130 7)).said ≡ record { answer = 20; place = 0; length = 0 }
  -- a book comes back whole, with what its report said or without one
  pub booked : day ≡ day_whole
  pub back : (load day_saved (roomy 2 2)).lent ≡ day_whole
  pub whole_back : (load unreported_saved (roomy 2 2)).lent ≡ unreported
  pub whole_saved : (save unreported (replicate 119 7)).out ≡ unreported_saved
  -- from the old form message and expected date are unknown where there is a mark; where there is none, nothing is lost
  pub old_back : (load day_old (roomy 2 2)).lent ≡ day_loaded
  pub old_whole : (load unreported_old (roomy 2 2)).lent ≡ unreported
  pub told : told_after day_loaded ≡ unknown_one ∷ unknown_one ∷ (0 ∷ 2 ∷ 0 ∷ 0 ∷ 0 ∷ []) ∷ []
  -- the rooms alone are judged, not what the lent book's counts say
  pub odd_room_law : (load day_saved odd_room).said ≡ record { answer = 20; place = 0 }
  pub any_counts : (load day_saved overused).lent ≡ day_whole
  -- 9,999,999 copies on a line, and one more
  pub most : sums_kept 1 1001 (many_slips 999) ≡ true
  pub over : sums_kept 1 1001 (many_slips 1000) ≡ false

pub computed : Computed
unfolding all any run same among le_at le_bytes belongs all_of of_class padded named number_from leap month_days real_day day_of is_day dated expected_of check_value weighted gs1 isbn series_volume article texts day_count expected keeps layout total fixed_width start_of kind_of first_broken contents is_in rule_in content_rule guarded_ids guarded content_kept groups first_of next_in previous_in group_with next_member previous_member is_wanted group_kept refusal_number refusal_place checked_of ◌then◌ head_of id_in id_of content_width content_of field_width after_field on_head at_field walk judge field_bytes bytes_judged fixed_judged after_walk optional_judged kind_judged judged message_of message_number form_of day_on report_told report_sound mark_byte new_line with_report with_arrivals open_of let_go_of filled_of figures_of reported_of date_at line_at put_in put_arrived report_bytes put_report new_bytes add_line key_at key_is article_at article_is school_at school_is open_at line_sound slip_key_at slip_is slip_line_at slip_copies_at add_slip slip_sound used_lines used_slips line_room slip_room room_sound first_from all_from sum_from sound roster_sound entries account_at account_is ceiling_at find_account standing_at standing find_line find_slip open_copies refused_number refused_place joined key_fields line_key article_fields article_in school_in slip_key copies_in nothing_to_book no_copies no_reference mark_in message_in date_in new_line_judged order_judged slip_judged arrival_judged goods_judged delivery_judged report_judged book_judged on_roster fit_judged line_after lent_after refused_as done_as agreed_at agreed_as entered_as settled book_as book_kind book_read book are_wide figures_at figures_of_key line_asked goods_fields fields_kept report_kept line_kept parties_agree line_index slip_copies slip_kept is_first copies_on arrived_on lines_kept slips_kept sums_kept entries_kept saveNumber line_kind line_body_width unsaved_message unsaved front_of saved_line_width slips_at joined_from line_front_at slip_body_at line_entries slip_entries end_entry formed saved_form saved_width not_saved saved_as save stated_lines stated_slips body_in line_in slip_in all_of_kind in_form is_save_of is_save form_in rooms_sound line_from loaded_line lent_loaded not_loaded load loads byte_loads first_wrong day_with day_saved day_old day_loaded unreported_saved unreported_old told_after
computed = record {
  loading = refl;
  ends = refl;
  saving = refl;
  saying = refl;
  small = refl;
  unsound = refl;
  booked = refl;
  back = refl;
  whole_back = refl;
  whole_saved = refl;
  old_back = refl;
  old_whole = refl;
  told = refl;
  odd_room_law = refl;
  any_counts = refl;
  most = refl;
  over = refl;
}
