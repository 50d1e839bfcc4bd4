-- The cases of booking hold of the definitions, by computation.
use mathlib.Core.Path.{◌≡◌, refl}
use Rattle.cells.specs.Bytes.{all, any, run, same, among, joined}
use Rattle.cells.specs.Little.{le_at, le_bytes}
use Rattle.cells.specs.Search.{first_from, all_from, sum_from}
use Rattle.roster.specs.Roster.{entries, roster_sound, account_at, account_is, ceiling_at, find_account, standing_at, standing}
use Rattle.signs.specs.Class.{belongs, all_of, of_class, padded, named}
use Rattle.rules.specs.Number.{number_from}
use Rattle.rules.specs.Day.{leap, month_days, real_day, day_of, is_day, dated}
use Rattle.rules.specs.Values.{expected_of}
use Rattle.rules.specs.Article.{check_value, weighted, gs1, isbn, series_volume, article}
use Rattle.rules.specs.Rule.{texts, day_count, expected, keeps}
use Rattle.record.specs.Layout.{layout, total, fixed_width, start_of, kind_of, first_broken}
use Rattle.record.specs.Contents.{contents, is_in, rule_in, content_rule, guarded_ids, guarded, content_kept, groups, first_of, next_in, previous_in, group_with, next_member, previous_member, is_wanted, group_kept}
use Rattle.record.specs.Answers.{refusal_number, refusal_place, checked_of, ◌then◌}
use Rattle.record.specs.Fields.{head_of, id_in, id_of, content_width, content_of, field_width, after_field, on_head, at_field, walk, judge, entries_of}
use Rattle.record.specs.Values.{field_bytes}
use Rattle.record.specs.Read.{bytes_judged, fixed_judged, after_walk, optional_judged, kind_judged, judged, optional_start, table_after, check}
use Rattle.record.specs.Samples.{X, Y, Z, cases, first_wrong}
use Rattle.record.specs.Edges.{full_table}
use Rattle.entry.specs.Report.{message_of, message_number, form_of, day_on, report_told, report_sound}
use Rattle.entry.specs.Line.{mark_byte, new_line, with_report, with_arrivals, open_of, let_go_of, filled_of, figures_of, reported_of}
use Rattle.entry.specs.Stored.{date_at, line_at, put_in, put_arrived, report_bytes, put_report, new_bytes, add_line, key_at, key_is, article_at, article_is, school_at, school_is, open_at, line_sound, slip_key_at, slip_is, slip_line_at, slip_copies_at, add_slip, slip_sound}
use Rattle.book.specs.Lent.{used_lines, used_slips, line_room, slip_room, room_sound, sound, find_line, find_slip, open_copies, rooms_sound}
use Rattle.book.specs.Booking.{refused_number, refused_place, key_fields, line_key, article_fields, article_in, school_in, slip_key, copies_in, nothing_to_book, no_copies, no_reference, mark_in, message_in, date_in, new_line_judged, order_judged, slip_judged, arrival_judged, goods_judged, delivery_judged, report_judged, book_judged, on_roster, fit_judged, line_after, lent_after, refused_as, done_as, agreed_at, agreed_as, entered_as, settled, book_as, book_kind, book_read, book}
use Rattle.book.specs.Asked.{are_wide, figures_at, figures_of_key, line_asked}
use Rattle.book.specs.Cases.{roomy, schools, with_both, desk, sample, sample_says, others, others_say, says, unsound, answers_to, unsound_says, asked, asked_say}
use Rattle.book.specs.Pairs.{trials, roster_trials, first_wrong as trialWrong}
use Rattle.book.specs.Reports.{tellings, first_untold, begun, states, first_unsaid}
use Rattle.book.specs.Articles.{namings, first_wrong as namingWrong, own_sample}

-- the line that X adds, asked for by its key
calls_by_key : asked (book X schools (roomy 1 1)).lent ≡ asked_say
unfolding all any run same among le_at le_bytes belongs all_of of_class padded named number_from leap month_days real_day day_of is_day dated expected_of check_value weighted gs1 isbn series_volume article texts day_count expected keeps layout total fixed_width start_of kind_of first_broken contents is_in rule_in content_rule guarded_ids guarded content_kept groups first_of next_in previous_in group_with next_member previous_member is_wanted group_kept refusal_number refusal_place checked_of ◌then◌ head_of id_in id_of content_width content_of field_width after_field on_head at_field walk judge field_bytes bytes_judged fixed_judged after_walk optional_judged kind_judged judged message_of message_number form_of day_on report_told report_sound mark_byte new_line with_report with_arrivals open_of let_go_of filled_of figures_of reported_of date_at line_at put_in put_arrived report_bytes put_report new_bytes add_line key_at key_is article_at article_is school_at school_is open_at line_sound slip_key_at slip_is slip_line_at slip_copies_at add_slip slip_sound used_lines used_slips line_room slip_room room_sound rooms_sound first_from all_from sum_from sound roster_sound entries account_at account_is ceiling_at find_account standing_at standing find_line find_slip open_copies refused_number refused_place joined key_fields line_key article_fields article_in school_in slip_key copies_in nothing_to_book no_copies no_reference mark_in message_in date_in new_line_judged order_judged slip_judged arrival_judged goods_judged delivery_judged report_judged book_judged on_roster fit_judged line_after lent_after refused_as done_as agreed_at agreed_as entered_as settled book_as book_kind book_read book are_wide figures_at figures_of_key line_asked asked asked_say
calls_by_key = refl

pub record Computed : Type 0 where
  -- the cases marked P, reading and booking together, as a single table under one claim
  pub samples : first_wrong says 1 cases ≡ 0
  -- the desk's eight lines
  pub desk_sample : desk (roomy 2 4) sample ≡ sample_says
  pub desk_others : desk (roomy 3 5) others ≡ others_say
  pub broken : answers_to Z unsound ≡ unsound_says
  pub keyed : asked (book X schools (roomy 1 1)).lent ≡ asked_say
  -- the book that the pairs begin with is what booking X and Y gives
  pub entered : (book Y schools (book X schools (roomy 1 1)).lent).lent ≡ with_both 1 1
  -- the order of the answers, pair by pair
  pub ordered : trialWrong 1 trials ≡ 0
  -- and with other rosters
  pub rosters : trialWrong 1 roster_trials ≡ 0
  -- articles that agree and that do not, and a day on which the supplier answers with its own number
  pub articles : namingWrong 1 namings ≡ 0
  pub own_numbers : desk (roomy 2 4) own_sample ≡ sample_says
  -- last reports as bookings tell them, and the states of a line that are sound
  pub reports : first_untold 1 begun tellings ≡ 0
  pub reported : first_unsaid 1 states ≡ 0

pub computed : Computed
unfolding all any run same among le_at le_bytes belongs all_of of_class padded named number_from leap month_days real_day day_of is_day dated expected_of check_value weighted gs1 isbn series_volume article texts day_count expected keeps layout total fixed_width start_of kind_of first_broken contents is_in rule_in content_rule guarded_ids guarded content_kept groups first_of next_in previous_in group_with next_member previous_member is_wanted group_kept refusal_number refusal_place checked_of ◌then◌ head_of id_in id_of content_width content_of field_width after_field on_head at_field walk judge field_bytes bytes_judged fixed_judged after_walk optional_judged kind_judged judged entries_of optional_start table_after check full_table cases first_wrong message_of message_number form_of day_on report_told report_sound mark_byte new_line with_report with_arrivals open_of let_go_of filled_of figures_of reported_of date_at line_at put_in put_arrived report_bytes put_report new_bytes add_line key_at key_is article_at article_is school_at school_is open_at line_sound slip_key_at slip_is slip_line_at slip_copies_at add_slip slip_sound used_lines used_slips line_room slip_room room_sound rooms_sound first_from all_from sum_from sound roster_sound entries account_at account_is ceiling_at find_account standing_at standing find_line find_slip open_copies refused_number refused_place joined key_fields line_key article_fields article_in school_in slip_key copies_in nothing_to_book no_copies no_reference mark_in message_in date_in new_line_judged order_judged slip_judged arrival_judged goods_judged delivery_judged report_judged book_judged on_roster fit_judged line_after lent_after refused_as done_as agreed_at agreed_as entered_as settled book_as book_kind book_read book desk sample sample_says others others_say unsound answers_to unsound_says trials roster_trials trialWrong namings namingWrong own_sample are_wide figures_at figures_of_key line_asked tellings first_untold states first_unsaid
computed = record { samples = refl; desk_sample = refl; desk_others = refl; broken = refl; keyed = calls_by_key; entered = refl; ordered = refl; rosters = refl; articles = refl; own_numbers = refl; reports = refl; reported = refl }
