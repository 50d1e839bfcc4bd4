-- The cases of the new form and of moving a save hold of the definitions, by computation.
use mathlib.Core.Path.{◌≡◌, refl}
use mathlib.Core.List.{◌++◌}
use lib.ListN.{replicate}
use Rattle.cells.specs.Bytes.{all, any, run, same, among}
use Rattle.cells.specs.Little.{le_at, le_bytes}
use Rattle.cells.specs.Search.{all_from, sum_from}
use Rattle.signs.specs.Class.{belongs, all_of, of_class, padded, named}
use Rattle.rules.specs.Number.{number_from}
use Rattle.rules.specs.Day.{leap, month_days, real_day, day_of, is_day, dated}
use Rattle.rules.specs.Article.{check_value, weighted, gs1, isbn, series_volume, article}
use Rattle.rules.specs.Rule.{texts, day_count, expected, keeps}
use Rattle.record.specs.Layout.{layout, first_broken}
use Rattle.entry.specs.Report.{report_sound}
use Rattle.book.specs.Lent.{line_room, slip_room, room_sound, rooms_sound}
use Rattle.book.specs.Booking.{key_fields, article_fields}
use Rattle.save.specs.Form.{line_kind, line_body_width, unsaved_message, unsaved, front_of, saved_line_width, slips_at}
use Rattle.save.specs.Entries.{goods_fields, fields_kept, report_kept, line_kept, parties_agree, line_index, slip_copies, slip_kept, is_first, copies_on, arrived_on, lines_kept, slips_kept, sums_kept, entries_kept}
use Rattle.save.specs.Saved.{refused_number, joined_from, line_entries, saved_width, not_saved, saved_as, stated_lines, stated_slips, body_in, line_in, slip_in, all_of_kind, in_form, is_save_of, is_save, form_in}
use Rattle.save.specs.Load.{not_loaded, load}
use Rattle.save.specs.Moves.{moved, moved_width, moved_into, to_new, is_numbered, none_numbered, to_old}
use Rattle.save.specs.Cases.{whole, whole_renewed, new_loads, first_wrong, moves_to_new, moves_to_old, first_moved_wrong}

pub record Computed : Type 0 where
  pub loading : first_wrong 1 new_loads ≡ 0
  -- both moves, what they answer and what they write
  pub to_new_law : first_moved_wrong to_new 1 moves_to_new ≡ 0
  pub to_old_law : first_moved_wrong to_old 1 moves_to_old ≡ 0
  pub written_new : (to_new whole (replicate 240 7)).out ≡ whole_renewed ++ replicate 7 7
  pub written_old : (to_old whole_renewed (replicate 220 7)).out ≡ whole ++ replicate 7 7

pub computed : Computed
unfolding all any run same among le_at le_bytes belongs all_of of_class padded named number_from leap month_days real_day day_of is_day dated check_value weighted gs1 isbn series_volume article texts day_count expected keeps layout first_broken report_sound line_room slip_room room_sound rooms_sound all_from sum_from key_fields article_fields line_kind line_body_width unsaved_message unsaved front_of saved_line_width slips_at goods_fields fields_kept report_kept line_kept parties_agree line_index slip_copies slip_kept is_first copies_on arrived_on lines_kept slips_kept sums_kept entries_kept refused_number joined_from line_entries saved_width not_saved saved_as stated_lines stated_slips body_in line_in slip_in all_of_kind in_form is_save_of is_save form_in not_loaded load moved moved_width moved_into to_new is_numbered none_numbered to_old new_loads first_wrong moves_to_new moves_to_old first_moved_wrong
computed = record { loading = refl; to_new_law = refl; to_old_law = refl; written_new = refl; written_old = refl }
