-- Where a record of this kind fits, there is room.
use Rattle.entering.specs.Held.{held}
use Rattle.booking.proofs.Rooms.{report_room}
use Rattle.booking.proofs.ReportEntered.enter.Goals as goal

pub enter_report-requires : goal.enter_report-requires
enter_report-requires c = report_room c.args.report.now.bytes.now (held c.args.book.now) c.args.i c.requires
