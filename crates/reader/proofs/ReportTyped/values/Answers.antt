-- A record that is judged as a report has a report's fixed part.
use Rattle.reader.proofs.Fitting.{report_wide}
use Rattle.reader.proofs.ReportTyped.values.Goals as goal

pub report_of-requires : goal.report_of-requires
report_of-requires c = report_wide _ _ c.requires.1
