-- What other crates and the proofs cite, passed on from one place.
pub use Rattle.run_texts.specs.Status.{stop_number, number, end_number}
pub use Rattle.run_texts.specs.Texts.{as_text, stopped_line, mkfs_text}
pub use Rattle.run_texts.specs.Hex.{hex_digit, hex_text}
pub use Rattle.run_texts.specs.Replies.{names_text, reply_text, entry_line, client_lines, reply_lines, is_csum, has_csum, answers_of}
pub use Rattle.run_texts.specs.ReplyIndex.{clients_of, next_place, client_place_from, AreLinked, IsIndexOf}
pub use Rattle.run_texts.specs.StepTexts.{end_status, step_number, fail_lines, end_lines, step_text}
pub use Rattle.run_texts.specs.DumpTexts.{view_line, value_line, value_lines, header_lines, object_lines, coll_lines, walk_lines, is_bad, has_bad_view, last_lines, dump_text, dump_number}
pub use Rattle.run_texts.specs.FsckTexts.{finding_line, finding_lines, count_line, fsck_text, fsck_number}
pub use Rattle.run_texts.specs.Printed.{Output, output, TookAll, TookFront, FailedToPrint, Printed}
pub use Rattle.run_texts.specs.Printing.{Waiting, IsPartWritten, HasStopped, PrintedSoFar, AddsText}
pub use Rattle.run_texts.specs.Dumping.{DumpSoFar, nothing_dumped, AddsLines, AddsWalk}
pub use Rattle.run_texts.specs.Reports.{ReportsStep, ReportsDump, ReportsFsck, ReportsStop, ShowedUsage}
