-- The types of the program, by their texts.
use Rattle.std.specs.Str.{chars}
use Rattle.litrs_diagnostic.specs.declared.lines.Line as code
use Rattle.litrs_diagnostic.specs.declared.message.Diagnostic.{Diagnostic}
use Rattle.litrs_diagnostic.specs.declared.window.Window as code_window
use Rattle.std.specs.Prelude.{map}
use Rattle.litrs_diagnostic.specs.declared.label.Label as code_label
use Rattle.litrs_diagnostic.specs.declared.remarks.Remark as code_remark
use Rattle.litrs_diagnostic.specs.declared.row.Row as code_row
use Rattle.litrs_diagnostic.specs.Diagnostic.{Message, Remark}
use Rattle.litrs_diagnostic.specs.Label.{LabelOn}
use Rattle.litrs_diagnostic.specs.Line.{Line}
use Rattle.litrs_diagnostic.specs.Row.{Row}
use Rattle.litrs_diagnostic.specs.Window.{Window}

abbrev pub line_of : code.Line → Line
line_of line = record {
  before = chars line.before.now;
  marked = chars line.marked.now;
  after = chars line.after.now;
}

abbrev pub window_of : code_window.Window → Window
window_of window = record {
  before = chars window.before.now;
  marked = chars window.marked.now;
  after = chars window.after.now;
  is_cut_before = window.is_cut_before;
  is_cut_after = window.is_cut_after;
}

abbrev pub row_of : code_row.Row → Row
row_of row = record {
  number = row.number;
  line = window_of row.line;
  mark = row.mark;
  label = row.label.now;
}

abbrev pub label_of : code_label.Label → LabelOn
label_of l = record {
  source = l.source.now;
  start = l.start;
  end = l.end;
  text = l.text.now;
}

abbrev pub remark_of : code_remark.Remark → Remark
remark_of r = record { level = r.level; text = r.text.now }

abbrev pub message_of : Diagnostic → Message
message_of d = record {
  level = d.level;
  name = d.name.now;
  source = d.source.now;
  start = d.start;
  end = d.end;
  message = d.message.now;
  first_line = d.first_line;
  first_column = d.first_column;
  width = d.width;
  label = d.label.now;
  labels = map label_of d.labels.now;
  remarks = map remark_of d.remarks.now;
}
